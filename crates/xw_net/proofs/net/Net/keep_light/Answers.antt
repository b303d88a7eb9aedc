use Rattle.std.proofs.Common.{◌≡◌, ◌<◌, Bool, List, false, get_or, length, sym, ap, ◌∙◌, subst, inl, inr, arith}
use Rattle.std.proofs.lemmas.Bool.{cases_lt}
use Rattle.std.proofs.lemmas.List.{get_or_default}
use Rattle.xw_words.specs.Dictionary.{Dictionary}
use Rattle.xw_net.specs.Marks.{IsSetting, IsHeld, cell_at, known}
use Rattle.xw_net.specs.Marks.IsHeld.{by_entered}
use Rattle.xw_net.specs.Nets.{HasBits, marks_of, letter_stands}
use Rattle.xw_net.proofs.Stripping.LeftByStripping.{left_left}
use Rattle.xw_net.proofs.Stripping.WordsByNumber.{entered_is, bits_known}
use Rattle.xw_net.proofs.net.Net.keep_light.Goals as goal

pub keep_position-requires-clause-net : goal.keep_position-requires-clause-net
keep_position-requires-clause-net g c =
    record {
      shaped = c.loop-position.invariant.shaped;
      bits = subst (λ e. HasBits c.args.board.now e c.loop-position.self) (sym c.loop-position.invariant.same) c.loop-position.invariant.bits;
    }

pub keep_position-requires-clause-open : goal.keep_position-requires-clause-open
keep_position-requires-clause-open g c =
    let flags = c.args.self.now.entered.items in
    let within : c.args.light < length flags = omega (arith, c.requires.light, c.requires.net.shaped.entered) in
    ap (λ (flags : List Bool). get_or flags c.args.light false) c.loop-position.invariant.entered
    ∙ sym (get_or_default flags c.args.light c.index.result.now false within) ∙ sym c.index.ensures ∙ c.if-index.false

pub loop-position-preserved : goal.loop-position-preserved
loop-position-preserved g c =
    let inv = c.loop-position.invariant in
    let k = c.keep_position in
    let board = c.args.board.now in
    let move = λ (dictionary : Dictionary) (setting : IsSetting c.args.board.now (g.R.Rows.entries c.args.rows.now) dictionary). subst (λ e. IsSetting c.args.board.now e dictionary) (sym inv.same) setting in
    record {
      entered = k.ensures.entered ∙ inv.entered;
      same = k.ensures.entries ∙ inv.same;
      risen = omega (arith, inv.risen, k.ensures.risen);
      rest = left_left inv.rest k.ensures.step.rest;
      shaped = k.ensures.step.shaped;
      bits = subst (λ e. HasBits c.args.board.now e c.keep_position.new.self) inv.same k.ensures.step.bits;
      fewer = omega (arith, inv.fewer, k.ensures.check.fewer);
      waits = λ other w. k.ensures.check.waits other (inv.waits other w);
      held = λ dictionary setting position letter here lt alive.
          elim (cases_lt position c.loop-position.position) [
            | inl before ↦ k.ensures.stays dictionary (move dictionary setting) position letter here (inv.held dictionary setting position letter here before) alive
            | inr from ↦
                let is : c.loop-position.position ≡ position = omega (arith, lt, from) in
                subst (λ n. IsHeld c.args.board.now dictionary (marks_of c.keep_position.new.self) c.args.light n letter) is
                (k.ensures.held dictionary (move dictionary setting) letter (ap (λ n. letter_stands c.keep_position.new.self (cell_at c.args.board.now c.args.light n) letter) is ∙ alive))
          ];
      pending = λ slot letter pends. elim (k.ensures.check.pending slot letter pends) [ inl before ↦ inv.pending slot letter before | inr at ↦ inr at ];
      holding = λ dictionary setting holding. k.ensures.check.holding dictionary (move dictionary setting) (inv.holding dictionary setting holding);
      kept = λ dictionary measure setting in_set under. k.ensures.kept dictionary measure (move dictionary setting) in_set (inv.kept dictionary measure setting in_set under);
    }

pub returns-clause-held : goal.returns-clause-held
returns-clause-held g c dictionary setting position letter here alive =
    c.loop-position.invariant.held dictionary setting position letter here (omega (arith, here.1, c.len-position-end.ensures, ap length c.light.ensures.cells)) alive

pub returns-then-index-clause-held : goal.returns-then-index-clause-held
returns-then-index-clause-held g c dictionary setting position letter here alive =
    let old = c.args.self.now in
    let i = c.args.light in
    let within : i < length old.entered.items = omega (arith, c.requires.light, c.requires.net.shaped.entered) in
    by_entered (entered_is old i (known c.args.board.now dictionary i) (bits_known c.args.board.now (g.R.Rows.entries c.args.rows.now) dictionary setting old c.requires.net.bits i c.requires.light)
    ∙ sym (get_or_default old.entered.items i c.index.result.now false within) ∙ sym c.index.ensures ∙ c.if-index.true)
