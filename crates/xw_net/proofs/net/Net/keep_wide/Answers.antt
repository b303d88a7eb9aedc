use Rattle.std.proofs.Common.{◌≡◌, length, sym, ap, ◌∙◌, subst, inl, inr, arith}
use Rattle.std.proofs.lemmas.Bool.{cases_lt}
use Rattle.xw_words.specs.Dictionary.{Dictionary}
use Rattle.xw_feas.specs.Board.{light_at}
use Rattle.xw_net.specs.Marks.{IsSetting, IsHeld, cell_at}
use Rattle.xw_net.specs.Nets.{HasBits, marks_of, letter_stands}
use Rattle.xw_net.specs.Seen.{AreSeen}
use Rattle.xw_net.specs.Steps.{ArePositionHeld, ChecksOn}
use Rattle.xw_net.proofs.Stripping.DroppedLetters.{struck_struck, words_struck, held_struck}
use Rattle.xw_net.proofs.Stripping.HeldWords.{same_holding}
use Rattle.xw_net.proofs.Stripping.LeftByStripping.{left_left}
use Rattle.xw_net.proofs.Stripping.StepsKeepInvariant.{same_stays}
use Rattle.xw_net.proofs.net.Net.keep_wide.Goals as goal

pub keep_found-requires-clause-there : goal.keep_found-requires-clause-there
keep_found-requires-clause-there g c = c.at.ensures.there c.args.board.now c.of-positions.ensures.positions

pub loop-position-preserved : goal.loop-position-preserved
loop-position-preserved g c =
    let inv = c.loop-position.invariant in
    let k = c.keep_found.ensures in
    let board = c.args.board.now in
    let light = c.args.light in
    let here = c.at.result in
    let light_is : here.light ≡ light = c.at.ensures.light ∙ c.of-positions.ensures.light in
    let entries = g.R.Rows.entries c.loop-position.rows in
    let held : ArePositionHeld board entries c.keep_found.new.self light c.loop-position.position =
    subst (λ n. ArePositionHeld board entries c.keep_found.new.self light n) c.at.ensures.position (subst (λ n. ArePositionHeld board entries c.keep_found.new.self n here.position) light_is k.held) in
    let last = c.loop-position.self in
    let new = c.keep_found.new.self in
    let move = λ (dictionary : Dictionary) (setting : IsSetting c.args.board.now (g.R.Rows.entries c.args.rows.now) dictionary). subst (λ e. IsSetting c.args.board.now e dictionary) (sym inv.entries) setting in
    record {
      entries = k.entries ∙ inv.entries;
      risen = omega (arith, inv.risen, k.risen);
      seen = subst (λ e. AreSeen board e c.keep_found.new.seen) inv.entries k.seen;
      shaped = k.step.shaped;
      bits = subst (λ e. HasBits board e new) inv.entries k.step.bits;
      rest = left_left inv.rest k.step.rest;
      same = struck_struck c.args.self.now last new inv.same k.same;
      fewer = omega (arith, inv.fewer, k.check.fewer);
      waits = λ other w. k.check.waits other (inv.waits other w);
      pending = λ slot letter pends. elim (k.check.pending slot letter pends) [ inl before ↦ inv.pending slot letter before | inr at ↦ inr at ];
      held = λ position lt dictionary setting letter stands.
          elim (cases_lt position c.loop-position.position) [
            | inl before ↦
                same_stays board dictionary setting.apart (marks_of last) (marks_of new) (words_struck last new k.same) (held_struck last new k.same) light position letter
                (inv.held position before dictionary setting letter (k.alive (cell_at board light position) letter stands))
            | inr from ↦
                let is : c.loop-position.position ≡ position = omega (arith, lt, from) in
                subst (λ n. IsHeld c.args.board.now dictionary (marks_of c.keep_found.new.self) c.args.light n letter) is
                (held dictionary (move dictionary setting) letter (ap (λ n. letter_stands c.keep_found.new.self (cell_at c.args.board.now c.args.light n) letter) is ∙ stands))
          ];
      kept = λ ticks dictionary measure setting in_set under.
          subst (λ n. ChecksOn board entries n last ticks new ticks) light_is (k.kept ticks) dictionary measure (move dictionary setting) in_set (inv.kept ticks dictionary measure setting in_set under);
    }

pub returns-clause-check : goal.returns-clause-check
returns-clause-check g c =
    let inv = c.loop-position.invariant in
    record {
      fewer = inv.fewer;
      waits = inv.waits;
      holding = λ dictionary setting. same_holding c.args.board.now dictionary (marks_of c.args.self.now) (marks_of c.loop-position.self) (held_struck c.args.self.now c.loop-position.self inv.same);
      pending = inv.pending;
    }

pub returns-clause-held : goal.returns-clause-held
returns-clause-held g c dictionary setting position letter here stands =
    c.loop-position.invariant.held position
    (omega (arith, here.1, c.loop-position-test.false, c.len-position-end.ensures, ap length c.of-positions.ensures.positions.cells, ap (λ n. length (light_at c.args.board.now n)) c.of-positions.ensures.light)) dictionary setting letter stands
