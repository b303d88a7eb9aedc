use Rattle.std.proofs.Common.{◌≡◌, false, length, get_or, sym, ap, ◌∙◌, subst, inl, inr, arith}
use Rattle.std.proofs.lemmas.Bool.{cases_lt}
use Rattle.xw_feas.specs.Board.{light_at}
use Rattle.xw_net.specs.Marks.{IsSetting, slot_at}
use Rattle.xw_net.specs.Nets.{HasBits, pending_in, queued_in}
use Rattle.xw_net.specs.Steps.{IsStruckAt, StrikesOn}
use Rattle.xw_net.proofs.Stripping.LeftByStripping.{left_left}
use Rattle.xw_net.proofs.Levels.StruckLights.{struck_twice}
use Rattle.xw_net.proofs.net.Net.strike_light.Goals as goal

pub is_clear-requires : goal.is_clear-requires
is_clear-requires g c = omega (arith, (c.at-here.ensures.there c.args.board.now c.of-positions.ensures.positions).in_slots, c.loop-position.invariant.shaped.pending)

pub strike_position-requires-clause-net : goal.strike_position-requires-clause-net
strike_position-requires-clause-net g c =
    record {
      shaped = c.loop-position.invariant.shaped;
      bits = subst (λ e. HasBits c.args.board.now e c.loop-position.self) (sym c.loop-position.invariant.same) c.loop-position.invariant.bits;
    }

pub strike_position-requires-clause-there : goal.strike_position-requires-clause-there
strike_position-requires-clause-there g c = c.at-here.ensures.there c.args.board.now c.of-positions.ensures.positions

pub loop-position-preserved-then-is_clear : goal.loop-position-preserved-then-is_clear
loop-position-preserved-then-is_clear g c =
    let inv = c.loop-position.invariant in
    let board = c.args.board.now in
    let here = c.at-here.result in
    let light_is : here.light ≡ c.args.light = c.at-here.ensures.light ∙ c.of-positions.ensures.light in
    let slot_is : here.slot ≡ slot_at board c.args.light c.loop-position.position =
    (c.at-here.ensures.there board c.of-positions.ensures.positions).slot ∙ ap (λ n. slot_at board n here.position) light_is ∙ ap (slot_at board c.args.light) c.at-here.ensures.position in
    record {
      same = inv.same;
      risen = inv.risen;
      rest = inv.rest;
      shaped = inv.shaped;
      bits = inv.bits;
      letters = inv.letters;
      held = inv.held;
      queue = inv.queue;
      cleared = λ position letter lt.
          elim (cases_lt position c.loop-position.position) [
            | inl before ↦ inv.cleared position letter before
            | inr from ↦
                let is : position ≡ c.loop-position.position = omega arith in
                ap (λ n. pending_in c.loop-position.self (slot_at board c.args.light n) letter) is ∙ ap (λ s. pending_in c.loop-position.self s letter) (sym slot_is) ∙ c.is_clear.ensures c.if-is_clear.true letter
          ];
      less = inv.less;
      only = inv.only;
      kept = inv.kept;
    }

pub loop-position-preserved : goal.loop-position-preserved
unfolding queued_in
loop-position-preserved g c =
    let inv = c.loop-position.invariant in
    let k = c.strike_position in
    let board = c.args.board.now in
    let here = c.at-here.result in
    let last = c.loop-position.self in
    let new = c.strike_position.new.self in
    let light_is : here.light ≡ c.args.light = c.at-here.ensures.light ∙ c.of-positions.ensures.light in
    let slot_is : slot_at board here.light here.position ≡ slot_at board c.args.light c.loop-position.position =
    ap (λ n. slot_at board n here.position) light_is ∙ ap (slot_at board c.args.light) c.at-here.ensures.position in
    record {
      same = k.ensures.entries ∙ inv.same;
      risen = omega (arith, inv.risen, k.ensures.risen);
      rest = left_left inv.rest k.ensures.step.rest;
      shaped = k.ensures.step.shaped;
      bits = subst (λ e. HasBits c.args.board.now e c.strike_position.new.self) inv.same k.ensures.step.bits;
      letters = k.ensures.struck.letters ∙ inv.letters;
      held = k.ensures.struck.held ∙ inv.held;
      queue = k.ensures.struck.queue ∙ inv.queue;
      cleared = λ position letter lt.
          elim (cases_lt position c.loop-position.position) [
            | inl before ↦ k.ensures.less (slot_at board c.args.light position) letter (inv.cleared position letter before)
            | inr from ↦
                let is : position ≡ c.loop-position.position = omega arith in
                ap (λ n. pending_in new (slot_at board c.args.light n) letter) is ∙ ap (λ s. pending_in new s letter) (sym slot_is) ∙ k.ensures.cleared letter
          ];
      less = λ slot letter gone. k.ensures.less slot letter (inv.less slot letter gone);
      only = struck_twice c.args.light c.args.self.now last new inv.only (subst (λ n. IsStruckAt n last new) light_is k.ensures.only);
      kept = λ dictionary measure setting queued in_set under.
          subst (λ n. StrikesOn board (g.R.Rows.entries c.loop-position.rows) n last (g.R.Rows.ticks c.loop-position.rows) new (g.R.Rows.ticks c.strike_position.new.rows)) light_is k.ensures.kept
          dictionary measure (subst (λ e. IsSetting c.args.board.now e dictionary) (sym inv.same) setting)
          (ap (λ list. get_or list.marks c.args.light false) inv.queue ∙ queued) in_set (inv.kept dictionary measure setting queued in_set under);
    }

pub returns-clause-cleared : goal.returns-clause-cleared
returns-clause-cleared g c position letter here =
    let of = c.of-positions.ensures in
    c.loop-position.invariant.cleared position letter
    (omega (arith, here.1, c.len-position-end.ensures, ap length of.positions.cells, ap (λ n. length (light_at c.args.board.now n)) of.light))
