use Rattle.std.proofs.Common.{◌≡◌, ◌+◌, ◌-◌, ◌*◌, ◌<◌, false, length, get_or, sym, ap, subst, ◌∙◌, inl, inr, arith}
use Rattle.std.proofs.lemmas.Bool.{cases_eq, both_ways, false_from_ne_true}
use Rattle.xw_feas.specs.Board.{light_at}
use Rattle.xw_feas.specs.Flags.{set_has}
use Rattle.xw_net.specs.Marks.{IsPositionIn, slot_at}
use Rattle.xw_net.specs.Renumber.{same_before}
use Rattle.xw_net.specs.Inner.Forget.{lose, lost_from, nowhere}
use Rattle.xw_net.specs.Change.{before_of, word_of}
use Rattle.xw_net.proofs.Revivals.Forgetting.{forgets_nothing}
use Rattle.xw_net.proofs.forget.forget_lights.Goals as goal

pub loop-light-preserved : goal.loop-light-preserved
loop-light-preserved g c =
    let inv = c.loop-light.invariant in
    let lost = c.forget_light.ensures in
    let within : c.loop-light.light < length c.args.board.now.lights = omega (arith, c.loop-light-test.true, c.light_count-light-end.ensures) in
    record {
      held = lost.held ∙ inv.held;
      pending = lost.pending ∙ inv.pending;
      cuts = λ light position letter before here capital. elim (cases_eq light c.loop-light.light) [
        | inl e ↦
            let position_here = subst (λ n. IsPositionIn c.args.board.now n position) e here in
            subst (λ n. get_or c.forget_light.new.held (26 * slot_at c.args.board.now n position + (letter - 65)) 0 ≡ lose (lost_from (word_of c.args.change.now) (same_before (before_of c.args.lights.now c.args.change.now) c.args.lights.now n) (length (light_at c.args.board.now n)) (length (g.R.Rows.entries c.args.rows.now (length (light_at c.args.board.now n))))) (get_or c.args.held.now (26 * slot_at c.args.board.now n position + (letter - 65)) 0)) (sym e)
            (lost.cuts position letter position_here.1 capital
            ∙ ap (λ first. lose first (get_or c.loop-light.held (26 * slot_at c.args.board.now c.loop-light.light position + (letter - 65)) 0)) c.lost_of-first.ensures
            ∙ ap (lose (lost_from (word_of c.args.change.now) (same_before (before_of c.args.lights.now c.args.change.now) c.args.lights.now c.loop-light.light) (length (light_at c.args.board.now c.loop-light.light)) (length (g.R.Rows.entries c.args.rows.now (length (light_at c.args.board.now c.loop-light.light)))))) (inv.left c.loop-light.light position letter (omega arith) position_here capital))
        | inr other ↦
            lost.others (slot_at c.args.board.now light position) letter (λ position' lt at. other (sym (c.requires.apart c.loop-light.light position' light position (within, lt) here at).0)) capital
            ∙ inv.cuts light position letter (omega arith) here capital
      ];
      left = λ light position letter past here capital.
          lost.others (slot_at c.args.board.now light position) letter (λ position' lt at. let same = (c.requires.apart c.loop-light.light position' light position (within, lt) here at).0 in absurd (omega (arith, same, past))) capital
          ∙ inv.left light position letter (omega arith) here capital;
      less = λ slot letter has. inv.less slot letter (lost.less slot letter has);
      cleared = λ light position letter before here below. elim (cases_eq light c.loop-light.light) [
        | inl e ↦
            subst (λ n. set_has c.forget_light.new.pending (slot_at c.args.board.now n position) letter ≡ false) (sym e)
            (lost.cleared position letter (subst (λ first. first < nowhere) (sym c.lost_of-first.ensures) (subst (λ n. lost_from (word_of c.args.change.now) (same_before (before_of c.args.lights.now c.args.change.now) c.args.lights.now n) (length (light_at c.args.board.now n)) (length (g.R.Rows.entries c.args.rows.now (length (light_at c.args.board.now n)))) < nowhere) e below)) (subst (λ n. IsPositionIn c.args.board.now n position) e here).1)
        | inr other ↦
            false_from_ne_true _ (λ has. both_ways _ (inv.cleared light position letter (omega arith) here below) (lost.less (slot_at c.args.board.now light position) letter has))
      ];
    }

pub returns-then-forgets_none : goal.returns-then-forgets_none
returns-then-forgets_none g c =
    forgets_nothing c.args.board.now _ c.args.held.now c.args.pending.now (λ light within. c.forgets_none.ensures c.args.board.now c.args.lights.now c.if-forgets_none.true light within c.requires.lights)
