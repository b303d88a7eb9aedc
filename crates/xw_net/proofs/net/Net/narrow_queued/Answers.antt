use Rattle.std.proofs.Common.{◌≡◌, ◌≢◌, true, sym, ap, ◌∙◌, subst, inl, inr, arith}
use Rattle.std.proofs.lemmas.Bool.{cases_eq, both_ways}
use Rattle.xw_net.specs.Entered.{IsNarrowedTo, IsNarrowedIn}
use Rattle.xw_net.specs.Update.{IsSized}
use Rattle.xw_net.specs.Worklist.{ListOfLights, is_marked}
use Rattle.xw_net.specs.declared.net.Net.{Net}
use Rattle.xw_net.proofs.Levels.NarrowedLights.{unchanged_after, narrowed_in_after, narrowed_from}
use Rattle.xw_net.proofs.net.Net.narrow_queued.Goals as goal

pub loop-light-preserved : goal.loop-light-preserved
loop-light-preserved g c =
    let inv = c.loop-light.invariant in
    let k = c.narrow_light.ensures in
    let board = c.args.board.now in
    let grid = c.args.search.grid.now in
    let written = c.args.search.written.now in
    let entries = g.R.Rows.entries c.args.rows.now in
    let old = c.args.self.now in
    let mid = c.loop-light.self in
    let new = c.narrow_light.new.self in
    let at = c.loop-light.light in
    let queue : mid.queue ≡ old.queue = ap (λ (n : Net). n.queue) inv.rest in
    let on_queue : is_marked old.queue.marks at ≡ true = ap (λ (l : ListOfLights). is_marked l.marks at) (sym queue) ∙ sym c.contains.ensures ∙ c.if-not-contains.false in
    record {
      same = k.entries ∙ inv.same;
      back = λ before way. k.back before (inv.back before way);
      sized = subst (λ e. IsSized board e new) inv.same k.sized;
      room = record { rows = λ light. omega (arith, inv.room.rows light, k.room.rows light); base = λ light. omega (arith, inv.room.base light, k.room.base light) };
      rest = k.rest ∙ ap (λ (n : Net). record n { rows = new.rows; base = new.base; entered = new.entered }) inv.rest;
      on = λ light lt marked. elim (cases_eq light at) [
        | inl e ↦
            subst (λ n. IsNarrowedIn grid board entries written n old new) (sym e) (record {
              filled = c.only_new-filled.result;
              only = c.only_new-filled.ensures;
              narrowed = narrowed_from board entries c.only_new-filled.result at old mid new (inv.off at (inr (omega arith))) (subst (λ e. IsNarrowedTo board e c.only_new-filled.result at mid new) inv.same c.in_ok-narrow_light.ensures.here);
            })
        | inr apart ↦ narrowed_in_after grid board entries written light old mid new (inv.on light (omega (arith, lt, apart)) marked) (k.others light apart)
      ];
      off = λ light off.
          let apart : light ≢ at = λ e. elim off [
            | inl none ↦ both_ways (is_marked old.queue.marks light) none (ap (is_marked old.queue.marks) e ∙ on_queue)
            | inr past ↦ omega (arith, past, e)
          ] in
          unchanged_after light old mid new (inv.off light (elim off [ inl none ↦ inl none | inr past ↦ inr (omega (arith, past)) ])) (k.others light apart);
    }
