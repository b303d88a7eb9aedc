use Rattle.std.proofs.Common.{◌≡◌, ◌+◌, true, false, None, Some, length, length-set, get_or, set, refl, sym, ◌∙◌, ap, subst, arith, add-one}
use Rattle.std.proofs.lemmas.Bool.{or_from}
use Rattle.std.proofs.lemmas.List.{get_or-replicate}
use Rattle.xw_search.specs.Position.{position_of}
use Rattle.xw_search.specs.Lights.{is_repeat, light_count, is_entered}
use Rattle.xw_search.specs.Linked.{size_of, last_of_size, AreLinked}
use Rattle.xw_search.proofs.BelowLemmas.{any_below-from}
use Rattle.xw_search.proofs.RepeatLemmas.{not_repeat}
use Rattle.xw_search.proofs.LinkLemmas.{AreLast, linked-pass, linked-put, last-pass, last-put}
use Rattle.xw_search.proofs.repeats.has_repeat.Goals as goal
use Rattle.xw_search.proofs.repeats.has_repeat.Goals.{then-is_entered+else-is_repeat, else-is_entered}

pub loop-light-init : goal.loop-light-init
loop-light-init g c = record {
  none = refl;
  long = omega (arith, c.in_ok-earlier.ensures.len, c.in_ok-earlier.earlier.ok, c.light_count.ensures);
  linked = λ other below. absurd (omega arith);
  sizes = refl;
  last = λ size within. get_or-replicate 256 size None None within;
}

pub returns-then-is_repeat : goal.returns-then-is_repeat
returns-then-is_repeat g c =
    let position = position_of (g.E.Feasible.state c.args.engine.now) in
    sym (any_below-from (is_repeat position) (light_count position) c.loop-light.light (omega (arith, c.loop-light-test.true, c.light_count-light-end.ensures)) (sym c.is_repeat.ensures ∙ c.if-is_repeat.true))

pub loop-light-preserved : goal.loop-light-preserved
loop-light-preserved g c =
    let position = position_of (g.E.Feasible.state c.args.engine.now) in
    let light = c.loop-light.light in
    let earlier = c.loop-light.earlier.items in
    let so_far = c.loop-light.invariant in
    elim c.if-is_entered.branch [
      | then-is_entered+else-is_repeat w ↦
          let own = w.size-size.result in
          let entered : is_entered position light ≡ true = sym c.is_entered.ensures ∙ w.if-is_entered.true in
          let before : get_or c.loop-light.last own None ≡ last_of_size position (size_of position light) light = so_far.last own (omega (arith, w.size-size.ensures.short, so_far.sizes)) ∙ ap (λ n. last_of_size position n light) w.size-size.ensures.size in
          let items : c.if-is_entered.earlier.items ≡ set earlier light (get_or c.loop-light.last own None) = ap (λ v. v.items) w.earlier-is in
          record {
            none = rw add-one (or_from _ _ so_far.none (sym w.is_repeat.ensures ∙ w.if-is_repeat.false));
            long = ap length items ∙ length-set earlier light (get_or c.loop-light.last own None) ∙ so_far.long;
            linked = subst (AreLinked position (light + 1)) (sym items) (linked-put position light earlier (get_or c.loop-light.last own None) before (omega (arith, so_far.long, c.loop-light-test.true, c.light_count-light-end.ensures)) so_far.linked);
            sizes = ap length w.last-is ∙ length-set c.loop-light.last own (Some light) ∙ so_far.sizes;
            last = subst (AreLast position (light + 1)) (sym w.last-is) (last-put position light own c.loop-light.last entered w.size-size.ensures.size (omega (arith, w.size-size.ensures.short, so_far.sizes)) so_far.last);
          }
      | else-is_entered w ↦
          let gap : is_entered position light ≡ false = sym c.is_entered.ensures ∙ w.if-is_entered.false in
          let items : c.if-is_entered.earlier.items ≡ earlier = ap (λ v. v.items) w.earlier-is in
          record {
            none = rw add-one (or_from _ _ so_far.none (not_repeat position light gap));
            long = ap length items ∙ so_far.long;
            linked = subst (AreLinked position (light + 1)) (sym items) (linked-pass position light earlier gap so_far.linked);
            sizes = ap length w.last-is ∙ so_far.sizes;
            last = subst (AreLast position (light + 1)) (sym w.last-is) (last-pass position light c.loop-light.last gap so_far.last);
          }
    ]
