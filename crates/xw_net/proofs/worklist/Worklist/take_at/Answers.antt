use Rattle.std.proofs.Common.{◌≡◌, ◌<◌, ◌≤◌, length, ℕ, ◌∷◌, List, [], true, false, get_or, set, ap, sym, subst, ◌∙◌, arith}
use Rattle.std.specs.Prelude.{IfSome, IfNone, Option, Some, None, Bool}
use Rattle.std.specs.List.Sorted.{IsPermutation}
use Rattle.xw_net.specs.Worklist.{ListOfLights, is_marked, is_waiting, IsWorklist, IsKeptList, IsTakenFrom}
use Rattle.xw_net.proofs.Lists.ListsOfLights.{marked_below, kept_taken, kept_empty, taken_marked, taken_once}
use Rattle.xw_net.proofs.worklist.Worklist.take_at.Goals as goal

module _ (marks : List Bool) (lights rest : List ℕ) where
  stays : (places places' : List ℕ) (capacity from : ℕ) (taken : Option ℕ) → IsKeptList marks lights places capacity → IfSome taken (λ light. IsPermutation lights (light ∷ rest)) → IfSome taken (λ light. IsTakenFrom lights rest from) → IfNone taken (rest ≡ [])
      → (from < length rest → places' ≡ set places (get_or rest from 0) from) → (length rest ≤ from → places' ≡ places) → IsKeptList marks rest places' capacity
  stays places places' capacity from (Some light) kept moved is left noted same = kept_taken marks lights places capacity kept rest places' light from moved is noted same
  stays places places' capacity from None kept moved is left noted same =
      let as_before : places' ≡ places = same (omega (arith, ap length left)) in
      subst (λ l. IsKeptList marks rest l capacity) (sym as_before) (kept_empty marks rest places capacity left kept.list.roomy kept.held)

  is_on : (room : ℕ) (taken : Option ℕ) → IsWorklist marks lights room → IfSome taken (λ light. IsPermutation lights (light ∷ rest)) → IfSome taken (λ light. is_marked marks light ≡ true)
  is_on room (Some light) list moved = taken_marked marks lights rest room light list moved
  is_on room None list moved = tt

  is_gone : (room : ℕ) (taken : Option ℕ) → IsWorklist marks lights room → IfSome taken (λ light. IsPermutation lights (light ∷ rest)) → IfSome taken (λ light. is_waiting rest light ≡ false)
  is_gone room (Some light) list moved = taken_once marks lights rest room light list moved
  is_gone room None list moved = tt

below : (marks : List Bool) (taken : Option ℕ) → IfSome taken (λ light. is_marked marks light ≡ true) → IfSome taken (λ light. light < length marks)
below marks (Some light) on = marked_below marks light on
below marks None on = tt

pub invariant_of-self : goal.invariant_of-self
invariant_of-self c =
    let t = c.take_from-taken.ensures in
    let rest = c.take_from-taken.new.lights.items in
    let from = c.next_place-from.result in
    let same : c.next_place-from.new.self ≡ c.self.inside.urgent = c.next_place-from.ensures.same in
    let here : c.deref-2.result.now ≡ c.take_from-taken.new.lights.items = c.deref-2.ensures.value in
    subst (IsKeptList c.self.inside.marks.items c.take_from-taken.new.lights.items c.note_moved.new.self) (sym t.capacity)
    (stays c.self.inside.marks.items c.self.inside.lights.items rest c.self.inside.urgent c.note_moved.new.self _ from c.take_from-taken.result c.self.invariant t.taken t.moved t.left
    (λ lt. c.note_moved.ensures.there (subst (λ (l : List ℕ). c.next_place-from.result < length l) (sym here) lt)
    ∙ ap (λ p. set p (get_or c.deref-2.result.now c.next_place-from.result 0) c.next_place-from.result) same
    ∙ ap (λ (l : List ℕ). set c.self.inside.urgent (get_or l c.next_place-from.result 0) c.next_place-from.result) here)
    (λ past. c.note_moved.ensures.past (subst (λ (l : List ℕ). length l ≤ c.next_place-from.result) (sym here) past) ∙ same))

pub returns-clause-marked : goal.returns-clause-marked
returns-clause-marked c =
    subst (λ (l : ListOfLights). IfSome c.take_from-taken.result (λ light. is_marked l.marks light ≡ true)) c.self.view_is
    (is_on c.self.inside.marks.items c.self.inside.lights.items c.take_from-taken.new.lights.items _ c.take_from-taken.result c.self.invariant.list c.take_from-taken.ensures.taken)

pub returns-clause-once : goal.returns-clause-once
returns-clause-once c =
    is_gone c.self.inside.marks.items c.self.inside.lights.items c.take_from-taken.new.lights.items _ c.take_from-taken.result c.self.invariant.list c.take_from-taken.ensures.taken

pub returns-clause-within : goal.returns-clause-within
returns-clause-within c =
    subst (λ (l : ListOfLights). IfSome c.take_from-taken.result (λ light. light < length l.marks)) c.self.view_is
    (below c.self.inside.marks.items c.take_from-taken.result (is_on c.self.inside.marks.items c.self.inside.lights.items c.take_from-taken.new.lights.items _ c.take_from-taken.result c.self.invariant.list c.take_from-taken.ensures.taken))
