use Rattle.std.proofs.Common.{◌≡◌, ◌<◌, length, ℕ, ◌++◌, List, true, sym, subst, ◌∙◌}
use Rattle.std.specs.Prelude.{IfSome, Option, Some, None}
use Rattle.std.specs.Option.{option_to_list}
use Rattle.std.proofs.lemmas.List.{append-nil}
use Rattle.std.specs.Prelude.{Bool}
use Rattle.xw_net.specs.Worklist.{ListOfLights, is_marked, IsWorklist, IsKeptList}
use Rattle.xw_net.proofs.Lists.ListsOfLights.{marked_below, kept_popped, taken_marked, last_moved}
use Rattle.xw_net.proofs.worklist.Worklist.take_last.Goals as goal

left : (marks : List Bool) (lights places rest : List ℕ) (capacity : ℕ) (last : Option ℕ) → IsKeptList marks lights places capacity → lights ≡ rest ++ option_to_list last → IsKeptList marks rest places capacity
left marks lights places rest capacity (Some light) list is = kept_popped marks lights places capacity list rest light is
left marks lights places rest capacity None list is = subst (λ l. IsKeptList marks l places capacity) (is ∙ append-nil rest) list

last_marked : (marks : List Bool) (lights rest : List ℕ) (room : ℕ) (last : Option ℕ) → IsWorklist marks lights room → lights ≡ rest ++ option_to_list last → IfSome last (λ light. is_marked marks light ≡ true)
last_marked marks lights rest room (Some light) list is = taken_marked marks lights rest room light list (last_moved rest light lights is)
last_marked marks lights rest room None list is = tt

below : (marks : List Bool) (taken : Option ℕ) → IfSome taken (λ light. is_marked marks light ≡ true) → IfSome taken (λ light. light < length marks)
below marks (Some light) on = marked_below marks light on
below marks None on = tt

pub invariant_of-self : goal.invariant_of-self
invariant_of-self c =
    subst (IsKeptList c.self.inside.marks.items c.pop.new.self.items c.self.inside.urgent) (sym c.pop.ensures.capacity)
    (left c.self.inside.marks.items c.self.inside.lights.items c.self.inside.urgent c.pop.new.self.items _ c.pop.result c.self.invariant c.pop.ensures.items)

pub returns-clause-marked : goal.returns-clause-marked
returns-clause-marked c =
    subst (λ (l : ListOfLights). IfSome c.pop.result (λ light. is_marked l.marks light ≡ true)) c.self.view_is
    (last_marked c.self.inside.marks.items c.self.inside.lights.items c.pop.new.self.items _ c.pop.result c.self.invariant.list c.pop.ensures.items)

pub returns-clause-within : goal.returns-clause-within
returns-clause-within c =
    subst (λ (l : ListOfLights). IfSome c.pop.result (λ light. light < length l.marks)) c.self.view_is
    (below c.self.inside.marks.items c.pop.result (last_marked c.self.inside.marks.items c.self.inside.lights.items c.pop.new.self.items _ c.pop.result c.self.invariant.list c.pop.ensures.items))
