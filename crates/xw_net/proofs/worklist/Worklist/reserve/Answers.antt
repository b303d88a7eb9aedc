use Rattle.std.proofs.Common.{◌≤◌, ℕ, List, length, inl, inr, ap, sym, subst, arith}
use Rattle.std.specs.Prelude.{vec_capacity}
use Rattle.xw_net.specs.Worklist.{IsKeptList}
use Rattle.xw_net.proofs.Lists.ListsOfLights.{kept_longer}
use Rattle.xw_net.proofs.worklist.Worklist.reserve.Goals as goal

held : (g : goal.After-reserve) → length g.reserve.new.self ≤ vec_capacity g.reserve_exact.new.self
held c = elim c.reserve.ensures.few [
  | inl few ↦ omega (arith, few, c.in_ok-reserve_exact.ensures.ok, c.reserve_exact.ensures.len, c.saturating_sub.ensures, c.len.ensures)
  | inr same ↦ omega (arith, ap length same, c.self.invariant.held, c.reserve_exact.ensures.capacity)
]

pub invariant_of-self-2 : goal.invariant_of-self-2
invariant_of-self-2 c =
    subst (λ (l : List ℕ). IsKeptList c.self.inside.marks.items l c.reserve.new.self (vec_capacity c.reserve_exact.new.self)) (sym c.reserve_exact.ensures.items)
    (kept_longer c.self.inside.marks.items c.self.inside.lights.items c.self.inside.urgent _ c.self.invariant c.reserve.new.self _ c.reserve.ensures.kept c.reserve.ensures.longer (held c))
