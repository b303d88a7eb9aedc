-- What a search does with its placements.
use Rattle.std.specs.Prelude.{◌≡◌, ℕ, ◌+◌, ◌≤◌}
use Rattle.xw_feas.specs.State.{State}
use Rattle.xw_search.specs.declared.allowance.Allowance.{Allowance}

-- A search counts its placements: it takes none back and keeps their limit. If it made none, it entered nothing.
pub record IsCounted (from to : Allowance) (before after : State) : Type 0 where
  pub made : from.made ≤ to.made
  pub limit : to.limit ≡ from.limit
  pub idle : to.made ≡ from.made → after ≡ before

-- An engine has placed as many words and letters as were counted. The numbers are what it had placed before and after.
abbrev pub HasPlaced : Allowance → Allowance → ℕ → ℕ → Type 0
HasPlaced from to before after = after + from.made ≡ before + to.made

-- an engine has placed no more words and letters than were counted
abbrev pub HasPlacedWithin : Allowance → Allowance → ℕ → ℕ → Type 0
HasPlacedWithin from to before after = after + from.made ≤ before + to.made
