-- What each answer of a search for a fill means.
use Rattle.std.specs.Prelude.{◌≡◌, ℕ, ◌<◌, ◌≤◌, Bool, true, false, cond, List, Option, Some, None}
use Rattle.xw_feas.specs.State.{State}
use Rattle.xw_search.specs.Position.{Position, position_of, filled_in}
use Rattle.xw_fill.specs.Fill.{IsFill}
use Rattle.xw_search.specs.Below.{any_below}
use Rattle.xw_search.specs.Lights.{light_count, lacks_words}
use Rattle.xw_fill.specs.Search.{is_dead, chosen, found, due, end}
use Rattle.xw_fill.specs.declared.scan.Scan.{Scan}
use Rattle.xw_fill.specs.declared.scan.Scan.TheVariants.{Blocked, Open}
use Rattle.xw_search.specs.declared.filling.Filling.{Filling}
use Rattle.xw_search.specs.declared.filling.Filling.TheVariants.{Filled, NoFill, Limit}
use Rattle.xw_fill.specs.declared.search.Next.{Next}
use Rattle.xw_fill.specs.declared.search.Next.TheVariants.{Done, Spent, Words}

-- The answers in terms of the search that `Search.antt` defines. After Filled the state has the entries of the
-- search's end. NoFill and Limit leave the state as it was. Limit means that more placements are due than the limit
-- allows.
abbrev pub IsFilling : ℕ → State → State → Filling → Type 0
IsFilling limit before after Filled = (due (position_of before) ≤ limit) × (found (position_of before) ≡ true) × (after ≡ filled_in before (end (position_of before)).board.entries)
IsFilling limit before after NoFill = (due (position_of before) ≤ limit) × (found (position_of before) ≡ false) × (after ≡ before)
IsFilling limit before after Limit = (limit < due (position_of before)) × (after ≡ before)

-- The answers in terms of fills: after Filled the state holds a fill, and NoFill means that no fill exists.
abbrev pub HasFill : State → State → Filling → Type 0
HasFill before after Filled = (entries : List (Option ℕ)) × IsFill (position_of before) entries × (after ≡ filled_in before entries)
HasFill before after NoFill = (entries : List (Option ℕ)) → IsFill (position_of before) entries → ⊥
HasFill before after Limit = Unit {0}

-- P holds if the answer leaves the state as it was
abbrev pub UnlessFilled : Filling → Type 0 → Type 0
UnlessFilled Filled P = Unit {0}
UnlessFilled NoFill P = P
UnlessFilled Limit P = P

-- The result of one scan: Blocked if some light has no feasible word, and otherwise the chosen light.
abbrev pub scanned : Position → Scan
scanned position = cond (any_below (lacks_words position) (light_count position)) Blocked (Open (chosen position))

-- the next step for a chosen light
abbrev pub next_of : Option ℕ → Next
next_of None = Done
next_of (Some light) = Words light 0

-- the next step where every light has a feasible word
abbrev pub unless_repeated : Bool → Option ℕ → Next
unless_repeated repeats chosen = cond repeats Spent (next_of chosen)

abbrev pub outlook : Position → Next
outlook position = cond (is_dead position) Spent (next_of (chosen position))
