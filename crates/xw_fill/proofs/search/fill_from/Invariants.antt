use Rattle.std.proofs.Common.{◌≡◌, length, ◌+◌, ◌-◌, ◌*◌, ◌≤◌, ℕ}
use Rattle.xw_search.specs.Position.{position_of, DiffersInEntries}
use Rattle.xw_fill.specs.declared.search.Next.{Next}
use Rattle.xw_fill.specs.declared.search.Next.TheVariants.{Done, Spent, Words}
use Rattle.xw_search.specs.Lights.{light_count}
use Rattle.xw_search.specs.Stack.{first_or, LeadThrough}
use Rattle.xw_fill.specs.Inner.Tries.{IsMade}
use Rattle.xw_fill.proofs.Trail.{AreNotedAlong}
use Rattle.xw_fill.proofs.Searching.{IsSearching}
use Rattle.xw_fill.proofs.search.fill_from.Given as goal

abbrev pub invariant-search : goal.invariant-search
invariant-search g l =
    let start = g.E.Feasible.state l.initial.engine in
    let now = g.E.Feasible.state l.engine in
    let tries = l.stack.placements.items in
    record {
      searching : IsSearching (position_of start) tries l.used (position_of now) l.next;
      entries : DiffersInEntries start now;
      began : first_or (g.E.Searchable.levels l.engine) now ≡ start;
      stands : LeadThrough IsMade tries (g.E.Searchable.levels l.engine) now;
      few : l.used ≤ l.limit;
      count : g.E.Feasible.placed l.engine ≡ l.used + g.E.Feasible.placed l.initial.engine;
      long : length l.since ≡ light_count (position_of start);
      noted : AreNotedAlong (position_of start) tries l.since 0;
    }

-- one extra step for a position whose words are being tried
abbrev pub steps : Next → ℕ
steps Done = 0
steps Spent = 0
steps (Words light from) = 1

abbrev pub decreases-search : goal.decreases-search
decreases-search g l = 3 * (l.limit - l.used) + 2 * length l.stack.placements.items + steps l.next
