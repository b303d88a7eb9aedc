use Rattle.std.proofs.Common.{◌≡◌, ℕ, length, Some}
use Rattle.xw_search.specs.Position.{position_of}
use Rattle.xw_search.specs.FeasibleWords.{feasible_words}
use Rattle.xw_fill.specs.Search.{chosen_below}
use Rattle.xw_fill.proofs.scan.chosen.Given as goal

abbrev pub invariant-loop-light : goal.invariant-loop-light
invariant-loop-light g l =
    let position = position_of (g.E.Feasible.state l.engine) in
    record {
      best : chosen_below position l.light ≡ l.best;
      fewest : (light : ℕ) → l.best ≡ Some light → l.fewest ≡ length (feasible_words position light);
    }
