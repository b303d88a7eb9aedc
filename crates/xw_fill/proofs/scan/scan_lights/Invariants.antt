use Rattle.std.proofs.Common.{◌≡◌, ℕ, length, false, Some}
use Rattle.xw_search.specs.Position.{position_of}
use Rattle.xw_search.specs.Below.{any_below}
use Rattle.xw_search.specs.FeasibleWords.{feasible_words}
use Rattle.xw_search.specs.Lights.{lacks_words}
use Rattle.xw_fill.specs.Search.{chosen_below}
use Rattle.xw_fill.proofs.scan.scan_lights.Given as goal

abbrev pub invariant-loop-light : goal.invariant-loop-light
invariant-loop-light g l =
    let position = position_of (g.E.Feasible.state l.engine) in
    record {
      none : any_below (lacks_words position) l.light ≡ false;
      best : chosen_below position l.light ≡ l.best;
      least : (light : ℕ) → l.best ≡ Some light → l.least ≡ length (feasible_words position light);
    }
