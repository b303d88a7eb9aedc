use Rattle.std.proofs.Common.{◌≡◌, false, length}
use Rattle.xw_search.specs.Position.{position_of}
use Rattle.xw_search.specs.Below.{any_below}
use Rattle.xw_search.specs.Lights.{is_repeat, light_count}
use Rattle.xw_search.specs.Linked.{AreLinked}
use Rattle.xw_search.proofs.LinkLemmas.{AreLast}
use Rattle.xw_search.proofs.repeats.has_repeat.Given as goal

abbrev pub invariant-loop-light : goal.invariant-loop-light
invariant-loop-light g l =
    let position = position_of (g.E.Feasible.state l.engine) in
    record {
      none : any_below (is_repeat position) l.light ≡ false;
      long : length l.earlier.items ≡ light_count position;
      linked : AreLinked position l.light l.earlier.items;
      sizes : length l.last ≡ 256;
      last : AreLast position l.light l.last;
    }
