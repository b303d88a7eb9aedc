use Rattle.std.proofs.lemmas.List.Filters.{FiltersInPlace}
use Rattle.xw_feas.specs.Written.{is_changed}
use Rattle.xw_feas.proofs.notes.keep_changed.Given as goal

abbrev pub invariant-loop-index : goal.invariant-loop-index
invariant-loop-index l = FiltersInPlace (is_changed l.grid) l.initial.noted l.noted l.count l.index
