use Rattle.xw_search.proofs.choice.promises_in.Given as goal

abbrev pub invariant-loop-position : goal.invariant-loop-position
invariant-loop-position g l = Unit {0}
