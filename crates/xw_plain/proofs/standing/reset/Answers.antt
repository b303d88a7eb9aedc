use Rattle.std.proofs.Common.{◌≡◌, length, None, Some, sym, ◌∙◌, arith, inl, inr, rules}
use Rattle.std.proofs.lemmas.Bool.{cases_lt}
use Rattle.std.proofs.lemmas.List.{get_or_past}
use Rattle.xw_plain.proofs.standing.reset.Goals as goal

pub returns-clause-entries : goal.returns-clause-entries
returns-clause-entries c cell letter entered = elim (cases_lt cell (length c.args.board.now.entries)) [
  | inl below ↦ c.loop-cell.invariant.entries cell letter (omega (arith, c.loop-cell-test.false, c.cell_count-cell-end.ensures.entries)) entered
  | inr past ↦ absurd (let e : None ≡ Some letter = sym (get_or_past c.args.board.now.entries cell None past) ∙ entered in cc)
]

pub loop-cell-preserved : goal.loop-cell-preserved
loop-cell-preserved c = search rules
