use Rattle.xw_files.proofs.text.writing.put_rows.Given as goal
use Rattle.xw_files.proofs.TextLemmas.Writes.{RowsLeft}

abbrev pub invariant-loop : goal.invariant-loop
invariant-loop l = RowsLeft l.width l.height l.counter l.fn.out.items l.squares l.out.items l.rest
