use Rattle.std.proofs.Common.{sym, ◌∙◌}
use Rattle.xw_grid.specs.Puzzle.{puzzle_view}
use Rattle.xw_files.proofs.PuzLemmas.Again.{gives-again}
use Rattle.xw_files.proofs.puz.write.write_puz.Goals as goal

pub returns-in-None-clause-again : goal.returns-in-None-clause-again
returns-in-None-clause-again c = gives-again c.bytes_of.result (puzzle_view c.args.puzzle.now) c.fault_of.ensures.grid (sym c.fault_of.ensures.fault ∙ c.in-None.is) c.bytes_of.ensures.ok
