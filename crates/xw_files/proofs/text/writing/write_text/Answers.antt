use Rattle.std.proofs.Common.{List, ℕ, sym, subst}
use Rattle.xw_grid.specs.Puzzle.{puzzle_view}
use Rattle.xw_files.specs.Text.Relation.{IsText}
use Rattle.xw_files.proofs.TextLemmas.Writer.{is_again}
use Rattle.xw_files.proofs.text.writing.write_text.Goals as goal

pub returns-clause-again : goal.returns-clause-again
returns-clause-again c = subst (λ (text : List ℕ). IsText text (puzzle_view c.args.puzzle.now)) (sym c.in_ok-text_of.ensures) (is_again _ c.well_formed-2.ensures c.in_ok-judge.ensures.ok)
