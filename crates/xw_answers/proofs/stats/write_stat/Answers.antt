use Rattle.std.proofs.Common.{◌≡◌, length, ℕ, codes, sym, ◌∙◌, subst}
use Rattle.xw_grid.specs.Grid.{cells}
use Rattle.xw_grid.proofs.GridLemmas.{length-cells}
use Rattle.xw_lines.specs.Sends.{Sends}
use Rattle.xw_answers.specs.Text.{number_line}
use Rattle.xw_answers.proofs.stats.write_stat.Goals as goal

pub returns-in-Cells : goal.returns-in-Cells
returns-in-Cells g c =
    let size : c.size.result ≡ length (cells c.args.grid.now) = c.size.ensures.size ∙ sym (length-cells c.args.grid.now) in
    rw c.in-Cells.is (subst (λ (n : ℕ). Sends g.W.Sink.transcript g.W.Sink.failures c.args.sink.now c.write_named_number.new.sink c.write_named_number.result (number_line (codes "cells") n)) size c.write_named_number.ensures)

pub returns-in-Sizes : goal.returns-in-Sizes
returns-in-Sizes g c = rw c.in-Sizes.is c.write_sizes.ensures

pub returns-in-Letters : goal.returns-in-Letters
returns-in-Letters g c = rw c.in-Letters.is c.write_letters.ensures
