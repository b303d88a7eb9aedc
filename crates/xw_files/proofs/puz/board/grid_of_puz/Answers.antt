use Rattle.std.proofs.Common.{◌+◌, ◌<◌, ◌≤◌, length, refl, sym, subst, arith}
use Rattle.std.proofs.lemmas.Result.{err_from_is_err_and}
use Rattle.xw_files.specs.Puz.Reading.{cell_count}
use Rattle.xw_files.proofs.PuzLemmas.Comparisons.{below, not-below}
use Rattle.xw_files.proofs.PuzLemmas.Taken.{header_at-takes}
use Rattle.xw_files.proofs.puz.board.grid_of_puz.Goals as goal

pub grid_of-requires-clause-wide : goal.grid_of-requires-clause-wide
grid_of-requires-clause-wide c = (header_at-takes c.args.bytes.now _ (λ i. omega (arith, c.type_inv.bytes i)) (sym c.in_ok-header.ensures)).0.width

pub grid_of-requires-clause-high : goal.grid_of-requires-clause-high
grid_of-requires-clause-high c = (header_at-takes c.args.bytes.now _ (λ i. omega (arith, c.type_inv.bytes i)) (sym c.in_ok-header.ensures)).0.height

pub returns-in_err-header : goal.returns-in_err-header
returns-in_err-header c =
    let e = err_from_is_err_and c.from_residual.result c.from_residual.ensures.1 in
    rw (e.1, e.2) (λ known. rw (sym c.in_err-header.ensures) refl)

pub returns-then-bytes-cells : goal.returns-then-bytes-cells
returns-then-bytes-cells c known =
    let few = subst (λ n. length c.args.bytes.now < 52 + n) c.cell_count-cells.ensures.count c.if-bytes-cells.true in
    rw (sym c.in_ok-header.ensures, below (length c.args.bytes.now) (52 + cell_count c.in_ok-header.header) few) refl

pub returns : goal.returns
returns c =
    let many = subst (λ n. 52 + n ≤ length c.args.bytes.now) c.cell_count-cells.ensures.count c.if-bytes-cells.false in
    rw (sym c.in_ok-header.ensures, not-below (length c.args.bytes.now) (52 + cell_count c.in_ok-header.header) many, sym c.split_at.ensures.back) (rw c.cell_count-cells.ensures.count at c.grid_of.ensures)
