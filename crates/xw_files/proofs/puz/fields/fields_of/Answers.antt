use Rattle.std.proofs.Common.{◌*◌, ◌+◌, ◌<◌, ◌≤◌, length, refl, sym, subst}
use Rattle.std.proofs.lemmas.Result.{err_from_is_err_and}
use Rattle.xw_files.specs.Puz.Reading.{cell_count}
use Rattle.xw_files.proofs.PuzLemmas.Comparisons.{below, not-below}
use Rattle.xw_files.proofs.puz.fields.fields_of.Goals as goal

pub returns-in_err-header : goal.returns-in_err-header
returns-in_err-header c =
    let e = err_from_is_err_and c.from_residual.result c.from_residual.ensures.1 in
    rw (e.1, e.2) (λ known. rw (sym c.in_err-header.ensures) refl)

pub returns-then-bytes-cells : goal.returns-then-bytes-cells
returns-then-bytes-cells c known =
    let few = subst (λ n. length c.args.bytes.now < 52 + 2 * n) c.cell_count-cells.ensures.count c.if-bytes-cells.true in
    rw (sym c.in_ok-header.ensures, below (length c.args.bytes.now) (52 + 2 * cell_count c.in_ok-header.header) few) refl

pub returns : goal.returns
returns c =
    let many = subst (λ n. 52 + 2 * n ≤ length c.args.bytes.now) c.cell_count-cells.ensures.count c.if-bytes-cells.false in
    rw (sym c.in_ok-header.ensures, not-below (length c.args.bytes.now) (52 + 2 * cell_count c.in_ok-header.header) many, sym c.split_at.ensures.back) c.boards_of.ensures
