use Rattle.std.proofs.Common.{inl, inr}
use Rattle.std.proofs.lemmas.Result.{err_from_is_err_and}
use Rattle.xw_grid.specs.Puzzle.{puzzle_view}
use Rattle.xw_cli_files.proofs.Puts.{put_in_vain, put_over}
use Rattle.xw_cli_files.proofs.put.put_puzzle.Goals as goal

pub returns-in_err-keep_first-clause-err : goal.returns-in_err-keep_first-clause-err
returns-in_err-keep_first-clause-err g c =
    let e = err_from_is_err_and c.from_residual-in_err-keep_first.result c.from_residual-in_err-keep_first.ensures.1 in
    rw (e.1, e.2) (inr (inl (record { bytes = c.in_ok-bytes.bytes.items; are = c.in_ok-bytes.ensures.ok; why = c.in_err-keep_first.ensures.err })))

pub returns-clause-ok : goal.returns-clause-ok
returns-clause-ok g c = put_over c.write_file.result c.args.file.now (puzzle_view c.args.puzzle.now) c.as_slice.result.now c.in_ok-bytes.bytes.items c.args.desk.now c.keep_first.new.desk c.write_file.new.self
    c.as_slice.ensures.value c.in_ok-bytes.ensures.ok c.in_ok-keep_first.ensures.ok c.write_file.ensures.ok

pub returns-clause-err : goal.returns-clause-err
returns-clause-err g c = put_in_vain c.write_file.result c.args.file.now (puzzle_view c.args.puzzle.now) c.as_slice.result.now c.in_ok-bytes.bytes.items c.args.desk.now c.keep_first.new.desk c.write_file.new.self
    c.as_slice.ensures.value c.in_ok-bytes.ensures.ok c.in_ok-keep_first.ensures.ok c.write_file.ensures.err
