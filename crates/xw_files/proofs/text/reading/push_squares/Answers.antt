use Rattle.std.proofs.Common.{◌≢◌, get_or, arith, sym, ◌∙◌}
use Rattle.xw_files.proofs.TextLemmas.Squares.{Stands, dot_stands, dash_stands, letter_stands, stands_for_nothing, squares_go_on, squares_done, squares_fail}
use Rattle.xw_files.proofs.text.reading.push_squares.Goals as goal
use Rattle.xw_files.proofs.text.reading.push_squares.Goals.{in-46, in-45, in_default+in-Some}

pub loop-index-preserved : goal.loop-index-preserved
loop-index-preserved c =
    let stands : Stands (get_or c.args.line.now c.loop-index.index 0) c.match-byte.square =
    elim c.match-byte.branch [
      | in-46 w ↦ rw w.square-is (dot_stands _ w.in-46.is)
      | in-45 w ↦ rw w.square-is (dash_stands _ w.in-45.is)
      | in_default+in-Some w ↦
          let no_dot : get_or c.args.line.now c.loop-index.index 0 ≢ 46 = λ same. omega arith in
          let no_dash : get_or c.args.line.now c.loop-index.index 0 ≢ 45 = λ same. omega arith in
          rw w.square-is (letter_stands _ _ no_dot no_dash (sym w.of.ensures ∙ w.in-Some.is))
    ] in
    squares_go_on _ _ _ _ _ _ c.loop-index-test.true c.loop-index.invariant stands c.in_ok-push.ensures.items

pub returns-in-None : goal.returns-in-None
returns-in-None c other =
    let byte = get_or c.args.line.now c.loop-index.index 0 in
    let no_dot : byte ≢ 46 = λ same. omega arith in
    let no_dash : byte ≢ 45 = λ same. omega arith in
    squares_fail _ _ _ _ (c.loop-index.squares.items) c.loop-index-test.true c.loop-index.invariant (stands_for_nothing byte no_dot no_dash (sym c.of.ensures ∙ c.in-None.is))

pub returns : goal.returns
returns c = squares_done _ _ _ _ _ c.loop-index-test.false c.loop-index.invariant
