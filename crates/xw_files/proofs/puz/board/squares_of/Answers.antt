use Rattle.std.proofs.Common.{◌+◌, drop, sym, ap, ◌∙◌, arith, Err}
use Rattle.xw_files.specs.Puz.Board.{squares_at}
use Rattle.xw_files.specs.declared.fault.ReadFault.TheVariants as faults
use Rattle.xw_files.proofs.PuzLemmas.Fronts.{after, after-none}
use Rattle.xw_files.proofs.PuzLemmas.SquaresRead.{squares-more, squares-bad, squares-end}
use Rattle.xw_files.proofs.puz.board.squares_of.Goals as goal

pub loop-index-init : goal.loop-index-init
loop-index-init c = ap (λ front. after front (squares_at c.args.width 0 c.args.bytes.now)) c.new-squares.ensures.items ∙ after-none (squares_at c.args.width 0 c.args.bytes.now)

pub returns-in-None : goal.returns-in-None
returns-in-None c known =
    sym c.loop-index.invariant
    ∙ squares-bad c.args.width c.loop-index.index c.args.bytes.now c.loop-index.squares.items c.loop-index-test.true (sym c.in-None.ensures)
    ∙ ap (λ cell. Err (faults.BadCell cell)) (sym c.cell_in.ensures)

pub loop-index-preserved : goal.loop-index-preserved
loop-index-preserved c =
    ap (λ front. after front (squares_at c.args.width (c.loop-index.index + 1) (drop (c.loop-index.index + 1) c.args.bytes.now))) c.in_ok-extend_from_slice-in-Some.ensures.items
    ∙ sym (squares-more c.args.width c.loop-index.index c.args.bytes.now c.loop-index.squares.items c.in-Some.square c.loop-index-test.true (sym c.in-Some.ensures))
    ∙ c.loop-index.invariant

pub returns : goal.returns
returns c = sym c.loop-index.invariant ∙ squares-end c.args.width c.loop-index.index c.args.bytes.now c.loop-index.squares.items (omega (arith, c.loop-index-test.false))
