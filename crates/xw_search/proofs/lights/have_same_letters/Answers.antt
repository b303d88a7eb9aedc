use Rattle.std.proofs.Common.{◌≡◌, length, not, sym, ◌∙◌, ap, arith}
use Rattle.std.specs.Prelude.{unwrap_or}
use Rattle.std.proofs.lemmas.Bool.{eq-eqb, true≢false}
use Rattle.xw_feas.specs.Board.{entry}
use Rattle.xw_search.proofs.LightLemmas.{differ-at, same-all}
use Rattle.xw_search.proofs.lights.have_same_letters.Goals as goal

pub returns-then-ne : goal.returns-then-ne
returns-then-ne c =
    let board = c.args.board.now in
    let at_cell = c.letter.ensures ∙ ap (λ cell. unwrap_or (entry board cell) 65) c.at.ensures in
    let at_other = c.letter-in-loop-pos.ensures ∙ ap (λ cell. unwrap_or (entry board cell) 65) c.at-in-loop-pos.ensures in
    let long : length c.args.cells.now ≡ length c.args.others.now = omega (arith, c.if-len.false, c.len.ensures, c.len-2.ensures) in
    sym (differ-at board c.args.cells.now c.args.others.now c.loop-pos.pos long (omega (arith, c.loop-pos-test.true, c.len-pos-end.ensures)) (λ same.
    true≢false (sym c.if-ne.true ∙ c.ne.ensures ∙ ap not (eq-eqb c.letter.result c.letter-in-loop-pos.result (at_cell ∙ same ∙ sym at_other)))))

pub returns : goal.returns
returns c =
    let long : length c.args.cells.now ≡ length c.args.others.now = omega (arith, c.if-len.false, c.len.ensures, c.len-2.ensures) in
    sym (same-all c.args.board.now c.args.cells.now c.args.others.now c.loop-pos.pos long (omega (arith, c.loop-pos-test.false, c.len-pos-end.ensures)) c.loop-pos.invariant)
