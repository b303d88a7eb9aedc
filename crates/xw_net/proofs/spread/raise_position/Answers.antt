use Rattle.std.proofs.Common.{ℕ, subst, sym, ap, ◌∙◌, arith}
use Rattle.std.specs.Prelude.{List}
use Rattle.xw_feas.specs.Feasible.{may_stand}
use Rattle.xw_feas.specs.Flags.{set_has}
use Rattle.xw_net.specs.Marks.{cell_at}
use Rattle.xw_net.specs.Spread.{HasAll, IsSpread}
use Rattle.xw_net.specs.Worklist.{is_marked, is_waiting}
use Rattle.xw_net.proofs.Revivals.LettersComeBack.{spread_grows, spread_raise, lacks_old}
use Rattle.xw_net.proofs.spread.raise_position.Goals as goal

pub returns-then-raise-clause-spread : goal.returns-then-raise-clause-spread
returns-then-raise-clause-spread c start coming before =
    let cell = c.position_of-cell.ensures.cell in
    let grown = spread_grows c.args.board.now start (set_has c.args.letters.now) c.args.chain.now c.mark_crossing.new.chain coming c.mark_crossing.ensures.grows before in
    let raised = spread_raise c.args.board.now start c.args.letters.now c.position_of-cell.result.cell c.letters_allowed.result (is_marked c.mark_crossing.new.chain.marks) (is_waiting c.mark_crossing.new.chain.lights) coming
    (omega (arith, c.position_of-cell.ensures.in_board, c.requires.letters)) c.letters_allowed.ensures
    (λ j r here same. c.mark_crossing.ensures.marked c.requires.marked j (r, here, (same ∙ cell))) grown in
    let P : List ℕ → Type 0 = λ ls. IsSpread c.args.board.now start (set_has ls) (is_marked c.mark_crossing.new.chain.marks) (is_waiting c.mark_crossing.new.chain.lights) coming in
    subst P (sym (c.raise.ensures.raised c.if-raise.true)) raised

pub returns-then-raise-clause-within : goal.returns-then-raise-clause-within
returns-then-raise-clause-within c start coming before member closed seeds =
    let cell = c.position_of-cell.ensures.cell in
    let lacks : ¬ HasAll c.args.board.now (set_has c.args.letters.now) (cell_at c.args.board.now c.args.light c.args.position) =
    λ all. c.raise.ensures.lacked c.if-raise.true (λ letter may.
    ap (λ x. set_has c.args.letters.now x letter) cell ∙ all letter (ap (λ x. may_stand c.args.board.now x letter) (sym cell) ∙ sym (c.letters_allowed.ensures letter) ∙ may)) in
    c.mark_crossing.ensures.within member seeds (λ j here.
    closed c.args.light c.args.position j here.0 c.requires.position here.1 here.2
    (lacks_old c.args.board.now start (set_has c.args.letters.now) (is_marked c.args.chain.now.marks) (is_waiting c.args.chain.now.lights) coming (cell_at c.args.board.now c.args.light c.args.position) before lacks)
    (seeds c.args.light c.requires.marked))
