use Rattle.std.proofs.Common.{ℕ, subst, sym, ◌∙◌, arith}
use Rattle.std.specs.Prelude.{List}
use Rattle.xw_feas.specs.Flags.{set_has}
use Rattle.xw_net.specs.Spread.{no_positions, IsSpread}
use Rattle.xw_net.specs.Worklist.{is_marked, is_waiting}
use Rattle.xw_net.proofs.Revivals.LettersComeBack.{spread_grows, spread_raise}
use Rattle.xw_net.proofs.seeds.raise_cell.Goals as goal

pub returns-then-raise-clause-within : goal.returns-then-raise-clause-within
returns-then-raise-clause-within c member start reached =
    c.mark_through.ensures.only member start
    (λ light through. reached light ((λ all. c.raise.ensures.lacked c.if-raise.true (λ letter may. all letter (sym (c.letters_allowed.ensures letter) ∙ may))), through))

pub returns-then-raise-clause-spread : goal.returns-then-raise-clause-spread
returns-then-raise-clause-spread c start before =
    let grown = spread_grows c.args.board.now start (set_has c.args.letters.now) c.args.chain.now c.mark_through.new.list no_positions c.mark_through.ensures.grows before in
    let raised = spread_raise c.args.board.now start c.args.letters.now c.args.cell c.letters_allowed.result (is_marked c.mark_through.new.list.marks) (is_waiting c.mark_through.new.list.lights) no_positions
    (omega (arith, c.requires.cell, c.requires.letters)) c.letters_allowed.ensures (λ light position here at. c.mark_through.ensures.all light (position, here, at)) grown in
    let P : List ℕ → Type 0 = λ ls. IsSpread c.args.board.now start (set_has ls) (is_marked c.mark_through.new.list.marks) (is_waiting c.mark_through.new.list.lights) no_positions in
    subst P (sym (c.raise.ensures.raised c.if-raise.true)) raised
