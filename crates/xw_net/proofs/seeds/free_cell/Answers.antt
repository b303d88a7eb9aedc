use Rattle.std.proofs.Common.{◌∙◌, arith}
use Rattle.xw_feas.specs.Flags.{set_has}
use Rattle.xw_net.specs.Spread.{no_positions}
use Rattle.xw_net.specs.Worklist.{is_marked, is_waiting}
use Rattle.xw_net.proofs.Revivals.LettersComeBack.{set_has-here, set_has-there, spread_grows, spread_raise}
use Rattle.xw_net.proofs.seeds.free_cell.Goals as goal

pub returns-clause-here : goal.returns-clause-here
returns-clause-here c letter = set_has-here c.args.letters.now c.args.cell c.letters_allowed.result letter (omega (arith, c.requires.cell, c.requires.letters)) ∙ c.letters_allowed.ensures letter

pub returns-clause-others : goal.returns-clause-others
returns-clause-others c other letter apart = set_has-there c.args.letters.now c.args.cell other c.letters_allowed.result letter apart

pub returns-clause-spread : goal.returns-clause-spread
returns-clause-spread c start before =
    let chain = c.mark_through.new.list in
    spread_raise c.args.board.now start c.args.letters.now c.args.cell c.letters_allowed.result (is_marked c.mark_through.new.list.marks) (is_waiting c.mark_through.new.list.lights) no_positions
    (omega (arith, c.requires.cell, c.requires.letters)) c.letters_allowed.ensures (λ light position here at. c.mark_through.ensures.all light (position, here, at))
    (spread_grows c.args.board.now start (set_has c.args.letters.now) c.args.chain.now chain no_positions c.mark_through.ensures.grows before)
