use Rattle.std.proofs.Common.{sym, ◌∙◌}
use Rattle.xw_feas.specs.Flags.{set_has}
use Rattle.xw_net.specs.Spread.{is_barren, barren_positions}
use Rattle.xw_net.specs.Worklist.{is_marked, is_waiting}
use Rattle.xw_net.proofs.Revivals.LettersComeBack.{spread_passed}
use Rattle.xw_net.proofs.spread.raise_if_worded.Goals as goal

pub returns-then-is_barren-clause-spread : goal.returns-then-is_barren-clause-spread
returns-then-is_barren-clause-spread c start before =
    spread_passed c.args.board.now start (set_has c.args.letters.now) (is_marked c.args.chain.now.marks) (is_waiting c.args.chain.now.lights) (is_barren c.args.board.now c.args.base.now) c.args.light
    (sym c.is_barren.ensures ∙ c.if-is_barren.true) before

pub returns-then-is_barren-clause-within : goal.returns-then-is_barren-clause-within
returns-then-is_barren-clause-within c start before member closed seeds = seeds

pub returns-clause-spread : goal.returns-clause-spread
returns-clause-spread c start before = c.raise_light.ensures.spread start (barren_positions c.args.board.now c.args.base.now) before

pub returns-clause-within : goal.returns-clause-within
returns-clause-within c start before = c.raise_light.ensures.within start (barren_positions c.args.board.now c.args.base.now) before
