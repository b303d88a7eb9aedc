use Rattle.std.proofs.Common.{length, refl, ap, ◌∙◌, arith}
use Rattle.xw_feas.specs.Flags.{set_has}
use Rattle.xw_net.specs.Spread.{either_position, positions_from}
use Rattle.xw_net.specs.Worklist.{is_marked, is_waiting}
use Rattle.xw_net.proofs.Lists.ListsOfLights.{grows_none, grows_more}
use Rattle.xw_net.proofs.Revivals.LettersComeBack.{spread_position, spread_light}
use Rattle.xw_net.proofs.spread.raise_light.Goals as goal

pub loop-position-init : goal.loop-position-init
loop-position-init c = record { letters_len = refl; grows = grows_none c.args.chain.now; spread = λ start coming before. before; within = λ start coming before member closed seeds. seeds }

pub raise_position-requires-clause-marked : goal.raise_position-requires-clause-marked
raise_position-requires-clause-marked c = c.loop-position.invariant.grows.more c.args.light c.requires.marked

pub loop-position-preserved : goal.loop-position-preserved
loop-position-preserved c =
    let inv = c.loop-position.invariant in
    let k = c.raise_position in
    record {
      letters_len = k.ensures.letters ∙ inv.letters_len;
      grows = grows_more c.args.chain.now c.loop-position.chain k.new.chain inv.grows k.ensures.grows;
      spread = λ start coming before.
          spread_position c.args.board.now start (set_has k.new.letters) (is_marked k.new.chain.marks) (is_waiting k.new.chain.lights) coming c.args.light c.loop-position.position k.ensures.all
          (k.ensures.spread start (either_position (positions_from c.args.light c.loop-position.position) coming) (inv.spread start coming before));
      within = λ start coming before member closed seeds.
          k.ensures.within start (either_position (positions_from c.args.light c.loop-position.position) coming) (inv.spread start coming before) member closed (inv.within start coming before member closed seeds);
    }

pub returns-clause-spread : goal.returns-clause-spread
returns-clause-spread c start coming before =
    spread_light c.args.board.now start (set_has c.loop-position.letters) (is_marked c.loop-position.chain.marks) (is_waiting c.loop-position.chain.lights) coming c.args.light c.loop-position.position
    (λ q here. omega (arith, here.1, c.loop-position-test.false, c.len-position-end.ensures, ap length c.light.ensures.cells)) (c.loop-position.invariant.spread start coming before)
