use Rattle.std.proofs.Common.{arith}
use Rattle.xw_feas.proofs.BoardLemmas.{length-lights}
use Rattle.xw_plain.proofs.plain.Plain.dead_light.Goals as goal

pub is_dead-requires : goal.is_dead-requires
is_dead-requires c =
    let engine = c.args.self.now in
    omega (arith, c.loop-light-test.true, c.len-light-end.ensures, engine.words.ok.0, engine.rows.lights, length-lights engine.position.grid)

pub returns-clause-alive : goal.returns-clause-alive
returns-clause-alive c light watch dead =
    let engine = c.args.self.now in
    c.loop-light.invariant light (omega (arith, dead.within, c.loop-light-test.false, c.len-light-end.ensures, engine.words.ok.0, engine.rows.lights, length-lights engine.position.grid)) watch dead
