use Rattle.std.specs.Result.{is_ok}
use Rattle.xw_plain.proofs.Levels.{alike_pushed}
use Rattle.xw_plain.proofs.plain.Plain.keep_level.Goals as goal

pub invariant_of-self-clause-alike : goal.invariant_of-self-clause-alike
invariant_of-self-clause-alike c =
    let engine = c.args.self.now in
    alike_pushed engine.levels.items c.push.new.self.items c.in-Ok.grid engine.position.grid (is_ok c.push.result) c.push.ensures.items c.in-Ok.ensures.ok engine.alike
