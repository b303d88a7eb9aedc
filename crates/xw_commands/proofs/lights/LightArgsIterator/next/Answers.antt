use Rattle.std.proofs.Common.{List, subst}
use Rattle.std.specs.Iterator.{YieldsFirst}
use Rattle.xw_commands.specs.declared.command.LightArg.{LightArg}
use Rattle.xw_commands.specs.Reading.{lights_first}
use Rattle.xw_commands.proofs.LightLists.{light_yielded, light_progress}
use Rattle.xw_commands.proofs.lights.LightArgsIterator.next.Goals as goal

pub returns-clause-steps : goal.returns-clause-steps
returns-clause-steps c =
    subst (λ (lights : List LightArg). YieldsFirst (λ lights. lights) lights c.named_if_any.result (lights_first c.named_if_any.new.self).0) c.self.view_is
    (light_yielded c.self.inside.words c.named_if_any.new.self c.named_if_any.result c.named_if_any.ensures.some c.named_if_any.ensures.none c.named_if_any.ensures.left)

pub returns-clause-goes : goal.returns-clause-goes
returns-clause-goes c = light_progress c.args.self.now (lights_first c.named_if_any.new.self).0 c.named_if_any.result (returns-clause-steps c)
