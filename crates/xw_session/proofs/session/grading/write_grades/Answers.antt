use Rattle.std.proofs.Common.{ℕ, List, subst}
use Rattle.std.specs.Iterator.{YieldsFirst}
use Rattle.xw_lines.specs.Sends.{Sends}
use Rattle.xw_commands.specs.declared.command.LightArg.{LightArg}
use Rattle.xw_session.proofs.Grading.{none_named, some_named}
use Rattle.xw_session.proofs.session.grading.write_grades.Goals as goal

pub returns-then-is_none : goal.returns-then-is_none
returns-then-is_none g c =
    let steps = subst (λ (all : List LightArg). YieldsFirst (λ lights. lights) all c.next.result c.next.new.self) c.copy.ensures c.next.ensures.steps in
    let same = none_named (g.E.Feasible.state c.args.engine.now) c.args.lights c.next.new.self c.next.result steps c.if-is_none.ensures in
    subst (λ (lines : List ℕ). Sends g.W.Sink.transcript g.W.Sink.failures c.args.sink.now c.write_each_light.new.sink c.write_each_light.result lines) same c.write_each_light.ensures

pub returns-else-is_none : goal.returns-else-is_none
returns-else-is_none g c =
    let steps = subst (λ (all : List LightArg). YieldsFirst (λ lights. lights) all c.next.result c.next.new.self) c.copy.ensures c.next.ensures.steps in
    let same = some_named (g.E.Feasible.state c.args.engine.now) c.args.lights c.next.new.self c.next.result steps c.if-is_none.ensures in
    subst (λ (lines : List ℕ). Sends g.W.Sink.transcript g.W.Sink.failures c.args.sink.now c.write_each.new.sink c.write_each.result lines) same c.write_each.ensures
