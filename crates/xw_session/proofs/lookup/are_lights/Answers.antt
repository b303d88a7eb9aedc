use Rattle.std.proofs.Common.{not, ap, ◌∙◌}
use Rattle.xw_session.specs.Reply.{name_of_light}
use Rattle.xw_session.proofs.Naming.{one_known, one_unknown, if_none, if_some}
use Rattle.xw_session.proofs.lookup.are_lights.Goals as goal

pub returns-then-is_none-clause-no : goal.returns-then-is_none-clause-no
returns-then-is_none-clause-no g c = λ _.
    one_unknown (g.E.Feasible.state c.args.engine.now) c.args.lights c.loop-named.named-iterator c.next.new.self c.in-Some.named c.loop-named.invariant c.in-Some.ensures.steps
    (if_none c.known_name.result (c.is_none.ensures ∙ ap not c.if-is_none.true) c.known_name.ensures.none)

pub loop-named-preserved : goal.loop-named-preserved
loop-named-preserved g c =
    one_known (g.E.Feasible.state c.args.engine.now) c.args.lights c.loop-named.named-iterator c.next.new.self c.in-Some.named c.loop-named.invariant c.in-Some.ensures.steps
    (if_some (name_of_light c.in-Some.named) c.known_name.result (c.is_none.ensures ∙ ap not c.if-is_none.false) c.known_name.ensures.some)
