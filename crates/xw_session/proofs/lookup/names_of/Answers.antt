use Rattle.std.proofs.Common.{refl, sym, ◌∙◌, ◌++◌, ◌∷◌, [], inl}
use Rattle.std.proofs.lemmas.Bool.{or_parts}
use Rattle.xw_session.proofs.Naming.{one_known, one_unknown, one_named, if_pushed}
use Rattle.xw_session.proofs.lookup.names_of.Goals as goal

pub returns-in_default-clause-refused : goal.returns-in_default-clause-refused
returns-in_default-clause-refused g c =
    inl (refl, one_unknown (g.E.Feasible.state c.args.engine.now) c.args.lights c.loop-named.named-iterator c.next.new.self c.in-Some.named c.loop-named.invariant.left c.in-Some.ensures.steps c.in_default.ensures.none)

pub loop-named-preserved : goal.loop-named-preserved
loop-named-preserved g c =
    let found = c.in-Some-known_name.ensures.some in
    record {
      left = one_known (g.E.Feasible.state c.args.engine.now) c.args.lights c.loop-named.named-iterator c.next.new.self c.in-Some.named c.loop-named.invariant.left c.in-Some.ensures.steps found.1;
      names = λ whole.
          let both = or_parts _ _ whole in
          let pushed = if_pushed c.push.result c.push.new.self.items (c.loop-named.names.items ++ c.in-Some-known_name.name ∷ []) c.loop-named.names.items (sym c.is_err-is_short.ensures.value ∙ both.1) c.push.ensures.items in
          rw pushed (one_named c.args.lights c.loop-named.named-iterator c.next.new.self c.in-Some.named c.in-Some-known_name.name c.loop-named.names.items (c.loop-named.invariant.names both.0) c.in-Some.ensures.steps found.0);
    }
