use Rattle.std.proofs.Common.{◌++◌, ◌∙◌, ℕ, List, [], refl, sym, ap, subst, append-nil, append_assoc}
use Rattle.std.specs.Prelude.{flat_map}
use Rattle.std.proofs.lemmas.Result.{err_from_is_err_and}
use Rattle.xw_search.specs.NamedFill.{AreLights}
use Rattle.xw_commands.specs.declared.command.LightArg.{LightArg}
use Rattle.xw_session.specs.Reply.{name_of_light}
use Rattle.xw_session.specs.NamedSearch.{names_of}
use Rattle.xw_session.specs.Grades.{named_line}
use Rattle.xw_lines.proofs.SendsLemmas.{next_stops}
use Rattle.xw_session.proofs.Naming.{IsLight, head_of, tail_of}
use Rattle.xw_session.proofs.session.grading.write_each.Goals as goal

pub loop-named-init : goal.loop-named-init
loop-named-init g c =
    let state = g.E.Feasible.state c.args.engine.now in
    let same = c.into_iter-named-iterator.ensures.into_iter_gives in (
      [],
      record {
        transcript = sym (append-nil (g.W.Sink.transcript c.args.sink.now));
        left = ap (λ (lights : List LightArg). flat_map (named_line state) (names_of lights)) (sym same);
        quiet = refl;
        there = subst (λ (lights : List LightArg). AreLights state (names_of lights)) (sym same) c.requires;
      },
    )

pub write_named-requires : goal.write_named-requires
write_named-requires g c =
    let state = g.E.Feasible.state c.args.engine.now in
    head_of (IsLight state) (name_of_light c.in-Some.named) (names_of c.next.new.self) (subst (λ (lights : List LightArg). AreLights state (names_of lights)) c.in-Some.ensures.steps c.loop-named.invariant.1.there)

pub loop-named-preserved : goal.loop-named-preserved
loop-named-preserved g c =
    let state = g.E.Feasible.state c.args.engine.now in
    let sent = c.loop-named.invariant.0 in
    let kept = c.loop-named.invariant.1 in
    let name = name_of_light c.in-Some.named in
    let line = named_line state name in
    let rest = names_of c.next.new.self in
    let wrote = c.in_ok-write_named.ensures in (
      sent ++ line,
      record {
        transcript = wrote.0 ∙ ap (λ (xs : List ℕ). xs ++ line) kept.transcript ∙ append_assoc (g.W.Sink.transcript c.args.sink.now) sent line;
        left = kept.left ∙ ap (λ (lights : List LightArg). sent ++ flat_map (named_line state) (names_of lights)) c.in-Some.ensures.steps ∙ sym (append_assoc sent line (flat_map (named_line state) rest));
        quiet = wrote.1 ∙ kept.quiet;
        there = tail_of (IsLight state) name rest (subst (λ (lights : List LightArg). AreLights state (names_of lights)) c.in-Some.ensures.steps kept.there);
      },
    )

pub returns-in_err-write_named : goal.returns-in_err-write_named
returns-in_err-write_named g c =
    let e = err_from_is_err_and c.from_residual.result c.from_residual.ensures.1 in
    let kept = c.loop-named.invariant.1 in
    rw e.1 (next_stops g.W.Sink.transcript g.W.Sink.failures (named_line (g.E.Feasible.state c.args.engine.now)) c.args.sink.now c.loop-named.sink c.write_named.new.sink c.loop-named.invariant.0 _ _ _ (name_of_light c.in-Some.named) kept.transcript kept.quiet kept.left (ap names_of c.in-Some.ensures.steps) c.in_err-write_named.ensures)
