use Rattle.std.proofs.Common.{length, sym, ◌∙◌, subst}
use Rattle.std.proofs.lemmas.Bool.{eqb-true}
use Rattle.std.proofs.lemmas.List.{nil_from_length}
use Rattle.xw_search.proofs.StateLemmas.{in_grid_light}
use Rattle.xw_search.specs.NamedFill.{flags, is_named, IsAutofilled}
use Rattle.xw_fill.proofs.Naming.{autofilled_same}
use Rattle.xw_fill.proofs.named_lights.fill_named.Goals as goal

pub returns-in_ok-all_by_letters-clause-ok : goal.returns-in_ok-all_by_letters-clause-ok
returns-in_ok-all_by_letters-clause-ok g c =
    let none = nil_from_length c.args.names.now (eqb-true (length c.args.names.now) 0 (sym c.is_empty.ensures ∙ c.if-is_empty.true)) in
    subst (λ names. IsAutofilled (is_named (g.E.Feasible.state c.args.engine.now) names) (g.E.Feasible.state c.args.engine.now) (g.E.Feasible.state c.all_by_letters.new.engine) c.in_ok-all_by_letters.field-0) (sym none) c.in_ok-all_by_letters.ensures.ok

pub returns-in_ok-fill_all-clause-ok : goal.returns-in_ok-fill_all-clause-ok
returns-in_ok-fill_all-clause-ok g c =
    let none = nil_from_length c.args.names.now (eqb-true (length c.args.names.now) 0 (sym c.is_empty.ensures ∙ c.if-is_empty.true)) in
    subst (λ names. IsAutofilled (is_named (g.E.Feasible.state c.args.engine.now) names) (g.E.Feasible.state c.args.engine.now) (g.E.Feasible.state c.fill_all.new.engine) c.in_ok-fill_all.field-0) (sym none) c.in_ok-fill_all.ensures.ok

pub returns-clause-ok : goal.returns-clause-ok
returns-clause-ok g c =
    let start = g.E.Feasible.state c.args.engine.now in
    autofilled_same (flags c.in_ok-named.named.items) (is_named start c.args.names.now) start (g.E.Feasible.state c.fill_flagged.new.engine) c.in_ok-fill_flagged.field-0
    (λ light in_grid. c.in_ok-named.ensures.ok light (in_grid_light start.grid light in_grid)) c.in_ok-fill_flagged.ensures.ok
