use Rattle.std.proofs.Common.{length, sym, ◌∙◌, subst}
use Rattle.std.proofs.lemmas.Bool.{eqb-true}
use Rattle.std.proofs.lemmas.List.{nil_from_length}
use Rattle.xw_search.specs.NamedFill.{AreFlags}
use Rattle.xw_best.proofs.ClimbLemmas.{all_are_flags}
use Rattle.xw_best.proofs.best.named_flags.Goals as goal

pub returns-then-is_empty-clause-ok : goal.returns-then-is_empty-clause-ok
returns-then-is_empty-clause-ok g c =
    let none = nil_from_length c.args.names.now (eqb-true (length c.args.names.now) 0 (sym c.is_empty.ensures ∙ c.if-is_empty.true)) in
    subst (λ names. AreFlags (g.E.Feasible.state c.args.engine.now) names c.in_ok-all_lights.field-0.items) (sym none) (all_are_flags (g.E.Feasible.state c.args.engine.now) c.in_ok-all_lights.field-0.items c.in_ok-all_lights.ensures)
