use Rattle.std.proofs.Common.{◌≡◌, ◌∙◌, sym, subst, true}
use Rattle.xw_grid.specs.Grid.{Grid}
use Rattle.xw_session.specs.Put.{target_of, has_target}
use Rattle.xw_session.proofs.TextMode.{nul_due}
use Rattle.xw_session.proofs.session.putting.put_target.Goals as goal

pub returns-then-has_nul-clause-refused : goal.returns-then-has_nul-clause-refused
returns-then-has_nul-clause-refused c = λ state putting is.
    nul_due state putting c.args.field c.args.spelling.now (sym c.is_spelling.ensures ∙ c.if-not-is_spelling.false)
    (subst (λ (grid : Grid). has_target grid (target_of c.args.field) ≡ true) (sym is) c.in_ok-target.ensures.ok.1) (sym c.has_nul.ensures ∙ c.if-has_nul.true)
