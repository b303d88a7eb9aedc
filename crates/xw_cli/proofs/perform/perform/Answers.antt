use Rattle.std.proofs.Common.{◌∙◌, ◌||◌, ap, refl, subst}
use Rattle.xw_cli.specs.Performed.{IsPerformed}
use Rattle.xw_cli.proofs.perform.perform.Goals as goal

pub returns-in-Ok : goal.returns-in-Ok
returns-in-Ok g c = record {
  result = c.run.result;
  mid = c.run.new.desk;
  performed = subst (λ start. IsPerformed c.args.call c.run.result start c.run.new.desk) (c.explain_if.ensures ∙ ap (λ is_due. record c.args.desk.now { explains = is_due || c.args.desk.now.is_terminal }) c.is_explained.ensures) c.run.ensures;
  told = rw c.in-Ok.is (refl, refl);
}

pub returns-in-Err : goal.returns-in-Err
returns-in-Err g c = record {
  result = c.run.result;
  mid = c.run.new.desk;
  performed = subst (λ start. IsPerformed c.args.call c.run.result start c.run.new.desk) (c.explain_if.ensures ∙ ap (λ is_due. record c.args.desk.now { explains = is_due || c.args.desk.now.is_terminal }) c.is_explained.ensures) c.run.ensures;
  told = rw c.in-Err.is c.end.ensures;
}
