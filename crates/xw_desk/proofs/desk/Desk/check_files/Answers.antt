use Rattle.std.proofs.Common.{arith}
use Rattle.xw_desk.proofs.Checks.{all_checked, several}
use Rattle.xw_desk.proofs.desk.Desk.check_files.Goals as goal

pub returns : goal.returns
returns g c =
    several c.args.files.now c.check_each.result _ _ (λ one. let bad = c.if-files-eq1.false in omega (arith, bad, one))
    (all_checked _ c.check_each.result _ _ c.check_each.ensures.ok c.check_each.ensures.err)
