use Rattle.std.proofs.Common.{sym, ◌∙◌, subst}
use Rattle.xw_net.specs.Level.{LeadBack}
use Rattle.xw_net.specs.declared.level.KeptRow.{KeptRow}
use Rattle.xw_net.proofs.Levels.KeptRows.{keeps_row}
use Rattle.xw_net.proofs.level.keep_row.Goals as goal

pub returns-clause-back : goal.returns-clause-back
returns-clause-back c rows before within is back =
    let one : KeptRow = record { light = c.args.light; row = c.in_ok-copy.copy } in
    subst (λ kept. LeadBack kept rows before) (sym c.in_ok-push.ensures.items) (keeps_row c.args.kept.now.items rows before one (c.has_kept.ensures.none c.if-has_kept.false) within (c.in_ok-copy.ensures ∙ is) back)
