use Rattle.std.proofs.Common.{false, sym, ◌∙◌}
use Rattle.std.proofs.lemmas.List.{get_or_default}
use Rattle.xw_net.proofs.net.Net.is_narrow.Goals as goal

pub returns-clause-open : goal.returns-clause-open
returns-clause-open c is =
    let flags = c.args.self.now.entered.items in
    sym (c.index.ensures ∙ get_or_default flags c.args.light c.index.result.now false c.requires.entered) ∙ c.if-index.false
