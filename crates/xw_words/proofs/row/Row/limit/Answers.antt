use Rattle.xw_words.proofs.KeptRowLemmas.{columns_stay, same_words-limited}
use Rattle.xw_words.proofs.row.Row.limit.Goals as goal

pub invariant_of-self : goal.invariant_of-self
invariant_of-self c =
    let old = c.self.inside.table in
    let new = c.limit.new.self in
    columns_stay old new c.self.inside.columns.items c.limit.ensures.word_len c.limit.ensures.reserved (same_words-limited c.args.least old.entries new.entries c.limit.ensures.entries) c.self.invariant
