use Rattle.std.proofs.Common.{refl}
use Rattle.xw_words.specs.Dictionary.{entry_at, returned}
use Rattle.xw_words.proofs.KeptRowLemmas.{columns_stay, same_words-set}
use Rattle.xw_words.proofs.row.Row.return_at.Goals as goal

pub invariant_of-self : goal.invariant_of-self
invariant_of-self c =
    let old = c.self.inside.table in
    let new = c.return_at.new.self in
    columns_stay old new c.self.inside.columns.items c.return_at.ensures.word_len c.return_at.ensures.reserved (same_words-set old.entries new.entries c.args.index (returned c.args.least c.args.grade (entry_at old.entries c.args.index)) refl c.return_at.ensures.entries) c.self.invariant
