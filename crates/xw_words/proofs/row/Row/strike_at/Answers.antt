use Rattle.std.proofs.Common.{refl}
use Rattle.xw_words.specs.Dictionary.{entry_at, struck}
use Rattle.xw_words.proofs.KeptRowLemmas.{columns_stay, same_words-set}
use Rattle.xw_words.proofs.row.Row.strike_at.Goals as goal

pub invariant_of-self : goal.invariant_of-self
invariant_of-self c =
    let old = c.self.inside.table in
    let new = c.strike_at.new.self in
    columns_stay old new c.self.inside.columns.items c.strike_at.ensures.word_len c.strike_at.ensures.reserved (same_words-set old.entries new.entries c.args.index (struck (entry_at old.entries c.args.index)) refl c.strike_at.ensures.entries) c.self.invariant
