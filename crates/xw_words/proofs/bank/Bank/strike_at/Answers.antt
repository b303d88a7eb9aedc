use Rattle.std.proofs.Common.{◌<◌, length, ap, arith}
use Rattle.xw_words.specs.Dictionary.{known_words, with_struck}
use Rattle.xw_words.specs.Bank.{Bank, words_of}
use Rattle.xw_words.proofs.DictionaryLemmas.{known_long, row_kept, IsKept-struck, words_of-changed}
use Rattle.xw_words.proofs.RoomLemmas.{KeepsRoom-same}
use Rattle.xw_words.proofs.bank.Bank.strike_at.Goals as goal

pub invariant_of-self : goal.invariant_of-self
invariant_of-self c =
    let rows = c.self.inside.rows.items in
    let least = c.self.inside.least in
    let len = c.args.len in
    let within : c.args.index < length (known_words (words_of rows least) len) = omega (arith, c.requires, ap (λ (bank : Bank). length (known_words bank.words len)) c.self.view_is) in
    IsKept-struck rows least len c.args.index c.index_mut-row.result.now c.strike_at.new.self c.self.invariant within c.index_mut-row.ensures.value c.strike_at.ensures.word_len c.strike_at.ensures.entries

pub returns-clause-words : goal.returns-clause-words
returns-clause-words c =
    let rows = c.self.inside.rows.items in
    let least = c.self.inside.least in
    let len = c.args.len in
    let within : c.args.index < length (known_words (words_of rows least) len) = omega (arith, c.requires, ap (λ (bank : Bank). length (known_words bank.words len)) c.self.view_is) in
    let at = row_kept rows least len c.index_mut-row.result.now c.self.invariant (known_long rows least len c.args.index c.self.invariant within).1 c.index_mut-row.ensures.value in
    rw (← c.self.view_is) (words_of-changed rows least len c.index_mut-row.result.now c.strike_at.new.self (λ entries. with_struck entries c.args.index) at.within c.index_mut-row.ensures.value c.strike_at.ensures.entries)

pub returns-clause-room : goal.returns-clause-room
returns-clause-room c =
    rw (← c.self.view_is) (KeepsRoom-same c.self.inside.rows.items c.self.inside.least c.args.len c.index_mut-row.result.now c.strike_at.new.self c.index_mut-row.ensures.value c.strike_at.ensures.room)
