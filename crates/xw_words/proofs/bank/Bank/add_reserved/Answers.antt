use Rattle.std.proofs.Common.{◌≡◌, ◌<◌, length, sym, ap, refl, ◌∙◌, false}
use Rattle.std.specs.Prelude.{None, slice_index_or, [], ◌∷◌, ◌++◌}
use Rattle.xw_words.specs.Dictionary.{known_words, index_in, most_words, new_entry}
use Rattle.xw_words.proofs.DictionaryLemmas.{row_kept, IsKept-set, AreWords-new, AreLeft-new, words_of-changed, row-words_of, room_within}
use Rattle.xw_words.proofs.RoomLemmas.{KeepsOtherRoom-set}
use Rattle.xw_words.proofs.bank.Bank.add_reserved.Goals as goal

pub add_reserved-requires-clause-length : goal.add_reserved-requires-clause-length
add_reserved-requires-clause-length c =
    let rows = c.self.inside.rows.items in
    let least = c.self.inside.least in
    let len = length c.args.word.now in
    let small = room_within rows least len c.self.invariant (ap (λ bank. slice_index_or bank.room len false) c.self.view_is ∙ c.requires.room) in
    let at = row_kept rows least len c.index_mut-row.result.now c.self.invariant small c.index_mut-row.ensures.value in
    sym at.len_is

pub invariant_of-self : goal.invariant_of-self
invariant_of-self c =
    let rows = c.self.inside.rows.items in
    let least = c.self.inside.least in
    let old = c.index_mut-row.result.now in
    let word = c.args.word.now in
    let len = length word in
    let small = room_within rows least len c.self.invariant (ap (λ bank. slice_index_or bank.room len false) c.self.view_is ∙ c.requires.room) in
    let at = row_kept rows least len old c.self.invariant small c.index_mut-row.ensures.value in
    let was : known_words c.args.self.now.words len ≡ old.entries = ap (λ bank. known_words bank.words len) (sym c.self.view_is) ∙ row-words_of rows least len old at.within c.index_mut-row.ensures.value in
    let unknown : index_in old.entries word ≡ None = ap (λ es. index_in es word) (sym was) ∙ c.requires.unknown in
    let few : length old.entries < most_words = c.add_reserved.ensures.few in
    IsKept-set rows least len c.add_reserved.new.self c.self.invariant c.add_reserved.ensures.long (c.add_reserved.ensures.word_len ∙ at.len_is)
    (rw c.add_reserved.ensures.entries (AreWords-new len least old.entries word c.args.grade c.self.invariant.dictionary.least at.words refl c.are_letters.ensures unknown few))
    (rw c.add_reserved.ensures.entries (AreLeft-new least old.entries word c.args.grade at.left))

pub returns-clause-index : goal.returns-clause-index
returns-clause-index c =
    let rows = c.self.inside.rows.items in
    let least = c.self.inside.least in
    let old = c.index_mut-row.result.now in
    let len = length c.args.word.now in
    let small = room_within rows least len c.self.invariant (ap (λ bank. slice_index_or bank.room len false) c.self.view_is ∙ c.requires.room) in
    let at = row_kept rows least len old c.self.invariant small c.index_mut-row.ensures.value in
    let was : known_words c.args.self.now.words len ≡ old.entries = ap (λ bank. known_words bank.words len) (sym c.self.view_is) ∙ row-words_of rows least len old at.within c.index_mut-row.ensures.value in
    c.len-index.ensures.value ∙ ap (λ entries. length entries) (sym was)

pub returns-clause-words : goal.returns-clause-words
returns-clause-words c =
    let rows = c.self.inside.rows.items in
    let least = c.self.inside.least in
    let old = c.index_mut-row.result.now in
    let len = length c.args.word.now in
    let small = room_within rows least len c.self.invariant (ap (λ bank. slice_index_or bank.room len false) c.self.view_is ∙ c.requires.room) in
    let at = row_kept rows least len old c.self.invariant small c.index_mut-row.ensures.value in
    rw (← c.self.view_is) (words_of-changed rows least len old c.add_reserved.new.self (λ entries. entries ++ new_entry least c.args.word.now c.args.grade ∷ []) at.within c.index_mut-row.ensures.value c.add_reserved.ensures.entries)

pub returns-clause-room : goal.returns-clause-room
returns-clause-room c =
    rw (← c.self.view_is) (KeepsOtherRoom-set c.self.inside.rows.items c.self.inside.least (length c.args.word.now) c.add_reserved.new.self)
