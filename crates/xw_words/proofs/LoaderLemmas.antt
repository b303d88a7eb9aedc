-- Lemmas about the tables of a loader.
use Rattle.std.proofs.Common.{◌≡◌, ◌≢◌, ℕ, zero, suc, ◌<◌, ◌≤◌, true, cond, leb, ◌&&◌, List, [], map, length, get_or, set, refl, ap, sym, ◌∙◌, subst, arith, replicate}
use Rattle.std.specs.Prelude.{All, Option, None, Result, Ok, Err, IfOk, OnErr}
use Rattle.std.proofs.lemmas.List.{map-set, get_or-map}
use Rattle.std.proofs.lemmas.Simd.{map-map}
use Rattle.std.proofs.Math.ListN.{get_or-map as get_or-map_default}
use Rattle.xw_letters.specs.Letter.{IsLetter}
use Rattle.xw_words.specs.declared.fault.WordFault.{WordFault}
use Rattle.xw_words.specs.declared.fault.WordFault.TheVariants.{Length, Memory}
use Rattle.xw_words.specs.declared.bank.Added.{Added}
use Rattle.xw_words.specs.Dictionary.{Entry, Dictionary, AreWords, AreLeft, IsDictionary, no_words, known_words, add_to, answer_on, with_added, after_add}
use Rattle.xw_words.specs.Word.{judged, is_word_length}
use Rattle.std.proofs.lemmas.Bool.{le-leb}
use Rattle.xw_words.specs.Row.{Row}
use Rattle.xw_words.specs.Bank.{IsKept, words_of, no_row}
use Rattle.xw_words.specs.Table.{Table, row_with}
use Rattle.xw_words.specs.Loader.{words_in, AreKept, no_table}
use Rattle.xw_words.proofs.DictionaryLemmas.{row_kept, IsKept-same, IsKept-after_add_word, added_word, same_words, words_of-same, row-words_of}

-- ---- no words

abbrev nothing : List Entry
nothing = []

none_there : (n k : ℕ) → get_or (replicate n nothing) k nothing ≡ nothing
none_there zero k = refl
none_there (suc n) zero = refl
none_there (suc n) (suc k) = none_there n k

AreWords-none : (len : ℕ) → AreWords len []
AreWords-none len = record {
  long = λ k d lt. absurd (omega arith);
  letters = λ k d lt. absurd (omega arith);
  distinct = λ i j d before within. absurd (omega arith);
  graded = λ k d lt. absurd (omega arith);
  few = omega arith;
}

AreLeft-none : AreLeft 0 []
AreLeft-none = λ k d lt. absurd (omega arith)

IsDictionary-none : IsDictionary no_words
IsDictionary-none = record {
  lengths = refl;
  words = λ len. subst (AreWords len) (sym (none_there 256 len)) (AreWords-none len);
  none_shorter = λ len short. none_there 256 len;
  least = omega arith;
  left = λ len. subst (AreLeft 0) (sym (none_there 256 len)) AreLeft-none;
}

pub words_in-none : (tables : List Table) → map (λ table. table.entries) tables ≡ replicate 256 [] → words_in tables ≡ no_words
words_in-none tables none =
    ap (λ (rows : List (List Entry)). let words : Dictionary = record { rows = rows; least = 0 } in words) (map-map (λ (row : Row). row.entries) row_with tables ∙ none)

pub AreKept-none : (tables : List Table) → length tables ≡ 256 → map (λ table. table.entries) tables ≡ replicate 256 [] → ((len : ℕ) → len < 256 → (get_or tables len no_table).word_len ≡ len) → AreKept tables
AreKept-none tables many none lens = record {
  dictionary = subst IsDictionary (sym (words_in-none tables none)) IsDictionary-none;
  word_lens = λ len lt. ap (λ (row : Row). row.word_len) (get_or-map row_with tables len no_table no_row (omega (arith, many, lt))) ∙ lens len lt;
}

-- ---- one table changes

module _ (tables : List Table) (len : ℕ) (old new : Table) (was : old ≡ get_or tables len old) where
  abbrev rows : List Row
  rows = map row_with tables

  was_row : row_with old ≡ get_or rows len (row_with old)
  was_row = ap row_with was ∙ sym (get_or-map_default row_with tables len old)

  changed : map row_with (set tables len new) ≡ set rows len (row_with new)
  changed = map-set row_with tables len new

  pub AreKept-same : AreKept tables → 2 ≤ len → len ≤ 255 → new.word_len ≡ old.word_len → new.entries ≡ old.entries → AreKept (set tables len new)
  AreKept-same kept low high same now = subst (λ rs. IsKept rs 0) (sym changed) (IsKept-same rows 0 len (row_with old) (row_with new) kept low high was_row same now)

  pub words_in-same : new.entries ≡ old.entries → words_in (set tables len new) ≡ words_in tables
  words_in-same now = ap (λ rs. words_of rs 0) changed ∙ words_of-same rows 0 len (row_with old) (row_with new) was_row now

  pub AreKept-added : (word : List ℕ) (grade : Option ℕ) (answer : Result Added WordFault) → AreKept tables → 2 ≤ len → len ≤ 255 → new.word_len ≡ old.word_len → length word ≡ len → All IsLetter word → (answer ≢ Err Memory → answer ≡ add_to old.entries word) → IfOk answer (λ added. new.entries ≡ with_added 0 old.entries word grade added) → OnErr answer (new.entries ≡ old.entries) → AreKept (set tables len new)
  AreKept-added word grade answer kept low high same long letters says ok err =
      subst (λ rs. IsKept rs 0) (sym changed) (IsKept-after_add_word rows 0 len (row_with old) (row_with new) word grade answer kept low high was_row same long letters says ok err)

  pub words_in-added : (word : List ℕ) (grade : Option ℕ) (answer : Result Added WordFault) → AreKept tables → len ≤ 255 → length word ≡ len → IfOk answer (λ added. new.entries ≡ with_added 0 old.entries word grade added) → IfOk answer (λ added. words_in (set tables len new) ≡ after_add (words_in tables) word grade added)
  words_in-added word grade answer kept high long ok =
      subst (λ rs. IfOk answer (λ added. words_of rs 0 ≡ after_add (words_of rows 0) word grade added)) (sym changed)
      (added_word rows 0 len (row_with old) (row_with new) word grade answer long (row_kept rows 0 len (row_with old) kept high was_row).within was_row ok)

  pub words_in-err : (X : Type 0) (answer : Result X WordFault) → OnErr answer (new.entries ≡ old.entries) → OnErr answer (words_in (set tables len new) ≡ words_in tables)
  words_in-err X answer err = subst (λ rs. OnErr answer (words_of rs 0 ≡ words_of rows 0)) (sym changed) (same_words rows 0 len (row_with old) (row_with new) X answer was_row err)

  pub answer_in : (word : List ℕ) (answer : Result Added WordFault) → AreKept tables → 2 ≤ len → len ≤ 255 → length word ≡ len → (answer ≢ Err Memory → answer ≡ add_to old.entries word) → answer ≢ Err Memory → answer ≡ answer_on add_to (words_in tables) (judged None (length word) word)
  answer_in word answer kept low high long says other =
      let at = row_kept rows 0 len (row_with old) kept high was_row in
      let there : known_words (words_in tables) (length word) ≡ old.entries = ap (known_words (words_in tables)) long ∙ row-words_of rows 0 len (row_with old) at.within was_row in
      let fits : is_word_length (length word) ≡ true = ap (λ b. b && leb (length word) 255) (le-leb 2 (length word) (omega (arith, long, low))) ∙ le-leb (length word) 255 (omega (arith, long, high)) in
      let good : judged None (length word) word ≡ Ok word = ap (λ b. cond b (Ok word) (Err Length)) fits in
      says other ∙ ap (λ es. add_to es word) (sym there) ∙ ap (answer_on add_to (words_in tables)) (sym good)

  pub table_len : AreKept tables → len ≤ 255 → old.word_len ≡ len
  table_len kept high = (row_kept rows 0 len (row_with old) kept high was_row).len_is

-- ---- rows with the same words

pub IsKept-rows : (tables yielded : List Table) (rows : List Row) → AreKept tables → map (λ table. table) yielded ≡ tables → map (λ row. row.entries) rows ≡ map (λ table. table.entries) yielded → map (λ row. row.word_len) rows ≡ map (λ table. table.word_len) yielded
    → (words_of rows 0 ≡ words_in tables) × (IsKept rows 0)
IsKept-rows tables yielded rows kept all entries lens =
    let same : Table → Table = λ table. table in
    let row_entries : Row → List Entry = λ row. row.entries in
    let row_len : Row → ℕ = λ row. row.word_len in
    let table_entries : Table → List Entry = λ table. table.entries in
    let table_len : Table → ℕ = λ table. table.word_len in
    let words : words_of rows 0 ≡ words_in tables =
    ap (λ (rs : List (List Entry)). let words : Dictionary = record { rows = rs; least = 0 } in words)
    (entries ∙ sym (map-map table_entries same yielded) ∙ ap (map table_entries) all ∙ sym (map-map row_entries row_with tables)) in (
      words,
      record {
        dictionary = subst IsDictionary (sym words) kept.dictionary;
        word_lens = λ len lt.
            sym (get_or-map_default row_len rows len no_row)
            ∙ ap (λ ns. get_or ns len 0) (lens ∙ sym (map-map table_len same yielded) ∙ ap (map table_len) all ∙ sym (map-map row_len row_with tables))
            ∙ get_or-map_default row_len (map row_with tables) len no_row
            ∙ kept.word_lens len lt;
      },
    )
