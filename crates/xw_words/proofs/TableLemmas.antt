-- What a change of a table of words keeps.
use Rattle.std.proofs.Common.{◌≡◌, ℕ, ◌+◌, ◌*◌, ◌%◌, ◌<◌, ◌≤◌, Bool, false, List, ◌++◌, length, take, drop, ap, sym, ◌∙◌, arith, length-drop, length-take, subst}
use Rattle.std.specs.Prelude.{Option, Some, None, All, slice_set}
use Rattle.std.specs.Str.{bytes_eq}
use Rattle.std.proofs.lemmas.Bool.{both_ways, false_from_ne_true}
use Rattle.std.proofs.lemmas.List.{take-append-le, drop-append-le, drop_at, take_all, get_or_past, get_or_default, get_or-set_other}
use Rattle.std.proofs.lemmas.Slice.Eq.{bytes_eq-Decides}
use Rattle.xw_bits.specs.Bits.{RowOfBits}
use Rattle.xw_words.specs.Dictionary.{Entry, no_entry, entry_at, index_in}
use Rattle.xw_words.specs.Marks.{Marks, MarkList}
use Rattle.xw_words.specs.declared.weights.Weights.{Weights}
use Rattle.xw_words.specs.declared.table.Table.TheInside.{Inside}
use Rattle.xw_words.specs.Table.{IsKeptTable}
use Rattle.xw_words.specs.Row.{entries_of, AreClearFrom}
use Rattle.xw_words.specs.Index.{word_in, Index, IsIndex, IsLinked, IsFirstIndex}
use Rattle.xw_text.proofs.Position.{position_is_some, position_is_none, position-None}
use Rattle.xw_words.proofs.RowLemmas.{length-entries_of, active-entries_of, word-entries_of}
use Rattle.xw_words.proofs.IndexLemmas.{word_room, linked}

-- ---- searches

spelled_at : (len : ℕ) (letters : List ℕ) (flags regraded : List Bool) (marks : List Marks) (word : List ℕ) (k : ℕ) → k < length flags → bytes_eq (entry_at (entries_of len letters flags regraded marks) k).word word ≡ bytes_eq (word_in len letters k) word
spelled_at len letters flags regraded marks word k lt = ap (λ w. bytes_eq w word) (word-entries_of len letters flags regraded marks k lt)

pub first_index : (len : ℕ) (letters : List ℕ) (flags regraded : List Bool) (marks : List Marks) (n : ℕ) (word : List ℕ) (answer : Option ℕ) → n ≡ length flags → IsFirstIndex (word_in len letters) n word answer → answer ≡ index_in (entries_of len letters flags regraded marks) word
first_index len letters flags regraded marks n word (Some index) long is =
    sym (position_is_some (λ entry. bytes_eq entry.word word) (entries_of len letters flags regraded marks) index no_entry (omega (arith, is.0, length-entries_of len letters flags regraded marks))
    (λ k lt. spelled_at len letters flags regraded marks word k (omega (arith, is.0)) ∙ is.2 k lt)
    (spelled_at len letters flags regraded marks word index (omega (arith, is.0)) ∙ is.1))
first_index len letters flags regraded marks n word None long is =
    sym (position_is_none (λ entry. bytes_eq entry.word word) (entries_of len letters flags regraded marks) no_entry
    (λ k lt. let within : k < length flags = omega (arith, length-entries_of len letters flags regraded marks) in
    spelled_at len letters flags regraded marks word k within ∙ is k (omega arith)))

length-word_in : (len : ℕ) (letters : List ℕ) (n k : ℕ) → k < n → length letters ≡ n * len → length (word_in len letters k) ≡ len
length-word_in len letters n k lt long =
    let room = word_room k n len (length letters) lt long in
    omega (arith, length-take len (drop (k * len) letters), length-drop (k * len) letters, room)

-- a word of another length is not in the row
pub other_length : (len : ℕ) (letters : List ℕ) (flags regraded : List Bool) (marks : List Marks) (word : List ℕ) → length letters ≡ length flags * len → (length word ≡ len → ⊥) → index_in (entries_of len letters flags regraded marks) word ≡ None
other_length len letters flags regraded marks word long apart =
    position_is_none (λ entry. bytes_eq entry.word word) (entries_of len letters flags regraded marks) no_entry (λ k lt.
    let within : k < length flags = omega (arith, length-entries_of len letters flags regraded marks) in
    spelled_at len letters flags regraded marks word k within
    ∙ false_from_ne_true (bytes_eq (word_in len letters k) word) (λ e.
    apart (ap length (sym ((bytes_eq-Decides (word_in len letters k) word).0 e)) ∙ length-word_in len letters (length flags) k within long)))

pub inactive_past : (len : ℕ) (letters : List ℕ) (flags regraded : List Bool) (marks : List Marks) (index : ℕ) → length flags ≤ index → (entry_at (entries_of len letters flags regraded marks) index).active ≡ false
inactive_past len letters flags regraded marks index le = active-entries_of len letters flags regraded marks index ∙ get_or_past flags index false le

-- ---- the index

word_in_same : (len : ℕ) (letters word : List ℕ) (n k : ℕ) → k < n → length letters ≡ n * len → word_in len (letters ++ word) k ≡ word_in len letters k
word_in_same len letters word n k lt long =
    let room = word_room k n len (length letters) lt long in
    ap (take len) (drop-append-le (k * len) letters word (omega (arith, room)))
    ∙ take-append-le len (drop (k * len) letters) word (omega (arith, room, length-drop (k * len) letters))

word_in_last : (len : ℕ) (letters word : List ℕ) (n : ℕ) → length letters ≡ n * len → length word ≡ len → word_in len (letters ++ word) n ≡ word
word_in_last len letters word n long fits =
    ap (take len) (drop_at letters word (n * len) long) ∙ take_all len word (omega arith)

pub index_pushed : (len : ℕ) (letters word : List ℕ) (flags regraded : List Bool) (marks : List Marks) (old new : Index) → IsIndex (word_in len letters) (length flags) old → IsLinked old word new → length letters ≡ length flags * len → length word ≡ len
    → index_in (entries_of len letters flags regraded marks) word ≡ None → IsIndex (word_in len (letters ++ word)) (length flags + 1) new
index_pushed len letters word flags regraded marks old new is put long fits unknown =
    linked (word_in len letters) (word_in len (letters ++ word)) (length flags) old new word is put
    (λ k lt. word_in_same len letters word (length flags) k lt long)
    (word_in_last len letters word (length flags) long fits)
    (λ k lt same.
    both_ways (bytes_eq (word_in len letters k) word)
    (sym (spelled_at len letters flags regraded marks word k lt) ∙ position-None (λ entry. bytes_eq entry.word word) (entries_of len letters flags regraded marks) unknown k no_entry (omega (arith, length-entries_of len letters flags regraded marks)))
    ((bytes_eq-Decides (word_in len letters k) word).1 same))

-- ---- the invariant

pub entries_long : (len : ℕ) (letters : List ℕ) (flags regraded : List Bool) (marks : List Marks) → length letters ≡ length flags * len → All (λ entry. length entry.word ≡ len) (entries_of len letters flags regraded marks)
entries_long len letters flags regraded marks long k d lt =
    let within : k < length flags = omega (arith, length-entries_of len letters flags regraded marks) in
    ap (λ (e : Entry). length e.word) (get_or_default (entries_of len letters flags regraded marks) k d no_entry lt)
    ∙ ap length (word-entries_of len letters flags regraded marks k within) ∙ length-word_in len letters (length flags) k within long

-- other flags and marks for the same words keep the invariant of a table
pub IsKeptTable-marked : (t : Inside) (active regraded : RowOfBits) (marks : MarkList) (weights : Weights) → IsKeptTable t → length active.bits ≡ length t.active.bits → length regraded.bits ≡ length t.regraded.bits
    → AreClearFrom (length t.active.bits) regraded.bits → length marks.items ≡ length t.marks.items → t.active.room ≤ active.room → t.marks.room ≤ marks.room
    → IsKeptTable (record { word_len = t.word_len; letters = t.letters; index = t.index; active = active; regraded = regraded; marks = marks; weights = weights; reserved = t.reserved })
IsKeptTable-marked t active regraded marks weights kept flagged longer clear marked room marks_room =
    record {
      short = kept.short;
      long = kept.long;
      letters = kept.letters ∙ ap (λ n. n * t.word_len) (sym flagged);
      marks = marked ∙ kept.marks ∙ sym flagged;
      regraded = omega (arith, kept.regraded, longer);
      regraded_whole = ap (λ n. n % 64) longer ∙ kept.regraded_whole;
      regraded_past = λ i le. clear i (omega (arith, le, flagged));
      few = omega (arith, kept.few, flagged);
      within = omega (arith, kept.within, flagged);
      reserved_few = kept.reserved_few;
      index = let P : ℕ → Type 0 = λ n. IsIndex (word_in t.word_len t.letters.items) n t.index in subst P (sym flagged) kept.index;
      index_heads = kept.index_heads;
      index_room = kept.index_room;
      letters_room = kept.letters_room;
      marks_room = omega (arith, kept.marks_room, marks_room);
      active_room = omega (arith, kept.active_room, room);
    }

-- a flag of one of the words does not change those past them
pub AreClearFrom-set : (from : ℕ) (flags : List Bool) (index : ℕ) (flag : Bool) → index < from → AreClearFrom from flags → AreClearFrom from (slice_set flags index flag)
AreClearFrom-set from flags index flag within clear = λ i le. get_or-set_other flags index i flag false (λ same. omega (arith, same, le, within)) ∙ clear i le
