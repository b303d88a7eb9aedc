-- Facts about the description of an edit.
use Rattle.std.proofs.Common.{◌≡◌, ℕ, zero, suc, ◌<◌, ◌≤◌, Bool, true, false, cond, not, leb, ltb, List, [], ◌∷◌, ◌++◌, map, length, get_or, set, Some, None, refl, sym, ◌∙◌, ap, subst, arith, inl, inr}
use Rattle.std.specs.Prelude.{Option, Result, Ok, Err, Contains, slice_get}
use Rattle.std.specs.List.{list_any}
use Rattle.std.proofs.lemmas.Bool.{cases_lt, cases_eq, false≢true, or_parts, and_parts, and_from, le-leb, leb-true, ltb-false}
use Rattle.std.proofs.lemmas.List.{get_or-set_same, get_or-set_other, get_or_append_left, get_or-map, get_or_past, length-map}
use Rattle.std.proofs.Math.ListN.{get_or-map as get_or-map_any}
use Rattle.xw_words.specs.declared.fault.WordFault.{WordFault}
use Rattle.xw_words.specs.declared.bank.Added.{Added}
use Rattle.xw_words.specs.declared.bank.Added.TheVariants.{New, Returned}
use Rattle.xw_letters.specs.Letter.{folded}
use Rattle.xw_words.specs.Dictionary.{Entry, Dictionary, IsDictionary, known_words, with_row, entry_at, no_entry, new_entry, returned, struck, add_answer, after_add, strike_answer, after_strike, capped, is_left, limited, all_limited, with_least, is_turned}
use Rattle.xw_words.proofs.DictionaryLemmas.{word-set}
use Rattle.xw_grid.specs.declared.cell.Cell.{Cell}
use Rattle.xw_grid.specs.Grid.{Grid, IsGrid, index_of}
use Rattle.xw_grid.specs.Light.{lights_of}
use Rattle.xw_feas.specs.State.{State, Action, after, grid_after, letter_set, cell_cleared, word_placed, list_written, block_toggled, bar_toggled, symmetry_chosen, word_added, word_struck, least_chosen, answered, add_word, strike_word}
use Rattle.xw_feas.specs.WellFormed.{IsWellFormed}
use Rattle.xw_feas.proofs.AdditionLemmas.{new_word}
use Rattle.xw_net.specs.Change.{Fields, IsChange, IsIndexOf, with_entry_of, entries_written, indices_listed, index_added, index_struck, word_changed, brings_back}
use Rattle.xw_net.specs.Region.{cells_written, edited_cells, turns_words}
use Rattle.xw_net.proofs.Edits.KeptByEdits.{IsWrittenAt, grid_of_after, written_after, with_grid-Ok, with_words-Ok}

-- ---- the listed cells

listed_indices : (grid : Grid) (cells : List Cell) → indices_listed grid (map (with_entry_of grid) cells) ≡ map (index_of grid) cells
listed_indices grid [] = refl
listed_indices grid (cell ∷ cells) = ap (λ indices. index_of grid cell ∷ indices) (listed_indices grid cells)

-- the cells that an edit writes are its edited cells
pub written_indices : (grid : Grid) (action : Action) → indices_listed grid (entries_written grid action) ≡ edited_cells grid action
written_indices grid action = listed_indices grid (cells_written grid action)

-- the grid keeps its size
pub size_kept : (grid new : Grid) (action : Action) → IsGrid grid → grid_after grid action ≡ Ok new → IsWrittenAt grid new (edited_cells grid action)
size_kept grid new action is made = written_after grid new action is made

-- ---- the known words

set_past : (rows : List (List Entry)) (at : ℕ) (entries : List Entry) → length rows ≤ at → set rows at entries ≡ rows
set_past [] at entries past = refl
set_past (first ∷ rows) zero entries past = absurd (omega arith)
set_past (first ∷ rows) (suc at) entries past = ap (λ rest. first ∷ rest) (set_past rows at entries (omega arith))

-- a property of the words of each length, after those of one length were replaced
row_set : (P : ℕ → List Entry → Type 0) (words : Dictionary) (len : ℕ) (entries : List Entry) (word_len : ℕ) → P len entries → P word_len (known_words words word_len) → (word_len ≡ len → P len entries → P word_len entries) → P word_len (known_words (with_row words len entries) word_len)
row_set P words len entries word_len there here moved = elim (cases_eq word_len len) [
  | inr apart ↦ subst (P word_len) (sym (get_or-set_other words.rows len word_len entries [] apart)) here
  | inl e ↦ elim (cases_lt len (length words.rows)) [
    | inl below ↦ subst (P word_len) (sym (ap (λ n. known_words (with_row words len entries) n) e ∙ get_or-set_same words.rows len entries [] below)) (moved e there)
    | inr past ↦ subst (P word_len) (sym (ap (λ (rows : List (List Entry)). get_or rows word_len []) (set_past words.rows len entries past))) here
  ]
]

-- the words of a length agree except at one index
abbrev AgreeBut : ℕ → List Entry → List Entry → Type 0
AgreeBut index old new = (k : ℕ) → (k ≡ index → ⊥) → slice_get new k ≡ slice_get old k

-- every earlier word keeps its letters
abbrev AreSpelledAlike : List Entry → List Entry → Type 0
AreSpelledAlike old new = (k : ℕ) → k < length old → (entry_at new k).word ≡ (entry_at old k).word

push_agrees : (entries : List Entry) (entry : Entry) → AgreeBut (length entries) entries (entries ++ entry ∷ [])
push_agrees [] entry zero apart = absurd (apart refl)
push_agrees [] entry (suc k) apart = refl
push_agrees (first ∷ entries) entry zero apart = refl
push_agrees (first ∷ entries) entry (suc k) apart = push_agrees entries entry k (λ e. apart (ap suc e))

set_agrees : (entries : List Entry) (index : ℕ) (entry : Entry) → AgreeBut index entries (set entries index entry)
set_agrees [] index entry k apart = refl
set_agrees (first ∷ entries) zero entry zero apart = absurd (apart refl)
set_agrees (first ∷ entries) zero entry (suc k) apart = refl
set_agrees (first ∷ entries) (suc index) entry zero apart = refl
set_agrees (first ∷ entries) (suc index) entry (suc k) apart = set_agrees entries index entry k (λ e. apart (ap suc e))

-- both facts, for a word given by its length and index
record AreWordsBut (old new : Dictionary) (word : Option (ℕ × ℕ)) : Type 0 where
  agree : (word_len index : ℕ) → ¬ IsIndexOf word word_len index → slice_get (known_words new word_len) index ≡ slice_get (known_words old word_len) index
  alike : (word_len : ℕ) → AreSpelledAlike (known_words old word_len) (known_words new word_len)

same_words : (old new : Dictionary) (word : Option (ℕ × ℕ)) → new ≡ old → AreWordsBut old new word
same_words old new word same = record {
  agree = λ word_len index apart. ap (λ (d : Dictionary). slice_get (known_words d word_len) index) same;
  alike = λ word_len k below. ap (λ (d : Dictionary). (entry_at (known_words d word_len) k).word) same;
}

words_but : (old : Dictionary) (len index : ℕ) (entries : List Entry) → AgreeBut index (known_words old len) entries → AreSpelledAlike (known_words old len) entries → AreWordsBut old (with_row old len entries) (Some (len, index))
words_but old len index entries agree alike = record {
  agree = λ word_len k apart.
      row_set (λ n es. ¬ ((len ≡ n) × (index ≡ k)) → slice_get es k ≡ slice_get (known_words old n) k) old len entries word_len
      (λ apart'. agree k (λ e. apart' (refl, sym e))) (λ _. refl) (λ e there apart'. subst (λ n. ¬ ((len ≡ n) × (index ≡ k)) → slice_get entries k ≡ slice_get (known_words old n) k) (sym e) there apart') apart;
  alike = λ word_len.
      row_set (λ n es. AreSpelledAlike (known_words old n) es) old len entries word_len alike (λ k below. refl) (λ e there. subst (λ n. AreSpelledAlike (known_words old n) entries) (sym e) there);
}

added_but : (old new : Dictionary) (word : List ℕ) (grade : Option ℕ) (answer : Result Added WordFault) → add_answer old word ≡ answer → answered (after_add old (map folded word) grade) answer ≡ Ok new → AreWordsBut old new (index_added (length word) answer)
added_but old new word grade (Err fault) is h = cc
added_but old new word grade (Ok (Returned index)) is h =
    let made : after_add old (map folded word) grade (Returned index) ≡ new = cc in
    let len : length (map folded word) ≡ length word = length-map word folded in
    let entries = known_words old (length (map folded word)) in
    let again : Entry = returned old.least grade (entry_at entries index) in
    subst (λ (d : Dictionary). AreWordsBut old d (Some (length word, index))) made
    (subst (λ n. AreWordsBut old (after_add old (map folded word) grade (Returned index)) (Some (n, index))) len
    (words_but old (length (map folded word)) index (set entries index again) (set_agrees entries index again) (λ k below. word-set entries index again refl k no_entry)))
added_but old new word grade (Ok (New index)) is h =
    let made : after_add old (map folded word) grade (New index) ≡ new = cc in
    let len : length (map folded word) ≡ length word = length-map word folded in
    let entries = known_words old (length (map folded word)) in
    let entry : Entry = new_entry old.least (map folded word) grade in
    let fresh = new_word old word (subst Rattle.xw_words.specs.Dictionary.IsNew (sym is) tt) in
    let last : index ≡ length (known_words old (length word)) = let answer = fresh.answer in cc in
    let last' : length (known_words old (length (map folded word))) ≡ index = ap (λ n. length (known_words old n)) len ∙ sym last in
    subst (λ (d : Dictionary). AreWordsBut old d (Some (length word, index))) made
    (subst (λ n. AreWordsBut old (after_add old (map folded word) grade (New index)) (Some (n, index))) len
    (words_but old (length (map folded word)) index (entries ++ entry ∷ []) (subst (λ p. AgreeBut p entries (entries ++ entry ∷ [])) last' (push_agrees entries entry))
    (λ k below. ap (λ (e : Entry). e.word) (get_or_append_left entries (entry ∷ []) no_entry k below))))

struck_but : (old new : Dictionary) (word : List ℕ) (answer : Result ℕ WordFault) → answered (after_strike old (map folded word)) answer ≡ Ok new → AreWordsBut old new (index_struck (length word) answer)
struck_but old new word (Err fault) h = cc
struck_but old new word (Ok index) h =
    let made : after_strike old (map folded word) index ≡ new = cc in
    let len : length (map folded word) ≡ length word = length-map word folded in
    let entries = known_words old (length (map folded word)) in
    let gone : Entry = struck (entry_at entries index) in
    subst (λ (d : Dictionary). AreWordsBut old d (Some (length word, index))) made
    (subst (λ n. AreWordsBut old (after_strike old (map folded word) index) (Some (n, index))) len
    (words_but old (length (map folded word)) index (set entries index gone) (set_agrees entries index gone) (λ k below. word-set entries index gone refl k no_entry)))

-- ---- the least grade

turned_not : (active left : Bool) → cond active (not left) left ≡ false → left ≡ active
turned_not true true same = refl
turned_not true false same = absurd (false≢true (sym same))
turned_not false true same = absurd (false≢true (sym same))
turned_not false false same = refl

-- words that no least grade turns stay as they are
all_stay : (least : ℕ) (entries : List Entry) → list_any (is_turned least) entries ≡ false → all_limited least entries ≡ entries
all_stay least [] none = refl
all_stay least (entry ∷ entries) none =
    let parts = or_parts (is_turned least entry) (list_any (is_turned least) entries) none in
    let active : is_left least entry ≡ entry.active = turned_not entry.active (is_left least entry) parts.0 in
    let same : limited least entry ≡ entry = λ t. record { word = entry.word; active = active t; struck = entry.struck; grade = entry.grade; regraded = entry.regraded } in
    ap (λ (first : Entry). first ∷ all_limited least entries) same ∙ ap (λ rest. entry ∷ rest) (all_stay least entries parts.1)

row_limited : (grade : ℕ) (words : Dictionary) (len : ℕ) → known_words (with_least grade words) len ≡ all_limited (capped grade) (known_words words len)
row_limited grade words len = get_or-map_any (all_limited (capped grade)) words.rows len []

-- the known words agree, except for one word and in the lengths in which the least grade turns some
record AreWordsAfter (old new : Dictionary) (word : Option (ℕ × ℕ)) (turned : ℕ → Bool) (back : Bool) : Type 0 where
  agree : (word_len index : ℕ) → turned word_len ≡ false → ¬ IsIndexOf word word_len index → slice_get (known_words new word_len) index ≡ slice_get (known_words old word_len) index
  counts : (word_len : ℕ) → turned word_len ≡ true → length (known_words new word_len) ≡ length (known_words old word_len)
  gone : (word_len index : ℕ) → back ≡ false → turned word_len ≡ true → (entry_at (known_words new word_len) index).active ≡ true → (entry_at (known_words old word_len) index).active ≡ true
  alike : (word_len : ℕ) → AreSpelledAlike (known_words old word_len) (known_words new word_len)

none_turned : (old new : Dictionary) (word : Option (ℕ × ℕ)) → AreWordsBut old new word → AreWordsAfter old new word (λ word_len. false) false
none_turned old new word but = record {
  agree = λ word_len index still apart. but.agree word_len index apart;
  counts = λ word_len on. absurd (false≢true on);
  gone = λ word_len index lower on. absurd (false≢true on);
  alike = but.alike;
}

-- without a lower least grade each word that is active was active
limited_gone : (old : Dictionary) (grade word_len index : ℕ) → IsDictionary old → ltb (capped grade) old.least ≡ false → (entry_at (all_limited (capped grade) (known_words old word_len)) index).active ≡ true → (entry_at (known_words old word_len) index).active ≡ true
limited_gone old grade word_len index is lower now = elim (cases_lt index (length (known_words old word_len))) [
  | inr past ↦ absurd (false≢true (sym (ap (λ (entry : Entry). entry.active) (get_or_past (all_limited (capped grade) (known_words old word_len)) index no_entry (omega (arith, past, length-map (known_words old word_len) (limited (capped grade)))))) ∙ now))
  | inl below ↦
      let entry = entry_at (known_words old word_len) index in
      let left : is_left (capped grade) (entry_at (known_words old word_len) index) ≡ true = sym (ap (λ (e : Entry). e.active) (get_or-map (limited (capped grade)) (known_words old word_len) index no_entry no_entry below)) ∙ now in
      let parts = and_parts (not entry.struck) (leb (capped grade) entry.grade) left in
      let least = ltb-false (capped grade) old.least lower in
      let few = leb-true (capped grade) entry.grade parts.1 in
      is.left word_len index no_entry below ∙ and_from _ _ parts.0 (le-leb old.least entry.grade (omega (arith, least, few)))
]

limited_after : (old : Dictionary) (grade : ℕ) → IsDictionary old → AreWordsAfter old (with_least grade old) None (turns_words old (least_chosen grade)) (brings_back old (least_chosen grade))
limited_after old grade is = record {
  agree = λ word_len index still apart. ap (λ entries. slice_get entries index) (row_limited grade old word_len ∙ all_stay (capped grade) (known_words old word_len) still);
  counts = λ word_len on. ap length (row_limited grade old word_len) ∙ length-map (known_words old word_len) (limited (capped grade));
  gone = λ word_len index lower on now. limited_gone old grade word_len index is lower (sym (ap (λ entries. (entry_at entries index).active) (row_limited grade old word_len)) ∙ now);
  alike = λ word_len k below.
      ap (λ entries. (entry_at entries k).word) (row_limited grade old word_len)
      ∙ ap (λ (entry : Entry). entry.word) (get_or-map (limited (capped grade)) (known_words old word_len) k no_entry no_entry below);
}

words_after : (before now : State) (action : Action) → after before action ≡ Ok now → IsDictionary before.words → AreWordsAfter before.words now.words (word_changed before.words action) (turns_words before.words action) (brings_back before.words action)
words_after before now (letter_set cell letter) made is = none_turned before.words now.words None (same_words before.words now.words None (with_grid-Ok before now (grid_after before.grid (letter_set cell letter)) made).1)
words_after before now (cell_cleared cell) made is = none_turned before.words now.words None (same_words before.words now.words None (with_grid-Ok before now (grid_after before.grid (cell_cleared cell)) made).1)
words_after before now (word_placed name bytes) made is = none_turned before.words now.words None (same_words before.words now.words None (with_grid-Ok before now (grid_after before.grid (word_placed name bytes)) made).1)
words_after before now (list_written list) made is = none_turned before.words now.words None (same_words before.words now.words None (with_grid-Ok before now (grid_after before.grid (list_written list)) made).1)
words_after before now (block_toggled cell) made is = none_turned before.words now.words None (same_words before.words now.words None (with_grid-Ok before now (grid_after before.grid (block_toggled cell)) made).1)
words_after before now (bar_toggled cell side) made is = none_turned before.words now.words None (same_words before.words now.words None (with_grid-Ok before now (grid_after before.grid (bar_toggled cell side)) made).1)
words_after before now (symmetry_chosen kind) made is = none_turned before.words now.words None (same_words before.words now.words None (with_grid-Ok before now (grid_after before.grid (symmetry_chosen kind)) made).1)
words_after before now (word_added word grade) made is =
    none_turned before.words now.words (index_added (length word) (add_answer before.words word))
    (added_but before.words now.words word grade (add_answer before.words word) refl (with_words-Ok before now (add_word before.words word grade) made).0)
words_after before now (word_struck word) made is =
    none_turned before.words now.words (index_struck (length word) (strike_answer before.words word))
    (struck_but before.words now.words word (strike_answer before.words word) (with_words-Ok before now (strike_word before.words word) made).0)
words_after before now (least_chosen grade) made is =
    let next : record before { words = with_least grade before.words } ≡ now = cc in
    subst (λ (words : Dictionary). AreWordsAfter before.words words None (turns_words before.words (least_chosen grade)) (brings_back before.words (least_chosen grade))) (ap (λ (state : State). state.words) next) (limited_after before.words grade is)

-- ---- the change

-- an edit that adds or strikes a word does not choose the least grade
pub word_turns_none : (words : Dictionary) (action : Action) (word : ℕ × ℕ) → word_changed words action ≡ Some word → (len : ℕ) → turns_words words action len ≡ false
word_turns_none words (least_chosen grade) word some len = let never : None ≡ Some word = some in cc
word_turns_none words other word some len = refl

pub word_brings_none : (words : Dictionary) (action : Action) (word : ℕ × ℕ) → word_changed words action ≡ Some word → brings_back words action ≡ false
word_brings_none words (least_chosen grade) word some = let never : None ≡ Some word = some in cc
word_brings_none words other word some = refl

pub change_made : (before now : State) (action : Action) (change : Fields) → after before action ≡ Ok now → ((len : ℕ) → change.turned len ≡ turns_words before.words action len) → change.back ≡ brings_back before.words action → IsWellFormed before → IsWellFormed now
    → change.cells ≡ entries_written before.grid action → change.before ≡ lights_of before.grid → change.word ≡ word_changed before.words action → IsChange before now action change
change_made before now action change made turned back formed_before formed_now cells lights word =
    let written = written_after before.grid now.grid action formed_before.grid (grid_of_after before now action made) in
    let indices : indices_listed before.grid change.cells ≡ edited_cells before.grid action = ap (indices_listed before.grid) cells ∙ written_indices before.grid action in
    let words = words_after before now action made formed_before.dictionary in
    record {
      made = made;
      formed_before = formed_before;
      formed_now = formed_now;
      cells = cells;
      lights = lights;
      word = word;
      turned = turned;
      width = written.width;
      height = written.height;
      squares = λ index outside. written.squares index (λ edited. outside (subst (λ ps. Contains ps index) (sym indices) edited));
      entries = λ word_len index still apart. words.agree word_len index (sym (turned word_len) ∙ still) (λ at. apart (subst (λ w. IsIndexOf w word_len index) (sym word) at));
      counts = λ word_len on. words.counts word_len (sym (turned word_len) ∙ on);
      gone = λ word_len index lower on active. words.gone word_len index (sym back ∙ lower) (sym (turned word_len) ∙ on) active;
      spelling = λ word_len index below. words.alike word_len index below;
    }
