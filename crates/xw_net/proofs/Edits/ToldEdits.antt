-- What is known of an edit of which a net is told.
use Rattle.std.proofs.Common.{◌≡◌, ℕ, ◌+◌, ◌*◌, ◌<◌, ◌≤◌, Bool, true, false, cond, List, [], map, length, Some, None, refl, sym, ◌∙◌, ap, subst, arith, inl, inr}
use Rattle.std.specs.Prelude.{Option, Result, Ok, Err, All, position, is_some, vec_len}
use Rattle.std.specs.Coded.{Coded-set, coded_ℕ, le_prop}
use Rattle.std.proofs.Math.Logic.{∥∥₁_elim}
use Rattle.std.proofs.lemmas.Bool.{cases_lt, cases_Bool, and_parts, both_ways, eq-eqb, leb-true, false≢true}
use Rattle.std.proofs.lemmas.List.{get_or_past, length-map}
use Rattle.std.proofs.lemmas.Option.{slice_get-get_or, slice_get_past}
use mathlib.Core.HLevel.{Π_prop}
use Rattle.xw_letters.specs.Letter.{folded}
use Rattle.xw_words.specs.declared.fault.WordFault.{WordFault}
use Rattle.xw_words.specs.declared.fault.WordFault.TheVariants as faults
use Rattle.xw_words.specs.declared.bank.Added.{Added}
use Rattle.xw_words.specs.Word.{is_bad_letter, is_word_length, judged}
use Rattle.xw_words.specs.Dictionary.{Entry, Dictionary, IsDictionary, known_words, entry_at, no_entry, add_to, strike_from, answer_on, after_add, after_strike, with_least}
use Rattle.xw_words.proofs.DictionaryLemmas.{IsDictionary-added, IsDictionary-struck, IsDictionary-with_least, letters_folded}
use Rattle.xw_grid.specs.declared.lights.Light.{Light}
use Rattle.xw_grid.specs.Light.{lights_of}
use Rattle.xw_feas.specs.Board.{board_of, light_at}
use Rattle.xw_feas.specs.Shape.{SameCounts}
use Rattle.xw_feas.specs.State.{State, Action, after, grid_after, letter_set, cell_cleared, word_placed, list_written, block_toggled, bar_toggled, symmetry_chosen, word_added, word_struck, least_chosen, answered, add_word, strike_word}
use Rattle.xw_feas.proofs.BoardLemmas.{length-open_cells}
use Rattle.xw_feas.proofs.WellFormedLemmas.{state_formed}
use Rattle.xw_feas.specs.declared.notes.Notes.{Notes}
use Rattle.xw_net.specs.declared.net.Net.{Net}
use Rattle.xw_net.specs.declared.room.Spare.{Spare}
use Rattle.xw_net.specs.Begin.{is_long}
use Rattle.xw_net.specs.Change.{Fields, IsChange, IsIndexOf, before_of, word_of, fields_of}
use Rattle.xw_net.specs.Fit.{lacking, HasRoomBetween}
use Rattle.xw_net.specs.Net.{HasRoomIn, IsSettledFor, known_counts}
use Rattle.xw_net.specs.Room.{HasRoom, HasSpare, counts_of}
use Rattle.xw_net.specs.Settling.{IsToldOf, ToldIsChange, ToldCanSettle, RoomIsKept, RoomIsReserved}
use Rattle.xw_net.proofs.Edits.ChangeFacts.{change_made}
use Rattle.xw_net.proofs.Edits.KeptByEdits.{with_grid-Ok, with_words-Ok}
use Rattle.xw_net.proofs.Edits.ListedCells.{edit_in_grid}
use Rattle.xw_net.proofs.Nets.SettledNets.{filled_room}

-- ---- the dictionary after an edit

module _ (words new : Dictionary) (bytes : List ℕ) (is : IsDictionary words) where
  abbrev word : List ℕ
  word = map folded bytes

  long : is_word_length (length bytes) ≡ true → 2 ≤ length word
  long fits =
      let least : 2 ≤ length bytes = leb-true 2 (length bytes) (and_parts _ _ fits).0 in
      omega (arith, least, length-map bytes folded)

  added : (grade : Option ℕ) → answered (after_add words word grade) (answer_on add_to words (judged (position is_bad_letter bytes) (length bytes) word)) ≡ Ok new → IsDictionary new
  added grade h = by_letters (position is_bad_letter bytes) refl h where
    by_answer : position is_bad_letter bytes ≡ None → is_word_length (length bytes) ≡ true → (answer : Result Added WordFault) → add_to (known_words words (length word)) word ≡ answer → answered (after_add words word grade) answer ≡ Ok new → IsDictionary new
    by_answer good fits (Err fault) found g = cc
    by_answer good fits (Ok outcome) found g =
        let made : after_add words word grade outcome ≡ new = cc in
        subst IsDictionary made (IsDictionary-added words word grade outcome is (long fits) (letters_folded bytes good) found)

    by_length : position is_bad_letter bytes ≡ None → (fits : Bool) → is_word_length (length bytes) ≡ fits
        → answered (after_add words word grade) (answer_on add_to words (cond fits (Ok word) (Err faults.Length))) ≡ Ok new → IsDictionary new
    by_length good true fits g = by_answer good fits (add_to (known_words words (length word)) word) refl g
    by_length good false fits g = cc

    by_letters : (bad : Option ℕ) → position is_bad_letter bytes ≡ bad → answered (after_add words word grade) (answer_on add_to words (judged bad (length bytes) word)) ≡ Ok new → IsDictionary new
    by_letters None good g = by_length good (is_word_length (length bytes)) refl g
    by_letters (Some at) bad g = cc

  struck : answered (after_strike words word) (answer_on strike_from words (judged (position is_bad_letter bytes) (length bytes) word)) ≡ Ok new → IsDictionary new
  struck h = by_letters (position is_bad_letter bytes) h where
    by_answer : is_word_length (length bytes) ≡ true → (answer : Result ℕ WordFault) → answered (after_strike words word) answer ≡ Ok new → IsDictionary new
    by_answer fits (Err fault) g = cc
    by_answer fits (Ok index) g =
        let made : after_strike words word index ≡ new = cc in
        subst IsDictionary made (IsDictionary-struck words word index is (long fits))

    by_length : (fits : Bool) → is_word_length (length bytes) ≡ fits → answered (after_strike words word) (answer_on strike_from words (cond fits (Ok word) (Err faults.Length))) ≡ Ok new → IsDictionary new
    by_length true fits g = by_answer fits (strike_from (known_words words (length word)) word) g
    by_length false fits g = cc

    by_letters : (bad : Option ℕ) → answered (after_strike words word) (answer_on strike_from words (judged bad (length bytes) word)) ≡ Ok new → IsDictionary new
    by_letters None g = by_length (is_word_length (length bytes)) refl g
    by_letters (Some at) g = cc

dictionary_after : (before now : State) (action : Action) → after before action ≡ Ok now → IsDictionary before.words → IsDictionary now.words
dictionary_after before now (letter_set cell letter) made is = subst IsDictionary (sym (with_grid-Ok before now (grid_after before.grid (letter_set cell letter)) made).1) is
dictionary_after before now (cell_cleared cell) made is = subst IsDictionary (sym (with_grid-Ok before now (grid_after before.grid (cell_cleared cell)) made).1) is
dictionary_after before now (word_placed name bytes) made is = subst IsDictionary (sym (with_grid-Ok before now (grid_after before.grid (word_placed name bytes)) made).1) is
dictionary_after before now (list_written list) made is = subst IsDictionary (sym (with_grid-Ok before now (grid_after before.grid (list_written list)) made).1) is
dictionary_after before now (block_toggled cell) made is = subst IsDictionary (sym (with_grid-Ok before now (grid_after before.grid (block_toggled cell)) made).1) is
dictionary_after before now (bar_toggled cell side) made is = subst IsDictionary (sym (with_grid-Ok before now (grid_after before.grid (bar_toggled cell side)) made).1) is
dictionary_after before now (symmetry_chosen kind) made is = subst IsDictionary (sym (with_grid-Ok before now (grid_after before.grid (symmetry_chosen kind)) made).1) is
dictionary_after before now (word_added bytes grade) made is = added before.words now.words bytes is grade (with_words-Ok before now (add_word before.words bytes grade) made).0
dictionary_after before now (word_struck bytes) made is = struck before.words now.words bytes is (with_words-Ok before now (strike_word before.words bytes) made).0
dictionary_after before now (least_chosen grade) made is =
    let next : record before { words = with_least grade before.words } ≡ now = cc in
    subst IsDictionary (ap (λ (state : State). state.words) next) (IsDictionary-with_least grade before.words is)

pub told_is_change : ToldIsChange
told_is_change before now action change told is =
    change_made before now action change told.made told.turned told.back told.formed_before
    (state_formed now.grid now.words is (dictionary_after before now action told.made told.formed_before.dictionary))
    told.cells told.lights told.word

-- ---- the number of known words

index_long : (word : Option (ℕ × ℕ)) (len index : ℕ) → IsIndexOf word len index → is_long word len ≡ true
index_long None len index here = absurd here
index_long (Some word) len index here = eq-eqb word.0 len here.0

module _ (before now : State) (action : Action) (change : Fields) (is : IsChange before now action change) where
  -- a word that is new is the changed one
  more_words : (len index : ℕ) → index < length (known_words now.words len) → length (known_words before.words len) ≤ index → ¬ IsIndexOf change.word len index → ⊥
  more_words len index there past apart = elim (cases_Bool (change.turned len)) [
    | inl on ↦ absurd (omega (arith, there, past, is.counts len on))
    | inr still ↦
        let first = slice_get-get_or (known_words now.words len) index no_entry there in
        let second = slice_get_past (known_words before.words len) index past in
        let same = is.entries len index still apart in
        cc
  ]

  -- no word is lost
  as_many : (len : ℕ) → known_counts before.words len ≤ known_counts now.words len
  as_many len = elim (cases_lt (known_counts now.words len) (known_counts before.words len)) [
    | inr enough ↦ enough
    | inl lost ↦
        let index = length (known_words now.words len) in
        let blank : (entry_at (known_words now.words len) index).word ≡ [] = ap (λ (entry : Entry). entry.word) (get_or_past (known_words now.words len) index no_entry (omega arith)) in
        let spelled : length (entry_at (known_words before.words len) index).word ≡ 0 = ap length (sym (is.spelling len index lost) ∙ blank) in
        let long : length (entry_at (known_words before.words len) index).word ≡ len = (is.formed_before.dictionary.words len).long index no_entry lost in
        let short : len < 2 = omega (arith, spelled, long) in
        omega (arith, lost, ap length (is.formed_before.dictionary.none_shorter len short))
  ]

  both : (len first second : ℕ) (word : Option (ℕ × ℕ)) → (first ≡ second → ⊥) → IsIndexOf word len first → IsIndexOf word len second → ⊥
  both len first second None apart here there = here
  both len first second (Some changed) apart here there = apart (sym here.1 ∙ there.1)

  -- a word that is new has the length of the changed one
  none_short : (len : ℕ) → is_long change.word len ≡ false → known_counts now.words len ≤ known_counts before.words len
  none_short len short = elim (cases_lt (known_counts before.words len) (known_counts now.words len)) [
    | inr few ↦ few
    | inl many ↦ absurd (more_words len (length (known_words before.words len)) many (omega arith) (λ here. both_ways (is_long change.word len) short (index_long change.word len (length (known_words before.words len)) here)))
  ]

  -- at most one word is new
  one_more : (len : ℕ) → known_counts now.words len ≤ known_counts before.words len + 1
  one_more len = elim (cases_lt (known_counts before.words len + 1) (known_counts now.words len)) [
    | inr few ↦ few
    | inl many ↦
        let last = length (known_words before.words len) in
        absurd (more_words len last (omega (arith, many)) (omega arith) (λ here. more_words len (last + 1) many (omega arith) (λ there. both len last (last + 1) change.word (λ e. omega (arith, e)) here there)))
  ]

  -- at most the changed word is new
  pub changed_more : (len : ℕ) → known_counts now.words len ≤ known_counts before.words len + lacking change.word len
  changed_more len = elim (cases_Bool (is_long change.word len)) [
    | inl long ↦ subst (λ b. known_counts now.words len ≤ known_counts before.words len + cond b 1 0) (sym long) (one_more len)
    | inr short ↦ subst (λ b. known_counts now.words len ≤ known_counts before.words len + cond b 1 0) (sym short) (omega (arith, none_short len short))
  ]

  -- without a changed word their numbers stay
  same_counts : change.word ≡ None → SameCounts before.words now.words
  same_counts none len = elim (cases_lt (known_counts before.words len) (known_counts now.words len)) [
    | inr few ↦ omega (arith, few, as_many len)
    | inl more ↦ absurd (more_words len (length (known_words before.words len)) more (omega arith) (λ here. subst (λ word. IsIndexOf word len (length (known_words before.words len))) none here))
  ]

-- ---- the conditions

-- a settled net has a set for each cell
set_for_each : (state : State) (net : Net) → ∥ IsSettledFor state net ∥₁ → vec_len net.letters ≡ length state.grid.squares
set_for_each state net known = ∥∥₁_elim known (Coded-set coded_ℕ _ _) (λ settled. settled.filled.whole.shaped.letters ∙ length-open_cells state.grid)

room_prop : (lights : List Light) (counts : ℕ → ℕ) (net : Net) → IsProp (HasRoom lights counts net)
room_prop lights counts net x y = λ i. record {
  rows = Π_prop (λ light. Π_prop (λ below. le_prop)) x.rows y.rows i;
  base = Π_prop (λ light. Π_prop (λ below. le_prop)) x.base y.base i;
}

own_room : (state : State) (net : Net) → ∥ IsSettledFor state net ∥₁ → HasRoom (lights_of state.grid) (known_counts state.words) net
own_room state net known = ∥∥₁_elim known (room_prop (lights_of state.grid) (known_counts state.words) net) (λ settled. filled_room state.grid state.words net settled.filled)

module _ (before now : State) (action : Action) (lights : List Light) (entries : ℕ → List Entry) (change : Notes) (net : Net) (of : IsToldOf before now action lights entries change net) where
  abbrev described : IsChange before now action (fields_of lights change)
  described = told_is_change before now action (fields_of lights change) of.told of.grid

  counts_read : (len : ℕ) → counts_of entries len ≡ known_counts now.words len
  counts_read len = ap length (of.reads len)

  as_counts : (P : (ℕ → ℕ) → Type 0) → P (known_counts now.words) → P (counts_of entries)
  as_counts P here = subst P (λ i len. sym (counts_read len) i) here

  room_with : SameCounts before.words now.words → HasRoom (before_of lights change) (known_counts now.words) net
  room_with same =
      subst (λ ls. HasRoom ls (known_counts now.words) net) (sym of.told.lights)
      (subst (λ counts. HasRoom (lights_of before.grid) counts net) (λ i len. sym (same len) i) (own_room before net of.settled))

  waiting_none : (waiting : Option Spare) → is_some waiting ≡ false → lights ≡ before_of lights change → HasRoom lights (known_counts now.words) net → HasRoomBetween (before_of lights change) lights (counts_of entries) net waiting
  waiting_none None none same room = (same, as_counts (λ counts. HasRoom lights counts net) room)
  waiting_none (Some spare) none same room = absurd (false≢true (sym none))

  waiting_any : (waiting : Option Spare) → HasRoomIn lights (known_counts now.words) net waiting → (is_some waiting ≡ false → lights ≡ before_of lights change) → (is_some waiting ≡ true → word_of change ≡ None)
      → HasRoomBetween (before_of lights change) lights (counts_of entries) net waiting
  waiting_any None room same none = (same refl, as_counts (λ counts. HasRoom lights counts net) room)
  waiting_any (Some spare) room same none = (
    as_counts (λ counts. HasRoom (before_of lights change) counts net) (room_with (same_counts before now action (fields_of lights change) described (none refl))),
    as_counts (λ counts. HasSpare lights counts net spare) room,
  )

pub told_can_settle : ToldCanSettle
told_can_settle before now action lights entries change net of =
    let change_is : IsChange before now action (fields_of lights change) = told_is_change before now action (fields_of lights change) of.told of.grid in
    record {
      inside = edit_in_grid before now action _ of.told.formed_before.grid of.told.made of.told.cells;
      long = λ light below.
          subst (λ words. All (λ (word : Entry). length word.word ≡ length (light_at (board_of now.grid) light)) words) (sym (of.reads (length (light_at (board_of now.grid) light))))
          ((change_is.formed_now.dictionary.words (length (light_at (board_of now.grid) light))).long);
      cells =
          set_for_each before net of.settled
          ∙ of.told.formed_before.grid.squares
          ∙ ap (λ width. width * before.grid.height) (sym change_is.width)
          ∙ ap (λ height. now.grid.width * height) (sym change_is.height)
          ∙ sym of.grid.squares;
      stood = record {
        stands = record { state = before; are_lights = sym of.told.lights; settled = of.settled };
        near = λ len. (
          omega (arith, as_many before now action (fields_of lights change) change_is len, counts_read before now action lights entries change net of len),
          omega (arith, changed_more before now action (fields_of lights change) change_is len, counts_read before now action lights entries change net of len),
        );
      };
    }

pub room_is_kept : RoomIsKept
room_is_kept before now action lights entries change net of none same counts =
    waiting_none before now action lights entries change net of net.spare none same
    (subst (λ ls. HasRoom ls (known_counts now.words) net) (sym same) (room_with before now action lights entries change net of counts))

pub room_is_reserved : RoomIsReserved
room_is_reserved before now action lights entries change net of = waiting_any before now action lights entries change net of net.spare
