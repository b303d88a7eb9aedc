-- The words that are remembered stay right over edits that keep the lights and the letters of the known words.
use Rattle.std.proofs.Common.{◌≡◌, ◌≢◌, ℕ, ◌+◌, ◌-◌, ◌*◌, List, [], map, length, get_or, Some, None, refl, sym, ap, ◌∙◌, subst, arith, inl, inr}
use Rattle.std.specs.Prelude.{Result, Ok, Err, slice_get, slice_set}
use Rattle.std.proofs.lemmas.Bool.{cases_eq}
use Rattle.xw_words.specs.Columns.{letter_is}
use Rattle.xw_words.specs.Dictionary.{Dictionary, Entry, entry_at, known_words, capped, returned, struck, with_row, with_least}
use Rattle.xw_words.proofs.DictionaryLemmas.{after_set, row-with_least}
use Rattle.xw_words.proofs.KeptRowLemmas.{HaveSameWords, same_words-limited, same_words-set}
use Rattle.xw_grid.specs.EditLaws.{SameShape}
use Rattle.xw_grid.specs.Grid.{Grid}
use Rattle.xw_grid.specs.declared.cell.Cell.{Cell}
use Rattle.xw_grid.specs.declared.lights.Light.{Light}
use Rattle.xw_grid.specs.Light.{lights_of, cells_of}
use Rattle.xw_feas.specs.declared.pending.Pending.{Pending}
use Rattle.xw_feas.specs.declared.pending.Pending.TheVariants.{InPlace as PendingInPlace, Shape, New}
use Rattle.xw_feas.specs.declared.pending.InPlace.{InPlace}
use Rattle.xw_feas.specs.declared.pending.InPlace.TheVariants.{Enter, Place, List as InPlaceList, Symmetry, Return, Strike, Least}
use Rattle.xw_feas.specs.Board.{board_of, indices_of, light_at}
use Rattle.xw_feas.specs.Pending.{in_place_action, pending_action, IsInPlace, IsPending}
use Rattle.xw_feas.specs.Snapshot.{CanSave}
use Rattle.xw_feas.specs.State.{State, Action, after, grid_after, light_of, letter_set, cell_cleared, word_placed, list_written, symmetry_chosen, word_added, word_struck, least_chosen}
use Rattle.xw_feas.specs.declared.edit.Refusal.{Refusal}
use Rattle.xw_feas.specs.WellFormed.{IsWellFormed}
use Rattle.xw_feas.proofs.BoardLemmas.{length-open_cells}
use Rattle.xw_feas.proofs.JudgeLemmas.{with_grid-Ok, grid_of_after, returned_made, struck_made}
use Rattle.xw_feas.proofs.ShapeLemmas.{SameShape-turned}
use Rattle.xw_net.specs.Marks.{IsPositionIn, slot_at}
use Rattle.xw_net.specs.Seen.{IsSeenAt, AreSeen}
use Rattle.xw_net.proofs.Edits.ChangeFacts.{size_kept}
use Rattle.xw_live.specs.Levels.{AreRemembered, IsOfShape, seen_after}
use Rattle.xw_live.proofs.Placements.{remembered_same, remembered_none}

-- ---- known words with the same letters

-- the known words of each length have the letters that they had
abbrev pub HaveSameLetters : Dictionary → Dictionary → Type 0
HaveSameLetters old new = (len : ℕ) → HaveSameWords (known_words old len) (known_words new len)

themselves : (entries : List Entry) → HaveSameWords entries entries
themselves entries = record { long = refl; words = λ index. refl }

pub letters_same : (old new : Dictionary) → new ≡ old → HaveSameLetters old new
letters_same old new same = subst (HaveSameLetters old) (sym same) (λ len. themselves (known_words old len))

-- other entries for the words of one length
letters_with_row : (words : Dictionary) (len : ℕ) (entries : List Entry) → HaveSameWords (known_words words len) entries → HaveSameLetters words (with_row words len entries)
letters_with_row words len entries same k =
    after_set (λ (es : List Entry). HaveSameWords (known_words words k) es) words.rows len entries k [] (λ e. subst (λ n. HaveSameWords (known_words words n) entries) (sym e) same) (themselves (known_words words k))

letters_with_least : (grade : ℕ) (words : Dictionary) → HaveSameLetters words (with_least grade words)
letters_with_least grade words len = same_words-limited (capped grade) (known_words words len) (known_words (with_least grade words) len) (row-with_least grade words len)

-- the dictionary of a state that an edit led to
words_made : (words : Dictionary) (state now : State) (made : Result State Refusal) → made ≡ Ok state → made ≡ Ok now → HaveSameLetters words state.words → HaveSameLetters words now.words
words_made words state now (Ok there) is led same = let e : state ≡ now = cc in subst (λ (s : State). HaveSameLetters words s.words) e same
words_made words state now (Err refusal) is led same = cc

-- an edit in place
letters_in_place : (state now : State) (edit : InPlace) → IsInPlace state edit → after state (in_place_action state edit) ≡ Ok now → HaveSameLetters state.words now.words
letters_in_place state now (Enter cell (Some letter)) is made = letters_same state.words now.words (with_grid-Ok state now (grid_after state.grid (letter_set cell letter)) made).1
letters_in_place state now (Enter cell None) is made = letters_same state.words now.words (with_grid-Ok state now (grid_after state.grid (cell_cleared cell)) made).1
letters_in_place state now (Place light word) is made = letters_same state.words now.words (with_grid-Ok state now (grid_after state.grid (word_placed (light_of state light).name word.now)) made).1
letters_in_place state now (InPlaceList list) is made = letters_same state.words now.words (with_grid-Ok state now (grid_after state.grid (list_written list.now)) made).1
letters_in_place state now (Symmetry kind) is made = letters_same state.words now.words (with_grid-Ok state now (grid_after state.grid (symmetry_chosen kind)) made).1
letters_in_place state now (Return word grade index) is made =
    let len = length word.now in
    let entries = known_words state.words len in
    let entry : Entry = returned state.words.least grade (entry_at entries index) in
    words_made state.words (record state { words = with_row state.words len (slice_set entries index entry) }) now (after state (word_added word.now grade)) (returned_made state word.now grade index is) made
    (letters_with_row state.words len (slice_set entries index entry) (same_words-set entries (slice_set entries index entry) index entry refl refl))
letters_in_place state now (Strike word index) is made =
    let len = length word.now in
    let entries = known_words state.words len in
    let entry : Entry = struck (entry_at entries index) in
    words_made state.words (record state { words = with_row state.words len (slice_set entries index entry) }) now (after state (word_struck word.now)) (struck_made state word.now index is) made
    (letters_with_row state.words len (slice_set entries index entry) (same_words-set entries (slice_set entries index entry) index entry refl refl))
letters_in_place state now (Least grade) is made =
    words_made state.words (record state { words = with_least grade state.words }) now (after state (least_chosen grade)) refl made (letters_with_least grade state.words)

-- states that are equal but for the least grade and the words that it leaves out
letters_saved : (saved now : State) → CanSave saved now → HaveSameLetters now.words saved.words
letters_saved saved now can len =
    let one = letters_with_least 0 now.words len in
    let other = letters_with_least 0 saved.words len in
    let same = ap (λ (words : Dictionary). known_words words len) (can.words 0) in
    record {
      long = sym other.long ∙ sym (ap length same) ∙ one.long;
      words = λ index. sym (other.words index) ∙ sym (ap (λ entries. (entry_at entries index).word) same) ∙ one.words index;
    }

-- ---- remembered words

-- lights of grids of the same shape and width
pub lights_kept : (before now : Grid) → SameShape before now → now.width ≡ before.width → (board_of now).lights ≡ (board_of before).lights
unfolding board_of
lights_kept before now shape width =
    ap (λ w. map (λ (light : Light). map (λ (cell : Cell). (cell.row - 1) * w + (cell.col - 1)) (cells_of light)) (lights_of now)) width
    ∙ ap (map (indices_of before)) shape.lights

-- they are right on each board with the lights, in a dictionary with the letters
module _ (before now : State) (seen : List ℕ) (shape : SameShape before.grid now.grid) (width : now.grid.width ≡ before.grid.width) (letters : HaveSameLetters before.words now.words) where
  seen_at : (len position slot : ℕ) → IsSeenAt (known_words before.words len) position slot seen → IsSeenAt (known_words now.words len) position slot seen
  seen_at len position slot right k below known =
      let same = letters len in
      let index = get_or seen (26 * slot + k) 0 in
      ap (λ word. letter_is (slice_get word position) (65 + k)) (same.words index)
      ∙ right k below (omega (arith, known, same.long))

  abbrev AreRight : List (List ℕ) → Type 0
  AreRight lights =
      (light position : ℕ) → IsPositionIn (record (board_of now.grid) { lights = lights }) light position
      → IsSeenAt (known_words before.words (length (light_at (record (board_of now.grid) { lights = lights }) light))) position (slot_at (record (board_of now.grid) { lights = lights }) light position) seen

  seen_over : AreSeen (board_of before.grid) (known_words before.words) seen → AreSeen (board_of now.grid) (known_words now.words) seen
  seen_over are = record {
    long = are.long ∙ ap (λ n. 52 * n) (length-open_cells before.grid ∙ sym shape.cells ∙ sym (length-open_cells now.grid));
    right = λ light position here.
        seen_at (length (light_at (board_of now.grid) light)) position (slot_at (board_of now.grid) light position)
        (moved light position here);
  } where
    moved : AreRight (board_of now.grid).lights
    moved = subst AreRight (sym (lights_kept before.grid now.grid shape width)) are.right

  pub remembered_over : AreRemembered before seen → AreRemembered now seen
  remembered_over are some = seen_over (are some)

-- ---- edits

width_kept : (before now : State) (action : Action) → IsWellFormed before → after before action ≡ Ok now → now.grid.width ≡ before.grid.width
width_kept before now action formed made = (size_kept before.grid now.grid action formed.grid (grid_of_after before now action made)).width

-- letters were written
pub remembered_written : (before now : State) (action : Action) (old new : List ℕ) → IsWellFormed before → after before action ≡ Ok now → SameShape before.grid now.grid → now.words ≡ before.words → new ≡ old → AreRemembered before old → AreRemembered now new
remembered_written before now action old new formed made shape words same are =
    remembered_over before now new shape (width_kept before now action formed made) (letters_same before.words now.words words) (remembered_same before old new same are)

-- an edit was made
pub remembered_edited : (before now : State) (edit : Pending) (old new : List ℕ) → IsWellFormed before → IsPending before edit → after before (pending_action before edit) ≡ Ok now → IsOfShape edit before.grid now.grid → new ≡ seen_after edit old → AreRemembered before old → AreRemembered now new
remembered_edited before now (PendingInPlace edit) old new formed is made shape same are =
    remembered_over before now new shape (width_kept before now (in_place_action before edit) formed made) (letters_in_place before now edit is made) (remembered_same before old new same are)
remembered_edited before now (Shape edit) old new formed is made shape none are = remembered_none now new none
remembered_edited before now (New word grade) old new formed is made shape none are = remembered_none now new none

-- an allocation failed
pub remembered_unmade : (state : State) (edit : Pending) (old new : List ℕ) → new ≡ seen_after edit old → AreRemembered state old → AreRemembered state new
remembered_unmade state (PendingInPlace edit) old new same are = remembered_same state old new same are
remembered_unmade state (Shape edit) old new none are = remembered_none state new none
remembered_unmade state (New word grade) old new none are = remembered_none state new none

-- a saved state takes the place of one that it can save
pub remembered_saved : (saved now : State) (old new : List ℕ) → CanSave saved now → (saved.grid.width ≡ now.grid.width → new ≡ old) → (saved.grid.width ≢ now.grid.width → new ≡ []) → AreRemembered now old → AreRemembered saved new
remembered_saved saved now old new can kept forgotten are = elim (cases_eq saved.grid.width now.grid.width) [
  | inl width ↦ remembered_over now saved new (SameShape-turned saved.grid now.grid can.shape) width (letters_saved saved now can) (remembered_same now old new (kept width) are)
  | inr apart ↦ remembered_none saved new (forgotten apart)
]
