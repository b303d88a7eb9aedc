-- A letter or a word that is tried leads from a settled net to what a search enters.
use Rattle.std.proofs.Common.{◌≡◌, ℕ, zero, suc, ◌+◌, ◌-◌, ◌*◌, ◌<◌, true, false, cond, ◌&&◌, List, [], ◌∷◌, map, length, get_or, set, length-set, Some, None, refl, sym, ap, ◌∙◌, subst, inl, inr, arith}
use Rattle.std.specs.Prelude.{◌⊎◌, Option, Ok, Contains, is_some, unwrap_or, slice_get, IsTrue}
use Rattle.std.proofs.Math.Logic.{∥∥₁_elim}
use Rattle.std.proofs.lemmas.Bool.{cases_Bool, cases_eq, and_parts, false≢true, true≢false, eqb-true}
use Rattle.std.proofs.lemmas.List.{ext_get_or, get_or-map, get_or-set_same, get_or_default, length-map}
use Rattle.std.proofs.lemmas.Option.{same_Some, slice_get-get_or}
use mathlib.Core.Logic.{∥∥₁_prop}
use Rattle.xw_letters.specs.Letter.{folded}
use Rattle.xw_words.specs.Dictionary.{Dictionary, known_words, entry_at}
use Rattle.xw_grid.specs.declared.cell.Cell.{Cell}
use Rattle.xw_grid.specs.declared.cell.Square.TheVariants.{Block, Open}
use Rattle.xw_grid.specs.declared.lights.Light.{Light}
use Rattle.xw_grid.specs.Edit.{with_entry, set_entry}
use Rattle.xw_grid.specs.EditLaws.{SameShape}
use Rattle.xw_grid.specs.Grid.{Grid, is_inside, is_open as grid_is_open, index_of, cell_in, cell_at, letter_in, entry as grid_entry}
use Rattle.xw_grid.specs.Light.{lights_of, cells_of, no_cell, no_light}
use Rattle.xw_grid.proofs.GridLemmas.{index_of-lt}
use Rattle.xw_grid.proofs.LightLemmas.{length-line}
use Rattle.xw_feas.specs.Board.{Board, board_of, indices_of, square_entry, entry, is_open, allows, agrees, light_at, is_wholly_entered, spelled}
use Rattle.xw_feas.specs.Feasible.{Family, IsSupported, IsFeasibleWord}
use Rattle.xw_feas.specs.PlacedWord.{IsPlaced}
use Rattle.xw_feas.specs.State.{State, Action, after, letter_set, known_placed, light_of}
use Rattle.xw_feas.specs.Trying.{MayTryLetter, MayTryWord}
use Rattle.xw_feas.specs.WellFormed.{IsLaidOut, IsWellFormed}
use Rattle.xw_feas.specs.Written.{cells_named, cells_written, with_entry_of, entries_written}
use Rattle.xw_feas.proofs.BoardLemmas.{agrees_at, agrees_length, length-open_cells, light_at-board, entry-square}
use Rattle.xw_feas.proofs.ChangesLemmas.{open_index}
use Rattle.xw_feas.proofs.Elements.{contains_first, contains_later, contains_mapped}
use Rattle.xw_feas.proofs.LightsLemmas.{found_by_name}
use Rattle.xw_feas.proofs.PlacedLemmas.{words_are_placed}
use Rattle.xw_feas.proofs.PlacingLemmas.{folded_letter, known_letters}
use Rattle.xw_feas.proofs.QueryLemmas.{feasible_agrees}
use Rattle.xw_net.specs.Entered.{IsNew, IsTriedOn}
use Rattle.xw_net.specs.Net.{IsSettledFor}
use Rattle.xw_net.specs.Region.{edited_cells}
use Rattle.xw_net.specs.Update.{AreInside}
use Rattle.xw_net.specs.declared.net.Net.{Net}
use Rattle.xw_net.proofs.Edits.ChangedLights.{entries_of, entry_of_board}
use Rattle.xw_net.proofs.Edits.ChangeFacts.{size_kept}
use Rattle.xw_net.proofs.Edits.KeptByEdits.{IsWrittenAt, by_fault-Ok, grid_of_after, entry_written, entry_after}
use Rattle.xw_net.proofs.Edits.ListedCells.{edit_in_grid, inside_sized}

-- ---- listed elements

-- a cell is listed or not
listed_or_not : (cells : List ℕ) (cell : ℕ) → Contains cells cell ⊎ (¬ Contains cells cell)
listed_or_not [] cell = inr (λ among. absurd (omega (arith, among.1)))
listed_or_not (first ∷ cells) cell = elim (cases_eq first cell) [
  | inl e ↦ inl (0, omega arith, e)
  | inr apart ↦ elim (listed_or_not cells cell) [
    | inl later ↦ inl (contains_later cell first cells later)
    | inr none ↦ inr (in_neither apart none)
  ]
] where
  in_neither : (first ≡ cell → ⊥) → ¬ Contains cells cell → Contains (first ∷ cells) cell → ⊥
  in_neither apart none (zero, below, at) = apart at
  in_neither apart none (suc k, below, at) = none (k, omega (arith, below), at)

-- the cell with a listed index
cell_listed : (grid : Grid) (cells : List Cell) (index : ℕ) → Contains (map (index_of grid) cells) index
    → (cell : Cell) × Contains cells cell × (index_of grid cell ≡ index)
cell_listed grid [] index (k, below, at) = absurd (omega (arith, below))
cell_listed grid (cell ∷ cells) index (zero, below, at) = (cell, contains_first cell cells, at)
cell_listed grid (cell ∷ cells) index (suc k, below, at) =
    let later = cell_listed grid cells index (k, omega (arith, below), at) in
    (later.0, contains_later later.0 cell cells later.1, later.2)

-- ---- the letters of a light

-- the board has a letter in the cell
abbrev HasLetter : Board → ℕ → Type 0
HasLetter board cell = (letter : ℕ) × (entry board cell ≡ Some letter)

-- the cell at a position of a light is empty
abbrev IsEmptyAt : Board → List ℕ → ℕ → Type 0
IsEmptyAt board cells k = entry board (get_or cells k 0) ≡ None

letter_in_some : (o : Option ℕ) → is_some o ≡ true → (letter : ℕ) × (o ≡ Some letter)
letter_in_some None some = absurd (false≢true some)
letter_in_some (Some letter) some = (letter, refl)

entered_at : (board : Board) (cells : List ℕ) → is_wholly_entered board cells ≡ true → (k : ℕ) → k < length cells → HasLetter board (get_or cells k 0)
entered_at board [] whole k below = absurd (omega (arith, below))
entered_at board (cell ∷ cells) whole k below =
    let parts = and_parts (is_some (entry board cell)) (is_wholly_entered board cells) whole in
    at k below parts.0 (entered_at board cells parts.1) where
      at : (k : ℕ) → k < length (cell ∷ cells) → is_some (entry board cell) ≡ true → ((k : ℕ) → k < length cells → HasLetter board (get_or cells k 0))
          → HasLetter board (get_or (cell ∷ cells) k 0)
      at zero below first later = letter_in_some (entry board cell) first
      at (suc k) below first later = later k (omega (arith, below))

-- a light that is not wholly entered has an empty cell
empty_at : (board : Board) (cells : List ℕ) → is_wholly_entered board cells ≡ false → (k : ℕ) × (k < length cells) × IsEmptyAt board cells k
empty_at board [] part = absurd (true≢false part)
empty_at board (cell ∷ cells) part = by_first (empty_at board cells) (entry board cell) refl part where
  by_first : (is_wholly_entered board cells ≡ false → (k : ℕ) × (k < length cells) × IsEmptyAt board cells k)
      → (o : Option ℕ) → entry board cell ≡ o → (is_some o && is_wholly_entered board cells) ≡ false
      → (k : ℕ) × (k < length (cell ∷ cells)) × IsEmptyAt board (cell ∷ cells) k
  by_first later None e rest = (0, omega arith, e)
  by_first later (Some letter) e rest = let found = later rest in (suc found.0, omega (arith, found.1), found.2)

-- the entries of a light are the letters of a word
abbrev HoldsWord : Board → List ℕ → List ℕ → Type 0
HoldsWord board cells word = (k : ℕ) → k < length cells → entry board (get_or cells k 0) ≡ Some (get_or word k 0)

spelled_is : (board : Board) (cells word : List ℕ) → length word ≡ length cells → HoldsWord board cells word → spelled board cells ≡ word
spelled_is board cells word long holds =
    let letter : ℕ → ℕ = λ cell. unwrap_or (entry board cell) 65 in
    ext_get_or 0 (spelled board cells) word (length-map cells letter ∙ sym long) (λ k below.
    let inner : k < length cells = omega (arith, below, length-map cells letter) in
    get_or-map letter cells k 0 0 inner ∙ ap (λ o. unwrap_or o 65) (holds k inner))

-- a word that agrees has the letters that are entered
agreed_at : (board : Board) (cells word : List ℕ) → agrees board cells word ≡ true → (k letter : ℕ) → k < length cells
    → entry board (get_or cells k 0) ≡ Some letter → letter ≡ get_or word k 0
agreed_at board cells word all k letter below is =
    eqb-true letter (get_or word k 0) (sym (ap (λ o. allows o (get_or word k 0)) is) ∙ agrees_at board cells word all k below)

-- ---- lights that new letters complete

-- no entry goes
abbrev KeepsLetters : Board → Board → Type 0
KeepsLetters before now = (cell letter : ℕ) → entry before cell ≡ Some letter → entry now cell ≡ Some letter

-- the family has the letters that are new
abbrev HasNewLetters : Board → Board → Family → Type 0
HasNewLetters before now family = (cell letter : ℕ) → entry before cell ≡ None → entry now cell ≡ Some letter → IsTrue (family.letters cell letter)

-- at most one cell is empty
abbrev HasOneEmpty : Board → List ℕ → Type 0
HasOneEmpty board cells = (j k : ℕ) → j < length cells → k < length cells → IsEmptyAt board cells j → IsEmptyAt board cells k → j ≡ k

-- the light was not wholly entered, and is now
record IsCompleted (before now : Board) (light : ℕ) : Type 0 where
  inside : light < length before.lights
  part : is_wholly_entered before (light_at before light) ≡ false
  whole : is_wholly_entered now (light_at before light) ≡ true

-- the family has what a light spells
abbrev HasSpelled : Board → Board → Family → ℕ → Type 0
HasSpelled before now family light = IsTrue (family.words light (spelled now (light_at before light)))

-- a light whose last empty cell gets a letter of a family spells a word of it
module _ (before now : Board) (dictionary : Dictionary) (family : Family) (supported : IsSupported before dictionary family)
    (kept : KeepsLetters before now) (new : HasNewLetters before now family) where
  by_entry : (cells word : List ℕ) → agrees before cells word ≡ true → (p letter : ℕ) → get_or word p 0 ≡ letter → entry now (get_or cells p 0) ≡ Some letter
      → (k : ℕ) → (IsEmptyAt before cells k → k ≡ p) → k < length cells → (o : Option ℕ) → entry before (get_or cells k 0) ≡ o
      → entry now (get_or cells k 0) ≡ Some (get_or word k 0)
  by_entry cells word all p letter spells is k same below None e =
      ap (λ n. entry now (get_or cells n 0)) (same e) ∙ is ∙ ap Some (sym spells) ∙ ap (λ n. Some (get_or word n 0)) (sym (same e))
  by_entry cells word all p letter spells is k same below (Some one) e =
      kept (get_or cells k 0) one e ∙ ap Some (agreed_at before cells word all k one below e)

  completed : (light : ℕ) → IsCompleted before now light → HasOneEmpty before (light_at before light) → HasSpelled before now family light
  completed light done once =
      let cells = light_at before light in
      let empty = empty_at before cells done.part in
      let cell = get_or cells empty.0 0 in
      let filled = entered_at now cells done.whole empty.0 empty.1 in
      let found = supported.letters_have_words cell filled.0 (new cell filled.0 empty.2 filled.1) light empty.0 done.inside empty.1 refl in
      let all = feasible_agrees before dictionary light found.0 done.part ∣ (family, supported, found.1) ∣₁ in
      let holds : HoldsWord now cells found.0 =
      λ k below. by_entry cells found.0 all empty.0 filled.0 found.2 filled.1 k
      (λ none. once k empty.0 below empty.1 none empty.2) below (entry before (get_or cells k 0)) refl in
      subst (λ w. IsTrue (family.words light w)) (sym (spelled_is now cells found.0 (agrees_length before cells found.0 all) holds)) found.1

-- one letter
module _ (before now : Board) (cell letter : ℕ) (empty : entry before cell ≡ None) (here : entry now cell ≡ Some letter)
    (others : (other : ℕ) → (other ≡ cell → ⊥) → entry now other ≡ entry before other) where
  letter_keeps : KeepsLetters before now
  letter_keeps other one is = elim (cases_eq other cell) [
    | inl e ↦ let never : None ≡ Some one = sym empty ∙ ap (entry before) (sym e) ∙ is in cc
    | inr apart ↦ others other apart ∙ is
  ]

  letter_is_new : (family : Family) → IsTrue (family.letters cell letter) → HasNewLetters before now family
  letter_is_new family has other one none is = elim (cases_eq other cell) [
    | inl e ↦
        let same : letter ≡ one = same_Some letter one (sym here ∙ ap (entry now) (sym e) ∙ is) in
        subst (λ n. IsTrue (family.letters n one)) (sym e) (subst (λ l. IsTrue (family.letters cell l)) same has)
    | inr apart ↦ let never : None ≡ Some one = sym none ∙ sym (others other apart) ∙ is in cc
  ]

  -- an empty cell of a light that is entered now is this cell
  letter_meets : (cells : List ℕ) → is_wholly_entered now cells ≡ true → (k : ℕ) → k < length cells → IsEmptyAt before cells k → get_or cells k 0 ≡ cell
  letter_meets cells whole k below none = elim (cases_eq (get_or cells k 0) cell) [
    | inl e ↦ e
    | inr apart ↦
        let filled = entered_at now cells whole k below in
        let never : None ≡ Some filled.0 = sym none ∙ sym (others (get_or cells k 0) apart) ∙ filled.1 in cc
  ]

  letter_completes : (dictionary : Dictionary) (family : Family) → IsLaidOut before → IsSupported before dictionary family → IsTrue (family.letters cell letter)
      → (light : ℕ) → IsCompleted before now light → HasSpelled before now family light
  letter_completes dictionary family laid_out supported has light done =
      let meets = letter_meets (light_at before light) done.whole in
      completed before now dictionary family supported letter_keeps (letter_is_new family has) light done
      (λ j k in_j in_k none_j none_k. laid_out.distinct light j k in_j in_k (meets j in_j none_j ∙ sym (meets k in_k none_k)))

-- a word that agrees with the letters in its light
module _ (before now : Board) (own : ℕ) (word : List ℕ) (all : agrees before (light_at before own) word ≡ true)
    (placed : HoldsWord now (light_at before own) word) (others : (other : ℕ) → ¬ Contains (light_at before own) other → entry now other ≡ entry before other) where
  -- a cell lies on the word's light
  abbrev IsOnOwn : ℕ → Type 0
  IsOnOwn cell = (k : ℕ) × (k < length (light_at before own)) × (get_or (light_at before own) k 0 ≡ cell)

  on_own : (cell : ℕ) → Contains (light_at before own) cell → IsOnOwn cell
  on_own cell among = (among.0, among.1, get_or_default (light_at before own) among.0 0 cell among.1 ∙ among.2)

  word_keeps : KeepsLetters before now
  word_keeps cell letter is = elim (listed_or_not (light_at before own) cell) [
    | inl among ↦
        let at = on_own cell among in
        let same : letter ≡ get_or word at.0 0 = agreed_at before (light_at before own) word all at.0 letter at.1 (ap (entry before) at.2 ∙ is) in
        ap (entry now) (sym at.2) ∙ placed at.0 at.1 ∙ ap Some (sym same)
    | inr none ↦ others cell none ∙ is
  ]

  word_is_new : (dictionary : Dictionary) (family : Family) → IsSupported before dictionary family → IsTrue (family.words own word)
      → HasNewLetters before now family
  word_is_new dictionary family supported has cell letter none is = elim (listed_or_not (light_at before own) cell) [
    | inl among ↦
        let at = on_own cell among in
        let same : get_or word at.0 0 ≡ letter = same_Some (get_or word at.0 0) letter (sym (placed at.0 at.1) ∙ ap (entry now) at.2 ∙ is) in
        subst (λ n. IsTrue (family.letters n letter)) at.2
        (subst (λ l. IsTrue (family.letters (get_or (light_at before own) at.0 0) l)) same (supported.words_have_letters own word has at.0 at.1))
    | inr outside ↦ let never : None ≡ Some letter = sym none ∙ sym (others cell outside) ∙ is in cc
  ]

  -- an empty cell of a light that is entered now lies on the word's light
  word_meets : (cells : List ℕ) → is_wholly_entered now cells ≡ true → (k : ℕ) → k < length cells → IsEmptyAt before cells k → IsOnOwn (get_or cells k 0)
  word_meets cells whole k below none = elim (listed_or_not (light_at before own) (get_or cells k 0)) [
    | inl among ↦ on_own (get_or cells k 0) among
    | inr outside ↦
        let filled = entered_at now cells whole k below in
        let never : None ≡ Some filled.0 = sym none ∙ sym (others (get_or cells k 0) outside) ∙ filled.1 in cc
  ]

  word_completes : (dictionary : Dictionary) (family : Family) → IsLaidOut before → IsSupported before dictionary family → IsTrue (family.words own word)
      → (light : ℕ) → IsCompleted before now light → HasSpelled before now family light
  word_completes dictionary family laid_out supported has light done = elim (cases_eq light own) [
    | inl e ↦
        let spells : word ≡ spelled now (light_at before own) =
        sym (spelled_is now (light_at before own) word (agrees_length before (light_at before own) word all) placed) in
        subst (λ n. HasSpelled before now family n) (sym e) (subst (λ w. IsTrue (family.words own w)) spells has)
    | inr apart ↦
        let meets = word_meets (light_at before light) done.whole in
        completed before now dictionary family supported word_keeps (word_is_new dictionary family supported has) light done (λ j k in_j in_k none_j none_k.
        let one = meets j in_j none_j in
        let other = meets k in_k none_k in
        laid_out.cross_once light own j one.0 k other.0 apart in_j in_k one.1 other.1 (sym one.2) (sym other.2))
  ]

-- ---- an edit of letters

-- the cells that an edit writes are inside the grid after it
pub tried_inside : (before now : State) (action : Action) (written : List (Cell × Option ℕ)) → IsWellFormed before → after before action ≡ Ok now
    → written ≡ entries_written before.grid action → AreInside now.grid written
tried_inside before now action written formed made are = edit_in_grid before now action written formed.grid made are

module _ (before now : State) (action : Action) (formed : IsWellFormed before) (formed_now : IsWellFormed now) (made : after before action ≡ Ok now) where
  is_written : IsWrittenAt before.grid now.grid (edited_cells before.grid action)
  is_written = size_kept before.grid now.grid action formed.grid (grid_of_after before now action made)

  index_same : (cell : Cell) → index_of now.grid cell ≡ index_of before.grid cell
  index_same cell = ap (λ w. (cell.row - 1) * w + (cell.col - 1)) is_written.width

  -- grids of the same shape and width have the same boards but for their entries
  module _ (shape : SameShape before.grid now.grid) where
    same_lights : (board_of now.grid).lights ≡ (board_of before.grid).lights
    unfolding board_of
    same_lights =
        ap (λ w. map (λ (light : Light). map (λ (cell : Cell). (cell.row - 1) * w + (cell.col - 1)) (cells_of light)) (lights_of now.grid)) is_written.width
        ∙ ap (map (indices_of before.grid)) shape.lights

    same_opens : (k : ℕ) → k < length now.grid.squares → is_open (board_of now.grid) k ≡ is_open (board_of before.grid) k
    same_opens k below =
        sym (open_index now.grid k formed_now.grid (omega (arith, below, formed_now.grid.squares)))
        ∙ ap (λ w. grid_is_open now.grid (cell_in w k)) is_written.width
        ∙ shape.opens (cell_at before.grid k)
        ∙ open_index before.grid k formed.grid (omega (arith, below, shape.cells, formed.grid.squares))

    same_open_cells : (board_of now.grid).open_cells ≡ (board_of before.grid).open_cells
    same_open_cells =
        ext_get_or false (board_of now.grid).open_cells (board_of before.grid).open_cells
        (length-open_cells now.grid ∙ shape.cells ∙ sym (length-open_cells before.grid))
        (λ k below. same_opens k (omega (arith, below, length-open_cells now.grid)))

    pub same_but_entries : board_of now.grid ≡ record (board_of before.grid) { entries = (board_of now.grid).entries }
    unfolding board_of
    same_but_entries = λ i. record { lights = same_lights i; open_cells = same_open_cells i; entries = map square_entry now.grid.squares }

  module _ (written : List (Cell × Option ℕ)) (are : written ≡ entries_written before.grid action) where
    inside_before : (listed : Cell × Option ℕ) → Contains written listed → is_inside before.grid listed.0 ≡ true
    inside_before listed among =
        inside_sized now.grid before.grid (sym is_written.width) (sym is_written.height) listed.0
        (tried_inside before now action written formed made are listed among)

    -- new cells were empty
    new_empty : (cell : ℕ) → IsNew now.grid written cell → entry (board_of before.grid) cell ≡ None
    new_empty cell (listed, among, at) =
        ap (entry (board_of before.grid)) (sym at ∙ index_same listed)
        ∙ sym (entry_of_board before.grid listed (inside_before (listed, None) among))
        ∙ sym (entries_of before.grid (cells_written before.grid action) there.0 (listed, None) there.1 there.2) where
          there : Contains (entries_written before.grid action) (listed, None)
          there = subst (λ ls. Contains ls (listed, None)) are among

    -- an edited cell that was empty is new
    empty_new : (cell : ℕ) → Contains (edited_cells before.grid action) cell → entry (board_of before.grid) cell ≡ None → IsNew now.grid written cell
    empty_new cell among none =
        let cells = cells_written before.grid action in
        let (found, in_cells, at) = cell_listed before.grid cells cell among in
        let listed = with_entry_of before.grid found in
        let there : Contains written listed = subst (λ ls. Contains ls listed) (sym are) (contains_mapped (with_entry_of before.grid) cells found in_cells) in
        let empty : grid_entry before.grid found ≡ None =
        entry_of_board before.grid found (inside_before listed there) ∙ ap (entry (board_of before.grid)) at ∙ none in
        (found, subst (λ o. Contains written (found, o)) empty there, index_same found ∙ at)

    -- the other cells keep their entries, if no entry goes
    others_kept : KeepsLetters (board_of before.grid) (board_of now.grid) → (cell : ℕ) → ¬ IsNew now.grid written cell
        → entry (board_of now.grid) cell ≡ entry (board_of before.grid) cell
    others_kept kept cell old = elim (listed_or_not (edited_cells before.grid action) cell) [
      | inl among ↦ by_entry among (entry (board_of before.grid) cell) refl
      | inr none ↦ entry_after before.grid now.grid (edited_cells before.grid action) cell is_written none
    ] where
      by_entry : Contains (edited_cells before.grid action) cell → (o : Option ℕ) → entry (board_of before.grid) cell ≡ o
          → entry (board_of now.grid) cell ≡ entry (board_of before.grid) cell
      by_entry among None e = absurd (old (empty_new cell among e))
      by_entry among (Some letter) e = kept cell letter e ∙ sym e

    -- an edit that keeps the letters, and after which each light that it completes spells a feasible word
    tried_on : (net : Net) → SameShape before.grid now.grid → now.words ≡ before.words → ∥ IsSettledFor before net ∥₁
        → KeepsLetters (board_of before.grid) (board_of now.grid)
        → ((light : ℕ) → IsCompleted (board_of before.grid) (board_of now.grid) light
        → IsFeasibleWord (board_of before.grid) before.words light (spelled (board_of now.grid) (light_at (board_of before.grid) light)))
        → IsTriedOn now written net
    tried_on net shape words settled kept feasible = record {
      before = before;
      settled = settled;
      words = words;
      formed = formed_now;
      cells = shape.cells;
      entered = record {
        entries_only = same_but_entries shape;
        empty = new_empty;
        others = others_kept kept;
        spelled = λ light inside part whole.
            subst (λ dictionary. IsFeasibleWord (board_of before.grid) dictionary light (spelled (board_of now.grid) (light_at (board_of before.grid) light)))
            (sym words) (feasible light (record { inside = inside; part = part; whole = whole }));
      };
    }

-- ---- a letter

module _ (before now : State) (cell : Cell) (letter : ℕ) (formed : IsWellFormed before) (formed_now : IsWellFormed now)
    (made : after before (letter_set cell letter) ≡ Ok now) where
  letter_here : is_inside before.grid cell ≡ true → entry (board_of now.grid) (index_of before.grid cell) ≡ Some letter
  letter_here inside =
      let index = index_of before.grid cell in
      let new = Open (Some letter) in
      let below : index < length before.grid.squares = omega (arith, index_of-lt before.grid cell inside, formed.grid.squares) in
      let under : index < length (set before.grid.squares index new) = omega (arith, below, length-set before.grid.squares index new) in
      let is_now : with_entry before.grid cell (Some letter) ≡ now.grid =
      entry_written before.grid now.grid cell (Some letter)
      (by_fault-Ok (set_entry before.grid cell (Some letter)) now.grid (grid_of_after before now (letter_set cell letter) made)) in
      subst (λ (grid : Grid). entry (board_of grid) index ≡ Some letter) is_now
      (entry-square (with_entry before.grid cell (Some letter)) index
      ∙ ap letter_in (slice_get-get_or (set before.grid.squares index new) index Block under
      ∙ ap Some (get_or-set_same before.grid.squares index new Block below)))

  only_cell : (other : ℕ) → Contains (index_of before.grid cell ∷ []) other → other ≡ index_of before.grid cell
  only_cell other (zero, below, at) = sym at
  only_cell other (suc k, below, at) = absurd (omega (arith, below))

  letter_elsewhere : (other : ℕ) → (other ≡ index_of before.grid cell → ⊥) → entry (board_of now.grid) other ≡ entry (board_of before.grid) other
  letter_elsewhere other apart =
      let written = is_written before now (letter_set cell letter) formed formed_now made in
      entry_after before.grid now.grid (index_of before.grid cell ∷ []) other written (λ among. apart (only_cell other among))

-- a feasible letter in an empty cell, over a settled net
pub tried_letter : (before now : State) (cell : Cell) (letter : ℕ) (written : List (Cell × Option ℕ)) (net : Net)
    → IsWellFormed before → IsWellFormed now → MayTryLetter before cell letter → after before (letter_set cell letter) ≡ Ok now
    → written ≡ entries_written before.grid (letter_set cell letter) → SameShape before.grid now.grid → now.words ≡ before.words
    → ∥ IsSettledFor before net ∥₁ → IsTriedOn now written net
tried_letter before now cell letter written net formed formed_now may made are shape words settled =
    let old = board_of before.grid in
    let new = board_of now.grid in
    let index = index_of before.grid cell in
    let here = letter_here before now cell letter formed formed_now made may.inside in
    let others = letter_elsewhere before now cell letter formed formed_now made in
    tried_on before now (letter_set cell letter) formed formed_now made written are net shape words settled
    (letter_keeps old new index letter may.empty here others)
    (λ light done. ∥∥₁_elim may.feasible ∥∥₁_prop (λ (family, supported, has).
    ∣ (family, supported, letter_completes old new index letter may.empty here others before.words family formed.board supported has light done) ∣₁))

-- ---- a word

-- a letter in the grid is on the board
letter_on_board : (grid : Grid) (cell : Cell) (letter : ℕ) → grid_entry grid cell ≡ Some letter → entry (board_of grid) (index_of grid cell) ≡ Some letter
letter_on_board grid cell letter is = elim (cases_Bool (is_inside grid cell)) [
  | inl inside ↦ sym (entry_of_board grid cell inside) ∙ is
  | inr outside ↦
      let never : None ≡ Some letter = sym (ap (λ b. letter_in (cond b (slice_get grid.squares (index_of grid cell)) None)) outside) ∙ is in cc
]

module _ (before now : State) (light index : ℕ) (formed : IsWellFormed before) (formed_now : IsWellFormed now) (may : MayTryWord before light index)
    (made : after before (known_placed before light index) ≡ Ok now) where
  abbrev word : List ℕ
  word = (entry_at (known_words before.words (light_of before light).size) index).word

  abbrev own : List ℕ
  own = light_at (board_of before.grid) light

  word_agrees : agrees (board_of before.grid) own word ≡ true
  word_agrees = feasible_agrees (board_of before.grid) before.words light word may.not_entered may.feasible

  own_is : own ≡ map (index_of before.grid) (cells_of (light_of before light))
  own_is = light_at-board before.grid light no_light may.within

  is_placed : IsPlaced before.grid now.grid (light_of before light) word
  is_placed =
      let made_grid = grid_of_after before now (known_placed before light index) made in
      let (found, named, is) = words_are_placed before.grid now.grid (light_of before light).name word formed.grid made_grid in
      let same : found ≡ light = same_Some found light (sym named ∙ found_by_name before.grid light no_light may.within) in
      subst (λ n. IsPlaced before.grid now.grid (get_or (lights_of before.grid) n no_light) word) same is

  word_here : HoldsWord (board_of now.grid) own word
  word_here k below =
      let there = light_of before light in
      let cells = cells_of there in
      let letter = get_or word k 0 in
      let long = length-line there.name.direction there.start there.size in
      let under : k < there.size = omega (arith, below, ap length own_is, length-map cells (index_of before.grid), long) in
      let cell = get_or cells k no_cell in
      let at : get_or own k 0 ≡ index_of now.grid cell =
      ap (λ indices. get_or indices k 0) own_is
      ∙ get_or-map (index_of before.grid) cells k no_cell 0 (omega (arith, under, long))
      ∙ sym (index_same before now (known_placed before light index) formed formed_now made cell) in
      let is = known_letters before light index formed.dictionary may.known k 0 (omega (arith, under, is_placed.long)) in
      ap (entry (board_of now.grid)) at ∙ letter_on_board now.grid cell (folded letter) (is_placed.letters k under) ∙ ap Some (folded_letter letter is)

  edited_are : edited_cells before.grid (known_placed before light index) ≡ own
  edited_are = ap (λ found. map (index_of before.grid) (cells_named before.grid found)) (found_by_name before.grid light no_light may.within) ∙ sym own_is

  word_elsewhere : (other : ℕ) → ¬ Contains own other → entry (board_of now.grid) other ≡ entry (board_of before.grid) other
  word_elsewhere other outside =
      let edited = edited_cells before.grid (known_placed before light index) in
      let written = is_written before now (known_placed before light index) formed formed_now made in
      entry_after before.grid now.grid edited other written (λ among. outside (subst (λ cells. Contains cells other) edited_are among))

-- a feasible word in a light that is not wholly entered, over a settled net
pub tried_word : (before now : State) (light index : ℕ) (written : List (Cell × Option ℕ)) (net : Net)
    → IsWellFormed before → IsWellFormed now → MayTryWord before light index → after before (known_placed before light index) ≡ Ok now
    → written ≡ entries_written before.grid (known_placed before light index) → SameShape before.grid now.grid → now.words ≡ before.words
    → ∥ IsSettledFor before net ∥₁ → IsTriedOn now written net
tried_word before now light index written net formed formed_now may made are shape words settled =
    let old = board_of before.grid in
    let new = board_of now.grid in
    let word = (entry_at (known_words before.words (light_of before light).size) index).word in
    let all = word_agrees before now light index formed formed_now may made in
    let here = word_here before now light index formed formed_now may made in
    let others = word_elsewhere before now light index formed formed_now may made in
    tried_on before now (known_placed before light index) formed formed_now made written are net shape words settled
    (word_keeps old new light word all here others)
    (λ other done. ∥∥₁_elim may.feasible ∥∥₁_prop (λ (family, supported, has).
    ∣ (family, supported, word_completes old new light word all here others before.words family formed.board supported has other done) ∣₁))
