-- The lights that a change touches, and those that are seeds.
use Rattle.std.proofs.Common.{◌≡◌, ℕ, zero, suc, ◌+◌, ◌-◌, ◌*◌, ◌<◌, ◌≤◌, Bool, true, false, cond, not, ◌&&◌, ◌||◌, leb, eqb, List, [], ◌∷◌, ◌++◌, map, length, get_or, Some, None, refl, sym, ◌∙◌, ap, subst, arith, inl, inr}
use Rattle.std.specs.Prelude.{◌⊎◌, Option, Contains, slice_index, slice_get, unwrap_or, is_none, Result, Ok, Err}
use Rattle.std.proofs.lemmas.List.Elements.{Contains-get_or}
use Rattle.std.proofs.lemmas.Bool.{cases_lt, cases_eq, cases_Bool, both_ways, false≢true, or_left, or_right, and_from, eq-eqb, leb-false, or_cases, or_parts, and_parts, false_from_ne_true}
use Rattle.std.proofs.lemmas.List.{get_or_default, get_or-map, length-map, ext_get_or, get_or_append_left}
use Rattle.std.proofs.lemmas.Option.{slice_get_within, unwrap_or-slice_get, slice_get-get_or}
use Rattle.std.proofs.Math.ListN.{get_or-map as get_or-map_any}
use Rattle.xw_bits.specs.Bits.{RowOfBits}
use Rattle.xw_words.specs.Dictionary.{Entry, Dictionary, known_words, entry_at, no_entry, add_answer, strike_answer}
use Rattle.xw_grid.specs.declared.cell.Cell.{Cell}
use Rattle.xw_grid.specs.Grid.{Grid, index_of, is_inside, letter_in, entry as grid_entry}
use Rattle.xw_feas.specs.Board.{Board, board_of, entry, light_at, is_wholly_entered, allows, agrees, is_open}
use Rattle.xw_letters.specs.Letter.{is_capital}
use Rattle.xw_feas.specs.Feasible.{may_stand}
use Rattle.xw_feas.specs.Known.{spellings, actives}
use Rattle.xw_feas.specs.Choices.{is_base_at, IsExact}
use Rattle.xw_feas.specs.State.{State, Action, letter_set, cell_cleared, word_placed, list_written, block_toggled, bar_toggled, symmetry_chosen, word_added, word_struck, least_chosen}
use Rattle.xw_words.specs.declared.fault.WordFault.{WordFault}
use Rattle.xw_words.specs.declared.bank.Added.{Added}
use Rattle.xw_words.specs.declared.bank.Added.TheVariants.{New, Returned}
use Rattle.xw_feas.proofs.BoardLemmas.{entry-square}
use Rattle.xw_net.specs.Change.{Fields, IsChange, with_entry_of, indices_listed, IsIndexOf, word_changed, index_added, index_struck}
use Rattle.xw_net.specs.Base.{base_bits, is_base_word}
use Rattle.xw_net.specs.Spread.{bits_in, IsSpread, HasAll, no_positions}
use Rattle.xw_net.specs.Brought.{IsBase}
use Rattle.xw_net.specs.Revival.{same_light, StandsOn}
use Rattle.xw_net.specs.Region.{IsRegion, cells_written, edited_cells, turns_words, changes_words}
use Rattle.xw_net.specs.Marks.{Marks, IsPositionIn, cell_at, slot_at, known, puts}
use Rattle.xw_net.specs.Begin.{IsEdited, is_long, is_read, may_have, is_seed, is_fill, IsStarted}
use Rattle.xw_net.proofs.BaseRows.NarrowedRows.{common_bits}
use Rattle.xw_net.proofs.Edits.ExactFamilies.{exact_may}
use Rattle.xw_net.proofs.Edits.ChangeFacts.{written_indices}
use Rattle.xw_net.proofs.Costs.RegionIsClosed.{light_stands}
use Rattle.xw_net.proofs.Edits.UntouchedLights.{matched}
use Rattle.xw_net.proofs.Edits.KeptBaseWords.{HaveSameEntries, agrees_same, entered_same}
use Rattle.xw_net.proofs.Edits.SameLights.{same_is_matching}
use Rattle.xw_net.proofs.BaseRows.BaseBits.{length-base_bits}
use Rattle.xw_net.proofs.Edits.KeptByEdits.{IsWrittenAt, entry_after, open_after}

none_of : (o : Option ℕ) → is_none o ≡ true → o ≡ None
none_of None h = refl
none_of (Some n) h = absurd (false≢true h)

unmap : {X : Type 0} (f : X → ℕ) (xs : List X) (k : ℕ) (y : ℕ) → k < length (map f xs) → get_or (map f xs) k y ≡ y → (x : X) × Contains xs x × (f x ≡ y)
unmap f [] k y below at = absurd (omega arith)
unmap f (x ∷ xs) zero y below at = (x, (0, omega arith, refl), at)
unmap f (x ∷ xs) (suc k) y below at =
    let rest = unmap f xs k y (omega arith) at in
    (rest.0, (suc rest.1.0, omega (arith, rest.1.1), rest.1.2), rest.2)

pub entries_of : (grid : Grid) (cells : List Cell) (k : ℕ) (listed : Cell × Option ℕ) → k < length (map (with_entry_of grid) cells) → get_or (map (with_entry_of grid) cells) k listed ≡ listed → listed.1 ≡ grid_entry grid listed.0
entries_of grid [] k listed below at = absurd (omega arith)
entries_of grid (cell ∷ cells) zero listed below at = subst (λ x. x.1 ≡ grid_entry grid x.0) at refl
entries_of grid (cell ∷ cells) (suc k) listed below at = entries_of grid cells k listed (omega arith) at

pub entry_of_board : (grid : Grid) (cell : Cell) → is_inside grid cell ≡ true → grid_entry grid cell ≡ entry (board_of grid) (index_of grid cell)
entry_of_board grid cell inside = ap (λ b. letter_in (cond b (slice_get grid.squares (index_of grid cell)) None)) inside ∙ sym (entry-square grid (index_of grid cell))

-- lists with the same elements
some_entry : (a b : Entry) → Some a ≡ Some b → a ≡ b
some_entry a b h = ap (λ o. unwrap_or o a) h

pub same_elements : (xs ys : List Entry) → ((k : ℕ) → slice_get xs k ≡ slice_get ys k) → xs ≡ ys
same_elements [] [] h = refl
same_elements [] (y ∷ ys) h = let never : None ≡ Some y = h 0 in cc
same_elements (x ∷ xs) [] h = let never : Some x ≡ None = h 0 in cc
same_elements (x ∷ xs) (y ∷ ys) h = ap (λ z. z ∷ xs) (some_entry x y (h 0)) ∙ ap (λ zs. y ∷ zs) (same_elements xs ys (λ k. h (suc k)))

module _ (before now : State) (action : Action) (change : Fields) (is : IsChange before now action change) (letters : ℕ → ℕ → Bool) (queued seed : ℕ → Bool)
    (inside : (listed : Cell × Option ℕ) → Contains change.cells listed → is_inside before.grid listed.0 ≡ true)
    (edited : (listed : Cell × Option ℕ) → Contains change.cells listed → IsEdited (board_of now.grid) letters queued seed (index_of now.grid listed.0) listed.1) where
  abbrev old_board : Board
  old_board = board_of before.grid

  abbrev new_board : Board
  new_board = board_of now.grid

  entry_off : (cell : ℕ) → ¬ Contains (indices_listed before.grid change.cells) cell → entry new_board cell ≡ entry old_board cell
  entry_off cell outside = entry_after before.grid now.grid (indices_listed before.grid change.cells) cell (record { width = is.width; height = is.height; squares = is.squares }) outside

  -- the cell is listed
  record IsListed (cell : ℕ) : Type 0 where
    pub listed : Cell × Option ℕ
    pub has : Contains change.cells listed
    pub at : index_of now.grid listed.0 ≡ cell
    pub old : listed.1 ≡ entry old_board cell

  listed_at : (cell : ℕ) → Contains (indices_listed before.grid change.cells) cell → IsListed cell
  listed_at cell (k, below, at) =
      let found = unmap (λ (listed : Cell × Option ℕ). index_of before.grid listed.0) change.cells k cell below at in
      let written : Contains (map (with_entry_of before.grid) (cells_written before.grid action)) found.0 = subst (λ ls. Contains ls found.0) is.cells found.1 in
      record {
        listed = found.0;
        has = found.1;
        at = ap (λ w. (found.0.0.row - 1) * w + (found.0.0.col - 1)) is.width ∙ found.2;
        old = entries_of before.grid (cells_written before.grid action) written.0 found.0 written.1 written.2 ∙ entry_of_board before.grid found.0.0 (inside found.0 found.1) ∙ ap (entry old_board) found.2;
      }

  meets : (light cell : ℕ) → (found : Contains (light_at new_board light) cell) → cell_at new_board light found.0 ≡ cell
  meets light cell found = get_or_default (light_at new_board light) found.0 0 cell found.1 ∙ found.2

  pub changed_entry_kept : (light cell entered : ℕ) → light < length new_board.lights → seed light ≡ false → Contains (light_at new_board light) cell → entry old_board cell ≡ Some entered → entry new_board cell ≡ entry old_board cell
  changed_entry_kept light cell entered in_board no_seed in_cells had = entry_off cell (λ has.
      let this = listed_at cell has in
      let filled : is_fill new_board (index_of now.grid this.listed.0) this.listed.1 ≡ false = ap (λ o. is_fill new_board (index_of now.grid this.listed.0) o) (this.old ∙ had) in
      both_ways _ no_seed ((edited this.listed this.has).marked filled light in_cells.0 (in_board, in_cells.1) (meets light cell in_cells ∙ sym this.at)))

  pub changed_entry_calm : (light cell : ℕ) → light < length new_board.lights → queued light ≡ false → Contains (light_at new_board light) cell → entry new_board cell ≡ entry old_board cell
  changed_entry_calm light cell in_board calm in_cells = entry_off cell (λ has.
      let this = listed_at cell has in
      both_ways _ calm ((edited this.listed this.has).queued light in_cells.0 (in_board, in_cells.1) (meets light cell in_cells ∙ sym this.at)))

  -- if no word of its length has changed, a light has the same known words as before
  pub changed_words_same : (light : ℕ) → change.turned (length (light_at new_board light)) ≡ false → is_long change.word (length (light_at new_board light)) ≡ false → known_words now.words (length (light_at new_board light)) ≡ known_words before.words (length (light_at new_board light))
  changed_words_same light still short = same_elements _ _ (λ k. is.entries (length (light_at new_board light)) k still (not_there k change.word refl)) where
    not_there : (k : ℕ) (word : Option (ℕ × ℕ)) → change.word ≡ word → ¬ IsIndexOf change.word (length (light_at new_board light)) k
    not_there k None none found = subst (λ w. IsIndexOf w (length (light_at new_board light)) k) none found
    not_there k (Some word) some found =
        let there = subst (λ w. IsIndexOf w (length (light_at new_board light)) k) some found in
        both_ways _ short (ap (λ w. is_long w (length (light_at new_board light))) some ∙ eq-eqb word.0 (length (light_at new_board light)) there.0)

  module _ (calm : (light : ℕ) → light < length new_board.lights → queued light ≡ false → may_have change.word (length (light_at new_board light)) (base_bits new_board (light_at new_board light) (known_words now.words (length (light_at new_board light)))) ≡ false)
      (seeds : (light : ℕ) → light < length new_board.lights → queued light ≡ true → is_seed new_board change.word (light_at new_board light) (base_bits new_board (light_at new_board light) (known_words now.words (length (light_at new_board light)))) ≡ true → seed light ≡ true)
      (turned : (light : ℕ) → light < length new_board.lights → change.back ≡ true → change.turned (length (light_at new_board light)) ≡ true → seed light ≡ true) where
    pub changed_entered : (light : ℕ) → light < length new_board.lights → queued light ≡ true → is_wholly_entered new_board (light_at new_board light) ≡ true → seed light ≡ true
    changed_entered light in_board is_queued whole = seeds light in_board is_queued (or_left _ _ whole)

    -- two rows of known words differ in one word, whose base flag is clear
    record IsRowBut (cells : List ℕ) : Type 0 where
      pub index : ℕ
      pub inner : index + 1 < length (known_words now.words (length cells))
      pub off : get_or (base_bits new_board cells (known_words now.words (length cells))) index false ≡ false
      pub others : (k : ℕ) → (k ≡ index → ⊥) → slice_get (known_words now.words (length cells)) k ≡ slice_get (known_words before.words (length cells)) k

    -- the changed word is not a base word of a light that is not a seed
    pub changed_has_not : (light : ℕ) → light < length new_board.lights → seed light ≡ false → may_have change.word (length (light_at new_board light)) (base_bits new_board (light_at new_board light) (known_words now.words (length (light_at new_board light)))) ≡ false
    changed_has_not light in_board no_seed = elim (cases_Bool (queued light)) [
      | inr is_calm ↦ calm light in_board is_calm
      | inl is_queued ↦ false_from_ne_true _ (λ has. both_ways _ no_seed (seeds light in_board is_queued (or_right (is_wholly_entered new_board (light_at new_board light)) _ has)))
    ]

    -- no word came back in a length that the least grade turned, if its light is not a seed
    none_back : (light : ℕ) → light < length new_board.lights → seed light ≡ false → change.turned (length (light_at new_board light)) ≡ true → change.back ≡ false
    none_back light in_board no_seed on = false_from_ne_true _ (λ back. both_ways _ no_seed (turned light in_board back on))

    row_cases : (light : ℕ) → light < length new_board.lights → seed light ≡ false → change.turned (length (light_at new_board light)) ≡ false → (known_words now.words (length (light_at new_board light)) ≡ known_words before.words (length (light_at new_board light))) ⊎ IsRowBut (light_at new_board light)
    row_cases light in_board no_seed still = by_word change.word refl where
      bits : List Bool
      bits = base_bits new_board (light_at new_board light) (known_words now.words (length (light_at new_board light)))

      by_word : (word : Option (ℕ × ℕ)) → change.word ≡ word → (known_words now.words (length (light_at new_board light)) ≡ known_words before.words (length (light_at new_board light))) ⊎ IsRowBut (light_at new_board light)
      by_word None none = inl (changed_words_same light still (ap (λ w. is_long w (length (light_at new_board light))) none))
      by_word (Some word) some = elim (cases_Bool (eqb word.0 (length (light_at new_board light)))) [
        | inr apart ↦ inl (changed_words_same light still (ap (λ w. is_long w (length (light_at new_board light))) some ∙ apart))
        | inl e ↦
            let no : may_have (Some word) (length (light_at new_board light)) bits ≡ true → ⊥ = λ h. both_ways _ (changed_has_not light in_board no_seed) (ap (λ w. may_have w (length (light_at new_board light)) bits) some ∙ h) in
            inr (record {
              index = word.1;
              inner = elim (cases_Bool (leb (length bits) (word.1 + 1))) [
                | inl last ↦ absurd (no (and_from _ _ e (or_left _ _ last)))
                | inr not_last ↦ subst (λ n. word.1 + 1 < n) (length-base_bits new_board (light_at new_board light) (known_words now.words (length (light_at new_board light)))) (leb-false (length bits) (word.1 + 1) not_last)
              ];
              off = elim (cases_Bool (get_or bits word.1 false)) [
                | inl on ↦ absurd (no (and_from _ _ e (or_right (leb (length bits) (word.1 + 1)) _ on)))
                | inr is_off ↦ is_off
              ];
              others = λ k apart. is.entries (length (light_at new_board light)) k still (λ found. apart (sym (subst (λ w. IsIndexOf w (length (light_at new_board light)) k) some found).1));
            })
      ]

    -- the number of known words stays
    at_least : (xs ys : List Entry) (index : ℕ) → index < length ys → ((k : ℕ) → (k ≡ index → ⊥) → slice_get xs k ≡ slice_get ys k) → length xs ≤ length ys
    at_least xs ys index below same = elim (cases_lt (length ys) (length xs)) [
      | inr done ↦ done
      | inl more ↦
          let within = slice_get_within ys (length ys) (get_or xs (length ys) no_entry) (sym (same (length ys) (λ e. absurd (omega arith))) ∙ slice_get-get_or xs (length ys) no_entry more) in
          absurd (omega arith)
    ]

    -- rows of the same length spell the same words
    spelled_alike : (len : ℕ) → length (known_words now.words len) ≡ length (known_words before.words len) → spellings now.words len ≡ spellings before.words len
    spelled_alike len long =
        let new_row = known_words now.words len in
        let old_row = known_words before.words len in
        let long_new = length-map new_row (λ (word : Entry). word.word) in
        let long_old = length-map old_row (λ (word : Entry). word.word) in
        ext_get_or [] (map (λ (word : Entry). word.word) new_row) (map (λ (word : Entry). word.word) old_row) (omega arith)
        (λ i lt. get_or-map (λ (word : Entry). word.word) new_row i no_entry [] (omega arith)
        ∙ is.spelling len i (omega arith)
        ∙ sym (get_or-map (λ (word : Entry). word.word) old_row i no_entry [] (omega arith)))

    pub changed_spelled : (light : ℕ) → light < length new_board.lights → seed light ≡ false → spellings now.words (length (light_at new_board light)) ≡ spellings before.words (length (light_at new_board light))
    changed_spelled light in_board no_seed = elim (cases_Bool (change.turned (length (light_at new_board light)))) [
      | inl on ↦ spelled_alike (length (light_at new_board light)) (is.counts (length (light_at new_board light)) on)
      | inr still ↦ elim (row_cases light in_board no_seed still) [
        | inl same ↦ ap (map (λ (word : Entry). word.word)) same
        | inr but ↦
            let new_row = known_words now.words (length (light_at new_board light)) in
            let old_row = known_words before.words (length (light_at new_board light)) in
            let within = slice_get_within old_row (but.index + 1) (get_or new_row (but.index + 1) no_entry) (sym (but.others (but.index + 1) (λ e. absurd (omega arith))) ∙ slice_get-get_or new_row (but.index + 1) no_entry but.inner) in
            let most = at_least new_row old_row but.index (omega arith) but.others in
            let least = at_least old_row new_row but.index (omega (arith, but.inner)) (λ k apart. sym (but.others k apart)) in
            spelled_alike (length (light_at new_board light)) (omega (arith, most, least))
      ]
    ]

    -- the active flag of a word
    flag_of : (words : Dictionary) (len choice : ℕ) → get_or (actives words len) choice false ≡ (entry_at (known_words words len) choice).active
    flag_of words len choice = get_or-map_any (λ (word : Entry). word.active) (known_words words len) choice no_entry

    pub changed_active : (light choice : ℕ) → light < length new_board.lights → seed light ≡ false → is_base_at new_board now.words light choice ≡ true → get_or (actives now.words (length (light_at new_board light))) choice false ≡ true → get_or (actives before.words (length (light_at new_board light))) choice false ≡ true
    changed_active light choice in_board no_seed base act = elim (cases_Bool (change.turned (length (light_at new_board light)))) [
      | inl on ↦
          let len = length (light_at new_board light) in
          flag_of before.words (length (light_at new_board light)) choice
          ∙ is.gone len choice (none_back light in_board no_seed on) on (sym (flag_of now.words (length (light_at new_board light)) choice) ∙ act)
      | inr still ↦ elim (row_cases light in_board no_seed still) [
        | inl same ↦ ap (λ (r : List Entry). get_or (map (λ (word : Entry). word.active) r) choice false) (sym same) ∙ act
        | inr but ↦ elim (cases_eq choice but.index) [
          | inl e ↦
              let bits = base_bits new_board (light_at new_board light) (known_words now.words (length (light_at new_board light))) in
              let below : choice < length bits = omega (arith, e, but.inner, length-base_bits new_board (light_at new_board light) (known_words now.words (length (light_at new_board light)))) in
              let on : get_or bits choice false ≡ true = sym (get_or_append_left bits (is_wholly_entered new_board (light_at new_board light) ∷ []) false choice below) ∙ base in
              absurd (both_ways _ but.off (ap (λ n. get_or bits n false) (sym e) ∙ on))
          | inr apart ↦
              let new_row = known_words now.words (length (light_at new_board light)) in
              let old_row = known_words before.words (length (light_at new_board light)) in
              let same : get_or new_row choice no_entry ≡ get_or old_row choice no_entry = sym (unwrap_or-slice_get new_row choice no_entry) ∙ ap (λ o. unwrap_or o no_entry) (but.others choice apart) ∙ unwrap_or-slice_get old_row choice no_entry in
              flag_of before.words (length (light_at new_board light)) choice ∙ ap (λ (word : Entry). word.active) (sym same) ∙ sym (flag_of now.words (length (light_at new_board light)) choice) ∙ act
        ]
      ]
    ]

-- ---- base rows

pub base_bits_same : (before after : Board) (cells : List ℕ) (entries : List Entry) → HaveSameEntries before after cells → base_bits after cells entries ≡ base_bits before cells entries
base_bits_same before after cells [] same = refl
base_bits_same before after cells (word ∷ entries) same =
    ap (λ b. is_base_word after cells word ∷ b) (base_bits_same before after cells entries same)
    ∙ ap (λ b. (not b && (word.active && agrees after cells word.word)) ∷ base_bits before cells entries) (entered_same before after cells same)
    ∙ ap (λ b. (not (is_wholly_entered before cells) && (word.active && b)) ∷ base_bits before cells entries) (agrees_same before after cells word.word same)

module _ (before now : State) (action : Action) (change : Fields) (is : IsChange before now action change) (letters : ℕ → ℕ → Bool) (queued seed : ℕ → Bool)
    (inside : (listed : Cell × Option ℕ) → Contains change.cells listed → is_inside before.grid listed.0 ≡ true)
    (edited : (listed : Cell × Option ℕ) → Contains change.cells listed → IsEdited (board_of now.grid) letters queued seed (index_of now.grid listed.0) listed.1)
    (new : (light : ℕ) → light < length (board_of now.grid).lights → same_light before.grid now.grid light ≡ None → queued light ≡ true) where
  -- a light that the edit does not touch keeps its base row
  pub changed_base : (base_before base base' : List RowOfBits)
      → ((light : ℕ) → light < length (board_of now.grid).lights → change.turned (length (light_at (board_of now.grid) light)) ≡ true → queued light ≡ true)
      → IsBase (board_of before.grid) before.words base_before
      → ((light other : ℕ) → light < length (board_of now.grid).lights → same_light before.grid now.grid light ≡ Some other → is_long change.word (length (light_at (board_of now.grid) light)) ≡ false → bits_in base light ≡ bits_in base_before other)
      → ((light : ℕ) → light < length (board_of now.grid).lights → is_read (board_of now.grid) change.word queued light ≡ true → bits_in base' light ≡ base_bits (board_of now.grid) (light_at (board_of now.grid) light) (known_words now.words (length (light_at (board_of now.grid) light))))
      → ((light : ℕ) → is_read (board_of now.grid) change.word queued light ≡ false → bits_in base' light ≡ bits_in base light)
      → IsBase (board_of now.grid) now.words base'
  changed_base base_before base base' turned was moved on off light in_board = elim (cases_Bool (is_read (board_of now.grid) change.word queued light)) [
    | inl read ↦ on light in_board read
    | inr not_read ↦ by_match not_read (same_light before.grid now.grid light) refl
  ] where
    by_match : is_read (board_of now.grid) change.word queued light ≡ false → (o : Option ℕ) → same_light before.grid now.grid light ≡ o → bits_in base' light ≡ base_bits (board_of now.grid) (light_at (board_of now.grid) light) (known_words now.words (length (light_at (board_of now.grid) light)))
    by_match not_read None at = absurd (both_ways _ (or_parts (queued light) _ not_read).0 (new light in_board at))
    by_match not_read (Some other) at =
        let calm = (or_parts (queued light) (is_long change.word (length (light_at (board_of now.grid) light))) not_read).0 in
        let short = (or_parts (queued light) (is_long change.word (length (light_at (board_of now.grid) light))) not_read).1 in
        let still : change.turned (length (light_at (board_of now.grid) light)) ≡ false = false_from_ne_true _ (λ on. both_ways _ calm (turned light in_board on)) in
        let matching = same_is_matching before.grid now.grid is.width in
        let cells = matching.cells light other in_board at in
        off light not_read ∙ moved light other in_board at short ∙ was other (matching.lights light other in_board at)
        ∙ ap (λ cs. base_bits (board_of before.grid) cs (known_words before.words (length cs))) (sym cells)
        ∙ ap (base_bits (board_of before.grid) (light_at (board_of now.grid) light)) (sym (changed_words_same before now action change is letters queued seed inside edited light still short))
        ∙ sym (base_bits_same (board_of before.grid) (board_of now.grid) (light_at (board_of now.grid) light) (known_words now.words (length (light_at (board_of now.grid) light)))
        (λ cell in_cells. changed_entry_calm before now action change is letters queued seed inside edited light cell in_board calm in_cells))

  -- ---- letters

  may_same : (cell letter : ℕ) → ¬ Contains (indices_listed before.grid change.cells) cell → may_stand (board_of now.grid) cell letter ≡ may_stand (board_of before.grid) cell letter
  may_same cell letter outside =
      let written : IsWrittenAt before.grid now.grid (indices_listed before.grid change.cells) = record { width = is.width; height = is.height; squares = is.squares } in
      ap (λ o. (o && is_capital letter) && allows (entry (board_of now.grid) cell) letter) (open_after before.grid now.grid (indices_listed before.grid change.cells) cell written outside)
      ∙ ap (λ e. (is_open (board_of before.grid) cell && is_capital letter) && allows e letter) (entry_after before.grid now.grid (indices_listed before.grid change.cells) cell written outside)

  -- each letter in the net is allowed, if it was allowed before
  pub changed_letters_may : (settled : ℕ → ℕ → Bool) → ((cell letter : ℕ) → settled cell letter ≡ true → may_stand (board_of before.grid) cell letter ≡ true)
      → ((cell letter : ℕ) → letters cell letter ≡ true → (settled cell letter || may_stand (board_of now.grid) cell letter) ≡ true)
      → (cell letter : ℕ) → letters cell letter ≡ true → may_stand (board_of now.grid) cell letter ≡ true
  changed_letters_may settled might from cell letter stands = elim (or_cases (settled cell letter) (may_stand (board_of now.grid) cell letter) (from cell letter stands)) [
    | inr may ↦ may
    | inl stood ↦ elim (cases_Bool (may_stand (board_of now.grid) cell letter)) [
      | inl may ↦ may
      | inr may_not ↦ may_same cell letter (λ has.
          let this = listed_at before now action change is letters queued seed inside edited cell has in
          both_ways _ may_not (subst (λ n. may_stand (board_of now.grid) n letter ≡ true) this.at ((edited this.listed this.has).may letter (ap (λ n. letters n letter) this.at ∙ stands)))) ∙ might cell letter stood
    ]
  ]

  -- a letter that is allowed, and was not before, is in the net, if only open cells were filled
  pub changed_letters_come : ((listed : Cell × Option ℕ) → Contains change.cells listed → is_fill (board_of now.grid) (index_of now.grid listed.0) listed.1 ≡ true → is_open (board_of before.grid) (index_of now.grid listed.0) ≡ true)
      → (cell letter : ℕ) → may_stand (board_of now.grid) cell letter ≡ true → ¬ (may_stand (board_of before.grid) cell letter ≡ true) → letters cell letter ≡ true
  changed_letters_come opened cell letter may might_not = elim (cases_Bool (letters cell letter)) [
    | inl stands ↦ stands
    | inr stands_not ↦ absurd (might_not (sym (may_same cell letter (λ has.
        let this = listed_at before now action change is letters queued seed inside edited cell has in
        elim (cases_Bool (is_fill (board_of now.grid) (index_of now.grid this.listed.0) this.listed.1)) [
          | inr no_fill ↦ both_ways _ stands_not (subst (λ n. letters n letter ≡ true) this.at ((edited this.listed this.has).all no_fill letter (subst (λ n. may_stand (board_of now.grid) n letter ≡ true) (sym this.at) may)))
          | inl fill ↦
              let was_open : is_open (board_of before.grid) cell ≡ true = subst (λ n. is_open (board_of before.grid) n ≡ true) this.at (opened this.listed this.has fill) in
              let empty = none_of this.listed.1 (and_parts (is_none this.listed.1) _ fill).0 in
              let parts = and_parts (is_open (board_of now.grid) cell && is_capital letter) (allows (entry (board_of now.grid) cell) letter) may in
              let capital = (and_parts (is_open (board_of now.grid) cell) (is_capital letter) parts.0).1 in
              might_not (and_from _ _ (and_from _ _ was_open capital) (ap (λ e. allows e letter) (sym this.old ∙ empty)))
        ])) ∙ may))
  ]

-- ---- the region

mapped : {X : Type 0} (f : X → ℕ) (xs : List X) (x : X) (k : ℕ) → k < length xs → get_or xs k x ≡ x → Contains (map f xs) (f x)
mapped f [] x k below at = absurd (omega arith)
mapped f (y ∷ xs) x zero below at = (0, omega arith, ap f at)
mapped f (y ∷ xs) x (suc k) below at = let rest = mapped f xs x k (omega arith) at in (suc rest.0, omega (arith, rest.1), rest.2)

first_of : (len index word_len at : ℕ) → ◌≡◌ {A = Option (ℕ × ℕ)} (Some (len, index)) (Some (word_len, at)) → len ≡ word_len
first_of len index word_len at h = ap (λ (o : Option (ℕ × ℕ)). (unwrap_or o (len, index)).0) h

added_len : (len word_len index : ℕ) (answer : Result Added WordFault) → index_added len answer ≡ Some (word_len, index) → eqb len word_len ≡ true
added_len len word_len index (Ok (New at)) h = eq-eqb len word_len (first_of len at word_len index h)
added_len len word_len index (Ok (Returned at)) h = eq-eqb len word_len (first_of len at word_len index h)
added_len len word_len index (Err fault) h = cc

struck_len : (len word_len index : ℕ) (answer : Result ℕ WordFault) → index_struck len answer ≡ Some (word_len, index) → eqb len word_len ≡ true
struck_len len word_len index (Ok at) h = eq-eqb len word_len (first_of len at word_len index h)
struck_len len word_len index (Err fault) h = cc

changed_len : (words : Dictionary) (action : Action) (word_len index : ℕ) → word_changed words action ≡ Some (word_len, index) → changes_words words action word_len ≡ true
changed_len words (word_added word grade) word_len index h = added_len (length word) word_len index (add_answer words word) h
changed_len words (word_struck word) word_len index h = struck_len (length word) word_len index (strike_answer words word) h
changed_len words (letter_set cell letter) word_len index h = cc
changed_len words (cell_cleared cell) word_len index h = cc
changed_len words (word_placed name word) word_len index h = cc
changed_len words (list_written list) word_len index h = cc
changed_len words (block_toggled cell) word_len index h = cc
changed_len words (bar_toggled cell side) word_len index h = cc
changed_len words (symmetry_chosen kind) word_len index h = cc
changed_len words (least_chosen grade) word_len index h = cc

turned_len : (words : Dictionary) (action : Action) (len : ℕ) → turns_words words action len ≡ true → changes_words words action len ≡ true
turned_len words (word_added word grade) len on = absurd (false≢true on)
turned_len words (word_struck word) len on = absurd (false≢true on)
turned_len words other len on = on

module _ (before now : State) (action : Action) (change : Fields) (is : IsChange before now action change) (member : List ℕ → Bool) (region : IsRegion before now action member) where
  -- the new lights, those through edited cells, those with the length of the changed word, and those with other active words
  -- are in the region
  pub new_within : (light : ℕ) → light < length (board_of now.grid).lights → same_light before.grid now.grid light ≡ None → member (light_at (board_of now.grid) light) ≡ true
  new_within light in_board at = region.come (light_at (board_of now.grid) light) (light_stands now light in_board) (λ stood.
      let found = matched before now action is.formed_before.grid is.made light in_board stood in
      let never : None ≡ Some found.0 = sym at ∙ found.2 in
      cc)

  pub edited_within : (listed : Cell × Option ℕ) (light position : ℕ) → Contains change.cells listed → IsPositionIn (board_of now.grid) light position → cell_at (board_of now.grid) light position ≡ index_of now.grid listed.0 → member (light_at (board_of now.grid) light) ≡ true
  edited_within listed light position has here at =
      let among = mapped (λ (l : Cell × Option ℕ). index_of before.grid l.0) change.cells listed has.0 has.1 has.2 in
      let cells : indices_listed before.grid change.cells ≡ edited_cells before.grid action = ap (indices_listed before.grid) is.cells ∙ written_indices before.grid action in
      let cell : cell_at (board_of now.grid) light position ≡ index_of before.grid listed.0 = at ∙ ap (λ w. (listed.0.row - 1) * w + (listed.0.col - 1)) is.width in
      region.edited (light_at (board_of now.grid) light) (cell_at (board_of now.grid) light position) (inr (light_stands now light here.0)) (Contains-get_or (light_at (board_of now.grid) light) position 0 here.1)
      (subst (Contains (edited_cells before.grid action)) (sym cell) (subst (λ ps. Contains ps (index_of before.grid listed.0)) cells among))

  pub long_within : (word_len index light : ℕ) → change.word ≡ Some (word_len, index) → light < length (board_of now.grid).lights → length (light_at (board_of now.grid) light) ≡ word_len → member (light_at (board_of now.grid) light) ≡ true
  long_within word_len index light some in_board long =
      region.long (light_at (board_of now.grid) light) (inr (light_stands now light in_board))
      (ap (changes_words before.words action) long ∙ changed_len before.words action word_len index (sym is.word ∙ some))

  pub turned_within : (light : ℕ) → light < length (board_of now.grid).lights → change.turned (length (light_at (board_of now.grid) light)) ≡ true → member (light_at (board_of now.grid) light) ≡ true
  turned_within light in_board on =
      region.long (light_at (board_of now.grid) light) (inr (light_stands now light in_board))
      (turned_len before.words action (length (light_at (board_of now.grid) light)) (sym (is.turned (length (light_at (board_of now.grid) light))) ∙ on))

-- ---- the state at which a revival starts

module _ (before now : State) (action : Action) (change : Fields) (is : IsChange before now action change) (settled start : Marks) (seed waiting : ℕ → Bool)
    (exact : IsExact (board_of before.grid) before.words settled.words settled.letters)
    (inside : (listed : Cell × Option ℕ) → Contains change.cells listed → is_inside before.grid listed.0 ≡ true)
    (edited : (listed : Cell × Option ℕ) → Contains change.cells listed → IsEdited (board_of now.grid) start.letters start.queued seed (index_of now.grid listed.0) listed.1)
    (new : (light : ℕ) → light < length (board_of now.grid).lights → same_light before.grid now.grid light ≡ None → start.queued light ≡ true)
    (new_seeds : (light : ℕ) → light < length (board_of now.grid).lights → same_light before.grid now.grid light ≡ None → seed light ≡ true)
    (calm : (light : ℕ) → light < length (board_of now.grid).lights → start.queued light ≡ false → may_have change.word (length (light_at (board_of now.grid) light)) (base_bits (board_of now.grid) (light_at (board_of now.grid) light) (known_words now.words (length (light_at (board_of now.grid) light)))) ≡ false)
    (seeds : (light : ℕ) → light < length (board_of now.grid).lights → start.queued light ≡ true → is_seed (board_of now.grid) change.word (light_at (board_of now.grid) light) (base_bits (board_of now.grid) (light_at (board_of now.grid) light) (known_words now.words (length (light_at (board_of now.grid) light)))) ≡ true → seed light ≡ true)
    (turned : (light : ℕ) → light < length (board_of now.grid).lights → change.back ≡ true → change.turned (length (light_at (board_of now.grid) light)) ≡ true → seed light ≡ true)
    (spread : IsSpread (board_of now.grid) settled.letters start.letters seed waiting no_positions)
    (opened : (listed : Cell × Option ℕ) → Contains change.cells listed → is_fill (board_of now.grid) (index_of now.grid listed.0) listed.1 ≡ true → is_open (board_of before.grid) (index_of now.grid listed.0) ≡ true)
    (lights : (light choice : ℕ) → start.words light choice ≡ true → light < length (board_of now.grid).lights)
    (words_on : (light other choice : ℕ) → light < length (board_of now.grid).lights → seed light ≡ false → start.queued light ≡ true → same_light before.grid now.grid light ≡ Some other → start.words light choice ≡ (settled.words other choice && is_base_at (board_of now.grid) now.words light choice))
    (words_off : (light other choice : ℕ) → light < length (board_of now.grid).lights → seed light ≡ false → start.queued light ≡ false → same_light before.grid now.grid light ≡ Some other → start.words light choice ≡ settled.words other choice)
    (words_calm : (light other choice : ℕ) → light < length (board_of now.grid).lights → start.queued light ≡ false → seed light ≡ false → same_light before.grid now.grid light ≡ Some other → settled.words other choice ≡ true → is_base_at (board_of now.grid) now.words light choice ≡ true)
    (freed : (other k : ℕ) → other < length (board_of before.grid).lights → ¬ StandsOn (board_of now.grid) (same_light before.grid now.grid) other → k < length (light_at (board_of before.grid) other) → HasAll (board_of now.grid) start.letters (slice_index (light_at (board_of before.grid) other) k))
    (held : (light position letter : ℕ) → IsPositionIn (board_of now.grid) light position → is_capital letter ≡ true → seed light ≡ false → start.held (slot_at (board_of now.grid) light position) letter ≡ settled.held (slot_at (board_of now.grid) light position) letter)
    (restart : (slot letter : ℕ) → start.restart slot letter ≡ settled.restart slot letter)
    (pending : (light position letter : ℕ) → IsPositionIn (board_of now.grid) light position → start.pending (slot_at (board_of now.grid) light position) letter ≡ false)
    (hits : (light position letter : ℕ) → IsPositionIn (board_of now.grid) light position → is_capital letter ≡ true → start.held (slot_at (board_of now.grid) light position) letter < known (board_of now.grid) now.words light → puts (board_of now.grid) now.words light position letter (start.held (slot_at (board_of now.grid) light position) letter) ≡ true) where
  pub changed_started : IsStarted (board_of before.grid) (board_of now.grid) before.words now.words (same_light before.grid now.grid) settled start seed
  changed_started = record {
    matched = λ light in_board no_seed. by_match light in_board no_seed (same_light before.grid now.grid light) refl;
    entry_kept = λ light cell entered in_board no_seed in_cells had. changed_entry_kept before now action change is start.letters start.queued seed inside edited light cell entered in_board no_seed in_cells had;
    entry_calm = λ light cell in_board calm no_seed in_cells. changed_entry_calm before now action change is start.letters start.queued seed inside edited light cell in_board calm in_cells;
    entered = λ light in_board is_queued whole. changed_entered before now action change is start.letters start.queued seed inside edited calm seeds turned light in_board is_queued whole;
    spelled = λ light in_board no_seed. changed_spelled before now action change is start.letters start.queued seed inside edited calm seeds turned light in_board no_seed;
    active = λ light choice in_board no_seed base act. changed_active before now action change is start.letters start.queued seed inside edited calm seeds turned light choice in_board no_seed base act;
    words_calm = words_calm;
    lights = lights;
    words_on = words_on;
    words_off = words_off;
    letters_from = λ cell letter stands. changed_letters_may before now action change is start.letters start.queued seed inside edited new settled.letters
        (exact_may (board_of before.grid) before.words settled.words settled.letters exact) spread.from cell letter stands;
    letters_stay = spread.stay;
    letters_come = λ cell letter may might_not. changed_letters_come before now action change is start.letters start.queued seed inside edited new opened cell letter may might_not;
    letters_reach = λ light position letter here stands stood_not. elim (cases_Bool (settled.letters (cell_at (board_of now.grid) light position) letter)) [
      | inl stood ↦ absurd (stood_not stood)
      | inr none ↦ spread.reaches light position letter here stands none
    ];
    freed = freed;
    held = held;
    restart = restart;
    pending = pending;
    hits = hits;
  } where
    by_match : (light : ℕ) → light < length (board_of now.grid).lights → seed light ≡ false → (o : Option ℕ) → same_light before.grid now.grid light ≡ o → (other : ℕ) × (same_light before.grid now.grid light ≡ Some other)
    by_match light in_board no_seed None at = absurd (both_ways _ no_seed (new_seeds light in_board at))
    by_match light in_board no_seed (Some other) at = (other, at)

-- ---- rows of words

-- the flags of a light after its other words were removed; the last one is that of the entered word
pub row_narrowed : (bits base : List Bool) (entered whole : Bool) (choice : ℕ) → length bits ≡ length base → entered ≡ (entered && whole)
    → get_or (common_bits bits base ++ entered ∷ []) choice false ≡ (get_or (bits ++ entered ∷ []) choice false && get_or (base ++ whole ∷ []) choice false)
row_narrowed [] [] entered whole zero long last = last
row_narrowed [] [] entered whole (suc choice) long last = refl
row_narrowed [] (y ∷ ys) entered whole choice long last = absurd (omega (arith, long))
row_narrowed (x ∷ xs) [] entered whole choice long last = absurd (omega (arith, long))
row_narrowed (x ∷ xs) (y ∷ ys) entered whole zero long last = refl
row_narrowed (x ∷ xs) (y ∷ ys) entered whole (suc choice) long last = row_narrowed xs ys entered whole choice (omega (arith, long)) last
