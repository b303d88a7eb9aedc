-- Rows and cells at the start of an update.
use Rattle.std.proofs.Common.{◌≡◌, ℕ, zero, suc, ◌+◌, ◌-◌, ◌*◌, ◌<◌, Bool, true, false, ◌&&◌, ◌||◌, leb, eqb, [], ◌∷◌, ◌++◌, length, get_or, Some, None, refl, sym, ◌∙◌, ap, subst, arith, inl, inr}
use Rattle.std.specs.Prelude.{Option, Ok, List, Contains, slice_index, slice_get, unwrap_or}
use Rattle.std.proofs.lemmas.Bool.{cases_Bool, both_ways, and_from, and_cases, or_parts, eq-eqb, leb-false, false_from_ne_true}
use Rattle.std.proofs.lemmas.List.{get_or_append_left, get_or_default, get_or_push, length-map}
use Rattle.std.proofs.lemmas.Option.{slice_get-get_or, unwrap_or-slice_get}
use Rattle.xw_words.specs.Dictionary.{Entry, known_words, entry_at, no_entry}
use Rattle.xw_grid.specs.declared.cell.Cell.{Cell}
use Rattle.xw_grid.specs.Grid.{is_inside}
use Rattle.xw_grid.specs.Light.{lights_of, no_light, step}
use Rattle.xw_feas.specs.Board.{board_of, entry, light_at, is_wholly_entered}
use Rattle.xw_feas.specs.Choices.{is_base_at}
use Rattle.xw_feas.specs.Flags.{set_has}
use Rattle.xw_feas.specs.State.{State, Action, after, letter_set, cell_cleared, word_placed, list_written, block_toggled, bar_toggled, symmetry_chosen, word_added, word_struck, least_chosen, add_word, strike_word}
use Rattle.xw_feas.proofs.ChoicesLemmas.{base_flag_entered}
use Rattle.xw_feas.proofs.Support.{set_flag_within}
use Rattle.xw_feas.proofs.FormedLemmas.{light_in, length-light_at, within_lights, index_is, inside_at}
use Rattle.xw_net.specs.declared.net.Net.{Net}
use Rattle.xw_net.specs.Change.{Fields, IsChange, IsIndexOf, word_changed}
use Rattle.xw_net.specs.Base.{base_bits, is_base_word}
use Rattle.xw_net.specs.Revival.{IsMatching, same_light, StandsOn}
use Rattle.xw_net.specs.Marks.{known}
use Rattle.xw_net.specs.Nets.{word_stands}
use Rattle.xw_net.specs.Filled.{IsFilled}
use Rattle.xw_net.specs.Renumber.{same_before}
use Rattle.xw_net.specs.Spread.{bits_in, HasAll}
use Rattle.xw_net.specs.Worklist.{is_marked}
use Rattle.xw_net.specs.Brought.{IsBase}
use Rattle.xw_net.specs.Begin.{IsNarrowedRow, is_long, may_have, AreBaseBut, IsPrepared}
use Rattle.xw_net.specs.Opened.{arrays_of, IsOpening, IsMoved}
use Rattle.xw_net.proofs.Edits.ChangeFacts.{word_turns_none}
use Rattle.xw_net.proofs.Edits.ExactFamilies.{exact_base}
use Rattle.xw_net.proofs.Edits.SameLights.{same_is_matching, same_is_whole}
use Rattle.xw_net.proofs.Edits.KeptBaseWords.{HaveSameEntries, entered_same}
use Rattle.xw_net.proofs.BaseRows.BaseBits.{base_bit, length-base_bits}
use Rattle.xw_feas.proofs.BoardLemmas.{length-lights}
use Rattle.xw_net.proofs.Lists.ListsOfLights.{marked_below}
use Rattle.xw_net.proofs.Edits.KeptByEdits.{with_words-Ok}
use Rattle.xw_net.proofs.Revivals.StartIsRevival.{empty_not_whole}
use Rattle.xw_net.proofs.Revivals.FilledCell.{FillsOne, filled_row}
use Rattle.xw_net.proofs.Edits.ListedCells.{inside_sized}
use Rattle.xw_net.proofs.BaseRows.NarrowedRows.{common_bits, narrowed_common}
use Rattle.xw_net.proofs.Edits.ChangedLights.{base_bits_same, changed_base, changed_entry_calm, changed_entry_kept, changed_words_same, changed_has_not, changed_spelled, row_narrowed}

-- adding or striking a word keeps the grid
word_keeps_grid : (before now : State) (action : Action) (word : ℕ × ℕ) → after before action ≡ Ok now → word_changed before.words action ≡ Some word → now.grid ≡ before.grid
word_keeps_grid before now (word_added bytes grade) word made some = (with_words-Ok before now (add_word before.words bytes grade) made).1
word_keeps_grid before now (word_struck bytes) word made some = (with_words-Ok before now (strike_word before.words bytes) made).1
word_keeps_grid before now (letter_set cell letter) word made some = let never : None ≡ Some word = some in cc
word_keeps_grid before now (cell_cleared cell) word made some = let never : None ≡ Some word = some in cc
word_keeps_grid before now (word_placed name bytes) word made some = let never : None ≡ Some word = some in cc
word_keeps_grid before now (list_written list) word made some = let never : None ≡ Some word = some in cc
word_keeps_grid before now (block_toggled cell) word made some = let never : None ≡ Some word = some in cc
word_keeps_grid before now (bar_toggled cell side) word made some = let never : None ≡ Some word = some in cc
word_keeps_grid before now (symmetry_chosen kind) word made some = let never : None ≡ Some word = some in cc
word_keeps_grid before now (least_chosen grade) word made some = let never : None ≡ Some word = some in cc

same_entry : (old new : List Entry) (index : ℕ) → slice_get old index ≡ slice_get new index → entry_at old index ≡ entry_at new index
same_entry old new index same = sym (unwrap_or-slice_get old index no_entry) ∙ ap (λ o. unwrap_or o no_entry) same ∙ unwrap_or-slice_get new index no_entry

-- a flag of two rows of the same length that agree there and in the last flag
same_flag : (xs ys : List Bool) (last : Bool) (k : ℕ) → length xs ≡ length ys → get_or xs k false ≡ get_or ys k false → get_or (xs ++ last ∷ []) k false ≡ get_or (ys ++ last ∷ []) k false
same_flag [] [] last k long same = refl
same_flag [] (y ∷ ys) last k long same = absurd (omega (arith, long))
same_flag (x ∷ xs) [] last k long same = absurd (omega (arith, long))
same_flag (x ∷ xs) (y ∷ ys) last zero long same = same
same_flag (x ∷ xs) (y ∷ ys) last (suc k) long same = same_flag xs ys last k (omega (arith, long)) same

module _ {cell : Option ℕ} (before now : State) (action : Action) (change : Fields) (is : IsChange before now action change) (settled net opened : Net)
    (filled : IsFilled (board_of before.grid) before.words settled) (moved : IsMoved before now settled net)
    (opening : IsOpening now.grid (board_of now.grid) (lights_of now.grid) (known_words now.words) change cell (arrays_of net) (arrays_of opened))
    (entered_kept : opened.entered.items ≡ net.entered.items)
    (inside : (listed : Cell × Option ℕ) → Contains change.cells listed → is_inside now.grid listed.0 ≡ true)
    (one : (filled : ℕ) → cell ≡ Some filled → FillsOne now.grid change filled) where
  abbrev seed : ℕ → Bool
  seed = is_marked opened.chain.marks

  abbrev queued : ℕ → Bool
  queued = is_marked opened.queue.marks

  matching : IsMatching (board_of before.grid) (board_of now.grid) (same_light before.grid now.grid)
  matching = same_is_matching before.grid now.grid is.width

  -- the grids have the same size
  inside_before : (cell : Cell) → is_inside now.grid cell ≡ true → is_inside before.grid cell ≡ true
  inside_before = inside_sized now.grid before.grid (sym is.width) (sym is.height)

  inside_now : (cell : Cell) → is_inside before.grid cell ≡ true → is_inside now.grid cell ≡ true
  inside_now = inside_sized before.grid now.grid is.width is.height

  pub listed_inside : (listed : Cell × Option ℕ) → Contains change.cells listed → is_inside before.grid listed.0 ≡ true
  listed_inside listed has = inside_before listed.0 (inside listed has)

  pub is_new : (light : ℕ) → same_light before.grid now.grid light ≡ None → same_before change.before (lights_of now.grid) light ≡ None
  is_new light at = ap (λ ls. same_before ls (lights_of now.grid) light) is.lights ∙ at

  pub new_queued : (light : ℕ) → light < length (board_of now.grid).lights → same_light before.grid now.grid light ≡ None → queued light ≡ true
  new_queued light in_board at = opening.new_queued light (omega (arith, in_board, length-lights now.grid), is_new light at)

  pub new_seeds : (light : ℕ) → light < length (board_of now.grid).lights → same_light before.grid now.grid light ≡ None → seed light ≡ true
  new_seeds light in_board at = opening.new_marked light (omega (arith, in_board, length-lights now.grid), is_new light at)

  pub turned_queued : (light : ℕ) → light < length (board_of now.grid).lights → change.turned (length (light_at (board_of now.grid) light)) ≡ true → queued light ≡ true
  turned_queued light in_board on = opening.turned_queued light (in_board, on)

  pub turned_seeds : (light : ℕ) → light < length (board_of now.grid).lights → change.back ≡ true → change.turned (length (light_at (board_of now.grid) light)) ≡ true → seed light ≡ true
  turned_seeds light in_board back on = opening.turned_marked light (back, (in_board, on))

  -- ---- base rows

  -- an edit of a word keeps the grid, and the base words of each light except perhaps that word
  base_but : AreBaseBut (board_of now.grid) (known_words now.words) change.word net.base.items
  base_but light in_board index some k apart =
      let grid = word_keeps_grid before now action (length (light_at (board_of now.grid) light), index) is.made (sym is.word ∙ some) in
      let in_before : light < length (board_of before.grid).lights = subst (λ g. light < length (board_of g).lights) grid in_board in
      let at = same_is_whole before.grid now.grid is.width light light in_board in_before (ap (λ g. light_at (board_of g) light) grid) in
      let still = is.turned (length (light_at (board_of now.grid) light)) ∙ word_turns_none before.words action (length (light_at (board_of now.grid) light), index) (sym is.word ∙ some) (length (light_at (board_of now.grid) light)) in
      let kept = is.entries (length (light_at (board_of now.grid) light)) k still (λ found. let there = subst (λ w. IsIndexOf w (length (light_at (board_of now.grid) light)) k) some found in apart (sym there.1)) in
      moved.base_at light light k in_board at
      ∙ ap (λ bits. get_or bits k false) (filled.is_base light in_before)
      ∙ sym (base_bit (board_of before.grid) (light_at (board_of before.grid) light) (known_words before.words (length (light_at (board_of before.grid) light))) k)
      ∙ ap (λ g. is_base_word (board_of g) (light_at (board_of g) light) (entry_at (known_words before.words (length (light_at (board_of g) light))) k)) (sym grid)
      ∙ ap (is_base_word (board_of now.grid) (light_at (board_of now.grid) light)) (same_entry (known_words before.words (length (light_at (board_of now.grid) light))) (known_words now.words (length (light_at (board_of now.grid) light))) k (sym kept))

  pub opened_prepared : IsPrepared (board_of now.grid) (known_words now.words) change.word net.rows.items opened.rows.items net.base.items opened.base.items (is_marked opened.queue.marks) (is_marked opened.chain.marks)
  opened_prepared = opening.prepared base_but (λ light in_board at some. filled_row before now action change is settled net filled moved listed_inside at (one at some) light in_board)

  short_known : (light other : ℕ) → light < length (board_of now.grid).lights → same_light before.grid now.grid light ≡ Some other → is_long change.word (length (light_at (board_of now.grid) light)) ≡ false → known (board_of now.grid) now.words light ≡ known (board_of before.grid) before.words other
  short_known light other in_board at short =
      many
      ∙ ap (λ cs. length (known_words before.words (length cs))) (matching.cells light other in_board at) where
        many : length (known_words now.words (length (light_at (board_of now.grid) light))) ≡ length (known_words before.words (length (light_at (board_of now.grid) light)))
        many = elim (cases_Bool (change.turned (length (light_at (board_of now.grid) light)))) [
          | inl on ↦ is.counts (length (light_at (board_of now.grid) light)) on
          | inr still ↦ ap length (changed_words_same before now action change is (set_has opened.letters.items) queued seed listed_inside opening.edited light still short)
        ]

  pub opened_base : IsBase (board_of now.grid) now.words opened.base.items
  opened_base =
      changed_base before now action change is (set_has opened.letters.items) queued seed listed_inside opening.edited new_queued settled.base.items net.base.items opened.base.items turned_queued
      filled.is_base (λ light other in_board at short. moved.base light other in_board at (short_known light other in_board at short)) opened_prepared.base_on opened_prepared.base_off

  -- ---- words

  -- a queued light is on the board
  queued_in_board : (light : ℕ) → queued light ≡ true → light < length (board_of now.grid).lights
  queued_in_board light on = let below = marked_below opened.queue.marks light on in omega (arith, below, opening.size)

  pub opened_lights : (light choice : ℕ) → word_stands opened light choice ≡ true → light < length (board_of now.grid).lights
  unfolding word_stands
  opened_lights light choice stands = elim (cases_Bool (queued light)) [
    | inl on ↦ queued_in_board light on
    | inr off ↦ moved.lights light choice (ap (λ bits. get_or (bits ++ get_or net.entered.items light false ∷ []) choice false) (sym (opened_prepared.rows_off light off))
        ∙ ap (λ flags. get_or (bits_in opened.rows.items light ++ get_or flags light false ∷ []) choice false) (sym entered_kept) ∙ stands)
  ]

  -- a filled light that is not a seed stays filled
  whole_stays : (light : ℕ) → light < length (board_of now.grid).lights → seed light ≡ false → is_wholly_entered (board_of before.grid) (light_at (board_of now.grid) light) ≡ true → is_wholly_entered (board_of now.grid) (light_at (board_of now.grid) light) ≡ true
  whole_stays light in_board no_seed whole = entered_same (board_of before.grid) (board_of now.grid) (light_at (board_of now.grid) light) same ∙ whole where
    same : HaveSameEntries (board_of before.grid) (board_of now.grid) (light_at (board_of now.grid) light)
    same cell in_cells = split (entry (board_of before.grid) cell) refl where
      split : (o : Option ℕ) → entry (board_of before.grid) cell ≡ o → entry (board_of now.grid) cell ≡ entry (board_of before.grid) cell
      split None empty = absurd (both_ways _ (empty_not_whole (board_of before.grid) (light_at (board_of now.grid) light) in_cells.0 in_cells.1 (ap (entry (board_of before.grid)) (get_or_default (light_at (board_of now.grid) light) in_cells.0 0 cell in_cells.1 ∙ in_cells.2) ∙ empty)) whole)
      split (Some letter) had = changed_entry_kept before now action change is (set_has opened.letters.items) queued seed listed_inside opening.edited light cell letter in_board no_seed in_cells had

  kept_known : (light other : ℕ) → light < length (board_of now.grid).lights → seed light ≡ false → same_light before.grid now.grid light ≡ Some other → known (board_of now.grid) now.words light ≡ known (board_of before.grid) before.words other
  kept_known light other in_board no_seed at =
      sym (length-map (known_words now.words (length (light_at (board_of now.grid) light))) (λ (word : Entry). word.word))
      ∙ ap length (changed_spelled before now action change is (set_has opened.letters.items) queued seed listed_inside opening.edited opened_prepared.calm opened_prepared.seeds turned_seeds light in_board no_seed)
      ∙ length-map (known_words before.words (length (light_at (board_of now.grid) light))) (λ (word : Entry). word.word)
      ∙ ap (λ cs. length (known_words before.words (length cs))) (matching.cells light other in_board at)

  pub opened_words_off : (light other choice : ℕ) → light < length (board_of now.grid).lights → seed light ≡ false → queued light ≡ false → same_light before.grid now.grid light ≡ Some other → word_stands opened light choice ≡ word_stands settled other choice
  unfolding word_stands
  opened_words_off light other choice in_board no_seed calm at =
      ap (λ bits. get_or (bits ++ get_or opened.entered.items light false ∷ []) choice false) (opened_prepared.rows_off light calm ∙ moved.rows light other in_board at (kept_known light other in_board no_seed at))
      ∙ ap (λ e. get_or (bits_in settled.rows.items other ++ e ∷ []) choice false) (ap (λ flags. get_or flags light false) entered_kept ∙ moved.entered light other in_board at)

  -- the changed word is not a base word of a light that is not a seed
  pub opened_has_not : (light : ℕ) → light < length (board_of now.grid).lights → seed light ≡ false → may_have change.word (length (light_at (board_of now.grid) light)) (base_bits (board_of now.grid) (light_at (board_of now.grid) light) (known_words now.words (length (light_at (board_of now.grid) light)))) ≡ false
  opened_has_not = changed_has_not before now action change is (set_has opened.letters.items) queued seed listed_inside opening.edited opened_prepared.calm opened_prepared.seeds turned_seeds

  -- at a light that is not queued, the changed word was not in the net, and each word that was is
  -- still a base word
  pub opened_words_calm : (light other choice : ℕ) → light < length (board_of now.grid).lights → queued light ≡ false → seed light ≡ false → same_light before.grid now.grid light ≡ Some other → word_stands settled other choice ≡ true → is_base_at (board_of now.grid) now.words light choice ≡ true
  unfolding word_stands
  opened_words_calm light other choice in_board calm no_seed at stood =
      ap (λ bits. get_or (bits ++ is_wholly_entered (board_of now.grid) (light_at (board_of now.grid) light) ∷ []) choice false) (base_bits_same (board_of before.grid) (board_of now.grid) (light_at (board_of now.grid) light) (known_words now.words (length (light_at (board_of now.grid) light))) entries)
      ∙ ap (λ e. get_or (base_bits (board_of before.grid) (light_at (board_of now.grid) light) (known_words now.words (length (light_at (board_of now.grid) light))) ++ e ∷ []) choice false) (entered_same (board_of before.grid) (board_of now.grid) (light_at (board_of now.grid) light) entries)
      ∙ same_flag (base_bits (board_of before.grid) (light_at (board_of now.grid) light) (known_words now.words (length (light_at (board_of now.grid) light)))) (base_bits (board_of before.grid) (light_at (board_of now.grid) light) (known_words before.words (length (light_at (board_of now.grid) light))))
      (is_wholly_entered (board_of before.grid) (light_at (board_of now.grid) light)) choice many same_bit
      ∙ ap (λ cs. get_or (base_bits (board_of before.grid) cs (known_words before.words (length cs)) ++ is_wholly_entered (board_of before.grid) cs ∷ []) choice false) (matching.cells light other in_board at)
      ∙ exact_base (board_of before.grid) before.words _ _ filled.exact other choice (matching.lights light other in_board at) stood where
        entries : HaveSameEntries (board_of before.grid) (board_of now.grid) (light_at (board_of now.grid) light)
        entries cell in_cells = changed_entry_calm before now action change is (set_has opened.letters.items) queued seed listed_inside opening.edited light cell in_board calm in_cells

        many : length (base_bits (board_of before.grid) (light_at (board_of now.grid) light) (known_words now.words (length (light_at (board_of now.grid) light)))) ≡ length (base_bits (board_of before.grid) (light_at (board_of now.grid) light) (known_words before.words (length (light_at (board_of now.grid) light))))
        many =
            length-base_bits (board_of before.grid) (light_at (board_of now.grid) light) (known_words now.words (length (light_at (board_of now.grid) light)))
            ∙ kept_known light other in_board no_seed at
            ∙ ap (λ cs. length (known_words before.words (length cs))) (sym (matching.cells light other in_board at))
            ∙ sym (length-base_bits (board_of before.grid) (light_at (board_of now.grid) light) (known_words before.words (length (light_at (board_of now.grid) light))))

        rows : bits_in net.rows.items light ≡ bits_in settled.rows.items other
        rows = moved.rows light other in_board at (kept_known light other in_board no_seed at)

        not_there : (word : Option (ℕ × ℕ)) → change.word ≡ word → ¬ IsIndexOf change.word (length (light_at (board_of now.grid) light)) choice
        not_there None none found = subst (λ w. IsIndexOf w (length (light_at (board_of now.grid) light)) choice) none found
        not_there (Some word) some found =
            let there = subst (λ w. IsIndexOf w (length (light_at (board_of now.grid) light)) choice) some found in
            let has_not : may_have (Some word) (length (light_at (board_of now.grid) light)) (bits_in net.rows.items light) ≡ false =
            ap (λ w. may_have w (length (light_at (board_of now.grid) light)) (bits_in net.rows.items light)) (sym some) ∙ opened_prepared.stood_not light in_board calm in
            elim (and_cases (eqb word.0 (length (light_at (board_of now.grid) light))) (leb (length (bits_in net.rows.items light)) (word.1 + 1) || get_or (bits_in net.rows.items light) word.1 false) has_not) [
              | inl apart ↦ both_ways _ apart (eq-eqb word.0 (length (light_at (board_of now.grid) light)) there.0)
              | inr rest ↦
                  let parts = or_parts (leb (length (bits_in net.rows.items light)) (word.1 + 1)) (get_or (bits_in net.rows.items light) word.1 false) rest in
                  let inner = leb-false (length (bits_in net.rows.items light)) (word.1 + 1) parts.0 in
                  let below : choice < length (bits_in settled.rows.items other) = omega (arith, inner, there.1, ap length rows) in
                  let on : get_or (bits_in settled.rows.items other) choice false ≡ true = sym (get_or_append_left (bits_in settled.rows.items other) (get_or settled.entered.items other false ∷ []) false choice below) ∙ stood in
                  both_ways _ parts.1 (ap (λ k. get_or (bits_in net.rows.items light) k false) there.1 ∙ ap (λ bits. get_or bits choice false) rows ∙ on)
            ]

        same_bit : get_or (base_bits (board_of before.grid) (light_at (board_of now.grid) light) (known_words now.words (length (light_at (board_of now.grid) light)))) choice false ≡ get_or (base_bits (board_of before.grid) (light_at (board_of now.grid) light) (known_words before.words (length (light_at (board_of now.grid) light)))) choice false
        same_bit =
            sym (base_bit (board_of before.grid) (light_at (board_of now.grid) light) (known_words now.words (length (light_at (board_of now.grid) light))) choice)
            ∙ ap (is_base_word (board_of before.grid) (light_at (board_of now.grid) light)) (same_entry (known_words now.words (length (light_at (board_of now.grid) light))) (known_words before.words (length (light_at (board_of now.grid) light))) choice (is.entries (length (light_at (board_of now.grid) light)) choice (false_from_ne_true _ (λ on. both_ways _ calm (turned_queued light in_board on))) (not_there change.word refl)))
            ∙ base_bit (board_of before.grid) (light_at (board_of now.grid) light) (known_words before.words (length (light_at (board_of now.grid) light))) choice

  -- the entered word was in the net only if the light is filled
  entered_whole : (light other : ℕ) → light < length (board_of now.grid).lights → seed light ≡ false → same_light before.grid now.grid light ≡ Some other → get_or settled.entered.items other false ≡ true → is_wholly_entered (board_of now.grid) (light_at (board_of now.grid) light) ≡ true
  unfolding word_stands
  entered_whole light other in_board no_seed at stood =
      let in_before = matching.lights light other in_board at in
      let count = length (known_words before.words (length (light_at (board_of before.grid) other))) in
      let stands : word_stands settled other (length (known_words before.words (length (light_at (board_of before.grid) other)))) ≡ true =
      get_or_push (bits_in settled.rows.items other) (get_or settled.entered.items other false) false (length (known_words before.words (length (light_at (board_of before.grid) other)))) (filled.whole.bits other in_before) ∙ stood in
      let base = exact_base (board_of before.grid) before.words _ _ filled.exact other (length (known_words before.words (length (light_at (board_of before.grid) other)))) in_before stands in
      let last = base_flag_entered (board_of before.grid) before.words (light_at (board_of before.grid) other) (length (known_words before.words (length (light_at (board_of before.grid) other)))) (sym (length-map (known_words before.words (length (light_at (board_of before.grid) other))) (λ (word : Entry). word.word))) in
      whole_stays light in_board no_seed (ap (is_wholly_entered (board_of before.grid)) (matching.cells light other in_board at) ∙ sym last ∙ base)

  -- after an edit of a word, each other word that was in the net is still a base word
  still_base : (light other : ℕ) → light < length (board_of now.grid).lights → same_light before.grid now.grid light ≡ Some other
      → (index : ℕ) → change.word ≡ Some (length (light_at (board_of now.grid) light), index) → (k : ℕ) → (k ≡ index → ⊥) → get_or (bits_in settled.rows.items other) k false ≡ true
      → get_or (base_bits (board_of now.grid) (light_at (board_of now.grid) light) (known_words now.words (length (light_at (board_of now.grid) light)))) k false ≡ true
  unfolding word_stands
  still_base light other in_board at index some k apart stood =
      let in_before = matching.lights light other in_board at in
      let cells = light_at (board_of before.grid) other in
      let below : k < length (bits_in settled.rows.items other) = set_flag_within (bits_in settled.rows.items other) k stood in
      let many = filled.whole.bits other in_before ∙ sym (length-base_bits (board_of before.grid) (light_at (board_of before.grid) other) (known_words before.words (length (light_at (board_of before.grid) other)))) in
      let stands = get_or_append_left (bits_in settled.rows.items other) (get_or settled.entered.items other false ∷ []) false k below ∙ stood in
      sym (base_bit (board_of now.grid) (light_at (board_of now.grid) light) (known_words now.words (length (light_at (board_of now.grid) light))) k)
      ∙ sym (base_but light in_board index some k apart) ∙ moved.base_at light other k in_board at ∙ ap (λ bits. get_or bits k false) (filled.is_base other in_before)
      ∙ sym (get_or_append_left (base_bits (board_of before.grid) (light_at (board_of before.grid) other) (known_words before.words (length (light_at (board_of before.grid) other)))) (is_wholly_entered (board_of before.grid) (light_at (board_of before.grid) other) ∷ []) false k (omega (arith, below, many)))
      ∙ exact_base (board_of before.grid) before.words _ _ filled.exact other k in_before stands

  pub opened_words_on : (light other choice : ℕ) → light < length (board_of now.grid).lights → seed light ≡ false → queued light ≡ true → same_light before.grid now.grid light ≡ Some other
      → word_stands opened light choice ≡ (word_stands settled other choice && is_base_at (board_of now.grid) now.words light choice)
  unfolding word_stands
  opened_words_on light other choice in_board no_seed on at =
      let in_before = matching.lights light other in_board at in
      let cells = light_at (board_of now.grid) light in
      let base = base_bits (board_of now.grid) (light_at (board_of now.grid) light) (known_words now.words (length (light_at (board_of now.grid) light))) in
      let e = get_or settled.entered.items other false in
      let whole = is_wholly_entered (board_of now.grid) (light_at (board_of now.grid) light) in
      let many = kept_known light other in_board no_seed at in
      let long : length (bits_in settled.rows.items other) ≡ length base =
      filled.whole.bits other in_before ∙ sym many ∙ sym (length-base_bits (board_of now.grid) (light_at (board_of now.grid) light) (known_words now.words (length (light_at (board_of now.grid) light)))) in
      let bits : bits_in opened.rows.items light ≡ common_bits (bits_in settled.rows.items other) base =
      narrowed_common change.word (length cells) (bits_in settled.rows.items other) base (bits_in opened.rows.items light) long
      (subst (λ b. IsNarrowedRow change.word (length (light_at (board_of now.grid) light)) b (base_bits (board_of now.grid) (light_at (board_of now.grid) light) (known_words now.words (length (light_at (board_of now.grid) light)))) (bits_in opened.rows.items light))
      (moved.rows light other in_board at many) (opened_prepared.rows_on light in_board on))
      (λ index some k apart stood. still_base light other in_board at index some k apart stood) in
      let last : get_or settled.entered.items other false ≡ (get_or settled.entered.items other false && is_wholly_entered (board_of now.grid) (light_at (board_of now.grid) light)) = elim (cases_Bool (get_or settled.entered.items other false)) [
        | inl stood ↦ stood ∙ sym (and_from _ _ stood (entered_whole light other in_board no_seed at stood))
        | inr none ↦ none ∙ sym (ap (λ b. b && is_wholly_entered (board_of now.grid) (light_at (board_of now.grid) light)) none)
      ] in
      ap (λ bs. get_or (bs ++ get_or opened.entered.items light false ∷ []) choice false) bits
      ∙ ap (λ f. get_or (common_bits (bits_in settled.rows.items other) (base_bits (board_of now.grid) (light_at (board_of now.grid) light) (known_words now.words (length (light_at (board_of now.grid) light)))) ++ f ∷ []) choice false)
      (ap (λ flags. get_or flags light false) entered_kept ∙ moved.entered light other in_board at)
      ∙ row_narrowed (bits_in settled.rows.items other) (base_bits (board_of now.grid) (light_at (board_of now.grid) light) (known_words now.words (length (light_at (board_of now.grid) light)))) (get_or settled.entered.items other false) whole choice
      (filled.whole.bits other in_before ∙ sym many ∙ sym (length-base_bits (board_of now.grid) (light_at (board_of now.grid) light) (known_words now.words (length (light_at (board_of now.grid) light))))) last

  -- ---- cells of removed lights

  is_gone : (other : ℕ) → other < length (board_of before.grid).lights → ¬ StandsOn (board_of now.grid) (same_light before.grid now.grid) other → same_light now.grid before.grid other ≡ None
  is_gone other in_before gone = split (same_light now.grid before.grid other) refl where
    back : IsMatching (board_of now.grid) (board_of before.grid) (same_light now.grid before.grid)
    back = same_is_matching now.grid before.grid (sym is.width)

    split : (o : Option ℕ) → same_light now.grid before.grid other ≡ o → same_light now.grid before.grid other ≡ None
    split None at = at
    split (Some light) at =
        let in_after = back.lights other light in_before at in
        absurd (gone (light, in_after, same_is_whole before.grid now.grid is.width light other in_after in_before (sym (back.cells other light in_before at))))

  pub opened_freed : (other k : ℕ) → other < length (board_of before.grid).lights → ¬ StandsOn (board_of now.grid) (same_light before.grid now.grid) other → k < length (light_at (board_of before.grid) other)
      → HasAll (board_of now.grid) (set_has opened.letters.items) (slice_index (light_at (board_of before.grid) other) k)
  opened_freed other k in_before gone below =
      let within = within_lights before.grid other k below in
      let light = light_in before.grid other in
      let cell = step (light_in before.grid other).name.direction (light_in before.grid other).start k in
      opening.freed (slice_index (light_at (board_of before.grid) other) k) (record {
        other = other;
        below = subst (λ ls. other < length ls) (sym is.lights) within;
        light = light_in before.grid other;
        gone = record {
          at = ap (λ ls. slice_get ls other) is.lights ∙ slice_get-get_or (lights_of before.grid) other no_light within;
          none = ap (λ ls. same_before (lights_of now.grid) ls other) is.lights ∙ is_gone other in_before gone;
        };
        among = record {
          position = k;
          below = omega (arith, below, length-light_at before.grid other within);
          along = record {
            inside = inside_now (step (light_in before.grid other).name.direction (light_in before.grid other).start k) (inside_at before.grid other k below);
            is = ap (λ w. ((step (light_in before.grid other).name.direction (light_in before.grid other).start k).row - 1) * w + ((step (light_in before.grid other).name.direction (light_in before.grid other).start k).col - 1)) is.width ∙ sym (index_is before.grid other k below);
          };
        };
      })
