-- Letters that were entered in empty cells: which entries are as before, and what a light that they complete spells.
use Rattle.std.proofs.Common.{◌≡◌, ℕ, zero, suc, ◌<◌, Bool, true, List, [], ◌∷◌, Some, None, length, set, get_or, sym, ap, ◌∙◌, subst, inl, inr, arith}
use Rattle.std.specs.Prelude.{Option, IsTrue, Contains, slice_index}
use Rattle.std.proofs.lemmas.Bool.{cases_eq, cases_lt, and_parts, and_from}
use Rattle.std.proofs.lemmas.List.{get_or_default, get_or-set_same, get_or-set_other, length-set}
use Rattle.std.proofs.Math.ListN.{get_or-eq_default}
use Rattle.std.proofs.lemmas.Slice.Eq.{bytes_eq-Decides}
use Rattle.std.proofs.Math.Logic.{∥∥₁_elim}
use mathlib.Core.Bool.{Bool-set}
use Rattle.xw_words.specs.Dictionary.{Dictionary, Entry}
use Rattle.xw_grid.specs.declared.cell.Cell.{Cell}
use Rattle.xw_grid.specs.Grid.{Grid}
use Rattle.xw_feas.specs.Board.{Board, entry, light_at}
use Rattle.xw_feas.specs.Feasible.{IsFeasibleWord, base_words}
use Rattle.xw_feas.specs.Choices.{base_flags, choice_at, IsExact}
use Rattle.xw_feas.proofs.Support.{any_below-from, any_below-gives, number_of_base, base_words_here, set_flag_within, stands_as}
use Rattle.xw_net.specs.Base.{WasRow, base_bits}
use Rattle.xw_net.specs.Entered.{IsEntered, IsNew}
use Rattle.xw_net.proofs.Edits.ChangedLights.{base_bits_same}
use Rattle.xw_net.proofs.Edits.KeptBaseWords.{HaveSameEntries}
use Rattle.xw_net.proofs.Levels.EnteredBoards.{with_entries, KeepsEntries}
use Rattle.xw_net.proofs.Levels.EnteredFamilies.{AreSpelled}

-- a net that has exactly the feasible words has each of them at a number
feasible_choice : (board : Board) (dictionary : Dictionary) (words letters : ℕ → ℕ → Bool) → IsExact board dictionary words letters → (light : ℕ) (word : List ℕ) → light < length board.lights → IsFeasibleWord board dictionary light word
    → (choice : ℕ) × (words light choice ≡ true) × (choice_at board dictionary light choice ≡ word)
feasible_choice board dictionary words letters exact light word in_board feasible =
    let count = length (base_flags board dictionary (light_at board light)) in
    let found = any_below-gives (stands_as board dictionary words light word) count
    (∥∥₁_elim feasible (Bool-set _ _) (λ has.
    let base : Contains (base_words board dictionary (light_at board light)) word = subst (λ ws. Contains ws word) (base_words_here board dictionary light in_board) (has.1.words_are_base light word has.2) in
    let number = number_of_base board dictionary (light_at board light) word base in
    let is : IsTrue (words light number.0) = (exact.words light number.0 in_board).1 (number.1, ∣ (has.0, has.1, subst (λ w. IsTrue (has.0.words light w)) (sym number.2) has.2) ∣₁) in
    any_below-from (stands_as board dictionary words light word) count number.0 (set_flag_within (base_flags board dictionary (light_at board light)) number.0 number.1)
    (and_from (words light number.0) _ is ((bytes_eq-Decides (choice_at board dictionary light number.0) word).1 number.2)))) in
    let both = and_parts (words light found.0) _ found.2 in
    (found.0, both.0, (bytes_eq-Decides (choice_at board dictionary light found.0) word).0 both.1)

module _ (before : Board) (entries : List (Option ℕ)) (dictionary : Dictionary) (grid : Grid) (written : List (Cell × Option ℕ)) (is : IsEntered before dictionary grid written (with_entries before entries)) where
  abbrev after : Board
  after = with_entries before entries

  pub keeps_entries : KeepsEntries before entries
  keeps_entries cell letter had = is.others cell (λ new. none_had (sym (is.empty cell new) ∙ had)) ∙ had where
    none_had : None ≡ Some letter → ⊥
    none_had same = cc

  pub are_spelled : (words letters : ℕ → ℕ → Bool) → IsExact before dictionary words letters → AreSpelled before entries dictionary words
  are_spelled words letters exact light below part whole = feasible_choice before dictionary words letters exact light _ below (is.spelled light below part whole)

  -- if only one cell of a light got a letter, its row was the base row of a board with one entry fewer
  pub was_row : (light cell : ℕ) (words : ℕ → List Entry) (bits : List Bool) → IsNew grid written cell → ((position : ℕ) → position < length (light_at before light) → IsNew grid written (slice_index (light_at before light) position) → slice_index (light_at before light) position ≡ cell)
      → bits ≡ base_bits before (light_at before light) (words (length (light_at before light))) → WasRow after words cell light bits
  was_row light cell words bits new only row = record {
    before = fewer;
    more = record { empty = emptied; others = λ other apart. sym (get_or-set_other entries cell other None None apart) };
    row = row ∙ sym (base_bits_same before fewer (light_at before light) (words (length (light_at before light))) same);
  } where
    fewer : Board
    fewer = with_entries before (set entries cell None)

    emptied : get_or (set entries cell None) cell None ≡ None
    emptied = elim (cases_lt cell (length entries)) [
      | inl below ↦ get_or-set_same entries cell None None below
      | inr past ↦ get_or-eq_default (set entries cell None) None (omega (arith, past, length-set entries cell None))
    ]

    same : HaveSameEntries before fewer (light_at before light)
    same other listed =
        let at : get_or (light_at before light) listed.0 0 ≡ other = get_or_default (light_at before light) listed.0 0 other listed.1 ∙ listed.2 in
        elim (cases_eq other cell) [
          | inl e ↦ ap (λ n. get_or (set entries cell None) n None) e ∙ emptied ∙ sym (is.empty cell new) ∙ ap (entry before) (sym e)
          | inr apart ↦ get_or-set_other entries cell other None None apart ∙ is.others other (λ one. apart (sym at ∙ only listed.0 listed.1 (subst (IsNew grid written) (sym at) one)))
        ]
