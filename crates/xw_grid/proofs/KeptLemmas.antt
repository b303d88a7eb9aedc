-- What setting a clue or a circle keeps.
use Rattle.std.proofs.Common.{◌≡◌, ℕ, true, false, cond, not, ◌||◌, List, [], ◌∷◌, refl, ap, sym, ◌∙◌, inl, inr}
use Rattle.std.specs.Prelude.{filter, Some, None}
use Rattle.std.specs.List.{list_any}
use Rattle.std.specs.Option.{unwrap_or}
use Rattle.std.specs.declared.cmp.Ordering.TheVariants.{Less, Equal, Greater}
use Rattle.std.specs.Ordering.{is_eq, match_ordering}
use Rattle.std.specs.Map.{lookup}
use Rattle.std.specs.BTreeMap.{insert_entry}
use Rattle.std.specs.BTreeSet.{insert_key}
use Rattle.std.proofs.lemmas.Bool.{both_ways, false_from_ne_true, cases_Bool}
use Rattle.xw_grid.specs.declared.cell.Cell.{Cell}
use Rattle.xw_grid.specs.declared.cell.Direction.TheVariants.{Across, Down}
use Rattle.xw_grid.specs.Grid.{same_cell, cell_cmp}
use Rattle.xw_grid.specs.Clue.{Texts, text_at, with_text}
use Rattle.xw_grid.specs.EditLaws.{CluesAreKept, CirclesAreKept}
use Rattle.xw_grid.proofs.GridLemmas.{cells_same, same_cell_itself}
use Rattle.xw_grid.proofs.ClueLemmas.{same_at}

-- two cells that equal a third are equal
same_both : (cell other at : Cell) → same_cell cell at ≡ true → same_cell other at ≡ true → same_cell cell other ≡ true
same_both cell other at h k = ap (λ c. same_cell c other) (cells_same cell at h ∙ sym (cells_same other at k)) ∙ same_cell_itself other

apart_from : (cell other at : Cell) → same_cell cell at ≡ false → same_cell other at ≡ true → same_cell cell other ≡ false
apart_from cell other at h k = false_from_ne_true (same_cell cell other) (λ e. both_ways (same_cell cell at) h (ap (λ c. same_cell c at) (cells_same cell other e) ∙ k))

same_swapped : (cell other : Cell) → same_cell other cell ≡ same_cell cell other
same_swapped cell other =
    elim (same_cell cell other) as (λ b. same_cell cell other ≡ b → same_cell other cell ≡ b) [
      | true ↦ λ e. ap (λ c. same_cell other c) (cells_same cell other e) ∙ same_cell_itself other
      | false ↦ λ e. false_from_ne_true (same_cell other cell) (λ h. both_ways (same_cell cell other) e (ap (λ c. same_cell cell c) (cells_same other cell h) ∙ same_cell_itself cell))
    ] refl

-- ---- texts

-- removing a text
taken : (texts : Texts) (cell other : Cell) → text_at (filter (λ entry. not (same_cell cell entry.0)) texts) other ≡ cond (same_cell cell other) [] (text_at texts other)
taken [] cell other = elim (same_cell cell other) as (λ b. ◌≡◌ {A = List ℕ} [] (cond b [] [])) [ true ↦ refl | false ↦ refl ]
taken (e ∷ es) cell other =
    let rest = taken es cell other in
    elim (cases_Bool (same_cell cell e.0)) [
      | inl here ↦ rw here (elim (cases_Bool (same_cell other e.0)) [
        | inl too ↦ rw too (rest ∙ ap (λ b. cond b [] (text_at es other)) (same_both cell other e.0 here too) ∙ sym (ap (λ b. cond b [] e.1) (same_both cell other e.0 here too)))
        | inr not_too ↦ rw not_too rest
      ])
      | inr away ↦ rw away (elim (cases_Bool (same_cell other e.0)) [
        | inl here ↦ rw here (sym (ap (λ b. cond b [] e.1) (apart_from cell other e.0 away here)))
        | inr not_here ↦ rw not_here rest
      ])
    ]

-- inserting a text
inserted : (texts : Texts) (cell other : Cell) (text : List ℕ) → text_at (insert_entry cell_cmp texts cell text) other ≡ cond (same_cell cell other) text (text_at texts other)
inserted [] cell other text = rw (same_swapped cell other) (elim (same_cell cell other) as (λ b. unwrap_or (cond b (Some text) None) [] ≡ cond b text []) [ true ↦ refl | false ↦ refl ])
inserted (e ∷ es) cell other text =
    elim (cell_cmp cell e.0) as (λ o. cell_cmp cell e.0 ≡ o → text_at (match_ordering o ((cell, text) ∷ e ∷ es) ((e.0, text) ∷ es) (e ∷ insert_entry cell_cmp es cell text)) other ≡ cond (same_cell cell other) text (text_at (e ∷ es) other)) [
      | Less ↦ λ _. rw (same_swapped cell other) (elim (same_cell cell other) as (λ b. unwrap_or (cond b (Some text) (lookup (same_cell other) (e ∷ es))) [] ≡ cond b text (text_at (e ∷ es) other)) [ true ↦ refl | false ↦ refl ])
      | Equal ↦ λ o.
          let here : same_cell cell e.0 ≡ true = sym (same_at cell e.0) ∙ ap is_eq o in
          let at : e.0 ≡ cell = sym (cells_same cell e.0 here) in
          let test : same_cell other e.0 ≡ same_cell cell other = ap (same_cell other) at ∙ same_swapped cell other in
          rw test (elim (same_cell cell other) as (λ b. unwrap_or (cond b (Some text) (lookup (same_cell other) es)) [] ≡ cond b text (unwrap_or (cond b (Some e.1) (lookup (same_cell other) es)) [])) [ true ↦ refl | false ↦ refl ])
      | Greater ↦ λ o.
          let away : same_cell cell e.0 ≡ false = sym (same_at cell e.0) ∙ ap is_eq o in
          elim (cases_Bool (same_cell other e.0)) [
            | inl here ↦ rw here (sym (ap (λ b. cond b text e.1) (apart_from cell other e.0 away here)))
            | inr not_here ↦ rw not_here (inserted es cell other text)
          ]
    ] refl

text_kept : (texts : Texts) (cell other : Cell) (text : List ℕ) → text_at (with_text texts cell text) other ≡ cond (same_cell cell other) text (text_at texts other)
text_kept texts cell other [] = taken texts cell other
text_kept texts cell other (byte ∷ bytes) = inserted texts cell other (byte ∷ bytes)

pub clues_are_kept : CluesAreKept
clues_are_kept clues cell other Across Across text = text_kept clues.across cell other text
clues_are_kept clues cell other Across Down text = refl
clues_are_kept clues cell other Down Across text = refl
clues_are_kept clues cell other Down Down text = text_kept clues.down cell other text

-- ---- circles

taken_key : (circles : List Cell) (cell other : Cell) → list_any (same_cell other) (filter (λ at. not (same_cell cell at)) circles) ≡ cond (same_cell cell other) false (list_any (same_cell other) circles)
taken_key [] cell other = elim (same_cell cell other) as (λ b. false ≡ cond b false false) [ true ↦ refl | false ↦ refl ]
taken_key (c ∷ cs) cell other =
    let rest = taken_key cs cell other in
    elim (cases_Bool (same_cell cell c)) [
      | inl here ↦ rw here (elim (cases_Bool (same_cell other c)) [
        | inl too ↦ rw too (rest ∙ ap (λ b. cond b false (list_any (same_cell other) cs)) (same_both cell other c here too) ∙ sym (ap (λ b. cond b false true) (same_both cell other c here too)))
        | inr not_too ↦ rw not_too rest
      ])
      | inr away ↦ rw away (elim (cases_Bool (same_cell other c)) [
        | inl here ↦ rw here (sym (ap (λ b. cond b false true) (apart_from cell other c away here)))
        | inr not_here ↦ rw not_here rest
      ])
    ]

inserted_key : (circles : List Cell) (cell other : Cell) → list_any (same_cell other) (insert_key cell_cmp circles cell) ≡ cond (same_cell cell other) true (list_any (same_cell other) circles)
inserted_key [] cell other = rw (same_swapped cell other) (elim (same_cell cell other) as (λ b. (b || false) ≡ cond b true false) [ true ↦ refl | false ↦ refl ])
inserted_key (c ∷ cs) cell other =
    elim (cell_cmp cell c) as (λ o. cell_cmp cell c ≡ o → list_any (same_cell other) (match_ordering o (cell ∷ c ∷ cs) (c ∷ cs) (c ∷ insert_key cell_cmp cs cell)) ≡ cond (same_cell cell other) true (list_any (same_cell other) (c ∷ cs))) [
      | Less ↦ λ _. rw (same_swapped cell other) (elim (same_cell cell other) as (λ b. (b || list_any (same_cell other) (c ∷ cs)) ≡ cond b true (list_any (same_cell other) (c ∷ cs))) [ true ↦ refl | false ↦ refl ])
      | Equal ↦ λ o.
          let here : same_cell cell c ≡ true = sym (same_at cell c) ∙ ap is_eq o in
          let test : same_cell other c ≡ same_cell cell other = ap (same_cell other) (sym (cells_same cell c here)) ∙ same_swapped cell other in
          rw test (elim (same_cell cell other) as (λ b. (b || list_any (same_cell other) cs) ≡ cond b true (b || list_any (same_cell other) cs)) [ true ↦ refl | false ↦ refl ])
      | Greater ↦ λ o.
          let away : same_cell cell c ≡ false = sym (same_at cell c) ∙ ap is_eq o in
          elim (cases_Bool (same_cell other c)) [
            | inl here ↦ rw here (sym (ap (λ b. cond b true true) (apart_from cell other c away here)))
            | inr not_here ↦ rw not_here (inserted_key cs cell other)
          ]
    ] refl

pub circles_are_kept : CirclesAreKept
circles_are_kept circles cell other true = inserted_key circles cell other
circles_are_kept circles cell other false = taken_key circles cell other
