-- Lemmas about maps from cells to texts.
use Rattle.std.proofs.Common.{◌≡◌, ℕ, ◌<◌, Bool, true, false, cond, not, ◌&&◌, ◌||◌, eqb, List, [], ◌∷◌, map, length, refl, ap, sym, ◌∙◌, arith}
use Rattle.std.specs.Prelude.{filter, Option, Some, None, option_map}
use Rattle.std.specs.List.{list_any, AllZip}
use Rattle.std.specs.Option.{unwrap_or}
use Rattle.std.specs.declared.cmp.Ordering.{Ordering}
use Rattle.std.specs.declared.cmp.Ordering.TheVariants.{Less, Equal, Greater}
use Rattle.std.specs.Ordering.{nat_cmp, is_eq, ordering_then, match_ordering}
use Rattle.std.specs.Cmp.{unsigned_ties}
use Rattle.std.specs.Map.{lookup, remove_entry}
use Rattle.std.specs.Set.{remove_key}
use Rattle.std.specs.BTreeMap.{BTreeMap, insert_entry, is_at}
use Rattle.std.specs.declared.vec.Vec.{Vec}
use Rattle.xw_grid.specs.declared.cell.Cell.{Cell}
use Rattle.xw_grid.specs.Grid.{same_cell, cell_cmp}
use Rattle.xw_grid.specs.Clue.{text_at, with_text}
use Rattle.xw_grid.specs.ClueView.{texts_in}
use Rattle.xw_grid.proofs.GridLemmas.{map-filter}

is_eq-then : (first second : Ordering) → is_eq (ordering_then first second) ≡ (is_eq first && is_eq second)
is_eq-then Less second = refl
is_eq-then Equal second = refl
is_eq-then Greater second = refl

-- two cells compare as equal if and only if they are the same
pub same_at : (cell other : Cell) → is_at (cell_cmp cell) other ≡ same_cell cell other
same_at cell other =
    is_eq-then (nat_cmp cell.row other.row) (nat_cmp cell.col other.col)
    ∙ ap (λ b. b && is_eq (nat_cmp cell.col other.col)) (sym (unsigned_ties cell.row other.row))
    ∙ ap (λ b. eqb cell.row other.row && b) (sym (unsigned_ties cell.col other.col))

pub same_tests : (cell : Cell) → is_at (cell_cmp cell) ≡ same_cell cell
same_tests cell = λ i other. same_at cell other i

-- ---- entries of a map

none_there : {K X : Type 0} (test : K → Bool) (es : List (K × X)) → lookup test es ≡ None → filter (λ e. not (test e.0)) es ≡ es
none_there test [] h = refl
none_there test (e ∷ es) h =
    elim (test e.0) as (λ b. cond b (Some e.1) (lookup test es) ≡ None → cond (not b) (e ∷ filter (λ e. not (test e.0)) es) (filter (λ e. not (test e.0)) es) ≡ e ∷ es) [
      | true ↦ λ found. cc
      | false ↦ λ none. ap (λ rest. e ∷ rest) (none_there test es none)
    ] h

-- if no entry is left that passes, removing one entry removed all that pass
pub removed_all : {K X : Type 0} (test : K → Bool) (es : List (K × X)) → lookup test (remove_entry test es) ≡ None → remove_entry test es ≡ filter (λ e. not (test e.0)) es
removed_all test [] h = refl
removed_all test (e ∷ es) h =
    elim (test e.0) as (λ b. test e.0 ≡ b → lookup test (cond b es (e ∷ remove_entry test es)) ≡ None → cond b es (e ∷ remove_entry test es) ≡ cond (not b) (e ∷ filter (λ e. not (test e.0)) es) (filter (λ e. not (test e.0)) es)) [
      | true ↦ λ _ none. sym (none_there test es none)
      | false ↦ λ other none. ap (λ rest. e ∷ rest) (removed_all test es (ap (λ b. cond b (Some e.1) (lookup test (remove_entry test es))) (sym other) ∙ none))
    ] refl h

none_there_keys : {K : Type 0} (test : K → Bool) (ks : List K) → list_any test ks ≡ false → filter (λ k. not (test k)) ks ≡ ks
none_there_keys test [] h = refl
none_there_keys test (k ∷ ks) h =
    elim (test k) as (λ b. (b || list_any test ks) ≡ false → cond (not b) (k ∷ filter (λ k. not (test k)) ks) (filter (λ k. not (test k)) ks) ≡ k ∷ ks) [
      | true ↦ λ found. cc
      | false ↦ λ none. ap (λ rest. k ∷ rest) (none_there_keys test ks none)
    ] h

pub removed_all_keys : {K : Type 0} (test : K → Bool) (ks : List K) → list_any test (remove_key test ks) ≡ false → remove_key test ks ≡ filter (λ k. not (test k)) ks
removed_all_keys test [] h = refl
removed_all_keys test (k ∷ ks) h =
    elim (test k) as (λ b. test k ≡ b → list_any test (cond b ks (k ∷ remove_key test ks)) ≡ false → cond b ks (k ∷ remove_key test ks) ≡ cond (not b) (k ∷ filter (λ k. not (test k)) ks) (filter (λ k. not (test k)) ks)) [
      | true ↦ λ _ none. sym (none_there_keys test ks none)
      | false ↦ λ other none. ap (λ rest. k ∷ rest) (removed_all_keys test ks (ap (λ b. b || list_any test (remove_key test ks)) (sym other) ∙ none))
    ] refl h

-- ---- texts in memory

module _ {Z : Type 0} where
  abbrev seen : Cell × Vec ℕ Z → Cell × List ℕ
  seen entry = (entry.0, entry.1.items)

  map-insert : (es : List (Cell × Vec ℕ Z)) (cell : Cell) (text : Vec ℕ Z) → map seen (insert_entry cell_cmp es cell text) ≡ insert_entry cell_cmp (map seen es) cell text.items
  map-insert [] cell text = refl
  map-insert (e ∷ es) cell text =
      elim (cell_cmp cell e.0) as (λ o. map seen (match_ordering o ((cell, text) ∷ e ∷ es) ((e.0, text) ∷ es) (e ∷ insert_entry cell_cmp es cell text)) ≡ match_ordering o ((cell, text.items) ∷ seen e ∷ map seen es) ((e.0, text.items) ∷ map seen es) (seen e ∷ insert_entry cell_cmp (map seen es) cell text.items)) [
        | Less ↦ refl
        | Equal ↦ refl
        | Greater ↦ ap (λ rest. seen e ∷ rest) (map-insert es cell text)
      ]

  pub lookup-seen : (test : Cell → Bool) (es : List (Cell × Vec ℕ Z)) → unwrap_or (lookup test (map seen es)) [] ≡ unwrap_or (option_map (λ text. text.items) (lookup test es)) []
  lookup-seen test [] = refl
  lookup-seen test (e ∷ es) = elim (test e.0) as (λ b. unwrap_or (cond b (Some e.1.items) (lookup test (map seen es))) [] ≡ unwrap_or (option_map (λ text. text.items) (cond b (Some e.1) (lookup test es))) []) [ true ↦ refl | false ↦ lookup-seen test es ]

  -- the result of a lookup is the text of the cell
  pub text_found : (texts : BTreeMap Cell (Vec ℕ Z)) (cell : Cell) (found : Option (Vec ℕ Z)) → found ≡ lookup (is_at (cell_cmp cell)) texts.entries → unwrap_or (option_map (λ text. text.items) found) [] ≡ text_at (texts_in texts) cell
  text_found texts cell found e =
      ap (λ o. unwrap_or (option_map (λ text. text.items) o) []) e
      ∙ ap (λ test. unwrap_or (option_map (λ text. text.items) (lookup test texts.entries)) []) (same_tests cell)
      ∙ sym (lookup-seen (same_cell cell) texts.entries)

  pub text_removed : (old new : BTreeMap Cell (Vec ℕ Z)) (cell : Cell) (text : List ℕ) → text ≡ [] → new.entries ≡ remove_entry (is_at (cell_cmp cell)) old.entries → lookup (is_at (cell_cmp cell)) new.entries ≡ None → texts_in new ≡ with_text (texts_in old) cell text
  text_removed old new cell text none removed gone =
      ap (map seen) (removed ∙ removed_all (is_at (cell_cmp cell)) old.entries (ap (lookup (is_at (cell_cmp cell))) (sym removed) ∙ gone))
      ∙ ap (λ test. map seen (filter (λ e. not (test e.0)) old.entries)) (same_tests cell)
      ∙ map-filter seen (λ e. not (same_cell cell e.0)) old.entries
      ∙ ap (with_text (texts_in old) cell) (sym none)

  pub text_kept : (old new : BTreeMap Cell (Vec ℕ Z)) (cell : Cell) (kept : Vec ℕ Z) (text : List ℕ) → 0 < length text → kept.items ≡ text → new.entries ≡ insert_entry cell_cmp old.entries cell kept → texts_in new ≡ with_text (texts_in old) cell text
  text_kept old new cell kept [] some same now = absurd (omega arith)
  text_kept old new cell kept (byte ∷ bytes) some same now =
      ap (map seen) now ∙ map-insert old.entries cell kept ∙ ap (insert_entry cell_cmp (texts_in old) cell) same

  -- copies of equal cells and texts are equal
  pub texts_copied : (C : Cell → Cell → Type 0) (D : Vec ℕ Z → Vec ℕ Z → Type 0) → ((x y : Cell) → C x y → y ≡ x) → ((v w : Vec ℕ Z) → D v w → w.items ≡ v.items) → (es fs : List (Cell × Vec ℕ Z)) → AllZip (λ e f. C e.0 f.0 × D e.1 f.1) es fs → map seen fs ≡ map seen es
  texts_copied C D cells texts [] [] h = refl
  texts_copied C D cells texts [] (f ∷ fs) h = elim h [ ]
  texts_copied C D cells texts (e ∷ es) [] h = elim h [ ]
  texts_copied C D cells texts (e ∷ es) (f ∷ fs) h =
      ap (λ cell. (cell, f.1.items) ∷ map seen fs) (cells e.0 f.0 h.0.0)
      ∙ ap (λ text. (e.0, text) ∷ map seen fs) (texts e.1 f.1 h.0.1)
      ∙ ap (λ rest. seen e ∷ rest) (texts_copied C D cells texts es fs h.1)
