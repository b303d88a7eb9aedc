-- The squares of the bytes of a row.
use Rattle.std.proofs.Common.{◌≡◌, ◌≢◌, ℕ, ◌+◌, ◌<◌, ◌≤◌, true, false, not, ◌||◌, eqb, cond, List, [], ◌∷◌, ◌++◌, length, Some, None, Ok, Err, map, get_or, take, refl, sym, ap, subst, ◌∙◌, append_assoc, below_more, arith}
use Rattle.std.specs.Prelude.{position}
use Rattle.std.proofs.lemmas.Bool.{ne_eqb}
use Rattle.std.proofs.lemmas.Bool.Decides.{nat_tests}
use Rattle.std.proofs.lemmas.List.{take_more, take_all, map_push}
use Rattle.std.proofs.lemmas.Option.{cond_some}
use Rattle.xw_letters.specs.Letter.{IsLetter, is_letter, folded, letter_of}
use Rattle.xw_text.proofs.Position.{position_is_some, position_is_none}
use Rattle.xw_grid.specs.declared.cell.Square.{Square}
use Rattle.xw_grid.specs.declared.cell.Square.TheVariants.{Block, Open}
use Rattle.xw_grid.specs.Grid.{IsSquare}
use Rattle.xw_files.specs.declared.fault.ReadFault.TheVariants as faults
use Rattle.xw_files.specs.Text.Shape.{is_bad_square, square_of, row_squares, squares_after}

-- the byte is this square
pub record Stands (byte : ℕ) (square : Square) : Type 0 where
  pub good : is_bad_square byte ≡ false
  pub meaning : square_of byte ≡ square

pub stands_at : (byte other : ℕ) → byte ≡ other → (s : Square) → Stands other s → Stands byte s
stands_at byte other same s stands = subst (λ (b : ℕ). Stands b s) (sym same) stands

pub dot_stands : (byte : ℕ) → byte ≡ 46 → Stands byte Block
dot_stands byte is = stands_at byte 46 is Block (record { good = refl; meaning = refl })

pub dash_stands : (byte : ℕ) → byte ≡ 45 → Stands byte (Open None)
dash_stands byte is = stands_at byte 45 is (Open None) (record { good = refl; meaning = refl })

pub letter_stands : (byte letter : ℕ) → byte ≢ 46 → byte ≢ 45 → letter_of byte ≡ Some letter → Stands byte (Open (Some letter))
letter_stands byte letter no_dot no_dash is =
    let parts = cond_some (is_letter byte) (folded byte) letter is in
    record { good = rw parts.0 refl; meaning = rw (ne_eqb byte 46 no_dot, ne_eqb byte 45 no_dash) (ap (λ (code : ℕ). Open (Some code)) parts.1) }

no_letter : (byte : ℕ) → letter_of byte ≡ None → is_letter byte ≡ false
no_letter byte none = elim (is_letter byte) as (λ b. cond b (Some (folded byte)) None ≡ None → b ≡ false) [ true ↦ λ e. absurd cc | false ↦ λ e. refl ] none

pub stands_for_nothing : (byte : ℕ) → byte ≢ 46 → byte ≢ 45 → letter_of byte ≡ None → is_bad_square byte ≡ true
stands_for_nothing byte no_dot no_dash none = rw (no_letter byte none, ne_eqb byte 46 no_dot, ne_eqb byte 45 no_dash) refl

letter_folded : (byte : ℕ) → is_letter byte ≡ true → IsLetter (folded byte)
letter_folded byte h = (grind (arith, nat_tests), grind (arith, nat_tests))

pub square_good : (byte : ℕ) → is_bad_square byte ≡ false → IsSquare (square_of byte)
square_good byte good =
    elim (eqb byte 46) as (λ b. not ((is_letter byte || b) || eqb byte 45) ≡ false → IsSquare (cond b Block (cond (eqb byte 45) (Open None) (Open (Some (folded byte)))))) [
      | true ↦ λ _. tt
      | false ↦ elim (eqb byte 45) as (λ b. not ((is_letter byte || false) || b) ≡ false → IsSquare (cond b (Open None) (Open (Some (folded byte))))) [
        | true ↦ λ _. tt
        | false ↦ elim (is_letter byte) as (λ b. is_letter byte ≡ b → not ((b || false) || false) ≡ false → IsLetter (folded byte)) [
          | true ↦ λ is _. letter_folded byte is
          | false ↦ λ _ e. absurd cc
        ] refl
      ]
    ] good

-- the first `index` bytes are valid, and their squares are appended to `front`
pub record SquaresTo (line : List ℕ) (index : ℕ) (front squares : List Square) : Type 0 where
  pub so_far : squares ≡ front ++ map square_of (take index line)
  pub good : (k : ℕ) → k < index → is_bad_square (get_or line k 0) ≡ false

pub squares_go_on : (line : List ℕ) (index : ℕ) (front old new : List Square) (square : Square) → index < length line → SquaresTo line index front old → Stands (get_or line index 0) square → new ≡ old ++ square ∷ [] → SquaresTo line (index + 1) front new
squares_go_on line index front old new square lt so_far stands pushed = record {
  so_far =
      let more : map square_of (take (index + 1) line) ≡ map square_of (take index line) ++ square ∷ [] =
      ap (map square_of) (take_more line index 0 lt) ∙ map_push square_of (take index line) (get_or line index 0) ∙ ap (λ (s : Square). map square_of (take index line) ++ s ∷ []) stands.meaning in
      pushed ∙ ap (λ (s : List Square). s ++ square ∷ []) so_far.so_far ∙ append_assoc front (map square_of (take index line)) (square ∷ []) ∙ ap (λ (s : List Square). front ++ s) (sym more);
  good = below_more (λ (k : ℕ). is_bad_square (get_or line k 0) ≡ false) index so_far.good stands.good;
}

pub squares_done : (line : List ℕ) (index row : ℕ) (front squares : List Square) → length line ≤ index → SquaresTo line index front squares → squares_after front (row_squares row line) ≡ Ok squares
squares_done line index row front squares le so_far =
    let none : position is_bad_square line ≡ None = position_is_none is_bad_square line 0 (λ k lt. so_far.good k (omega arith)) in
    rw none (ap (λ (s : List Square). Ok s) (ap (λ (t : List ℕ). front ++ map square_of t) (sym (take_all index line le)) ∙ sym so_far.so_far))

pub squares_fail : (line : List ℕ) (index row : ℕ) (front squares : List Square) → index < length line → SquaresTo line index front squares → is_bad_square (get_or line index 0) ≡ true
    → squares_after front (row_squares row line) ≡ Err (faults.BadCell (record { row = row; col = index + 1 }))
squares_fail line index row front squares lt so_far bad =
    let some : position is_bad_square line ≡ Some index = position_is_some is_bad_square line index 0 lt so_far.good bad in
    rw some refl
