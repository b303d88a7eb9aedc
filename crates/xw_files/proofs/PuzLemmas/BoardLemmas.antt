-- The squares of the solution board.
use Rattle.std.proofs.Common.{◌≡◌, ℕ, zero, suc, ◌+◌, Bool, true, false, cond, List, [], ◌∷◌, length, nat_eq, refl, sym, ap, ◌∙◌, subst, arith, Ok}
use Rattle.std.specs.Prelude.{Option, Some, None, option_map, All}
use Rattle.std.proofs.lemmas.Bool.Decides.{nat_tests}
use Rattle.xw_letters.specs.Letter.{IsLetter, is_letter, folded, letter_of}
use Rattle.xw_grid.specs.Grid.{IsSquare}
use Rattle.xw_grid.specs.declared.cell.Square.TheVariants.{Block, Open}
use Rattle.xw_grid.specs.declared.cell.Square.{Square}
use Rattle.xw_files.specs.Puz.Board.{square_of, square_or_fault, squares_at}
use Rattle.xw_files.proofs.StepLemmas.{bind_ok, ok_is}

pub square-found : (width index : ℕ) (read : Option Square) (square : Square) → square_or_fault width index read ≡ Ok square → read ≡ Some square
square-found width index (Some x) square e = ap (λ s. Some s) (ok_is x square e)
square-found width index None square e = cc

-- there is one square for each byte
pub squares_at-length : (width index : ℕ) (bytes : List ℕ) (squares : List Square) → squares_at width index bytes ≡ Ok squares → length squares ≡ length bytes
squares_at-length width index [] squares e = ap length (sym (ok_is [] squares e))
squares_at-length width index (byte ∷ bytes) squares e =
    let first = bind_ok (square_or_fault width index (square_of byte)) _ squares e in
    let more = bind_ok (squares_at width (index + 1) bytes) _ squares first.2 in
    let same = squares_at-length width (index + 1) bytes more.0 more.1 in
    ap length (sym (ok_is (first.0 ∷ more.0) squares more.2)) ∙ ap (λ n. suc n) same

-- ---- letters

folded-letter : (byte : ℕ) → is_letter byte ≡ true → IsLetter (folded byte)
folded-letter byte is = (grind (arith, nat_tests), grind (arith, nat_tests))

letter-read : (byte : ℕ) (b : Bool) (letter : ℕ) → is_letter byte ≡ b → cond b (Some (folded byte)) None ≡ Some letter → IsLetter letter
letter-read byte true letter is e = let same : folded byte ≡ letter = cc in subst IsLetter same (folded-letter byte is)
letter-read byte false letter is e = cc

open-read : (read : Option ℕ) (square : Square) → ((letter : ℕ) → read ≡ Some letter → IsLetter letter) → option_map (λ letter. Open (Some letter)) read ≡ Some square → IsSquare square
open-read (Some letter) square each e = let same : Open (Some letter) ≡ square = cc in subst IsSquare same (each letter refl)
open-read None square each e = cc

square-read : (byte : ℕ) (dot dash : Bool) (square : Square) → cond dot (Some Block) (cond dash (Some (Open None)) (option_map (λ letter. Open (Some letter)) (letter_of byte))) ≡ Some square → IsSquare square
square-read byte true dash square e = let same : Block ≡ square = cc in subst IsSquare same tt
square-read byte false true square e = let same : Open None ≡ square = cc in subst IsSquare same tt
square-read byte false false square e = open-read (letter_of byte) square (λ letter got. letter-read byte (is_letter byte) letter refl got) e

all-more : (square : Square) (squares : List Square) → IsSquare square → All IsSquare squares → All IsSquare (square ∷ squares)
all-more square squares first rest zero d h = first
all-more square squares first rest (suc k) d h = rest k d (omega arith)

-- every square that is read is a valid square
pub squares_at-letters : (width index : ℕ) (bytes : List ℕ) (squares : List Square) → squares_at width index bytes ≡ Ok squares → All IsSquare squares
squares_at-letters width index [] squares e = subst (All IsSquare) (ok_is [] squares e) (λ k d h. absurd (omega arith))
squares_at-letters width index (byte ∷ bytes) squares e =
    let first = bind_ok (square_or_fault width index (square_of byte)) _ squares e in
    let more = bind_ok (squares_at width (index + 1) bytes) _ squares first.2 in
    let here = square-read byte (nat_eq byte 46) (nat_eq byte 45) first.0 (square-found width index (square_of byte) first.0 first.1) in
    subst (All IsSquare) (ok_is (first.0 ∷ more.0) squares more.2) (all-more first.0 more.0 here (squares_at-letters width (index + 1) bytes more.0 more.1))
