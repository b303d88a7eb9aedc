-- Checksums and squares are right if and only if reading accepts them.
use Rattle.std.proofs.Common.{◌≡◌, ℕ, suc, ◌+◌, ◌<◌, ◌≤◌, Bool, true, false, cond, List, [], ◌∷◌, map, take, drop, length, nat_eq, refl, ap, arith, Ok}
use Rattle.std.specs.Prelude.{Option, Some, None, nat_le}
use Rattle.std.proofs.lemmas.Bool.Decides.{nat_tests}
use Rattle.std.proofs.lemmas.List.{length-take-le, length-drop}
use Rattle.xw_grid.specs.declared.cell.Square.{Square}
use Rattle.xw_grid.specs.declared.cell.Square.TheVariants.{Block, Open}
use Rattle.xw_grid.specs.Grid.{IsSquare}
use Rattle.xw_files.specs.declared.puz.header.Header.{Header}
use Rattle.xw_files.specs.declared.puz.sums.Sums.{Sums}
use Rattle.xw_files.specs.Puz.Sums.{masked_of, wrong_masked, wrong_sum, HasSums}
use Rattle.xw_files.specs.Puz.Board.{square_of, square_or_fault, squares_at}
use Rattle.xw_files.specs.Finished.{square_byte}
use Rattle.xw_files.proofs.StepLemmas.{bind_ok, ok_is}
use Rattle.xw_files.proofs.PuzLemmas.BoardLemmas.{square-found}

pub same : (n : ℕ) → nat_eq n n ≡ true
same n = grind (arith, nat_tests)

-- ---- checksums

wrong_masked-same : (k : ℕ) (bytes : List ℕ) → wrong_masked k bytes bytes ≡ None
wrong_masked-same k [] = refl
wrong_masked-same k (byte ∷ bytes) = rw (same byte) (wrong_masked-same (k + 1) bytes)

-- a header that has all checksums has no wrong one, and conversely
pub right_sums : (header : Header) (sums : Sums) → HasSums header sums → wrong_sum header sums ≡ None
right_sums header sums has = rw (has.cib, has.file, has.masked, same sums.cib, same sums.file) (wrong_masked-same 1 (masked_of sums))

-- if the result is None, the test passed
pub none_from : {A : Type 0} (b : Bool) (o : Option A) (x : A) → cond b o (Some x) ≡ None → (b ≡ true) × (o ≡ None)
none_from true o x e = (refl, e)
none_from false o x e = cc

pub same_from : (m n : ℕ) → nat_eq m n ≡ true → m ≡ n
same_from m n e = grind (arith, nat_tests)

wrong_masked-none : (k : ℕ) (bytes others : List ℕ) → length bytes ≡ length others → wrong_masked k bytes others ≡ None → bytes ≡ others
wrong_masked-none k [] [] l e = refl
wrong_masked-none k [] (other ∷ others) l e = absurd (omega arith)
wrong_masked-none k (byte ∷ bytes) [] l e = absurd (omega arith)
wrong_masked-none k (byte ∷ bytes) (other ∷ others) l e =
    let first = none_from (nat_eq byte other) (wrong_masked (k + 1) bytes others) _ e in
    rw (same_from byte other first.0, wrong_masked-none (k + 1) bytes others (omega arith) first.1) refl

pub passing_sums : (header : Header) (sums : Sums) → length header.masked ≡ 8 → wrong_sum header sums ≡ None → HasSums header sums
passing_sums header sums long e =
    let cib = none_from (nat_eq header.cib_sum sums.cib) _ _ e in
    let file = none_from (nat_eq header.file_sum sums.file) _ _ cib.1 in
    record {
      cib = same_from header.cib_sum sums.cib cib.0;
      file = same_from header.file_sum sums.file file.0;
      masked = wrong_masked-none 1 header.masked (masked_of sums) long file.1;
    }

-- ---- squares

pub cons-same : {A : Type 0} (x y : A) (xs ys : List A) → x ∷ xs ≡ y ∷ ys → (x ≡ y) × (xs ≡ ys)
cons-same x y xs ys e = (cc, cc)

other_than : (m n : ℕ) → m < n → nat_eq n m ≡ false
other_than m n h = grind (arith, nat_tests)

at_most : (m n : ℕ) → m ≤ n → nat_le m n ≡ true
at_most m n h = grind (arith, nat_tests)

not_at_most : (m n : ℕ) → n < m → nat_le m n ≡ false
not_at_most m n h = grind (arith, nat_tests)

pub square-again : (square : Square) → IsSquare square → square_of (square_byte square) ≡ Some square
square-again Block h = refl
square-again (Open None) h = refl
square-again (Open (Some letter)) h = rw (other_than 46 letter (omega (arith, h.0)), other_than 45 letter (omega (arith, h.0)), at_most 65 letter h.0, at_most letter 90 h.1, not_at_most 97 letter (omega (arith, h.1))) refl

-- the squares that are read are those of the bytes
pub squares_found : (width index : ℕ) (bytes : List ℕ) (squares : List Square) → squares_at width index bytes ≡ Ok squares → map square_of bytes ≡ map (λ square. Some square) squares
squares_found width index [] squares e = ap (map (λ square. Some square)) (ok_is [] squares e)
squares_found width index (byte ∷ bytes) squares e =
    let first = bind_ok (square_or_fault width index (square_of byte)) _ squares e in
    let more = bind_ok (squares_at width (index + 1) bytes) _ squares first.2 in
    let here = square-found width index (square_of byte) first.0 first.1 in
    let there = squares_found width (index + 1) bytes more.0 more.1 in
    rw (here, there) (ap (map (λ square. Some square)) (ok_is (first.0 ∷ more.0) squares more.2))

-- if every byte is a square, the squares are read
pub squares-from : (width index : ℕ) (bytes : List ℕ) (squares : List Square) → map square_of bytes ≡ map (λ square. Some square) squares → squares_at width index bytes ≡ Ok squares
squares-from width index [] [] e = refl
squares-from width index [] (square ∷ squares) e = absurd (let n : 0 ≡ suc (length (map (λ s. Some s) squares)) = ap length e in omega arith)
squares-from width index (byte ∷ bytes) [] e = absurd (let n : suc (length (map square_of bytes)) ≡ 0 = ap length e in omega arith)
squares-from width index (byte ∷ bytes) (square ∷ squares) e =
    let both = cons-same (square_of byte) (Some square) (map square_of bytes) (map (λ s. Some s) squares) e in
    rw (both.0, squares-from width (index + 1) bytes squares both.1) refl

pub part-length : (bytes : List ℕ) (at count : ℕ) → at + count ≤ length bytes → length (take count (drop at bytes)) ≡ count
part-length bytes at count h = length-take-le count (drop at bytes) (omega (arith, length-drop at bytes))
