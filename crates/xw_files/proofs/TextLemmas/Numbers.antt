-- Decimal numbers.
use Rattle.std.proofs.Common.{◌≡◌, ℕ, zero, suc, ◌+◌, ◌-◌, ◌*◌, ◌^◌, ◌<◌, ◌≤◌, Bool, true, List, [], ◌∷◌, length, get_or, take, pow-suc, add-one, arith}
use Rattle.std.specs.List.{list_all}
use Rattle.std.specs.Char.{is_ascii_digit, digit_value}
use Rattle.std.specs.Str.Parse.{digits_value}
use Rattle.std.proofs.lemmas.Bool.{leb-true, and_parts}
use Rattle.std.proofs.lemmas.Str.{digit_value_digit}
use Rattle.std.proofs.lemmas.Int.Digits.{digits_value_more}
use Rattle.xw_files.specs.Text.Shape.{is_numeral}

-- the value of a decimal digit
pub digit_worth : (digit : ℕ) → is_ascii_digit digit ≡ true → (48 ≤ digit) × (digit ≤ 57) × (digit_value digit + 48 ≡ digit)
digit_worth digit is =
    let both = and_parts _ _ is in
    let low = leb-true _ _ both.0 in
    let high = leb-true _ _ both.1 in
    (low, high, digit_value_digit digit (low, high))

passes_at : (p : ℕ → Bool) (xs : List ℕ) (i : ℕ) → i < length xs → list_all p xs ≡ true → p (get_or xs i 0) ≡ true
passes_at p [] i lt all = absurd (omega arith)
passes_at p (x ∷ xs) zero lt all = (and_parts _ _ all).0
passes_at p (x ∷ xs) (suc i) lt all = passes_at p xs i (omega arith) (and_parts _ _ all).1

pub record IsNumeral (text : List ℕ) : Type 0 where
  pub few : (1 ≤ length text) × (length text ≤ 3)
  pub digits : (i : ℕ) → i < length text → is_ascii_digit (get_or text i 0) ≡ true

pub numeral_parts : (digits : List ℕ) → is_numeral digits ≡ true → IsNumeral digits
numeral_parts digits is =
    let parts = and_parts _ _ is in
    let few = and_parts _ _ parts.0 in
    record { few = (leb-true _ _ few.0, leb-true _ _ few.1); digits = λ i lt. passes_at is_ascii_digit digits i lt parts.1 }

power : (i : ℕ) → 10 ^ (i + 1) ≡ 10 ^ i * 10
power i = rw add-one (pow-suc 10 i)

pub number_more : (number i : ℕ) (digits : List ℕ) → i < length digits → is_numeral digits ≡ true → number ≡ digits_value 10 (take i digits) → number < 10 ^ i
    → (number * 10 + (get_or digits i 0 - 48) ≡ digits_value 10 (take (i + 1) digits)) × (number * 10 + (get_or digits i 0 - 48) < 10 ^ (i + 1))
number_more number i digits lt is so_far below =
    let worth = digit_worth (get_or digits i 0) ((numeral_parts digits is).digits i lt) in
    let more = digits_value_more 10 digits i lt in
    (omega (arith, more, worth.0, worth.1, worth.2, so_far), omega (arith, worth.0, worth.1, below, power i))

-- a number of at most three digits stays small
pub number_small : (number i : ℕ) (digits : List ℕ) → i < length digits → is_numeral digits ≡ true → number < 10 ^ i → number < 100
number_small number zero digits lt is below = omega arith
number_small number (suc zero) digits lt is below = omega arith
number_small number (suc (suc zero)) digits lt is below = omega arith
number_small number (suc (suc (suc i))) digits lt is below = absurd (omega (arith, (numeral_parts digits is).few.1))
