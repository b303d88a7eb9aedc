-- Reading digits one after another.
use Rattle.std.proofs.Common.{◌≡◌, ℕ, ◌+◌, ◌*◌, ◌-◌, ◌^◌, ◌<◌, ◌≤◌, Bool, true, false, ◌&&◌, List, length, get_or, take, leb, lit<, add-one, pow-suc, refl, sym, ◌∙◌, arith}
use Rattle.std.proofs.Math.Nat.{pow-le-pow_right}
use Rattle.std.specs.List.{list_all}
use Rattle.std.specs.Char.{digit_value}
use Rattle.std.specs.Str.Parse.{digits_value}
use Rattle.std.proofs.lemmas.Bool.{false≢true}
use Rattle.std.proofs.lemmas.Bool.Decides.{nat_tests}
use Rattle.std.proofs.lemmas.Int.Digits.{digits_value_more}
use Rattle.std.proofs.lemmas.List.Folds.{list_all_at}
use Rattle.xw_text.specs.Digits.{is_digit, is_number}

passes : (test all : Bool) → (test ≡ false → all ≡ false) → all ≡ true → test ≡ true
passes true all h e = refl
passes false all h e = absurd (false≢true (sym (h refl) ∙ e))

each_passes : {X : Type 0} (test : X → Bool) (items : List X) (i : ℕ) (d : X) → i < length items → list_all test items ≡ true → test (get_or items i d) ≡ true
each_passes test items i d l = passes _ _ (list_all_at test items i d l)

both : (a b : Bool) → (a && b) ≡ true → (a ≡ true) × (b ≡ true)
both true b h = (refl, h)
both false b h = absurd (false≢true h)

pub digit_at : (digits : List ℕ) (i : ℕ) → is_number 18 digits ≡ true → i < length digits → is_digit (get_or digits i 0) ≡ true
digit_at digits i h l = each_passes is_digit digits i 0 l (both _ _ h).1

pub is_short : (digits : List ℕ) → is_number 18 digits ≡ true → length digits ≤ 18
is_short digits h = let e : leb (length digits) 18 ≡ true = (both (leb 1 (length digits)) _ (both _ (list_all is_digit digits) h).0).1 in grind (arith, nat_tests, e)

pub has_digits : (digits : List ℕ) → is_number 18 digits ≡ true → 1 ≤ length digits
has_digits digits h = let e : leb 1 (length digits) ≡ true = (both _ (leb (length digits) 18) (both _ (list_all is_digit digits) h).0).0 in grind (arith, nat_tests, e)

pub in_range : (c : ℕ) → is_digit c ≡ true → (48 ≤ c) × (c ≤ 57)
in_range c h = let e : (leb 48 c ≡ true) × (leb c 57 ≡ true) = both _ _ h in grind (arith, nat_tests, e)

pub value_of : (c : ℕ) → is_digit c ≡ true → digit_value c ≡ c - 48
value_of c h = let e = in_range c h in grind (arith, nat_tests, e)

-- 18 digits fit in a u64
pub small_enough : (digits : List ℕ) (i value : ℕ) → is_number 18 digits ≡ true → i < length digits → value < 10 ^ i → value < 10 ^ 17
small_enough digits i value h l v =
    let short = is_short digits h in
    let le : i ≤ 17 = omega (arith, short) in
    let ten : 0 < 10 = lit< tt in
    let grows = pow-le-pow_right ten le in
    omega (arith, grows)

pub one_more : (digits : List ℕ) (i value : ℕ) → is_number 18 digits ≡ true → i < length digits → value ≡ digits_value 10 (take i digits)
    → 10 * value + (get_or digits i 0 - 48) ≡ digits_value 10 (take (i + 1) digits)
one_more digits i value h l is =
    let digit = value_of (get_or digits i 0) (digit_at digits i h l) in
    rw digits_value_more omega (arith, digit, is)

pub ten_times : (digits : List ℕ) (i value : ℕ) → is_number 18 digits ≡ true → i < length digits → value < 10 ^ i → 10 * value + (get_or digits i 0 - 48) < 10 ^ (i + 1)
ten_times digits i value h l v =
    let range = in_range (get_or digits i 0) (digit_at digits i h l) in
    let next : 10 ^ (i + 1) ≡ 10 ^ i * 10 = rw (add-one, pow-suc) refl in
    omega (arith, next, range)

-- fewer digits are a number too
pub nine_digits : (digits : List ℕ) → is_number 9 digits ≡ true → is_number 18 digits ≡ true
nine_digits digits h =
    let parts = both _ (list_all is_digit digits) h in
    let long = both (leb 1 (length digits)) (leb (length digits) 9) parts.0 in
    let more : leb (length digits) 18 ≡ true = grind (arith, nat_tests, long.1) in
    rw (long.0, more) parts.1
