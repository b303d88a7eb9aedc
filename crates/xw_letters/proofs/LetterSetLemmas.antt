-- Lemmas about sets of letters.
use Rattle.std.proofs.Common.{◌≡◌, ◌≢◌, ℕ, ◌+◌, ◌-◌, ◌*◌, ◌%◌, ◌^◌, ◌<◌, ◌≤◌, Bool, true, false, not, ◌||◌, cond, eqb, [], ◌∷◌, length, get_or, take, length-append, refl, ap, sym, ◌∙◌, arith, inl, inr, zero, suc, min, max, leb, ◌&&◌, List, ◌⊎◌}
use Rattle.std.specs.Prelude.{bit_or, bit_and, filter, bytes_eq}
use Rattle.std.specs.List.{list_any}
use Rattle.std.proofs.lemmas.Bool.{cases_Bool, and_parts, eqb-true, both_ways, eq-eqb, false_from_ne_true, false≢true}
use Rattle.std.proofs.lemmas.Slice.Eq.{bytes_eq-Decides}
use Rattle.std.specs.Int.{bit_at, bit_not, w32}
use Rattle.std.proofs.lemmas.Bool.Decides.{nat_tests}
use Rattle.std.proofs.Math.Pow.{pow-lt}
use Rattle.std.proofs.Math.Nat.{mod-le}
use Rattle.std.proofs.lemmas.Nat.{and_le_l, or_lt}
use Rattle.std.proofs.lemmas.List.{drop_more, drop_all}
use Rattle.std.proofs.lemmas.List.FromFn.{get_or-map-range_with_len}
use Rattle.std.proofs.lemmas.List.Elements.{filter_more}
use Rattle.std.proofs.lemmas.List.Folds.{list_any_at}
use Rattle.std.proofs.lemmas.List.Sums.{length-filter, count_by-le-length}
use Rattle.std.proofs.lemmas.Nat.Bits.{bit_at_set_same, bit_at_set_other, bit_at_clear_same, bit_at_clear_other, bit_at_ones, bit_at_and, bit_at_or, bit_at-lt, bit_at-zero, bit_at_not, same_from_bits_below}
use Rattle.xw_letters.specs.Letter.{IsLetter, alphabet, is_capital}
use Rattle.xw_letters.specs.LetterSet.{has, letters_in, letters_from}

or-false : (a : Bool) → a ≡ (a || false)
or-false true = refl
or-false false = refl

and_true : (a : Bool) → a ≡ (a && true)
and_true true = refl
and_true false = refl

or-true : (a : Bool) → true ≡ (a || true)
or-true true = refl
or-true false = refl

-- a letter is a capital
pub letter_is_capital : (letter : ℕ) → IsLetter letter → is_capital letter ≡ true
letter_is_capital letter is = grind (arith, nat_tests, is.0, is.1)

pub capital_is_letter : (letter : ℕ) → is_capital letter ≡ true → IsLetter letter
capital_is_letter letter h =
    let parts = and_parts (leb 65 letter) (leb letter 90) h in
    let low : 65 ≤ letter = grind (arith, nat_tests, parts.0) in
    let high : letter ≤ 90 = grind (arith, nat_tests, parts.1) in
    (low, high)

abbrev bit_of : ℕ → ℕ → Bool
bit_of set letter = eqb (bit_at set (letter - 65)) 1

bit-inserted : (set letter other : ℕ) → IsLetter letter → IsLetter other → bit_of (bit_or set (1 * 2 ^ (letter - 65) % 4294967296)) other ≡ (bit_of set other || eqb other letter)
bit-inserted set letter other at other_at =
    elim (eqb other letter) as (λ b. eqb other letter ≡ b → bit_of (bit_or set (1 * 2 ^ (letter - 65) % 4294967296)) other ≡ (bit_of set other || b)) [
      | true ↦ λ e.
          let same : other ≡ letter = grind (arith, nat_tests) in
          ap (λ l. eqb (bit_at (bit_or set (1 * 2 ^ (letter - 65) % 4294967296)) (l - 65)) 1) same
          ∙ ap (λ b. eqb b 1) (bit_at_set_same w32 set (letter - 65) (omega arith))
          ∙ or-true (bit_of set other)
      | false ↦ λ e.
          let apart : other ≢ letter = grind (arith, nat_tests) in
          let apart' : other - 65 ≢ letter - 65 = omega arith in
          ap (λ b. eqb b 1) (bit_at_set_other w32 set (letter - 65) (omega arith) (other - 65) apart')
          ∙ or-false (bit_of set other)
    ] refl

no_capital : (letter other : ℕ) → IsLetter letter → is_capital other ≡ false → eqb other letter ≡ false
no_capital letter other is none =
    elim (eqb other letter) as (λ b. eqb other letter ≡ b → b ≡ false) [
      | true ↦ λ e.
          let same : other ≡ letter = grind (arith, nat_tests) in
          sym (letter_is_capital letter is) ∙ ap is_capital (sym same) ∙ none
      | false ↦ λ _. refl
    ] refl

and-false : (a : Bool) → false ≡ (a && false)
and-false true = refl
and-false false = refl

pub has-inserted : (set letter other : ℕ) → IsLetter letter → has (bit_or set (1 * 2 ^ (letter - 65) % 4294967296)) other ≡ (has set other || eqb other letter)
has-inserted set letter other at =
    elim (cases_Bool (is_capital other)) [
      | inl is ↦ rw is (bit-inserted set letter other at (capital_is_letter other is))
      | inr none ↦ rw none (sym (no_capital letter other at none))
    ]

bit-removed : (set letter other : ℕ) → IsLetter letter → IsLetter other → bit_of (bit_and set (bit_not w32 (1 * 2 ^ (letter - 65) % 4294967296))) other ≡ (bit_of set other && not (eqb other letter))
bit-removed set letter other at other_at =
    elim (eqb other letter) as (λ b. eqb other letter ≡ b → bit_of (bit_and set (bit_not w32 (1 * 2 ^ (letter - 65) % 4294967296))) other ≡ (bit_of set other && not b)) [
      | true ↦ λ e.
          let same : other ≡ letter = grind (arith, nat_tests) in
          ap (λ l. eqb (bit_at (bit_and set (bit_not w32 (1 * 2 ^ (letter - 65) % 4294967296))) (l - 65)) 1) same
          ∙ ap (λ b. eqb b 1) (bit_at_clear_same w32 set (letter - 65) (omega arith))
          ∙ and-false (bit_of set other)
      | false ↦ λ e.
          let apart : other ≢ letter = grind (arith, nat_tests) in
          let apart' : other - 65 ≢ letter - 65 = omega arith in
          ap (λ b. eqb b 1) (bit_at_clear_other w32 set (letter - 65) (omega arith) (other - 65) (omega (arith, other_at.1)) apart')
          ∙ and_true (bit_of set other)
    ] refl

pub has-removed : (set letter other : ℕ) → IsLetter letter → has (bit_and set (bit_not w32 (1 * 2 ^ (letter - 65) % 4294967296))) other ≡ (has set other && not (eqb other letter))
has-removed set letter other at =
    elim (cases_Bool (is_capital other)) [
      | inl is ↦ rw is (bit-removed set letter other at (capital_is_letter other is))
      | inr none ↦ rw none refl
    ]

pub removed-small : (set letter n : ℕ) → set < n → bit_and set (bit_not w32 (1 * 2 ^ (letter - 65) % 4294967296)) < n
removed-small set letter n small = omega (arith, and_le_l set (bit_not w32 (1 * 2 ^ (letter - 65) % 4294967296)))

-- removing a letter makes the number of a set smaller
pub removed-less : (set letter : ℕ) → IsLetter letter → has set letter ≡ true → bit_and set (bit_not w32 (1 * 2 ^ (letter - 65) % 4294967296)) < set
removed-less set letter at stood =
    let new = bit_and set (bit_not w32 (1 * 2 ^ (letter - 65) % 4294967296)) in
    let apart : new ≢ set = λ e. false≢true (and-false (has set letter) ∙ sym (ap (λ b. has set letter && not b) (eq-eqb letter letter refl)) ∙ sym (has-removed set letter letter at) ∙ ap (λ n. has n letter) e ∙ stood) in
    let most : new ≤ set = and_le_l set (bit_not w32 (1 * 2 ^ (letter - 65) % 4294967296)) in
    omega arith

-- the number with all 26 bits contains each letter
pub has-all : (letter : ℕ) → has 67108863 letter ≡ is_capital letter
has-all letter =
    elim (cases_Bool (is_capital letter)) [
      | inl is ↦
          let at = capital_is_letter letter is in
          rw is (ap (λ b. eqb b 1) (bit_at_ones 26 (letter - 65) (let h : letter - 65 < 26 = omega (arith, at.0, at.1) in h)))
      | inr none ↦ rw none refl
    ]

bit_is_one : (n : ℕ) → n < 2 → (n ≡ 0) ⊎ (n ≡ 1)
bit_is_one zero h = inl refl
bit_is_one (suc zero) h = inr refl
bit_is_one (suc (suc n)) h = absurd (omega arith)

min_of_bits : (m n : ℕ) → m < 2 → n < 2 → eqb (min m n) 1 ≡ (eqb m 1 && eqb n 1)
min_of_bits m n hm hn = elim (bit_is_one m hm) [
  | inl e ↦ elim (bit_is_one n hn) [ inl f ↦ rw (e, f) refl | inr f ↦ rw (e, f) refl ]
  | inr e ↦ elim (bit_is_one n hn) [ inl f ↦ rw (e, f) refl | inr f ↦ rw (e, f) refl ]
]

pub has-common : (a b letter : ℕ) → has (bit_and a b) letter ≡ (has a letter && has b letter)
has-common a b letter =
    elim (cases_Bool (is_capital letter)) [
      | inl is ↦ rw is (ap (λ n. eqb n 1) (bit_at_and a b (letter - 65)) ∙ min_of_bits (bit_at a (letter - 65)) (bit_at b (letter - 65)) (bit_at-lt a (letter - 65)) (bit_at-lt b (letter - 65)))
      | inr none ↦ rw none refl
    ]

max_of_bits : (m n : ℕ) → m < 2 → n < 2 → eqb (max m n) 1 ≡ (eqb m 1 || eqb n 1)
max_of_bits m n hm hn = elim (bit_is_one m hm) [
  | inl e ↦ elim (bit_is_one n hn) [ inl f ↦ rw (e, f) refl | inr f ↦ rw (e, f) refl ]
  | inr e ↦ elim (bit_is_one n hn) [ inl f ↦ rw (e, f) refl | inr f ↦ rw (e, f) refl ]
]

pub has-with : (a b letter : ℕ) → has (bit_or a b) letter ≡ (has a letter || has b letter)
has-with a b letter =
    elim (cases_Bool (is_capital letter)) [
      | inl is ↦ rw is (ap (λ n. eqb n 1) (bit_at_or a b (letter - 65)) ∙ max_of_bits (bit_at a (letter - 65)) (bit_at b (letter - 65)) (bit_at-lt a (letter - 65)) (bit_at-lt b (letter - 65)))
      | inr none ↦ rw none refl
    ]

pub with-small : (a b : ℕ) → a < 2 ^ 26 → b < 2 ^ 26 → bit_or a b < 2 ^ 26
with-small a b small_a small_b = or_lt 26 a b small_a small_b

rest_of_bits : (m n : ℕ) → m < 2 → n < 2 → eqb (min m (1 - n)) 1 ≡ (eqb m 1 && not (eqb n 1))
rest_of_bits m n hm hn = elim (bit_is_one m hm) [
  | inl e ↦ elim (bit_is_one n hn) [ inl f ↦ rw (e, f) refl | inr f ↦ rw (e, f) refl ]
  | inr e ↦ elim (bit_is_one n hn) [ inl f ↦ rw (e, f) refl | inr f ↦ rw (e, f) refl ]
]

pub has-without : (a b letter : ℕ) → b < 2 ^ 26 → has (bit_and a (bit_not w32 b)) letter ≡ (has a letter && not (has b letter))
has-without a b letter small =
    elim (cases_Bool (is_capital letter)) [
      | inl is ↦
          let at = capital_is_letter letter is in
          rw is (ap (λ n. eqb n 1) (bit_at_and a (bit_not w32 b) (letter - 65) ∙ ap (min (bit_at a (letter - 65))) (bit_at_not w32 b (letter - 65) (omega (arith, small)) (omega (arith, at.1))))
          ∙ rest_of_bits (bit_at a (letter - 65)) (bit_at b (letter - 65)) (bit_at-lt a (letter - 65)) (bit_at-lt b (letter - 65)))
      | inr none ↦ rw none refl
    ]

pub without-small : (a b n : ℕ) → a < n → bit_and a (bit_not w32 b) < n
without-small a b n small = omega (arith, and_le_l a (bit_not w32 b))

-- a set with a letter less is a smaller number
pub without-less : (a b letter : ℕ) → b < 2 ^ 26 → has a letter ≡ true → has b letter ≡ true → bit_and a (bit_not w32 b) < a
without-less a b letter small in_a in_b =
    let new = bit_and a (bit_not w32 b) in
    let gone : has new letter ≡ false = has-without a b letter small ∙ ap (λ t. has a letter && not t) in_b ∙ sym (and-false (has a letter)) in
    let apart : new ≢ a = λ e. false≢true (sym gone ∙ ap (λ n. has n letter) e ∙ in_a) in
    let most : new ≤ a = and_le_l a (bit_not w32 b) in
    omega arith

pub has-none : (letter : ℕ) → has 0 letter ≡ false
has-none letter =
    elim (cases_Bool (is_capital letter)) [
      | inl is ↦ rw is (ap (λ n. eqb n 1) (bit_at-zero (letter - 65)))
      | inr none ↦ rw none refl
    ]

pub letters_in-none : letters_in 0 ≡ []
unfolding alphabet
letters_in-none = refl

-- whether a letter is among those of a set
any-filter : (test : ℕ → Bool) (letter : ℕ) (xs : List ℕ) → list_any (λ other. eqb letter other) (filter test xs) ≡ (test letter && list_any (λ other. eqb letter other) xs)
any-filter test letter [] = and-false (test letter)
any-filter test letter (x ∷ xs) =
    elim (cases_Bool (test x)) [
      | inl on ↦ rw on (ap (λ b. eqb letter x || b) (any-filter test letter xs) ∙ here on)
      | inr off ↦ rw off (any-filter test letter xs ∙ there off)
    ] where
      rest : Bool
      rest = list_any (λ other. eqb letter other) xs

      here : test x ≡ true → (eqb letter x || (test letter && rest)) ≡ (test letter && (eqb letter x || rest))
      here on = elim (cases_Bool (eqb letter x)) [
        | inl e ↦ rw e (sym (ap (λ b. b && true) (ap test (eqb-true letter x e) ∙ on)))
        | inr ne ↦ rw ne refl
      ]

      there : test x ≡ false → (test letter && rest) ≡ (test letter && (eqb letter x || rest))
      there off = elim (cases_Bool (eqb letter x)) [
        | inl e ↦ let t : test letter ≡ false = ap test (eqb-true letter x e) ∙ off in rw t refl
        | inr ne ↦ rw ne refl
      ]

pub small_bit : (k : ℕ) → k ≤ 25 → 1 * 2 ^ k % 4294967296 < 2 ^ 26
small_bit k small =
    let below : 2 ^ k < 2 ^ 26 = pow-lt (let h : k < 26 = omega arith in h) in
    let same : 1 * 2 ^ k ≡ 2 ^ k = omega arith in
    rw same (omega (arith, mod-le (2 ^ k) 4294967296))

pub length-alphabet : length alphabet ≡ 26
unfolding alphabet
length-alphabet = refl

pub letter_at_index : (k : ℕ) → k < 26 → get_or alphabet k 0 ≡ 65 + k
unfolding alphabet
letter_at_index k within = get_or-map-range_with_len (λ n. 65 + n) 0 26 k k 0 within (omega arith)

one_or_none : (b : Bool) (l : ℕ) → length (cond b (l ∷ []) []) ≡ cond b 1 0
one_or_none true l = refl
one_or_none false l = refl

-- how many letters are in a set, with one more letter of the alphabet
pub count-more : (set k : ℕ) → k < 26 → length (filter (has set) (take (k + 1) alphabet)) ≡ length (filter (has set) (take k alphabet)) + cond (has set (65 + k)) 1 0
count-more set k within =
    ap length (filter_more (has set) alphabet k 0 (omega (arith, length-alphabet)))
    ∙ length-append (filter (has set) (take k alphabet)) (cond (has set (get_or alphabet k 0)) (get_or alphabet k 0 ∷ []) [])
    ∙ ap (λ n. length (filter (has set) (take k alphabet)) + n)
    (ap (λ l. length (cond (has set l) (l ∷ []) [])) (letter_at_index k within)
    ∙ one_or_none (has set (65 + k)) (65 + k))

-- every capital is in the alphabet
one_of_alphabet : (letter : ℕ) → is_capital letter ≡ true → list_any (λ other. eqb letter other) alphabet ≡ true
one_of_alphabet letter is =
    let at = capital_is_letter letter is in
    let low : letter - 65 < length alphabet = omega (arith, length-alphabet, at.0, at.1) in
    let same : get_or alphabet (letter - 65) 0 ≡ letter = letter_at_index (letter - 65) (omega (arith, at.1)) ∙ (let h : 65 + (letter - 65) ≡ letter = omega (arith, at.0) in h) in
    list_any_at (λ other. eqb letter other) alphabet (letter - 65) 0 low (eq-eqb letter (get_or alphabet (letter - 65) 0) (sym same))

-- a letter is among the letters of a set if and only if the set contains it
pub one_of_letters : (set letter : ℕ) → list_any (λ other. eqb letter other) (letters_in set) ≡ has set letter
one_of_letters set letter =
    any-filter (has set) letter alphabet
    ∙ elim (cases_Bool (is_capital letter)) [
      | inl is ↦ rw (one_of_alphabet letter is) (sym (and_true (has set letter)))
      | inr none ↦ rw none refl
    ]

-- two sets with the same letters are equal
pub same_letters_in : (a b : ℕ) → a < 2 ^ 26 → b < 2 ^ 26 → letters_in a ≡ letters_in b → a ≡ b
same_letters_in a b small_a small_b same = same_from_bits_below 26 a b small_a small_b bits where
  alike : (letter : ℕ) → has a letter ≡ has b letter
  alike letter = sym (one_of_letters a letter) ∙ ap (list_any (λ other. eqb letter other)) same ∙ one_of_letters b letter

  one_bit : (m n : ℕ) → m < 2 → n < 2 → eqb m 1 ≡ eqb n 1 → m ≡ n
  one_bit m n hm hn h = elim (bit_is_one m hm) [
    | inl e ↦ elim (bit_is_one n hn) [ inl f ↦ e ∙ sym f | inr f ↦ absurd (false≢true (ap (λ k. eqb k 1) (sym e) ∙ h ∙ ap (λ k. eqb k 1) f)) ]
    | inr e ↦ elim (bit_is_one n hn) [ inl f ↦ absurd (false≢true (sym (ap (λ k. eqb k 1) (sym e) ∙ h ∙ ap (λ k. eqb k 1) f))) | inr f ↦ e ∙ sym f ]
  ]

  bits : (i : ℕ) → i < 26 → bit_at a i ≡ bit_at b i
  bits i below =
      let is : is_capital (65 + i) ≡ true = letter_is_capital (65 + i) (omega arith, omega arith) in
      let back : 65 + i - 65 ≡ i = omega arith in
      one_bit (bit_at a i) (bit_at b i) (bit_at-lt a i) (bit_at-lt b i) (rw back at (rw is at (alike (65 + i))))

pub is_same-letters : (a b : ℕ) → a < 2 ^ 26 → b < 2 ^ 26 → eqb a b ≡ bytes_eq (letters_in a) (letters_in b)
is_same-letters a b small_a small_b =
    elim (cases_Bool (eqb a b)) [
      | inl e ↦ e ∙ sym ((bytes_eq-Decides (letters_in a) (letters_in b)).1 (ap letters_in (eqb-true a b e)))
      | inr ne ↦ ne ∙ sym (false_from_ne_true (bytes_eq (letters_in a) (letters_in b)) (λ same. both_ways (eqb a b) ne (eq-eqb a b (same_letters_in a b small_a small_b ((bytes_eq-Decides (letters_in a) (letters_in b)).0 same)))))
    ]

-- the next letter of the alphabet is yielded if the set contains it, and skipped otherwise
pub letters_from-next : (set index : ℕ) → index < 26 → has set (65 + index) ≡ true → letters_from set index ≡ (65 + index) ∷ letters_from set (index + 1)
letters_from-next set index within there =
    let at = letter_at_index index (omega arith) in
    ap (filter (has set)) (drop_more alphabet index 0 (omega (arith, length-alphabet))) ∙ rw (at, there) refl

pub letters_from-other : (set index : ℕ) → index < 26 → has set (65 + index) ≡ false → letters_from set index ≡ letters_from set (index + 1)
letters_from-other set index within none =
    let at = letter_at_index index (omega arith) in
    ap (filter (has set)) (drop_more alphabet index 0 (omega (arith, length-alphabet))) ∙ rw (at, none) refl

pub letters_from-end : (set index : ℕ) → 26 ≤ index → letters_from set index ≡ []
letters_from-end set index past = ap (filter (has set)) (drop_all index alphabet (omega (arith, length-alphabet)))

pub ruleset walking_steps = (letters_from-next, letters_from-other, letters_from-end)

pub ruleset set_steps = (letter_is_capital, has-all, has-common, has-with, has-without, with-small, without-small, without-less, has-none, is_same-letters)

-- a set has at most 26 letters
pub few_letters : (set : ℕ) → length (letters_in set) ≤ 26
unfolding alphabet
few_letters set = omega (arith, length-filter (has set) alphabet, count_by-le-length (has set) alphabet)
