-- Sums over the first numbers.
use Rattle.std.proofs.Common.{◌≡◌, ℕ, zero, suc, ◌+◌, ◌-◌, ◌*◌, ◌/◌, ◌<◌, ◌≤◌, Bool, true, cond, length, take, refl, ap, ◌∙◌, inl, inr, arith}
use Rattle.std.specs.Prelude.{filter}
use Rattle.std.proofs.lemmas.Bool.{cases_eq, cases_Bool}
use Rattle.std.proofs.lemmas.List.{take_all}
use Rattle.xw_letters.specs.Letter.{alphabet}
use Rattle.xw_letters.specs.LetterSet.{has, letters_in}
use Rattle.xw_letters.proofs.LetterSetLemmas.{count-more, length-alphabet}
use Rattle.xw_net.specs.Region.{chunks_of}
use Rattle.xw_net.specs.Support.{letter_count}
use Rattle.xw_net.specs.Due.{sum_to, count_from}

pub sum_to-le : (f g : ℕ → ℕ) (n : ℕ) → ((k : ℕ) → k < n → f k ≤ g k) → sum_to f n ≤ sum_to g n
unfolding sum_to
sum_to-le f g zero each = omega arith
sum_to-le f g (suc n) each = omega (arith, sum_to-le f g n (λ k lt. each k (omega arith)), each n (omega arith))

-- no term increases, and one of them decreases by t
pub sum_to-falls : (f g : ℕ → ℕ) (n k t : ℕ) → k < n → ((j : ℕ) → j < n → f j ≤ g j) → f k + t ≤ g k → sum_to f n + t ≤ sum_to g n
unfolding sum_to
sum_to-falls f g zero k t lt each falls = absurd (omega arith)
sum_to-falls f g (suc n) k t lt each falls =
    elim (cases_eq k n) [
      | inl e ↦ omega (arith, sum_to-le f g n (λ j below. each j (omega arith)), falls, ap f e, ap g e)
      | inr differs ↦ omega (arith, sum_to-falls f g n k t (omega (arith, differs)) (λ j below. each j (omega arith)) falls, each n (omega arith))
    ]

pub sum_to-bound : (f : ℕ → ℕ) (n m : ℕ) → ((k : ℕ) → k < n → f k ≤ m) → sum_to f n ≤ n * m
unfolding sum_to
sum_to-bound f zero m each = omega arith
sum_to-bound f (suc n) m each = omega (arith, sum_to-bound f n m (λ k lt. each k (omega arith)), each n (omega arith))

pub sum_to-add : (f g : ℕ → ℕ) (n : ℕ) → sum_to (λ k. f k + g k) n ≡ sum_to f n + sum_to g n
unfolding sum_to
sum_to-add f g zero = refl
sum_to-add f g (suc n) = omega (arith, sum_to-add f g n)

pub sum_to-times : (c : ℕ) (f : ℕ → ℕ) (n : ℕ) → sum_to (λ k. c * f k) n ≡ c * sum_to f n
unfolding sum_to
sum_to-times c f zero = omega arith
sum_to-times c f (suc n) = omega (arith, sum_to-times c f n, let h : c * (sum_to f n + f n) ≡ c * sum_to f n + c * f n = grind arith in h)

pub sum_to-none : (f : ℕ → ℕ) (n : ℕ) → ((k : ℕ) → k < n → f k ≡ 0) → sum_to f n ≡ 0
unfolding sum_to
sum_to-none f zero each = refl
sum_to-none f (suc n) each = omega (arith, sum_to-none f n (λ k lt. each k (omega arith)), each n (omega arith))

-- at most one number passes
pub sum_to-one : (p : ℕ → Bool) (n : ℕ) → ((j k : ℕ) → p j ≡ true → p k ≡ true → j ≡ k) → sum_to (λ k. cond (p k) 1 0) n ≤ 1
unfolding sum_to
sum_to-one p zero only = omega arith
sum_to-one p (suc n) only =
    elim (cases_Bool (p n)) [
      | inl here ↦
          omega (
            arith,
            ap {B = ℕ} (λ t. cond t 1 0) here,
            sum_to-none (λ k. cond (p k) 1 0) n (λ k lt.
                elim (cases_Bool (p k)) [
                  | inl there ↦ absurd (omega (arith, only k n there here))
                  | inr off ↦ ap {B = ℕ} (λ t. cond t 1 0) off
                ]),
          )
      | inr off ↦ omega (arith, ap {B = ℕ} (λ t. cond t 1 0) off, sum_to-one p n only)
    ]

-- ---- counts

pub count_from-later : (f : ℕ → Bool) (from n k : ℕ) → count_from f (from + k) n ≤ count_from f from (k + n)
unfolding count_from
count_from-later f from n zero =
    let start : from + 0 ≡ from = omega arith in
    let many : 0 + n ≡ n = omega arith in
    omega (arith, ap (λ k. count_from f k n) start, ap (count_from f from) many)
count_from-later f from n (suc k) =
    let start : from + suc k ≡ from + 1 + k = omega arith in
    let many : suc k + n ≡ suc (k + n) = omega arith in
    omega (arith, ap (λ j. count_from f j n) start, ap (count_from f from) many, count_from-later f (from + 1) n k)

-- each index is counted for at most one number
pub counts-le : (p : ℕ → ℕ → Bool) (n from m : ℕ) → ((w j k : ℕ) → p j w ≡ true → p k w ≡ true → j ≡ k) → sum_to (λ b. count_from (p b) from m) n ≤ m
unfolding count_from
counts-le p n from zero only = omega (arith, sum_to-none (λ b. 0) n (λ k lt. refl))
counts-le p n from (suc m) only =
    omega (arith, sum_to-add (λ b. cond (p b from) 1 0) (λ b. count_from (p b) (from + 1) m) n, sum_to-one (λ b. p b from) n (only from), counts-le p n (from + 1) m only)

later_count : (f : ℕ → Bool) (n held word : ℕ) → held < n → word < n → f held ≡ true → held < word → suc (count_from f word (n - word)) ≤ count_from f held (n - held)
unfolding count_from
later_count f n held word lt within hit later =
    let many : n - held ≡ suc (n - held - 1) = omega arith in
    let start : held + 1 + (word - held - 1) ≡ word = omega arith in
    let rest : word - held - 1 + (n - word) ≡ n - held - 1 = omega arith in
    omega (
      arith,
      ap (count_from f held) many,
      ap {B = ℕ} (λ t. cond t 1 0) hit,
      count_from-later f (held + 1) (n - word) (word - held - 1),
      ap (λ k. count_from f k (n - word)) start,
      ap (count_from f (held + 1)) rest,
    )

-- a search that goes on within the known words
pub search_found : (f : ℕ → Bool) (n held word spent : ℕ) → held < n → word < n → f held ≡ true → held < word → spent + held / 64 ≤ word / 64 + 1
    → (chunks_of n - word / 64) + count_from f word (n - word) + spent ≤ (chunks_of n - held / 64) + count_from f held (n - held)
search_found f n held word spent lt within hit later cost = omega (arith, cost, later_count f n held word lt within hit later)

-- a search from the start
pub search_first : (f : ℕ → Bool) (n word spent : ℕ) → word < n → spent ≤ word / 64 + 1
    → (chunks_of n - word / 64) + count_from f word (n - word) + spent ≤ 2 * chunks_of n + count_from f 0 n
search_first f n word spent within cost =
    let start : 0 + word ≡ word = omega arith in
    let many : word + (n - word) ≡ n = omega arith in
    omega (arith, cost, count_from-later f 0 (n - word) word, ap (λ k. count_from f k (n - word)) start, ap (count_from f 0) many)

-- ---- the letters of a set

letters_below : (set n : ℕ) → n ≤ 26 → sum_to (λ k. cond (has set (65 + k)) 1 0) n ≡ length (filter (has set) (take n alphabet))
unfolding sum_to
letters_below set zero few = refl
letters_below set (suc n) few =
    let e : n + 1 ≡ suc n = omega arith in
    omega (arith, letters_below set n (omega arith), count-more set n (omega arith), ap (λ k. length (filter (has set) (take k alphabet))) e)

pub letter_count-is : (set : ℕ) → letter_count set ≡ length (letters_in set)
unfolding letter_count
letter_count-is set = letters_below set 26 (omega arith) ∙ ap (λ xs. length (filter (has set) xs)) (take_all 26 alphabet (omega (arith, length-alphabet)))
