-- Rows of bits: their length, their bits, and how an operation on words changes them.
use Rattle.std.proofs.Common.{length-set, ◌≡◌, ◌≢◌, ℕ, zero, suc, ◌+◌, ◌-◌, ◌*◌, ◌/◌, ◌%◌, ◌^◌, ◌<◌, ◌≤◌, min, max, Bool, true, false, cond, not, ◌&&◌, ◌||◌, eqb, ltb, set, bit_or, inl, inr, List, [], ◌∷◌, ◌++◌, map, length, get_or, take, sum_by, count_by, count_ones, bit_and, Fits, w64, refl, sym, ap, ◌∙◌, arith, add-zero, pow-suc}
use Rattle.std.specs.Int.{bit_at, bit_not}
use Rattle.std.specs.List.{range_with_len}
use Rattle.std.proofs.lemmas.Nat.Bits.{bit_at_and, bit_at_or, bit_at_not, bit_at-lt, bit_at_lowest, bit_at-suc, bit_at-zero, bit_at_set_same, bit_at_set_other, bit_at_clear_same, bit_at_clear_other, bit_at_ones, bit_at_ones_above}
use Rattle.std.proofs.lemmas.List.{same_lists, get_or_default, get_or-set_same, get_or-set_other}
use Rattle.std.proofs.lemmas.Nat.{one_shl}
use Rattle.std.proofs.lemmas.Bool.{cases_eq, cases_lt, cond-true, cond-false, eq-eqb, ne_eqb, lt-ltb, le-ltb}
use Rattle.std.proofs.lemmas.List.FromFn.{length-map-range_with_len, get_or-map-range_with_len, sum_by-map-range_with_len_more}
use Rattle.std.proofs.lemmas.List.Sums.{sum_by-append, sum_by-cons, sum_by_more}
use Rattle.std.proofs.lemmas.Simd.{length-zip2, get_or-zip2}
use lib.Lanes.{zip2}
use Rattle.std.proofs.Math.Seq.{take-length}
use lib.Count.{ones, ones_step}
use Rattle.xw_bits.specs.Bits.{without, has_bit, words_have, bits_of}

-- ---- one bit of a word

least_is_one : (x y : ℕ) → x < 2 → y < 2 → eqb (min x y) 1 ≡ (eqb x 1 && eqb y 1)
least_is_one zero zero p q = refl
least_is_one zero (suc zero) p q = refl
least_is_one (suc zero) zero p q = refl
least_is_one (suc zero) (suc zero) p q = refl
least_is_one (suc (suc x)) y p q = absurd (omega arith)
least_is_one zero (suc (suc y)) p q = absurd (omega arith)
least_is_one (suc zero) (suc (suc y)) p q = absurd (omega arith)

most_is_one : (x y : ℕ) → x < 2 → y < 2 → eqb (max x y) 1 ≡ (eqb x 1 || eqb y 1)
most_is_one zero zero p q = refl
most_is_one zero (suc zero) p q = refl
most_is_one (suc zero) zero p q = refl
most_is_one (suc zero) (suc zero) p q = refl
most_is_one (suc (suc x)) y p q = absurd (omega arith)
most_is_one zero (suc (suc y)) p q = absurd (omega arith)
most_is_one (suc zero) (suc (suc y)) p q = absurd (omega arith)

less_is_one : (x : ℕ) → x < 2 → eqb (1 - x) 1 ≡ not (eqb x 1)
less_is_one zero p = refl
less_is_one (suc zero) p = refl
less_is_one (suc (suc x)) p = absurd (omega arith)

pub has_bit-none : (k : ℕ) → has_bit 0 k ≡ false
unfolding has_bit
has_bit-none k = ap (λ x. eqb x 1) (bit_at-zero k)

pub has_bit-and : (a b k : ℕ) → has_bit (bit_and a b) k ≡ (has_bit a k && has_bit b k)
unfolding has_bit
has_bit-and a b k = ap (λ x. eqb x 1) (bit_at_and a b k) ∙ least_is_one (bit_at a k) (bit_at b k) (bit_at-lt a k) (bit_at-lt b k)

pub has_bit-or : (a b k : ℕ) → has_bit (bit_or a b) k ≡ (has_bit a k || has_bit b k)
unfolding has_bit
has_bit-or a b k = ap (λ x. eqb x 1) (bit_at_or a b k) ∙ most_is_one (bit_at a k) (bit_at b k) (bit_at-lt a k) (bit_at-lt b k)

pub has_bit-not : (b k : ℕ) → b < 2 ^ 64 → k < 64 → has_bit (bit_not w64 b) k ≡ not (has_bit b k)
unfolding has_bit
has_bit-not b k fits lt = ap (λ x. eqb x 1) (bit_at_not w64 b k fits lt) ∙ less_is_one (bit_at b k) (bit_at-lt b k)

pub has_bit-without : (a b k : ℕ) → b < 2 ^ 64 → k < 64 → has_bit (without a b) k ≡ (has_bit a k && not (has_bit b k))
has_bit-without a b k fits lt = has_bit-and a (bit_not w64 b) k ∙ ap (λ t. has_bit a k && t) (has_bit-not b k fits lt)

-- ---- a row

-- the bits of a word of a row
pub word_bit : (ws : List ℕ) (m k : ℕ) → k < 64 → words_have ws (64 * m + k) ≡ has_bit (get_or ws m 0) k
unfolding words_have
word_bit ws m k lt =
    let word : (64 * m + k) / 64 ≡ m = omega arith in
    let bit : (64 * m + k) % 64 ≡ k = omega arith in
    ap (λ n. has_bit (get_or ws n 0) ((64 * m + k) % 64)) word ∙ ap (has_bit (get_or ws m 0)) bit

pub length-bits_of : (ws : List ℕ) (n : ℕ) → length (bits_of ws n) ≡ n
unfolding bits_of
length-bits_of ws n = length-map-range_with_len (λ i. words_have ws i) 0 n

pub get_or-bits_of : (ws : List ℕ) (n i : ℕ) (d : Bool) → i < n → get_or (bits_of ws n) i d ≡ words_have ws i
unfolding bits_of
get_or-bits_of ws n i d lt = get_or-map-range_with_len (λ i. words_have ws i) 0 n i i d lt (omega arith)

-- a row is determined by its bits
pub bits_of_is : (ws : List ℕ) (n : ℕ) (bs : List Bool) → length bs ≡ n → ((i : ℕ) → i < n → words_have ws i ≡ get_or bs i false) → bits_of ws n ≡ bs
bits_of_is ws n bs long each =
    same_lists (bits_of ws n) bs (length-bits_of ws n ∙ sym long) (λ k d lt.
    let within : k < n = omega (arith, length-bits_of ws n) in
    get_or-bits_of ws n k d within ∙ each k within ∙ get_or_default bs k false d (omega arith))

-- a row whose words are combined with those of another row
module _ (f : ℕ → ℕ → ℕ) (g : Bool → Bool → Bool) (one : (a b k : ℕ) → b < 2 ^ 64 → k < 64 → has_bit (f a b) k ≡ g (has_bit a k) (has_bit b k)) where
  pub words_have-combined : (ws xs ys : List ℕ) → ((k : ℕ) → Fits w64 (get_or ys k 0)) → ((k : ℕ) → get_or ws k 0 ≡ f (get_or xs k 0) (get_or ys k 0))
      → (i : ℕ) → words_have ws i ≡ g (words_have xs i) (words_have ys i)
  unfolding words_have
  words_have-combined ws xs ys fit each i =
      ap (λ w. has_bit w (i % 64)) (each (i / 64)) ∙ one (get_or xs (i / 64) 0) (get_or ys (i / 64) 0) (i % 64) (fit (i / 64)).fits (omega arith)

-- two rows combined bit by bit
pub bits_of-combined : (g : Bool → Bool → Bool) (ws xs ys : List ℕ) (n : ℕ) → ((i : ℕ) → words_have ws i ≡ g (words_have xs i) (words_have ys i))
    → bits_of ws n ≡ zip2 g (bits_of xs n) (bits_of ys n)
bits_of-combined g ws xs ys n each =
    let long = length-bits_of xs n in
    let long_other = length-bits_of ys n in
    bits_of_is ws n (zip2 g (bits_of xs n) (bits_of ys n)) (length-zip2 g (bits_of xs n) (bits_of ys n) (long ∙ sym long_other) ∙ long) (λ i lt.
    each i
    ∙ sym
    (get_or-zip2 g (bits_of xs n) (bits_of ys n) i false false false (omega arith) (omega arith)
    ∙ ap (λ t. g t (get_or (bits_of ys n) i false)) (get_or-bits_of xs n i false lt)
    ∙ ap (λ t. g (words_have xs i) t) (get_or-bits_of ys n i false lt)))

-- ---- the count of a row

-- the numbers from a + 1 on are those from a on, each one greater
later : {X : Type 0} (f : ℕ → X) (a n : ℕ) → map f (range_with_len (a + 1) n) ≡ map (λ i. f (i + 1)) (range_with_len a n)
later f a zero = refl
later f a (suc n) = ap (λ l. f (a + 1) ∷ l) (later f (a + 1) n)

bit_as_number : (x : ℕ) → x < 2 → cond (eqb x 1) 1 0 ≡ x
bit_as_number zero p = refl
bit_as_number (suc zero) p = refl
bit_as_number (suc (suc x)) p = absurd (omega arith)

has_bit-lowest : (w : ℕ) → cond (has_bit w 0) 1 0 ≡ w % 2
unfolding has_bit
has_bit-lowest w = bit_as_number (bit_at w 0) (bit_at-lt w 0) ∙ bit_at_lowest w

has_bit-higher : (w i : ℕ) → has_bit w (i + 1) ≡ has_bit (w / 2) i
unfolding has_bit
has_bit-higher w i =
    let is : suc i ≡ i + 1 = omega arith in
    ap (λ x. eqb x 1) (ap (bit_at w) (sym is) ∙ bit_at-suc w i)

same_map : {X : Type 0} (f g : ℕ → X) (a n : ℕ) → ((i : ℕ) → f i ≡ g i) → map f (range_with_len a n) ≡ map g (range_with_len a n)
same_map f g a zero e = refl
same_map f g a (suc n) e = ap (λ x. x ∷ map f (range_with_len (a + 1) n)) (e a) ∙ ap (λ l. g a ∷ l) (same_map f g (a + 1) n e)

half : (d w : ℕ) → w < 2 ^ suc d → w / 2 < 2 ^ d
half d w lt = omega (arith, pow-suc 2 d)

-- the number of set bits of a word is that of ones among its bits
pub ones_of_word : (d w : ℕ) → w < 2 ^ d → count_by (λ b. b) (map (λ i. has_bit w i) (range_with_len 0 d)) ≡ count_ones w
unfolding ones
ones_of_word zero w lt =
    let none : 0 ≡ w = omega arith in
    ap count_ones none
ones_of_word (suc d) w lt =
    sum_by-cons (λ b. cond b 1 0) (has_bit w 0) (map (λ i. has_bit w i) (range_with_len (0 + 1) d))
    ∙ ap (λ n. n + count_by (λ b. b) (map (λ i. has_bit w i) (range_with_len (0 + 1) d))) (has_bit-lowest w)
    ∙ ap (λ l. w % 2 + count_by (λ b. b) l) (later (λ i. has_bit w i) 0 d ∙ same_map (λ i. has_bit w (i + 1)) (λ i. has_bit (w / 2) i) 0 d (has_bit-higher w))
    ∙ ap (λ n. w % 2 + n) (ones_of_word d (w / 2) (half d w lt))
    ∙ sym (ones_step w)

-- splits a map over consecutive numbers in two
split : {X : Type 0} (f : ℕ → X) (a n k : ℕ) → map f (range_with_len a (n + k)) ≡ map f (range_with_len a n) ++ map f (range_with_len (a + n) k)
split f a zero k =
    let left : 0 + k ≡ k = omega arith in
    let right : a ≡ a + 0 = omega arith in
    ap (λ n. map f (range_with_len a n)) left ∙ ap (λ b. map f (range_with_len b k)) right
split f a (suc n) k =
    let left : suc n + k ≡ suc (n + k) = omega arith in
    let right : a + 1 + n ≡ a + suc n = omega arith in
    ap (λ m. map f (range_with_len a m)) left ∙ ap (λ l. f a ∷ l) (split f (a + 1) n k)
    ∙ ap (λ b. f a ∷ (map f (range_with_len (a + 1) n) ++ map f (range_with_len b k))) right

moved : {X : Type 0} (f g : ℕ → X) (a b n : ℕ) → ((i : ℕ) → i < n → f (a + i) ≡ g (b + i)) → map f (range_with_len a n) ≡ map g (range_with_len b n)
moved f g a b zero e = refl
moved f g a b (suc n) e =
    let here_left : a + 0 ≡ a = omega arith in
    let here_right : b + 0 ≡ b = omega arith in
    let first : f a ≡ g b = ap f (sym here_left) ∙ e 0 (omega arith) ∙ ap g here_right in
    ap (λ x. x ∷ map f (range_with_len (a + 1) n)) first
    ∙ ap (λ l. g b ∷ l) (moved f g (a + 1) (b + 1) n (λ i lt.
    let left : a + 1 + i ≡ a + suc i = omega arith in
    let right : b + suc i ≡ b + 1 + i = omega arith in
    ap f left ∙ e (suc i) (omega arith) ∙ ap g right))

-- the bits of word m are those from 64 * m on
word_part : (ws : List ℕ) (m : ℕ) → map (λ i. words_have ws i) (range_with_len (0 + 64 * m) 64) ≡ map (λ i. has_bit (get_or ws m 0) i) (range_with_len 0 64)
unfolding words_have
word_part ws m = moved (λ i. words_have ws i) (λ i. has_bit (get_or ws m 0) i) (0 + 64 * m) 0 64 (λ i lt.
    let word : (0 + 64 * m + i) / 64 ≡ m = omega arith in
    let bit : (0 + 64 * m + i) % 64 ≡ 0 + i = omega arith in
    ap (λ k. has_bit (get_or ws k 0) ((0 + 64 * m + i) % 64)) word ∙ ap (has_bit (get_or ws m 0)) bit)

-- the number of set bits in the first words
ones_of_words : (ws : List ℕ) (m : ℕ) → ((k : ℕ) → Fits w64 (get_or ws k 0)) → m ≤ length ws → sum_by count_ones (take m ws) ≡ count_by (λ b. b) (bits_of ws (64 * m))
unfolding bits_of
ones_of_words ws zero fit le = refl
ones_of_words ws (suc m) fit le =
    let next : suc m ≡ m + 1 = omega arith in
    let bits_next : 64 * m + 64 ≡ 64 * suc m = omega arith in
    let f = λ (i : ℕ). words_have ws i in
    let word = get_or ws m 0 in
    ap (λ n. sum_by count_ones (take n ws)) next ∙ sum_by_more count_ones ws m 0 (omega arith)
    ∙ ap (λ n. n + count_ones word) (ones_of_words ws m fit (omega arith))
    ∙ ap (λ n. count_by (λ b. b) (bits_of ws (64 * m)) + n) (sym (ap (count_by (λ b. b)) (word_part ws m) ∙ ones_of_word 64 word (fit m).fits))
    ∙ sym (sum_by-append (λ b. cond b 1 0) (map f (range_with_len 0 (64 * m))) (map f (range_with_len (0 + 64 * m) 64)))
    ∙ ap (count_by (λ b. b)) (sym (split f 0 (64 * m) 64))
    ∙ ap (λ n. count_by (λ b. b) (map f (range_with_len 0 n))) bits_next

pub ones_of_row : (ws : List ℕ) → ((k : ℕ) → Fits w64 (get_or ws k 0)) → sum_by count_ones ws ≡ count_by (λ b. b) (bits_of ws (64 * length ws))
ones_of_row ws fit = ap (sum_by count_ones) (sym (take-length ws)) ∙ ones_of_words ws (length ws) fit (omega arith)

-- clear bits past the end do not change the count
pub count-nothing_past : (ws : List ℕ) (n k : ℕ) → ((i : ℕ) → n ≤ i → words_have ws i ≡ false) → count_by (λ b. b) (bits_of ws (n + k)) ≡ count_by (λ b. b) (bits_of ws n)
unfolding bits_of
count-nothing_past ws n zero none = let is : n + 0 ≡ n = omega arith in ap (λ m. count_by (λ b. b) (bits_of ws m)) is
count-nothing_past ws n (suc k) none =
    let is : n + suc k ≡ n + k + 1 = omega arith in
    let f = λ (i : ℕ). words_have ws i in
    ap (λ m. count_by (λ b. b) (map f (range_with_len 0 m))) is
    ∙ sum_by-map-range_with_len_more (λ b. cond b 1 0) f 0 (n + k) (n + k) (omega arith)
    ∙ ap (λ t. count_by (λ b. b) (map f (range_with_len 0 (n + k))) + cond t 1 0) (none (n + k) (omega arith))
    ∙ add-zero (count_by (λ b. b) (map f (range_with_len 0 (n + k)))) ∙ count-nothing_past ws n k none

and_true : (b : Bool) → (b && true) ≡ (true && b)
and_true true = refl
and_true false = refl

and_false : (b : Bool) → (b && false) ≡ (false && b)
and_false true = refl
and_false false = refl

-- ---- changes of a word or a bit

pub words_have-none : (i : ℕ) → words_have [] i ≡ false
unfolding words_have has_bit
words_have-none i = ap (λ x. eqb x 1) (bit_at-zero (i % 64))

pub zero_at_end : (ws : List ℕ) (k : ℕ) → get_or (ws ++ 0 ∷ []) k 0 ≡ get_or ws k 0
zero_at_end [] zero = refl
zero_at_end [] (suc k) = refl
zero_at_end (w ∷ ws) zero = refl
zero_at_end (w ∷ ws) (suc k) = zero_at_end ws k

-- appending a zero word
pub words_have-push_none : (ws : List ℕ) (i : ℕ) → words_have (ws ++ 0 ∷ []) i ≡ words_have ws i
unfolding words_have
words_have-push_none ws i = ap (λ w. has_bit w (i % 64)) (zero_at_end ws (i / 64))

pub words_have-set_same : (ws : List ℕ) (q w i : ℕ) → q < length ws → i / 64 ≡ q → words_have (set ws q w) i ≡ has_bit w (i % 64)
unfolding words_have
words_have-set_same ws q w i lt is = ap (λ k. has_bit (get_or (set ws q w) k 0) (i % 64)) is ∙ ap (λ x. has_bit x (i % 64)) (get_or-set_same ws q w 0 lt)

pub words_have-set_other : (ws : List ℕ) (q w i : ℕ) → (i / 64 ≡ q → ⊥) → words_have (set ws q w) i ≡ words_have ws i
unfolding words_have
words_have-set_other ws q w i differs = ap (λ x. has_bit x (i % 64)) (get_or-set_other ws q (i / 64) w 0 differs)

-- setting bit i
pub words_have-set_bit : (ws : List ℕ) (i j : ℕ) → i / 64 < length ws
    → words_have (set ws (i / 64) (bit_or (get_or ws (i / 64) 0) (1 * 2 ^ (i % 64) % 2 ^ 64))) j ≡ cond (eqb j i) true (words_have ws j)
unfolding words_have has_bit
words_have-set_bit ws i j lt =
    let word = get_or ws (i / 64) 0 in
    let new = bit_or word (1 * 2 ^ (i % 64) % 2 ^ 64) in
    elim (cases_eq j i) [
      | inl same ↦
          ap (λ n. words_have (set ws (i / 64) new) n) same ∙ words_have-set_same ws (i / 64) new i lt refl
          ∙ ap (λ x. eqb x 1) (bit_at_set_same w64 word (i % 64) (omega arith))
          ∙ sym (cond-true (eqb j i) true (words_have ws j) (eq-eqb j i same))
      | inr differs ↦
          elim (cases_eq (j / 64) (i / 64)) [
            | inl here ↦
                let bit_differs : j % 64 ≢ i % 64 = λ e. differs (omega arith) in
                words_have-set_same ws (i / 64) new j lt here
                ∙ ap (λ x. eqb x 1) (bit_at_set_other w64 word (i % 64) (omega arith) (j % 64) bit_differs)
                ∙ ap (λ k. has_bit (get_or ws k 0) (j % 64)) (sym here)
                ∙ sym (cond-false (eqb j i) true (words_have ws j) (ne_eqb j i differs))
            | inr elsewhere ↦ words_have-set_other ws (i / 64) new j elsewhere ∙ sym (cond-false (eqb j i) true (words_have ws j) (ne_eqb j i differs))
          ]
    ]

-- keeping only the lowest bits
pub has_bit-low : (w count k : ℕ) → count < 64 → has_bit (bit_and w (1 * 2 ^ count % 2 ^ 64 - 1)) k ≡ (ltb k count && has_bit w k)
unfolding has_bit
has_bit-low w count k lt =
    ap (λ m. has_bit (bit_and w (m - 1)) k) (one_shl count 64 lt) ∙ has_bit-and w (2 ^ count - 1) k
    ∙ elim (cases_lt k count) [
      | inl below ↦
          ap (λ x. has_bit w k && eqb x 1) (bit_at_ones count k below) ∙ and_true (has_bit w k)
          ∙ ap (λ t. t && has_bit w k) (sym (lt-ltb k count below))
      | inr above ↦
          ap (λ x. has_bit w k && eqb x 1) (bit_at_ones_above count k above) ∙ and_false (has_bit w k)
          ∙ ap (λ t. t && has_bit w k) (sym (le-ltb k count above))
    ]

-- setting one bit of a word
pub has_bit-set : (w i k : ℕ) → i < 64 → has_bit (bit_or w (1 * 2 ^ i % 2 ^ 64)) k ≡ cond (eqb k i) true (has_bit w k)
unfolding has_bit
has_bit-set w i k lt =
    elim (cases_eq k i) [
      | inl e ↦
          ap (λ n. has_bit (bit_or w (1 * 2 ^ i % 2 ^ 64)) n) e ∙ ap (λ x. eqb x 1) (bit_at_set_same w64 w i lt)
          ∙ sym (cond-true (eqb k i) true (has_bit w k) (eq-eqb k i e))
      | inr n ↦ ap (λ x. eqb x 1) (bit_at_set_other w64 w i lt k n) ∙ sym (cond-false (eqb k i) true (has_bit w k) (ne_eqb k i n))
    ]

-- clearing one bit of a word
pub has_bit-cleared : (w i k : ℕ) → i < 64 → k < 64 → has_bit (bit_and w (2 ^ 64 - 1 - 1 * 2 ^ i % 2 ^ 64)) k ≡ cond (eqb k i) false (has_bit w k)
unfolding has_bit
has_bit-cleared w i k lt in_word =
    elim (cases_eq k i) [
      | inl e ↦
          ap (λ n. has_bit (bit_and w (2 ^ 64 - 1 - 1 * 2 ^ i % 2 ^ 64)) n) e ∙ ap (λ x. eqb x 1) (bit_at_clear_same w64 w i lt)
          ∙ sym (cond-true (eqb k i) false (has_bit w k) (eq-eqb k i e))
      | inr n ↦ ap (λ x. eqb x 1) (bit_at_clear_other w64 w i lt k in_word n) ∙ sym (cond-false (eqb k i) false (has_bit w k) (ne_eqb k i n))
    ]

-- replacing one bit of a row by replacing its chunk
pub put_in_chunk : (old new : List Bool) (i : ℕ) (bit : Bool) (chunk word : ℕ) → i < length old → length new ≡ length old
    → ((k : ℕ) → k < 64 → has_bit chunk k ≡ get_or old (64 * (i / 64) + k) false)
    → ((k : ℕ) → k < 64 → has_bit word k ≡ cond (eqb k (i % 64)) bit (has_bit chunk k))
    → ((k : ℕ) → k < 64 → 64 * (i / 64) + k < length old → get_or new (64 * (i / 64) + k) false ≡ has_bit word k)
    → ((j : ℕ) → (j / 64 ≡ i / 64 → ⊥) → get_or new j false ≡ get_or old j false)
    → new ≡ set old i bit
put_in_chunk old new i bit chunk word within long was is inside others =
    let each : (j : ℕ) → j < length old → get_or new j false ≡ get_or (set old i bit) j false = λ j lt.
    elim (cases_eq (j / 64) (i / 64)) [
      | inr elsewhere ↦ others j elsewhere ∙ sym (get_or-set_other old i j bit false (λ e. elsewhere (ap (λ n. n / 64) e)))
      | inl here ↦
          let at : 64 * (i / 64) + j % 64 ≡ j = omega arith in
          let small : j % 64 < 64 = omega arith in
          ap (λ n. get_or new n false) (sym at) ∙ inside (j % 64) small (omega arith) ∙ is (j % 64) small
          ∙ elim (cases_eq j i) [
            | inl same ↦
                cond-true (eqb (j % 64) (i % 64)) bit (has_bit chunk (j % 64)) (eq-eqb (j % 64) (i % 64) (ap (λ n. n % 64) same))
                ∙ sym (ap (λ n. get_or (set old i bit) n false) same ∙ get_or-set_same old i bit false within)
            | inr apart ↦
                cond-false (eqb (j % 64) (i % 64)) bit (has_bit chunk (j % 64)) (ne_eqb (j % 64) (i % 64) (λ e. apart (omega arith)))
                ∙ was (j % 64) small ∙ ap (λ n. get_or old n false) at ∙ sym (get_or-set_other old i j bit false apart)
          ]
    ] in
    same_lists new (set old i bit) (long ∙ sym (length-set old i bit)) (λ k d lt.
    get_or_default new k d false lt ∙ each k (omega arith) ∙ get_or_default (set old i bit) k false d (omega (arith, length-set old i bit)))
