-- Lemmas about columns that are filled 64 words at a time.
use Rattle.std.proofs.Common.{◌≡◌, ℕ, ◌+◌, ◌-◌, ◌*◌, ◌/◌, ◌%◌, ◌^◌, ◌<◌, ◌≤◌, Bool, true, false, ltb, eqb, cond, ◌&&◌, min, get_or, set, drop, List, length, bit_or, ap, sym, ◌∙◌, inl, inr, arith, subst, length-take, length-drop}
use Rattle.std.specs.Prelude.{slice_get}
use Rattle.std.proofs.lemmas.Bool.{cases_lt, cases_eq, eq-eqb, ne_eqb, lt-ltb, le-ltb}
use Rattle.std.proofs.lemmas.List.{get_or-take, get_or-drop, get_or-set_same, get_or-set_other}
use Rattle.std.proofs.lemmas.Option.{slice_get-get_or}
use Rattle.xw_bits.specs.Bits.{RowOfBits, has_bit}
use Rattle.xw_bits.proofs.BitLemmas.{has_bit-set}
use Rattle.xw_words.specs.Columns.{column_at, letter_at, letter_is, bit_in, AreFilled}
use Rattle.xw_words.specs.Index.{word_in}
use Rattle.xw_words.proofs.IndexLemmas.{word_room}

-- ---- the bits of a chunk

-- a bit set in one of the words
pub bit_set : (bits : List ℕ) (b k i j : ℕ) → b < length bits → i < 64 → has_bit (get_or (set bits b (bit_or (get_or bits b 0) (1 * 2 ^ i % 2 ^ 64))) k 0) j ≡ cond (eqb k b && eqb j i) true (has_bit (get_or bits k 0) j)
bit_set bits b k i j within small =
    let new = bit_or (get_or bits b 0) (1 * 2 ^ i % 2 ^ 64) in
    elim (cases_eq k b) [
      | inl same ↦
          ap (λ n. has_bit (get_or (set bits b new) n 0) j) same
          ∙ ap (λ n. has_bit n j) (get_or-set_same bits b new 0 within)
          ∙ has_bit-set (get_or bits b 0) i j small
          ∙ ap (λ n. cond (eqb j i) true (has_bit (get_or bits n 0) j)) (sym same)
          ∙ ap (λ t. cond (t && eqb j i) true (has_bit (get_or bits k 0) j)) (sym (eq-eqb k b same))
      | inr apart ↦
          ap (λ n. has_bit n j) (get_or-set_other bits b k new 0 apart)
          ∙ ap (λ t. cond (t && eqb j i) true (has_bit (get_or bits k 0) j)) (sym (ne_eqb k b apart))
    ]

module _ (bits letters : List ℕ) (len position first index letter : ℕ) (long : length bits ≡ 26) (low : 65 ≤ letter) (high : letter ≤ 90) (there : get_or letters (index * len + position) 0 ≡ letter) (from : first ≤ index) (few : index < first + 64)
    (done : (k j : ℕ) → k < 26 → first + j < index → has_bit (get_or bits k 0) j ≡ letter_at letters ((first + j) * len + position) k)
    (left : (k j : ℕ) → k < 26 → index ≤ first + j → has_bit (get_or bits k 0) j ≡ false) where
  abbrev pub next : List ℕ
  next = set bits (letter - 65) (bit_or (get_or bits (letter - 65) 0) (1 * 2 ^ (index - first) % 2 ^ 64))

  stays : (k j : ℕ) → (j ≡ index - first → ⊥) → has_bit (get_or next k 0) j ≡ has_bit (get_or bits k 0) j
  stays k j apart =
      bit_set bits (letter - 65) k (index - first) j (omega (arith, long, low, high)) (omega (arith, from, few))
      ∙ ap (λ t. cond (eqb k (letter - 65) && t) true (has_bit (get_or bits k 0) j)) (ne_eqb j (index - first) apart)
      ∙ ap (λ t. cond t true (has_bit (get_or bits k 0) j)) (and_none (eqb k (letter - 65)))
    where
      and_none : (b : Bool) → (b && false) ≡ false
      and_none true = cc
      and_none false = cc

  here : (k : ℕ) → k < 26 → has_bit (get_or next k 0) (index - first) ≡ letter_at letters (index * len + position) k
  here k lt =
      bit_set bits (letter - 65) k (index - first) (index - first) (omega (arith, long, low, high)) (omega (arith, from, few))
      ∙ ap (λ t. cond (eqb k (letter - 65) && t) true (has_bit (get_or bits k 0) (index - first))) (eq-eqb (index - first) (index - first) cc)
      ∙ elim (cases_eq k (letter - 65)) [
        | inl same ↦
            ap (λ t. cond (t && true) true (has_bit (get_or bits k 0) (index - first))) (eq-eqb k (letter - 65) same)
            ∙ sym (eq-eqb (get_or letters (index * len + position) 0) (65 + k) (omega (arith, there, same, low)))
        | inr apart ↦
            ap (λ t. cond (t && true) true (has_bit (get_or bits k 0) (index - first))) (ne_eqb k (letter - 65) apart)
            ∙ left k (index - first) lt (omega (arith, from))
            ∙ sym (ne_eqb (get_or letters (index * len + position) 0) (65 + k) (λ same. apart (omega (arith, there, same, low))))
      ]

  pub done_next : (k j : ℕ) → k < 26 → first + j < index + 1 → has_bit (get_or next k 0) j ≡ letter_at letters ((first + j) * len + position) k
  done_next k j lt below = elim (cases_eq j (index - first)) [
    | inl same ↦
        ap (has_bit (get_or next k 0)) same ∙ here k lt
        ∙ ap (λ n. letter_at letters (n * len + position) k) (let e : index ≡ first + j = omega (arith, same, from) in e)
    | inr apart ↦ stays k j apart ∙ done k j lt (omega (arith, below, apart, from))
  ]

  pub left_next : (k j : ℕ) → k < 26 → index + 1 ≤ first + j → has_bit (get_or next k 0) j ≡ false
  left_next k j lt above = stays k j (λ same. omega (arith, same, from, above)) ∙ left k j lt (omega (arith, above))

-- ---- columns after one more chunk

-- a letter of a word, where the letters of all words stand one word after another
letter_in : (letters : List ℕ) (len words index position k : ℕ) → length letters ≡ words * len → index < words → position < len → letter_at letters (index * len + position) k ≡ letter_is (slice_get (word_in len letters index) position) (65 + k)
letter_in letters len words index position k long lt within =
    let room = word_room index words len (length letters) lt long in
    let word = word_in len letters index in
    let whole : length word ≡ len = omega (arith, length-take len (drop (index * len) letters), length-drop (index * len) letters, room) in
    let read : get_or word position 0 ≡ get_or letters (index * len + position) 0 = get_or-take len (drop (index * len) letters) position 0 within ∙ get_or-drop (index * len) letters position 0 in
    ap (λ x. eqb x (65 + k)) (sym read)
    ∙ ap (λ o. letter_is o (65 + k)) (sym (slice_get-get_or word position 0 (omega (arith, whole, within))))

module _ (len words chunk : ℕ) (letters : List ℕ) (before longer after : List RowOfBits) (lettered : length letters ≡ words * len) (some : 64 * chunk < words)
    (are : AreFilled len (min (64 * chunk) words) words letters before)
    (many : length before ≡ 26 * len) (same : length longer ≡ length before) (same_too : length after ≡ length longer)
    (long : (i : ℕ) → i < length before → length (column_at longer i).bits ≡ length (column_at before i).bits + 64)
    (bits : (i index : ℕ) → get_or (column_at longer i).bits index false ≡ get_or (column_at before i).bits index false)
    (more : (i : ℕ) → (column_at before i).room ≤ (column_at longer i).room)
    (len_too : (i : ℕ) → length (column_at after i).bits ≡ length (column_at longer i).bits)
    (inside : (i j : ℕ) → i < length longer → j < 64 → get_or (column_at after i).bits (64 * chunk + j) false ≡ (ltb (64 * chunk + j) words && letter_at letters ((64 * chunk + j) * len + i / 26) (i % 26)))
    (others : (i at : ℕ) → (at / 64 ≡ chunk → ⊥) → get_or (column_at after i).bits at false ≡ get_or (column_at longer i).bits at false)
    (room_too : (i : ℕ) → (column_at after i).room ≡ (column_at longer i).room) where
  in_chunk : (i j : ℕ) → i < length before → j < 64 → get_or (column_at after i).bits (64 * chunk + j) false ≡ (ltb (64 * chunk + j) (min (64 * (chunk + 1)) words) && bit_in (word_in len letters (64 * chunk + j)) i)
  in_chunk i j lt small = inside i j (omega (arith, same, lt)) small ∙ elim (cases_lt (64 * chunk + j) words) [
    | inl within ↦
        ap (λ b. b && letter_at letters ((64 * chunk + j) * len + i / 26) (i % 26)) (lt-ltb (64 * chunk + j) words within)
        ∙ letter_in letters len words (64 * chunk + j) (i / 26) (i % 26) lettered within (omega (arith, lt, many))
        ∙ ap (λ b. b && bit_in (word_in len letters (64 * chunk + j)) i) (sym (lt-ltb (64 * chunk + j) (min (64 * (chunk + 1)) words) (omega (arith, within, small))))
    | inr past ↦
        ap (λ b. b && letter_at letters ((64 * chunk + j) * len + i / 26) (i % 26)) (le-ltb (64 * chunk + j) words past)
        ∙ ap (λ b. b && bit_in (word_in len letters (64 * chunk + j)) i) (sym (le-ltb (64 * chunk + j) (min (64 * (chunk + 1)) words) (omega (arith, past))))
  ]

  says : (i index : ℕ) → i < length before → get_or (column_at after i).bits index false ≡ (ltb index (min (64 * (chunk + 1)) words) && bit_in (word_in len letters index) i)
  says i index lt = elim (cases_eq (index / 64) chunk) [
    | inl there ↦
        let at : 64 * chunk + index % 64 ≡ index = omega (arith, there) in
        subst (λ n. get_or (column_at after i).bits n false ≡ (ltb n (min (64 * (chunk + 1)) words) && bit_in (word_in len letters n) i)) at (in_chunk i (index % 64) lt (omega arith))
    | inr apart ↦
        others i index apart ∙ bits i index ∙ are.says i index lt
        ∙ ap (λ b. b && bit_in (word_in len letters index) i) (elim (cases_lt index (64 * chunk)) [
          | inl below ↦ lt-ltb index (min (64 * chunk) words) (omega (arith, below, some)) ∙ sym (lt-ltb index (min (64 * (chunk + 1)) words) (omega (arith, below, some)))
          | inr above ↦
              let past : 64 * (chunk + 1) ≤ index = omega (arith, above, apart) in
              le-ltb index (min (64 * chunk) words) (omega (arith, above)) ∙ sym (le-ltb index (min (64 * (chunk + 1)) words) (omega (arith, past)))
        ])
  ]

  pub filled_chunk : AreFilled len (min (64 * (chunk + 1)) words) words letters after
  filled_chunk = record {
    long = λ i lt.
        let within : i < length before = omega (arith, lt, same, same_too) in
        len_too i ∙ long i within ∙ (let e : length (column_at before i).bits + 64 ≡ 64 * ((min (64 * (chunk + 1)) words + 63) / 64) = omega (arith, are.long i within, some) in e);
    says = λ i index lt. says i index (omega (arith, lt, same, same_too));
    room = λ i lt. omega (arith, are.room i (omega (arith, lt, same, same_too)), more i, room_too i);
  }
