-- Consequences of the view and the invariant of a row.
use Rattle.std.proofs.Common.{◌≡◌, Option, Some, None, IfSome, if◌then◌else◌, true, add-zero, ℕ, ◌+◌, ◌-◌, ◌*◌, ◌/◌, ◌<◌, ◌≤◌, Bool, false, List, length, get_or, vec_len, count_by, sym, ap, ◌∙◌, inl, inr, cond, eqb, ltb, min, set, bit_and, ◌&&◌, refl, ◌%◌, [], ◌∷◌, ◌++◌, length-append, arith}
use Rattle.std.proofs.lemmas.Bool.{cases_lt, cases_eq, cond-true, cond-false, eq-eqb, ne_eqb, lt-ltb, le-ltb}
use Rattle.std.specs.Prelude.{Vec}
use Rattle.std.specs.Vec.{with_items}
use Rattle.std.proofs.lemmas.List.{with_items_is, get_or_past, get_or_push, get_or_append_left}
use Rattle.std.proofs.lemmas.List.Sums.{sum_by-append}
use lib.Lanes.{zip2}
use Rattle.xw_bits.specs.Bits.{RowOfBits, words_have, bits_of, has_bit}
use Rattle.xw_bits.specs.BitRow.{row_of, IsBitRow}
use Rattle.xw_bits.specs.declared.bit_row.BitRow.TheInside.{Inside}
use Rattle.xw_bits.proofs.BitLemmas.{has_bit-none, has_bit-and, word_bit, length-bits_of, get_or-bits_of, bits_of_is, count-nothing_past, bits_of-combined, words_have-set_same, words_have-set_other}

pub view_len : (r : Inside) {v : RowOfBits} → row_of r ≡ v → r.len ≡ length v.bits
view_len r is = sym (length-bits_of r.words.items r.len) ∙ ap (λ (x : RowOfBits). length x.bits) is

pub view_bits : (r : Inside) {v : RowOfBits} → row_of r ≡ v → bits_of r.words.items r.len ≡ v.bits
view_bits r is = ap (λ (x : RowOfBits). x.bits) is

pub same_len : (r s : Inside) {v w : RowOfBits} → row_of r ≡ v → row_of s ≡ w → length v.bits ≡ length w.bits → r.len ≡ s.len
same_len r s is is_other same = view_len r is ∙ same ∙ sym (view_len s is_other)

pub same_words : (r s : Inside) → IsBitRow r → IsBitRow s → r.len ≡ s.len → vec_len r.words ≡ vec_len s.words
same_words r s inv inv_other same = inv.words_len ∙ ap (λ n. (n + 63) / 64) same ∙ sym inv_other.words_len

-- a chunk of the row is one of its words
pub chunk_within : (r : Inside) {v : RowOfBits} → row_of r ≡ v → IsBitRow r → (chunk : ℕ) → 64 * chunk < length v.bits → chunk < vec_len r.words
chunk_within r is inv chunk lt = omega (arith, view_len r is, inv.words_len)

-- a bit of the row, or past its end, is a bit of its words
pub bit_is : (r : Inside) {v : RowOfBits} → row_of r ≡ v → IsBitRow r → (i : ℕ) → get_or v.bits i false ≡ words_have r.words.items i
bit_is r {v} is inv i =
    elim (cases_lt i r.len) [
      | inl lt ↦ ap (λ bs. get_or bs i false) (sym (view_bits r is)) ∙ get_or-bits_of r.words.items r.len i false lt
      | inr le ↦ get_or_past v.bits i false (omega (arith, view_len r is)) ∙ sym (inv.nothing_past i le)
    ]

-- no bit of a chunk that is not marked is set
pub unmarked_bit : (r : Inside) {v : RowOfBits} → row_of r ≡ v → IsBitRow r → (i : ℕ) → words_have r.summary.items (i / 64) ≡ false → get_or v.bits i false ≡ false
unfolding words_have
unmarked_bit r is inv i none = bit_is r is inv i ∙ ap (λ w. has_bit w (i % 64)) (inv.summary.clear (i / 64) none) ∙ has_bit-none (i % 64)

-- a row whose words are combined with those of another row
pub view-combined : (g : Bool → Bool → Bool) (r s : Inside) {v w : RowOfBits} (ws : List ℕ) → row_of r ≡ v → row_of s ≡ w → r.len ≡ s.len
    → ((i : ℕ) → words_have ws i ≡ g (words_have r.words.items i) (words_have s.words.items i)) → bits_of ws r.len ≡ zip2 g v.bits w.bits
view-combined g r s {v} {w} ws is is_other same each =
    bits_of-combined g ws r.words.items s.words.items r.len each
    ∙ ap (λ bs. zip2 g bs (bits_of s.words.items r.len)) (view_bits r is)
    ∙ ap (λ n. zip2 g v.bits (bits_of s.words.items n)) same
    ∙ ap (zip2 g v.bits) (view_bits s is_other)

-- if no bit past the end is set, the count over all words is the count of the row
pub counted_whole : (ws : List ℕ) (n : ℕ) → n ≤ 64 * length ws → ((i : ℕ) → n ≤ i → words_have ws i ≡ false) → count_by (λ b. b) (bits_of ws (64 * length ws)) ≡ count_by (λ b. b) (bits_of ws n)
counted_whole ws n within none =
    let whole : 64 * length ws ≡ n + (64 * length ws - n) = omega arith in
    ap (λ m. count_by (λ b. b) (bits_of ws m)) whole ∙ count-nothing_past ws n (64 * length ws - n) none

-- the count over all words of a row is the count of its bits
pub count_is : (r : Inside) {v : RowOfBits} → row_of r ≡ v → IsBitRow r → count_by (λ b. b) (bits_of r.words.items (64 * length r.words.items)) ≡ count_by (λ b. b) v.bits
count_is r is inv =
    counted_whole r.words.items r.len (omega (arith, inv.words_len)) inv.nothing_past ∙ ap (count_by (λ b. b)) (view_bits r is)

-- a row after a bit was appended
pub pushed : (r : Inside) {v : RowOfBits} (ws : List ℕ) (bit : Bool) → row_of r ≡ v → IsBitRow r
    → ((j : ℕ) → words_have ws j ≡ cond (eqb j r.len) bit (words_have r.words.items j)) → bits_of ws (r.len + 1) ≡ v.bits ++ bit ∷ []
pushed r {v} ws bit is inv each =
    let long : length (v.bits ++ bit ∷ []) ≡ r.len + 1 = omega (arith, length-append v.bits (bit ∷ []), view_len r is) in
    bits_of_is ws (r.len + 1) (v.bits ++ bit ∷ []) long (λ i lt.
    each i ∙ elim (cases_eq i r.len) [
      | inl same ↦
          cond-true (eqb i r.len) bit (words_have r.words.items i) (eq-eqb i r.len same)
          ∙ sym (ap (λ n. get_or (v.bits ++ bit ∷ []) n false) (same ∙ view_len r is) ∙ get_or_push v.bits bit false (length v.bits) refl)
      | inr differs ↦
          cond-false (eqb i r.len) bit (words_have r.words.items i) (ne_eqb i r.len differs)
          ∙ sym (get_or_append_left v.bits (bit ∷ []) false i (omega (arith, view_len r is)) ∙ bit_is r is inv i)
    ])

-- a cached count stays right after a clear bit is appended
pub counted_pushed : (r : Inside) {v : RowOfBits} (ws : List ℕ) (bit : Bool) → row_of r ≡ v → IsBitRow r → bits_of ws (r.len + 1) ≡ v.bits ++ bit ∷ []
    → IfSome (if bit then None else r.counted) (λ count. count ≡ count_by (λ b. b) (bits_of ws (r.len + 1)))
counted_pushed r ws true is inv each = tt
counted_pushed r {v} ws false is inv each = split r.counted inv.counted where
  split : (o : Option ℕ) → IfSome o (λ count. count ≡ count_by (λ b. b) (bits_of r.words.items r.len)) → IfSome o (λ count. count ≡ count_by (λ b. b) (bits_of ws (r.len + 1)))
  split None known = tt
  split (Some count) known =
      known ∙ ap (count_by (λ b. b)) (view_bits r is) ∙ sym (add-zero (count_by (λ b. b) v.bits))
      ∙ sym (sum_by-append (λ b. cond b 1 0) v.bits (false ∷ [])) ∙ sym (ap (count_by (λ b. b)) each)

-- the words of a vector after one was replaced in its slice
pub is_written : {Z : Type 0} (words : Vec ℕ Z) {slice : List ℕ} (new : List ℕ) (chunk word : ℕ) → length new ≡ words.len → slice ≡ words.items → new ≡ set slice chunk word → (with_items words new).items ≡ set words.items chunk word
is_written words new chunk word long value is = with_items_is words new long ∙ is ∙ ap (λ ws. set ws chunk word) value

-- a row after one word was replaced by one without bits past the end
module _ (r : Inside) {v : RowOfBits} (is : row_of r ≡ v) (inv : IsBitRow r) (chunk word low : ℕ) (within : 64 * chunk < length v.bits)
    (is_low : (k : ℕ) → k < 64 → has_bit low k ≡ (ltb k (min (r.len - 64 * chunk) 64) && has_bit word k)) where
  in_words : chunk < length r.words.items
  in_words = omega (arith, chunk_within r is inv chunk within)

  pub replaced_none_past : (i : ℕ) → r.len ≤ i → words_have (set r.words.items chunk low) i ≡ false
  replaced_none_past i le =
      elim (cases_eq (i / 64) chunk) [
        | inl here ↦
            let past : min (r.len - 64 * chunk) 64 ≤ i % 64 = omega arith in
            words_have-set_same r.words.items chunk low i in_words here ∙ is_low (i % 64) (omega arith)
            ∙ ap (λ t. t && has_bit word (i % 64)) (le-ltb (i % 64) (min (r.len - 64 * chunk) 64) past)
        | inr elsewhere ↦ words_have-set_other r.words.items chunk low i elsewhere ∙ inv.nothing_past i le
      ]

  pub replaced_inside : (k : ℕ) → k < 64 → 64 * chunk + k < length v.bits → get_or (bits_of (set r.words.items chunk low) r.len) (64 * chunk + k) false ≡ has_bit word k
  replaced_inside k lt within_row =
      let here : (64 * chunk + k) / 64 ≡ chunk = omega arith in
      let bit : (64 * chunk + k) % 64 ≡ k = omega arith in
      let below : k < min (r.len - 64 * chunk) 64 = omega (arith, view_len r is) in
      get_or-bits_of (set r.words.items chunk low) r.len (64 * chunk + k) false (omega (arith, view_len r is))
      ∙ words_have-set_same r.words.items chunk low (64 * chunk + k) in_words here ∙ ap (has_bit low) bit ∙ is_low k lt
      ∙ ap (λ t. t && has_bit word k) (lt-ltb k (min (r.len - 64 * chunk) 64) below)

  pub replaced_other : (i : ℕ) → (i / 64 ≡ chunk → ⊥) → get_or (bits_of (set r.words.items chunk low) r.len) i false ≡ get_or v.bits i false
  replaced_other i elsewhere =
      elim (cases_lt i r.len) [
        | inl lt ↦
            get_or-bits_of (set r.words.items chunk low) r.len i false lt ∙ words_have-set_other r.words.items chunk low i elsewhere ∙ sym (bit_is r is inv i)
        | inr le ↦
            get_or_past (bits_of (set r.words.items chunk low) r.len) i false (omega (arith, length-bits_of (set r.words.items chunk low) r.len))
            ∙ sym (get_or_past v.bits i false (omega (arith, view_len r is)))
      ]

-- a word of the row intersected with another has no bits past the end
module _ (r : Inside) {v : RowOfBits} (is : row_of r ≡ v) (inv : IsBitRow r) (chunk word : ℕ) (within : 64 * chunk < length v.bits) where
  abbrev pub left : ℕ
  left = bit_and (get_or r.words.items chunk 0) word

  pub left_low : (k : ℕ) → k < 64 → has_bit left k ≡ (ltb k (min (r.len - 64 * chunk) 64) && has_bit left k)
  left_low k lt = elim (cases_lt k (min (r.len - 64 * chunk) 64)) [
    | inl below ↦ sym (ap (λ t. t && has_bit left k) (lt-ltb k (min (r.len - 64 * chunk) 64) below))
    | inr past ↦
        has_bit-and (get_or r.words.items chunk 0) word k
        ∙ ap (λ t. t && has_bit word k) (sym (word_bit r.words.items chunk k lt) ∙ inv.nothing_past (64 * chunk + k) (omega (arith, past, lt)))
        ∙ sym (ap (λ t. t && has_bit left k) (le-ltb k (min (r.len - 64 * chunk) 64) past))
  ]

  pub left_inside : (k : ℕ) → k < 64 → get_or (bits_of (set r.words.items chunk left) r.len) (64 * chunk + k) false ≡ (get_or v.bits (64 * chunk + k) false && has_bit word k)
  left_inside k lt = elim (cases_lt (64 * chunk + k) (length v.bits)) [
    | inl below ↦
        replaced_inside r is inv chunk left left within left_low k lt below
        ∙ has_bit-and (get_or r.words.items chunk 0) word k
        ∙ ap (λ t. t && has_bit word k) (sym (word_bit r.words.items chunk k lt) ∙ sym (bit_is r is inv (64 * chunk + k)))
    | inr past ↦
        get_or_past (bits_of (set r.words.items chunk left) r.len) (64 * chunk + k) false (omega (arith, past, view_len r is, length-bits_of (set r.words.items chunk left) r.len))
        ∙ sym (ap (λ t. t && has_bit word k) (get_or_past v.bits (64 * chunk + k) false past))
  ]

-- a word of the row with one bit set or cleared has no bits past the end
pub put_low : (r : Inside) {v : RowOfBits} → row_of r ≡ v → IsBitRow r → (i : ℕ) (bit : Bool) (word : ℕ) → i < length v.bits
    → ((k : ℕ) → k < 64 → has_bit word k ≡ cond (eqb k (i % 64)) bit (has_bit (get_or r.words.items (i / 64) 0) k))
    → (k : ℕ) → k < 64 → has_bit word k ≡ (ltb k (min (r.len - 64 * (i / 64)) 64) && has_bit word k)
put_low r is inv i bit word within each k lt = elim (cases_lt k (min (r.len - 64 * (i / 64)) 64)) [
  | inl below ↦ sym (ap (λ t. t && has_bit word k) (lt-ltb k (min (r.len - 64 * (i / 64)) 64) below))
  | inr past ↦
      each k lt
      ∙ cond-false (eqb k (i % 64)) bit (has_bit (get_or r.words.items (i / 64) 0) k) (ne_eqb k (i % 64) (λ e. omega (arith, e, past, within, view_len r is)))
      ∙ sym (word_bit r.words.items (i / 64) k lt)
      ∙ inv.nothing_past (64 * (i / 64) + k) (omega (arith, past, lt))
      ∙ sym (ap (λ t. t && has_bit word k) (le-ltb k (min (r.len - 64 * (i / 64)) 64) past))
]
