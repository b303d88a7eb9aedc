use Rattle.std.proofs.Common.{◌≡◌, ℕ, ◌%◌, ◌^◌, ◌<◌, ◌&&◌, Bool, true, false, not, cond, eqb, leb, ltb, length, get_or, mod-eq_of_lt, refl, sym, ap, ◌∙◌, inl, inr, arith, List, map, replicate}
use mir.Syntax.{w8}
use Rattle.std.specs.Simd.Lanes.{mask_l}
use Rattle.std.proofs.lemmas.Bool.{cases_lt, lt-ltb, le-ltb, lt-leb, le-leb}
use Rattle.std.proofs.lemmas.List.{get_or-map, length-map}
use Rattle.std.proofs.lemmas.Simd.{tops_compared, zip2_splat_left, bitmask_splat, mask_l-mod, bit_mask_l}
use Rattle.xw_bits.specs.Bits.{has_bit}
use Rattle.xw_bits.proofs.BitLemmas.{has_bit-and}
use Rattle.xw_words.specs.Marks.{marks_in, are_left}
use Rattle.xw_words.proofs.marks.left_bits.Goals as goal

-- a bit of a mask
has_bit-mask : (flags : List Bool) (k : ℕ) → has_bit (mask_l flags) k ≡ get_or flags k false
unfolding has_bit
has_bit-mask flags k = ap (λ n. eqb n 1) (bit_mask_l flags k) ∙ is_one (get_or flags k false)
  where
    is_one : (flag : Bool) → eqb (cond flag 1 0) 1 ≡ flag
    is_one true = refl
    is_one false = refl

-- whether a word is left, by its byte
left_by_byte : (least byte : ℕ) → (leb least byte && ltb byte 128) ≡ are_left least (marks_in byte)
left_by_byte least byte = elim (cases_lt byte 128) [
  | inl lt ↦
      ap (λ b. leb least byte && b) (lt-ltb byte 128 lt) ∙ and_true (leb least byte)
      ∙ sym (ap (λ b. not b && leb least (byte % 128)) (lt-leb 128 byte lt) ∙ ap (leb least) (mod-eq_of_lt lt))
  | inr le ↦
      ap (λ b. leb least byte && b) (le-ltb byte 128 le) ∙ and_false (leb least byte)
      ∙ sym (ap (λ b. not b && leb least (byte % 128)) (le-leb 128 byte le))
]
  where
    and_true : (b : Bool) → (b && true) ≡ b
    and_true true = refl
    and_true false = refl

    and_false : (b : Bool) → (b && false) ≡ false
    and_false true = refl
    and_false false = refl

pub returns : goal.returns
returns c k lt =
    let bytes = c.args.bytes in
    let least = c.args.least in
    let long : length bytes ≡ 64 = c.fits-bytes.0 in
    let within : k < length bytes = omega (arith, lt, long) in
    let graded = ap (λ flags. mask_l flags % 2 ^ 64) (tops_compared w8 leb (replicate 64 least) bytes ∙ zip2_splat_left leb least 64 bytes long)
    ∙ mask_l-mod (map (leb least) bytes) 64 (omega (arith, length-map bytes (leb least), long)) in
    let kept = bitmask_splat w8 ltb bytes 64 128 long (omega arith) in
    has_bit-and _ _ k
    ∙ (λ i. has_bit (graded i) k && has_bit (kept i) k)
    ∙ (λ i. has_bit-mask (map (leb least) bytes) k i && has_bit-mask (map (λ b. ltb b 128) bytes) k i)
    ∙ (λ i. get_or-map (leb least) bytes k 0 false within i && get_or-map (λ b. ltb b 128) bytes k 0 false within i)
    ∙ left_by_byte least (get_or bytes k 0)
