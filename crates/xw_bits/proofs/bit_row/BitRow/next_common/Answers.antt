use Rattle.std.proofs.Common.{◌≡◌, ℕ, ◌+◌, ◌*◌, ◌/◌, ◌^◌, ◌<◌, Bool, false, ◌&&◌, get_or, bit_and, sym, ap, ◌∙◌, inl, inr, arith}
use Rattle.std.proofs.lemmas.Bool.{cases_lt, and_left, and_right}
use Rattle.std.proofs.lemmas.List.{get_or_default, get_or_past}
use Rattle.std.proofs.lemmas.Nat.{and_le_l}
use Rattle.xw_bits.specs.Bits.{has_bit}
use Rattle.xw_bits.proofs.BitRowLemmas.{view_len}
use Rattle.xw_bits.proofs.ChunkLemmas.{lowest_passes, none_below_lowest, common_bits, apart_bit}
use Rattle.xw_bits.proofs.bit_row.BitRow.next_common.Goals as goal

both_is : (a b : ℕ) {x y : ℕ} → a ≡ x → b ≡ y → bit_and a b ≡ bit_and x y
both_is a b {x} {y} is is_other = ap (λ n. bit_and n b) is ∙ ap (bit_and x) is_other

pub returns-in-Some-clause-found : goal.returns-in-Some-clause-found
returns-in-Some-clause-found c =
    let chunk = c.in-Some.chunk in
    let found = c.in-Some.ensures.found in
    let one_is : c.index.result.now ≡ get_or c.self.inside.words.items c.in-Some.chunk 0 = c.index.ensures ∙ get_or_default c.self.inside.words.items chunk c.index.result.now 0 (omega (arith, found.1, c.deref.ensures.len)) in
    let two_is : c.index-in-Some.result.now ≡ get_or c.other.inside.words.items c.in-Some.chunk 0 = c.index-in-Some.ensures ∙ get_or_default c.other.inside.words.items chunk c.index-in-Some.result.now 0 (omega (arith, found.2, c.deref-3.ensures.len)) in
    let word = bit_and c.index.result.now c.index-in-Some.result.now in
    let some : 0 < bit_and c.index.result.now c.index-in-Some.result.now =
    omega (arith, found.3, both_is (get_or c.deref.result.now chunk 0) (get_or c.deref-3.result.now chunk 0) (ap (λ ws. get_or ws chunk 0) c.deref.ensures.value ∙ sym one_is) (ap (λ ws. get_or ws chunk 0) c.deref-3.ensures.value ∙ sym two_is)) in
    let fits : bit_and c.index.result.now c.index-in-Some.result.now < 2 ^ 64 = omega (arith, and_le_l c.index.result.now c.index-in-Some.result.now) in
    let bits : (k : ℕ) → k < 64 → has_bit (bit_and c.index.result.now c.index-in-Some.result.now) k ≡ (get_or c.args.self.now.bits (64 * c.in-Some.chunk + k) false && get_or c.args.other.now.bits (64 * c.in-Some.chunk + k) false) =
    λ k lt. common_bits c.self.inside c.other.inside c.self.view_is c.other.view_is c.self.invariant c.other.invariant chunk c.index.result.now c.index-in-Some.result.now k one_is two_is lt in
    let test : ℕ → Bool = λ i. get_or c.args.self.now.bits i false && get_or c.args.other.now.bits i false in
    (omega (arith, found.0), lowest_passes test chunk word bits some fits)

pub returns-in-Some-clause-first : goal.returns-in-Some-clause-first
returns-in-Some-clause-first c i low high =
    let chunk = c.in-Some.chunk in
    let found = c.in-Some.ensures.found in
    let one_is : c.index.result.now ≡ get_or c.self.inside.words.items c.in-Some.chunk 0 = c.index.ensures ∙ get_or_default c.self.inside.words.items chunk c.index.result.now 0 (omega (arith, found.1, c.deref.ensures.len)) in
    let two_is : c.index-in-Some.result.now ≡ get_or c.other.inside.words.items c.in-Some.chunk 0 = c.index-in-Some.ensures ∙ get_or_default c.other.inside.words.items chunk c.index-in-Some.result.now 0 (omega (arith, found.2, c.deref-3.ensures.len)) in
    let word = bit_and c.index.result.now c.index-in-Some.result.now in
    let some : 0 < bit_and c.index.result.now c.index-in-Some.result.now =
    omega (arith, found.3, both_is (get_or c.deref.result.now chunk 0) (get_or c.deref-3.result.now chunk 0) (ap (λ ws. get_or ws chunk 0) c.deref.ensures.value ∙ sym one_is) (ap (λ ws. get_or ws chunk 0) c.deref-3.ensures.value ∙ sym two_is)) in
    let fits : bit_and c.index.result.now c.index-in-Some.result.now < 2 ^ 64 = omega (arith, and_le_l c.index.result.now c.index-in-Some.result.now) in
    let bits : (k : ℕ) → k < 64 → has_bit (bit_and c.index.result.now c.index-in-Some.result.now) k ≡ (get_or c.args.self.now.bits (64 * c.in-Some.chunk + k) false && get_or c.args.other.now.bits (64 * c.in-Some.chunk + k) false) =
    λ k lt. common_bits c.self.inside c.other.inside c.self.view_is c.other.view_is c.self.invariant c.other.invariant chunk c.index.result.now c.index-in-Some.result.now k one_is two_is lt in
    let test : ℕ → Bool = λ i. get_or c.args.self.now.bits i false && get_or c.args.other.now.bits i false in
    elim (cases_lt i (64 * chunk)) [
      | inl before ↦ apart_bit c.self.inside c.other.inside c.self.view_is c.other.view_is c.self.invariant c.other.invariant i (get_or c.deref.result.now (i / 64) 0) (get_or c.deref-3.result.now (i / 64) 0) (ap (λ ws. get_or ws (i / 64) 0) c.deref.ensures.value) (ap (λ ws. get_or ws (i / 64) 0) c.deref-3.ensures.value) (c.in-Some.ensures.passed (i / 64) (omega (arith, low)) (omega (arith, before)))
      | inr here ↦ none_below_lowest test chunk word bits some fits i here high
    ]

pub returns-in-None-clause-none : goal.returns-in-None-clause-none
returns-in-None-clause-none c i low =
    let mine = get_or c.args.self.now.bits i false in
    let its = get_or c.args.other.now.bits i false in
    elim (cases_lt (i / 64) c.self.inside.words.len) [
      | inr past ↦ and_left mine its (get_or_past c.args.self.now.bits i false (omega (arith, past, view_len c.self.inside c.self.view_is, c.self.invariant.words_len)))
      | inl within ↦ elim (cases_lt (i / 64) c.other.inside.words.len) [
        | inr past ↦ and_right mine its (get_or_past c.args.other.now.bits i false (omega (arith, past, view_len c.other.inside c.other.view_is, c.other.invariant.words_len)))
        | inl within_other ↦
            apart_bit c.self.inside c.other.inside c.self.view_is c.other.view_is c.self.invariant c.other.invariant i (get_or c.deref.result.now (i / 64) 0) (get_or c.deref-3.result.now (i / 64) 0) (ap (λ ws. get_or ws (i / 64) 0) c.deref.ensures.value) (ap (λ ws. get_or ws (i / 64) 0) c.deref-3.ensures.value)
            (c.in-None.ensures.none (i / 64) (omega (arith, low)))
      ]
    ]
