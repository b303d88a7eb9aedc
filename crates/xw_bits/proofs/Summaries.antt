-- Changes of words or marks that keep the summary right.
use Rattle.std.proofs.Common.{◌≡◌, ℕ, ◌+◌, ◌*◌, ◌/◌, ◌%◌, ◌<◌, ◌≤◌, Bool, true, false, cond, ◌&&◌, eqb, set, bit_and, List, [], length, get_or, Option, Some, None, IfSome, IfNone, is_some, refl, sym, ap, ◌∙◌, inl, inr, subst, arith}
use Rattle.std.proofs.lemmas.Bool.{cases_lt, cases_eq, cond-true, cond-false, eq-eqb, ne_eqb, both_ways}
use Rattle.std.specs.Prelude.{Vec, replicate}
use Rattle.std.specs.Vec.{with_items}
use Rattle.std.proofs.lemmas.List.{with_items_is, get_or_past, get_or-replicate, length-replicate}
use Rattle.xw_bits.specs.Bits.{has_bit, words_have}
use Rattle.xw_bits.specs.Summary.{IsSummary}
use Rattle.xw_bits.proofs.BitLemmas.{words_have-set_same, words_have-set_other, has_bit-and, has_bit-none, words_have-none}
use Rattle.xw_bits.proofs.RowBlocks.{zeros_have}

-- a marked word is one of the words
pub marked_within : (words summary : List ℕ) → IsSummary words summary → (k : ℕ) → words_have summary k ≡ true → k < length words
marked_within words summary is k marked = elim (cases_lt k (length words)) [
  | inl lt ↦ lt
  | inr past ↦ absurd (both_ways (words_have summary k) (is.within k past) marked)
]

-- words that change, where each word that was 0 is still 0
pub fewer_words : (words new summary : List ℕ) → IsSummary words summary → length new ≡ length words → ((k : ℕ) → get_or words k 0 ≡ 0 → get_or new k 0 ≡ 0) → IsSummary new summary
fewer_words words new summary is long stays = record {
  clear = λ k none. stays k (is.clear k none);
  within = λ k le. is.within k (omega (arith, le, long));
}

-- the marks after one of them was set or removed
pub mark_put : (summary : List ℕ) (chunk word : ℕ) (bit : Bool) → chunk / 64 < length summary → ((k : ℕ) → k < 64 → has_bit word k ≡ cond (eqb k (chunk % 64)) bit (has_bit (get_or summary (chunk / 64) 0) k))
    → (j : ℕ) → words_have (set summary (chunk / 64) word) j ≡ cond (eqb j chunk) bit (words_have summary j)
unfolding words_have
mark_put summary chunk word bit lt each j = elim (cases_eq (j / 64) (chunk / 64)) [
  | inr elsewhere ↦
      words_have-set_other summary (chunk / 64) word j elsewhere
      ∙ sym (cond-false (eqb j chunk) bit (words_have summary j) (ne_eqb j chunk (λ e. elsewhere (ap (λ n. n / 64) e))))
  | inl here ↦
      words_have-set_same summary (chunk / 64) word j lt here ∙ each (j % 64) (omega arith)
      ∙ elim (cases_eq j chunk) [
        | inl same ↦
            cond-true (eqb (j % 64) (chunk % 64)) bit (has_bit (get_or summary (chunk / 64) 0) (j % 64)) (eq-eqb (j % 64) (chunk % 64) (ap (λ n. n % 64) same))
            ∙ sym (cond-true (eqb j chunk) bit (words_have summary j) (eq-eqb j chunk same))
        | inr apart ↦
            cond-false (eqb (j % 64) (chunk % 64)) bit (has_bit (get_or summary (chunk / 64) 0) (j % 64)) (ne_eqb (j % 64) (chunk % 64) (λ e. apart (omega arith)))
            ∙ ap (λ n. has_bit (get_or summary n 0) (j % 64)) (sym here)
            ∙ sym (cond-false (eqb j chunk) bit (words_have summary j) (ne_eqb j chunk apart))
      ]
]

-- the bits that two summaries have in common, as the conjunction of their words
pub common_marks : (summary other : List ℕ) (at k : ℕ) → k < 64 → has_bit (bit_and (get_or summary (at / 64) 0) (get_or other (at / 64) 0)) k ≡ (words_have summary (64 * (at / 64) + k) && words_have other (64 * (at / 64) + k))
unfolding words_have
common_marks summary other at k lt =
    let word : (64 * (at / 64) + k) / 64 ≡ at / 64 = omega arith in
    let bit : (64 * (at / 64) + k) % 64 ≡ k = omega arith in
    has_bit-and (get_or summary (at / 64) 0) (get_or other (at / 64) 0) k
    ∙ ap (λ n. has_bit (get_or summary (at / 64) 0) n && has_bit (get_or other (at / 64) 0) n) (sym bit)
    ∙ ap (λ n. has_bit (get_or summary n 0) ((64 * (at / 64) + k) % 64) && has_bit (get_or other n 0) ((64 * (at / 64) + k) % 64)) (sym word)

-- no bit past the words is set
pub past_words : (words : List ℕ) (k : ℕ) → length words ≤ k / 64 → words_have words k ≡ false
unfolding words_have
past_words words k past = ap (λ w. has_bit w (k % 64)) (get_or_past words (k / 64) 0 past) ∙ has_bit-none (k % 64)

pub both_set : (a b : Bool) → (a && b) ≡ true → (a ≡ true) × (b ≡ true)
both_set true b both = (refl, both)
both_set false b both = absurd (both_ways false refl both)

pub twice : (b : Bool) → (b && b) ≡ false → b ≡ false
twice true none = absurd (both_ways true none refl)
twice false none = refl

-- the mark of a word is in the summary
pub marked_long : (summary : List ℕ) (k : ℕ) → words_have summary k ≡ true → k / 64 < length summary
marked_long summary k marked = elim (cases_lt (k / 64) (length summary)) [
  | inl lt ↦ lt
  | inr past ↦ absurd (both_ways (words_have summary k) (past_words summary k past) marked)
]

pub either_clear : (a b : Bool) → a ≡ false → (a && b) ≡ false
either_clear a b none = ap (λ t. t && b) none

pub other_clear : (a b : Bool) → b ≡ false → (a && b) ≡ false
other_clear true b none = none
other_clear false b none = refl

pub if_some : {A : Type 0} (o : Option A) {P Q : A → Type 0} → ((x : A) → P x → Q x) → IfSome o P → IfSome o Q
if_some None f is = tt
if_some (Some x) f is = f x is

pub if_some_both : {A : Type 0} (o : Option A) {P Q R : A → Type 0} → ((x : A) → P x → Q x → R x) → IfSome o P → IfSome o Q → IfSome o R
if_some_both None f is is_too = tt
if_some_both (Some x) f is is_too = f x is is_too

pub none_is : {A : Type 0} (o : Option A) {P : Type 0} → is_some o ≡ false → IfNone o P → P
none_is None none is = is
none_is (Some x) none is = absurd (both_ways true none refl)

pub if_none : {A : Type 0} (o : Option A) {P Q : Type 0} → (P → Q) → IfNone o P → IfNone o Q
if_none None f is = f is
if_none (Some x) f is = tt

pub empty_summary : IsSummary [] []
empty_summary = record { clear = λ k none. refl; within = λ k le. words_have-none k }

pub zeros_summary : (n m : ℕ) → IsSummary (replicate n 0) (replicate m 0)
zeros_summary n m = record {
  clear = λ k none. elim (cases_lt k n) [
    | inl lt ↦ get_or-replicate n k 0 0 lt
    | inr le ↦ get_or_past (replicate n 0) k 0 (omega (arith, le, length-replicate {A = ℕ} n 0))
  ];
  within = λ k le. zeros_have m k;
}

-- words or marks that are 0 were appended
pub longer_summary : (words summary new marks : List ℕ) → IsSummary words summary → length words ≤ length new → ((k : ℕ) → get_or new k 0 ≡ get_or words k 0)
    → ((k : ℕ) → words_have marks k ≡ words_have summary k) → IsSummary new marks
longer_summary words summary new marks is long same same_marks = record {
  clear = λ k none. same k ∙ is.clear k (sym (same_marks k) ∙ none);
  within = λ k le. same_marks k ∙ is.within k (omega (arith, long, le));
}

-- a summary whose words and marks are written back to their vectors
pub written : {Z : Type 0} (words marks : Vec ℕ Z) (new new_marks : List ℕ) → length new ≡ words.len → length new_marks ≡ marks.len → IsSummary new new_marks → IsSummary (with_items words new).items (with_items marks new_marks).items
written words marks new new_marks long long_marks is =
    subst (λ ws. IsSummary ws (with_items marks new_marks).items) (sym (with_items_is words new long))
    (subst (λ ss. IsSummary new ss) (sym (with_items_is marks new_marks long_marks)) is)
