use Rattle.std.proofs.Common.{◌≡◌, ◌<◌, ◌||◌, ℕ, zero, suc, Bool, true, false, List, length, get_or, replicate, slice_get, sym, ap, ◌∙◌, inl, inr, arith, rules}
use Rattle.std.proofs.lemmas.Bool.{cases_lt, cases_eq, both_ways, or_cases, or_left, or_right}
use Rattle.std.proofs.lemmas.List.{get_or_past}
use Rattle.xw_letters.specs.LetterSet.{has}
use Rattle.xw_letters.proofs.LetterSetLemmas.{has-none}
use Rattle.xw_words.specs.Columns.{letter_is, has_letter}
use Rattle.xw_words.specs.Dictionary.{known_words}
use Rattle.xw_feas.specs.Flags.{set_has}
use Rattle.xw_net.proofs.Stripping.FoundSupports.{supports-parts, supports-from}
use Rattle.xw_net.proofs.pass.letters_of.Goals as goal

below : (bits : List Bool) (k : ℕ) → get_or bits k false ≡ true → k < length bits
below bits k is = elim (cases_lt k (length bits)) [ inl lt ↦ lt | inr past ↦ absurd (both_ways (get_or bits k false) (get_or_past bits k false past) is) ]

blank : (count position letter : ℕ) (set : ℕ) → set ≡ 0 → set_has (replicate count set) position letter ≡ false
blank zero position letter set none = has-none letter
blank (suc count) zero letter set none = ap (λ s. has s letter) none ∙ has-none letter
blank (suc count) (suc position) letter set none = blank count position letter set none

pub loop-index-init : goal.loop-index-init
loop-index-init c = record {
  long = search rules;
  some_has = λ position letter is. absurd (both_ways (set_has (replicate 32 c.new-sets.result) position letter) (blank 32 position letter c.new-sets.result c.new-sets.ensures) is);
  all_of = λ position letter word lt has. absurd (omega (arith, lt));
}

pub word-requires : goal.word-requires
word-requires c = omega (arith, below c.args.row.now.bits c.in-Some.index c.in-Some.ensures.set.1, c.requires.row)

pub add_letters-requires : goal.add_letters-requires
add_letters-requires c = omega (arith, c.word.ensures.long, c.requires.len, c.loop-index.invariant.long)

pub loop-index-preserved : goal.loop-index-preserved
loop-index-preserved c =
    let inv = c.loop-index.invariant in
    let bits = c.args.row.now.bits in
    let words = known_words c.args.bank.now.words c.args.len in
    let index = c.in-Some.index in
    let is_of : (position letter : ℕ) → letter_is (slice_get c.word.result.now position) letter ≡ has_letter (known_words c.args.bank.now.words c.args.len) position letter c.in-Some.index = λ position letter.
    ap (λ w. letter_is (slice_get w position) letter) c.word.ensures.word in
    let added : (position letter : ℕ) → set_has c.add_letters.new.sets position letter ≡ (set_has c.loop-index.sets position letter || has_letter (known_words c.args.bank.now.words c.args.len) position letter c.in-Some.index) = λ position letter.
    c.add_letters.ensures.added position letter ∙ ap (λ b. set_has c.loop-index.sets position letter || b) (is_of position letter) in
    record {
      long = c.add_letters.ensures.len ∙ inv.long;
      some_has = λ position letter is. elim (or_cases (set_has c.loop-index.sets position letter) (has_letter words position letter index) (sym (added position letter) ∙ is)) [
        | inl was ↦ inv.some_has position letter was
        | inr has ↦ (index, supports-from bits words position letter index c.in-Some.ensures.set.1 has)
      ];
      all_of = λ position letter word lt sup.
          let parts = supports-parts bits words position letter word sup in
          added position letter
          ∙ elim (cases_lt word c.loop-index.from) [
            | inl before ↦ or_left (set_has c.loop-index.sets position letter) (has_letter words position letter index) (inv.all_of position letter word before sup)
            | inr from ↦ elim (cases_eq word c.in-Some.index) [
              | inl e ↦ or_right (set_has c.loop-index.sets position letter) (has_letter words position letter index) (ap (has_letter words position letter) (sym e) ∙ parts.1)
              | inr apart ↦ absurd (both_ways (get_or bits word false) (c.in-Some.ensures.first word from (omega (arith, lt, apart))) parts.0)
            ]
          ];
    }

pub returns-clause-letters : goal.returns-clause-letters
returns-clause-letters c = record {
  some_has = c.loop-index.invariant.some_has;
  all_of = λ position letter word sup.
      let bits = c.args.row.now.bits in
      let parts = supports-parts bits (known_words c.args.bank.now.words c.args.len) position letter word sup in
      elim (cases_lt word c.loop-index.from) [
        | inl before ↦ c.loop-index.invariant.all_of position letter word before sup
        | inr from ↦ absurd (both_ways (get_or bits word false) (c.in_default.ensures.none word from) parts.0)
      ];
}
