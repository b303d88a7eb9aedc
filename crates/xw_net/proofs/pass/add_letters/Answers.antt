use Rattle.std.proofs.Common.{◌≡◌, ◌≢◌, ◌<◌, ◌≤◌, ◌||◌, ℕ, Bool, true, false, eqb, Some, length, set, slice_get, refl, sym, ap, ◌∙◌, inl, inr, arith}
use Rattle.std.proofs.lemmas.Bool.{cases_lt, cases_eq, eq-eqb, ne_eqb}
use Rattle.std.proofs.lemmas.List.{length-set, get_or-set_same, get_or-set_other, get_or_default}
use Rattle.std.proofs.lemmas.Option.{slice_get_past, slice_get-get_or}
use Rattle.xw_letters.specs.LetterSet.{has}
use Rattle.xw_words.specs.Columns.{letter_is}
use Rattle.xw_feas.specs.Flags.{set_has}
use Rattle.xw_net.proofs.pass.add_letters.Goals as goal

or_none : (b : Bool) → b ≡ (b || false)
or_none true = refl
or_none false = refl

turned : (a b : ℕ) → eqb a b ≡ eqb b a
turned a b = elim (cases_eq a b) [
  | inl e ↦ eq-eqb a b e ∙ sym (eq-eqb b a (sym e))
  | inr n ↦ ne_eqb a b n ∙ sym (ne_eqb b a (λ e. n (sym e)))
]

pub loop-position-preserved : goal.loop-position-preserved
loop-position-preserved c =
    let inv = c.loop-position.invariant in
    let sets = c.loop-position.sets in
    let at = c.loop-position.position in
    let new = c.insert.new.self in
    let below : c.loop-position.position < length c.args.word.now = omega (arith, c.loop-position-test.true) in
    let within : c.loop-position.position < length c.loop-position.sets = omega (arith, c.requires, below, inv.len) in
    let others : (k letter : ℕ) → k ≢ c.loop-position.position → set_has (set c.loop-position.sets c.loop-position.position c.insert.new.self) k letter ≡ set_has c.loop-position.sets k letter =
    λ k letter apart. ap (λ s. has s letter) (get_or-set_other sets at k new 0 apart) in
    record {
      len = length-set sets at new ∙ inv.len;
      done = λ k letter lt. elim (cases_eq k c.loop-position.position) [
        | inl e ↦
            let is : slice_get c.args.word.now c.loop-position.position ≡ Some c.index-word-position.result = slice_get-get_or c.args.word.now c.loop-position.position c.index-word-position.result below ∙ ap Some (sym c.index-word-position.is) in
            ap (λ n. set_has (set sets at new) n letter) e ∙ ap (λ s. has s letter) (get_or-set_same sets at new 0 within) ∙ c.insert.ensures.inserted letter
            ∙ ap (λ b. b || eqb letter c.index-word-position.result) (ap (λ s. has s letter) (get_or_default sets at c.index-sets-position.result 0 within) ∙ inv.rest at letter (omega arith))
            ∙ ap (λ b. set_has c.args.sets.now at letter || b) (turned letter c.index-word-position.result ∙ sym (ap (λ o. letter_is o letter) is))
            ∙ sym (ap (λ n. set_has c.args.sets.now n letter || letter_is (slice_get c.args.word.now n) letter) e)
        | inr apart ↦ others k letter apart ∙ inv.done k letter (omega (arith, lt, apart))
      ];
      rest = λ k letter past. others k letter (λ e. absurd (omega (arith, e, past))) ∙ inv.rest k letter (omega (arith, past));
    }

pub returns-clause-added : goal.returns-clause-added
returns-clause-added c k letter = elim (cases_lt k c.loop-position.position) [
  | inl lt ↦ c.loop-position.invariant.done k letter lt
  | inr past ↦
      let beyond : length c.args.word.now ≤ k = omega (arith, past, c.loop-position-test.false) in
      c.loop-position.invariant.rest k letter past ∙ or_none (set_has c.args.sets.now k letter)
      ∙ ap (λ b. set_has c.args.sets.now k letter || b) (sym (ap (λ o. letter_is o letter) (slice_get_past c.args.word.now k beyond)))
]
