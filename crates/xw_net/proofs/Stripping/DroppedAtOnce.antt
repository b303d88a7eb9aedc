-- A light loses letters of a cell at once that no word of it has: the same as losing them one by one.
use Rattle.std.proofs.Common.{◌≡◌, ℕ, zero, suc, ◌<◌, Bool, true, false, not, ◌&&◌, ◌||◌, eqb, ltb, refl, sym, ap, ◌∙◌, subst, inl, inr, arith}
use Rattle.std.proofs.lemmas.Bool.{cases_Bool, cases_lt, cases_eq, both_ways, or_left, or_right, lt-ltb, le-ltb, eq-eqb, ne_eqb, eqb-true}
use Rattle.xw_letters.specs.Letter.{IsLetter}
use Rattle.xw_words.specs.Dictionary.{Dictionary}
use Rattle.xw_feas.specs.Board.{Board}
use Rattle.xw_net.specs.Marks.{Marks, IsPositionIn, cell_at, slot_at, known, puts, AreSlotsApart, Drops}
use Rattle.xw_net.specs.Due.{Measure, IsUnderway, and_light}
use Rattle.xw_net.proofs.Stripping.DroppedLetters.{from_of, from_is, dropped_under}
use Rattle.xw_net.proofs.Stripping.StepsKeepInvariant.{IsDropped}

-- whether some number below a bound passes
abbrev pub any : (ℕ → Bool) → ℕ → Bool
any f zero = false
any f (suc k) = any f k || f k

below_next : (d k : ℕ) → ltb d (suc k) ≡ (ltb d k || eqb d k)
below_next d k = elim (cases_lt d k) [
  | inl lt ↦ lt-ltb d (suc k) (omega (arith, lt)) ∙ sym (ap (λ b. b || eqb d k) (lt-ltb d k lt))
  | inr le ↦ elim (cases_eq d k) [
    | inl same ↦ lt-ltb d (suc k) (omega (arith, same)) ∙ sym (or_right (ltb d k) (eqb d k) (eq-eqb d k same))
    | inr apart ↦ le-ltb d (suc k) (omega (arith, le, apart)) ∙ sym (ap (λ b. b || eqb d k) (le-ltb d k le) ∙ ne_eqb d k apart)
  ]
]

letters_step : (stood here before last gone : Bool) → (last ≡ true → gone ≡ true) → (stood && not (here && ((before || last) && gone))) ≡ ((stood && not (here && (before && gone))) && not (here && last))
letters_step false here before last gone is = refl
letters_step true false before last gone is = refl
letters_step true true true true true is = refl
letters_step true true true true false is = absurd (both_ways false refl (is refl))
letters_step true true true false true is = refl
letters_step true true true false false is = refl
letters_step true true false true true is = refl
letters_step true true false true false is = absurd (both_ways false refl (is refl))
letters_step true true false false gone is = refl

pending_step : (was slot before last gone : Bool) → (last ≡ true → gone ≡ true) → (was || (slot && ((before || last) && gone))) ≡ ((was || (slot && (before && gone))) || (slot && last))
pending_step true slot before last gone is = refl
pending_step false false before last gone is = refl
pending_step false true true true true is = refl
pending_step false true true false true is = refl
pending_step false true false true true is = refl
pending_step false true false false true is = refl
pending_step false true before true false is = absurd (both_ways false refl (is refl))
pending_step false true true false false is = refl
pending_step false true false false false is = refl

queued_step : (was it some : Bool) → (was || (it && (some || true))) ≡ ((was || (it && some)) || it)
queued_step true it some = refl
queued_step false true true = refl
queued_step false true false = refl
queued_step false false some = refl

or_false : (b : Bool) → (b || false) ≡ b
or_false true = refl
or_false false = refl

and_false : (b : Bool) → (b && false) ≡ false
and_false true = refl
and_false false = refl

and_true : (b : Bool) → (b && true) ≡ b
and_true true = refl
and_true false = refl

any_from : (f : ℕ → Bool) (n k : ℕ) → k < n → f k ≡ true → any f n ≡ true
any_from f zero k below is = absurd (omega (arith, below))
any_from f (suc n) k below is = elim (cases_lt k n) [
  | inl lt ↦ or_left (any f n) (f n) (any_from f n k lt is)
  | inr le ↦
      let same : k ≡ n = omega (arith, below, le) in
      or_right (any f n) (f n) (ap f (sym same) ∙ is)
]

-- `gone` has the letters that the cell loses
module _ (board : Board) (dictionary : Dictionary) (apart : AreSlotsApart board) (i q : ℕ) (position : IsPositionIn board i q) (old : Marks) (gone : ℕ → Bool)
    (slot it : ℕ → Bool)
    (make : (b : ℕ) (from to : Marks) → ((y d : ℕ) → to.letters y d ≡ (from.letters y d && not (eqb y (cell_at board i q) && eqb d b)))
    → ((s d : ℕ) → to.pending s d ≡ (from.pending s d || (slot s && eqb d b))) → ((j : ℕ) → to.queued j ≡ (from.queued j || it j)) → Drops board i q b from to)
    (stood : (d : ℕ) → gone d ≡ true → old.letters (cell_at board i q) d ≡ true)
    (none_has : (d k : ℕ) → gone d ≡ true → old.words i k ≡ true → puts board dictionary i q d k ≡ true → ⊥)
    (are_letters : (d : ℕ) → gone d ≡ true → IsLetter d) where
  -- the marks once the letters below a bound are gone
  abbrev stage : ℕ → Marks
  stage k = record old {
    letters = λ y d. old.letters y d && not (eqb y (cell_at board i q) && (ltb d k && gone d));
    pending = λ s d. old.pending s d || (slot s && (ltb d k && gone d));
    queued = λ j. old.queued j || (it j && any gone k);
  }

  stage_drops : (k : ℕ) → gone k ≡ true → Drops board i q k (stage k) (stage (suc k))
  stage_drops k goes = make k (stage k) (stage (suc k)) letters pending queued where
    last_goes : (d : ℕ) → eqb d k ≡ true → gone d ≡ true
    last_goes d is = ap gone (eqb-true d k is) ∙ goes

    letters : (y d : ℕ) → (old.letters y d && not (eqb y (cell_at board i q) && (ltb d (suc k) && gone d))) ≡ ((old.letters y d && not (eqb y (cell_at board i q) && (ltb d k && gone d))) && not (eqb y (cell_at board i q) && eqb d k))
    letters y d =
        ap (λ b. old.letters y d && not (eqb y (cell_at board i q) && (b && gone d))) (below_next d k)
        ∙ letters_step (old.letters y d) (eqb y (cell_at board i q)) (ltb d k) (eqb d k) (gone d) (last_goes d)

    pending : (s d : ℕ) → (old.pending s d || (slot s && (ltb d (suc k) && gone d))) ≡ ((old.pending s d || (slot s && (ltb d k && gone d))) || (slot s && eqb d k))
    pending s d = ap (λ b. old.pending s d || (slot s && (b && gone d))) (below_next d k) ∙ pending_step (old.pending s d) (slot s) (ltb d k) (eqb d k) (gone d) (last_goes d)

    queued : (j : ℕ) → (old.queued j || (it j && (any gone k || gone k))) ≡ ((old.queued j || (it j && any gone k)) || it j)
    queued j = ap (λ b. old.queued j || (it j && (any gone k || b))) goes ∙ queued_step (old.queued j) (it j) (any gone k)

  -- a letter that stays changes nothing
  stage_same : (k : ℕ) → gone k ≡ false → stage k ≡ stage (suc k)
  stage_same k stays = λ t. record old {
    letters = λ y d. old.letters y d && not (eqb y (cell_at board i q) && no_more d t);
    pending = λ s d. old.pending s d || (slot s && no_more d t);
    queued = λ j. queued j t;
  } where
    no_more : (d : ℕ) → (ltb d k && gone d) ≡ (ltb d (suc k) && gone d)
    no_more d = elim (cases_eq d k) [
      | inl same ↦
          let here : gone d ≡ false = ap gone same ∙ stays in
          ap (λ b. ltb d k && b) here ∙ and_false (ltb d k) ∙ sym (ap (λ b. ltb d (suc k) && b) here ∙ and_false (ltb d (suc k)))
      | inr other ↦ sym (ap (λ b. b && gone d) (below_next d k ∙ ap (λ b. ltb d k || b) (ne_eqb d k other) ∙ or_false (ltb d k)))
    ]

    queued : (j : ℕ) → (old.queued j || (it j && any gone k)) ≡ (old.queued j || (it j && (any gone k || gone k)))
    queued j = sym (ap (λ b. old.queued j || (it j && (any gone k || b))) stays ∙ ap (λ b. old.queued j || (it j && b)) (or_false (any gone k)))

  module _ (measure : Measure) (ticks : ℕ) (in_set : measure.member i ≡ true) where
    is_under : ℕ → Type 0
    is_under k = IsUnderway board dictionary measure (stage k) (and_light (stage k).queued i) ticks

    under_drop : (k : ℕ) → gone k ≡ true → is_under k → is_under (suc k)
    unfolding is_under
    under_drop k goes under =
        let drops = stage_drops k goes in
        let s = slot_at board i q in
        let from = from_of (known board dictionary i) (old.held s k) (old.restart s k) in
        let letter = are_letters k goes in
        let dropped : IsDropped board dictionary (stage k) (stage (suc k)) i q k (from_of (known board dictionary i) (old.held (slot_at board i q) k) (old.restart (slot_at board i q) k)) = record {
          words = λ j n. refl;
          held = λ u d. refl;
          restart = λ u d. refl;
          stood = ap (λ b. old.letters (cell_at board i q) k && not (eqb (cell_at board i q) (cell_at board i q) && (b && gone k))) (le-ltb k k (omega arith)) ∙ ap (λ b. old.letters (cell_at board i q) k && not b) (and_false (eqb (cell_at board i q) (cell_at board i q))) ∙ ap (λ b. b && true) (stood k goes);
          drops = drops;
          no_word = λ n stands has. none_has k n goes stands has;
          from_is = from_is (known board dictionary i) (old.held s k) (old.restart s k);
        } in
        dropped_under board dictionary apart (stage k) (stage (suc k)) i q k from position letter dropped measure ticks ticks in_set (omega arith) under

    under_next : (k : ℕ) → is_under k → is_under (suc k)
    unfolding is_under
    under_next k under = elim (cases_Bool (gone k)) [
      | inl goes ↦ under_drop k goes under
      | inr stays ↦ subst (λ m. IsUnderway board dictionary measure m (and_light m.queued i) ticks) (stage_same k stays) under
    ]

    under_all : (k : ℕ) → is_under 0 → is_under k
    under_all zero under = under
    under_all (suc k) under = under_next k (under_all k under)

    module _ (new : Marks) (words : (j k : ℕ) → new.words j k ≡ old.words j k) (held : (s d : ℕ) → new.held s d ≡ old.held s d) (restart : (s d : ℕ) → new.restart s d ≡ old.restart s d)
        (letters : (y d : ℕ) → new.letters y d ≡ (old.letters y d && not (eqb y (cell_at board i q) && gone d)))
        (pending : (s d : ℕ) → new.pending s d ≡ (old.pending s d || (slot s && gone d)))
        (queued : (j : ℕ) → new.queued j ≡ (old.queued j || it j)) (first : ℕ) (goes : gone first ≡ true) where
      start_same : old ≡ stage 0
      start_same = λ t. record old {
        letters = λ y d. starts y d t;
        pending = λ s d. waits s d t;
        queued = λ j. queues j t;
      } where
        none_below : (d : ℕ) → (ltb d 0 && gone d) ≡ false
        none_below d = ap (λ b. b && gone d) (le-ltb d 0 (omega arith))

        starts : (y d : ℕ) → old.letters y d ≡ (old.letters y d && not (eqb y (cell_at board i q) && (ltb d 0 && gone d)))
        starts y d = sym (ap (λ b. old.letters y d && not (eqb y (cell_at board i q) && b)) (none_below d) ∙ ap (λ b. old.letters y d && not b) (and_false (eqb y (cell_at board i q))) ∙ and_true (old.letters y d))

        waits : (s d : ℕ) → old.pending s d ≡ (old.pending s d || (slot s && (ltb d 0 && gone d)))
        waits s d = sym (ap (λ b. old.pending s d || (slot s && b)) (none_below d) ∙ ap (λ b. old.pending s d || b) (and_false (slot s)) ∙ or_false (old.pending s d))

        queues : (j : ℕ) → old.queued j ≡ (old.queued j || (it j && false))
        queues j = sym (ap (λ b. old.queued j || b) (and_false (it j)) ∙ or_false (old.queued j))

      all_below : (d : ℕ) → (ltb d 91 && gone d) ≡ gone d
      all_below d = elim (cases_Bool (gone d)) [
        | inl is ↦ ap (λ b. b && gone d) (lt-ltb d 91 (omega (arith, are_letters d is)))
        | inr is ↦ ap (λ b. ltb d 91 && b) is ∙ and_false (ltb d 91) ∙ sym is
      ]

      end_same : stage 91 ≡ new
      end_same = λ t. record {
        words = λ j k. sym (words j k) t;
        letters = λ y d. ends y d t;
        held = λ s d. sym (held s d) t;
        restart = λ s d. sym (restart s d) t;
        pending = λ s d. waits s d t;
        queued = λ j. queues j t;
      } where
        ends : (y d : ℕ) → (old.letters y d && not (eqb y (cell_at board i q) && (ltb d 91 && gone d))) ≡ new.letters y d
        ends y d = ap (λ b. old.letters y d && not (eqb y (cell_at board i q) && b)) (all_below d) ∙ sym (letters y d)

        waits : (s d : ℕ) → (old.pending s d || (slot s && (ltb d 91 && gone d))) ≡ new.pending s d
        waits s d = ap (λ b. old.pending s d || (slot s && b)) (all_below d) ∙ sym (pending s d)

        queues : (j : ℕ) → (old.queued j || (it j && any gone 91)) ≡ new.queued j
        queues j = ap (λ b. old.queued j || (it j && b)) (any_from gone 91 first (omega (arith, are_letters first goes)) goes) ∙ ap (λ b. old.queued j || b) (and_true (it j)) ∙ sym (queued j)

      pub dropped_all : IsUnderway board dictionary measure old (and_light old.queued i) ticks → IsUnderway board dictionary measure new (and_light new.queued i) ticks
      unfolding is_under
      dropped_all under =
          subst (λ m. IsUnderway board dictionary measure m (and_light m.queued i) ticks) end_same
          (under_all 91 (subst (λ m. IsUnderway board dictionary measure m (and_light m.queued i) ticks) start_same under))
