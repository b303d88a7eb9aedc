-- The held words and the pending letters at the start of an update.
use Rattle.std.proofs.Common.{◌≡◌, ℕ, ◌+◌, ◌-◌, ◌*◌, ◌<◌, ◌≤◌, Bool, true, false, cond, ◌&&◌, leb, ltb, eqb, [], ◌∷◌, map, length, get_or, Some, None, lit<, lit≤, refl, sym, ◌∙◌, ap, subst, arith, inl, inr}
use Rattle.std.specs.Prelude.{Option}
use Rattle.std.proofs.lemmas.Bool.{cases_lt, cases_eq, cases_Bool, both_ways, and_from, and_parts, or_left, eq-eqb, le-leb, leb-false, ltb-false}
use Rattle.std.proofs.lemmas.List.{get_or_append_left, get_or-map, length-map}
use Rattle.std.proofs.lemmas.Option.{slice_get_within, slice_get-get_or}
use Rattle.xw_letters.specs.Letter.{is_capital}
use Rattle.xw_words.specs.Dictionary.{Entry, known_words, no_entry}
use Rattle.xw_grid.specs.Light.{lights_of}
use Rattle.xw_feas.specs.Board.{board_of, light_at, spelled}
use Rattle.xw_feas.specs.Choices.{choices}
use Rattle.xw_feas.specs.State.{State, Action}
use Rattle.xw_net.specs.declared.net.Net.{Net}
use Rattle.xw_net.specs.Change.{Fields, IsChange, IsIndexOf}
use Rattle.xw_net.specs.Base.{base_bits}
use Rattle.xw_net.specs.Revival.{IsMatching, same_light}
use Rattle.xw_net.specs.Marks.{IsPositionIn, slot_at, side_of, known, puts, IsSettledNet}
use Rattle.xw_net.specs.Nets.{marks_of, held_in, pending_in}
use Rattle.xw_net.specs.Renumber.{same_before}
use Rattle.xw_feas.proofs.BoardLemmas.{length-lights}
use Rattle.xw_net.specs.Worklist.{is_marked}
use Rattle.xw_net.specs.Marks.{IsHolding}
use Rattle.xw_net.specs.Begin.{may_have}
use Rattle.xw_net.specs.Inner.Forget.{nowhere, lose, lost_from, Forgets}
use Rattle.xw_net.specs.Opened.{arrays_of, IsOpening, IsMoved}
use Rattle.xw_net.proofs.Nets.RowRoom.{known_few}
use Rattle.xw_net.proofs.Edits.SameLights.{same_is_matching}
use Rattle.xw_net.proofs.BaseRows.BaseBits.{length-base_bits}

-- a number that is still held was held before, and is below the first one forgotten
lose_below : (first held many : ℕ) → many ≤ nowhere → lose first held < many → (lose first held ≡ held) × (held < first)
lose_below first held many few below = split (ltb first nowhere) (leb first held) refl refl below where
  split : (a b : Bool) → ltb first nowhere ≡ a → leb first held ≡ b → cond a (cond b nowhere held) held < many → (cond a (cond b nowhere held) held ≡ held) × (held < first)
  split true true small past lt = absurd (omega (arith, lt, few))
  split true false small before lt = (refl, leb-false first held before)
  split false b large is lt = (refl, omega (arith, lt, few, ltb-false first nowhere large))

-- a new light forgets all its held words
new_loses : (word : Option (ℕ × ℕ)) (size many : ℕ) → lost_from word None size many ≡ 0
new_loses None size many = refl
new_loses (Some word) size many = refl

-- the held words of a net, moved to another position with the same slot
module _ {cell : Option ℕ} (before now : State) (action : Action) (change : Fields) (is : IsChange before now action change) (settled net opened : Net)
    (is_settled : IsSettledNet (board_of before.grid) before.words (marks_of settled)) (holding : IsHolding (board_of before.grid) before.words (marks_of settled)) (moved : IsMoved before now settled net)
    (opening : IsOpening now.grid (board_of now.grid) (lights_of now.grid) (known_words now.words) change cell (arrays_of net) (arrays_of opened))
    (forgets : Forgets (board_of now.grid) (λ light. lost_from change.word (same_before change.before (lights_of now.grid) light) (length (light_at (board_of now.grid) light)) (length (known_words now.words (length (light_at (board_of now.grid) light)))))
    net.held.items opened.held.items net.pending.items opened.pending.items)
    (has_not : (light : ℕ) → light < length (board_of now.grid).lights → is_marked opened.chain.marks light ≡ false
    → may_have change.word (length (light_at (board_of now.grid) light)) (base_bits (board_of now.grid) (light_at (board_of now.grid) light) (known_words now.words (length (light_at (board_of now.grid) light)))) ≡ false) where
  abbrev seed : ℕ → Bool
  seed = is_marked opened.chain.marks

  abbrev size : ℕ → ℕ
  size light = length (light_at (board_of now.grid) light)

  abbrev lost : ℕ → ℕ
  lost light = lost_from change.word (same_light before.grid now.grid light) (length (light_at (board_of now.grid) light)) (known (board_of now.grid) now.words light)

  lost_is : (light : ℕ) → lost_from change.word (same_before change.before (lights_of now.grid) light) (length (light_at (board_of now.grid) light)) (length (known_words now.words (length (light_at (board_of now.grid) light)))) ≡ lost light
  lost_is light = ap (λ ls. lost_from change.word (same_before ls (lights_of now.grid) light) (length (light_at (board_of now.grid) light)) (length (known_words now.words (length (light_at (board_of now.grid) light))))) is.lights

  matching : IsMatching (board_of before.grid) (board_of now.grid) (same_light before.grid now.grid)
  matching = same_is_matching before.grid now.grid is.width

  same_slot : (light other position : ℕ) → light < length (board_of now.grid).lights → same_light before.grid now.grid light ≡ Some other → slot_at (board_of now.grid) light position ≡ slot_at (board_of before.grid) other position
  same_slot light other position in_board at = ap (λ cs. 2 * get_or cs position 0 + side_of cs) (matching.cells light other in_board at)

  same_position : (light other position : ℕ) → IsPositionIn (board_of now.grid) light position → same_light before.grid now.grid light ≡ Some other → IsPositionIn (board_of before.grid) other position
  same_position light other position here at = (matching.lights light other here.0 at, subst (λ cs. position < length cs) (matching.cells light other here.0 at) here.1)

  held_now : (light position letter : ℕ) → IsPositionIn (board_of now.grid) light position → is_capital letter ≡ true → held_in opened (slot_at (board_of now.grid) light position) letter ≡ lose (lost light) (held_in settled (slot_at (board_of now.grid) light position) letter)
  unfolding held_in
  held_now light position letter here capital =
      forgets.cuts light position letter here capital
      ∙ ap (λ f. lose f (get_or net.held.items (26 * slot_at (board_of now.grid) light position + (letter - 65)) 0)) (lost_is light)
      ∙ ap (λ hs. lose (lost light) (get_or hs (26 * slot_at (board_of now.grid) light position + (letter - 65)) 0)) moved.held

  -- ---- lights that are not seeds

  none_lost : (light : ℕ) → light < length (board_of now.grid).lights → seed light ≡ false → lost light ≡ nowhere
  none_lost light in_board no_seed = by_match (same_light before.grid now.grid light) refl where
    by_word : (other : ℕ) (word : Option (ℕ × ℕ)) → change.word ≡ word → lost_from word (Some other) (length (light_at (board_of now.grid) light)) (known (board_of now.grid) now.words light) ≡ nowhere
    by_word other None none = refl
    by_word other (Some word) some = elim (cases_Bool (eqb word.0 (length (light_at (board_of now.grid) light)) && leb (known (board_of now.grid) now.words light) (word.1 + 1))) [
      | inr stays ↦ ap (λ b. cond b word.1 nowhere) stays
      | inl goes ↦
          let both = and_parts (eqb word.0 (length (light_at (board_of now.grid) light))) (leb (known (board_of now.grid) now.words light) (word.1 + 1)) goes in
          let long = length-base_bits (board_of now.grid) (light_at (board_of now.grid) light) (known_words now.words (length (light_at (board_of now.grid) light))) in
          let last : leb (length (base_bits (board_of now.grid) (light_at (board_of now.grid) light) (known_words now.words (length (light_at (board_of now.grid) light))))) (word.1 + 1) ≡ true = ap (λ n. leb n (word.1 + 1)) long ∙ both.1 in
          let has : may_have (Some word) (length (light_at (board_of now.grid) light)) (base_bits (board_of now.grid) (light_at (board_of now.grid) light) (known_words now.words (length (light_at (board_of now.grid) light)))) ≡ true = and_from _ _ both.0 (or_left _ _ last) in
          absurd (both_ways _ (has_not light in_board no_seed) (ap (λ w. may_have w (length (light_at (board_of now.grid) light)) (base_bits (board_of now.grid) (light_at (board_of now.grid) light) (known_words now.words (length (light_at (board_of now.grid) light))))) some ∙ has))
    ]

    by_match : (o : Option ℕ) → same_light before.grid now.grid light ≡ o → lost light ≡ nowhere
    by_match None at = absurd (both_ways _ no_seed (opening.new_marked light (omega (arith, in_board, length-lights now.grid), ap (λ ls. same_before ls (lights_of now.grid) light) is.lights ∙ at)))
    by_match (Some other) at = ap (λ o. lost_from change.word o (length (light_at (board_of now.grid) light)) (known (board_of now.grid) now.words light)) at ∙ by_cases change.word refl where
      by_cases : (word : Option (ℕ × ℕ)) → change.word ≡ word → lost_from change.word (Some other) (length (light_at (board_of now.grid) light)) (known (board_of now.grid) now.words light) ≡ nowhere
      by_cases word e = ap (λ w. lost_from w (Some other) (length (light_at (board_of now.grid) light)) (known (board_of now.grid) now.words light)) e ∙ by_word other word e

  pub opened_held : (light position letter : ℕ) → IsPositionIn (board_of now.grid) light position → is_capital letter ≡ true → seed light ≡ false → held_in opened (slot_at (board_of now.grid) light position) letter ≡ held_in settled (slot_at (board_of now.grid) light position) letter
  opened_held light position letter here capital no_seed =
      held_now light position letter here capital ∙ ap (λ f. lose f (held_in settled (slot_at (board_of now.grid) light position) letter)) (none_lost light here.0 no_seed)

  -- ---- pending letters

  pub opened_pending : (light position letter : ℕ) → IsPositionIn (board_of now.grid) light position → pending_in opened (slot_at (board_of now.grid) light position) letter ≡ false
  unfolding pending_in
  opened_pending light position letter here = by_match (same_light before.grid now.grid light) refl where
    by_match : (o : Option ℕ) → same_light before.grid now.grid light ≡ o → pending_in opened (slot_at (board_of now.grid) light position) letter ≡ false
    by_match None at = forgets.cleared light position letter here (subst (λ n. n < nowhere) (sym (lost_is light ∙ ap (λ o. lost_from change.word o (length (light_at (board_of now.grid) light)) (known (board_of now.grid) now.words light)) at ∙ new_loses change.word (length (light_at (board_of now.grid) light)) (known (board_of now.grid) now.words light))) (lit< tt))
    by_match (Some other) at = elim (cases_Bool (pending_in opened (slot_at (board_of now.grid) light position) letter)) [
      | inr none ↦ none
      | inl pends ↦
          let had = forgets.less (slot_at (board_of now.grid) light position) letter pends in
          absurd (both_ways _ (is_settled.none_pending other position letter (same_position light other position here at))
          (ap (λ s. pending_in settled s letter) (sym (same_slot light other position here.0 at)) ∙ ap (λ ps. Rattle.xw_feas.specs.Flags.set_has ps (slot_at (board_of now.grid) light position) letter) (sym moved.pending) ∙ had))
    ]

  -- ---- words that are still held

  -- a known word was known before, unless it is the changed word and the last one of its length
  was_known : (light held : ℕ) → held < known (board_of now.grid) now.words light
      → ((word : ℕ × ℕ) → change.word ≡ Some word → word.0 ≡ length (light_at (board_of now.grid) light) → known (board_of now.grid) now.words light ≤ word.1 + 1 → held ≡ word.1 → ⊥)
      → held < length (known_words before.words (length (light_at (board_of now.grid) light)))
  was_known light held below apart = by_word change.word refl where
    stood : (k : ℕ) → k < known (board_of now.grid) now.words light → ¬ IsIndexOf change.word (length (light_at (board_of now.grid) light)) k → k < length (known_words before.words (length (light_at (board_of now.grid) light)))
    stood k lt off = elim (cases_Bool (change.turned (length (light_at (board_of now.grid) light)))) [
      | inl on ↦ omega (arith, lt, is.counts (length (light_at (board_of now.grid) light)) on)
      | inr still ↦
          slice_get_within (known_words before.words (length (light_at (board_of now.grid) light))) k (get_or (known_words now.words (length (light_at (board_of now.grid) light))) k no_entry)
          (sym (is.entries (length (light_at (board_of now.grid) light)) k still off) ∙ slice_get-get_or (known_words now.words (length (light_at (board_of now.grid) light))) k no_entry lt)
    ]

    by_word : (word : Option (ℕ × ℕ)) → change.word ≡ word → held < length (known_words before.words (length (light_at (board_of now.grid) light)))
    by_word None none = stood held below (λ found. subst (λ w. IsIndexOf w (length (light_at (board_of now.grid) light)) held) none found)
    by_word (Some word) some = elim (cases_eq held word.1) [
      | inr differs ↦ stood held below (λ found. differs (sym (subst (λ w. IsIndexOf w (length (light_at (board_of now.grid) light)) held) some found).1))
      | inl e ↦ elim (cases_eq word.0 (length (light_at (board_of now.grid) light))) [
        | inr other_size ↦ stood held below (λ found. other_size (subst (λ w. IsIndexOf w (length (light_at (board_of now.grid) light)) held) some found).0)
        | inl long ↦ elim (cases_lt (word.1 + 1) (known (board_of now.grid) now.words light)) [
          | inr last ↦ absurd (apart word some long last e)
          | inl more ↦
              let next : held + 1 < length (known_words before.words (length (light_at (board_of now.grid) light))) =
              stood (held + 1) (omega (arith, more, e)) (λ found. let there = subst (λ w. IsIndexOf w (length (light_at (board_of now.grid) light)) (held + 1)) some found in absurd (omega (arith, there.1, e))) in
              omega (arith, next)
        ]
      ]
    ]

  -- its number denotes the same word as before
  same_word : (light other held : ℕ) → light < length (board_of now.grid).lights → same_light before.grid now.grid light ≡ Some other → held < known (board_of now.grid) now.words light → held < length (known_words before.words (length (light_at (board_of now.grid) light)))
      → get_or (choices (board_of now.grid) now.words (light_at (board_of now.grid) light)) held [] ≡ get_or (choices (board_of before.grid) before.words (light_at (board_of before.grid) other)) held []
  same_word light other held in_board at below had =
      get_or_append_left (map (λ (word : Entry). word.word) (known_words now.words (length (light_at (board_of now.grid) light)))) (spelled (board_of now.grid) (light_at (board_of now.grid) light) ∷ []) [] held
      (omega (arith, below, length-map (known_words now.words (length (light_at (board_of now.grid) light))) (λ (word : Entry). word.word)))
      ∙ get_or-map (λ (word : Entry). word.word) (known_words now.words (length (light_at (board_of now.grid) light))) held no_entry [] below
      ∙ is.spelling (length (light_at (board_of now.grid) light)) held had
      ∙ sym (get_or-map (λ (word : Entry). word.word) (known_words before.words (length (light_at (board_of now.grid) light))) held no_entry [] had)
      ∙ sym (get_or_append_left (map (λ (word : Entry). word.word) (known_words before.words (length (light_at (board_of now.grid) light)))) (spelled (board_of before.grid) (light_at (board_of now.grid) light) ∷ []) [] held
      (omega (arith, had, length-map (known_words before.words (length (light_at (board_of now.grid) light))) (λ (word : Entry). word.word))))
      ∙ ap (λ cs. get_or (choices (board_of before.grid) before.words cs) held []) (matching.cells light other in_board at)

  pub opened_hits : (light position letter : ℕ) → IsPositionIn (board_of now.grid) light position → is_capital letter ≡ true → held_in opened (slot_at (board_of now.grid) light position) letter < known (board_of now.grid) now.words light
      → puts (board_of now.grid) now.words light position letter (held_in opened (slot_at (board_of now.grid) light position) letter) ≡ true
  opened_hits light position letter here capital below = by_match (same_light before.grid now.grid light) refl where
    few : known (board_of now.grid) now.words light ≤ nowhere
    few = let most : 1048576 ≤ nowhere = lit≤ tt in omega (arith, most, known_few now.words (length (light_at (board_of now.grid) light)) is.formed_now.dictionary)

    still : (lose (lost light) (held_in settled (slot_at (board_of now.grid) light position) letter) ≡ held_in settled (slot_at (board_of now.grid) light position) letter) × (held_in settled (slot_at (board_of now.grid) light position) letter < lost light)
    still = lose_below (lost light) (held_in settled (slot_at (board_of now.grid) light position) letter) (known (board_of now.grid) now.words light) few (subst (λ n. n < known (board_of now.grid) now.words light) (held_now light position letter here capital) below)

    is_held : held_in opened (slot_at (board_of now.grid) light position) letter ≡ held_in settled (slot_at (board_of now.grid) light position) letter
    is_held = held_now light position letter here capital ∙ still.0

    below_now : held_in settled (slot_at (board_of now.grid) light position) letter < known (board_of now.grid) now.words light
    below_now = subst (λ n. n < known (board_of now.grid) now.words light) is_held below

    by_match : (o : Option ℕ) → same_light before.grid now.grid light ≡ o → puts (board_of now.grid) now.words light position letter (held_in opened (slot_at (board_of now.grid) light position) letter) ≡ true
    by_match None at =
        let none : lost light ≡ 0 = ap (λ o. lost_from change.word o (length (light_at (board_of now.grid) light)) (known (board_of now.grid) now.words light)) at ∙ new_loses change.word (length (light_at (board_of now.grid) light)) (known (board_of now.grid) now.words light) in
        absurd (omega (arith, none, still.1))
    by_match (Some other) at =
        let had = was_known light (held_in settled (slot_at (board_of now.grid) light position) letter) below_now (λ word some long last e.
        let first : lost light ≡ word.1 =
        ap (λ o. lost_from change.word o (length (light_at (board_of now.grid) light)) (known (board_of now.grid) now.words light)) at
        ∙ ap (λ w. lost_from w (Some other) (length (light_at (board_of now.grid) light)) (known (board_of now.grid) now.words light)) some
        ∙ ap (λ b. cond b word.1 nowhere) (and_from _ _ (eq-eqb word.0 (length (light_at (board_of now.grid) light)) long) (le-leb (known (board_of now.grid) now.words light) (word.1 + 1) last)) in
        absurd (omega (arith, first, still.1, e))) in
        let slot = same_slot light other position here.0 at in
        let count : length (known_words before.words (length (light_at (board_of now.grid) light))) ≡ known (board_of before.grid) before.words other = ap (λ cs. length (known_words before.words (length cs))) (matching.cells light other here.0 at) in
        let there : held_in settled (slot_at (board_of now.grid) light position) letter ≡ held_in settled (slot_at (board_of before.grid) other position) letter = ap (λ s. held_in settled s letter) slot in
        ap (puts (board_of now.grid) now.words light position letter) is_held
        ∙ ap (λ w. eqb (get_or w position 0) letter) (same_word light other (held_in settled (slot_at (board_of now.grid) light position) letter) here.0 at below_now had)
        ∙ ap (puts (board_of before.grid) before.words other position letter) there
        ∙ holding other position letter (same_position light other position here at) capital (omega (arith, had, count, there))
