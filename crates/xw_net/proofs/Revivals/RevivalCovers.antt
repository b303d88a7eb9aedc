-- A revival leaves every supported family covered.
use Rattle.std.proofs.Common.{◌≡◌, ℕ, ◌<◌, Bool, true, false, not, ◌&&◌, ◌||◌, length, get_or, eqb, ltb, refl, sym, ◌∙◌, ap, subst, inl, inr}
use Rattle.std.specs.Prelude.{◌⊎◌, IsTrue, Contains, slice_index, Option, Some, None, bytes_eq}
use Rattle.std.proofs.lemmas.Bool.{and_parts, and_from, or_cases, or_left, or_right, cases_Bool, false≢true, both_ways, eqb-true, eq-eqb, lt-ltb, ltb-true, not-true, not_from_false}
use Rattle.std.proofs.lemmas.Slice.Eq.{bytes_eq-Decides}
use Rattle.xw_words.specs.Dictionary.{Dictionary}
use Rattle.xw_feas.specs.Board.{Board, light_at}
use Rattle.xw_feas.specs.Feasible.{Family, IsSupported, base_words, may_stand}
use Rattle.xw_feas.specs.Choices.{choice_at, is_base_at, HasLetters, IsWithinBase, SupportsItself, CoversSupported, Covers, IsExact}
use Rattle.xw_feas.proofs.Support.{any_below, any_below-from, any_below-gives, number_of_base, base_words_here, exact_when_none_unsupported}
use Rattle.xw_net.specs.Revival.{IsMatching, StandsOn, was, was_at, IsRevived}
use Rattle.xw_net.proofs.Edits.ExactFamilies.{exact_covers, exact_base, exact_may, exact_letters, exact_words}

-- whether an optional number is the given one
abbrev is_number : Option ℕ → ℕ → Bool
is_number None n = false
is_number (Some m) n = eqb m n

is_number-gives : (o : Option ℕ) (n : ℕ) → is_number o n ≡ true → o ≡ Some n
is_number-gives None n h = absurd (false≢true h)
is_number-gives (Some m) n h = ap Some (eqb-true m n h)

is_number-from : (o : Option ℕ) (n : ℕ) → o ≡ Some n → is_number o n ≡ true
is_number-from o n h = ap (λ p. is_number p n) h ∙ eq-eqb n n refl

module _ (before after : Board) (old new : Dictionary) (same : ℕ → Option ℕ) where
  -- a marked choice matches one with the same word
  abbrev HasMatch : (ℕ → ℕ → Bool) → ℕ → ℕ → Type 0
  HasMatch marks light choice = (other : ℕ) × (same light ≡ Some other) × (marks other choice ≡ true) × (choice_at before old other choice ≡ choice_at after new light choice)

  pub was-gives : (marks : ℕ → ℕ → Bool) (light choice : ℕ) → was before after old new same marks light choice ≡ true → HasMatch marks light choice
  was-gives marks light choice h = split (same light) refl h where
    split : (o : Option ℕ) → same light ≡ o → was_at before after old new same marks light choice o ≡ true → HasMatch marks light choice
    split None at g = absurd (false≢true g)
    split (Some other) at g =
        let both = and_parts (marks other choice) (bytes_eq (choice_at before old other choice) (choice_at after new light choice)) g in
        (other, at, both.0, (bytes_eq-Decides (choice_at before old other choice) (choice_at after new light choice)).0 both.1)

  pub was-from : (marks : ℕ → ℕ → Bool) (light choice other : ℕ) → same light ≡ Some other → marks other choice ≡ true → choice_at before old other choice ≡ choice_at after new light choice → was before after old new same marks light choice ≡ true
  was-from marks light choice other at marked word =
      ap (was_at before after old new same marks light choice) at
      ∙ and_from _ _ marked ((bytes_eq-Decides (choice_at before old other choice) (choice_at after new light choice)).1 word)

  module _ (matching : IsMatching before after same) (words letters words' letters' : ℕ → ℕ → Bool) (exact : IsExact before old words letters)
      (revived : IsRevived before after old new same words letters words' letters') (family : Family) (supported : IsSupported after new family) where
    -- the words and letters of the family that are missing in the net
    abbrev missing_word : ℕ → ℕ → Bool
    missing_word light choice = is_base_at after new light choice && (family.words light (choice_at after new light choice) && not (words' light choice))

    abbrev missing_letter : ℕ → ℕ → Bool
    missing_letter cell letter = family.letters cell letter && not (letters' cell letter)

    -- the missing words of the light that matches one before
    abbrev missing_of : ℕ → ℕ → ℕ → Bool
    missing_of other choice light = is_number (same light) other && missing_word light choice

    -- the words and letters from before, joined with the missing ones
    abbrev joined_words : ℕ → ℕ → Bool
    joined_words other choice = (ltb other (length before.lights) && words other choice) || any_below (missing_of other choice) (length after.lights)

    abbrev joined_letters : ℕ → ℕ → Bool
    joined_letters cell letter = letters cell letter || missing_letter cell letter

    abbrev IsMissing : ℕ → ℕ → Type 0
    IsMissing light choice = IsTrue (is_base_at after new light choice) × IsTrue (family.words light (choice_at after new light choice)) × (words' light choice ≡ false)

    missing-parts : (light choice : ℕ) → missing_word light choice ≡ true → IsMissing light choice
    missing-parts light choice h =
        let parts = and_parts (is_base_at after new light choice) (family.words light (choice_at after new light choice) && not (words' light choice)) h in
        let rest = and_parts (family.words light (choice_at after new light choice)) (not (words' light choice)) parts.1 in
        (parts.0, rest.0, not-true _ rest.1)

    -- a joined word of a light before is that of a light after
    abbrev IsMissingOf : ℕ → ℕ → ℕ → Type 0
    IsMissingOf other choice light = (light < length after.lights) × (same light ≡ Some other) × IsMissing light choice

    missing_of-parts : (other choice : ℕ) → any_below (missing_of other choice) (length after.lights) ≡ true → (light : ℕ) × IsMissingOf other choice light
    missing_of-parts other choice h =
        let found = any_below-gives (missing_of other choice) (length after.lights) h in
        let both = and_parts (is_number (same found.0) other) (missing_word found.0 choice) found.2 in
        (found.0, (found.1, is_number-gives (same found.0) other both.0, missing-parts found.0 choice both.1))

    joined_old : (other choice : ℕ) → other < length before.lights → words other choice ≡ true → joined_words other choice ≡ true
    joined_old other choice in_board h = or_left _ (any_below (missing_of other choice) (length after.lights)) (and_from _ _ (lt-ltb other (length before.lights) in_board) h)

    joined_missing : (light choice other : ℕ) → IsMissingOf other choice light → joined_words other choice ≡ true
    joined_missing light choice other (in_board, at, (base, member, absent)) =
        or_right (ltb other (length before.lights) && words other choice) _
        (any_below-from (missing_of other choice) (length after.lights) light in_board
        (and_from (is_number (same light) other) (missing_word light choice) (is_number-from (same light) other at)
        (and_from (is_base_at after new light choice) _ base (and_from (family.words light (choice_at after new light choice)) _ member (not_from_false _ absent)))))

    joined-cases : (other choice : ℕ) → joined_words other choice ≡ true → ((other < length before.lights) × IsTrue (words other choice)) ⊎ ((light : ℕ) × IsMissingOf other choice light)
    joined-cases other choice h = elim (or_cases (ltb other (length before.lights) && words other choice) (any_below (missing_of other choice) (length after.lights)) h) [
      | inl stood ↦ let both = and_parts (ltb other (length before.lights)) (words other choice) stood in inl (ltb-true other (length before.lights) both.0, both.1)
      | inr missed ↦ inr (missing_of-parts other choice missed)
    ]

    -- a missing word was a base word
    missing_was_base : (light choice other : ℕ) → IsMissingOf other choice light → IsTrue (is_base_at before old other choice) × (choice_at before old other choice ≡ choice_at after new light choice)
    missing_was_base light choice other (in_board, at, (base, member, absent)) = elim (cases_Bool (was before after old new same (is_base_at before old) light choice)) [
      | inl had ↦
          let found = was-gives (is_base_at before old) light choice had in
          let is : found.0 ≡ other = cc in
          (subst (λ o. IsTrue (is_base_at before old o choice)) is found.2, ap (λ o. choice_at before old o choice) (sym is) ∙ found.3)
      | inr none ↦ absurd (both_ways (words' light choice) absent ((revived.lights light in_board).words_come choice base (λ had. both_ways _ none had)))
    ]

    -- each letter of a missing word was there before or is missing
    missing_has_letters : (light choice : ℕ) → light < length after.lights → IsMissing light choice → HasLetters joined_letters (light_at after light) (choice_at after new light choice)
    missing_has_letters light choice in_board (base, member, absent) k below =
        let cell = slice_index (light_at after light) k in
        let letter = slice_index (choice_at after new light choice) k in
        let has = supported.words_have_letters light (choice_at after new light choice) member k below in
        elim (cases_Bool (letters cell letter)) [
          | inl stood ↦ or_left _ (missing_letter cell letter) stood
          | inr not_stood ↦ elim (cases_Bool (letters' cell letter)) [
            | inl stands ↦ absurd (both_ways (words' light choice) absent ((revived.lights light in_board).words_follow choice k base below stands (λ h. both_ways _ not_stood h)))
            | inr falls ↦ or_right (letters cell letter) _ (and_from _ _ has (not_from_false _ falls))
          ]
        ]

    -- a word of the family with a missing letter is missing
    word_is_missing : (light choice k other : ℕ) → light < length after.lights → same light ≡ Some other → k < length (light_at after light)
        → IsTrue (is_base_at after new light choice) → IsTrue (family.words light (choice_at after new light choice))
        → letters' (slice_index (light_at after light) k) (slice_index (choice_at after new light choice) k) ≡ false
        → words' light choice ≡ false
    word_is_missing light choice k other in_board at below base member absent = elim (cases_Bool (words' light choice)) [
      | inr falls ↦ falls
      | inl stands ↦
          let cell = slice_index (light_at after light) k in
          let letter = slice_index (choice_at after new light choice) k in
          let may = supported.letters_agree cell letter (supported.words_have_letters light (choice_at after new light choice) member k below) in
          elim (cases_Bool (was before after old new same words light choice)) [
            | inl stood ↦
                let found = was-gives words light choice stood in
                let cells = matching.cells light found.0 in_board found.1 in
                let in_before = matching.lights light found.0 in_board found.1 in
                let has : HasLetters letters (light_at before found.0) (choice_at before old found.0 choice) = exact_letters before old words letters exact found.0 choice in_before found.2 in
                let has_after : HasLetters letters (light_at after light) (choice_at after new light choice) = subst (HasLetters letters (light_at after light)) found.3 (subst (λ cs. HasLetters letters cs (choice_at before old found.0 choice)) (sym cells) has) in
                absurd (both_ways _ absent (revived.cells.letters_stay cell letter may (has_after k below)))
            | inr new_word ↦ absurd (both_ways _ absent ((revived.lights light in_board).letters_follow choice k base below stands (λ had. both_ways _ new_word had) may))
          ]
    ]

    -- no light before with a missing letter was removed
    light_stays : (other k letter : ℕ) → other < length before.lights → k < length (light_at before other)
        → IsTrue (may_stand after (slice_index (light_at before other) k) letter) → letters' (slice_index (light_at before other) k) letter ≡ false
        → StandsOn after same other
    light_stays other k letter in_board below may absent = elim (cases_Bool (any_below (λ light. is_number (same light) other) (length after.lights))) [
      | inl some ↦
          let found = any_below-gives (λ light. is_number (same light) other) (length after.lights) some in
          (found.0, found.1, is_number-gives (same found.0) other found.2)
      | inr none ↦ absurd (both_ways _ absent (revived.cells.letters_freed other k letter in_board
          (λ on. both_ways _ none (any_below-from (λ light. is_number (same light) other) (length after.lights) on.0 on.1 (is_number-from (same on.0) other on.2)))
          below may))
    ]

    -- a missing letter is that of a missing word in the matching light
    joined_word : (other k letter : ℕ) → k < length (light_at before other) → IsTrue (family.letters (slice_index (light_at before other) k) letter) → letters' (slice_index (light_at before other) k) letter ≡ false
        → (light : ℕ) → light < length after.lights → same light ≡ Some other
        → (choice : ℕ) × IsTrue (joined_words other choice) × (slice_index (choice_at before old other choice) k ≡ letter)
    joined_word other k letter below member absent light in_after at =
        let cells = matching.cells light other in_after at in
        let below_after : k < length (light_at after light) = subst (λ cs. k < length cs) (sym cells) below in
        let cell = slice_index (light_at before other) k in
        let same_cell : slice_index (light_at after light) k ≡ cell = ap (λ cs. get_or cs k 0) cells in
        let word = supported.letters_have_words cell letter member light k in_after below_after same_cell in
        let base : Contains (base_words after new (light_at after light)) word.0 = subst (λ ws. Contains ws word.0) (base_words_here after new light in_after) (supported.words_are_base light word.0 word.1) in
        let number = number_of_base after new (light_at after light) word.0 base in
        let in_family : IsTrue (family.words light (choice_at after new light number.0)) = subst (λ w. IsTrue (family.words light w)) (sym number.2) word.1 in
        let letter_is : slice_index (choice_at after new light number.0) k ≡ letter = ap (λ w. get_or w k 0) number.2 ∙ word.2 in
        let absent_here : letters' (slice_index (light_at after light) k) (slice_index (choice_at after new light number.0) k) ≡ false = ap (λ c. letters' c (slice_index (choice_at after new light number.0) k)) same_cell ∙ ap (letters' cell) letter_is ∙ absent in
        let falls = word_is_missing light number.0 k other in_after at below_after number.1 in_family absent_here in
        let missing : IsMissingOf other number.0 light = (in_after, at, (number.1, in_family, falls)) in
        (number.0, joined_missing light number.0 other missing, ap (λ w. get_or w k 0) (missing_was_base light number.0 other missing).1 ∙ letter_is)

    -- the joined words and letters support one another before the edit
    joined_supports : SupportsItself before old joined_words joined_letters
    joined_supports other in_board = record {
      words = λ choice stands k below. elim (joined-cases other choice stands) [
        | inl stood ↦ or_left _ (missing_letter _ _) (exact_letters before old words letters exact other choice stood.0 stood.1 k below)
        | inr (light, missing) ↦
            let word = (missing_was_base light choice other missing).1 in
            let has : HasLetters joined_letters (light_at after light) (choice_at after new light choice) = missing_has_letters light choice missing.0 missing.2 in
            let has_before : HasLetters joined_letters (light_at before other) (choice_at before old other choice) = subst (HasLetters joined_letters (light_at before other)) (sym word) (subst (λ cs. HasLetters joined_letters cs (choice_at after new light choice)) (matching.cells light other missing.0 missing.1) has) in
            has_before k below
      ];
      letters = λ k below letter stands. elim (or_cases (letters (slice_index (light_at before other) k) letter) (missing_letter (slice_index (light_at before other) k) letter) stands) [
        | inl stood ↦
            let found = exact_words before old words letters exact other k letter in_board below stood in
            (found.0, joined_old other found.0 in_board found.1, found.2)
        | inr missed ↦
            let cell = slice_index (light_at before other) k in
            let parts = and_parts (family.letters cell letter) (not (letters' cell letter)) missed in
            let absent = not-true _ parts.1 in
            let on = light_stays other k letter in_board below (supported.letters_agree cell letter parts.0) absent in
            joined_word other k letter below parts.0 absent on.0 on.1 on.2
      ];
    }

    joined_within : IsWithinBase before old joined_words joined_letters
    joined_within = record {
      lights = λ other choice stands. elim (joined-cases other choice stands) [
        | inl stood ↦ stood.0
        | inr (light, missing) ↦ matching.lights light other missing.0 missing.1
      ];
      words = λ other choice stands. elim (joined-cases other choice stands) [
        | inl stood ↦ exact_base before old words letters exact other choice stood.0 stood.1
        | inr (light, missing) ↦ (missing_was_base light choice other missing).0
      ];
      letters = λ cell letter stands. elim (or_cases (letters cell letter) (missing_letter cell letter) stands) [
        | inl stood ↦ exact_may before old words letters exact cell letter stood
        | inr missed ↦
            let parts = and_parts (family.letters cell letter) (not (letters' cell letter)) missed in
            elim (cases_Bool (may_stand before cell letter)) [
              | inl might ↦ might
              | inr might_not ↦ absurd (both_ways _ (not-true _ parts.1) (revived.cells.letters_come cell letter (supported.letters_agree cell letter parts.0) (λ h. both_ways _ might_not h)))
            ]
      ];
    }

    joined_covers : CoversSupported before old joined_words joined_letters
    joined_covers other_family other_supported =
        let covered = exact_covers before old words letters exact other_family other_supported in
        record {
          words = λ other choice in_board base member. joined_old other choice in_board (covered.words other choice in_board base member);
          letters = λ cell letter member. or_left _ (missing_letter cell letter) (covered.letters cell letter member);
        }

    joined_exact : IsExact before old joined_words joined_letters
    joined_exact = exact_when_none_unsupported before old joined_words joined_letters joined_covers joined_within joined_supports

    revival_covers_family : Covers after new words' letters' family
    revival_covers_family = record {
      words = λ light choice in_board base member. elim (cases_Bool (words' light choice)) [
        | inl stands ↦ stands
        | inr falls ↦ elim (cases_Bool (was before after old new same (is_base_at before old) light choice)) [
          | inr none ↦ (revived.lights light in_board).words_come choice base (λ had. both_ways _ none had)
          | inl had ↦
              let found = was-gives (is_base_at before old) light choice had in
              let in_before = matching.lights light found.0 in_board found.1 in
              let joined = joined_missing light choice found.0 (in_board, found.1, (base, member, falls)) in
              let stood : IsTrue (words found.0 choice) = (exact.words found.0 choice in_before).1 ((joined_exact.words found.0 choice in_before).0 joined) in
              (revived.lights light in_board).words_stay choice base (was-from words light choice found.0 found.1 stood found.3)
        ]
      ];
      letters = λ cell letter member. elim (cases_Bool (letters' cell letter)) [
        | inl stands ↦ stands
        | inr falls ↦
            let joined : IsTrue (joined_letters cell letter) = or_right (letters cell letter) _ (and_from _ _ member (not_from_false _ falls)) in
            let stood : IsTrue (letters cell letter) = (exact.letters cell letter).1 ((joined_exact.letters cell letter).0 joined) in
            revived.cells.letters_stay cell letter (supported.letters_agree cell letter member) stood
      ];
    }

-- after a revival every supported family is covered
pub revival_covers : (before after : Board) (old new : Dictionary) (same : ℕ → Option ℕ) (words letters words' letters' : ℕ → ℕ → Bool)
    → IsMatching before after same → IsExact before old words letters → IsRevived before after old new same words letters words' letters' → CoversSupported after new words' letters'
revival_covers before after old new same words letters words' letters' matching exact revived family supported =
    revival_covers_family before after old new same matching words letters words' letters' exact revived family supported
