-- A family that a board with more entries supports is supported without them too, if each light that the entries complete spells
-- a word that was feasible.
use Rattle.std.proofs.Common.{◌≡◌, ℕ, zero, suc, ◌<◌, Bool, true, false, List, [], ◌∷◌, map, length, get_or, refl, sym, ap, ◌∙◌, subst, inl, inr, arith}
use Rattle.std.specs.Prelude.{Option, Contains}
use Rattle.std.proofs.lemmas.Bool.{cases_Bool, cases_lt, both_ways}
use Rattle.std.proofs.lemmas.List.{get_or_append_left, get_or_past, length-map}
use Rattle.xw_words.specs.Dictionary.{Dictionary, Entry, known_words}
use Rattle.xw_feas.specs.Board.{Board, light_at, is_wholly_entered, spelled}
use Rattle.xw_feas.specs.Feasible.{Family, IsSupported, base_words, base_words_at}
use Rattle.xw_feas.specs.Choices.{base_flags, choice_at, IsExact}
use Rattle.xw_feas.proofs.ChoicesLemmas.{base_flag_entered, length-base_flags}
use Rattle.xw_feas.proofs.Support.{number_of_base, base_words_here, base_is_contained, set_flag_within}
use Rattle.xw_net.specs.Marks.{known}
use Rattle.xw_net.proofs.Edits.ExactFamilies.{exact_base}
use Rattle.xw_net.proofs.Levels.EnteredBoards.{with_entries, KeepsEntries, may_stood, known_base, spelled_stays}

module _ (before : Board) (entries : List (Option ℕ)) (dictionary : Dictionary) where
  -- a known word at a number is the same on both boards
  pub known_choice : (light choice : ℕ) → choice < known before dictionary light → choice_at (with_entries before entries) dictionary light choice ≡ choice_at before dictionary light choice
  known_choice light choice below =
      let words = known_words dictionary (length (light_at before light)) in
      let spellings = map (λ (word : Entry). word.word) words in
      let inside : choice < length spellings = omega (arith, below, length-map words (λ (word : Entry). word.word)) in
      get_or_append_left spellings (spelled (with_entries before entries) (light_at before light) ∷ []) [] choice inside
      ∙ sym (get_or_append_left spellings (spelled before (light_at before light) ∷ []) [] choice inside)

  -- a word in the net is what the entries of the light spell
  abbrev pub IsSpelledBy : (ℕ → ℕ → Bool) → ℕ → Type 0
  IsSpelledBy words light = (choice : ℕ) × (words light choice ≡ true) × (choice_at before dictionary light choice ≡ spelled (with_entries before entries) (light_at before light))

  -- each light that the entries complete spells a word in the net
  abbrev pub AreSpelled : (ℕ → ℕ → Bool) → Type 0
  AreSpelled words =
      (light : ℕ) → light < length before.lights → is_wholly_entered before (light_at before light) ≡ false → is_wholly_entered (with_entries before entries) (light_at before light) ≡ true
      → IsSpelledBy words light

the_one : (x y : List ℕ) → Contains (x ∷ []) y → x ≡ y
the_one x y (zero, below, at) = at
the_one x y (suc k, below, at) = absurd (omega (arith, below))

-- the base words of a light that is wholly entered
whole_words : (board : Board) (dictionary : Dictionary) (cells : List ℕ) → is_wholly_entered board cells ≡ true → base_words board dictionary cells ≡ spelled board cells ∷ []
whole_words board dictionary cells whole = rw whole refl

module _ (before : Board) (entries : List (Option ℕ)) (kept : KeepsEntries before entries) (dictionary : Dictionary) (words letters : ℕ → ℕ → Bool)
    (exact : IsExact before dictionary words letters) (full : AreSpelled before entries dictionary words) where
  abbrev after : Board
  after = with_entries before entries

  base_before : (light : ℕ) (word : List ℕ) → light < length before.lights → Contains (base_words after dictionary (light_at before light)) word → Contains (base_words before dictionary (light_at before light)) word
  base_before light word below found =
      let cells = light_at before light in
      elim (cases_Bool (is_wholly_entered after cells)) [
        | inl whole ↦
            let is : spelled after cells ≡ word = the_one (spelled after cells) word (subst (λ (words : List (List ℕ)). Contains words word) (whole_words after dictionary cells whole) found) in
            elim (cases_Bool (is_wholly_entered before cells)) [
              | inl was ↦ subst (λ (words : List (List ℕ)). Contains words word) (ap (λ s. s ∷ []) (spelled_stays before entries kept cells was) ∙ sym (whole_words before dictionary cells was))
                  (subst (λ (words : List (List ℕ)). Contains words word) (whole_words after dictionary cells whole) found)
              | inr open_ ↦
                  let by = full light below open_ whole in
                  subst (λ w. Contains (base_words before dictionary cells) w) (by.2 ∙ is) (base_is_contained before dictionary cells by.0 (exact_base before dictionary words letters exact light by.0 below by.1))
            ]
        | inr part ↦
            let number = number_of_base after dictionary cells word found in
            let inside = set_flag_within (base_flags after dictionary cells) number.0 number.1 in
            let listed : number.0 < known before dictionary light = elim (cases_lt number.0 (known before dictionary light)) [
              | inl lt ↦ lt
              | inr past ↦ absurd (both_ways (get_or (base_flags after dictionary cells) number.0 false) (base_flag_entered after dictionary cells number.0 (omega (arith, past, inside, length-base_flags after dictionary cells, length-map (known_words dictionary (length cells)) (λ (word : Entry). word.word))) ∙ part) number.1)
            ] in
            subst (λ w. Contains (base_words before dictionary cells) w) (sym (known_choice before entries dictionary light number.0 listed) ∙ number.2)
            (base_is_contained before dictionary cells number.0 (known_base before entries kept dictionary light number.0 listed number.1))
      ]

  pub supported_before : (family : Family) → IsSupported after dictionary family → IsSupported before dictionary family
  supported_before family supported = record {
    words_are_base = λ light word member.
        let found = supported.words_are_base light word member in
        elim (cases_lt light (length before.lights)) [
          | inl below ↦ subst (λ ws. Contains ws word) (sym (base_words_here before dictionary light below)) (base_before light word below (subst (λ ws. Contains ws word) (base_words_here after dictionary light below) found))
          | inr past ↦ absurd (nothing (base_words_at after dictionary light) word (get_or_past (map (base_words after dictionary) before.lights) light [] (omega (arith, past, length-map before.lights (base_words after dictionary)))) found)
        ];
    words_have_letters = supported.words_have_letters;
    letters_agree = λ cell letter member. may_stood before entries kept cell letter (supported.letters_agree cell letter member);
    letters_have_words = supported.letters_have_words;
  } where
    nothing : (words : List (List ℕ)) (word : List ℕ) → words ≡ [] → Contains words word → ⊥
    nothing words word none found = let below = found.1 in omega (arith, below, ap length none)
