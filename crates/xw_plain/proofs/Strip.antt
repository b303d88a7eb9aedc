-- A word or letter without support is in no supported family, so every such family stays covered
-- when it is removed.
use Rattle.std.proofs.Common.{◌≡◌, ℕ, ◌+◌, ◌<◌, ◌≤◌, Bool, true, false, cond, ◌&&◌, ◌||◌, List, [], length, get_or, set, refl, sym, ◌∙◌, ap, subst, arith, inl, inr}
use Rattle.std.specs.Prelude.{IsTrue, Contains, slice_index, ◌↔◌}
use Rattle.std.proofs.lemmas.Bool.{cases_eq, true≢false, and_parts, and_from}
use Rattle.std.proofs.lemmas.List.{get_or-set_same, get_or-set_other, length-set, set-get_or}
use Rattle.xw_letters.specs.LetterSet.{has}
use Rattle.xw_feas.specs.Flags.{standing_count, flag_at, set_has}
use Rattle.xw_feas.specs.Board.{Board, light_at}
use Rattle.xw_words.specs.Dictionary.{Dictionary}
use Rattle.xw_feas.specs.Feasible.{base_words}
use Rattle.xw_feas.specs.Choices.{choices, choice_at, HasLetters, CoversSupported, SupportsLight}
use Rattle.xw_feas.specs.Standing.{HasWordWith, KeepsLettersBelow, StripsUnsupported}
use Rattle.xw_plain.proofs.FlagsLemmas.{standing_counts-set, set_sum-set}
use Rattle.xw_feas.proofs.Support.{number_of_base, base_words_here}

-- words with a letter that is not set can be removed
pub covers_without_words : (board : Board) (dictionary : Dictionary) (before after letter_stands : ℕ → ℕ → Bool) → CoversSupported board dictionary before letter_stands → ((light choice : ℕ) → light < length board.lights → IsTrue (before light choice) → HasLetters letter_stands (light_at board light) (choice_at board dictionary light choice) → IsTrue (after light choice)) → CoversSupported board dictionary after letter_stands
covers_without_words board dictionary before after letter_stands covers kept family supported = record {
  words = λ light choice in_board base member. kept light choice in_board ((covers family supported).words light choice in_board base member) (λ k below.
      (covers family supported).letters _ _ (supported.words_have_letters light (choice_at board dictionary light choice) member k below));
  letters = (covers family supported).letters;
}

-- letters that some light through the cell has no word for can be removed
pub covers_without_letters : (board : Board) (dictionary : Dictionary) (word_stands before after : ℕ → ℕ → Bool) → CoversSupported board dictionary word_stands before → ((cell letter : ℕ) → IsTrue (before cell letter) → ((light k : ℕ) → light < length board.lights → k < length (light_at board light) → slice_index (light_at board light) k ≡ cell → (choice : ℕ) × IsTrue (word_stands light choice) × (slice_index (choice_at board dictionary light choice) k ≡ letter)) → IsTrue (after cell letter)) → CoversSupported board dictionary word_stands after
covers_without_letters board dictionary word_stands before after covers kept family supported = record {
  words = (covers family supported).words;
  letters = λ cell letter member. kept cell letter ((covers family supported).letters cell letter member) (λ light k in_board below at.
      let found = supported.letters_have_words cell letter member light k in_board below at in
      let base : Contains (base_words board dictionary (light_at board light)) found.0 = subst (λ ws. Contains ws found.0) (base_words_here board dictionary light in_board) (supported.words_are_base light found.0 found.1) in
      let number = number_of_base board dictionary (light_at board light) found.0 base in
      let stands : IsTrue (word_stands light number.0) = (covers family supported).words light number.0 in_board number.1 (subst (λ w. IsTrue (family.words light w)) (sym number.2) found.1) in
      (number.0, stands, ap (λ w. get_or w k 0) number.2 ∙ found.2));
}

-- a flag of rows with one row replaced
pub flag_at-set_same : (rows : List (List Bool)) (k index : ℕ) (row : List Bool) → k < length rows → flag_at (set rows k row) k index ≡ get_or row index false
flag_at-set_same rows k index row below = ap (λ r. get_or r index false) (get_or-set_same rows k row [] below)

pub flag_at-set_other : (rows : List (List Bool)) (k other index : ℕ) (row : List Bool) → (other ≡ k → ⊥) → flag_at (set rows k row) other index ≡ flag_at rows other index
flag_at-set_other rows k other index row apart = ap (λ r. get_or r index false) (get_or-set_other rows k other row [] apart)

pub StripsUnsupported-start : (board : Board) (dictionary : Dictionary) (words : List (List Bool)) (letters : List ℕ) → StripsUnsupported board dictionary words letters words letters false
StripsUnsupported-start board dictionary words letters = record {
  lights = refl;
  choices = λ light. refl;
  cells = refl;
  covers = λ h. h;
  fewer_words = λ _ _ h. h;
  fewer_letters = λ _ _ h. h;
  fewer = omega arith;
  same_words = λ e. refl;
  same_letters = λ e. refl;
}

pub or_false : (x y : Bool) → (x || y) ≡ false → (x ≡ false) × (y ≡ false)
or_false true y h = absurd (true≢false h)
or_false false y h = (refl, h)

one_for_or : (x y : Bool) → cond {A = ℕ} (x || y) 1 0 ≤ cond {A = ℕ} x 1 0 + cond {A = ℕ} y 1 0
one_for_or true true = omega arith
one_for_or true false = omega arith
one_for_or false y = omega arith

pub StripsUnsupported-then : (board : Board) (dictionary : Dictionary) (words : List (List Bool)) (letters : List ℕ) (words' : List (List Bool)) (letters' : List ℕ) (words'' : List (List Bool)) (letters'' : List ℕ) (first second : Bool) → StripsUnsupported board dictionary words letters words' letters' first → StripsUnsupported board dictionary words' letters' words'' letters'' second → StripsUnsupported board dictionary words letters words'' letters'' (first || second)
StripsUnsupported-then board dictionary words letters words' letters' words'' letters'' first second a b = record {
  lights = b.lights ∙ a.lights;
  choices = λ light. b.choices light ∙ a.choices light;
  cells = b.cells ∙ a.cells;
  covers = λ h. b.covers (a.covers h);
  fewer_words = λ light choice h. a.fewer_words light choice (b.fewer_words light choice h);
  fewer_letters = λ cell letter h. a.fewer_letters cell letter (b.fewer_letters cell letter h);
  fewer = omega (arith, a.fewer, b.fewer, one_for_or first second);
  same_words = λ e. let both = or_false first second e in b.same_words both.1 ∙ a.same_words both.0;
  same_letters = λ e. let both = or_false first second e in b.same_letters both.1 ∙ a.same_letters both.0;
}

-- the words of a light with a letter that is not set are removed
pub StripsUnsupported-words : (board : Board) (dictionary : Dictionary) (words : List (List Bool)) (letters : List ℕ) (light : ℕ) (row : List Bool) (removed : Bool)
    → light < length words → length row ≡ length (get_or words light [])
    → ((choice : ℕ) → IsTrue (get_or row choice false) ↔ (IsTrue (get_or (get_or words light []) choice false) × HasLetters (set_has letters) (light_at board light) (choice_at board dictionary light choice)))
    → standing_count row + cond removed 1 0 ≤ standing_count (get_or words light [])
    → (removed ≡ false → row ≡ get_or words light [])
    → StripsUnsupported board dictionary words letters (set words light row) letters removed
StripsUnsupported-words board dictionary words letters light row removed below long kept fewer same = record {
  lights = length-set words light row;
  choices = λ other. elim (cases_eq other light) [
    | inl e ↦ rw e (ap length (get_or-set_same words light row [] below) ∙ long)
    | inr apart ↦ ap length (get_or-set_other words light other row [] apart)
  ];
  cells = refl;
  covers = λ h. covers_without_words board dictionary (flag_at words) (flag_at (set words light row)) (set_has letters) h (λ other choice in_board stands has. elim (cases_eq other light) [
    | inl e ↦
        let At : ℕ → Type 0 = λ o. IsTrue (flag_at words o choice) → HasLetters (set_has letters) (light_at board o) (choice_at board dictionary o choice) → IsTrue (flag_at (set words light row) o choice) in
        subst At (sym e) (λ was letters_stand. flag_at-set_same words light choice row below ∙ (kept choice).1 (was, letters_stand)) stands has
    | inr apart ↦ flag_at-set_other words light other choice row apart ∙ stands
  ]);
  fewer_words = λ other choice h. elim (cases_eq other light) [
    | inl e ↦
        let At : ℕ → Type 0 = λ o. IsTrue (flag_at (set words light row) o choice) → IsTrue (flag_at words o choice) in
        subst At (sym e) (λ is. ((kept choice).0 (sym (flag_at-set_same words light choice row below) ∙ is)).0) h
    | inr apart ↦ sym (flag_at-set_other words light other choice row apart) ∙ h
  ];
  fewer_letters = λ _ _ h. h;
  fewer = omega (arith, standing_counts-set words light row below, fewer);
  same_words = λ e. rw (same e) (set-get_or words light []);
  same_letters = λ e. refl;
}

-- the letters that no word of a light has are removed
pub StripsUnsupported-letters : (board : Board) (dictionary : Dictionary) (words : List (List Bool)) (letters letters' : List ℕ) (light : ℕ) (removed : Bool)
    → light < length board.lights
    → KeepsLettersBelow (get_or words light []) (choices board dictionary (light_at board light)) (light_at board light) letters letters' removed (length (light_at board light))
    → StripsUnsupported board dictionary words letters words letters' removed
StripsUnsupported-letters board dictionary words letters letters' light removed in_board kept = record {
  lights = refl;
  choices = λ other. refl;
  cells = kept.long;
  covers = λ h. covers_without_letters board dictionary (flag_at words) (set_has letters) (set_has letters') h (λ cell letter stands has. kept.kept cell letter stands (λ k below at. has light k in_board below at));
  fewer_words = λ _ _ h. h;
  fewer_letters = kept.only;
  fewer = omega (arith, kept.fewer);
  same_words = λ e. refl;
  same_letters = kept.same;
}

-- a set among sets with one set replaced
set_has-set_same : (sets : List ℕ) (k letter put : ℕ) → k < length sets → set_has (set sets k put) k letter ≡ has put letter
set_has-set_same sets k letter put below = ap (λ r. has r letter) (get_or-set_same sets k put 0 below)

set_has-set_other : (sets : List ℕ) (k other letter put : ℕ) → (other ≡ k → ⊥) → set_has (set sets k put) other letter ≡ set_has sets other letter
set_has-set_other sets k other letter put apart = ap (λ r. has r letter) (get_or-set_other sets k other put 0 apart)

pub KeepsLettersBelow-start : (words : List Bool) (choices : List (List ℕ)) (cells : List ℕ) (before : List ℕ) → KeepsLettersBelow words choices cells before before false 0
KeepsLettersBelow-start words choices cells before = record {
  long = refl;
  kept = λ _ _ h _. h;
  only = λ _ _ h. h;
  supported = λ k below. absurd (omega arith);
  fewer = omega arith;
  same = λ e. refl;
}

-- the set of one more cell loses the letters that no word has there
pub KeepsLettersBelow-more : (words : List Bool) (choices : List (List ℕ)) (cells : List ℕ) (before now : List ℕ) (removed : Bool) (n cell rest seen : ℕ) (more : Bool)
    → KeepsLettersBelow words choices cells before now removed n
    → cell < length now
    → get_or cells n 0 ≡ cell
    → ((letter : ℕ) → has rest letter ≡ (has (get_or now cell 0) letter && has seen letter))
    → ((choice : ℕ) → IsTrue (get_or words choice false) → IsTrue (has seen (get_or (get_or choices choice []) n 0)))
    → ((letter : ℕ) → IsTrue (has seen letter) → HasWordWith words choices n letter)
    → rest + cond {A = ℕ} more 1 0 ≤ get_or now cell 0
    → (more ≡ false → rest ≡ get_or now cell 0)
    → KeepsLettersBelow words choices cells before (set now cell rest) (removed || more) (n + 1)
KeepsLettersBelow-more words choices cells before now removed n cell rest seen more kept below at common each no_other fewer same = record {
  long = length-set now cell rest ∙ kept.long;
  kept = λ c letter stood has. keep c letter (kept.kept c letter stood (λ k under here. has k (omega arith) here)) (λ here. has n (omega arith) (at ∙ sym here));
  only = λ c letter h. kept.only c letter (fall c letter h);
  supported = λ k under letter h. elim (cases_eq k n) [
    | inl e ↦
        let At : ℕ → Type 0 = λ m. IsTrue (set_has (set now cell rest) (get_or cells m 0) letter) → HasWordWith words choices m letter in
        subst At (sym e) (λ is. no_other letter ((in_both letter (sym (set_has-set_same now cell letter rest below) ∙ ap (λ c. set_has (set now cell rest) c letter) (sym at) ∙ is)).1)) h
    | inr apart ↦ kept.supported k (omega arith) letter (fall (get_or cells k 0) letter h)
  ];
  fewer = omega (arith, set_sum-set now cell rest below, fewer, kept.fewer, one_for_or removed more);
  same = λ e. let both = or_false removed more e in rw (same both.1) (set-get_or now cell 0 ∙ kept.same both.0);
} where
  in_both : (letter : ℕ) → IsTrue (has rest letter) → (has (get_or now cell 0) letter ≡ true) × (has seen letter ≡ true)
  in_both letter h = and_parts (has (get_or now cell 0) letter) (has seen letter) (sym (common letter) ∙ h)

  fall : (c letter : ℕ) → IsTrue (set_has (set now cell rest) c letter) → IsTrue (set_has now c letter)
  fall c letter h = elim (cases_eq c cell) [
    | inl e ↦
        let At : ℕ → Type 0 = λ o. IsTrue (set_has (set now cell rest) o letter) → IsTrue (set_has now o letter) in
        subst At (sym e) (λ is. (in_both letter (sym (set_has-set_same now cell letter rest below) ∙ is)).0) h
    | inr apart ↦ sym (set_has-set_other now cell c letter rest apart) ∙ h
  ]

  keep : (c letter : ℕ) → IsTrue (set_has now c letter) → (c ≡ cell → HasWordWith words choices n letter) → IsTrue (set_has (set now cell rest) c letter)
  keep c letter stands has_word = elim (cases_eq c cell) [
    | inl e ↦
        let word = has_word e in
        let is_seen : has seen letter ≡ true = ap (λ l. has seen l) (sym word.2) ∙ each word.0 word.1 in
        let stood : has (get_or now cell 0) letter ≡ true = ap (λ o. set_has now o letter) (sym e) ∙ stands in
        ap (λ o. set_has (set now cell rest) o letter) e ∙ set_has-set_same now cell letter rest below ∙ common letter ∙ and_from _ _ stood is_seen
    | inr apart ↦ set_has-set_other now cell c letter rest apart ∙ stands
  ]

-- if nothing was removed from a light, the words and letters left support it
pub SupportsLight-stripped : (board : Board) (dictionary : Dictionary) (words : List (List Bool)) (letters letters' : List ℕ) (light : ℕ) (before row : List Bool) (second : Bool)
    → light < length words
    → ((choice : ℕ) → IsTrue (get_or row choice false) ↔ (IsTrue (get_or before choice false) × HasLetters (set_has letters) (light_at board light) (choice_at board dictionary light choice)))
    → KeepsLettersBelow row (choices board dictionary (light_at board light)) (light_at board light) letters letters' second (length (light_at board light))
    → second ≡ false
    → SupportsLight board dictionary (flag_at (set words light row)) (set_has letters') light
SupportsLight-stripped board dictionary words letters letters' light before row second below kept stays none = record {
  words = λ choice stands k under.
      rw (stays.same none) (((kept choice).0 (sym (flag_at-set_same words light choice row below) ∙ stands)).1 k under);
  letters = λ k under letter stands.
      let word = stays.supported k under letter stands in
      (word.0, flag_at-set_same words light word.0 row below ∙ word.1, word.2);
}
