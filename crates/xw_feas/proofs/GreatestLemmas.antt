-- The greatest supported family: it has exactly the feasible words and letters, and it exists.
use Rattle.std.proofs.Common.{◌≡◌, ℕ, zero, suc, ◌<◌, Bool, true, false, not, ◌&&◌, eqb, List, [], ◌++◌, map, length, get_or, refl, sym, ◌∙◌, ap, subst, arith, inl, inr}
use Rattle.std.specs.Prelude.{filter, Contains, bytes_eq}
use Rattle.std.specs.List.{list_any, list_all}
use Rattle.std.proofs.Math.Logic.{∥∥₁_elim}
use Rattle.std.proofs.lemmas.Bool.{and_parts, and_from, cases_lt, both_ways, eqb-true, eq-eqb, not-true}
use Rattle.std.proofs.lemmas.List.{get_or_past, length-map}
use Rattle.std.proofs.lemmas.List.Elements.{Contains-append_left, Contains-append_right, All-contains, filter_passes}
use Rattle.std.proofs.lemmas.Slice.Eq.{bytes_eq-Decides}
use mathlib.Core.Bool.{Bool-set}
use Rattle.xw_words.specs.Dictionary.{Dictionary}
use Rattle.xw_feas.specs.Board.{Board, light_at}
use Rattle.xw_feas.specs.Feasible.{Family, IsSupported, base_words, base_words_at, may_stand}
use Rattle.xw_feas.specs.Greatest.{IsGreatest, IsFeasibleFamily}
use Rattle.xw_feas.proofs.Elements.{contains_mapped, contains_filtered, all_from, all_gives, any_from, any_gives, parts_of, part_picked}
use Rattle.xw_feas.proofs.Support.{any_below, any_below-from, any_below-gives}

pub greatest_is_feasible : (board : Board) (dictionary : Dictionary) (family : Family) → IsGreatest board dictionary family → IsFeasibleFamily board dictionary family
greatest_is_feasible board dictionary family is = record {
  words = λ light word. (
    (λ has. ∣ (family, is.supported, has) ∣₁),
    (λ feasible. ∥∥₁_elim feasible (Bool-set (family.words light word) true) (λ found. (is.covers found.0 found.1).words light word found.2)),
  );
  letters = λ cell letter. (
    (λ has. ∣ (family, is.supported, has) ∣₁),
    (λ feasible. ∥∥₁_elim feasible (Bool-set (family.letters cell letter) true) (λ found. (is.covers found.0 found.1).letters cell letter found.2)),
  );
}

false_when : (b : Bool) → (b ≡ true → ⊥) → not b ≡ true
false_when true never = absurd (never refl)
false_when false never = refl

true_when : (b : Bool) → (not b ≡ true → ⊥) → b ≡ true
true_when true never = refl
true_when false never = absurd (never refl)

-- ---- families that are given by a list of words, each with its light

module _ (board : Board) (dictionary : Dictionary) where
  abbrev lights : ℕ
  lights = length board.lights

  abbrev cell_at : ℕ → ℕ → ℕ
  cell_at light k = get_or (light_at board light) k 0

  abbrev is_word : List (ℕ × List ℕ) → ℕ → List ℕ → Bool
  is_word part light word = list_any (λ placed. eqb placed.0 light && bytes_eq placed.1 word) part

  -- whether some word of the light has the letter at the position
  abbrev has_letter : List (ℕ × List ℕ) → ℕ → ℕ → ℕ → Bool
  has_letter part letter light k = list_any (λ placed. eqb placed.0 light && eqb (get_or placed.1 k 0) letter) part

  -- whether some light through the cell has no word with the letter there
  abbrev lacks_at : List (ℕ × List ℕ) → ℕ → ℕ → ℕ → ℕ → Bool
  lacks_at part cell letter light k = eqb (cell_at light k) cell && not (has_letter part letter light k)

  abbrev lacks : List (ℕ × List ℕ) → ℕ → ℕ → Bool
  lacks part cell letter = any_below (λ light. any_below (lacks_at part cell letter light) (length (light_at board light))) lights

  abbrev is_letter : List (ℕ × List ℕ) → ℕ → ℕ → Bool
  is_letter part cell letter = may_stand board cell letter && not (lacks part cell letter)

  abbrev family_of : List (ℕ × List ℕ) → Family
  family_of part = record { words = is_word part; letters = is_letter part }

  -- whether a word is a base word, and has its letters in the family
  abbrev is_base : ℕ × List ℕ → Bool
  is_base placed = list_any (bytes_eq placed.1) (base_words_at board dictionary placed.0)

  abbrev misses : List (ℕ × List ℕ) → ℕ × List ℕ → ℕ → Bool
  misses part placed k = not (is_letter part (cell_at placed.0 k) (get_or placed.1 k 0))

  abbrev is_held : List (ℕ × List ℕ) → ℕ × List ℕ → Bool
  is_held part placed = is_base placed && not (any_below (misses part placed) (length (light_at board placed.0)))

  abbrev is_supported : List (ℕ × List ℕ) → Bool
  is_supported part = list_all (is_held part) part

  word_from : (part : List (ℕ × List ℕ)) (light : ℕ) (word : List ℕ) → Contains part (light, word) → is_word part light word ≡ true
  word_from part light word there = any_from (λ placed. eqb placed.0 light && bytes_eq placed.1 word) part (light, word) there (and_from _ _ (eq-eqb light light refl) ((bytes_eq-Decides word word).1 refl))

  word_gives : (part : List (ℕ × List ℕ)) (light : ℕ) (word : List ℕ) → is_word part light word ≡ true → Contains part (light, word)
  word_gives part light word h =
      let found = any_gives (λ placed. eqb placed.0 light && bytes_eq placed.1 word) part h in
      let same = and_parts _ _ found.2 in
      subst (Contains part) (ap (λ n. (n, found.0.1)) (eqb-true found.0.0 light same.0) ∙ ap (λ w. (light, w)) ((bytes_eq-Decides found.0.1 word).0 same.1)) found.1

  letter_from : (part : List (ℕ × List ℕ)) (letter light k : ℕ) (word : List ℕ) → Contains part (light, word) → get_or word k 0 ≡ letter → has_letter part letter light k ≡ true
  letter_from part letter light k word there at = any_from (λ placed. eqb placed.0 light && eqb (get_or placed.1 k 0) letter) part (light, word) there (and_from _ _ (eq-eqb light light refl) (eq-eqb _ letter at))

  supported_family : (part : List (ℕ × List ℕ)) → is_supported part ≡ true → IsSupported board dictionary (family_of part)
  supported_family part holds = record {
    words_are_base = λ light word h.
        let found = any_gives (bytes_eq word) (base_words_at board dictionary light) (and_parts _ _ (all_gives (is_held part) part holds (light, word) (word_gives part light word h))).0 in
        subst (Contains (base_words_at board dictionary light)) (sym ((bytes_eq-Decides word found.0).0 found.2)) found.1;
    words_have_letters = λ light word h k below.
        true_when _ (λ missed. both_ways _ (not-true _ (and_parts _ _ (all_gives (is_held part) part holds (light, word) (word_gives part light word h))).1)
        (any_below-from (misses part (light, word)) (length (light_at board light)) k below missed));
    letters_agree = λ cell letter h. (and_parts _ _ h).0;
    letters_have_words = λ cell letter h light k in_board below at.
        let has : has_letter part letter light k ≡ true =
        true_when _ (λ lacked. both_ways _ (not-true _ (and_parts _ _ h).1)
        (any_below-from (λ l. any_below (lacks_at part cell letter l) (length (light_at board l))) lights light in_board
        (any_below-from (lacks_at part cell letter light) (length (light_at board light)) k below (and_from _ _ (eq-eqb _ cell at) lacked)))) in
        let found = any_gives (λ placed. eqb placed.0 light && eqb (get_or placed.1 k 0) letter) part has in
        let same = and_parts _ _ found.2 in
        (found.0.1, word_from part light found.0.1 (subst (λ n. Contains part (n, found.0.1)) (eqb-true found.0.0 light same.0) found.1), eqb-true _ letter same.1);
  }

  -- ---- all base words, each with its light

  abbrev base_below : ℕ → List (ℕ × List ℕ)
  base_below zero = []
  base_below (suc n) = base_below n ++ map (λ word. (n, word)) (base_words_at board dictionary n)

  base_in : (n light : ℕ) (word : List ℕ) → light < n → Contains (base_words_at board dictionary light) word → Contains (base_below n) (light, word)
  base_in zero light word below there = absurd (omega (arith, below))
  base_in (suc n) light word below there = elim (cases_lt light n) [
    | inl before ↦ Contains-append_left (base_below n) (map (λ w. (n, w)) (base_words_at board dictionary n)) (light, word) (base_in n light word before there)
    | inr past ↦
        let last : light ≡ n = omega (arith, below, past) in
        subst (λ l. Contains (base_below n ++ map (λ w. (n, w)) (base_words_at board dictionary n)) (l, word)) (sym last)
        (Contains-append_right (base_below n) (map (λ w. (n, w)) (base_words_at board dictionary n)) (n, word)
        (contains_mapped (λ w. (n, w)) (base_words_at board dictionary n) word (subst (λ l. Contains (base_words_at board dictionary l) word) last there)))
  ]

  light_of_base : (light : ℕ) (word : List ℕ) → Contains (base_words_at board dictionary light) word → light < lights
  light_of_base light word (k, below, at) = elim (cases_lt light lights) [
    | inl inside ↦ inside
    | inr past ↦
        let none : base_words_at board dictionary light ≡ [] = get_or_past (map (base_words board dictionary) board.lights) light [] (omega (arith, past, length-map board.lights (base_words board dictionary))) in
        absurd (omega (arith, below, ap length none))
  ]

  abbrev all_words : List (ℕ × List ℕ)
  all_words = base_below lights

  -- ---- the words of a supported family

  abbrev part_of : Family → List (ℕ × List ℕ)
  part_of family = filter (λ placed. family.words placed.0 placed.1) all_words

  module _ (family : Family) (supported : IsSupported board dictionary family) where
    in_part : (light : ℕ) (word : List ℕ) → family.words light word ≡ true → Contains (part_of family) (light, word)
    in_part light word h =
        let base = supported.words_are_base light word h in
        contains_filtered (λ placed. family.words placed.0 placed.1) all_words (light, word) (base_in lights light word (light_of_base light word base) base) h

    letter_in_part : (cell letter : ℕ) → family.letters cell letter ≡ true → is_letter (part_of family) cell letter ≡ true
    letter_in_part cell letter h = and_from _ _ (supported.letters_agree cell letter h) (false_when _ (λ lacking.
        let light = any_below-gives (λ l. any_below (lacks_at (part_of family) cell letter l) (length (light_at board l))) lights lacking in
        let k = any_below-gives (lacks_at (part_of family) cell letter light.0) (length (light_at board light.0)) light.2 in
        let parts = and_parts _ _ k.2 in
        let found = supported.letters_have_words cell letter h light.0 k.0 light.1 k.1 (eqb-true _ cell parts.0) in
        both_ways _ (not-true _ parts.1) (letter_from (part_of family) letter light.0 k.0 found.0 (in_part light.0 found.0 found.1) found.2)))

    part_is_supported : is_supported (part_of family) ≡ true
    part_is_supported = all_from (is_held (part_of family)) (part_of family) (λ placed there.
        let has : family.words placed.0 placed.1 ≡ true = All-contains (λ p. family.words p.0 p.1 ≡ true) (part_of family) placed (filter_passes (λ p. family.words p.0 p.1) all_words) there in
        and_from _ _
        (any_from (bytes_eq placed.1) (base_words_at board dictionary placed.0) placed.1 (supported.words_are_base placed.0 placed.1 has) ((bytes_eq-Decides placed.1 placed.1).1 refl))
        (false_when _ (λ missing.
        let k = any_below-gives (misses (part_of family) placed) (length (light_at board placed.0)) missing in
        both_ways _ (not-true _ k.2) (letter_in_part (cell_at placed.0 k.0) (get_or placed.1 k.0 0) (supported.words_have_letters placed.0 placed.1 has k.0 k.1)))))

  -- ---- the union of all supported families

  abbrev greatest : Family
  greatest = record {
    words = λ light word. list_any (λ part. is_supported part && is_word part light word) (parts_of all_words);
    letters = λ cell letter. list_any (λ part. is_supported part && is_letter part cell letter) (parts_of all_words);
  }

  pub greatest_exists : (family : Family) × IsFeasibleFamily board dictionary family
  greatest_exists = (
    greatest,
    record {
      words = λ light word. (
        (λ has.
            let found = any_gives (λ part. is_supported part && is_word part light word) (parts_of all_words) has in
            let parts = and_parts _ _ found.2 in
            ∣ (family_of found.0, supported_family found.0 parts.0, parts.1) ∣₁),
        (λ feasible. ∥∥₁_elim feasible (Bool-set _ true) (λ (family, supported, has).
            any_from (λ part. is_supported part && is_word part light word) (parts_of all_words) (part_of family) (part_picked (λ placed. family.words placed.0 placed.1) all_words)
            (and_from _ _ (part_is_supported family supported) (word_from (part_of family) light word (in_part family supported light word has))))),
      );
      letters = λ cell letter. (
        (λ has.
            let found = any_gives (λ part. is_supported part && is_letter part cell letter) (parts_of all_words) has in
            let parts = and_parts _ _ found.2 in
            ∣ (family_of found.0, supported_family found.0 parts.0, parts.1) ∣₁),
        (λ feasible. ∥∥₁_elim feasible (Bool-set _ true) (λ (family, supported, has).
            any_from (λ part. is_supported part && is_letter part cell letter) (parts_of all_words) (part_of family) (part_picked (λ placed. family.words placed.0 placed.1) all_words)
            (and_from _ _ (part_is_supported family supported) (letter_in_part family supported cell letter has)))),
      );
    },
  )
