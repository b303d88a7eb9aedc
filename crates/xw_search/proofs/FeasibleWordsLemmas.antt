-- The computed feasible words are those of the definition of feasibility.
use Rattle.std.proofs.Common.{◌≡◌, ℕ, zero, suc, ◌<◌, Bool, true, false, not, ◌||◌, List, [], ◌∷◌, map, length, refl, sym, ◌∙◌, ap, subst, arith, inl, inr}
use Rattle.std.specs.Prelude.{filter, Contains, ◌==◌, slice_index, bytes_eq}
use Rattle.std.specs.List.{list_any, list_all}
use Rattle.std.proofs.lemmas.Bool.{and_parts, and_from, false≢true, cases_lt, cases_eq, or_left, or_right, or_cases, eqb-true, eq-eqb, ne_eqb}
use Rattle.std.proofs.lemmas.Slice.Eq.{bytes_eq-Decides}
use Rattle.std.proofs.lemmas.List.{get_or_past, length-map, ext_get_or}
use Rattle.std.proofs.Math.Logic.{∥∥₁_elim}
use mathlib.Core.Bool.{Bool-set}
use Rattle.xw_feas.specs.Board.{Board, light_at}
use Rattle.xw_words.specs.Dictionary.{Dictionary}
use Rattle.xw_feas.specs.Feasible.{Family, IsSupported, Answers, AreAnswers, answers_word, answers_letter, base_words, base_words_at, may_stand}
use Rattle.xw_letters.specs.Letter.{alphabet}
use Rattle.xw_search.specs.Position.{Position}
use Rattle.xw_feas.specs.Queries.{words_of}
use Rattle.xw_search.specs.Below.{all_below}
use Rattle.xw_search.specs.FeasibleWords.{Pair, is_pair, has_letter_at, has_words_for, leaves_letter, is_kept, base_pairs, is_family_with, is_feasible_word, feasible_words}
use Rattle.xw_search.proofs.BelowLemmas.{Among, Among-contained, Contains-among, list_any-from, list_any-gives, list_all-from, list_all-at, Among-filter, Among-filtered, Among-append_left, Among-append_right, Among-map, any_part-from, any_part-gives, all_below-from, all_below-at}

same_words : (a b : List ℕ) → bytes_eq a b ≡ true → a ≡ b
same_words a b h = (bytes_eq-Decides a b).0 h

equal_words : (a b : List ℕ) → a ≡ b → bytes_eq a b ≡ true
equal_words a b e = (bytes_eq-Decides a b).1 e

-- the family of some pairs, and of the letters that they leave
abbrev pub family_of : Board → List Pair → Family
family_of board pairs = record { words = λ light word. list_any (is_pair light word) pairs; letters = leaves_letter board pairs }

-- if every pair is kept, the family is supported
pub family_is_supported : (board : Board) (dictionary : Dictionary) (pairs : List Pair) → list_all (is_kept board dictionary pairs) pairs ≡ true → IsSupported board dictionary (family_of board pairs)
family_is_supported board dictionary pairs all = record {
  words_are_base = λ light word h. (kept_pair light word h).0;
  words_have_letters = λ light word h. (kept_pair light word h).1;
  letters_agree = λ cell letter h. (and_parts (may_stand board cell letter) (has_words_for board pairs cell letter) h).0;
  letters_have_words = λ cell letter h light k in_grid below at.
      let each = (and_parts (may_stand board cell letter) (has_words_for board pairs cell letter) h).1 in
      let here = all_below-at (λ pos. not (slice_index (light_at board light) pos == cell) || list_any (has_letter_at light pos letter) pairs) (length (light_at board light)) k below (all_below-at (λ other. all_below (λ pos. not (slice_index (light_at board other) pos == cell) || list_any (has_letter_at other pos letter) pairs) (length (light_at board other))) (length board.lights) light in_grid each) in
      word_with light k letter (elim (or_cases (not (slice_index (light_at board light) k == cell)) (list_any (has_letter_at light k letter) pairs) here) [
        | inl other ↦ absurd (false≢true (sym (ap not (eq-eqb (slice_index (light_at board light) k) cell at)) ∙ other))
        | inr some ↦ some
      ]);
} where
  kept_pair : (light : ℕ) (word : List ℕ) → list_any (is_pair light word) pairs ≡ true → Contains (base_words_at board dictionary light) word × ((k : ℕ) → k < length (light_at board light) → leaves_letter board pairs (slice_index (light_at board light) k) (slice_index word k) ≡ true)
  kept_pair light word h =
      let found = list_any-gives (is_pair light word) pairs h in
      let is = and_parts (found.0.0 == light) (bytes_eq word found.0.1) found.2 in
      let same_light : found.0.0 ≡ light = eqb-true found.0.0 light is.0 in
      let same_word : found.0.1 ≡ word = sym (same_words word found.0.1 is.1) in
      let kept : is_kept board dictionary pairs (light, word) ≡ true = subst (λ l. is_kept board dictionary pairs (l, word) ≡ true) same_light (subst (λ w. is_kept board dictionary pairs (found.0.0, w) ≡ true) same_word (list_all-at (is_kept board dictionary pairs) pairs found.0 found.1 all)) in
      let parts = and_parts (list_any (bytes_eq word) (base_words_at board dictionary light)) (all_below (λ k. leaves_letter board pairs (slice_index (light_at board light) k) (slice_index word k)) (length (light_at board light))) kept in
      let base = list_any-gives (bytes_eq word) (base_words_at board dictionary light) parts.0 in (
        subst (λ w. Contains (base_words_at board dictionary light) w) (sym (same_words word base.0 base.2)) (Contains-among base.0 (base_words_at board dictionary light) base.1),
        λ k below. all_below-at (λ pos. leaves_letter board pairs (slice_index (light_at board light) pos) (slice_index word pos)) (length (light_at board light)) k below parts.1,
      )

  word_with : (light k letter : ℕ) → list_any (has_letter_at light k letter) pairs ≡ true → (word : List ℕ) × (list_any (is_pair light word) pairs ≡ true) × (slice_index word k ≡ letter)
  word_with light k letter h =
      let found = list_any-gives (has_letter_at light k letter) pairs h in
      let is = and_parts (found.0.0 == light) (slice_index found.0.1 k == letter) found.2 in
      (found.0.1, list_any-from (is_pair light found.0.1) pairs found.0 found.1 (and_from _ _ is.0 (equal_words found.0.1 found.0.1 refl)), eqb-true (slice_index found.0.1 k) letter is.1)

-- every base word of a light is among the pairs
base_pairs-among : (board : Board) (dictionary : Dictionary) (n light : ℕ) (word : List ℕ) → light < n → Contains (base_words_at board dictionary light) word → Among {X = Pair} (light, word) (base_pairs board dictionary n)
base_pairs-among board dictionary zero light word below base = absurd (omega arith)
base_pairs-among board dictionary (suc n) light word below base =
    elim (cases_eq light n) [
      | inl e ↦ Among-append_right (light, word) (base_pairs board dictionary n) _ (subst (λ m. Among {X = Pair} (light, word) (map (λ (w : List ℕ). (m, w)) (base_words_at board dictionary m))) e (Among-map (λ (w : List ℕ). (light, w)) word (base_words_at board dictionary light) (Among-contained word (base_words_at board dictionary light) base)))
      | inr ne ↦ Among-append_left (light, word) (base_pairs board dictionary n) _ (base_pairs-among board dictionary n light word (omega arith) base)
    ]

-- only lights of the board have base words
base_in_grid : (board : Board) (dictionary : Dictionary) (light : ℕ) (word : List ℕ) → Contains (base_words_at board dictionary light) word → light < length board.lights
base_in_grid board dictionary light word (k, below, at) =
    elim (cases_lt light (length board.lights)) [
      | inl in_grid ↦ in_grid
      | inr past ↦ absurd (let none : length (base_words_at board dictionary light) ≡ 0 = ap length (get_or_past (map (base_words board dictionary) board.lights) light [] (omega (arith, length-map board.lights (base_words board dictionary)))) in omega arith)
    ]

-- the pairs of a family
abbrev pub pairs_of : Board → Dictionary → Family → List Pair
pairs_of board dictionary family = filter (λ (pair : Pair). family.words pair.0 pair.1) (base_pairs board dictionary (length board.lights))

pair_of_family : (board : Board) (dictionary : Dictionary) (family : Family) → IsSupported board dictionary family → (light : ℕ) (word : List ℕ) → family.words light word ≡ true → Among {X = Pair} (light, word) (pairs_of board dictionary family)
pair_of_family board dictionary family supported light word h =
    let base = supported.words_are_base light word h in
    Among-filter (λ (pair : Pair). family.words pair.0 pair.1) (base_pairs board dictionary (length board.lights)) (light, word) (base_pairs-among board dictionary (length board.lights) light word (base_in_grid board dictionary light word base) base) h

pub letter_of_family : (board : Board) (dictionary : Dictionary) (family : Family) → IsSupported board dictionary family → (cell letter : ℕ) → family.letters cell letter ≡ true → leaves_letter board (pairs_of board dictionary family) cell letter ≡ true
letter_of_family board dictionary family supported cell letter h =
    and_from _ _ (supported.letters_agree cell letter h)
    (all_below-from (λ light. all_below (λ pos. not (slice_index (light_at board light) pos == cell) || list_any (has_letter_at light pos letter) (pairs_of board dictionary family)) (length (light_at board light))) (length board.lights) (λ light in_grid.
    all_below-from (λ pos. not (slice_index (light_at board light) pos == cell) || list_any (has_letter_at light pos letter) (pairs_of board dictionary family)) (length (light_at board light)) (λ k below.
    elim (cases_eq (slice_index (light_at board light) k) cell) [
      | inl at ↦
          let found = supported.letters_have_words cell letter h light k in_grid below at in
          or_right (not (slice_index (light_at board light) k == cell)) _ (list_any-from (has_letter_at light k letter) (pairs_of board dictionary family) (light, found.0) (pair_of_family board dictionary family supported light found.0 found.1) (and_from _ _ (eq-eqb light light refl) (eq-eqb (slice_index found.0 k) letter found.2)))
      | inr elsewhere ↦ or_left (not (slice_index (light_at board light) k == cell)) _ (ap not (ne_eqb (slice_index (light_at board light) k) cell elsewhere))
    ])))

pub family_is_kept : (board : Board) (dictionary : Dictionary) (family : Family) → IsSupported board dictionary family → list_all (is_kept board dictionary (pairs_of board dictionary family)) (pairs_of board dictionary family) ≡ true
family_is_kept board dictionary family supported =
    list_all-from (is_kept board dictionary (pairs_of board dictionary family)) (pairs_of board dictionary family) (λ pair among.
    let has : family.words pair.0 pair.1 ≡ true = (Among-filtered (λ (p : Pair). family.words p.0 p.1) (base_pairs board dictionary (length board.lights)) pair among).1 in
    and_from _ _
    (list_any-from (bytes_eq pair.1) (base_words_at board dictionary pair.0) pair.1 (Among-contained pair.1 (base_words_at board dictionary pair.0) (supported.words_are_base pair.0 pair.1 has)) (equal_words pair.1 pair.1 refl))
    (all_below-from (λ k. leaves_letter board (pairs_of board dictionary family) (slice_index (light_at board pair.0) k) (slice_index pair.1 k)) (length (light_at board pair.0)) (λ k below. letter_of_family board dictionary family supported _ _ (supported.words_have_letters pair.0 pair.1 has k below))))

pub is_feasible_word-gives : (state : Position) (light : ℕ) (word : List ℕ) → is_feasible_word state light word ≡ true → (family : Family) × IsSupported state.board state.words family × (family.words light word ≡ true)
unfolding is_feasible_word
is_feasible_word-gives state light word h =
    let found = any_part-gives (is_family_with state light word) (base_pairs state.board state.words (length state.board.lights)) h in
    let parts = and_parts (list_all (is_kept state.board state.words found.0) found.0) (list_any (is_pair light word) found.0) found.1 in
    (family_of state.board found.0, family_is_supported state.board state.words found.0 parts.0, parts.1)

pub is_feasible_word-from : (state : Position) (light : ℕ) (word : List ℕ) (family : Family) → IsSupported state.board state.words family → family.words light word ≡ true → is_feasible_word state light word ≡ true
unfolding is_feasible_word
is_feasible_word-from state light word family supported h =
    any_part-from (is_family_with state light word) (λ (pair : Pair). family.words pair.0 pair.1) (base_pairs state.board state.words (length state.board.lights))
    (and_from _ _ (family_is_kept state.board state.words family supported)
    (list_any-from (is_pair light word) (pairs_of state.board state.words family) (light, word) (pair_of_family state.board state.words family supported light word h) (and_from _ _ (eq-eqb light light refl) (equal_words word word refl))))

-- two tests are equal if each implies the other
pub same_tests : (a b : Bool) → (a ≡ true → b ≡ true) → (b ≡ true → a ≡ true) → a ≡ b
same_tests true b f g = sym (f refl)
same_tests false true f g = g refl
same_tests false false f g = refl

pub answers_word-is : (state : Position) (answers : Answers) → AreAnswers state.board state.words answers → (light : ℕ) (word : List ℕ) → answers_word answers light word ≡ is_feasible_word state light word
answers_word-is state answers exact light word =
    same_tests _ _
    (λ h. ∥∥₁_elim ((exact.words light word).0 h) (Bool-set _ _) (λ feasible. is_feasible_word-from state light word feasible.0 feasible.1 feasible.2))
    (λ h. (exact.words light word).1 ∣ is_feasible_word-gives state light word h ∣₁)

pub filter-same : {X : Type 0} (p q : X → Bool) → ((x : X) → p x ≡ q x) → (xs : List X) → filter p xs ≡ filter q xs
filter-same p q same [] = refl
filter-same p q same (x ∷ xs) = rw (same x, filter-same p q same xs) refl

-- the words that an engine answers are the computed ones
pub answered_words : (state : Position) (answers : Answers) → AreAnswers state.board state.words answers → (light : ℕ) → words_of answers light ≡ feasible_words state light
unfolding feasible_words
answered_words state answers exact light = exact.words_in_order light ∙ filter-same (answers_word answers light) (is_feasible_word state light) (answers_word-is state answers exact light) (base_words_at state.board state.words light)

-- the computed words are the base words that some supported family has
pub feasible-gives : (state : Position) (light : ℕ) (word : List ℕ) → Among word (feasible_words state light) → Among word (base_words_at state.board state.words light) × (is_feasible_word state light word ≡ true)
unfolding feasible_words
feasible-gives state light word among = Among-filtered (is_feasible_word state light) (base_words_at state.board state.words light) word among

pub feasible-from : (state : Position) (light : ℕ) (word : List ℕ) (family : Family) → IsSupported state.board state.words family → family.words light word ≡ true → Among word (feasible_words state light)
unfolding feasible_words
feasible-from state light word family supported h =
    Among-filter (is_feasible_word state light) (base_words_at state.board state.words light) word (Among-contained word (base_words_at state.board state.words light) (supported.words_are_base light word h)) (is_feasible_word-from state light word family supported h)

-- all lists of answers of one state are equal
answers_letter-same : (state : Position) (answers others : Answers) → AreAnswers state.board state.words answers → AreAnswers state.board state.words others → (cell letter : ℕ) → answers_letter answers cell letter ≡ answers_letter others cell letter
answers_letter-same state answers others exact exact' cell letter =
    same_tests _ _
    (λ h. (exact'.letters cell letter).1 ((exact.letters cell letter).0 h))
    (λ h. (exact.letters cell letter).1 ((exact'.letters cell letter).0 h))

pub AreAnswers-same : (state : Position) (answers others : Answers) → AreAnswers state.board state.words answers → AreAnswers state.board state.words others → answers ≡ others
AreAnswers-same state answers others exact exact' =
    let words : answers.words ≡ others.words = ext_get_or [] answers.words others.words (exact.lights ∙ sym exact'.lights) (λ light below. answered_words state answers exact light ∙ sym (answered_words state others exact' light)) in
    let letters : answers.letters ≡ others.letters = ext_get_or [] answers.letters others.letters (exact.cells ∙ sym exact'.cells) (λ cell below. exact.letters_in_order cell ∙ filter-same (answers_letter answers cell) (answers_letter others cell) (answers_letter-same state answers others exact exact' cell) alphabet ∙ sym (exact'.letters_in_order cell)) in
    λ i. record { words = words i; letters = letters i }

pub AreAnswers-along : (state other : Position) (answers others : Answers) → AreAnswers state.board state.words answers → AreAnswers other.board other.words others → state ≡ other → answers ≡ others
AreAnswers-along state other answers others exact exact' same = AreAnswers-same other answers others (subst (λ s. AreAnswers s.board s.words answers) same exact) exact'
