-- Lines written word by word, and words written letter by letter.
use Rattle.std.proofs.Common.{◌≡◌, ℕ, ◌+◌, ◌-◌, ◌≤◌, ◌<◌, List, [], ◌∷◌, ◌++◌, length, map, take, drop, get_or, flat_map, codes, refl, sym, ◌∙◌, ap, append_assoc, append-nil, zero-add, arith, add-one, drop-cons, suc}
use Rattle.std.specs.List.{range_with_len}
use Rattle.std.proofs.lemmas.List.{take-append-drop, take_all, take_more}
use Rattle.std.proofs.lemmas.List.FromFn.{get_or-range_with_len, length-range_with_len}
use Rattle.std.proofs.lemmas.Grind.{flat_map-append}
use Rattle.xw_lines.specs.Device.{Begins, HasFailed}
use Rattle.xw_answers.specs.Text.{line_of, letters_or_dash}
use Rattle.xw_lines.proofs.SendsLemmas.{stops-in-each}

-- a line of two or more words: the first word, a space, and the line of the others
pub line_of_more : {X : Type 0} (view : X → List ℕ) (words : List X) (word : X) → word ≡ get_or words 0 word → 2 ≤ length words
    → line_of (map view words) ≡ (view word ++ codes " ") ++ line_of (map view (take (length words - 1) (drop 1 words)))
line_of_more view [] word is h = absurd (omega (arith, h))
line_of_more view (first ∷ []) word is h = absurd (omega (arith, h))
line_of_more view (first ∷ next ∷ words) word is h =
    let all : take (length (first ∷ next ∷ words) - 1) (next ∷ words) ≡ next ∷ words = take_all _ _ (omega arith) in
    ap (λ rest. (view first ++ codes " ") ++ line_of (map view rest)) (sym all)
    ∙ ap (λ w. (view w ++ codes " ") ++ line_of (map view (take (length (first ∷ next ∷ words) - 1) (next ∷ words)))) (sym is)

-- a line of one word
pub line_of_one : {X : Type 0} (view : X → List ℕ) (words : List X) (word : X) → word ≡ get_or words 0 word → length words ≡ 1 → line_of (map view words) ≡ view word ++ codes "\n"
line_of_one view [] word is h = absurd (omega (arith, h))
line_of_one view (first ∷ []) word is h = ap (λ w. view w ++ codes "\n") (sym is)
line_of_one view (first ∷ next ∷ words) word is h = absurd (omega (arith, h))

pub number_at : (n i d : ℕ) → i < n → i ≡ get_or (range_with_len 0 n) i d
number_at n i d h = sym (get_or-range_with_len 0 n i d h ∙ zero-add i)

-- texts of the numbers below n, one after another
module _ (text : ℕ → List ℕ) (n : ℕ) where
  pub one_text_more : (i : ℕ) → i < n → flat_map text (take (i + 1) (range_with_len 0 n)) ≡ flat_map text (take i (range_with_len 0 n)) ++ text i
  one_text_more i h =
      let within : i < length (range_with_len 0 n) = rw length-range_with_len h in
      let next : take (i + 1) (range_with_len 0 n) ≡ take i (range_with_len 0 n) ++ i ∷ [] =
      take_more (range_with_len 0 n) i 0 within ∙ ap (λ j. take i (range_with_len 0 n) ++ j ∷ []) (sym (number_at n i 0 h)) in
      ap (flat_map text) next ∙ flat_map-append text (take i (range_with_len 0 n)) (i ∷ []) ∙ ap (λ ys. flat_map text (take i (range_with_len 0 n)) ++ ys) (append-nil (text i))

  -- the texts before a number, its text, and those after it
  pub text_parts : (i : ℕ) → i < n → flat_map text (range_with_len 0 n) ≡ flat_map text (take i (range_with_len 0 n)) ++ (text i ++ flat_map text (drop (i + 1) (range_with_len 0 n)))
  text_parts i h =
      let within : i < length (range_with_len 0 n) = rw length-range_with_len h in
      let next : drop i (range_with_len 0 n) ≡ i ∷ drop (i + 1) (range_with_len 0 n) =
      rw add-one (drop-cons (range_with_len 0 n) i i within ∙ ap (λ x. x ∷ drop (suc i) (range_with_len 0 n)) (sym (number_at n i i h))) in
      ap (flat_map text) (sym (take-append-drop i (range_with_len 0 n)) ∙ ap (λ xs. take i (range_with_len 0 n) ++ xs) next)
      ∙ flat_map-append text (take i (range_with_len 0 n)) (i ∷ drop (i + 1) (range_with_len 0 n))

  pub all_texts : (i : ℕ) → n ≤ i → flat_map text (take i (range_with_len 0 n)) ≡ flat_map text (range_with_len 0 n)
  all_texts i past = ap (flat_map text) (take_all i (range_with_len 0 n) (rw length-range_with_len past))

  -- one more text is appended to a line
  pub text_pushed : (i : ℕ) (begun line pushed : List ℕ) → i < n → line ≡ begun ++ flat_map text (take i (range_with_len 0 n)) → pushed ≡ text i → line ++ pushed ≡ begun ++ flat_map text (take (i + 1) (range_with_len 0 n))
  text_pushed i begun line pushed h was is =
      ap (λ xs. xs ++ pushed) was
      ∙ append_assoc begun (flat_map text (take i (range_with_len 0 n))) pushed
      ∙ ap (λ xs. begun ++ xs) (ap (λ ys. flat_map text (take i (range_with_len 0 n)) ++ ys) is ∙ sym (one_text_more i h))

-- the same, written to a writer
module _ {S : Type 0} (transcript : S → List ℕ) (failures : S → ℕ) (text : ℕ → List ℕ) (n : ℕ) where
  within : (i : ℕ) → i < n → i < length (range_with_len 0 n)
  within i h = rw length-range_with_len h

  pub one_more_sent : (old mid new : S) (i : ℕ) → i < n
      → transcript mid ≡ transcript old ++ flat_map text (take i (range_with_len 0 n)) → transcript new ≡ transcript mid ++ text i
      → transcript new ≡ transcript old ++ flat_map text (take (i + 1) (range_with_len 0 n))
  one_more_sent old mid new i h m s =
      let parts = one_text_more text n i h in
      s ∙ ap (λ xs. xs ++ text i) m ∙ append_assoc (transcript old) _ (text i) ∙ ap (λ xs. transcript old ++ xs) (sym parts)

  pub stops_at : (old mid new : S) (i : ℕ) → i < n
      → (transcript mid ≡ transcript old ++ flat_map text (take i (range_with_len 0 n))) × (failures mid ≡ failures old)
      → Begins (transcript mid) (transcript new) (text i) × HasFailed (failures mid) (failures new)
      → Begins (transcript old) (transcript new) (flat_map text (range_with_len 0 n)) × HasFailed (failures old) (failures new)
  stops_at old mid new i h m s = stops-in-each transcript failures text (range_with_len 0 n) old mid new i i (within i h) (number_at n i i h) m s

  pub all_sent : (old new : S) (i : ℕ) → n ≤ i
      → (transcript new ≡ transcript old ++ flat_map text (take i (range_with_len 0 n))) × (failures new ≡ failures old)
      → (transcript new ≡ transcript old ++ flat_map text (range_with_len 0 n)) × (failures new ≡ failures old)
  all_sent old new i h m =
      (m.0 ∙ ap (λ xs. transcript old ++ xs) (all_texts text n i h), m.1)

-- a set with letters spells them, and one without a dash
pub some_letters : (letters : List ℕ) → (length letters ≡ 0 → ⊥) → letters_or_dash letters ≡ letters
some_letters [] some = absurd (some refl)
some_letters (letter ∷ letters) some = refl

pub no_letters : (letters : List ℕ) → length letters ≡ 0 → letters_or_dash letters ≡ codes "-"
no_letters [] none = refl
no_letters (letter ∷ letters) none = absurd (omega (arith, none))
