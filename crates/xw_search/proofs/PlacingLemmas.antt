-- Lemmas on entries, on the letters of a light, and on placing a word.
use Rattle.std.proofs.Common.{◌≡◌, ◌≢◌, ℕ, zero, suc, ◌<◌, true, false, ◌&&◌, List, [], ◌∷◌, length, get_or, set, Option, Some, None, refl, sym, ◌∙◌, ap, arith, inl, inr}
use Rattle.std.specs.Prelude.{◌⊎◌, is_some, unwrap_or}
use Rattle.std.proofs.lemmas.Bool.{and_parts, and_from, true≢false, false≢true, cases_eq, eqb-true, eq-eqb}
use Rattle.std.proofs.lemmas.List.{length-map, length-set, get_or-set_same, get_or-set_other, get_or-map}
use Rattle.xw_feas.specs.Board.{Board, entry, allows, agrees, is_wholly_entered, spelled}
use Rattle.xw_search.specs.Position.{entries_with}

-- the value of an option that is not None
pub has_value : {A : Type 0} (o : Option A) → is_some o ≡ true → (x : A) × (o ≡ Some x)
has_value None h = absurd (false≢true h)
has_value (Some x) h = (x, refl)

pub value_at : (o : Option ℕ) (x : ℕ) → o ≡ Some x → unwrap_or o 65 ≡ x
value_at o x e = ap (λ p. unwrap_or p 65) e

-- each cell of a wholly entered light has a letter
pub entered-at : (board : Board) (cells : List ℕ) → is_wholly_entered board cells ≡ true → (k : ℕ) → k < length cells → (letter : ℕ) × (entry board (get_or cells k 0) ≡ Some letter)
entered-at board [] h k below = absurd (omega arith)
entered-at board (cell ∷ cells) h zero below = has_value (entry board cell) (and_parts (is_some (entry board cell)) (is_wholly_entered board cells) h).0
entered-at board (cell ∷ cells) h (suc k) below = entered-at board cells (and_parts (is_some (entry board cell)) (is_wholly_entered board cells) h).1 k (omega arith)

pub entered-from : (board : Board) (cells : List ℕ) → ((k : ℕ) → k < length cells → (letter : ℕ) × (entry board (get_or cells k 0) ≡ Some letter)) → is_wholly_entered board cells ≡ true
entered-from board [] h = refl
entered-from board (cell ∷ cells) h = and_from _ _ (ap is_some (h 0 (omega arith)).1) (entered-from board cells (λ k below. h (suc k) (omega arith)))

-- a light that is not wholly entered has an empty cell
pub empty-at : (board : Board) (cells : List ℕ) → is_wholly_entered board cells ≡ false → (k : ℕ) × (k < length cells) × (entry board (get_or cells k 0) ≡ None)
empty-at board [] h = absurd (true≢false h)
empty-at board (cell ∷ cells) h = split (λ g. empty-at board cells g) (entry board cell) refl h where
  split : (is_wholly_entered board cells ≡ false → (k : ℕ) × (k < length cells) × (entry board (get_or cells k 0) ≡ None)) → (o : Option ℕ) → entry board cell ≡ o → (is_some o && is_wholly_entered board cells) ≡ false → (k : ℕ) × (k < length (cell ∷ cells)) × (entry board (get_or (cell ∷ cells) k 0) ≡ None)
  split later None e g = (0, omega arith, e)
  split later (Some x) e g = let found = later g in (suc found.0, omega arith, found.2)

pub length-spelled : (board : Board) (cells : List ℕ) → length (spelled board cells) ≡ length cells
length-spelled board cells = length-map cells (λ cell. unwrap_or (entry board cell) 65)

pub spelled-at : (board : Board) (cells : List ℕ) (k letter : ℕ) → k < length cells → entry board (get_or cells k 0) ≡ Some letter → get_or (spelled board cells) k 0 ≡ letter
spelled-at board cells k letter below e = get_or-map (λ cell. unwrap_or (entry board cell) 65) cells k 0 0 below ∙ value_at _ letter e

-- two boards with the same entries at the cells spell the same there
pub spelled-same : (board other : Board) (cells : List ℕ) → ((k : ℕ) → k < length cells → entry board (get_or cells k 0) ≡ entry other (get_or cells k 0)) → spelled board cells ≡ spelled other cells
spelled-same board other [] h = refl
spelled-same board other (cell ∷ cells) h = rw (h 0 (omega arith), spelled-same board other cells (λ k below. h (suc k) (omega arith))) refl

-- the letters of cells, from their entries
pub spelled-is : (board : Board) (cells word : List ℕ) → length word ≡ length cells → ((k : ℕ) → k < length cells → entry board (get_or cells k 0) ≡ Some (get_or word k 0)) → spelled board cells ≡ word
spelled-is board [] [] long h = refl
spelled-is board [] (letter ∷ word) long h = absurd (omega arith)
spelled-is board (cell ∷ cells) [] long h = absurd (omega arith)
spelled-is board (cell ∷ cells) (letter ∷ word) long h = rw (h 0 (omega arith), spelled-is board cells word (omega arith) (λ k below. h (suc k) (omega arith))) refl

-- a word that agrees is as long as the light, and each entry allows its letter
pub agrees-length : (board : Board) (cells word : List ℕ) → agrees board cells word ≡ true → length word ≡ length cells
agrees-length board [] [] h = refl
agrees-length board [] (letter ∷ word) h = absurd (false≢true h)
agrees-length board (cell ∷ cells) [] h = absurd (false≢true h)
agrees-length board (cell ∷ cells) (letter ∷ word) h = ap suc (agrees-length board cells word (and_parts (allows (entry board cell) letter) (agrees board cells word) h).1)

pub agrees-at : (board : Board) (cells word : List ℕ) → agrees board cells word ≡ true → (k : ℕ) → k < length cells → allows (entry board (get_or cells k 0)) (get_or word k 0) ≡ true
agrees-at board [] word h k below = absurd (omega arith)
agrees-at board (cell ∷ cells) [] h k below = absurd (false≢true h)
agrees-at board (cell ∷ cells) (letter ∷ word) h zero below = (and_parts (allows (entry board cell) letter) (agrees board cells word) h).0
agrees-at board (cell ∷ cells) (letter ∷ word) h (suc k) below = agrees-at board cells word (and_parts (allows (entry board cell) letter) (agrees board cells word) h).1 k (omega arith)

pub agrees-from : (board : Board) (cells word : List ℕ) → length word ≡ length cells → ((k : ℕ) → k < length cells → allows (entry board (get_or cells k 0)) (get_or word k 0) ≡ true) → agrees board cells word ≡ true
agrees-from board [] [] long h = refl
agrees-from board [] (letter ∷ word) long h = absurd (omega arith)
agrees-from board (cell ∷ cells) [] long h = absurd (omega arith)
agrees-from board (cell ∷ cells) (letter ∷ word) long h = and_from _ _ (h 0 (omega arith)) (agrees-from board cells word (omega arith) (λ k below. h (suc k) (omega arith)))

pub allowed : (o : Option ℕ) (entered letter : ℕ) → o ≡ Some entered → allows o letter ≡ true → entered ≡ letter
allowed o entered letter e h = eqb-true entered letter (sym (ap (λ p. allows p letter) e) ∙ h)

pub allows-from : (o : Option ℕ) (letter : ℕ) → ((entered : ℕ) → o ≡ Some entered → entered ≡ letter) → allows o letter ≡ true
allows-from None letter h = refl
allows-from (Some entered) letter h = eq-eqb entered letter (h entered refl)

-- a cell has an index in the list, or does not occur in it
pub cell_in : (cells : List ℕ) (cell : ℕ) → ((k : ℕ) × (k < length cells) × (get_or cells k 0 ≡ cell)) ⊎ ((k : ℕ) → k < length cells → get_or cells k 0 ≢ cell)
cell_in [] cell = inr (λ k below at. absurd (omega arith))
cell_in (c ∷ cells) cell = elim (cases_eq c cell) [
  | inl e ↦ inl (0, omega arith, e)
  | inr ne ↦ elim (cell_in cells cell) [
    | inl found ↦ inl (suc found.0, omega arith, found.2)
    | inr none ↦ inr (λ k. elim k as (λ n. n < length (c ∷ cells) → get_or (c ∷ cells) n 0 ≢ cell) [ zero ↦ λ below. ne | suc j ↦ λ below. none j (omega arith) ])
  ]
]

pub length-entries_with : (entries : List (Option ℕ)) (cells word : List ℕ) → length (entries_with entries cells word) ≡ length entries
length-entries_with entries [] word = refl
length-entries_with entries (cell ∷ cells) [] = refl
length-entries_with entries (cell ∷ cells) (letter ∷ word) = length-entries_with (set entries cell (Some letter)) cells word ∙ length-set entries cell (Some letter)

pub entries_with-other : (entries : List (Option ℕ)) (cells word : List ℕ) (cell : ℕ) → ((k : ℕ) → k < length cells → get_or cells k 0 ≢ cell) → get_or (entries_with entries cells word) cell None ≡ get_or entries cell None
entries_with-other entries [] word cell none = refl
entries_with-other entries (c ∷ cells) [] cell none = refl
entries_with-other entries (c ∷ cells) (letter ∷ word) cell none =
    entries_with-other (set entries c (Some letter)) cells word cell (λ k below. none (suc k) (omega arith))
    ∙ get_or-set_other entries c cell (Some letter) None (λ e. none 0 (omega arith) (sym e))

-- no cell occurs twice
abbrev pub AreDistinct : List ℕ → Type 0
AreDistinct cells = (j k : ℕ) → j < length cells → k < length cells → get_or cells j 0 ≡ get_or cells k 0 → j ≡ k

pub entries_with-at : (entries : List (Option ℕ)) (cells word : List ℕ) → AreDistinct cells → length word ≡ length cells → (k : ℕ) → k < length cells → get_or cells k 0 < length entries → get_or (entries_with entries cells word) (get_or cells k 0) None ≡ Some (get_or word k 0)
entries_with-at entries [] word distinct long k below within = absurd (omega arith)
entries_with-at entries (cell ∷ cells) [] distinct long k below within = absurd (omega arith)
entries_with-at entries (cell ∷ cells) (letter ∷ word) distinct long zero below within =
    entries_with-other (set entries cell (Some letter)) cells word cell (λ k under at. let same : suc k ≡ 0 = distinct (suc k) 0 (omega arith) (omega arith) at in absurd (omega arith))
    ∙ get_or-set_same entries cell (Some letter) None within
entries_with-at entries (cell ∷ cells) (letter ∷ word) distinct long (suc k) below within =
    entries_with-at (set entries cell (Some letter)) cells word (λ i j under below_j at. let same : suc i ≡ suc j = distinct (suc i) (suc j) (omega arith) (omega arith) at in omega arith) (omega arith) k (omega arith) (omega (arith, length-set entries cell (Some letter)))

-- an entry with which the word agrees stays
pub entries_with-kept : (board : Board) (cells word : List ℕ) → AreDistinct cells → agrees board cells word ≡ true → ((k : ℕ) → k < length cells → get_or cells k 0 < length board.entries) → (cell letter : ℕ) → entry board cell ≡ Some letter → get_or (entries_with board.entries cells word) cell None ≡ Some letter
entries_with-kept board cells word distinct agree within cell letter e = elim (cell_in cells cell) [
  | inl found ↦
      let at = entries_with-at board.entries cells word distinct (agrees-length board cells word agree) found.0 found.1 (within found.0 found.1) in
      let same : letter ≡ get_or word found.0 0 = allowed (entry board (get_or cells found.0 0)) letter (get_or word found.0 0) (ap (entry board) found.2 ∙ e) (agrees-at board cells word agree found.0 found.1) in
      ap (λ c. get_or (entries_with board.entries cells word) c None) (sym found.2) ∙ at ∙ ap Some (sym same)
  | inr none ↦ entries_with-other board.entries cells word cell none ∙ e
]
