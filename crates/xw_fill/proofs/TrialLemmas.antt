-- Taking back a word that was placed for a look.
use Rattle.std.proofs.Common.{◌≡◌, ◌≢◌, ℕ, zero, suc, ◌<◌, Bool, true, false, cond, List, [], ◌∷◌, length, get_or, set, drop, Option, Some, None, refl, sym, ◌∙◌, ap, arith, inl, inr}
use Rattle.std.specs.Prelude.{is_none}
use Rattle.std.proofs.lemmas.List.{length-set, get_or-set_same, get_or-set_other, ext_get_or}
use Rattle.xw_feas.specs.Board.{entry, light_at, agrees}
use Rattle.xw_search.specs.Position.{Position, placed, entries_with, holding}
use Rattle.xw_fill.specs.Inner.Trial.{without_letters, taken_back, AreBlanks}
use Rattle.xw_fill.specs.declared.trial.Trial.{Trial}
use Rattle.xw_search.proofs.Shaped.{IsShaped}
use Rattle.xw_search.proofs.PlacingLemmas.{AreDistinct, cell_in, agrees-length, agrees-at, allowed, entries_with-other, length-entries_with}
use Rattle.xw_search.proofs.LightLemmas.{cells_within}
use Rattle.xw_fill.proofs.SearchLemmas.{cells_distinct, placed-at}

length-without_letters : (entries : List (Option ℕ)) (cells : List ℕ) (blanks : List Bool) → length (without_letters entries cells blanks) ≡ length entries
length-without_letters entries [] blanks = refl
length-without_letters entries (cell ∷ cells) blanks = length-without_letters _ cells (drop 1 blanks) ∙ same (get_or blanks 0 false) where
  same : (b : Bool) → length (cond b (set entries cell None) entries) ≡ length entries
  same true = length-set entries cell None
  same false = refl

without_letters-other : (entries : List (Option ℕ)) (cells : List ℕ) (blanks : List Bool) (cell : ℕ) → ((k : ℕ) → k < length cells → get_or cells k 0 ≢ cell) → get_or (without_letters entries cells blanks) cell None ≡ get_or entries cell None
without_letters-other entries [] blanks cell none = refl
without_letters-other entries (c ∷ cells) blanks cell none = without_letters-other _ cells (drop 1 blanks) cell (λ k below. none (suc k) (omega arith)) ∙ same (get_or blanks 0 false) where
  same : (b : Bool) → get_or (cond b (set entries c None) entries) cell None ≡ get_or entries cell None
  same true = get_or-set_other entries c cell None None (λ e. none 0 (omega arith) (sym e))
  same false = refl

get_or-next : (blanks : List Bool) (k : ℕ) → get_or (drop 1 blanks) k false ≡ get_or blanks (suc k) false
get_or-next [] k = refl
get_or-next (blank ∷ blanks) k = refl

without_letters-at : (entries : List (Option ℕ)) (cells : List ℕ) (blanks : List Bool) → AreDistinct cells → (k : ℕ) → k < length cells → get_or cells k 0 < length entries → get_or (without_letters entries cells blanks) (get_or cells k 0) None ≡ cond (get_or blanks k false) None (get_or entries (get_or cells k 0) None)
without_letters-at entries [] blanks distinct k below within = absurd (omega arith)
without_letters-at entries (cell ∷ cells) blanks distinct zero below within =
    without_letters-other _ cells (drop 1 blanks) cell (λ k under at. let same : suc k ≡ 0 = distinct (suc k) 0 (omega arith) (omega arith) at in absurd (omega arith))
    ∙ here (get_or blanks 0 false) where
      here : (b : Bool) → get_or (cond b (set entries cell None) entries) cell None ≡ cond b None (get_or entries cell None)
      here true = get_or-set_same entries cell None None within
      here false = refl
without_letters-at entries (cell ∷ cells) blanks distinct (suc k) below within =
    without_letters-at (cond (get_or blanks 0 false) (set entries cell None) entries) cells (drop 1 blanks) (λ i j under under_j at. let same : suc i ≡ suc j = distinct (suc i) (suc j) (omega arith) (omega arith) at in omega arith) k (omega arith) (let long = size (get_or blanks 0 false) in omega arith)
    ∙ ap (λ b. cond b None (get_or (cond (get_or blanks 0 false) (set entries cell None) entries) (get_or cells k 0) None)) (get_or-next blanks k)
    ∙ ap (λ o. cond (get_or blanks (suc k) false) None o) (there (get_or blanks 0 false)) where
      size : (b : Bool) → length (cond b (set entries cell None) entries) ≡ length entries
      size true = length-set entries cell None
      size false = refl

      there : (b : Bool) → get_or (cond b (set entries cell None) entries) (get_or cells k 0) None ≡ get_or entries (get_or cells k 0) None
      there true = get_or-set_other entries cell (get_or cells k 0) None None (λ e. let same : suc k ≡ 0 = distinct (suc k) 0 (omega arith) (omega arith) e in absurd (omega arith))
      there false = refl

was_entered : (o : Option ℕ) (letter : ℕ) (b : Bool) → b ≡ is_none o → ((entered : ℕ) → o ≡ Some entered → entered ≡ letter) → cond b None (Some letter) ≡ o
was_entered None letter b e h = rw e refl
was_entered (Some entered) letter b e h = rw e (ap Some (sym (h entered refl)))

-- clearing the cells that were empty before a word takes it back
pub taken_back-agreed : (position : Position) (trial : Trial) (word : List ℕ) → IsShaped position.board → agrees position.board (light_at position.board trial.light) word ≡ true → AreBlanks position.board (light_at position.board trial.light) trial.blanks → taken_back (placed position trial.light word) trial ≡ position
taken_back-agreed position trial word laid agree blanks = ap (holding position) (ext_get_or None _ position.board.entries long each) where
  cells : List ℕ
  cells = light_at position.board trial.light

  now : List (Option ℕ)
  now = entries_with position.board.entries cells word

  long : length (without_letters now cells trial.blanks) ≡ length position.board.entries
  long = length-without_letters now cells trial.blanks ∙ length-entries_with position.board.entries cells word

  each : (cell : ℕ) → cell < length (without_letters now cells trial.blanks) → get_or (without_letters now cells trial.blanks) cell None ≡ get_or position.board.entries cell None
  each cell below = elim (cell_in cells cell) [
    | inl found ↦
        let within = cells_within position.board laid trial.light found.0 found.1 in
        let within_now : get_or cells found.0 0 < length now = omega (arith, length-entries_with position.board.entries cells word) in
        ap (λ c. get_or (without_letters now cells trial.blanks) c None) (sym found.2)
        ∙ without_letters-at now cells trial.blanks (cells_distinct position.board laid trial.light) found.0 found.1 within_now
        ∙ ap (λ o. cond (get_or trial.blanks found.0 false) None o) (placed-at position trial.light word laid (agrees-length position.board cells word agree) found.0 found.1)
        ∙ was_entered (entry position.board (get_or cells found.0 0)) (get_or word found.0 0) (get_or trial.blanks found.0 false) (blanks found.0 found.1) (λ entered e. allowed (entry position.board (get_or cells found.0 0)) entered (get_or word found.0 0) e (agrees-at position.board cells word agree found.0 found.1))
        ∙ ap (entry position.board) found.2
    | inr none ↦ without_letters-other now cells trial.blanks cell none ∙ entries_with-other position.board.entries cells word cell none
  ]
