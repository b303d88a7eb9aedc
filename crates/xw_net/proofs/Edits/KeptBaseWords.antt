-- A light whose entries and known words are unchanged has the same base words as before.
use Rattle.std.proofs.Common.{◌≡◌, ℕ, suc, true, ◌&&◌, List, [], ◌∷◌, refl, ◌∙◌, ap, arith}
use Rattle.std.specs.Prelude.{Contains, is_some}
use Rattle.xw_feas.specs.Board.{Board, entry, allows, agrees, is_wholly_entered, spelled}

-- the cells have the same entries
abbrev pub HaveSameEntries : Board → Board → List ℕ → Type 0
HaveSameEntries before after cells = (cell : ℕ) → Contains cells cell → entry after cell ≡ entry before cell

-- the cells allow no letter that they did not allow before
abbrev pub AllowNoMore : Board → Board → List ℕ → Type 0
AllowNoMore before after cells = (cell : ℕ) → Contains cells cell → (letter : ℕ) → allows (entry after cell) letter ≡ true → allows (entry before cell) letter ≡ true

here : (x : ℕ) (xs : List ℕ) → Contains (x ∷ xs) x
here x xs = (0, omega arith, refl)

later : (x y : ℕ) (xs : List ℕ) → Contains xs x → Contains (y ∷ xs) x
later x y xs (k, below, at) = (suc k, omega arith, at)

pub entered_same : (before after : Board) (cells : List ℕ) → HaveSameEntries before after cells → is_wholly_entered after cells ≡ is_wholly_entered before cells
entered_same before after [] same = refl
entered_same before after (cell ∷ cells) same =
    ap (λ e. is_some e && is_wholly_entered after cells) (same cell (here cell cells))
    ∙ ap (λ b. is_some (entry before cell) && b) (entered_same before after cells (λ other in_cells. same other (later other cell cells in_cells)))

pub spelled_same : (before after : Board) (cells : List ℕ) → HaveSameEntries before after cells → spelled after cells ≡ spelled before cells
spelled_same before after [] same = refl
spelled_same before after (cell ∷ cells) same =
    let first = same cell (here cell cells) in
    let rest = spelled_same before after cells (λ other in_cells. same other (later other cell cells in_cells)) in
    rw (first, rest) refl

pub agrees_same : (before after : Board) (cells word : List ℕ) → HaveSameEntries before after cells → agrees after cells word ≡ agrees before cells word
agrees_same before after [] [] same = refl
agrees_same before after [] (letter ∷ letters) same = refl
agrees_same before after (cell ∷ cells) [] same = refl
agrees_same before after (cell ∷ cells) (letter ∷ letters) same =
    ap (λ e. allows e letter && agrees after cells letters) (same cell (here cell cells))
    ∙ ap (λ b. allows (entry before cell) letter && b) (agrees_same before after cells letters (λ other in_cells. same other (later other cell cells in_cells)))
