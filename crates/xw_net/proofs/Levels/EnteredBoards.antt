-- A board with more entries: what is a base word of it, and which families it supports.
use Rattle.std.proofs.Common.{◌≡◌, ℕ, ◌<◌, true, false, not, ◌&&◌, List, [], ◌∷◌, Some, None, length, get_or, refl, sym, ap, ◌∙◌}
use Rattle.std.specs.Prelude.{Option, is_some}
use Rattle.std.proofs.lemmas.Bool.{and_parts, and_from, both_ways, not_from_false, false_from_ne_true, not-true}
use Rattle.xw_words.specs.Dictionary.{Dictionary, known_words, entry_at}
use Rattle.xw_letters.specs.Letter.{is_capital}
use Rattle.xw_feas.specs.Board.{Board, entry, is_open, light_at, allows, agrees, is_wholly_entered, spelled}
use Rattle.xw_feas.specs.Feasible.{may_stand}
use Rattle.xw_feas.specs.Choices.{is_base_at}
use Rattle.xw_feas.proofs.ChoicesLemmas.{base_flag_at}
use Rattle.xw_net.specs.Marks.{known}

-- the board with other entries
abbrev pub with_entries : Board → List (Option ℕ) → Board
with_entries board entries = record board { entries = entries }

-- each cell that had a letter still has it
abbrev pub KeepsEntries : Board → List (Option ℕ) → Type 0
KeepsEntries board entries = (cell letter : ℕ) → entry board cell ≡ Some letter → get_or entries cell None ≡ Some letter

module _ (before : Board) (entries : List (Option ℕ)) (kept : KeepsEntries before entries) where
  abbrev after : Board
  after = with_entries before entries

  allows_less : (old new : Option ℕ) (letter : ℕ) → ((other : ℕ) → old ≡ Some other → new ≡ Some other) → allows new letter ≡ true → allows old letter ≡ true
  allows_less None new letter keeps is = refl
  allows_less (Some other) new letter keeps is = ap (λ e. allows e letter) (sym (keeps other refl)) ∙ is

  pub may_stood : (cell letter : ℕ) → may_stand after cell letter ≡ true → may_stand before cell letter ≡ true
  may_stood cell letter may =
      let parts = and_parts (is_open before cell && is_capital letter) (allows (entry after cell) letter) may in
      and_from (is_open before cell && is_capital letter) (allows (entry before cell) letter) parts.0 (allows_less (entry before cell) (entry after cell) letter (kept cell) parts.1)

  pub agreed : (cells word : List ℕ) → agrees after cells word ≡ true → agrees before cells word ≡ true
  agreed [] [] is = refl
  agreed [] (letter ∷ letters) is = is
  agreed (cell ∷ cells) [] is = is
  agreed (cell ∷ cells) (letter ∷ letters) is =
      let parts = and_parts (allows (entry after cell) letter) (agrees after cells letters) is in
      and_from (allows (entry before cell) letter) (agrees before cells letters) (allows_less (entry before cell) (entry after cell) letter (kept cell) parts.0) (agreed cells letters parts.1)

  some_stays : (old new : Option ℕ) → ((other : ℕ) → old ≡ Some other → new ≡ Some other) → is_some old ≡ true → new ≡ old
  some_stays None new keeps is = let never : false ≡ true = is in cc
  some_stays (Some other) new keeps is = keeps other refl

  pub whole_stays : (cells : List ℕ) → is_wholly_entered before cells ≡ true → is_wholly_entered after cells ≡ true
  whole_stays [] is = refl
  whole_stays (cell ∷ cells) is =
      let parts = and_parts (is_some (entry before cell)) (is_wholly_entered before cells) is in
      and_from (is_some (entry after cell)) (is_wholly_entered after cells) (ap is_some (some_stays (entry before cell) (entry after cell) (kept cell) parts.0) ∙ parts.0) (whole_stays cells parts.1)

  pub spelled_stays : (cells : List ℕ) → is_wholly_entered before cells ≡ true → spelled after cells ≡ spelled before cells
  spelled_stays [] is = refl
  spelled_stays (cell ∷ cells) is =
      let parts = and_parts (is_some (entry before cell)) (is_wholly_entered before cells) is in
      let first = some_stays (entry before cell) (entry after cell) (kept cell) parts.0 in
      let rest = spelled_stays cells parts.1 in
      rw (first, rest) refl

  module _ (dictionary : Dictionary) where
    -- a known base word was one before
    pub known_base : (light choice : ℕ) → choice < known before dictionary light → is_base_at after dictionary light choice ≡ true → is_base_at before dictionary light choice ≡ true
    known_base light choice below base =
        let cells = light_at before light in
        let word = entry_at (known_words dictionary (length cells)) choice in
        let now = and_parts (not (is_wholly_entered after cells)) (word.active && agrees after cells word.word) (sym (base_flag_at after dictionary cells choice below) ∙ base) in
        let fits = and_parts word.active (agrees after cells word.word) now.1 in
        let open_ : is_wholly_entered before cells ≡ false = false_from_ne_true (is_wholly_entered before cells) (λ whole. both_ways (is_wholly_entered after cells) (not-true (is_wholly_entered after cells) now.0) (whole_stays cells whole)) in
        base_flag_at before dictionary cells choice below ∙ and_from (not (is_wholly_entered before cells)) (word.active && agrees before cells word.word) (not_from_false (is_wholly_entered before cells) open_)
        (and_from word.active (agrees before cells word.word) fits.0 (agreed cells word.word fits.1))
