-- The letters that a search entered, entered again one by one.
use Rattle.std.proofs.Common.{◌≡◌, ℕ, ◌+◌, ◌*◌, ◌<◌, true, List, [], length, get_or, set, Some, None, refl, sym, ◌∙◌, ap, subst, arith}
use Rattle.std.specs.Prelude.{Option, if◌then◌else◌}
use Rattle.std.proofs.lemmas.Bool.{eq-eqb}
use Rattle.std.proofs.lemmas.List.{get_or-map}
use Rattle.xw_letters.specs.Letter.{IsLetter}
use Rattle.xw_grid.specs.declared.cell.Cell.{Cell}
use Rattle.xw_grid.specs.declared.cell.Square.{Square}
use Rattle.xw_grid.specs.declared.cell.Square.TheVariants.{Block, Open}
use Rattle.xw_grid.specs.Grid.{Grid, IsGrid, is_inside, index_of, cell_at, cells, letter_in, square_at, is_block, is_block_square, entry}
use Rattle.xw_grid.specs.Edit.{with_entry}
use Rattle.xw_grid.proofs.GridLemmas.{cell_at-inside, index_of-cell_at, inside_small, length-cells}
use Rattle.xw_feas.specs.Board.{board_of, square_entry}
use Rattle.xw_feas.specs.State.{State}
use Rattle.xw_search.specs.Position.{square_with, squares_with}
use Rattle.xw_commands.specs.declared.change.Change.{Change}
use Rattle.xw_commands.specs.declared.change.Change.TheVariants as changes
use Rattle.xw_session.specs.State.{SessionState}
use Rattle.xw_session.specs.Reply.{with_letter}
use Rattle.xw_answers.specs.Record.{spot_of, letter_commands}
use Rattle.xw_answers.proofs.LightTexts.{cell_in_order}
use Rattle.xw_journal.specs.Journal.{is_same_entry, entered_at, entered_commands}
use Rattle.xw_session_laws.specs.Replay.{state_left, replayed}
use Rattle.xw_session_laws.proofs.Replaying.{next_done}
use Rattle.xw_session_laws.proofs.CellsAgain.{each_cell_again, mixed, mixed_more, mixed_next, mixed_same, length-mixed, mixed_all, square_is, with_squares, letter_is, entered}
use Rattle.xw_session_laws.proofs.RecordRead.{AreRecorded, each_recorded}
use Rattle.xw_session_laws.proofs.GridsKept.{length-filled, square_now}
use Rattle.xw_session_laws.proofs.LineEffects.{IsSearched}

-- a square before and after: at most a letter was entered
abbrev pub IsLettered : Square → Square → Type 0
IsLettered Block Block = Unit {0}
IsLettered Block (Open entered) = ⊥
IsLettered (Open None) Block = ⊥
IsLettered (Open None) (Open None) = Unit {0}
IsLettered (Open None) (Open (Some letter)) = IsLetter letter
IsLettered (Open (Some letter)) Block = ⊥
IsLettered (Open (Some letter)) (Open None) = ⊥
IsLettered (Open (Some letter)) (Open (Some other)) = letter ≡ other

module _ (state : SessionState) (grid : Grid) (is : IsGrid grid) (now : List Square) (long : length now ≡ length grid.squares)
    (lettered : (k : ℕ) → k < length grid.squares → IsLettered (get_or grid.squares k Block) (get_or now k Block)) where
  abbrev after : Grid
  after = record grid { squares = now }

  abbrev reached : ℕ → SessionState
  reached k = with_squares state grid (mixed now grid.squares k)

  abbrev commands_of : Cell → Square → Square → List Change
  commands_of cell old new = if is_same_entry (letter_in (Some old)) (letter_in (Some new)) then [] else letter_commands cell (letter_in (Some new))

  module _ (k : ℕ) (below : k < grid.width * grid.height) where
    within : k < length grid.squares
    within = omega (arith, below, is.squares)

    there : k < length now
    there = omega (arith, within, long)

    abbrev here : Cell
    here = cell_at grid k

    inside : is_inside grid here ≡ true
    inside = cell_at-inside grid k is below

    commands_at : entered_at grid after here ≡ commands_of here (get_or grid.squares k Block) (get_or now k Block)
    commands_at =
        ap (λ square. if is_same_entry (letter_in square) (entry after here) then [] else letter_commands here (entry after here)) (square_is grid k inside within)
        ∙ ap (λ square. if is_same_entry (letter_in (Some (get_or grid.squares k Block))) (letter_in square) then [] else letter_commands here (letter_in square)) (square_is after k inside there)

    nothing_due : get_or grid.squares k Block ≡ get_or now k Block → Some (reached k) ≡ Some (reached (k + 1))
    nothing_due same = ap (λ squares. Some (with_squares state grid squares)) (sym (mixed_same now grid.squares long k Block there same))

    letter_step : (old new : Square) → get_or grid.squares k Block ≡ old → get_or now k Block ≡ new → IsLettered old new → replayed (reached k) (commands_of here old new) ≡ Some (reached (k + 1))
    letter_step Block Block e f good = nothing_due (e ∙ sym f)
    letter_step Block (Open entry) e f good = absurd good
    letter_step (Open None) Block e f good = absurd good
    letter_step (Open None) (Open None) e f good = nothing_due (e ∙ sym f)
    letter_step (Open (Some letter)) Block e f good = absurd good
    letter_step (Open (Some letter)) (Open None) e f good = absurd good
    letter_step (Open (Some letter)) (Open (Some other)) e f good =
        ap (λ t. replayed (reached k) (if t then [] else letter_commands here (Some other))) (eq-eqb letter other good) ∙ nothing_due (e ∙ ap (λ l. Open (Some l)) good ∙ sym f)
    letter_step (Open None) (Open (Some letter)) e f good =
        let squares = mixed now grid.squares k in
        let current = record grid { squares = squares } in
        let open_there : k < length squares = omega (arith, there, length-mixed now grid.squares long k Block there) in
        let open_now : square_at current here ≡ Some (Open None) = square_is current k inside open_there ∙ ap Some (mixed_next now grid.squares long k Block there ∙ e) in
        let more : set squares (index_of grid here) (Open (Some letter)) ≡ mixed now grid.squares (k + 1) =
        ap (λ n. set squares n (Open (Some letter))) (index_of-cell_at grid k) ∙ ap (set squares k) (sym f) ∙ sym (mixed_more now grid.squares long k Block there) in
        next_done (reached k) (reached (k + 1)) (changes.Set (spot_of here) letter) []
        (ap (λ found. state_left (with_letter (reached k) (spot_of here) found)) (letter_is letter good)
        ∙ entered (reached k) (is_inside grid here) (is_block current here) (with_entry current here (Some letter)) inside (ap is_block_square open_now)
        ∙ ap (λ squares. Some (with_squares state grid squares)) more)

    letters_at : replayed (reached k) (entered_at grid after here) ≡ Some (reached (k + 1))
    letters_at = ap (replayed (reached k)) commands_at ∙ letter_step (get_or grid.squares k Block) (get_or now k Block) refl refl (lettered k within)

    square_recorded : (old new : Square) → IsLettered old new → AreRecorded (commands_of here old new)
    square_recorded Block Block good = tt
    square_recorded Block (Open entry) good = absurd good
    square_recorded (Open None) Block good = absurd good
    square_recorded (Open None) (Open None) good = tt
    square_recorded (Open None) (Open (Some letter)) good = ((inside_small grid here is inside, good), tt)
    square_recorded (Open (Some letter)) Block good = absurd good
    square_recorded (Open (Some letter)) (Open None) good = absurd good
    square_recorded (Open (Some letter)) (Open (Some other)) good = subst (λ t. AreRecorded (if t then [] else letter_commands here (Some other))) (sym (eq-eqb letter other good)) tt

    cell_recorded : AreRecorded (entered_at grid after here)
    cell_recorded = subst AreRecorded (sym commands_at) (square_recorded (get_or grid.squares k Block) (get_or now k Block) (lettered k within))

  pub letters_entered : replayed (with_squares state grid grid.squares) (entered_commands grid after) ≡ Some (with_squares state grid now)
  letters_entered =
      let all : grid.width * grid.height ≡ length now = omega (arith, is.squares, long) in
      each_cell_again grid (entered_at grid after) reached (λ k below. letters_at k below)
      ∙ ap (λ squares. Some (with_squares state grid squares)) (mixed_all now grid.squares (grid.width * grid.height) long all)

  pub entered_recorded : AreRecorded (entered_commands grid after)
  entered_recorded =
      each_recorded (entered_at grid after) (cell_at grid 0) (cells grid) (λ k within.
      let below : k < grid.width * grid.height = omega (arith, within, length-cells grid) in
      subst (λ cell. AreRecorded (entered_at grid after cell)) (sym (cell_in_order grid k (cell_at grid 0) below)) (cell_recorded k below))

-- ---- after a search

with_lettered : (old : Square) (new : Option ℕ) → ((letter : ℕ) → letter_in (Some old) ≡ Some letter → new ≡ Some letter) → ((letter : ℕ) → new ≡ Some letter → IsLetter letter) → IsLettered old (square_with old new)
with_lettered Block new kept good = tt
with_lettered (Open None) None kept good = tt
with_lettered (Open None) (Some letter) kept good = good letter refl
with_lettered (Open (Some letter)) None kept good = let bad : ◌≡◌ {A = Option ℕ} None (Some letter) = kept letter refl in cc
with_lettered (Open (Some letter)) (Some other) kept good = let same : Some other ≡ Some letter = kept letter refl in cc

module _ (state : SessionState) (is : IsGrid state.engine.grid) (next : State) (done : IsSearched state.engine next) where
  abbrev filled : List Square
  filled = squares_with state.engine.grid.squares done.entries

  letter_there : (k letter : ℕ) → k < length state.engine.grid.squares → letter_in (Some (get_or state.engine.grid.squares k Block)) ≡ Some letter → get_or done.entries k None ≡ Some letter
  unfolding board_of
  letter_there k letter within e = done.kept k letter (get_or-map square_entry state.engine.grid.squares k Block None within ∙ e)

  filled_lettered : (k : ℕ) → k < length state.engine.grid.squares → IsLettered (get_or state.engine.grid.squares k Block) (get_or filled k Block)
  filled_lettered k within =
      subst (IsLettered (get_or state.engine.grid.squares k Block)) (sym (square_now state.engine.grid.squares done.entries k Block within))
      (with_lettered (get_or state.engine.grid.squares k Block) (get_or done.entries k None) (λ letter. letter_there k letter within) (done.letters k))

  -- the letters lead to the state after the search
  pub search_again : replayed state (entered_commands state.engine.grid next.grid) ≡ Some (record state { engine = next })
  search_again =
      ap (λ (p : State). replayed state (entered_commands state.engine.grid p.grid)) done.is
      ∙ letters_entered state state.engine.grid is filled (length-filled state.engine.grid.squares done.entries) filled_lettered
      ∙ ap (λ (p : State). Some (record state { engine = p })) (sym done.is)

  pub search_recorded : AreRecorded (entered_commands state.engine.grid next.grid)
  search_recorded =
      subst (λ (p : State). AreRecorded (entered_commands state.engine.grid p.grid)) (sym done.is)
      (entered_recorded state state.engine.grid is filled (length-filled state.engine.grid.squares done.entries) filled_lettered)
