-- Every grid with a dictionary is a well-formed state.
use Rattle.std.proofs.Common.{◌≡◌, Some, None, refl, sym, subst, ◌∙◌}
use Rattle.std.specs.Prelude.{Option, slice_get}
use Rattle.std.proofs.lemmas.Option.{slice_get_within, get_or_from_slice_get}
use Rattle.xw_letters.specs.Letter.{IsLetter}
use Rattle.xw_words.specs.Dictionary.{Dictionary, IsDictionary}
use Rattle.xw_grid.specs.declared.cell.Square.{Square}
use Rattle.xw_grid.specs.declared.cell.Square.TheVariants.{Block, Open}
use Rattle.xw_grid.specs.Grid.{Grid, IsGrid, IsSquare, letter_in}
use Rattle.xw_feas.specs.Board.{board_of}
use Rattle.xw_feas.specs.WellFormed.{IsWellFormed, HasLetterEntries}
use Rattle.xw_feas.proofs.BoardLemmas.{entry-square}
use Rattle.xw_feas.proofs.FormedLemmas.{formed}

letter_entries : (grid : Grid) → IsGrid grid → HasLetterEntries (board_of grid)
letter_entries grid is cell letter at = split (slice_get grid.squares cell) refl (sym (entry-square grid cell) ∙ at) where
  split : (square : Option Square) → slice_get grid.squares cell ≡ square → letter_in square ≡ Some letter → IsLetter letter
  split None found h = cc
  split (Some Block) found h = cc
  split (Some (Open None)) found h = cc
  split (Some (Open (Some other))) found h =
      let same : other ≡ letter = cc in
      let below = slice_get_within grid.squares cell (Open (Some other)) found in
      let here : IsSquare (Open (Some other)) = subst IsSquare (get_or_from_slice_get grid.squares cell (Open (Some other)) Block found) (is.letters cell Block below) in
      subst IsLetter same here

pub state_formed : (grid : Grid) (words : Dictionary) → IsGrid grid → IsDictionary words → IsWellFormed (record { grid = grid; words = words })
state_formed grid words is dictionary = formed grid words is dictionary (letter_entries grid is)
