-- The targets of `text` and `more`, and what the two commands do to the text there.
use Rattle.std.specs.Prelude.{◌≡◌, ℕ, Bool, true, false, List, [], ◌∷◌, ◌++◌, is_some}
use Rattle.xw_grid.specs.Grid.{Grid, is_inside}
use Rattle.xw_grid.specs.Clue.{clue_at, with_clue}
use Rattle.xw_grid.specs.Puzzle.{TextsShown}
use Rattle.xw_commands.specs.declared.command.Field.{Field}
use Rattle.xw_commands.specs.declared.command.Field.TheVariants as fields
use Rattle.xw_commands.specs.declared.command.TextField.{TextField}
use Rattle.xw_commands.specs.declared.command.TextField.TheVariants.{Title, Author, Copyright, Notes}
use Rattle.xw_commands.specs.declared.command.TextMode.{TextMode}
use Rattle.xw_commands.specs.declared.command.TextMode.TheVariants.{Instead, Behind}
use Rattle.xw_session.specs.declared.session.putting.Target.{Target}
use Rattle.xw_session.specs.declared.session.putting.Target.TheVariants as targets
use Rattle.xw_answers.specs.Escape.{text_spelled, has_nul}
use Rattle.xw_session.specs.State.{SessionState, cell_of, with_text_in}

-- the target that a field of a command names
abbrev pub target_of : Field → Target
target_of (fields.Text name) = targets.Text name
target_of (fields.Clue spot direction) = targets.Clue (cell_of spot) direction

-- the four texts always exist; a clue's cell must be in the grid
abbrev pub has_target : Grid → Target → Bool
has_target grid (targets.Text name) = true
has_target grid (targets.Clue cell direction) = is_inside grid cell

abbrev pub text_of_field : TextsShown → TextField → List ℕ
text_of_field texts Title = texts.title
text_of_field texts Author = texts.author
text_of_field texts Copyright = texts.copyright
text_of_field texts Notes = texts.notes

-- the text at a target
abbrev pub text_at : SessionState → Target → List ℕ
text_at state (targets.Text name) = text_of_field state.texts name
text_at state (targets.Clue cell direction) = clue_at state.clues cell direction

-- the state with the text at a target replaced
abbrev pub with_text_at : SessionState → Target → List ℕ → SessionState
with_text_at state (targets.Text name) text = record state { texts = with_text_in state.texts name text }
with_text_at state (targets.Clue cell direction) text = record state { clues = with_clue state.clues cell direction text }

-- the state after a text replaces the one at a target, or is appended to it
abbrev pub with_piece : SessionState → TextMode → Target → List ℕ → SessionState
with_piece state Instead target text = with_text_at state target text
with_piece state Behind target [] = state
with_piece state Behind target (byte ∷ bytes) = with_text_at state target (text_at state target ++ byte ∷ bytes)

-- a spelling may be put at the target that a field names in a grid
pub record CanPut (grid : Grid) (field : Field) (spelling : List ℕ) (target : Target) : Type 0 where
  pub named : target ≡ target_of field
  pub there : has_target grid (target_of field) ≡ true
  pub whole : is_some (text_spelled spelling) ≡ true
  pub plain : has_nul spelling ≡ false
