-- The record of a session: the commands that rebuild it from any session that starts with the same words.
use Rattle.std.specs.Prelude.{ℕ, List, [], ◌∷◌, flat_map}
use Rattle.xw_grid.specs.declared.cell.Direction.TheVariants.{Across, Down}
use Rattle.xw_grid.specs.declared.cell.Side.TheVariants.{Right, Below}
use Rattle.xw_commands.specs.declared.change.Change.{Change}
use Rattle.xw_commands.specs.declared.change.Change.TheVariants.{Size, Symmetry as ChangeSymmetry, Watch}
use Rattle.xw_commands.specs.declared.command.Field.TheVariants as fields
use Rattle.xw_commands.specs.declared.command.TextField.TheVariants.{Title, Author, Copyright, Notes}
use Rattle.xw_answers.specs.declared.record.Part.TheVariants as parts
use Rattle.xw_answers.specs.Record.{word_commands, text_commands, part_commands, command_lines}
use Rattle.xw_session.specs.declared.session.recording.Section.{Section}
use Rattle.xw_session.specs.declared.session.recording.Section.TheVariants as sections
use Rattle.xw_session.specs.Put.{text_of_field}
use Rattle.xw_session.specs.State.{SessionState}

abbrev pub section_commands : SessionState → Section → List Change
section_commands state sections.Words = word_commands state.begun state.engine.words
section_commands state sections.Size = Size state.engine.grid.width state.engine.grid.height ∷ []
section_commands state (sections.Cells part) = part_commands state.engine.grid state.clues state.circles part
section_commands state sections.Symmetry = ChangeSymmetry state.engine.grid.symmetry ∷ []
section_commands state (sections.Text name) = text_commands (fields.Text name) (text_of_field state.texts name)
section_commands state sections.Watch = Watch state.is_watched ∷ []

-- The order matters. Setting the size removes clues, circles, bars and the symmetry. Circles come before the blocks,
-- while every cell is open. Letters come after the blocks, and the symmetry after all blocks and bars.
abbrev pub record_sections : List Section
record_sections =
    sections.Words
    ∷ sections.Size
    ∷ sections.Cells parts.Circles
    ∷ sections.Cells (parts.Bars Right)
    ∷ sections.Cells (parts.Bars Below)
    ∷ sections.Cells parts.Blocks
    ∷ sections.Symmetry
    ∷ sections.Cells parts.Letters
    ∷ sections.Text Title
    ∷ sections.Text Author
    ∷ sections.Text Copyright
    ∷ sections.Text Notes
    ∷ sections.Cells (parts.Clues Across)
    ∷ sections.Cells (parts.Clues Down)
    ∷ sections.Watch
    ∷ []

abbrev pub record_commands : SessionState → List Change
record_commands state = flat_map (section_commands state) record_sections

abbrev pub record_lines : SessionState → List ℕ
record_lines state = command_lines (record_commands state)
