-- The lines of the reports on the whole puzzle.
use Rattle.std.specs.Prelude.{ℕ, List, [], ◌∷◌, ◌++◌, length, flat_map, slice_index_or, Option, Some, None, if◌then◌else◌, nat_lt}
use Rattle.std.specs.List.{range_with_len}
use Rattle.xw_grid.specs.declared.cell.Cell.{Cell}
use Rattle.xw_grid.specs.declared.lights.Light.{Light}
use Rattle.xw_grid.specs.Grid.{is_open, index_of, cells}
use Rattle.xw_grid.specs.Light.{lights_of, no_light}
use Rattle.xw_feas.specs.State.{State}
use Rattle.xw_search.specs.OfState.{feasible_words, feasible_letters}
use Rattle.xw_commands.specs.declared.query.Report.{Report}
use Rattle.xw_commands.specs.declared.query.Report.TheVariants.{Cells, Counts, Texts, Stats, Longest, Record}
use Rattle.xw_session.specs.State.{SessionState}
use Rattle.xw_session.specs.Record.{record_lines}
use Rattle.xw_answers.specs.Stats.{stat_lines}
use Rattle.xw_answers.specs.Text.{change_line, numbered_line}
use Rattle.xw_answers.specs.Fields.{field_lines, clue_lines}

-- an open cell with its feasible letters, in the form of the watch; nothing for a block
abbrev pub letters_told : State → Cell → List ℕ
letters_told engine cell = if is_open engine.grid cell then change_line (cell, feasible_letters engine (index_of engine.grid cell)) else []

-- all open cells, in reading order
abbrev pub cell_lines : State → List ℕ
cell_lines engine = flat_map (letters_told engine) (cells engine.grid)

-- the light at an index, with the number of its feasible words
abbrev pub count_line : State → ℕ → List ℕ
count_line engine index = numbered_line (slice_index_or (lights_of engine.grid) index no_light).name (length (feasible_words engine index))

-- the lines of a report that says something of each light, in order
abbrev pub light_report : (State → ℕ → List ℕ) → State → List ℕ
light_report line engine = flat_map (line engine) (range_with_len 0 (length (lights_of engine.grid)))

-- the texts, and the clues of the lights
abbrev pub text_lines : SessionState → List ℕ
text_lines state = field_lines state.texts ++ clue_lines state.clues state.engine.grid

-- the second light if it is longer, and otherwise the first
abbrev pub unless_longer : Light → Option Light → Option Light
unless_longer light None = Some light
unless_longer light (Some other) = if nat_lt light.size other.size then Some other else Some light

-- the first of the longest lights, if there is any: no light is longer, and each light before it is shorter
abbrev pub longest : List Light → Option Light
longest [] = None
longest (light ∷ lights) = unless_longer light (longest lights)

-- the line of a light with its length; nothing if there is no light
abbrev pub longest_line : Option Light → List ℕ
longest_line None = []
longest_line (Some light) = numbered_line light.name light.size

-- the lines of a report
abbrev pub told_lines : SessionState → Report → List ℕ
told_lines state Cells = cell_lines state.engine
told_lines state Counts = light_report count_line state.engine
told_lines state Texts = text_lines state
told_lines state Stats = stat_lines state.engine.grid
told_lines state Longest = longest_line (longest (lights_of state.engine.grid))
told_lines state Record = record_lines state
