-- The lines of grades.
use Rattle.std.specs.Prelude.{ℕ, List, [], ◌∷◌, flat_map, if◌then◌else◌}
use Rattle.std.specs.Option.{option_and_then}
use Rattle.xw_grid.specs.declared.cell.LightName.{LightName}
use Rattle.xw_grid.specs.Light.{lights_of, index_named}
use Rattle.xw_feas.specs.State.{State}
use Rattle.xw_search.specs.Position.{name_at}
use Rattle.xw_search.specs.OfState.{is_entered, grade_of}
use Rattle.xw_answers.specs.Text.{grade_line}
use Rattle.xw_session.specs.Reports.{light_report}

-- the line of a wholly entered light; nothing for any other light
abbrev pub entered_line : State → ℕ → List ℕ
entered_line engine light = if is_entered engine light then grade_line (name_at engine light) (grade_of engine light) else []

-- the line of the light with this name, with a dash if it is not wholly entered
abbrev pub named_line : State → LightName → List ℕ
named_line engine name = grade_line name (option_and_then (grade_of engine) (index_named (lights_of engine.grid) name))

-- the lines of the named lights, or of all wholly entered lights if none is named
abbrev pub grade_lines : State → List LightName → List ℕ
grade_lines engine [] = light_report entered_line engine
grade_lines engine (name ∷ names) = flat_map (named_line engine) (name ∷ names)
