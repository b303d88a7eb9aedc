-- How a session replies to each command.
use Rattle.std.specs.Prelude.{ℕ, Bool, true, false, not, List, [], ◌∷◌, map, take, length, flat_map, codes, decimal, option_map, Option, Some, None, is_some, Result, Ok, Err, if◌then◌else◌, nat_lt}
use Rattle.std.specs.List.{list_all}
use Rattle.xw_words.specs.declared.fault.WordFault.{WordFault}
use Rattle.xw_words.specs.declared.fault.WordFault.TheVariants as words
use Rattle.xw_letters.specs.Letter.{letter_of}
use Rattle.xw_words.specs.Dictionary.{matching_answer, grade_answer}
use Rattle.xw_grid.specs.declared.cell.Cell.{Cell}
use Rattle.xw_grid.specs.declared.cell.Direction.{Direction}
use Rattle.xw_grid.specs.declared.cell.LightName.{LightName}
use Rattle.xw_grid.specs.declared.fault.GridFault.{GridFault}
use Rattle.xw_grid.specs.declared.fault.GridFault.TheVariants as grids
use Rattle.xw_grid.specs.declared.lights.Light.{Light}
use Rattle.xw_grid.specs.Grid.{Grid, is_inside, is_open, is_block, index_of, cell_at}
use Rattle.xw_grid.specs.Edit.{new_grid}
use Rattle.xw_grid.specs.Light.{lights_of, index_named}
use Rattle.xw_grid.specs.Clue.{no_clues, with_clue, is_circled, with_circle}
use Rattle.xw_feas.specs.declared.edit.Refusal.{Refusal}
use Rattle.xw_feas.specs.State.{State, Action, after, want_of as state_want_of, letter_set, cell_cleared, word_placed, list_written, block_toggled, bar_toggled, symmetry_chosen, word_added, word_struck, least_chosen}
use Rattle.xw_feas.specs.Changes.{cells_that_differ}
use Rattle.xw_search.specs.Position.{filled_in}
use Rattle.xw_search.specs.OfState.{feasible_words, feasible_letters}
use Rattle.xw_fill.specs.OfState.{found, due, end}
use Rattle.xw_fill.specs.Suggesting.{suggestion}
use Rattle.xw_search.specs.declared.filling.Filling.{Filling}
use Rattle.xw_search.specs.declared.filling.Filling.TheVariants as fillings
use Rattle.xw_search.specs.Listing.{duplicates_of, unlisted_of}
use Rattle.xw_commands.specs.declared.command.CellArg.{CellArg}
use Rattle.xw_commands.specs.declared.command.TextField.{TextField}
use Rattle.xw_commands.specs.declared.command.Command.{Command}
use Rattle.xw_commands.specs.declared.command.Command.TheVariants as commands
use Rattle.xw_commands.specs.declared.command.SyntaxFault.TheVariants as faults
use Rattle.xw_commands.specs.Command.{form_named}
use Rattle.xw_commands.specs.declared.query.Query.{Query}
use Rattle.xw_commands.specs.declared.query.Query.TheVariants as queries
use Rattle.xw_commands.specs.declared.change.Change.{Change}
use Rattle.xw_commands.specs.declared.change.Change.TheVariants as changes
use Rattle.xw_commands.specs.declared.search.Search.{Search}
use Rattle.xw_commands.specs.declared.search.Search.TheVariants as searches
use Rattle.xw_answers.specs.declared.refusal.CommandRefusal.{CommandRefusal}
use Rattle.xw_answers.specs.declared.refusal.CommandRefusal.TheVariants as refusals
use Rattle.xw_feas.specs.declared.edit.Refusal.TheVariants as edits
use Rattle.xw_commands.specs.declared.command.TextMode.{TextMode}
use Rattle.xw_commands.specs.declared.command.Field.{Field}
use Rattle.xw_session.specs.State.{SessionState, with_text_in}
pub use Rattle.xw_session.specs.State.{cell_of}
pub use Rattle.xw_answers.specs.Numbering.{name_of_light, light_named, start_named}
use Rattle.xw_answers.specs.Escape.{text_spelled, has_nul}
use Rattle.xw_session.specs.Tally.{tally_lines}
use Rattle.xw_session.specs.Erase.{erased_cells, emptied}
use Rattle.xw_session.specs.Grades.{grade_lines}
use Rattle.xw_session.specs.Unmatched.{unmatched_line}
use Rattle.xw_session.specs.Choices.{first_index, choice_lines}
use Rattle.xw_session.specs.Help.{all_forms}
use Rattle.xw_session.specs.Reports.{light_report, told_lines}
use Rattle.xw_session.specs.Put.{target_of, has_target, with_piece}
use Rattle.xw_answers.specs.Text.{word_line, light_lines, circle_lines, change_line, letters_line, counted_lines, spelled_line}
use Rattle.xw_session.specs.Found.{duplicate_line, suggestion_line}
use Rattle.xw_answers.specs.Show.{show_lines}

-- the answer lines before `ok`, and the state after the command
pub record Reply : Type 0 where
  pub lines : List ℕ
  pub state : SessionState

-- ---- the lines of a reply and the state after it

-- a command without answer lines
abbrev pub edited : SessionState → Result Reply CommandRefusal
edited state = Ok (record { lines = []; state = state })

-- lines, and the state unchanged
abbrev pub shown : SessionState → List ℕ → Result Reply CommandRefusal
shown state lines = Ok (record { lines = lines; state = state })

-- the open cells whose feasible letters changed, each with its new letters, in reading order
abbrev pub changes_between : State → State → List (Cell × List ℕ)
changes_between before after =
    map (λ index. (cell_at after.grid index, feasible_letters after index))
    (cells_that_differ after.grid (feasible_letters before) (feasible_letters after) 0)

-- the changed cells if the watch is on
abbrev pub watch_lines : SessionState → State → List ℕ
watch_lines state engine = if state.is_watched then flat_map change_line (changes_between state.engine engine) else []

-- an edit of the grid or the dictionary
abbrev pub moved : SessionState → Result State Refusal → Result Reply CommandRefusal
moved state (Ok engine) = Ok (record { lines = watch_lines state engine; state = record state { engine = engine } })
moved state (Err refusal) = Err (refusals.Engine refusal)

-- the letter is checked before the cell
abbrev pub with_letter : SessionState → CellArg → Option ℕ → Result Reply CommandRefusal
with_letter state spot None = Err (refusals.Engine (edits.Word (words.BadLetter 1)))
with_letter state spot (Some letter) = moved state (after state.engine (letter_set (cell_of spot) letter))

-- a new grid; clues and circles are removed
abbrev pub resized : SessionState → Result Grid GridFault → Result Reply CommandRefusal
resized state (Ok grid) = edited (record state { engine = record { grid = grid; words = state.engine.words }; clues = no_clues; circles = [] })
resized state (Err fault) = Err (refusals.Engine (edits.Grid fault))

abbrev pub matched : SessionState → Result (List (List ℕ)) WordFault → Result (List ℕ) CommandRefusal
matched state (Ok found) = Ok (flat_map word_line found)
matched state (Err fault) = Err (refusals.Engine (edits.Word fault))

-- the grade of a word
abbrev pub grade_told : Result ℕ WordFault → Result (List ℕ) CommandRefusal
grade_told (Ok grade) = Ok (word_line (decimal grade))
grade_told (Err fault) = Err (refusals.Engine (edits.Word fault))

-- the cells of the light are emptied in one edit
abbrev pub erased : SessionState → Option Light → Result Reply CommandRefusal
erased state None = Err (refusals.Engine edits.NoLight)
erased state (Some light) = moved state (after state.engine (list_written (emptied (erased_cells state.engine light))))

-- the clue is stored at the first cell of the light, in its direction
abbrev pub with_clue_at : SessionState → Option Cell → Direction → List ℕ → Result Reply CommandRefusal
with_clue_at state None direction text = Err (refusals.Engine edits.NoLight)
with_clue_at state (Some start) direction text = if has_nul text then Err refusals.NulByte else edited (record state { clues = with_clue state.clues start direction text })

-- the text replaces the one in the field
abbrev pub written : SessionState → TextField → List ℕ → Result Reply CommandRefusal
written state field text = if has_nul text then Err refusals.NulByte else edited (record state { texts = with_text_in state.texts field text })

-- the text of a spelling replaces the text of a field, or is appended to it; None means a wrong escape
abbrev pub put : SessionState → TextMode → Field → Option (List ℕ) → Result Reply CommandRefusal
put state putting field None = Err refusals.Escape
put state putting field (Some text) =
    if not (has_target state.engine.grid (target_of field)) then Err (refusals.Engine (edits.Grid grids.OutOfGrid))
    else if has_nul text then Err refusals.NulByte
    else edited (with_piece state putting (target_of field) text)

-- the circle of an open cell is set, or removed if it was there
abbrev pub circle_toggled : SessionState → Cell → Result Reply CommandRefusal
circle_toggled state cell =
    if not (is_inside state.engine.grid cell) then Err (refusals.Engine (edits.Grid grids.OutOfGrid))
    else if not (is_open state.engine.grid cell) then Err (refusals.Engine (edits.Grid grids.OnBlock))
    else edited (record state { circles = with_circle state.circles cell (not (is_circled state.circles cell)) })

-- the first words of a list, or all if no number is given
abbrev pub first_words : Option ℕ → List (List ℕ) → List (List ℕ)
first_words None found = found
first_words (Some most) found = take most found

-- the number of feasible words of a light, and the words that the command asks for
abbrev pub worded : SessionState → Option ℕ → Option ℕ → Result (List ℕ) CommandRefusal
worded state None most = Err (refusals.Engine edits.NoLight)
worded state (Some light) most =
    Ok (counted_lines (length (feasible_words state.engine light)) (first_words most (feasible_words state.engine light)))

-- the first feasible words of a light, from an index on, with what each leaves
abbrev pub weighed_from : SessionState → ℕ → ℕ → Result (Option ℕ) Refusal → Result (List ℕ) CommandRefusal
weighed_from state light most (Ok from) = Ok (choice_lines state.engine light from most)
weighed_from state light most (Err refusal) = Err (refusals.Engine refusal)

-- the first feasible words of a light, from a named word on, with what each leaves
abbrev pub weighed : SessionState → Option ℕ → ℕ → Option (List ℕ) → Result (List ℕ) CommandRefusal
weighed state None most first = Err (refusals.Engine edits.NoLight)
weighed state (Some light) most first = weighed_from state light most (first_index state.engine light first)

-- the grid has each of these lights
abbrev pub are_lights : Grid → List LightName → Bool
are_lights grid names = list_all (λ name. is_some (index_named (lights_of grid) name)) names

-- the grades of the words of the named lights, or of all wholly entered lights if none is named
abbrev pub graded : SessionState → List LightName → Result (List ℕ) CommandRefusal
graded state names = if are_lights state.engine.grid names then Ok (grade_lines state.engine names) else Err (refusals.Engine edits.NoLight)

-- the lines that an open cell has
abbrev pub on_open : Grid → Cell → List ℕ → Result (List ℕ) CommandRefusal
on_open grid cell lines =
    if not (is_inside grid cell) then Err (refusals.Engine (edits.Grid grids.OutOfGrid))
    else if is_block grid cell then Err (refusals.Engine (edits.Grid grids.OnBlock))
    else Ok lines

-- the form of a command, if there is one
abbrev pub form_shown : Option (List ℕ) → Result (List ℕ) CommandRefusal
form_shown None = Err (refusals.Syntax faults.Command)
form_shown (Some form) = Ok (word_line form)

-- the form of the command with this word, or the forms of all commands if no word is given
abbrev pub helped : Option (List ℕ) → Result (List ℕ) CommandRefusal
helped None = Ok all_forms
helped (Some word) = form_shown (form_named word)

abbrev pub filling_name : Filling → List ℕ
filling_name fillings.Filled = codes "filled"
filling_name fillings.NoFill = codes "nofill"
filling_name fillings.Limit = codes "limit"

abbrev pub filling_line : Filling → List ℕ
filling_line filling = word_line (filling_name filling)

-- Limit if more placements are due than allowed, Filled if a fill is found, and otherwise NoFill
abbrev pub fill_tried : SessionState → ℕ → Result Reply CommandRefusal
fill_tried state limit =
    if nat_lt limit (due state.engine) then shown state (filling_line fillings.Limit)
    else if found state.engine then Ok (record { lines = filling_line fillings.Filled; state = record state { engine = filled_in state.engine (end state.engine).board.entries } })
    else shown state (filling_line fillings.NoFill)

-- ---- queries

-- The one answer to a query if no allocation fails, or None for a query that may get one of several: `IsOneOf` of
-- `Answer.antt` has a row for each of these.
abbrev pub answer_of : SessionState → Query → Option (Result (List ℕ) CommandRefusal)
answer_of state (queries.Match pattern) = Some (matched state (matching_answer state.engine.words pattern))
answer_of state (queries.Grade word) = Some (grade_told (grade_answer state.engine.words word))
answer_of state queries.Circles = Some (Ok (circle_lines state.engine.grid state.circles))
answer_of state queries.Show = Some (Ok (show_lines state.engine.grid))
answer_of state queries.Lights = Some (Ok (light_lines state.engine.grid))
answer_of state (queries.Words named most) = Some (worded state (index_named (lights_of state.engine.grid) (name_of_light named)) most)
answer_of state (queries.Choices named most first) = Some (weighed state (index_named (lights_of state.engine.grid) (name_of_light named)) most first)
answer_of state (queries.Letters spot) = Some (on_open state.engine.grid (cell_of spot) (letters_line (feasible_letters state.engine (index_of state.engine.grid (cell_of spot)))))
answer_of state (queries.Tally spot) = Some (on_open state.engine.grid (cell_of spot) (tally_lines state.engine (cell_of spot)))
answer_of state queries.Duplicates = Some (Ok (flat_map (duplicate_line state.engine.grid) (duplicates_of state.engine)))
answer_of state queries.Unlisted = Some (Ok (flat_map (spelled_line state.engine.grid) (unlisted_of state.engine)))
answer_of state (queries.Grades lights) = Some (graded state (map name_of_light lights))
answer_of state queries.Unmatched = Some (Ok (light_report unmatched_line state.engine))
answer_of state queries.Suggest = Some (Ok (suggestion_line state.engine (suggestion state.engine)))
answer_of state (queries.Why named) = None
answer_of state (queries.Help word) = Some (helped word)
answer_of state (queries.Tell report) = Some (Ok (told_lines state report))

-- whether a query allocates, and so may be refused for memory
abbrev pub allocates : Query → Bool
allocates queries.Duplicates = true
allocates queries.Unlisted = true
allocates (queries.Why named) = true
allocates other = false

-- ---- changes

-- the reply to a change if no allocation fails
abbrev pub changed : SessionState → Change → Result Reply CommandRefusal
changed state (changes.Size width height) = resized state (new_grid width height)
changed state (changes.Symmetry kind) = moved state (after state.engine (symmetry_chosen kind))
changed state (changes.Add word grade) = moved state (after state.engine (word_added word grade))
changed state (changes.Strike word) = moved state (after state.engine (word_struck word))
changed state (changes.Least grade) = moved state (after state.engine (least_chosen grade))
changed state (changes.Set spot letter) = with_letter state spot (letter_of letter)
changed state (changes.Clear spot) = moved state (after state.engine (cell_cleared (cell_of spot)))
changed state (changes.Place named word) = moved state (after state.engine (word_placed (name_of_light named) word))
changed state (changes.Erase named) = erased state (light_named state.engine.grid named)
changed state (changes.Block spot) = moved state (after state.engine (block_toggled (cell_of spot)))
changed state (changes.Bar spot side) = moved state (after state.engine (bar_toggled (cell_of spot) side))
changed state (changes.Clue named text) = with_clue_at state (start_named state.engine.grid named) named.direction text
changed state (changes.Write field text) = written state field text
changed state (changes.Circle spot) = circle_toggled state (cell_of spot)
changed state (changes.Watch is_on) = edited (record state { is_watched = is_on })
changed state (changes.Put putting field spelling) = put state putting field (text_spelled spelling)

abbrev pub grid_memory : CommandRefusal
grid_memory = refusals.Engine (edits.Grid grids.Memory)

-- a text may need an allocation, unless it is empty
abbrev pub want_of_text : List ℕ → Option CommandRefusal
want_of_text [] = None
want_of_text (byte ∷ bytes) = Some grid_memory

abbrev pub want_of_action : SessionState → Action → Option CommandRefusal
want_of_action state action = option_map refusals.Engine (state_want_of state.engine action)

-- the refusal that a failed allocation gives, if the change may allocate
abbrev pub want_of_change : SessionState → Change → Option CommandRefusal
want_of_change state (changes.Size width height) = Some grid_memory
want_of_change state (changes.Add word grade) = want_of_action state (word_added word grade)
want_of_change state (changes.Block spot) = Some grid_memory
want_of_change state (changes.Bar spot side) = Some grid_memory
want_of_change state (changes.Clue named text) = want_of_text text
want_of_change state (changes.Write field text) = want_of_text text
want_of_change state (changes.Circle spot) = if is_circled state.circles (cell_of spot) then None else Some grid_memory
want_of_change state (changes.Put putting field spelling) = want_of_text spelling
want_of_change state other = None

-- ---- all commands

-- The one reply to a search if no allocation fails, or None for a search that may get one of several: `IsFound` of
-- `Answer.antt` has a row for each of these.
abbrev pub searched : SessionState → Search → Option (Result Reply CommandRefusal)
searched state (searches.Fill limit) = Some (fill_tried state limit)
searched state (searches.Autofill limit seed lights) = None
searched state (searches.Best limit seed lights) = None

-- the answer to a query as a reply: the state stays as it was
abbrev pub asked : SessionState → Result (List ℕ) CommandRefusal → Result Reply CommandRefusal
asked state (Ok lines) = shown state lines
asked state (Err refusal) = Err refusal

-- the one reply to a command if no allocation fails, or None if the command may get one of several
abbrev pub reply_to : SessionState → Command → Option (Result Reply CommandRefusal)
reply_to state (commands.Ask query) = option_map (asked state) (answer_of state query)
reply_to state (commands.Change change) = Some (changed state change)
reply_to state (commands.Search search) = searched state search

-- the refusal that a failed allocation gives, if the command may allocate
abbrev pub want_of : SessionState → Command → Option CommandRefusal
want_of state (commands.Ask query) = if allocates query then Some grid_memory else None
want_of state (commands.Change change) = want_of_change state change
want_of state (commands.Search search) = Some grid_memory
