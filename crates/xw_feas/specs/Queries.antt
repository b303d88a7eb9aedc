-- What the queries of an engine return, from the answers.
use Rattle.std.specs.Prelude.{◌≡◌, ℕ, ◌+◌, Bool, not, cond, ◌&&◌, ◌==◌, List, [], drop, length, slice_index, slice_index_or, count_by, position, Option, Some, None, option_map, Result, Ok, Err, if◌then◌else◌}
use Rattle.xw_letters.specs.LetterSet.{letters_in}
use Rattle.xw_words.specs.Dictionary.{Entry, Dictionary, known_words}
use Rattle.xw_grid.specs.declared.cell.Cell.{Cell}
use Rattle.xw_grid.specs.declared.cell.LightName.{LightName}
use Rattle.xw_grid.specs.declared.fault.GridFault.TheVariants as grids
use Rattle.xw_grid.specs.Grid.{Grid, is_inside, is_block, index_of}
use Rattle.xw_grid.specs.Light.{lights_of, index_named}
use Rattle.xw_feas.specs.Board.{Board, board_of, light_at, is_wholly_entered, spelled}
use Rattle.xw_feas.specs.Feasible.{Answers, answers_word}
use Rattle.xw_feas.specs.Changes.{letters_of}
use Rattle.xw_feas.specs.State.{State}
use Rattle.xw_feas.specs.declared.edit.Found.{Found}
use Rattle.xw_feas.specs.declared.edit.Found.TheVariants.{Listed, Entered}
use Rattle.xw_feas.specs.declared.edit.Refusal.{Refusal}
use Rattle.xw_feas.specs.declared.edit.Refusal.TheVariants as refusals

-- the words of a light in the answers
abbrev pub words_of : Answers → ℕ → List (List ℕ)
words_of answers light = slice_index_or answers.words light []

-- the number of words of a light in the answers that have the letter at a position
abbrev pub tally_of : Answers → ℕ → ℕ → ℕ → ℕ
tally_of answers light k letter = count_by (λ word. slice_index word k == letter) (words_of answers light)

-- whether a known word is active and in the answers for the light
abbrev pub is_active_answer : Answers → ℕ → Entry → Bool
is_active_answer answers light word = word.active && answers_word answers light word.word

-- the first feasible word of the light whose index is at least `from`; a wholly entered light has only
-- its entered word, at index 0
abbrev pub next_found : Board → Dictionary → Answers → ℕ → ℕ → Option Found
next_found board dictionary answers light from =
    cond (is_wholly_entered board (light_at board light))
    (cond (from == 0 && answers_word answers light (spelled board (light_at board light))) (Some Entered) None)
    (option_map (λ index. Listed (from + index)) (position (is_active_answer answers light) (drop from (known_words dictionary (length (light_at board light))))))

-- an answer about the light with a name; `NoLight` if there is none
abbrev pub on_light : {X : Type 0} → (ℕ → X) → Option ℕ → Result X Refusal
on_light answer None = Err refusals.NoLight
on_light answer (Some light) = Ok (answer light)

-- the number of feasible words of a light
abbrev pub count_answer : State → Answers → LightName → Result ℕ Refusal
count_answer state answers name = on_light (λ light. length (words_of answers light)) (index_named (lights_of state.grid) name)

-- the feasible words of a light
abbrev pub words_answer : State → Answers → LightName → Result (List (List ℕ)) Refusal
words_answer state answers name = on_light (words_of answers) (index_named (lights_of state.grid) name)

-- the first feasible word of a light whose index is at least `from`
abbrev pub next_answer : State → Answers → LightName → ℕ → Result (Option Found) Refusal
next_answer state answers name from =
    on_light (λ light. next_found (board_of state.grid) state.words answers light from) (index_named (lights_of state.grid) name)

-- the refusal of a query about a cell outside the grid or a block; otherwise the answer
abbrev pub cell_judged : {X : Type 0} → Grid → Cell → X → Result X Refusal
cell_judged grid cell good =
    if not (is_inside grid cell) then Err (refusals.Grid grids.OutOfGrid)
    else if is_block grid cell then Err (refusals.Grid grids.OnBlock)
    else Ok good

-- the result is the set of the cell's feasible letters, or the refusal of a cell outside the grid
-- or a block
abbrev pub AreLetters : State → Answers → Cell → Result ℕ Refusal → Type 0
AreLetters state answers cell (Ok set) = cell_judged state.grid cell (letters_of answers (index_of state.grid cell)) ≡ Ok (letters_in set)
AreLetters state answers cell (Err refusal) = cell_judged state.grid cell (letters_of answers (index_of state.grid cell)) ≡ Err refusal
