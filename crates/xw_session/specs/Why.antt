-- What a session may answer to why, which has more than one allowed answer.
use Rattle.std.specs.Prelude.{◌≡◌, ◌⊎◌, ℕ, ◌*◌, false, List, flat_map, Option, None, Result, Ok, Err}
use Rattle.std.specs.List.{range_with_len}
use Rattle.xw_grid.specs.declared.cell.LightName.{LightName}
use Rattle.xw_grid.specs.Grid.{Grid, cell_at}
use Rattle.xw_grid.specs.Light.{lights_of, index_named}
use Rattle.xw_grid.specs.declared.fault.GridFault.TheVariants as grids
use Rattle.xw_fill.specs.declared.why.NoReason.{NoReason}
use Rattle.xw_fill.specs.declared.why.NoReason.TheVariants as reasons
use Rattle.xw_fill.specs.Reason.{entry_in, IsReasonOf, IsLight}
use Rattle.xw_answers.specs.declared.refusal.CommandRefusal.{CommandRefusal}
use Rattle.xw_answers.specs.declared.refusal.CommandRefusal.TheVariants as refusals
use Rattle.xw_feas.specs.declared.edit.Refusal.TheVariants as edits
use Rattle.xw_answers.specs.Text.{entry_line}
use Rattle.xw_session.specs.State.{SessionState}

-- the line of a cell with an entry, by the cell's index in reading order
abbrev pub entry_told : Grid → List (Option ℕ) → ℕ → List ℕ
entry_told grid entries index = entry_line (cell_at grid index) (entry_in entries index)

-- each cell that has an entry, in reading order
abbrev pub entry_lines : Grid → List (Option ℕ) → List ℕ
entry_lines grid entries = flat_map (entry_told grid entries) (range_with_len 0 (grid.width * grid.height))

-- the lines name the entries of a reason
pub record IsWhyTold (state : SessionState) (name : LightName) (lines : List ℕ) : Type 0 where
  pub entries : List (Option ℕ)
  pub reason : IsReasonOf state.engine name entries
  pub is : lines ≡ entry_lines state.engine.grid entries

-- no light has this name, or it has a feasible word
abbrev pub IsWhyRefusal : SessionState → LightName → CommandRefusal → Type 0
IsWhyRefusal state name refusal =
    ((refusal ≡ refusals.Engine edits.NoLight) × (index_named (lights_of state.engine.grid) name ≡ None)) ⊎ ((refusal ≡ refusals.Alive) × IsLight state.engine name false)

-- an answer that why may get if no allocation fails: a reason, or why there is none
abbrev pub IsWhyAnswer : SessionState → LightName → Result (List ℕ) CommandRefusal → Type 0
IsWhyAnswer state name (Ok lines) = IsWhyTold state name lines
IsWhyAnswer state name (Err refusal) = IsWhyRefusal state name refusal

-- the refusal where there is no reason
abbrev pub refusal_without_reason : NoReason → CommandRefusal
refusal_without_reason reasons.NoLight = refusals.Engine edits.NoLight
refusal_without_reason reasons.Alive = refusals.Alive
refusal_without_reason reasons.Memory = refusals.Engine (edits.Grid grids.Memory)
