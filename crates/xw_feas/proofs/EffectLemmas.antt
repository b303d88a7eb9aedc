-- What a position notes of an edit.
use Rattle.std.proofs.Common.{◌≡◌, ◌<◌, ℕ, false, List, [], ◌∷◌, length, map, get_or, Some, None, refl, sym, ap, subst}
use Rattle.std.specs.Prelude.{Option, Ok}
use Rattle.xw_words.specs.Dictionary.{Dictionary, known_words}
use Rattle.xw_grid.specs.declared.cell.Cell.{Cell}
use Rattle.xw_grid.specs.declared.cell.Symmetry.{Symmetry}
use Rattle.xw_grid.specs.declared.lights.Light.{Light}
use Rattle.xw_grid.specs.EditLaws.{SameShape}
use Rattle.xw_grid.specs.Grid.{Grid}
use Rattle.xw_grid.specs.Light.{lights_of, cells_of, no_light}
use Rattle.xw_feas.specs.declared.effect.Effect.TheVariants.{Cells}
use Rattle.xw_feas.specs.declared.engine_state.EngineState.{EngineState}
use Rattle.xw_feas.specs.EngineState.{state_of}
use Rattle.xw_feas.specs.State.{State, Action, after, grid_after, entered, word_placed, symmetry_chosen}
use Rattle.xw_feas.specs.Effect.{Tells, KeepsAnswers, IsToldBy, IsCommitted, fields_by}
use Rattle.xw_feas.specs.Written.{Fields, with_entry_of, entries_written, cells_named}
use Rattle.xw_feas.proofs.Idle.{symmetry_is_idle}
use Rattle.xw_feas.proofs.JudgeLemmas.{with_grid-Ok}
use Rattle.xw_feas.proofs.LightsLemmas.{found_by_name}

-- an edit of the symmetry changes no answer
pub symmetry_keeps : (state : State) (kind : Symmetry) (next : State) → after state (symmetry_chosen kind) ≡ Ok next → KeepsAnswers state next
symmetry_keeps state kind next ok = let parts = with_grid-Ok state next (grid_after state.grid (symmetry_chosen kind)) ok in record { layout = symmetry_is_idle state.grid kind next.grid parts.0; words = parts.1 }

-- an entry tells its cell
pub entered_told : (before : State) (lights : List Light) → lights ≡ lights_of before.grid → (cell : Cell) (letter : Option ℕ) (written : List (Cell × Option ℕ)) → written ≡ with_entry_of before.grid cell ∷ []
    → Tells before (entered cell letter) (record { cells = written; before = lights; word = None; turned = λ len. false; back = false })
entered_told before lights are cell (Some letter) written is = record { cells = is; lights = are; word = refl; turned = λ len. refl; back = refl; altered = refl }
entered_told before lights are cell None written is = record { cells = is; lights = are; word = refl; turned = λ len. refl; back = refl; altered = refl }

-- the cells of a light, by the light's name
pub light_written : (grid : Grid) (light : ℕ) (word : List ℕ) → light < length (lights_of grid) → map (with_entry_of grid) (cells_of (get_or (lights_of grid) light no_light)) ≡ entries_written grid (word_placed (get_or (lights_of grid) light no_light).name word)
light_written grid light word below = sym (ap (λ index. map (with_entry_of grid) (cells_named grid index)) (found_by_name grid light no_light below))

-- an edit that wrote cells was committed
pub written_committed : (before now : EngineState) (action : Action) → after (state_of before) action ≡ Ok (state_of now) → now.lights ≡ before.lights → now.bank.words ≡ before.bank.words → SameShape before.grid now.grid
    → now.notes.effect ≡ Cells → Tells (state_of before) action (fields_by now.lights now.notes Cells) → IsCommitted before now action
written_committed before now action made lights words shape effect told = record {
  made = made;
  lights = lights;
  shape = shape;
  counts = λ len. ap (λ (words : Dictionary). length (known_words words len)) words;
  told = subst (IsToldBy (state_of before) (state_of now) now.lights now.notes action) (sym effect) told;
}
