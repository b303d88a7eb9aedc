-- What a session may answer to a search over named lights, which has more than one allowed reply.
use Rattle.std.specs.Prelude.{◌≡◌, ◌⊎◌, ℕ, Bool, List, map, Result, Ok, Err}
use Rattle.xw_grid.specs.declared.cell.LightName.{LightName}
use Rattle.xw_grid.specs.declared.fault.GridFault.TheVariants as grids
use Rattle.xw_feas.specs.State.{State}
use Rattle.xw_feas.specs.declared.edit.Refusal.{Refusal}
use Rattle.xw_feas.specs.declared.edit.Refusal.TheVariants as edits
use Rattle.xw_search.specs.NamedFill.{IsNoLight, is_named, AreLights}
use Rattle.xw_commands.specs.declared.command.LightArg.{LightArg}
use Rattle.xw_answers.specs.declared.refusal.CommandRefusal.{CommandRefusal}
use Rattle.xw_answers.specs.declared.refusal.CommandRefusal.TheVariants as refusals
use Rattle.xw_session.specs.State.{SessionState}
use Rattle.xw_session.specs.Reply.{Reply, name_of_light}

abbrev pub names_of : List LightArg → List LightName
names_of lights = map name_of_light lights

-- why such a search is refused: some name belongs to no light, or all do and an allocation failed
abbrev pub IsUnsearched : State → List LightName → Refusal → Type 0
IsUnsearched engine names refusal = IsNoLight engine names refusal ⊎ (AreLights engine names × (refusal ≡ edits.Grid grids.Memory))

-- The reply to a search of the named lights: it has the lines of one way in which the search may end, and a state that
-- this end may leave. `IsEnd named before after end` says what an end means.
pub record IsSearchReply {T : Type 0} (lines : T → List ℕ) (IsEnd : (ℕ → Bool) → State → State → T → Type 0) (state : SessionState) (names : List LightName) (reply : Reply) : Type 0 where
  pub lights : AreLights state.engine names
  pub end : T
  pub engine : State
  pub done : IsEnd (is_named state.engine names) state.engine engine end
  pub is : reply ≡ record { lines = lines end; state = record state { engine = engine } }

-- a reply that the search may get if no allocation fails: such a reply, or NoLight if a name in the list belongs to no
-- light
abbrev pub IsSearchDue : {T : Type 0} → (T → List ℕ) → ((ℕ → Bool) → State → State → T → Type 0) → SessionState → List LightName → Result Reply CommandRefusal → Type 0
IsSearchDue lines IsEnd state names (Ok reply) = IsSearchReply lines IsEnd state names reply
IsSearchDue lines IsEnd state names (Err refusal) = (refusal ≡ refusals.Engine edits.NoLight) × (AreLights state.engine names → ⊥)
