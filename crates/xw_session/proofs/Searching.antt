-- The replies of searches over named lights.
use Rattle.std.proofs.Common.{◌≤◌, ℕ, Bool, List, refl, sym, ap, inl, inr, arith}
use Rattle.std.specs.Prelude.{Some, Result, Ok, Err, IfOk, IfErr, OnOk}
use Rattle.xw_words.specs.Dictionary.{best_grade}
use Rattle.xw_grid.specs.declared.cell.LightName.{LightName}
use Rattle.xw_feas.specs.State.{State}
use Rattle.xw_feas.specs.declared.edit.Refusal.{Refusal}
use Rattle.xw_feas.specs.declared.edit.Refusal.TheVariants as edits
use Rattle.xw_best.specs.declared.best.Best.TheVariants as bests
use Rattle.xw_search.specs.NamedFill.{is_named, AreLights}
use Rattle.xw_best.specs.Best.{IsBest}
use Rattle.xw_answers.specs.declared.refusal.CommandRefusal.{CommandRefusal}
use Rattle.xw_answers.specs.declared.refusal.CommandRefusal.TheVariants as refusals
use Rattle.xw_session.specs.State.{SessionState}
use Rattle.xw_session.specs.Reply.{Reply, grid_memory}
use Rattle.xw_session.specs.NamedSearch.{IsSearchDue, IsUnsearched}
use Rattle.xw_session.specs.Answer.{IsReply, lines_reply}

-- A search gives an allowed reply. It may end with `limit`, which leaves the engine as it was.
pub search_fits : {T : Type 0} (lines : T → List ℕ) (IsEnd : (ℕ → Bool) → State → State → T → Type 0) (state : SessionState) (names : List LightName) (now : State) (result : Result T Refusal) (limit : T)
    → IsEnd (is_named state.engine names) state.engine state.engine limit
    → OnOk result (AreLights state.engine names) → IfOk result (IsEnd (is_named state.engine names) state.engine now) → IfErr result (IsUnsearched state.engine names)
    → (due : Result Reply CommandRefusal) × IsSearchDue lines IsEnd state names due × IsReply due (Some grid_memory) (lines_reply lines result (record state { engine = now }))
search_fits lines IsEnd state names now (Ok end) limit stays there done refused =
    (Ok (record { lines = lines end; state = record state { engine = now } }), record { lights = there; end = end; engine = now; done = done; is = refl }, refl)
search_fits lines IsEnd state names now (Err refusal) limit stays there done (inl none) =
    (Err (refusals.Engine edits.NoLight), (refl, none.1), inl (ap (λ (r : Refusal). Err (refusals.Engine r)) (sym none.0)))
search_fits lines IsEnd state names now (Err refusal) limit stays there done (inr short) = (
  Ok (record { lines = lines limit; state = state }),
  record { lights = short.0; end = limit; engine = state.engine; done = stays; is = refl },
  inr (refl, ap (λ (r : Refusal). Some (refusals.Engine r)) (sym short.1)),
)

-- a search for the best fill may end without any
pub best_limit : (named : ℕ → Bool) (state : State) → state.words.least ≤ best_grade → IsBest named state state (bests.Limit 101)
best_limit named state graded = (omega (arith, graded), record { within = omega arith; none = λ below. absurd (omega (arith, below)) }, refl)
