-- The replies of why.
use Rattle.std.proofs.Common.{◌≡◌, ℕ, Some, refl, ap, inl, inr, IfOk, IfErr, Vec, Global}
use Rattle.std.specs.Prelude.{List, Option, Result, Ok, Err}
use Rattle.xw_grid.specs.declared.cell.LightName.{LightName}
use Rattle.xw_grid.specs.Grid.{Grid}
use Rattle.xw_search.specs.Position.{position_of}
use Rattle.xw_fill.specs.declared.why.NoReason.{NoReason}
use Rattle.xw_fill.specs.declared.why.NoReason.TheVariants as reasons
use Rattle.xw_fill.specs.Reason.{IsReasonOf, IsRefused}
use Rattle.xw_fill.proofs.ReasonExists.{reason_exists}
use Rattle.xw_answers.specs.declared.refusal.CommandRefusal.{CommandRefusal}
use Rattle.xw_answers.specs.declared.refusal.CommandRefusal.TheVariants as refusals
use Rattle.xw_feas.specs.declared.edit.Refusal.TheVariants as edits
use Rattle.xw_session.specs.State.{SessionState}
use Rattle.xw_session.specs.Reply.{asked, grid_memory}
use Rattle.xw_session.specs.Why.{entry_lines, IsWhyAnswer}
use Rattle.xw_session.specs.Answer.{IsReply, why_reply, state_after}

-- a search for a reason gives an allowed answer
pub why_fits : (state : SessionState) (name : LightName) (grid : Grid) (result : Result (Vec (Option ℕ) Global) NoReason) → grid ≡ state.engine.grid
    → IfOk result (λ entries. IsReasonOf state.engine name entries.items) → IfErr result (IsRefused state.engine name)
    → (answer : Result (List ℕ) CommandRefusal) × IsWhyAnswer state name answer × IsReply (asked state answer) (Some grid_memory) (why_reply grid result state)
why_fits state name grid (Ok entries) is done refused = (
  Ok (entry_lines grid entries.items),
  record { entries = entries.items; reason = done; is = ap (λ (g : Grid). entry_lines g entries.items) is },
  refl,
)
why_fits state name grid (Err reasons.NoLight) is done refused = (Err (refusals.Engine edits.NoLight), inl (refl, refused), inl refl)
why_fits state name grid (Err reasons.Alive) is done refused = (Err refusals.Alive, inr (refl, refused), inl refl)
why_fits state name grid (Err reasons.Memory) is done refused =
    let found = reason_exists (position_of state.engine) refused.0 refused.2 in (
      Ok (entry_lines state.engine.grid found.0),
      record { entries = found.0; reason = (refused.0, refused.1, found.1); is = refl },
      inr (refl, refl),
    )

-- and changes nothing
pub why_effect : (state : SessionState) (grid : Grid) (result : Result (Vec (Option ℕ) Global) NoReason) → state ≡ state_after state (why_reply grid result state)
why_effect state grid (Ok entries) = refl
why_effect state grid (Err refusal) = refl
