use Rattle.std.proofs.Common.{length, sym, ◌∙◌, ap, subst}
use Rattle.std.specs.Prelude.{is_some}
use Rattle.std.proofs.lemmas.Bool.{false≢true}
use Rattle.xw_feas.specs.Pending.{pending_action}
use Rattle.xw_feas.specs.EngineState.{state_of as position_state_of}
use Rattle.xw_feas.specs.State.{State}
use Rattle.xw_feas.specs.Effect.{fields_of}
use Rattle.xw_net.specs.Change.{IsChange}
use Rattle.xw_live.specs.Engine.{IsKept}
use Rattle.xw_live.specs.Levels.{AreRemembered}
use Rattle.xw_live.specs.Live.{state_of}
use Rattle.xw_live.proofs.Following.{something_told, nothing_told, change_told, kept_unchanged, same_cells_kept}
use Rattle.xw_live.proofs.Keeping.{kept_alike, settled_alike}
use Rattle.xw_live.proofs.Placements.{levels_none, spare_cleared}
use Rattle.xw_live.proofs.Remembered.{remembered_edited, remembered_unmade}
use Rattle.xw_live.proofs.live.Live.make.Goals as goal

-- no allocation has changed the state
pub invariant_of-self : goal.invariant_of-self
invariant_of-self c =
    let old = c.args.self.now in
    record {
      kept = subst (λ (s : State). IsKept s c.apply.new.net) (sym c.in_err-apply.ensures.same) (kept_alike (state_of old) old.net c.apply.new.net c.apply.ensures.alike (ap is_some c.in_err-apply.ensures.spare ∙ old.kept.none_waits) old.kept);
      levels_kept = levels_none (position_state_of c.apply.new.position) c.clear_before.new.self c.apply.new.net c.clear_before.ensures.made (spare_cleared (state_of old) old.levels c.clear_before.new.self old.net c.apply.new.position.grid old.levels_kept c.clear_before.ensures.spare (ap (λ (s : State). length s.grid.squares) (sym c.in_err-apply.ensures.same)))
          (subst (λ (s : State). AreRemembered s c.clear_before.new.self.trail.seen.items) (sym c.in_err-apply.ensures.same) (remembered_unmade (state_of old) c.args.edit.now old.levels.trail.seen.items c.clear_before.new.self.trail.seen.items c.clear_before.ensures.seen old.levels_kept.seen));
      same_cells = old.same_cells ∙ ap length (sym c.apply.ensures.alike.sets);
    }

-- no answer changes
pub invariant_of-self-then-is_idle : goal.invariant_of-self-then-is_idle
invariant_of-self-then-is_idle c =
    let old = c.args.self.now in
    let now = c.apply.new.position in
    let action = pending_action (state_of old) c.args.edit.now in
    let none = sym c.is_idle.ensures ∙ c.if-is_idle.true in
    let keeps = nothing_told (state_of old) (position_state_of now) now.lights now.notes action now.notes.effect none c.in_ok-apply.ensures.told in
    let kept : IsKept (position_state_of c.apply.new.position) c.apply.new.net = kept_unchanged old.position now action old.net old.kept c.in_ok-apply.ensures.made c.apply.new.net c.apply.ensures.alike (c.in_ok-apply.ensures.waits none) keeps in
    record {
      kept = kept;
      levels_kept = levels_none (position_state_of c.apply.new.position) c.clear_before.new.self c.apply.new.net c.clear_before.ensures.made (spare_cleared (state_of old) old.levels c.clear_before.new.self old.net now.grid old.levels_kept c.clear_before.ensures.spare (sym c.in_ok-apply.ensures.cells))
          (remembered_edited (state_of old) (position_state_of now) c.args.edit.now old.levels.trail.seen.items c.clear_before.new.self.trail.seen.items old.position.formed c.requires c.in_ok-apply.ensures.made c.in_ok-apply.ensures.shape c.clear_before.ensures.seen old.levels_kept.seen);
      same_cells = same_cells_kept old.position now action old.net old.kept c.in_ok-apply.ensures.made c.apply.new.net c.apply.new.net c.keep_letters.new.before.items c.apply.ensures.alike c.keep_letters.ensures c.in_ok-apply.ensures.cells kept;
    }

-- an answer may change
pub settle-self-requires : goal.settle-self-requires
settle-self-requires c = c.in_ok-apply.ensures.follow (sym c.is_idle.ensures ∙ c.if-is_idle.false)

pub invariant_of-self-2 : goal.invariant_of-self-2
invariant_of-self-2 c =
    let old = c.args.self.now in
    let now = c.apply.new.position in
    let action = pending_action (state_of old) c.args.edit.now in
    let made = c.in_ok-apply.ensures.made in
    let tells = something_told (state_of old) (position_state_of now) now.lights now.notes action now.notes.effect (sym c.is_idle.ensures ∙ c.if-is_idle.false) c.in_ok-apply.ensures.told in
    let change : IsChange (state_of c.args.self.now) (position_state_of c.apply.new.position) action (fields_of now.lights now.notes) = change_told old.position now action old.net old.kept made (fields_of now.lights now.notes) tells in
    let kept : IsKept (position_state_of c.apply.new.position) c.settle-self.new.net = c.settle-self.ensures.kept (state_of old) action change (settled_alike (state_of old) old.net c.apply.new.net c.apply.ensures.alike old.kept.settled) in
    record {
      kept = kept;
      levels_kept = levels_none (position_state_of c.apply.new.position) c.clear_before.new.self c.settle-self.new.net c.clear_before.ensures.made (spare_cleared (state_of old) old.levels c.clear_before.new.self old.net now.grid old.levels_kept c.clear_before.ensures.spare (sym c.in_ok-apply.ensures.cells))
          (remembered_edited (state_of old) (position_state_of now) c.args.edit.now old.levels.trail.seen.items c.clear_before.new.self.trail.seen.items old.position.formed c.requires c.in_ok-apply.ensures.made c.in_ok-apply.ensures.shape c.clear_before.ensures.seen old.levels_kept.seen);
      same_cells = same_cells_kept old.position now action old.net old.kept made c.apply.new.net c.settle-self.new.net c.keep_letters.new.before.items c.apply.ensures.alike c.keep_letters.ensures c.in_ok-apply.ensures.cells kept;
    }

pub returns-clause-done : goal.returns-clause-done
returns-clause-done c =
    let old = c.args.self.now in
    let now = c.apply.new.position in
    let action = pending_action (state_of old) c.args.edit.now in
    let made = c.in_ok-apply.ensures.made in
    let tells = something_told (state_of old) (position_state_of now) now.lights now.notes action now.notes.effect (sym c.is_idle.ensures ∙ c.if-is_idle.false) c.in_ok-apply.ensures.told in
    let change : IsChange (state_of c.args.self.now) (position_state_of c.apply.new.position) action (fields_of now.lights now.notes) = change_told old.position now action old.net old.kept made (fields_of now.lights now.notes) tells in
    record {
      made = made;
      letters = c.keep_letters.ensures ∙ c.apply.ensures.alike.sets;
      cost = c.settle-self.ensures.cost (state_of old) action change (settled_alike (state_of old) old.net c.apply.new.net c.apply.ensures.alike old.kept.settled);
      risen = c.settle-self.ensures.risen;
    }

-- an edit of the symmetry changes none
pub returns-clause-symmetry : goal.returns-clause-symmetry
returns-clause-symmetry c = λ is.
    let old = c.args.self.now in
    let now = c.apply.new.position in
    let tells = something_told (state_of old) (position_state_of now) now.lights now.notes (pending_action (state_of old) c.args.edit.now) now.notes.effect (sym c.is_idle.ensures ∙ c.if-is_idle.false) c.in_ok-apply.ensures.told in
    absurd (false≢true (sym tells.altered ∙ is))
