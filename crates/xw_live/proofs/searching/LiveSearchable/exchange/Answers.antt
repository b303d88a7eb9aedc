use Rattle.std.proofs.Common.{◌≡◌, length, refl, sym, ap, ◌∙◌, subst}
use Rattle.xw_words.specs.Dictionary.{Dictionary, with_least}
use Rattle.xw_feas.specs.State.{State}
use Rattle.xw_feas.specs.EngineState.{state_of as position_state_of}
use Rattle.xw_net.specs.Net.{sets_of}
use Rattle.xw_net.specs.declared.net.Net.{Net}
use Rattle.xw_live.specs.Engine.{IsKept}
use Rattle.xw_grid.specs.EditLaws.{SameShape}
use Rattle.xw_live.specs.Levels.{AreRemembered}
use Rattle.xw_live.specs.Live.{state_of}
use Rattle.xw_live.specs.Saved.{saved_state}
use Rattle.xw_feas.proofs.ShapeLemmas.{SameShape-turned}
use Rattle.xw_feas.proofs.SnapshotLemmas.{saved_again}
use Rattle.xw_live.proofs.Placements.{levels_none, made_sizes, sizes_moved}
use Rattle.xw_live.proofs.Saving.{kept_same, kept_moved, formed_moved, same_sets}
use Rattle.xw_live.proofs.Remembered.{remembered_saved}
use Rattle.xw_live.proofs.searching.LiveSearchable.exchange.Goals as goal

pub exchange-requires : goal.exchange-requires
exchange-requires c = SameShape-turned c.args.snapshot.now.grid c.args.self.now.position.grid c.requires.shape

-- where it leads
pub returns-clause-now : goal.returns-clause-now
returns-clause-now c =
    let live = c.args.self.now in
    let snapshot = c.args.snapshot.now in
    c.choose_least.ensures
    ∙ ap (λ (state : State). record { grid = state.grid; words = with_least snapshot.least state.words }) c.exchange.ensures.now
    ∙ ap (λ (words : Dictionary). record { grid = snapshot.grid; words = words }) (saved_again (saved_state snapshot) (state_of live) snapshot.least snapshot.formed snapshot.same_least c.requires)

pub invariant_of-self-2 : goal.invariant_of-self-2
invariant_of-self-2 c =
    let live = c.args.self.now in
    let snapshot = c.args.snapshot.now in
    let was = state_of live in
    let saved : State = record { grid = c.args.snapshot.now.grid; words = c.args.snapshot.now.bank.value.words } in
    let is : position_state_of c.choose_least.new.self ≡ saved =
    c.choose_least.ensures
    ∙ ap (λ (state : State). record { grid = state.grid; words = with_least c.args.snapshot.now.least state.words }) c.exchange.ensures.now
    ∙ ap (λ (words : Dictionary). record { grid = c.args.snapshot.now.grid; words = words }) (saved_again saved was snapshot.least snapshot.formed snapshot.same_least c.requires) in
    let spare = c.clear_between.ensures.spare live.position.grid (made_sizes was live.levels live.net live.levels_kept) live.levels_kept.spare in
    let shape : SameShape c.choose_least.new.self.grid c.args.self.now.position.grid = subst (λ (state : State). SameShape state.grid c.args.self.now.position.grid) (sym is) c.requires.shape in
    record {
      kept = subst (λ (state : State). IsKept state c.swap.new.x) (sym is) (kept_moved refl c.swap.ensures.x_after snapshot.kept);
      levels_kept = levels_none (position_state_of c.choose_least.new.self) c.clear_between.new.self c.swap.new.x c.clear_between.ensures.made (sizes_moved live.position.grid c.choose_least.new.self.grid c.clear_between.new.self.spare.items shape.cells spare)
          (subst (λ (state : State). AreRemembered state c.clear_between.new.self.trail.seen.items) (sym is) (remembered_saved saved was live.levels.trail.seen.items c.clear_between.new.self.trail.seen.items c.requires c.clear_between.ensures.kept c.clear_between.ensures.forgotten live.levels_kept.seen));
      same_cells = live.same_cells ∙ same_sets saved was c.requires live.net snapshot.net live.kept snapshot.kept ∙ sym (ap (λ (net : Net). length (sets_of net)) c.swap.ensures.x_after);
    }

pub invariant_of-snapshot : goal.invariant_of-snapshot
invariant_of-snapshot c =
    let live = c.args.self.now in
    let words = sym (ap (λ bank. bank.words) c.of-bank.ensures) in
    record {
      kept = kept_moved c.exchange.ensures.before c.swap.ensures.y_after (kept_same live.position.grid live.net words live.kept);
      formed = formed_moved c.exchange.ensures.before words live.position.formed;
      same_least = c.least-least.ensures.least ∙ sym (ap (λ bank. bank.words.least) c.of-bank.ensures);
    }
