use Rattle.std.proofs.Common.{sym, ap, subst, ◌∙◌}
use Rattle.std.specs.Prelude.{is_some}
use Rattle.xw_grid.specs.Grid.{Grid}
use Rattle.xw_live.specs.Engine.{IsKept}
use Rattle.xw_live.specs.Live.{state_of}
use Rattle.xw_live.specs.Saved.{saved_state}
use Rattle.xw_live.proofs.Saving.{kept_copy, kept_same, formed_moved, can_copy}
use Rattle.xw_live.proofs.searching.LiveSearchable.save.Goals as goal

pub copy_from-requires : goal.copy_from-requires
copy_from-requires c =
    let live = c.args.self.now in
    let kept = c.args.snapshot.now in
    can_copy (saved_state kept) (state_of live) c.requires live.net kept.net live.kept kept.kept live.position.lights live.position.light_list

pub invariant_of-snapshot : goal.invariant_of-snapshot
invariant_of-snapshot c =
    let live = c.args.self.now in
    let net = c.copy_from.new.self in
    let copied : IsKept (state_of c.args.self.now) c.copy_from.new.self =
    kept_copy (state_of live) live.net net live.position.lights live.position.light_list c.copy_from.ensures.copied (ap is_some c.copy_from.ensures.spare ∙ c.args.snapshot.now.kept.none_waits) live.kept in
    record {
      kept = subst (λ (grid : Grid). IsKept (record { grid = grid; words = c.of.result.value.words }) c.copy_from.new.self) (sym c.copy_from-2.ensures)
          (kept_same live.position.grid net (sym (ap (λ bank. bank.words) c.of.ensures)) copied);
      formed = formed_moved c.copy_from-2.ensures (sym (ap (λ bank. bank.words) c.of.ensures)) live.position.formed;
      same_least = c.least-snapshot.ensures.least ∙ sym (ap (λ bank. bank.words.least) c.of.ensures);
    }
