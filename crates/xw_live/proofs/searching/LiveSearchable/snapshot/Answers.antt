use Rattle.std.proofs.Common.{◌∙◌, sym, ap, subst}
use Rattle.xw_grid.specs.Grid.{Grid}
use Rattle.xw_live.specs.Engine.{IsKept}
use Rattle.xw_live.specs.Live.{state_of}
use Rattle.xw_live.proofs.Saving.{kept_copy, kept_same, formed_moved}
use Rattle.xw_live.proofs.searching.LiveSearchable.snapshot.Goals as goal

pub invariant_of-result : goal.invariant_of-result
invariant_of-result c =
    let live = c.args.self.now in
    let copied : IsKept (state_of c.args.self.now) c.in_ok-net.net = kept_copy (state_of live) live.net c.in_ok-net.net live.position.lights live.position.light_list c.in_ok-net.ensures.copied c.in_ok-net.ensures.none_waits live.kept in
    record {
      kept = kept_same c.in-Ok.grid c.in_ok-net.net (sym (ap (λ bank. bank.words) c.of.ensures))
          (subst (λ (grid : Grid). IsKept (record { grid = grid; words = c.args.self.now.position.bank.words }) c.in_ok-net.net) (sym c.in-Ok.ensures.ok) copied);
      formed = formed_moved c.in-Ok.ensures.ok (sym (ap (λ bank. bank.words) c.of.ensures)) live.position.formed;
      same_least = c.least.ensures.least ∙ sym (ap (λ bank. bank.words.least) c.of.ensures);
    }
