use Rattle.std.proofs.Common.{◌≡◌, length, refl, sym, ap, ◌∙◌, subst}
use Rattle.std.specs.Prelude.{is_some}
use Rattle.xw_feas.specs.State.{State}
use Rattle.xw_grid.specs.Grid.{Grid}
use Rattle.xw_live.specs.Engine.{IsKept}
use Rattle.xw_live.specs.Levels.{HasSizeOf, state_before, AreRemembered, AreLevels}
use Rattle.xw_live.specs.Live.{state_of}
use Rattle.xw_live.specs.declared.levels.Levels.{Levels}
use Rattle.xw_live.proofs.Keeping.{kept_from, kept_cells}
use Rattle.xw_feas.proofs.Elements.{all_pushed}
use Rattle.xw_feas.proofs.ShapeLemmas.{SameShape-turned}
use Rattle.xw_live.proofs.Placements.{taken_last, taken_way, taken_seen, levels_taken}
use Rattle.xw_live.proofs.searching.LiveSearchable.back_level.Goals as goal

pub take_back-requires : goal.take_back-requires
take_back-requires c =
    let live = c.args.self.now in
    record { way = (c.in-Some.placement.net.value, taken_way (state_of live) live.levels live.net live.levels_kept c.pop.new.self.items c.in-Some.placement c.in-Some.ensures.items) }

pub exchange-requires : goal.exchange-requires
exchange-requires c =
    let live = c.args.self.now in
    (taken_last (state_of live) live.levels live.net live.levels_kept c.pop.new.self.items c.in-Some.placement c.in-Some.ensures.items).shape

pub invariant_of-self : goal.invariant_of-self
invariant_of-self c =
    let live = c.args.self.now in
    let now = state_of live in
    let others = c.pop.new.self.items in
    let last = c.in-Some.placement in
    let items = c.in-Some.ensures.items in
    let taken = taken_last now live.levels live.net live.levels_kept others last items in
    let way = taken_way now live.levels live.net live.levels_kept others last items in
    let back = c.take_back.ensures.back last.net.value now way live.kept.settled in
    let before : State = state_before live.position.bank.words c.in-Some.placement in
    let is : record { grid = c.exchange.new.self.grid; words = c.exchange.new.self.bank.words } ≡ before = c.exchange.ensures.now in
    let kept : IsKept before c.take_back.new.self = kept_from before c.take_back.new.self (back.settled before (SameShape-turned live.position.grid last.grid taken.shape) refl taken.kept.settled)
    (ap is_some c.take_back.ensures.spare ∙ live.kept.none_waits) in
    let levels : Levels = record live.levels { made = c.pop.new.self; spare = c.push.new.self; trail = c.take_back.new.trail } in
    let seen : AreRemembered before c.take_back.new.trail.seen.items = taken_seen now live.levels live.net live.levels_kept others last items c.take_back.new.trail.seen.items c.take_back.ensures.seen in
    let spare = all_pushed (HasSizeOf live.position.grid) live.levels.spare.items c.push.new.self.items (record last { grid = c.exchange.new.grid; level = c.take_back.new.level }) _ c.push.ensures.items
    (ap (λ (grid : Grid). length grid.squares) c.exchange.ensures.before) live.levels_kept.spare in
    record {
      kept = subst (λ (state : State). IsKept state c.take_back.new.self) (sym is) kept;
      levels_kept = subst (λ (state : State). AreLevels state levels c.take_back.new.self) (sym is) (levels_taken now live.levels live.net live.levels_kept others last items levels c.take_back.new.self refl back.as_long spare seen);
      same_cells =
          live.same_cells ∙ kept_cells now live.net live.kept ∙ sym taken.shape.cells
          ∙ sym (kept_cells before c.take_back.new.self kept);
    }
