use Rattle.std.proofs.Common.{◌≡◌, ◌<◌, ℕ, length, get_or, refl, subst, sym, ap, ◌∙◌, inl, inr, arith}
use Rattle.std.proofs.lemmas.Bool.{cases_eq}
use Rattle.std.proofs.lemmas.List.{get_or_default}
use Rattle.xw_feas.specs.Flags.{set_has}
use Rattle.xw_grid.specs.Grid.{index_of}
use Rattle.xw_net.specs.Spread.{IsThrough}
use Rattle.xw_net.specs.Worklist.{is_marked}
use Rattle.xw_net.specs.Begin.{IsEdited, IsThroughListed}
use Rattle.xw_net.proofs.Lists.ListsOfLights.{grows_none, grows_more}
use Rattle.xw_net.proofs.begin.edit_cells.Goals as goal

pub loop-at-init : goal.loop-at-init
loop-at-init c = record {
  len = refl;
  queue = grows_none c.args.queue.now;
  queued_within = λ member start these. start;
  chain = grows_none c.args.chain.now;
  within = λ member start these. start;
  edited = λ listed k lt. absurd (omega arith);
  spread = λ start h. h;
}

pub loop-at-preserved : goal.loop-at-preserved
loop-at-preserved c =
    let inv = c.loop-at.invariant in
    let k = c.edit_cell in
    let here : get_or c.args.cells.now c.loop-at.at c.index-cells-at.result ≡ c.index-cells-at.result = sym c.index-cells-at.is in
    let index : c.index_in-cell.result ≡ index_of c.args.grid.now c.index-cells-at.result.0 = c.index_in-cell.ensures.index ∙ ap (λ x. index_of c.args.grid.now x.0) here in
    let below_end : c.loop-at.at < length c.args.cells.now = omega (arith, c.loop-at-test.true, c.loop-at.auto.at-end) in
    let through : (light : ℕ) → IsThrough c.args.board.now c.index_in-cell.result light → IsThroughListed c.args.grid.now c.args.board.now c.args.cells.now light =
    λ light is. (c.index-cells-at.result, (c.loop-at.at, below_end, here), (is.0, is.1, is.2 ∙ index)) in
    record {
      len = k.ensures.len ∙ inv.len;
      queue = grows_more c.args.queue.now c.loop-at.queue c.edit_cell.new.queue inv.queue k.ensures.queue.grows;
      queued_within = λ member start these. k.ensures.queue.only member (inv.queued_within member start these) (λ light is. these light (through light is));
      chain = grows_more c.args.chain.now c.loop-at.chain c.edit_cell.new.chain inv.chain k.ensures.grows;
      within = λ member start these. k.ensures.within member (inv.within member start these) (λ light is. these light (through light is));
      edited = λ listed j below within at. elim (cases_eq j c.loop-at.at) [
        | inl e ↦
            let first = get_or_default c.args.cells.now c.loop-at.at c.index-cells-at.result listed below_end ∙ ap (λ n. get_or c.args.cells.now n listed) (sym e) ∙ at in
            let second = get_or_default c.args.cells.now c.loop-at.at c.index-cells-at-in-loop-at.result listed below_end ∙ ap (λ n. get_or c.args.cells.now n listed) (sym e) ∙ at in
            let cell_is : c.index_in-cell.result ≡ index_of c.args.grid.now listed.0 = c.index_in-cell.ensures.index ∙ ap (λ x. index_of c.args.grid.now x.0) first in
            subst (λ n. IsEdited c.args.board.now (set_has c.edit_cell.new.letters) (is_marked c.edit_cell.new.queue.marks) (is_marked c.edit_cell.new.chain.marks) n listed.1) cell_is
            (subst (λ x. IsEdited c.args.board.now (set_has c.edit_cell.new.letters) (is_marked c.edit_cell.new.queue.marks) (is_marked c.edit_cell.new.chain.marks) c.index_in-cell.result x.1) second k.ensures.edited)
        | inr n ↦ k.ensures.stays (index_of c.args.grid.now listed.0) listed.1 (inv.edited listed j (omega arith) within at)
      ];
      spread = λ start h. k.ensures.spread start (inv.spread start h);
    }

pub returns : goal.returns
returns c =
    let inv = c.loop-at.invariant in
    record {
      letters_len = inv.len;
      queue_grows = inv.queue;
      queued_within = inv.queued_within;
      chain_grows = inv.chain;
      within = inv.within;
      edited = λ listed has. inv.edited listed has.0 (omega (arith, has.1, c.loop-at-test.false, c.loop-at.auto.at-end)) has.1 has.2;
      spread = inv.spread;
    }
