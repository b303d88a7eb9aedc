use Rattle.std.proofs.Common.{◌+◌, refl, sym, subst, ◌∙◌}
use Rattle.xw_feas.specs.Flags.{set_has}
use Rattle.xw_net.specs.Spread.{HasAll}
use Rattle.xw_net.specs.Worklist.{is_marked, is_waiting}
use Rattle.xw_net.specs.Gone.{IsAlong, IsAmong, Raises}
use Rattle.xw_net.proofs.Lists.ListsOfLights.{seeds_grow}
use Rattle.xw_net.proofs.Revivals.LettersComeBack.{spread_start}
use Rattle.xw_net.proofs.Revivals.FreedCells.{raises_none, raises_more, among_more, among_last, among_split}
use Rattle.xw_net.proofs.gone.raise_along.Goals as goal

pub loop-k-preserved : goal.loop-k-preserved
loop-k-preserved c =
    let k = c.raise_cell.ensures in
    let along = c.in-Some.ensures.along in
    let inv = c.loop-k.invariant in
    let raised : Raises c.args.board.now (IsAlong c.args.grid.now c.args.light.now c.loop-k.k) c.loop-k.letters c.loop-k.chain c.raise_cell.new.letters c.raise_cell.new.chain = record {
      letters_len = k.len;
      grows = k.grows;
      seeds = seeds_grow c.loop-k.chain c.raise_cell.new.chain k.grows inv.seeds;
      all = λ cell is. subst (HasAll c.args.board.now (set_has c.raise_cell.new.letters)) (sym along.is ∙ is.is) k.all;
      stay = (k.spread (set_has c.loop-k.letters) (spread_start c.args.board.now (set_has c.loop-k.letters) (is_marked c.loop-k.chain.marks) (is_waiting c.loop-k.chain.lights) inv.seeds)).stay;
      spread = k.spread;
      within = λ member start reached. k.within member start (λ light is. reached light (c.in-Some.cell, along, is.0, is.1));
    } in
    raises_more c.args.board.now (IsAmong c.args.grid.now c.args.light.now c.loop-k.k) (IsAlong c.args.grid.now c.args.light.now c.loop-k.k) (IsAmong c.args.grid.now c.args.light.now (c.loop-k.k + 1))
    _ _ _ _ _ _ (among_more c.args.grid.now c.args.light.now c.loop-k.k) (among_last c.args.grid.now c.args.light.now c.loop-k.k) (among_split c.args.grid.now c.args.light.now c.loop-k.k)
    inv raised

pub loop-k-preserved-in_default : goal.loop-k-preserved-in_default
loop-k-preserved-in_default c =
    let inv = c.loop-k.invariant in
    raises_more c.args.board.now (IsAmong c.args.grid.now c.args.light.now c.loop-k.k) (IsAlong c.args.grid.now c.args.light.now c.loop-k.k) (IsAmong c.args.grid.now c.args.light.now (c.loop-k.k + 1))
    _ _ _ _ _ _ (among_more c.args.grid.now c.args.light.now c.loop-k.k) (among_last c.args.grid.now c.args.light.now c.loop-k.k) (among_split c.args.grid.now c.args.light.now c.loop-k.k)
    inv (raises_none c.args.board.now (IsAlong c.args.grid.now c.args.light.now c.loop-k.k) c.loop-k.letters c.loop-k.chain inv.seeds (c.in_default.ensures.only refl))
