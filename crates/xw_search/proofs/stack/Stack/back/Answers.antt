use Rattle.std.proofs.Common.{sym}
use Rattle.xw_search.proofs.StackLemmas.{began_more, lead_back, lead_some, differs_back}
use Rattle.xw_search.proofs.StateLemmas.{DiffersInEntries-itself}
use Rattle.xw_search.proofs.stack.Stack.back.Goals as goal

pub returns-in_err-last-clause-entries : goal.returns-in_err-last-clause-entries
returns-in_err-last-clause-entries g c = DiffersInEntries-itself (g.E.Feasible.state c.args.engine.now)

pub back_level-requires : goal.back_level-requires
back_level-requires g c =
    lead_some g.M.Placement.is_placed c.pop.new.self.items c.args.self.now.placements.items c.in_ok-last.last (g.E.Searchable.levels c.args.engine.now) (g.E.Feasible.state c.args.engine.now) c.requires.stands c.in_ok-last.ensures.items

pub returns-clause-back : goal.returns-clause-back
returns-clause-back g c =
    (lead_back g.M.Placement.is_placed c.pop.new.self.items c.args.self.now.placements.items c.in_ok-last.last (g.E.Searchable.levels c.args.engine.now) (g.E.Searchable.levels c.back_level.new.self) (g.E.Feasible.state c.back_level.new.self) (g.E.Feasible.state c.args.engine.now) c.requires.stands c.in_ok-last.ensures.items c.back_level.ensures.back).0

pub returns-clause-stands : goal.returns-clause-stands
returns-clause-stands g c =
    (lead_back g.M.Placement.is_placed c.pop.new.self.items c.args.self.now.placements.items c.in_ok-last.last (g.E.Searchable.levels c.args.engine.now) (g.E.Searchable.levels c.back_level.new.self) (g.E.Feasible.state c.back_level.new.self) (g.E.Feasible.state c.args.engine.now) c.requires.stands c.in_ok-last.ensures.items c.back_level.ensures.back).1

pub returns-clause-entries : goal.returns-clause-entries
returns-clause-entries g c =
    let before = g.E.Feasible.state c.back_level.new.self in
    let now = g.E.Feasible.state c.args.engine.now in
    differs_back before now (g.met.M.Placement.entries c.in_ok-last.last before now
    (lead_back g.M.Placement.is_placed c.pop.new.self.items c.args.self.now.placements.items c.in_ok-last.last (g.E.Searchable.levels c.args.engine.now) (g.E.Searchable.levels c.back_level.new.self) before now c.requires.stands c.in_ok-last.ensures.items c.back_level.ensures.back).0)

pub returns-clause-start : goal.returns-clause-start
returns-clause-start g c =
    sym (began_more (g.E.Searchable.levels c.back_level.new.self) (g.E.Searchable.levels c.args.engine.now) (g.E.Feasible.state c.back_level.new.self) (g.E.Feasible.state c.args.engine.now) c.back_level.ensures.back)
