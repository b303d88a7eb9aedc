use Rattle.std.proofs.Common.{◌≡◌, [], ◌∷◌, ◌++◌, refl, sym, ap, ◌∙◌}
use Rattle.std.specs.Option.{option_to_list}
use Rattle.xw_search.proofs.StackLemmas.{on_begun, on_more, on_taken, on_forced, on_none}
use Rattle.xw_search.proofs.StateLemmas.{DiffersInEntries-itself, DiffersInEntries-then}
use Rattle.xw_search.proofs.stack.Stack.retreat.Goals as goal

pub loop-last-init : goal.loop-last-init
loop-last-init g c =
    let now = g.E.Feasible.state c.args.engine.now in
    record {
      on = on_begun g.M.Placement.is_placed g.M.Placement.forced c.args.self.now.placements.items now;
      stands = c.requires.stands;
      began = refl;
      entries = DiffersInEntries-itself now;
      count = refl;
    }

pub loop-last-preserved : goal.loop-last-preserved
loop-last-preserved g c =
    let start = g.E.Feasible.state c.args.engine.now in
    let here = g.E.Feasible.state c.loop-last.engine in
    let before = g.E.Feasible.state c.back.new.engine in
    let left = c.back.new.self.placements.items in
    let items : c.loop-last.self.placements.items ≡ left ++ c.in-Some.last ∷ [] = c.back.ensures.placements ∙ ap (λ o. left ++ option_to_list o) c.in-Some.is in
    let invariant = c.loop-last.invariant in
    record {
      on = on_more g.M.Placement.is_placed g.M.Placement.forced c.args.self.now.placements.items start c.loop-last.self.placements.items here invariant.on left c.in-Some.last items before c.in-Some.ensures.back (sym c.is_forced.ensures ∙ c.if-not-is_forced.false);
      stands = c.back.ensures.stands;
      began = c.back.ensures.start ∙ invariant.began;
      entries = DiffersInEntries-then start here before invariant.entries c.back.ensures.entries;
      count = c.back.ensures.count ∙ invariant.count;
    }

pub returns-then-not-is_forced-clause-back : goal.returns-then-not-is_forced-clause-back
returns-then-not-is_forced-clause-back g c =
    let start = g.E.Feasible.state c.args.engine.now in
    let here = g.E.Feasible.state c.loop-last.engine in
    let before = g.E.Feasible.state c.back.new.engine in
    let left = c.back.new.self.placements.items in
    let items : c.loop-last.self.placements.items ≡ left ++ c.in-Some.last ∷ [] = c.back.ensures.placements ∙ ap (λ o. left ++ option_to_list o) c.in-Some.is in
    on_taken g.M.Placement.is_placed g.M.Placement.forced c.args.self.now.placements.items start c.loop-last.self.placements.items here c.loop-last.invariant.on left c.in-Some.last items before c.in-Some.ensures.back (sym c.is_forced.ensures ∙ c.if-not-is_forced.true)

pub returns-then-not-is_forced-clause-entries : goal.returns-then-not-is_forced-clause-entries
returns-then-not-is_forced-clause-entries g c =
    DiffersInEntries-then (g.E.Feasible.state c.args.engine.now) (g.E.Feasible.state c.loop-last.engine) (g.E.Feasible.state c.back.new.engine) c.loop-last.invariant.entries c.back.ensures.entries

pub returns-clause-none : goal.returns-clause-none
returns-clause-none g c =
    on_forced g.M.Placement.is_placed g.M.Placement.forced c.args.self.now.placements.items (g.E.Feasible.state c.args.engine.now) c.loop-last.self.placements.items (g.E.Feasible.state c.loop-last.engine) c.loop-last.invariant.on c.in_default.ensures.none

pub returns-clause-same : goal.returns-clause-same
returns-clause-same g c none =
    ap g.E.Feasible.state c.in_default.ensures.same
    ∙ on_none g.M.Placement.is_placed g.M.Placement.forced c.args.self.now.placements.items (g.E.Feasible.state c.args.engine.now) c.loop-last.self.placements.items (g.E.Feasible.state c.loop-last.engine) c.loop-last.invariant.on none
