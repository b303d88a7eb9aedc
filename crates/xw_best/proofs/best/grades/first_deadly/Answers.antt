use Rattle.std.proofs.Common.{◌≡◌, ◌+◌, ◌-◌, ◌/◌, sym, ◌∙◌, subst, arith}
use Rattle.xw_feas.specs.State.{State}
use Rattle.xw_search.specs.Position.{position_of}
use Rattle.xw_search.specs.NamedFill.{flags}
use Rattle.xw_best.specs.Best.{at_least}
use Rattle.xw_best.specs.Inner.Climbing.{DiffersInLeast}
use Rattle.xw_search.specs.Progress.{IsDead, AreAlive}
use Rattle.xw_best.proofs.LeastLemmas.{differs_once, differs_then, differs_lights}
use Rattle.xw_best.proofs.best.grades.first_deadly.Goals as goal

pub is_dead_at-requires : goal.is_dead_at-requires
is_dead_at-requires g c = record { long = c.requires.long ∙ sym (differs_lights (g.E.Feasible.state c.args.engine.now) (g.E.Feasible.state c.loop-low.engine) c.loop-low.invariant.differs) }

pub loop-low-preserved-then-is_dead_at : goal.loop-low-preserved-then-is_dead_at
loop-low-preserved-then-is_dead_at g c =
    let start = g.E.Feasible.state c.args.engine.now in
    let now = g.E.Feasible.state c.loop-low.engine in
    let after = g.E.Feasible.state c.is_dead_at.new.engine in
    let grade = c.loop-low.low + (c.loop-low.high - c.loop-low.low) / 2 in
    let watched = flags c.args.watched.now in
    let inv = c.loop-low.invariant in
    record {
      differs = differs_then start now after inv.differs (subst (DiffersInLeast now) (sym c.is_dead_at.ensures.state) (differs_once now grade));
      above = inv.above;
      ordered = omega arith;
      below = omega (arith, inv.below, inv.ordered, c.loop-low-test.true);
      dead = λ less.
          let found = c.is_dead_at.ensures.dead c.if-is_dead_at.true in
          (found.0, subst (λ (s : State). IsDead watched (position_of s) found.0) (inv.differs grade) found.1);
      alive = inv.alive;
      count = c.is_dead_at.ensures.count ∙ inv.count;
    }

pub loop-low-preserved : goal.loop-low-preserved
loop-low-preserved g c =
    let start = g.E.Feasible.state c.args.engine.now in
    let now = g.E.Feasible.state c.loop-low.engine in
    let after = g.E.Feasible.state c.is_dead_at.new.engine in
    let grade = c.loop-low.low + (c.loop-low.high - c.loop-low.low) / 2 in
    let watched = flags c.args.watched.now in
    let inv = c.loop-low.invariant in
    record {
      differs = differs_then start now after inv.differs (subst (DiffersInLeast now) (sym c.is_dead_at.ensures.state) (differs_once now grade));
      above = omega (arith, inv.above);
      ordered = omega (arith, c.loop-low-test.true);
      below = inv.below;
      dead = inv.dead;
      alive = λ other above next.
          let here : grade ≡ other = omega (arith, next) in
          subst (λ n. AreAlive watched (position_of (at_least start n))) here
          (subst (λ (s : State). AreAlive watched (position_of s)) (inv.differs grade) (c.is_dead_at.ensures.alive c.if-is_dead_at.false));
      count = c.is_dead_at.ensures.count ∙ inv.count;
    }

pub returns-clause-alive : goal.returns-clause-alive
returns-clause-alive g c grade above next =
    c.loop-low.invariant.alive grade above (let e = next in omega (arith, e, c.loop-low.invariant.ordered, c.loop-low-test.false))
