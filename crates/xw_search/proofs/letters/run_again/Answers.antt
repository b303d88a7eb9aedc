use Rattle.std.proofs.Common.{refl, sym, ◌∙◌, subst, arith}
use Rattle.xw_feas.specs.State.{State}
use Rattle.xw_search.specs.Position.{position_of, DiffersInEntries}
use Rattle.xw_search.specs.NamedFill.{flags, IsFillOf}
use Rattle.xw_search.specs.Progress.{entries_of, HasNone, IsOpen, IsPlan}
use Rattle.xw_search.specs.declared.run.Ending.{Ending}
use Rattle.xw_search.specs.declared.run.Ending.TheVariants as endings
use Rattle.xw_search.proofs.AllowanceLemmas.{counted_same, counted-then}
use Rattle.xw_search.proofs.letters.run_again.Goals as goal

-- an ending that is not Filled
abbrev is_filled : Ending → Type 0
is_filled endings.Filled = Unit {0}
is_filled other = ⊥

-- an ending that is Memory
abbrev is_memory : Ending → Type 0
is_memory endings.Memory = Unit {0}
is_memory other = ⊥

pub loop-effort-init : goal.loop-effort-init
loop-effort-init g c = record { same = refl; made = omega arith; until = refl; limit = refl; count = refl }

pub run-requires-clause-plan : goal.run-requires-clause-plan
run-requires-clause-plan g c = subst (λ (s : State). IsPlan (position_of s) c.args.plan.now) (sym c.loop-effort.invariant.same) c.requires.plan

pub run-requires-clause-open : goal.run-requires-clause-open
run-requires-clause-open g c = subst (λ (s : State). IsOpen (flags c.args.plan.now.named.items) (position_of s) (entries_of s)) (sym c.loop-effort.invariant.same) c.requires.open

pub returns-in-Filled-clause-ok : goal.returns-in-Filled-clause-ok
returns-in-Filled-clause-ok g c =
    let now = g.E.Feasible.state c.run.new.engine in
    let same = c.loop-effort.invariant.same in (
      entries_of now,
      subst (λ (s : State). IsFillOf (flags c.args.plan.now.named.items) (position_of s) (entries_of now)) same (c.in-Filled.ensures.filled refl),
      subst (λ (s : State). DiffersInEntries s now) same (c.in-Filled.ensures.entries refl),
    )

pub returns-in-NoFill-clause-ok : goal.returns-in-NoFill-clause-ok
returns-in-NoFill-clause-ok g c =
    let none = subst (λ (s : State). HasNone (flags c.args.plan.now.named.items) (position_of s) (entries_of s)) c.loop-effort.invariant.same (c.in-NoFill.ensures.no_fill refl) in (
      λ entries fill. none entries fill fill.kept,
      c.in-NoFill.ensures.same (λ e. subst is_filled (sym e) tt) ∙ c.loop-effort.invariant.same,
    )

pub returns-in-Limit-clause-ok : goal.returns-in-Limit-clause-ok
returns-in-Limit-clause-ok g c = c.in-Limit.ensures.same (λ e. subst is_filled (sym e) tt) ∙ c.loop-effort.invariant.same

pub returns-in-Memory-clause-unchanged : goal.returns-in-Memory-clause-unchanged
returns-in-Memory-clause-unchanged g c = c.in-Memory.ensures.same (λ e. subst is_filled (sym e) tt) ∙ c.loop-effort.invariant.same

pub loop-effort-smaller : goal.loop-effort-smaller
loop-effort-smaller g c = omega (arith, c.in-Cut.ensures.cut refl, c.run.ensures.until, c.run.new.allowance.within)

pub loop-effort-preserved : goal.loop-effort-preserved
loop-effort-preserved g c = record {
  same = c.in-Cut.ensures.same (λ e. subst is_filled (sym e) tt) ∙ c.loop-effort.invariant.same;
  made = omega (arith, c.loop-effort.invariant.made, c.run.ensures.counted.made);
  until = c.run.ensures.until ∙ c.loop-effort.invariant.until;
  limit = c.run.ensures.counted.limit ∙ c.loop-effort.invariant.limit;
  count = omega (arith, c.loop-effort.invariant.count, c.in-Cut.ensures.placed (λ e. subst is_memory (sym e) tt));
}

pub returns-in-Filled-clause-entered : goal.returns-in-Filled-clause-entered
returns-in-Filled-clause-entered g c =
    let now = g.E.Feasible.state c.run.new.engine in
    let same = c.loop-effort.invariant.same in (
      subst (λ (s : State). IsFillOf (flags c.args.plan.now.named.items) (position_of s) (entries_of now)) same (c.in-Filled.ensures.filled refl),
      subst (λ (s : State). DiffersInEntries s now) same (c.in-Filled.ensures.entries refl),
    )

pub returns-in-Filled-clause-counted : goal.returns-in-Filled-clause-counted
returns-in-Filled-clause-counted g c =
    counted-then c.args.allowance.now c.loop-effort.allowance c.run.new.allowance (g.E.Feasible.state c.args.engine.now) (g.E.Feasible.state c.loop-effort.engine) (g.E.Feasible.state c.run.new.engine)
    (counted_same c.args.allowance.now c.loop-effort.allowance (g.E.Feasible.state c.args.engine.now) (g.E.Feasible.state c.loop-effort.engine) c.loop-effort.invariant.made c.loop-effort.invariant.limit c.loop-effort.invariant.same)
    c.run.ensures.counted

pub returns-in-NoFill-clause-counted : goal.returns-in-NoFill-clause-counted
returns-in-NoFill-clause-counted g c =
    counted_same c.args.allowance.now c.run.new.allowance (g.E.Feasible.state c.args.engine.now) (g.E.Feasible.state c.run.new.engine) (omega (arith, c.loop-effort.invariant.made, c.run.ensures.counted.made)) (c.run.ensures.counted.limit ∙ c.loop-effort.invariant.limit)
    (c.in-NoFill.ensures.same (λ e. subst is_filled (sym e) tt) ∙ c.loop-effort.invariant.same)

pub returns-in-Limit-clause-counted : goal.returns-in-Limit-clause-counted
returns-in-Limit-clause-counted g c =
    counted_same c.args.allowance.now c.run.new.allowance (g.E.Feasible.state c.args.engine.now) (g.E.Feasible.state c.run.new.engine) (omega (arith, c.loop-effort.invariant.made, c.run.ensures.counted.made)) (c.run.ensures.counted.limit ∙ c.loop-effort.invariant.limit)
    (c.in-Limit.ensures.same (λ e. subst is_filled (sym e) tt) ∙ c.loop-effort.invariant.same)

pub returns-in-Memory-clause-counted : goal.returns-in-Memory-clause-counted
returns-in-Memory-clause-counted g c =
    counted_same c.args.allowance.now c.run.new.allowance (g.E.Feasible.state c.args.engine.now) (g.E.Feasible.state c.run.new.engine) (omega (arith, c.loop-effort.invariant.made, c.run.ensures.counted.made)) (c.run.ensures.counted.limit ∙ c.loop-effort.invariant.limit)
    (c.in-Memory.ensures.same (λ e. subst is_filled (sym e) tt) ∙ c.loop-effort.invariant.same)

pub returns-in-Filled-clause-placed : goal.returns-in-Filled-clause-placed
returns-in-Filled-clause-placed g c = omega (arith, c.loop-effort.invariant.count, c.in-Filled.ensures.placed (λ e. subst is_memory (sym e) tt))

pub returns-in-NoFill-clause-placed : goal.returns-in-NoFill-clause-placed
returns-in-NoFill-clause-placed g c = omega (arith, c.loop-effort.invariant.count, c.in-NoFill.ensures.placed (λ e. subst is_memory (sym e) tt))

pub returns-in-Limit-clause-placed : goal.returns-in-Limit-clause-placed
returns-in-Limit-clause-placed g c = omega (arith, c.loop-effort.invariant.count, c.in-Limit.ensures.placed (λ e. subst is_memory (sym e) tt))

pub returns-in-Filled-clause-within : goal.returns-in-Filled-clause-within
returns-in-Filled-clause-within g c = omega (arith, c.loop-effort.invariant.count, c.run.ensures.within)

pub returns-in-NoFill-clause-within : goal.returns-in-NoFill-clause-within
returns-in-NoFill-clause-within g c = omega (arith, c.loop-effort.invariant.count, c.run.ensures.within)

pub returns-in-Limit-clause-within : goal.returns-in-Limit-clause-within
returns-in-Limit-clause-within g c = omega (arith, c.loop-effort.invariant.count, c.run.ensures.within)

pub returns-in-Memory-clause-within : goal.returns-in-Memory-clause-within
returns-in-Memory-clause-within g c = omega (arith, c.loop-effort.invariant.count, c.run.ensures.within)
