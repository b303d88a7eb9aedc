use Rattle.std.proofs.Common.{◌≡◌, ◌+◌, ◌-◌, arith, suc, subst, inl, inr}
use Rattle.std.proofs.lemmas.Bool.{cases_lt, cases_eq}
use Rattle.xw_search.specs.NamedFill.{flags}
use Rattle.xw_best.specs.Inner.Climbing.{IsDeadAt, AreAliveAt}
use Rattle.xw_best.proofs.best.probe.greatest_grade.Goals as goal

pub returns-clause-active : goal.returns-clause-active
returns-clause-active g c = c.worst_grade-worst.ensures.reached (c.first_deadly.result - 1) c.args.grade c.requires.active (omega (arith, c.first_deadly.ensures.below, c.first_deadly.ensures.above))

pub returns-clause-alive : goal.returns-clause-alive
returns-clause-alive g c =
    let state = g.E.Feasible.state c.args.engine.now in
    let last = c.first_deadly.result in
    elim (cases_eq last (c.args.grade + 1)) [
      | inl here ↦
          let same : c.args.grade ≡ last - 1 = omega (arith, here) in
          subst (λ n. AreAliveAt (flags c.args.watched.now) state n) same c.requires.alive
      | inr apart ↦ c.first_deadly.ensures.alive (last - 1) (let e = apart in omega (arith, e, c.first_deadly.ensures.above)) (omega (arith, c.first_deadly.ensures.above))
    ]

pub returns-clause-greatest : goal.returns-clause-greatest
returns-clause-greatest g c =
    let state = g.E.Feasible.state c.args.engine.now in
    let last = c.first_deadly.result in
    let next : last ≡ suc (last - 1) = omega (arith, c.first_deadly.ensures.above) in
    elim (cases_lt last (c.worst_grade-worst.result + 1)) [
      | inl below ↦ inl (subst (λ n. IsDeadAt (flags c.args.watched.now) state n) next (c.first_deadly.ensures.dead below))
      | inr not_below ↦ inr (λ other within are.
          let most = c.worst_grade-worst.ensures.active other within are in
          omega (arith, most, not_below))
    ]
