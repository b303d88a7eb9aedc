use Rattle.xw_best.proofs.best.best_fill.Goals as goal

pub returns-then-eq-clause-ok : goal.returns-then-eq-clause-ok
returns-then-eq-clause-ok g c = c.in_ok-best.ensures.ok

pub returns-else-eq-clause-ok : goal.returns-else-eq-clause-ok
returns-else-eq-clause-ok g c = c.in_ok-best.ensures.ok

pub returns-clause-ok : goal.returns-clause-ok
returns-clause-ok g c = c.in_ok-best-2.ensures.ok

pub returns-then-eq-clause-one : goal.returns-then-eq-clause-one
returns-then-eq-clause-one g c = c.in_ok-best.ensures.one

pub returns-else-eq-clause-one : goal.returns-else-eq-clause-one
returns-else-eq-clause-one g c = c.in_ok-best.ensures.one

pub returns-clause-one : goal.returns-clause-one
returns-clause-one g c = c.in_ok-best-2.ensures.one
