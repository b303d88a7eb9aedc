use Rattle.std.proofs.Common.{arith, ap, ◌∙◌}
use Rattle.xw_search.specs.declared.allowance.Allowance.{Allowance}
use Rattle.xw_best.proofs.ClimbLemmas.{climbed_from}
use Rattle.xw_best.proofs.best.climb.Climb.try_best.Goals as goal

pub returns-in_err-try_known-clause-climbed : goal.returns-in_err-try_known-clause-climbed
returns-in_err-try_known-clause-climbed g c =
    climbed_from g.E.Searchable.saved c.args.self.now (record c.args.self.now { counted = c.of.result }) c.try_known.new.self c.args.allowance.now c.count.new.self
    (c.try_known.ensures.climbed c.args.allowance.now c.count.new.self (omega (arith, c.count.ensures.made, c.grant.ensures.made)) (c.count.ensures.limit ∙ c.grant.ensures.limit) (ap (λ (a : Allowance). a.made) c.of.ensures))

pub returns-clause-climbed : goal.returns-clause-climbed
returns-clause-climbed g c =
    climbed_from g.E.Searchable.saved c.args.self.now (record c.args.self.now { counted = c.of.result }) c.try_known.new.self c.args.allowance.now c.count.new.self
    (c.try_known.ensures.climbed c.args.allowance.now c.count.new.self (omega (arith, c.count.ensures.made, c.grant.ensures.made)) (c.count.ensures.limit ∙ c.grant.ensures.limit) (ap (λ (a : Allowance). a.made) c.of.ensures))

pub returns-in_err-try_known-clause-within : goal.returns-in_err-try_known-clause-within
returns-in_err-try_known-clause-within g c = omega (arith, c.try_known.ensures.count, c.try_known.ensures.tries, c.count.ensures.made, c.grant.ensures.made)

pub returns-clause-within : goal.returns-clause-within
returns-clause-within g c = omega (arith, c.try_known.ensures.count, c.try_known.ensures.tries, c.count.ensures.made, c.grant.ensures.made)
