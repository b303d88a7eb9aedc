use Rattle.std.proofs.Common.{arith, ◌∙◌}
use Rattle.xw_best.proofs.ClimbLemmas.{climbed_from}
use Rattle.xw_best.proofs.best.climb.Climb.try_part.Goals as goal

pub returns-clause-climbed : goal.returns-clause-climbed
returns-clause-climbed g c =
    climbed_from g.E.Searchable.saved c.args.self.now (record c.args.self.now { counted = c.of.result }) c.refill.new.self c.args.allowance.now c.refill.new.allowance
    (c.refill.ensures.climbed c.args.allowance.now (omega (arith, c.requires.left, c.left.ensures, c.min.ensures, c.grant.ensures.until, c.count_all.ensures.made)) (c.count_all.ensures.limit ∙ c.grant.ensures.limit))

pub returns-clause-within : goal.returns-clause-within
returns-clause-within g c =
    omega (arith, c.refill.ensures.within, c.requires.left, c.left.ensures, c.min.ensures, c.grant.ensures.until, c.count_all.ensures.made)
