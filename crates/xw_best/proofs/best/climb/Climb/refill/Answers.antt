use Rattle.std.proofs.Common.{arith, ◌∙◌}
use Rattle.xw_best.proofs.ClimbLemmas.{climbed_on}
use Rattle.xw_best.proofs.best.climb.Climb.refill.Goals as goal

pub returns-in_err-is_kept-clause-climbed : goal.returns-in_err-is_kept-clause-climbed
returns-in_err-is_kept-clause-climbed g c from more limit =
    let filled = c.fill_part.ensures.climbed in
    climbed_on g.E.Searchable.saved c.args.self.now c.fill_part.new.self c.try_known.new.self from c.args.allowance.now c.fill_part.new.allowance filled
    (c.try_known.ensures.climbed from c.fill_part.new.allowance (omega (arith, more, filled.made)) (filled.limit ∙ limit) filled.counted) more

pub returns-then-is_kept-clause-climbed : goal.returns-then-is_kept-clause-climbed
returns-then-is_kept-clause-climbed g c from more limit =
    let filled = c.fill_part.ensures.climbed in
    climbed_on g.E.Searchable.saved c.args.self.now c.fill_part.new.self c.try_known.new.self from c.args.allowance.now c.fill_part.new.allowance filled
    (c.try_known.ensures.climbed from c.fill_part.new.allowance (omega (arith, more, filled.made)) (filled.limit ∙ limit) filled.counted) more

pub returns-else-is_kept-clause-climbed : goal.returns-else-is_kept-clause-climbed
returns-else-is_kept-clause-climbed g c from more limit =
    let filled = c.fill_part.ensures.climbed in
    climbed_on g.E.Searchable.saved c.args.self.now c.fill_part.new.self c.try_known.new.self from c.args.allowance.now c.fill_part.new.allowance filled
    (c.try_known.ensures.climbed from c.fill_part.new.allowance (omega (arith, more, filled.made)) (filled.limit ∙ limit) filled.counted) more

pub returns-in_err-is_kept-clause-within : goal.returns-in_err-is_kept-clause-within
returns-in_err-is_kept-clause-within g c = omega (arith, c.fill_part.ensures.within, c.try_known.ensures.count, c.try_known.ensures.tries)

pub returns-then-is_kept-clause-within : goal.returns-then-is_kept-clause-within
returns-then-is_kept-clause-within g c = omega (arith, c.fill_part.ensures.within, c.try_known.ensures.count, c.try_known.ensures.tries)

pub returns-else-is_kept-clause-within : goal.returns-else-is_kept-clause-within
returns-else-is_kept-clause-within g c = omega (arith, c.fill_part.ensures.within, c.try_known.ensures.count, c.try_known.ensures.tries)
