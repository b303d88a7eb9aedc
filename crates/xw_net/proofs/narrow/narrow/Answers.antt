use Rattle.std.proofs.Common.{subst, sym, ap, ◌∙◌}
use Rattle.xw_bits.specs.Bits.{RowOfBits}
use Rattle.xw_net.specs.Begin.{IsNarrowedRow}
use Rattle.xw_net.proofs.BaseRows.NarrowedRows.{common_narrowed}
use Rattle.xw_net.proofs.narrow.narrow.Goals as goal

pub returns-in-Some-clause-narrowed : goal.returns-in-Some-clause-narrowed
returns-in-Some-clause-narrowed c =
    subst (λ w. IsNarrowedRow w c.args.len c.args.row.now.bits c.args.base.now.bits c.narrow_at.new.row.bits) (sym c.in-Some.ensures.found) (c.narrow_at.ensures.narrowed c.args.len)

pub returns-in-None-clause-narrowed : goal.returns-in-None-clause-narrowed
returns-in-None-clause-narrowed c =
    subst (λ b. IsNarrowedRow c.args.word c.args.len c.args.row.now.bits c.args.base.now.bits b) (sym (ap (λ (r : RowOfBits). r.bits) c.keep_count.ensures ∙ c.and.ensures.bits))
    (common_narrowed c.args.word c.args.len c.args.row.now.bits c.args.base.now.bits c.requires)
