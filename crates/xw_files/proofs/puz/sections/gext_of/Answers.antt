use Rattle.std.proofs.Common.{◌≡◌, ◌+◌, ◌-◌, length, suc, sym, ◌∙◌, arith}
use Rattle.xw_files.proofs.PuzLemmas.SectionLemmas.{gext-none, gext-found, gext-more}
use Rattle.xw_files.proofs.puz.sections.gext_of.Goals as goal

pub returns-in_err-section : goal.returns-in_err-section
returns-in_err-section c =
    let left : length c.args.bytes.now - c.loop.counter ≡ suc (length c.args.bytes.now - (c.loop.counter + 1)) = omega arith in
    rw (c.from_residual.ensures) (sym (gext-none _ _ c.loop.rest.now left (sym c.in_err-section.ensures)) ∙ c.loop.invariant)

pub returns-then-is_gext : goal.returns-then-is_gext
returns-then-is_gext c =
    let left : length c.args.bytes.now - c.loop.counter ≡ suc (length c.args.bytes.now - (c.loop.counter + 1)) = omega arith in
    sym (gext-found _ _ c.loop.rest.now _ _ left (sym c.in_ok-section.ensures) (sym c.is_gext.ensures ∙ c.if-is_gext.true)) ∙ c.loop.invariant

pub loop-preserved : goal.loop-preserved
loop-preserved c =
    let left : length c.args.bytes.now - c.loop.counter ≡ suc (length c.args.bytes.now - (c.loop.counter + 1)) = omega arith in
    sym (gext-more _ _ c.loop.rest.now _ _ left (sym c.in_ok-section.ensures) (sym c.is_gext.ensures ∙ c.if-is_gext.false)) ∙ c.loop.invariant
