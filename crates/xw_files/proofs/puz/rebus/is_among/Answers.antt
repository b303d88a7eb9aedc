use Rattle.std.proofs.Common.{◌∙◌, sym, arith}
use Rattle.xw_files.proofs.PuzLemmas.RebusLemmas.{left-all, left-less, left-found, left-none, others-shorter, others-bytes}
use Rattle.xw_files.proofs.puz.rebus.is_among.Goals as goal

pub loop-section-init : goal.loop-section-init
loop-section-init c = record {
  small = λ i. omega (arith, c.type_inv.bytes i);
  left = left-all c.args.bytes.now;
}

pub returns-then-is_rebus : goal.returns-then-is_rebus
returns-then-is_rebus c = left-found _ _ _ _ c.loop-section.invariant.small (sym c.in-Some.ensures) (sym c.is_rebus.ensures ∙ c.if-is_rebus.true) c.loop-section.invariant.left

pub loop-section-smaller : goal.loop-section-smaller
loop-section-smaller c = others-shorter _ _ _ c.loop-section.invariant.small (sym c.in-Some.ensures)

pub loop-section-preserved : goal.loop-section-preserved
loop-section-preserved c = record {
  small = others-bytes _ _ _ c.loop-section.invariant.small (sym c.in-Some.ensures);
  left = left-less _ _ _ _ c.loop-section.invariant.small (sym c.in-Some.ensures) (sym c.is_rebus.ensures ∙ c.if-is_rebus.false) c.loop-section.invariant.left;
}

pub returns : goal.returns
returns c = left-none _ _ (sym c.in_default.ensures) c.loop-section.invariant.left
