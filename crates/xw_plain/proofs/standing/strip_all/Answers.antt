use Rattle.std.proofs.Common.{inl, inr, arith}
use Rattle.std.proofs.lemmas.Bool.{cases_eq}
use Rattle.xw_plain.proofs.Strip.{StripsUnsupported-then, or_false}
use Rattle.xw_plain.proofs.standing.strip_all.Goals as goal

pub loop-light-preserved : goal.loop-light-preserved
loop-light-preserved c =
    let step = c.strip_light-removed.ensures in
    record {
      strips = StripsUnsupported-then _ _ _ _ _ _ _ _ _ _ c.loop-light.invariant.strips step.strips;
      supported = λ e light under.
          let both = or_false c.loop-light.removed c.strip_light-removed.result e in
          elim (cases_eq light c.loop-light.light) [
            | inl here ↦ rw here (step.supported both.1)
            | inr apart ↦
                rw (step.strips.same_words both.1, step.strips.same_letters both.1) (c.loop-light.invariant.supported both.0 light (omega arith))
          ];
    }
