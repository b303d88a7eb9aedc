use Rattle.std.proofs.Common.{◌<◌, length, sym, ◌∙◌, arith}
use Rattle.std.proofs.lemmas.Bool.{iff_false, false≢true}
use Rattle.xw_plain.proofs.FlagsLemmas.{KeepsBelow-strike, KeepsBelow-keep}
use Rattle.xw_plain.proofs.standing.strip_words.Goals as goal
use Rattle.xw_plain.proofs.standing.strip_words.Goals.{then-at+then-not-has_letters, else-at, else-at-via-then-at+else-not-has_letters, else-at-via-else-at}

pub loop-choice-preserved : goal.loop-choice-preserved
loop-choice-preserved c =
    let long = c.loop-choice.invariant.long in
    let below : c.loop-choice.choice < length c.loop-choice.words = omega arith in
    elim c.if-at.branch [
      | then-at+then-not-has_letters w ↦
          rw (w.words-is, w.set.ensures, w.removed-is) (KeepsBelow-strike _ _ _ _ _ c.loop-choice.invariant below (sym c.at.ensures ∙ w.if-at.true) (iff_false w.has_letters.ensures w.if-not-has_letters.true))
      | else-at w ↦ elim w.else-at.branch [
        | else-at-via-then-at+else-not-has_letters w' ↦
            rw (w.words-is, w.removed-is) (KeepsBelow-keep _ _ _ _ _ c.loop-choice.invariant (λ stands. w'.has_letters.ensures.0 w'.if-not-has_letters.false))
        | else-at-via-else-at w' ↦
            rw (w.words-is, w.removed-is) (KeepsBelow-keep _ _ _ _ _ c.loop-choice.invariant (λ stands. absurd (false≢true (sym w'.if-at.false ∙ c.at.ensures ∙ stands))))
      ]
    ]
