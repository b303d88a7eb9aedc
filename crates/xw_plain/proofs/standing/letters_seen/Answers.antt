use Rattle.std.proofs.Common.{sym, ◌∙◌, ap, arith}
use Rattle.std.proofs.lemmas.Bool.{false≢true}
use Rattle.xw_letters.specs.LetterSet.{has}
use Rattle.xw_letters.proofs.LetterSetLemmas.{has-none}
use Rattle.xw_plain.proofs.standing.letters_seen.Goals as goal

pub loop-choice-init : goal.loop-choice-init
loop-choice-init c = record {
  each = λ choice below. absurd (omega arith);
  no_other = λ letter h. absurd (false≢true (sym (has-none letter) ∙ ap (λ s. has s letter) (sym c.new-seen.ensures) ∙ h));
}
