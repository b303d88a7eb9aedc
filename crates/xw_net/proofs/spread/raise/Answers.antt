use Rattle.std.proofs.Common.{◌≡◌, ℕ, Bool, true, false, ◌&&◌, get_or, refl, ap, ◌∙◌, arith}
use Rattle.std.proofs.lemmas.Bool.{both_ways}
use Rattle.std.proofs.lemmas.List.{get_or_default}
use Rattle.xw_letters.specs.LetterSet.{has}
use Rattle.xw_net.proofs.Revivals.LettersComeBack.{same_set}
use Rattle.xw_net.proofs.spread.raise.Goals as goal

both_true : (a b : Bool) → (b ≡ true → a ≡ true) → (a && b) ≡ b
both_true a true h = ap (λ x. x && true) (h refl)
both_true true false h = refl
both_true false false h = refl

pub returns-clause-lacked : goal.returns-clause-lacked
returns-clause-lacked c _ all =
    let at : c.index-letters-cell.result ≡ get_or c.args.letters.now c.args.cell 0 = c.index-letters-cell.is ∙ get_or_default c.args.letters.now c.args.cell c.index-letters-cell.result 0 (omega arith) in
    let same : (letter : ℕ) → has c.common.result letter ≡ has c.args.may letter =
    λ letter. c.common.ensures.both letter ∙ both_true (has c.index-letters-cell.result letter) (has c.args.may letter) (λ h. ap (λ s. has s letter) at ∙ all letter h) in
    both_ways c.is_same.result c.if-is_same.false (c.is_same.ensures.letters ∙ same_set c.common.result c.args.may same)
