use Rattle.std.proofs.Common.{◌≡◌, ◌==◌, get_or, sym, ap, ◌∙◌}
use Rattle.std.proofs.lemmas.Bool.{eqb-true}
use Rattle.std.proofs.lemmas.List.{get_or_default}
use Rattle.xw_letters.specs.LetterSet.{has}
use Rattle.xw_letters.proofs.LetterSetLemmas.{has-none}
use Rattle.xw_net.specs.Nets.{pending_in}
use Rattle.xw_net.proofs.net.Net.is_clear.Goals as goal

pub returns : goal.returns
unfolding pending_in
returns c clear letter =
    let none : c.index.result.now ≡ 0 = eqb-true c.index.result.now 0 (ap (λ n. c.index.result.now == n) (sym c.new.ensures) ∙ sym c.is_same.ensures.set ∙ clear) in
    let is : c.index.result.now ≡ get_or c.args.self.now.pending.items c.args.slot 0 = c.index.ensures ∙ get_or_default c.args.self.now.pending.items c.args.slot c.index.result.now 0 c.requires in
    ap (λ s. has s letter) (sym is ∙ none) ∙ has-none letter
