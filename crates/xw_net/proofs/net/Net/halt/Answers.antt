use Rattle.std.proofs.Common.{◌≡◌, ℕ, false, length, ap, ◌∙◌, inl, inr, arith}
use Rattle.std.specs.Prelude.{replicate}
use Rattle.std.proofs.lemmas.Bool.{cases_lt}
use Rattle.std.proofs.lemmas.List.{get_or-replicate, get_or_past, length-replicate, with_items_is}
use Rattle.xw_letters.specs.LetterSet.{has}
use Rattle.xw_letters.proofs.LetterSetLemmas.{has-none}
use Rattle.xw_feas.specs.Flags.{set_has}
use Rattle.xw_net.specs.Nets.{pending_in}
use Rattle.xw_net.proofs.net.Net.halt.Goals as goal

all_empty : (n slot letter : ℕ) → set_has (replicate n 0) slot letter ≡ false
all_empty n slot letter = elim (cases_lt slot n) [
  | inl lt ↦ ap (λ s. has s letter) (get_or-replicate n slot 0 0 lt) ∙ has-none letter
  | inr le ↦ ap (λ s. has s letter) (get_or_past (replicate n 0) slot 0 (omega (arith, length-replicate {A = ℕ} n 0))) ∙ has-none letter
]

pub returns-clause-pending : goal.returns-clause-pending
unfolding pending_in
returns-clause-pending c slot letter =
    ap (λ sets. set_has sets slot letter) (with_items_is c.args.self.now.pending c.fill.new.self (omega (arith, c.fill.ensures.len, c.as_mut_slice.ensures.len)) ∙ c.fill.ensures.after (λ y clone. clone))
    ∙ ap (λ set. set_has (replicate (length c.as_mut_slice.result.now) set) slot letter) c.new.ensures
    ∙ all_empty (length c.as_mut_slice.result.now) slot letter
