use Rattle.std.proofs.Common.{◌∙◌, codes, ap, refl, sym, map, List, ℕ, Some}
use Rattle.std.specs.Borrow.{Bor}
use Rattle.clap.specs.Words.{found_of}
use Rattle.clap.proofs.WalkLemmas.{raw_values-rows}
use Rattle.xw_arguments.proofs.arguments.check_of.Goals as goal

pub returns-in_default-clause-none : goal.returns-in_default-clause-none
returns-in_default-clause-none c = λ _. sym (c.in_default.ensures ∙ raw_values-rows (found_of c.args.matches.now) (codes "file"))

pub returns-clause-call : goal.returns-clause-call
returns-clause-call c =
    let same = ap (λ (files : List (Bor (List ℕ))). Some (map (λ file. file.now) files)) c.in_ok-from_slice.ensures.items in
    (refl, (same ∙ c.in-Some.ensures ∙ raw_values-rows (found_of c.args.matches.now) (codes "file"), c.is_explained.ensures))
