use Rattle.std.proofs.Common.{◌∙◌, codes, inl, inr, refl, sym}
use Rattle.clap.specs.Words.{found_of}
use Rattle.clap.proofs.WalkLemmas.{first_value-rows}
use Rattle.xw_arguments.proofs.arguments.convert_of.Goals as goal

pub returns-in_err-get_str-clause-none : goal.returns-in_err-get_str-clause-none
returns-in_err-get_str-clause-none c = λ _. inl (sym (c.in_err-get_str.ensures ∙ first_value-rows (found_of c.args.matches.now) (codes "from")))

pub returns-in_err-get_str-2-clause-none : goal.returns-in_err-get_str-2-clause-none
returns-in_err-get_str-2-clause-none c = λ _. inr (sym (c.in_err-get_str-2.ensures ∙ first_value-rows (found_of c.args.matches.now) (codes "to")))

pub returns-clause-call : goal.returns-clause-call
returns-clause-call c =
    let found = found_of c.args.matches.now in
    (refl, (c.in_ok-get_str.ensures ∙ first_value-rows found (codes "from"), c.in_ok-get_str-2.ensures ∙ first_value-rows found (codes "to"), c.is_explained.ensures))
