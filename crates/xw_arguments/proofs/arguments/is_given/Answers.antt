use Rattle.std.proofs.Common.{◌∙◌}
use Rattle.clap.specs.Words.{found_of}
use Rattle.clap.proofs.WalkLemmas.{first_value-rows}
use Rattle.xw_arguments.proofs.Rows.{given}
use Rattle.xw_arguments.proofs.arguments.is_given.Goals as goal

pub returns : goal.returns
returns c = given _ _ _ (c.get_str.ensures ∙ first_value-rows (found_of c.args.matches.now) c.args.name.now) c.is_some.ensures
