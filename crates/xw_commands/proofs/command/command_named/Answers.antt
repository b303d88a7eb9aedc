use Rattle.std.proofs.Common.{sym, ◌∙◌, ap}
use Rattle.std.specs.Prelude.{Err}
use Rattle.std.proofs.lemmas.Result.{err_from_is_err_and}
use Rattle.xw_commands.proofs.Named.{asked, changed}
use Rattle.xw_commands.proofs.command.command_named.Goals as goal

pub returns-in-Some : goal.returns-in-Some
returns-in-Some c = asked c.args.word.now c.args.words.now c.in-Some.name _ (sym c.in-Some.ensures) c.in_ok-arguments.ensures

pub returns-in_err-arguments-2 : goal.returns-in_err-arguments-2
returns-in_err-arguments-2 c =
    let e = err_from_is_err_and c.from_residual-in_err-arguments-2.result c.from_residual-in_err-arguments-2.ensures.1 in
    rw e.1 (changed c.args.word.now c.args.words.now c.in-Some-named.name _ (sym c.in_default.ensures) (sym c.in-Some-named.ensures) c.in_err-arguments-2.ensures ∙ ap Err (sym e.2))

pub returns-in-Some-named : goal.returns-in-Some-named
returns-in-Some-named c = changed c.args.word.now c.args.words.now c.in-Some-named.name _ (sym c.in_default.ensures) (sym c.in-Some-named.ensures) c.in_ok-arguments-2.ensures
