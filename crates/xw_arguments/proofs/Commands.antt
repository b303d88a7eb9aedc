-- Commands of `clap` with arguments and subcommands that are added in turn.
use Rattle.std.proofs.Common.{◌≡◌, ◌∙◌, Bool, true, false, ◌||◌, List, [], ◌∷◌, map, refl, sym, ap}
use Rattle.std.specs.Prelude.{All, Result, Ok, Err, IfOk}
use Rattle.std.proofs.lemmas.List.Elements.{All-head, All-tail}
use Rattle.clap.specs.Words.{AddsArg, AddsInTurn, AddsSubcommand, app_of, rule_of}
use Rattle.clap.specs.declared.builder.arg.Arg.{Arg}
use Rattle.clap.specs.declared.builder.command.Command.{Command}
use Rattle.clap.specs.declared.builder.command.Command.TheViews.{out-Command as fields_of}
use Rattle.xw_arguments.specs.Shapes.{HasNoGlobals, IsLocal, with_rules, with_subcommands}

or_false : (a b : Bool) → b ≡ false → (a || b) ≡ a
or_false true b e = refl
or_false false b e = e

pub args_added : (old new : Command) (args : List Arg) → AddsInTurn AddsArg old args new → All IsLocal args
    → (app_of new ≡ with_rules (app_of old) (map rule_of args)) × ((fields_of new).has_globals ≡ (fields_of old).has_globals)
args_added old new [] same local = (ap app_of (sym same), ap (λ (command : Command). (fields_of command).has_globals) (sym same))
args_added old new (arg ∷ args) (mid, adds, others) local =
    let rest = args_added mid new args others (All-tail IsLocal arg args local) in (
      rest.0 ∙ ap (λ app. with_rules app (map rule_of args)) (adds.shape (All-head IsLocal arg args local)),
      rest.1 ∙ adds.globals ∙ or_false (fields_of old).has_globals arg.global (All-head IsLocal arg args local),
    )

pub subcommands_added : (old new : Command) (subcommands : List Command) → AddsInTurn AddsSubcommand old subcommands new → All HasNoGlobals subcommands
    → (app_of new ≡ with_subcommands (app_of old) (map app_of subcommands)) × ((fields_of new).has_globals ≡ (fields_of old).has_globals)
subcommands_added old new [] same local = (ap app_of (sym same), ap (λ (command : Command). (fields_of command).has_globals) (sym same))
subcommands_added old new (subcommand ∷ subcommands) (mid, adds, others) local =
    let rest = subcommands_added mid new subcommands others (All-tail HasNoGlobals subcommand subcommands local) in (
      rest.0 ∙ ap (λ app. with_subcommands app (map app_of subcommands)) (adds.shape (All-head HasNoGlobals subcommand subcommands local)),
      rest.1 ∙ adds.globals ∙ or_false (fields_of old).has_globals (fields_of subcommand).has_globals (All-head HasNoGlobals subcommand subcommands local),
    )

-- the same of a command that may not have been allocated

pub args_shape : {E : Type 0} (result : Result Command E) (old : Command) (args : List Arg) → All IsLocal args → IfOk result (λ new. AddsInTurn AddsArg old args new)
    → IfOk result (λ new. app_of new ≡ with_rules (app_of old) (map rule_of args))
args_shape (Ok new) old args local adds = (args_added old new args adds local).0
args_shape (Err error) old args local adds = tt

pub args_local : {E : Type 0} (result : Result Command E) (old : Command) (args : List Arg) → All IsLocal args → IfOk result (λ new. AddsInTurn AddsArg old args new)
    → IfOk result (λ new. (fields_of new).has_globals ≡ (fields_of old).has_globals)
args_local (Ok new) old args local adds = (args_added old new args adds local).1
args_local (Err error) old args local adds = tt

pub subcommands_shape : {E : Type 0} (result : Result Command E) (old : Command) (subcommands : List Command) → All HasNoGlobals subcommands
    → IfOk result (λ new. AddsInTurn AddsSubcommand old subcommands new) → IfOk result (λ new. app_of new ≡ with_subcommands (app_of old) (map app_of subcommands))
subcommands_shape (Ok new) old subcommands local adds = (subcommands_added old new subcommands adds local).0
subcommands_shape (Err error) old subcommands local adds = tt

pub subcommands_local : {E : Type 0} (result : Result Command E) (old : Command) (subcommands : List Command) → All HasNoGlobals subcommands
    → IfOk result (λ new. AddsInTurn AddsSubcommand old subcommands new) → IfOk result (λ new. (fields_of new).has_globals ≡ (fields_of old).has_globals)
subcommands_local (Ok new) old subcommands local adds = (subcommands_added old new subcommands adds local).1
subcommands_local (Err error) old subcommands local adds = tt
