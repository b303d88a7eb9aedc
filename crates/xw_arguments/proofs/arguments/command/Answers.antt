use Rattle.std.proofs.Common.{◌≡◌, ◌∙◌, Bool, List, [], ◌∷◌, map, sym, ap, subst}
use Rattle.std.specs.Prelude.{All, IfOk}
use Rattle.std.proofs.lemmas.List.Elements.{All-nil, All-cons}
use Rattle.clap.specs.Words.{App, app_of}
use Rattle.clap.specs.declared.builder.command.Command.{Command}
use Rattle.clap.specs.declared.builder.command.Command.TheViews.{out-Command as fields_of}
use Rattle.xw_arguments.specs.Shapes as shapes
use Rattle.xw_arguments.specs.Shapes.{HasNoGlobals}
use Rattle.xw_arguments.proofs.arguments.command.Goals as goal

pub with_subcommands-requires : goal.with_subcommands-requires
with_subcommands-requires c =
    let edit = c.in_ok-edit.field-0 in
    let convert = c.in_ok-convert.field-0 in
    let check = c.in_ok-check.field-0 in
    let local : All HasNoGlobals (edit ∷ convert ∷ check ∷ []) =
    All-cons HasNoGlobals edit (convert ∷ check ∷ []) c.in_ok-edit.ensures.local
    (All-cons HasNoGlobals convert (check ∷ []) c.in_ok-convert.ensures.local (All-cons HasNoGlobals check [] c.in_ok-check.ensures.local (All-nil HasNoGlobals))) in
    record { local = subst (All HasNoGlobals) (sym c.in_ok-subcommands.ensures.items) local }

pub returns-clause-shape : goal.returns-clause-shape
returns-clause-shape c =
    let edit = c.in_ok-edit.field-0 in
    let convert = c.in_ok-convert.field-0 in
    let check = c.in_ok-check.field-0 in
    let items = c.in_ok-subcommands.subcommands.items in
    let With : App → Type 0 = λ app. IfOk c.with_subcommands.result (λ command. app_of command ≡ app) in
    let same : shapes.with_subcommands (app_of c.program.result) (map app_of items) ≡ shapes.xw =
    ap (λ program. shapes.with_subcommands program (map app_of items)) c.program.ensures.shape
    ∙ ap (λ (commands : List Command). shapes.with_subcommands shapes.program (map app_of commands)) c.in_ok-subcommands.ensures.items
    ∙ ap (λ app. shapes.with_subcommands shapes.program (app ∷ app_of convert ∷ app_of check ∷ [])) c.in_ok-edit.ensures.shape
    ∙ ap (λ app. shapes.with_subcommands shapes.program (shapes.edit ∷ app ∷ app_of check ∷ [])) c.in_ok-convert.ensures.shape
    ∙ ap (λ app. shapes.with_subcommands shapes.program (shapes.edit ∷ shapes.convert ∷ app ∷ [])) c.in_ok-check.ensures.shape in
    subst With same c.with_subcommands.ensures.shape

pub returns-clause-local : goal.returns-clause-local
returns-clause-local c =
    subst (λ (globals : Bool). IfOk c.with_subcommands.result (λ command. (fields_of command).has_globals ≡ globals)) c.program.ensures.local c.with_subcommands.ensures.local
