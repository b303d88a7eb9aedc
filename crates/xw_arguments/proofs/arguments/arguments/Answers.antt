use Rattle.std.proofs.Common.{◌≡◌, refl, subst, map, []}
use Rattle.std.specs.Prelude.{List, Option}
use Rattle.clap.specs.Words.{App, HasMatchesOf, Row, Text, app_of, kind_of}
use Rattle.xw_arguments.specs.Calls.{IsCall}
use Rattle.xw_arguments.specs.Shapes as shapes
use Rattle.xw_arguments.specs.Usage.{IsNoCallFor}
use Rattle.xw_arguments.proofs.Usages.{call_on, failed, named_on, no_call_told, passed, passed_on, told_of, usage_on}
use Rattle.xw_arguments.proofs.arguments.arguments.Goals as goal

pub returns-in-Err-clause-usage : goal.returns-in-Err-clause-usage
returns-in-Err-clause-usage g c =
    told_of _ (map g.S.AsStr.text c.args.words.now) _ _ _ c.explanation.result (failed (app_of c.in_ok-command.command) (map g.S.AsStr.text c.args.words.now) (kind_of c.in-Err.error) c.in_ok-command.ensures.shape c.in-Err.ensures.kinds) c.explanation.ensures

pub returns-in-Ok-call_of-clause-parsed : goal.returns-in-Ok-call_of-clause-parsed
returns-in-Ok-call_of-clause-parsed g c =
    let words = map g.S.AsStr.text c.args.words.now in
    passed_on c.named.result (shapes.faults_in words ≡ []) (passed (app_of c.in_ok-command.command) words c.in_ok-command.ensures.shape c.in-Ok.ensures.kinds)

pub returns-clause-usage : goal.returns-clause-usage
returns-clause-usage g c =
    let words = map g.S.AsStr.text c.args.words.now in
    let is = c.in_ok-command.ensures.shape in
    let none = passed (app_of c.in_ok-command.command) words is c.in-Ok.ensures.kinds in
    let found = subst (λ (a : App). HasMatchesOf a words c.in-Ok.matches) is c.in-Ok.ensures.matches refl in
    let why = subst (λ (f : Option (Text × List Row)). IsNoCallFor f c.in-Err-call_of.reason) found.1 c.in-Err-call_of.ensures.none in
    no_call_told (shapes.faults_in words) words (shapes.subcommand_in words) c.in-Err-call_of.reason c.usage_of.result none why c.usage_of.ensures

pub returns-in-Ok-call_of-clause-call : goal.returns-in-Ok-call_of-clause-call
returns-in-Ok-call_of-clause-call g c =
    let words = map g.S.AsStr.text c.args.words.now in
    let found = subst (λ (a : App). HasMatchesOf a words c.in-Ok.matches) c.in_ok-command.ensures.shape c.in-Ok.ensures.matches refl in
    call_on c.named.result c.in-Ok-call_of.call (shapes.subcommand_in words) (subst (IsCall c.in-Ok-call_of.call) found.1 c.in-Ok-call_of.ensures.call) c.named.ensures.call

pub returns-in-Ok-call_of-clause-named : goal.returns-in-Ok-call_of-clause-named
returns-in-Ok-call_of-clause-named g c = named_on c.named.result c.in-Ok-call_of.call c.named.ensures.call

pub returns-in-Ok-call_of-clause-usage : goal.returns-in-Ok-call_of-clause-usage
returns-in-Ok-call_of-clause-usage g c =
    let words = map g.S.AsStr.text c.args.words.now in
    let is = c.in_ok-command.ensures.shape in
    let none = passed (app_of c.in_ok-command.command) words is c.in-Ok.ensures.kinds in
    let found = subst (λ (a : App). HasMatchesOf a words c.in-Ok.matches) is c.in-Ok.ensures.matches refl in
    usage_on c.named.result (shapes.faults_in words) words c.in-Ok-call_of.call (shapes.subcommand_in words) none (subst (IsCall c.in-Ok-call_of.call) found.1 c.in-Ok-call_of.ensures.call) c.named.ensures.usage
