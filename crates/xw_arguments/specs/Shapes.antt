-- The options and operands of the command line, as `clap` rules.
use Rattle.std.specs.Prelude.{◌≡◌, Option, Some, true, false, codes, List, [], ◌∷◌}
use Rattle.clap.specs.Kinds.{Kinds}
use Rattle.clap.specs.Words.{App, Row, Rule, Text, fault_of, new_app, new_rule, subcommand_of, with_rule, with_subcommand}
use Rattle.clap.specs.Lexer.{usize_max}
use Rattle.clap.specs.Simple.{on_top}
use Rattle.clap.specs.declared.builder.action.ArgAction.TheVariants.{SetTrue}
use Rattle.clap.specs.declared.builder.arg.Arg.{Arg}
use Rattle.clap.specs.declared.builder.command.Command.{Command}
use Rattle.clap.specs.declared.builder.command.Command.TheViews.{out-Command as fields_of}

-- an option that takes a file, `--NAME FILE`
abbrev pub option : Text → Rule
option name = record (new_rule name) { long = Some name; value_names = 1 }

-- an option without a value, `--NAME`
abbrev pub flag : Text → Rule
flag name = record (new_rule name) { long = Some name; action = Some SetTrue }

abbrev pub explain : Rule
explain = flag (codes "explain")

-- a required operand that is a file
abbrev pub operand : Text → Rule
operand name = record (new_rule name) { value_names = 1; required = true }

-- a required operand that is a list of files
abbrev pub operands : Text → Rule
operands name = record (operand name) { range = Some (record { start_inclusive = 1; end_inclusive = usize_max }) }

-- an argument of one command alone, which its subcommands do not take
abbrev pub IsLocal : Arg → Type 0
IsLocal arg = arg.global ≡ false

abbrev pub HasNoGlobals : Command → Type 0
HasNoGlobals command = (fields_of command).has_globals ≡ false

-- a command with more arguments, in turn
abbrev pub with_rules : App → List Rule → App
with_rules app [] = app
with_rules app (rule ∷ rules) = with_rules (with_rule app rule) rules

-- a command with more subcommands, in turn
abbrev pub with_subcommands : App → List App → App
with_subcommands app [] = app
with_subcommands app (subcommand ∷ subcommands) = with_subcommands (with_subcommand app subcommand.top) subcommands

abbrev pub edit : App
edit =
    with_rules (new_app (codes "edit"))
    (option (codes "dict") ∷ option (codes "from") ∷ option (codes "resume") ∷ option (codes "to") ∷ option (codes "save") ∷ option (codes "journal") ∷ flag (codes "sync") ∷ flag (codes "progress") ∷ explain ∷ [])

abbrev pub convert : App
convert = with_rules (new_app (codes "convert")) (operand (codes "from") ∷ operand (codes "to") ∷ explain ∷ [])

abbrev pub check : App
check = with_rules (new_app (codes "check")) (operands (codes "file") ∷ explain ∷ [])

-- the program without its subcommands
abbrev pub program : App
program = on_top (λ s. record s { subcommand_required = true; has_version = true }) (new_app (codes "xw"))

abbrev pub xw : App
xw = with_subcommands program (edit ∷ convert ∷ check ∷ [])

-- the errors that `clap` finds in the words of a command line
abbrev pub faults_in : List Text → Kinds
faults_in words = fault_of xw words

-- the subcommand that `clap` finds in them, with its values
abbrev pub subcommand_in : List Text → Option (Text × List Row)
subcommand_in words = subcommand_of xw words
