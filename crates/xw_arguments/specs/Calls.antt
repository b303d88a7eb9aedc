-- The call that the parsed arguments describe.
use Rattle.std.specs.Prelude.{◌≡◌, ◌==◌, ◌||◌, ◌++◌, count_by, if◌then◌else◌, length, nat_lt, Bool, true, false, bytes_eq, is_some, map, List, Option, Some, None, codes, option_map}
use Rattle.std.specs.Borrow.{Bor}
use Rattle.std.specs.List.{list_any}
use Rattle.clap.specs.Words.{Row, Text, all_of, first_of}
use Rattle.xw_arguments.specs.declared.arguments.SessionFiles.{SessionFiles}
use Rattle.xw_arguments.specs.declared.arguments.Clash.{Clash}
use Rattle.xw_arguments.specs.declared.arguments.Clash.TheVariants.{TwoStarts, JournalAndStart, SyncAlone}
use Rattle.xw_arguments.specs.declared.arguments.Misnaming.{Misnaming}
use Rattle.xw_arguments.specs.declared.arguments.Misnaming.TheVariants.{Nameless, InputTwice}
use Rattle.xw_arguments.specs.declared.arguments.Call.{Call}
use Rattle.xw_arguments.specs.declared.arguments.Call.TheVariants.{Edit, Convert, Check}

-- the name is the value of this option
abbrev pub IsNameOf : Text → List Row → Option (Bor Text) → Type 0
IsNameOf option rows name = option_map (λ n. n.now) name ≡ first_of option rows

-- a flag is set if its value is `true`
abbrev pub is_set : Option Text → Bool
is_set None = false
is_set (Some text) = bytes_eq text (codes "true")

-- The options that do not go together, if any: at most one of `--from`, `--resume` and `--journal` is given, and
-- `--sync` is given only with `--journal`. The arguments say whether each of these is given.
abbrev pub clash_of : Bool → Bool → Bool → Bool → Option Clash
clash_of true true journal sync = Some TwoStarts
clash_of true false true sync = Some JournalAndStart
clash_of false true true sync = Some JournalAndStart
clash_of true false false true = Some SyncAlone
clash_of false true false true = Some SyncAlone
clash_of false false false true = Some SyncAlone
clash_of from resume journal sync = None

abbrev pub clash_in : List Row → Option Clash
clash_in rows = clash_of (is_some (first_of (codes "from") rows)) (is_some (first_of (codes "resume") rows)) (is_some (first_of (codes "journal") rows)) (is_set (first_of (codes "sync") rows))

abbrev pub clash_text : Clash → Text
clash_text TwoStarts = codes "xw: --from and --resume cannot be given together\n"
clash_text JournalAndStart = codes "xw: --journal cannot be given with --from or --resume\n"
clash_text SyncAlone = codes "xw: --sync needs --journal\n"

-- Each file is the value of its option, and no options clash.
pub record AreFiles (files : SessionFiles) (rows : List Row) : Type 0 where
  pub dict : IsNameOf (codes "dict") rows files.dict
  pub from_file : IsNameOf (codes "from") rows files.from_file
  pub resume_file : IsNameOf (codes "resume") rows files.resume_file
  pub to_file : IsNameOf (codes "to") rows files.to_file
  pub save_file : IsNameOf (codes "save") rows files.save_file
  pub journal_file : IsNameOf (codes "journal") rows files.journal_file
  pub synced : files.is_synced ≡ is_set (first_of (codes "sync") rows)
  pub progress : files.shows_progress ≡ is_set (first_of (codes "progress") rows)
  pub fits : clash_in rows ≡ None

-- `explain` says whether `--explain` is given
abbrev pub IsExplained : List Row → Bool → Type 0
IsExplained rows explain = explain ≡ is_set (first_of (codes "explain") rows)

-- whether a call explains faults
abbrev pub is_explained : Call → Bool
is_explained (Edit files explain) = explain
is_explained (Convert from_file to_file explain) = explain
is_explained (Check files explain) = explain

-- the subcommand of a call
abbrev pub subcommand : Call → Text
subcommand (Edit files explain) = codes "edit"
subcommand (Convert from_file to_file explain) = codes "convert"
subcommand (Check files explain) = codes "check"

-- each file of the call is the value of its option or operand; those of `check` are all values of its operand
abbrev pub HasValues : Call → List Row → Type 0
HasValues (Edit files explain) rows = AreFiles files rows × IsExplained rows explain
HasValues (Convert from_file to_file explain) rows =
    (Some from_file.now ≡ first_of (codes "from") rows) × (Some to_file.now ≡ first_of (codes "to") rows) × IsExplained rows explain
HasValues (Check files explain) rows = (Some (map (λ file. file.now) files.items) ≡ all_of (codes "file") rows) × IsExplained rows explain

-- a call of the subcommand with this name, with these values
abbrev pub IsCallOf : Text → Call → List Row → Type 0
IsCallOf name call rows = (subcommand call ≡ name) × HasValues call rows

-- the call is the subcommand with its values
abbrev pub IsCall : Call → Option (Text × List Row) → Type 0
IsCall call found = (name : Text) × (rows : List Row) × (found ≡ Some (name, rows)) × IsCallOf name call rows

-- ---- the names of a call

-- a file is named, and its name is empty
abbrev pub is_empty : Option (Bor Text) → Bool
is_empty None = false
is_empty (Some name) = length name.now == 0

abbrev pub has_nameless : SessionFiles → Bool
has_nameless files = is_empty files.dict || is_empty files.from_file || is_empty files.resume_file || is_empty files.to_file || is_empty files.save_file || is_empty files.journal_file

-- a file of the call has an empty name
abbrev pub is_nameless : Call → Bool
is_nameless (Edit files explain) = has_nameless files
is_nameless (Convert from_file to_file explain) = (length from_file.now == 0) || (length to_file.now == 0)
is_nameless (Check files explain) = list_any (λ file. length file.now == 0) files.items

-- two files to check are standard input
abbrev pub reads_input_twice : Call → Bool
reads_input_twice (Check files explain) = nat_lt 1 (count_by (λ file. bytes_eq file.now (codes "-")) files.items)
reads_input_twice call = false

-- why the names of a call are no names of files, if they are not
abbrev pub misnaming_in : Call → Option Misnaming
misnaming_in call = if is_nameless call then Some Nameless else if reads_input_twice call then Some InputTwice else None

abbrev pub misnaming_text : Misnaming → Text
misnaming_text Nameless = codes "xw: the name of a file is empty\n"
misnaming_text InputTwice = codes "xw: -: standard input can be read only once\n"
