-- Why arguments are not a call, by the kinds of error that `clap` gives for them.
use Rattle.std.specs.Prelude.{◌≡◌, ◌≢◌, ◌⊎◌, List, [], Option, Some, codes}
use Rattle.clap.specs.Kinds.{Kinds, IsAmong}
use Rattle.clap.specs.Words.{Row, Text}
use Rattle.clap.specs.declared.error.kind.ErrorKind.{ErrorKind}
use Rattle.clap.specs.declared.error.kind.ErrorKind.TheVariants.{DisplayHelp, DisplayVersion, OutOfMemory}
use Rattle.xw_arguments.specs.Calls.{IsCall, clash_in, clash_text, misnaming_in, misnaming_text}
use Rattle.xw_arguments.specs.Tips.{tip_due, HasTip}
use Rattle.xw_arguments.specs.declared.arguments.Misnaming.{Misnaming}
use Rattle.xw_arguments.specs.declared.arguments.Call.{Call}
use Rattle.xw_arguments.specs.declared.arguments.NoCall.{NoCall}
use Rattle.xw_arguments.specs.declared.arguments.NoCall.TheVariants as reasons
use Rattle.xw_arguments.specs.declared.arguments.Usage.{Usage}
use Rattle.xw_arguments.specs.declared.arguments.Usage.TheVariants.{Help, Wrong, Memory}

-- the arguments ask for help or the version
abbrev pub IsHelp : ErrorKind → Type 0
IsHelp kind = (kind ≡ DisplayHelp) ⊎ (kind ≡ DisplayVersion)

-- how an error of this kind in these words, with this text, is reported
abbrev pub IsTold : ErrorKind → List Text → Text → Usage → Type 0
IsTold kind words text (Help told) = IsHelp kind × (told.bytes.items ≡ text)
IsTold kind words text (Wrong told) = (kind ≢ DisplayHelp) × (kind ≢ DisplayVersion) × (kind ≢ OutOfMemory) × HasTip text (tip_due kind words) told.bytes.items
IsTold kind words text Memory = Unit {0}

-- how an error of this kind in these words is reported, whatever its text
abbrev pub IsToldOf : ErrorKind → List Text → Usage → Type 0
IsToldOf kind words usage = (text : Text) × IsTold kind words text usage

-- the parsed arguments describe no call
abbrev pub IsNoCall : Option (Text × List Row) → Type 0
IsNoCall found = (call : Call) → IsCall call found → ⊥

-- why the parsed arguments describe no call: options of `edit` clash, or a file is missing
abbrev pub IsNoCallFor : Option (Text × List Row) → NoCall → Type 0
IsNoCallFor found (reasons.Clash clash) = (rows : List Row) × (found ≡ Some (codes "edit", rows)) × (clash_in rows ≡ Some clash)
IsNoCallFor found reasons.Incomplete = IsNoCall found
IsNoCallFor found reasons.Memory = Unit {0}

-- how such a reason is reported
abbrev pub IsNoCallTold : NoCall → Usage → Type 0
IsNoCallTold (reasons.Clash clash) (Wrong text) = text.bytes.items ≡ clash_text clash
IsNoCallTold reasons.Incomplete (Wrong text) = text.bytes.items ≡ codes "xw: a file is missing\n"
IsNoCallTold reason (Wrong text) = ⊥
IsNoCallTold reason (Help text) = ⊥
IsNoCallTold reason Memory = Unit {0}

-- the parsed arguments describe no call, and the message says why
abbrev pub IsNoCallIn : Option (Text × List Row) → Usage → Type 0
IsNoCallIn found usage = IsNoCall found × (reason : NoCall) × IsNoCallFor found reason × IsNoCallTold reason usage

-- the names of a call are no names of files, and the message says why
abbrev pub IsMisnamed : Call → Usage → Type 0
IsMisnamed call (Help text) = ⊥
IsMisnamed call (Wrong text) = (misnaming : Misnaming) × (misnaming_in call ≡ Some misnaming) × (text.bytes.items ≡ misnaming_text misnaming)
IsMisnamed call Memory = Unit {0}

-- the parsed arguments describe a call with such names
abbrev pub IsMisnamedIn : Option (Text × List Row) → Usage → Type 0
IsMisnamedIn found usage = (call : Call) × IsCall call found × IsMisnamed call usage

-- Help is for arguments that ask for it. Wrong is for arguments with another error, or with no error but no call
-- either, or a call whose names are no names of files.
abbrev pub IsUsageOf : Kinds → List Text → Option (Text × List Row) → Usage → Type 0
IsUsageOf kinds words found (Help text) = (kind : ErrorKind) × IsAmong kind kinds × IsToldOf kind words (Help text)
IsUsageOf kinds words found (Wrong text) =
    ((kind : ErrorKind) × IsAmong kind kinds × IsToldOf kind words (Wrong text)) ⊎ ((kinds ≡ []) × (IsNoCallIn found (Wrong text) ⊎ IsMisnamedIn found (Wrong text)))
IsUsageOf kinds words found Memory = Unit {0}
