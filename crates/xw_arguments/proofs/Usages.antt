-- The reports for arguments that are no call.
use Rattle.std.proofs.Common.{◌≡◌, ◌∙◌, ◌⊎◌, inl, inr, sym, true, refl, subst, List, Option, None, [], codes}
use Rattle.std.specs.Prelude.{Result, Ok, Err, IfOk, IfErr, OnOk}
use Rattle.clap.specs.Kinds.{Kinds, IsAmong}
use Rattle.clap.specs.Words.{App, Row, Text, fault_of, is_simple_and_free}
use Rattle.clap.specs.declared.error.kind.ErrorKind.{ErrorKind}
use Rattle.clap.specs.declared.error.kind.ErrorKind.TheVariants.{DisplayHelp, DisplayVersion, OutOfMemory}
use Rattle.xw_arguments.specs.Shapes as shapes
use Rattle.xw_arguments.specs.Usage.{IsMisnamed, IsNoCallFor, IsNoCallTold, IsTold, IsUsageOf}
use Rattle.xw_arguments.specs.Calls.{IsCall, misnaming_in}
use Rattle.xw_arguments.specs.declared.arguments.Call.{Call}
use Rattle.xw_arguments.specs.declared.arguments.NoCall.{NoCall}
use Rattle.xw_arguments.specs.declared.arguments.NoCall.TheVariants as reasons
use Rattle.xw_arguments.proofs.Rows.{clashed, no_call, no_edit}
use Rattle.xw_arguments.specs.declared.arguments.Usage.{Usage}
use Rattle.xw_arguments.specs.declared.arguments.Usage.TheVariants.{Help, Wrong, Memory}

-- `clap` states the errors of this command line
pub passed : (app : App) (words : List Text) → app ≡ shapes.xw → (is_simple_and_free app ≡ true → fault_of app words ≡ []) → fault_of shapes.xw words ≡ []
passed app words is kinds = subst (λ (a : App). is_simple_and_free a ≡ true → fault_of a words ≡ []) is kinds refl

pub failed : (app : App) (words : List Text) (kind : ErrorKind) → app ≡ shapes.xw → (is_simple_and_free app ≡ true → (kind ≡ OutOfMemory) ⊎ IsAmong kind (fault_of app words)) → (kind ≡ OutOfMemory) ⊎ IsAmong kind (fault_of shapes.xw words)
failed app words kind is kinds = subst (λ (a : App). is_simple_and_free a ≡ true → (kind ≡ OutOfMemory) ⊎ IsAmong kind (fault_of a words)) is kinds refl

pub told_of : (kinds : Kinds) (words : List Text) (found : Option (Text × List Row)) (kind : ErrorKind) (plain : Text) (usage : Usage) → (kind ≡ OutOfMemory) ⊎ IsAmong kind kinds → IsTold kind words plain usage → IsUsageOf kinds words found usage
told_of kinds words found kind plain (Help text) (inl memory) told = elim told.0 [
  | inl help ↦ let bad : OutOfMemory ≡ DisplayHelp = sym memory ∙ help in cc
  | inr version ↦ let bad : OutOfMemory ≡ DisplayVersion = sym memory ∙ version in cc
]
told_of kinds words found kind plain (Help text) (inr among) told = (kind, among, (plain, told))
told_of kinds words found kind plain (Wrong text) (inl memory) told = absurd (told.2 memory)
told_of kinds words found kind plain (Wrong text) (inr among) told = inl (kind, among, (plain, told))
told_of kinds words found kind plain Memory has told = tt

-- parsed arguments that are no call are reported
pub no_call_told : (kinds : Kinds) (words : List Text) (found : Option (Text × List Row)) (reason : NoCall) (usage : Usage) → kinds ≡ [] → IsNoCallFor found reason → IsNoCallTold reason usage → IsUsageOf kinds words found usage
no_call_told kinds words found (reasons.Clash clash) (Wrong text) none why told =
    inr (none, inl (no_call found (codes "edit") why.0 why.1 (no_edit why.0 (clashed why.0 clash why.2)), reasons.Clash clash, why, told))
no_call_told kinds words found reasons.Incomplete (Wrong text) none why told = inr (none, inl (why, reasons.Incomplete, why, told))
no_call_told kinds words found reasons.Memory (Wrong text) none why told = absurd told
no_call_told kinds words found (reasons.Clash clash) (Help text) none why told = absurd told
no_call_told kinds words found reasons.Incomplete (Help text) none why told = absurd told
no_call_told kinds words found reasons.Memory (Help text) none why told = absurd told
no_call_told kinds words found reason Memory none why told = tt

-- the names of a call are reported
pub misnamed_of : (kinds : Kinds) (words : List Text) (found : Option (Text × List Row)) (call : Call) (usage : Usage) → kinds ≡ [] → IsCall call found → IsMisnamed call usage → IsUsageOf kinds words found usage
misnamed_of kinds words found call (Help text) none is bad = absurd bad
misnamed_of kinds words found call (Wrong text) none is bad = inr (none, inr (call, is, bad))
misnamed_of kinds words found call Memory none is bad = tt

-- ---- a call whose names are looked at

pub passed_on : (result : Result Call Usage) (P : Type 0) → P → OnOk result P
passed_on (Ok call) P holds = holds
passed_on (Err usage) P holds = tt

pub call_on : (result : Result Call Usage) (call : Call) (found : Option (Text × List Row)) → IsCall call found → IfOk result (λ same. (same ≡ call) × (misnaming_in same ≡ None)) → IfOk result (λ same. IsCall same found)
call_on (Ok same) call found is named = subst (λ (c : Call). IsCall c found) (sym named.0) is
call_on (Err usage) call found is named = tt

pub named_on : (result : Result Call Usage) (call : Call) → IfOk result (λ same. (same ≡ call) × (misnaming_in same ≡ None)) → IfOk result (λ same. misnaming_in same ≡ None)
named_on (Ok same) call named = named.1
named_on (Err usage) call named = tt

pub usage_on : (result : Result Call Usage) (kinds : Kinds) (words : List Text) (call : Call) (found : Option (Text × List Row)) → kinds ≡ [] → IsCall call found → IfErr result (IsMisnamed call) → IfErr result (IsUsageOf kinds words found)
usage_on (Ok same) kinds words call found none is bad = tt
usage_on (Err usage) kinds words call found none is bad = misnamed_of kinds words found call usage none is bad
