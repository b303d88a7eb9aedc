-- From what each step of a call does to what the whole does.
use Rattle.std.proofs.Common.{◌≡◌, ◌∙◌, ◌⊎◌, ◌++◌, inl, inr, refl, sym, ap, subst, arith, ℕ, Bool, true, false, List, [], Result, Ok, Err, IfOk, IfErr, OnOk}
use Rattle.std.proofs.lemmas.Grind.{common_steps}
use Rattle.std.specs.Prelude.{MatchBool, Option, Some, bytes_eq, nat_lt, option_map}
use Rattle.std.specs.Borrow.{Bor}
use Rattle.xw_lines.specs.Device.{HasFailed}
use Rattle.xw_session.specs.Resuming.{Resumes}
use Rattle.xw_session.specs.State.{SessionState}
use Rattle.xw_session.specs.declared.resuming.Stop.{Stop}
use Rattle.xw_disk.specs.Disk.{find, end}
use Rattle.xw_disk.specs.declared.disk.DiskFault.{DiskFault}
use Rattle.xw_arguments.specs.declared.arguments.SessionFiles.{SessionFiles}
use Rattle.xw_desk.specs.declared.failure.Failure.{Failure}
use Rattle.xw_desk.specs.declared.failure.Failure.TheVariants.{Memory}
use Rattle.xw_desk.specs.declared.failure.ExitStatus.{ExitStatus}
use Rattle.xw_desk.specs.Desk.{Asks, Moment, Reports}
use Rattle.xw_desk.specs.Files.{IfNamed}
use Rattle.xw_desk.specs.Failures.{IsFaultOf}
use Rattle.xw_cli.specs.Journals.{HasReplayed, IsEnded, IsNotEnded, IsUnended, IsUnreplayed, Replaces}
use Rattle.xw_cli.specs.declared.session_files.Refusals.{Refusals}
use Rattle.xw_cli.specs.SessionFiles.{IsResumed, Replays, TellsReplay, file_of}
use Rattle.xw_cli_files.specs.ReplayReports.{explained_reports}
use Rattle.xw_cli.specs.Unended.{KeepsBefore, TellsUnended, record_file, unended_lines}
use Rattle.xw_cli_files.specs.Keeping.{KeepsBeside}
use Rattle.xw_cli.specs.Performed.{Closes, Ends, IsNotSaved, IsOpened, IsRunWith, IsSaved, IsUnresumed, IsUnrun, IsUnsaved, OpensOrFails, RunsOrFails, Saves, StillPuts, IsNotPut, IsNotPutFor}
use Rattle.xw_cli_files.specs.Saved.{IsNotOver, IsOver, Leaves}
use Rattle.xw_cli_files.specs.Put.{is_kept, of_session, IsNotPutOver}
use Rattle.xw_grid.specs.Puzzle.{PuzzleShown}

-- ---- the commands to resume

-- the reports that a replay makes in memory are written
nothing_failed : (f f' : ℕ) → f ≡ 0 → f' ≡ 0 → HasFailed f f' → ⊥
nothing_failed f f' old new failed = grind (arith, common_steps)

pub replays : (name : List ℕ) (start left : SessionState) (ended : Result ℕ Stop) (result : Result Refusals Failure) (lines : List (List ℕ)) (held lost : ℕ) (before bytes : List ℕ) (old new : Moment) → before ≡ [] → held ≡ 0
    → (told : List ℕ) × Resumes name start lines ended told left × (((bytes ≡ before ++ told) × (lost ≡ held)) ⊎ HasFailed held lost)
    → TellsReplay name lost bytes ended result old new → Replays name lines start left result old new
replays name start left ended result lines held lost before bytes old new empty none (told, resumes, tells) (inr untold) = inr untold
replays name start left ended result lines held lost before bytes old new empty none (told, resumes, inl (is, same)) (inl (quiet, sent, replayed)) =
    let told_is : bytes ≡ told = is ∙ ap (λ (b : List ℕ). b ++ told) empty in
    inl (ended, told, resumes, subst (λ (t : List ℕ). Reports (explained_reports old.explains t) old new) told_is sent, replayed)
replays name start left ended result lines held lost before bytes old new empty none (told, resumes, inr lack) (inl (quiet, sent, replayed)) = absurd (nothing_failed held lost none quiet lack)

pub resumed : (name : List ℕ) (start left : SessionState) (result : Result Refusals Failure) (old new : Moment) → IsResumed name start left result old new → IfOk result (λ refused. IsResumed name start left (Ok refused) old new)
resumed name start left (Ok refused) old new is = is
resumed name start left (Err failure) old new is = tt

pub unresumed : (name : List ℕ) (start left : SessionState) (result : Result Refusals Failure) (old new : Moment) → IsResumed name start left result old new → IfErr result (λ failure. IsUnresumed name start failure old new)
unresumed name start left (Ok refused) old new is = tt
unresumed name start left (Err failure) old new is = (left, is)

-- ---- a session that replaces a file

pub saved_over : (files : SessionFiles) (file : Bor (List ℕ)) (is_loss : Bool) (bytes : List ℕ) (state : SessionState) (old new : Moment) → files.save_file ≡ Some file → bytes ≡ file_of state → IsOver file.now is_loss bytes old new
    → IsSaved files.save_file is_loss state old new
saved_over files file is_loss bytes state old new is bytes_are is_over =
    subst (λ (o : Option (Bor (List ℕ))). IsSaved o is_loss state old new) (sym is) (subst (λ (b : List ℕ). IsOver file.now is_loss b old new) bytes_are is_over)

pub not_saved_over : (files : SessionFiles) (file : Bor (List ℕ)) (is_loss : Bool) (bytes : List ℕ) (state : SessionState) (first failure : Failure) (old mid new : Moment) → files.save_file ≡ Some file → bytes ≡ file_of state
    → IsNotOver files file.now is_loss bytes first old mid → Leaves file.now bytes first failure mid new → IsNotSaved files is_loss state failure old new
not_saved_over files file is_loss bytes state first failure old mid new is bytes_are why leaves =
    inr (subst (λ (o : Option (Bor (List ℕ))). IfNamed o (λ name. IsUnsaved files name is_loss state failure old new)) (sym is) (record {
      first = first;
      mid = mid;
      why = subst (λ (b : List ℕ). IsNotOver files file.now is_loss b first old mid) bytes_are why;
      leaves = subst (λ (b : List ℕ). Leaves file.now b first failure mid new) bytes_are leaves;
    }))

-- ---- the end of a journal

pub ended : {T X : Type 0} (result : Result T X) (name bytes : List ℕ) (state : SessionState) (refused : ℕ) (old new : Moment) → bytes ≡ file_of state → refused ≡ 0
    → OnOk result (Asks (end name bytes (Ok tt)) old new) → OnOk result (Replaces name refused state old new)
ended (Ok done) name bytes state refused old new is none asks = inl (none, subst (λ (b : List ℕ). Asks (end name b (Ok tt)) old new) is asks)
ended (Err failure) name bytes state refused old new is none asks = tt

pub unended : {T : Type 0} (result : Result T Failure) (name bytes : List ℕ) (state : SessionState) (old new : Moment) → bytes ≡ file_of state
    → IfErr result (λ failure. (fault : DiskFault) × IsFaultOf fault name failure × Asks (end name bytes (Err fault)) old new) → IfErr result (λ failure. ((failure ≡ Memory) × (new ≡ old)) ⊎ IsNotEnded name state failure old new)
unended (Ok done) name bytes state old new is why = tt
unended (Err failure) name bytes state old new is (fault, told, asks) =
    inr (record { fault = fault; told = told; asks = subst (λ (b : List ℕ). Asks (end name b (Err fault)) old new) is asks })

pub found_ended : {T X : Type 0} (result : Result T X) (name : List ℕ) (refused : ℕ) (state : SessionState) (old mid new : Moment) → Asks (find name (Ok tt)) old mid → OnOk result (Replaces name refused state mid new)
    → OnOk result (IsEnded name refused state old new)
found_ended (Ok done) name refused state old mid new finds replaces = record { mid = mid; finds = finds; replaces = replaces }
found_ended (Err failure) name refused state old mid new finds replaces = tt

pub found_unended : {T : Type 0} (result : Result T Failure) (name : List ℕ) (state : SessionState) (old mid new : Moment) → Asks (find name (Ok tt)) old mid
    → IfErr result (λ failure. ((failure ≡ Memory) × (new ≡ mid)) ⊎ IsNotEnded name state failure mid new) → IfErr result (λ failure. IsUnended name state failure old new)
found_unended (Ok done) name state old mid new finds why = tt
found_unended (Err failure) name state old mid new finds why = inr (record { mid = mid; finds = finds; why = why })

-- ---- the end of a session

-- the file does not get the puzzle of a session
pub not_put_for : (files : SessionFiles) (puzzle : PuzzleShown) (file : Bor (List ℕ)) (first told : Failure) (kept : Bool) (old new : Moment) → files.to_file ≡ Some file → IsNotPutOver file.now puzzle first old new → kept ≡ is_kept files
    → told ≡ of_session kept first → IsNotPut files puzzle told old new
not_put_for files puzzle file first told kept old new is why kept_is told_is =
    inr (subst (λ (o : Option (Bor (List ℕ))). IfNamed o (λ name. IsNotPutFor files puzzle told name old new)) (sym is) (record {
      first = first;
      why = why;
      told = subst (λ (k : Bool). told ≡ of_session k first) kept_is told_is;
    }))

pub saves : (files : SessionFiles) (refused : Refusals) (state : SessionState) (result : Result (Unit {0}) Failure) (old new : Moment) → OnOk result (IsSaved files.save_file (nat_lt 0 refused.count) state old new)
    → IfErr result (λ failure. IsNotSaved files (nat_lt 0 refused.count) state failure old new) → Saves files refused state result old new
saves files refused state (Ok done) old new ok err = ok
saves files refused state (Err failure) old new ok err = err

pub unanswered : (files : SessionFiles) (refused : Refusals) (state : SessionState) (answered result : Result ExitStatus Failure) (failure : Failure) (saved : Result (Unit {0}) Failure) (old new : Moment) → answered ≡ Err failure → result ≡ Err failure
    → Saves files refused state saved old new → Ends files refused state answered result old new
unanswered files refused state answered result failure saved old new is result_is saves =
    subst (λ (a : Result ExitStatus Failure). Ends files refused state a result old new) (sym is) (record { saved = saved; mid = new; saves = saves; closes = (result_is, refl) })

pub not_saved : (files : SessionFiles) (refused : Refusals) (state : SessionState) (answered : Result ExitStatus Failure) (status code : ExitStatus) (failure : Failure) (saved : Result (Unit {0}) Failure) (old mid new : Moment) → answered ≡ Ok status
    → saved ≡ Err failure → Saves files refused state saved old mid → StillPuts files state failure code mid new → Ends files refused state answered (Ok code) old new
not_saved files refused state answered status code failure saved old mid new is saved_is saves puts =
    subst (λ (a : Result ExitStatus Failure). Ends files refused state a (Ok code) old new) (sym is)
    (record { saved = Err failure; mid = mid; saves = subst (λ (s : Result (Unit {0}) Failure). Saves files refused state s old mid) saved_is saves; closes = (code, refl, puts) })

pub closed : (files : SessionFiles) (refused : Refusals) (state : SessionState) (answered result : Result ExitStatus Failure) (status : ExitStatus) (done : Unit {0}) (saved : Result (Unit {0}) Failure) (old mid new : Moment) → answered ≡ Ok status → saved ≡ Ok done
    → Saves files refused state saved old mid → Closes files refused.count state status result mid new → Ends files refused state answered result old new
closed files refused state answered result status done saved old mid new is saved_is saves closes =
    subst (λ (a : Result ExitStatus Failure). Ends files refused state a result old new) (sym is)
    (record { saved = Ok done; mid = mid; saves = subst (λ (s : Result (Unit {0}) Failure). Saves files refused state s old mid) saved_is saves; closes = closes })

-- ---- the session before the last line

matched : {A : Type 0} (B : Type 0) (b : Bool) → b ≡ true → A → MatchBool b A B
matched B true is a = a
matched B false is a = cc

unmatched : {B : Type 0} (A : Type 0) (b : Bool) → b ≡ false → B → MatchBool b A B
unmatched A true is b = cc
unmatched A false is b = b

-- two names for the bytes that are compared
compared : (given after bytes : List ℕ) (state : SessionState) (is_same : Bool) → given ≡ bytes → after ≡ file_of state → bytes_eq given after ≡ is_same → bytes_eq bytes (file_of state) ≡ is_same
compared given after bytes state is_same given_is after_is same =
    subst (λ (b : List ℕ). bytes_eq b (file_of state) ≡ is_same) given_is (subst (λ (a : List ℕ). bytes_eq given a ≡ is_same) after_is same)

-- the last line changed nothing
pub kept_same : {T : Type 0} (bytes : T → List ℕ) (files : SessionFiles) (before : Option T) (file : T) (given after : List ℕ) (state : SessionState) (old : Moment) → before ≡ Some file → given ≡ bytes file → after ≡ file_of state
    → bytes_eq given after ≡ true → KeepsBefore files (option_map bytes before) state (Ok tt) old old
kept_same bytes files before file given after state old is given_is after_is same =
    subst (λ o. KeepsBefore files (option_map bytes o) state (Ok tt) old old) (sym is) (inl (matched _ (bytes_eq (bytes file) (file_of state)) (compared given after (bytes file) state true given_is after_is same) (refl, refl)))

-- the last line changed the session
pub kept_other : {T : Type 0} (bytes : T → List ℕ) (files : SessionFiles) (before : Option T) (file : T) (given again after text : List ℕ) (beside : Option (Bor (List ℕ))) (state : SessionState) (kept : Result (Unit {0}) Failure) (old mid new : Moment)
    → before ≡ Some file → given ≡ bytes file → again ≡ bytes file → after ≡ file_of state → beside ≡ record_file files → bytes_eq given after ≡ false → text ≡ unended_lines old.explains → Reports text old mid → KeepsBeside beside again kept mid new
    → KeepsBefore files (option_map bytes before) state kept old new
kept_other bytes files before file given again after text beside state kept old mid new is given_is again_is after_is beside_is other text_is told keeps =
    let tells : TellsUnended (record_file files) (bytes file) kept old new = record {
      mid = mid;
      told = subst (λ (t : List ℕ). Reports t old mid) text_is told;
      keeps = subst (λ (b : Option (Bor (List ℕ))). KeepsBeside b (bytes file) kept mid new) beside_is (subst (λ (b : List ℕ). KeepsBeside beside b kept mid new) again_is keeps);
    } in
    subst (λ o. KeepsBefore files (option_map bytes o) state kept old new) (sym is) (inl (unmatched _ (bytes_eq (bytes file) (file_of state)) (compared given after (bytes file) state false given_is after_is other) tells))

-- ---- a journal

-- a journal is begun, and then an allocation fails
pub begun_in_vain : (name : List ℕ) (is_synced : Bool) (start : SessionState) (refused : Refusals) (state : SessionState) (failure : Failure) (old new : Moment) → HasReplayed name is_synced start refused state old new → failure ≡ Memory
    → IsUnreplayed name is_synced start failure old new
begun_in_vain name is_synced start refused state failure old new has memory =
    inr (inr (inr (record { bytes = has.bytes; state = state; refused = refused; mid = has.mid; is_begun = has.is_begun; cut = inr has.cut; memory = memory })))

-- ---- a call of `edit`

pub edits : (files : SessionFiles) (journal : Option (Bor (List ℕ))) (opened : SessionState) (result : Result ExitStatus Failure) (old mid new : Moment) → IsOpened files opened old mid → files.journal_file ≡ journal
    → RunsOrFails journal files opened result mid new → OpensOrFails files result old new
edits files journal opened result old mid new is_opened is (inl run) =
    inl (record { opened = opened; mid = mid; is_opened = is_opened; is_run = subst (λ (j : Option (Bor (List ℕ))). IsRunWith j files opened result mid new) (sym is) run })
edits files journal opened (Ok status) old mid new is_opened is (inr why) = absurd why
edits files journal opened (Err failure) old mid new is_opened is (inr why) =
    inr (inr (record { opened = opened; mid = mid; is_opened = is_opened; unrun = subst (λ (j : Option (Bor (List ℕ))). IsUnrun j files opened failure mid new) (sym is) why }))
