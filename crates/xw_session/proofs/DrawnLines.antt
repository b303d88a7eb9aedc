-- Lines that are executed with one update of the engine.
use Rattle.std.proofs.Common.{◌≡◌, ◌∙◌, ap, sym, inl, inr, refl, ℕ, ◌+◌, ◌<◌, true, List, [], ◌∷◌, ◌++◌, length, Option, Some, None, subst, append_assoc, append-nil, length-append, arith}
use Rattle.std.specs.Prelude.{Result, Ok, Err, IfSome, OnOk, OnErr}
use Rattle.std.specs.Borrow.{Bor}
use Rattle.std.specs.Option.{is_some}
use Rattle.xw_grid.specs.declared.fault.GridFault.{GridFault}
use Rattle.xw_grid.specs.Grid.{Grid}
use Rattle.xw_feas.specs.declared.edit.Edit.{Edit}
use Rattle.xw_feas.specs.declared.edit.Refusal.{Refusal}
use Rattle.xw_feas.specs.State.{State, action_of, after as state_after, with_grid, grid_after}
use Rattle.xw_commands.specs.declared.command.Command.{Command}
use Rattle.xw_commands.specs.declared.command.Command.TheVariants as commands
use Rattle.xw_commands.specs.declared.query.Query.TheVariants as queries
use Rattle.xw_commands.specs.declared.query.Query.{Query}
use Rattle.xw_commands.specs.declared.change.Change.{Change}
use Rattle.xw_commands.specs.declared.change.Change.TheVariants as changes
use Rattle.xw_commands.specs.declared.command.Field.{Field}
use Rattle.xw_commands.specs.declared.command.TextMode.{TextMode}
use Rattle.xw_commands.specs.declared.command.TextMode.TheVariants.{Instead, Behind}
use Rattle.xw_answers.specs.declared.refusal.CommandRefusal.{CommandRefusal}
use Rattle.xw_answers.specs.declared.refusal.CommandRefusal.TheVariants as refusals
use Rattle.xw_answers.specs.Escape.{text_spelled}
use Rattle.xw_session.specs.State.{SessionState, drawn, grid_seen, seen}
use Rattle.xw_session.specs.declared.session.putting.Target.{Target}
use Rattle.xw_session.specs.declared.session.putting.Target.TheVariants as targets
use Rattle.xw_session.specs.Put.{CanPut, target_of, with_piece}
use Rattle.xw_lines.specs.Cut.{lines_of}
use Rattle.xw_session.specs.Drafting.{IsMade, IsOfGrid, IsRedrawn, is_report}
use Rattle.xw_session.specs.Reply.{changed, edited, grid_memory, moved, watch_lines}
use Rattle.xw_session.specs.Answer.{Asks, Edits, IsExecuted, reply_of}
use Rattle.xw_commands.specs.Command.{command_of}
use Rattle.xw_session.specs.Resuming.{AreDone, IsDrawn, IsNoted, count, line_fault, told_of}
use Rattle.xw_session.proofs.Answering.{ended_itself}
use Rattle.xw_session.proofs.Resumed.{count-few, done-accepted, done-all, done-one, done-refused}
use Rattle.xw_session.proofs.TextMode.{memory_due, put_due, spelled_some}

-- ---- edits of the grid

module _ (state : SessionState) (old new : Grid) (change : Change) (edit : Edit) (asks : Asks (drawn state old) change (Ok edit)) where
  due_by : (found : Result Grid Refusal) → IsOfGrid (action_of edit) → grid_after old (action_of edit) ≡ found
      → moved (drawn state old) (state_after (drawn state old).engine (action_of edit)) ≡ moved (drawn state old) (with_grid (drawn state old).engine found)
  due_by found is made = ap (moved (drawn state old)) (is (drawn state old).engine ∙ ap (with_grid (drawn state old).engine) made)

  -- the edit of a change was made
  pub made-executed : (done : Unit {0}) → IsMade old (action_of edit) (Ok done) new → IsExecuted (drawn state old) (commands.Change change) (Ok done) (drawn state new)
  made-executed done made = record {
    reply = Ok (record { lines = watch_lines (drawn state old) (record state.engine { grid = new }); state = drawn state new });
    fits = (moved (drawn state old) (state_after (drawn state old).engine (action_of edit)), asks.0, due_by (Ok new) made.0 made.1);
    is = refl;
    effect = refl;
  }

  -- the edit of a change was refused
  pub unmade-executed : (refusal : Refusal) → IsMade old (action_of edit) (Err refusal) new → IsExecuted (drawn state old) (commands.Change change) (Err (refusals.Engine refusal)) (drawn state new)
  unmade-executed refusal made = record {
    reply = Err (refusals.Engine refusal);
    fits = (moved (drawn state old) (state_after (drawn state old).engine (action_of edit)), asks.0, inl (due_by (Err refusal) made.0 made.1));
    is = refl;
    effect = ap (drawn state) made.2;
  }

-- ---- other commands

-- a change was made or refused
pub edits-executed : (state after : SessionState) (change : Change) (ended : Result (Unit {0}) CommandRefusal) → Edits state change ended after → IsExecuted state (commands.Change change) ended after
edits-executed state after change ended edits = record { reply = reply_of ended after; fits = (changed state change, refl, edits.0); is = ended_itself ended after; effect = edits.1 }

-- A change that keeps the engine, over any grid, was made over that of a draft, or over the engine's if there is no draft.
pub edits-seen : (state after : SessionState) (draft : Option (Bor Grid)) (change : Change) (ended : Result (Unit {0}) CommandRefusal) → after.engine ≡ state.engine
    → Edits (seen state draft) change ended (drawn after (grid_seen state.engine.grid draft)) → Edits (seen state draft) change ended (seen after draft)
edits-seen state after draft change ended same edits = subst (λ (engine : State). Edits (seen state draft) change ended (drawn after (grid_seen engine.grid draft))) (sym same) edits

-- what follows for any value follows for one that may be there
pub some-weaker : {X : Type 0} {P Q : X → Type 0} (found : Option X) → ((x : X) → P x → Q x) → IfSome found P → IfSome found Q
some-weaker None weaker holds = tt
some-weaker (Some x) weaker holds = weaker x holds

-- a report is always accepted
pub told-executed : (state : SessionState) (query : Query) → is_report query ≡ true → IsExecuted state (commands.Ask query) (Ok tt) state
told-executed state (queries.Tell told) is = record { reply = Ok _; fits = (_, (_, refl, refl), refl); is = refl; effect = refl }
told-executed state other is = cc

-- a text is put at a target
piece_drawn : (state : SessionState) (grid : Grid) (putting : TextMode) (target : Target) (piece : List ℕ) → with_piece (drawn state grid) putting target piece ≡ drawn (with_piece state putting target piece) grid
piece_drawn state grid Instead (targets.Text name) piece = refl
piece_drawn state grid Instead (targets.Clue cell direction) piece = refl
piece_drawn state grid Behind target [] = refl
piece_drawn state grid Behind (targets.Text name) (byte ∷ bytes) = refl
piece_drawn state grid Behind (targets.Clue cell direction) (byte ∷ bytes) = refl

module _ (state after : SessionState) (grid : Grid) (putting : TextMode) (field : Field) (spelling : List ℕ) (target : Target) (can : CanPut grid field spelling target) where
  -- a text was put over a grid
  pub put-accepted : (done : Unit {0}) → ((piece : List ℕ) → text_spelled spelling ≡ Some piece → after ≡ with_piece state putting target piece) → Edits (drawn state grid) (changes.Put putting field spelling) (Ok done) (drawn after grid)
  put-accepted done made =
      let due = put_due (drawn state grid) putting field spelling can.whole can.there can.plain in
      let left : after ≡ with_piece state putting (target_of field) due.0 = made due.0 due.1 ∙ ap (λ t. with_piece state putting t due.0) can.named in
      (due.2 ∙ ap edited (piece_drawn state grid putting (target_of field) due.0) ∙ ap (λ (s : SessionState). edited (drawn s grid)) (sym left), refl)

  -- an allocation for it failed
  pub put-memory : (spelling ≡ [] → ⊥) → after ≡ state → Edits {T = Unit {0}} (drawn state grid) (changes.Put putting field spelling) (Err grid_memory) (drawn after grid)
  put-memory some same = (inr (memory_due (drawn state grid) putting field spelling can.whole can.there can.plain some), ap (λ (s : SessionState). drawn s grid) same)

-- the engine stays, and so do the word counts at the start
abbrev Stay : SessionState → SessionState → Type 0
Stay state after = (after.engine ≡ state.engine) × (after.begun ≡ state.begun)

piece_same : (state : SessionState) (putting : TextMode) (target : Target) (piece : List ℕ) → Stay state (with_piece state putting target piece)
piece_same state Instead (targets.Text name) piece = (refl, refl)
piece_same state Instead (targets.Clue cell direction) piece = (refl, refl)
piece_same state Behind target [] = (refl, refl)
piece_same state Behind (targets.Text name) (byte ∷ bytes) = (refl, refl)
piece_same state Behind (targets.Clue cell direction) (byte ∷ bytes) = (refl, refl)

module _ (state after : SessionState) (putting : TextMode) (target : Target) (spelling : List ℕ) where
  pub text-same : (result : Result (Unit {0}) GridFault) → is_some (text_spelled spelling) ≡ true → OnOk result ((piece : List ℕ) → text_spelled spelling ≡ Some piece → after ≡ with_piece state putting target piece) → OnErr result (after ≡ state) → Stay state after
  text-same (Ok u) spelled made same =
      let found = spelled_some (text_spelled spelling) spelled in
      subst (Stay state) (sym (made found.0 found.1)) (piece_same state putting target found.0)
  text-same (Err fault) spelled made same = subst (Stay state) (sym same) (refl, refl)

-- ---- lines

module _ (file : List ℕ) (number : ℕ) (state after : SessionState) (line : List ℕ) (command : Command) (is : command_of line ≡ Ok (Some command)) (whole : line_fault line ≡ None) where
  -- the line of a command that ended is drawn
  pub line-drawn : (ended : Result (Unit {0}) CommandRefusal) (refused : ℕ) (old new : List ℕ) → IsExecuted state command ended after → IsNoted file number ended refused old new → IsDrawn file number state line refused after old new
  line-drawn (Ok done) refused old new executed noted = record { refusal = None; done = done-accepted state after line command is done whole executed; counted = noted.0; told = noted.1 ∙ sym (append-nil old) }
  line-drawn (Err refusal) refused old new executed noted = record { refusal = Some refusal; done = done-refused state after line command is refusal whole noted.0 executed; counted = noted.1; told = noted.2 }

-- no line is done yet
pub redrawn-begun : (file : List ℕ) (before : ℕ) (text : List ℕ) (state : SessionState) → IsRedrawn file before text state 0 0 [] text state
redrawn-begun file before text state = record { lines = []; parts = refl; counted = refl; done = (refl, refl, refl); few = omega arith; shorter = omega arith }

-- one more line is done
pub redrawn-on : (file : List ℕ) (before : ℕ) (text rest next line reports longer : List ℕ) (start mid end : SessionState) (taken refused more : ℕ) → lines_of rest ≡ line ∷ lines_of next → length next < length rest
    → IsDrawn file (before + taken + 1) mid line more end reports longer → IsRedrawn file before text start taken refused reports rest mid
    → IsRedrawn file before text start (taken + 1) (refused + more) longer next end
redrawn-on file before text rest next line reports longer start mid end taken refused more first shorter one drew =
    let numbered : before + taken + 1 ≡ before + 1 + length drew.lines = rw drew.counted (omega arith) in
    let did = subst (λ n. AreDone file n mid (line ∷ []) (told_of file (before + taken + 1) one.refusal) (count one.refusal) end) numbered (done-one file (before + taken + 1) mid end line one.refusal one.done) in
    record {
      lines = drew.lines ++ line ∷ [];
      parts = drew.parts ∙ ap (λ lines. drew.lines ++ lines) first ∙ sym (append_assoc drew.lines (line ∷ []) (lines_of next));
      counted = rw drew.counted (sym (length-append drew.lines (line ∷ [])));
      done = rw (one.told, one.counted) (done-all drew.lines (line ∷ []) file (before + 1) start mid end reports (told_of file (before + taken + 1) one.refusal) refused (count one.refusal) drew.done did);
      few = omega (arith, drew.few, one.counted, count-few one.refusal);
      shorter = omega (arith, shorter, drew.shorter);
    }
