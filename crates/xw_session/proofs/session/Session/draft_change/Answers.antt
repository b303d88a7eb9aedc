use Rattle.std.proofs.Common.{◌≡◌, ◌∙◌, Option, None, Some, ap, subst, sym}
use Rattle.std.specs.Prelude.{Result, Ok, Err, IfNone}
use Rattle.xw_answers.specs.declared.refusal.CommandRefusal.{CommandRefusal}
use Rattle.xw_commands.specs.declared.change.Change.{Change}
use Rattle.xw_commands.specs.declared.change.Change.TheVariants as changes
use Rattle.xw_commands.specs.declared.command.Command.TheVariants as commands
use Rattle.xw_grid.specs.Grid.{Grid}
use Rattle.xw_session.specs.Answer.{Edits, IsBegun, IsExecuted}
use Rattle.xw_session.specs.State.{SessionState, drawn}
use Rattle.xw_session.specs.declared.session.asking.Asked.{Asked}
use Rattle.xw_session.specs.declared.session.asking.Asked.TheVariants as asked_for
use Rattle.xw_session.proofs.DrawnLines.{edits-executed, some-weaker}
use Rattle.xw_session.proofs.session.Session.draft_change.Goals as goal

-- the change was begun over the grid of the draft
begun : (state after : SessionState) (grid draft : Grid) (change : Change) (result asked : Result Asked CommandRefusal) → grid ≡ draft → result ≡ asked → IsBegun (drawn state grid) change result (drawn after grid) → IsBegun (drawn state draft) change asked (drawn after draft)
begun state after grid draft change result asked view is was =
    subst (λ (r : Result Asked CommandRefusal). IsBegun (drawn state draft) change r (drawn after draft)) is (subst (λ (g : Grid). IsBegun (drawn state g) change result (drawn after g)) view was)

module _ (old now : SessionState) (draft other : Grid) (change : Change) (ended : Result (Unit {0}) CommandRefusal) (same : drawn now draft ≡ drawn old draft) where
  -- the edit that it asks for was made or refused
  edited : IsExecuted (drawn old draft) (commands.Change change) ended (drawn old other) → IsExecuted (drawn old draft) (commands.Change change) ended (drawn now other)
  edited executed = subst (λ (s : SessionState). IsExecuted (drawn old draft) (commands.Change change) ended (drawn s other)) (sym same) executed

  -- the clue that it asks for was replaced or refused
  clued : (after : SessionState) (clue : Change) → change ≡ clue → other ≡ draft → Edits (drawn now draft) clue ended (drawn after draft) → IsExecuted (drawn old draft) (commands.Change change) ended (drawn after other)
  clued after clue is kept edits = rw (is, kept) (subst (λ (s : SessionState). IsExecuted s (commands.Change clue) ended (drawn after draft)) same (edits-executed (drawn now draft) (drawn after draft) clue ended edits))

none-weaker : {X P Q : Type 0} (found : Option X) → (P → Q) → IfNone found P → IfNone found Q
none-weaker None weaker holds = weaker holds
none-weaker (Some x) weaker holds = tt

pub returns-in-Ok-Nothing-clause-some : goal.returns-in-Ok-Nothing-clause-some
returns-in-Ok-Nothing-clause-some g c =
    edits-executed (drawn c.args.self.now c.args.draft.now) (drawn c.begin.new.self c.args.draft.now) c.args.change (Ok tt)
    (begun c.args.self.now c.begin.new.self _ c.args.draft.now c.args.change c.begin.result (Ok asked_for.Nothing) c.draft.view_is (cc) c.begin.ensures.begun)

pub returns-in-Ok-Edit-clause-some : goal.returns-in-Ok-Edit-clause-some
returns-in-Ok-Edit-clause-some g c =
    let asks = begun c.args.self.now c.begin.new.self _ c.args.draft.now c.args.change c.begin.result (Ok (asked_for.Edit c.in-Ok-Edit.edit)) c.draft.view_is (cc) c.begin.ensures.begun in
    some-weaker c.edit.result (λ ended executed.
    edited c.args.self.now c.begin.new.self c.args.draft.now c.edit.new.self c.args.change ended asks.1 (executed c.args.self.now c.args.change asks.0)) c.edit.ensures.some

pub returns-in-Ok-Edit-clause-none : goal.returns-in-Ok-Edit-clause-none
returns-in-Ok-Edit-clause-none g c =
    let asks = begun c.args.self.now c.begin.new.self _ c.args.draft.now c.args.change c.begin.result (Ok (asked_for.Edit c.in-Ok-Edit.edit)) c.draft.view_is (cc) c.begin.ensures.begun in
    none-weaker c.edit.result (λ same. ap (drawn c.begin.new.self) same ∙ asks.1) c.edit.ensures.none

pub returns-in-Ok-Clue-clause-some : goal.returns-in-Ok-Clue-clause-some
returns-in-Ok-Clue-clause-some g c =
    let asks = begun c.args.self.now c.begin.new.self _ c.args.draft.now c.args.change c.begin.result (Ok (asked_for.Clue c.in-Ok-Clue.named c.in-Ok-Clue.text)) c.draft.view_is (cc) c.begin.ensures.begun in
    clued c.args.self.now c.begin.new.self c.args.draft.now c.start.new.self c.args.change c.keep_clue.result asks.1 c.keep_clue.new.self (changes.Clue c.in-Ok-Clue.named c.in-Ok-Clue.text.now) asks.0 c.start.ensures.same
    (c.keep_clue.ensures.done c.args.draft.now (sym c.start.ensures.start))

pub returns-in-Err-clause-some : goal.returns-in-Err-clause-some
returns-in-Err-clause-some g c =
    edits-executed (drawn c.args.self.now c.args.draft.now) (drawn c.begin.new.self c.args.draft.now) c.args.change (Err c.in-Err.refusal)
    (begun c.args.self.now c.begin.new.self _ c.args.draft.now c.args.change c.begin.result (Err c.in-Err.refusal) c.draft.view_is (cc) c.begin.ensures.begun)
