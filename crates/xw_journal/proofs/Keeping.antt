-- What a line leaves: an accepted search keeps the size of the grid, and a line whose answer was not finished was executed.
use Rattle.std.proofs.Common.{◌≡◌, ℕ, List, refl, sym, ◌∙◌, subst}
use Rattle.std.specs.Prelude.{Bool, true, false, Option, Some, None, Result, Ok, Err, if◌then◌else◌, nat_lt}
use Rattle.xw_grid.specs.Grid.{Grid}
use Rattle.xw_commands.specs.declared.command.Command.{Command}
use Rattle.xw_commands.specs.declared.command.Command.TheVariants as commands
use Rattle.xw_commands.specs.declared.search.Search.{Search}
use Rattle.xw_commands.specs.declared.search.Search.TheVariants as searches
use Rattle.xw_commands.specs.declared.command.SyntaxFault.{SyntaxFault}
use Rattle.xw_commands.specs.Command.{command_of}
use Rattle.xw_search.specs.Position.{position_of, filled_in}
use Rattle.xw_fill.specs.Search.{found, due, end}
use Rattle.xw_search.specs.declared.filling.Filling.{Filling}
use Rattle.xw_search.specs.declared.filling.Filling.TheVariants.{Filled, NoFill, Limit}
use Rattle.xw_search.specs.NamedFill.{IsAutofilled, is_named}
use Rattle.xw_best.specs.declared.best.Best.{Best}
use Rattle.xw_best.specs.declared.best.Best.TheVariants as bests
use Rattle.xw_best.specs.Best.{IsBest}
use Rattle.xw_lines.specs.Spoken.{NeverStops, broken_by}
use Rattle.xw_lines.specs.declared.outcome.AnswerFault.{AnswerFault}
use Rattle.xw_lines.specs.declared.outcome.AnswerFault.TheVariants.{WriteFailed, Stopped}
use Rattle.xw_lines.specs.declared.outcome.Step.TheVariants.{Accepted}
use Rattle.xw_grid.specs.declared.cell.LightName.{LightName}
use Rattle.xw_feas.specs.State.{State}
use Rattle.xw_answers.specs.declared.refusal.CommandRefusal.{CommandRefusal}
use Rattle.xw_session.specs.State.{SessionState}
use Rattle.xw_session.specs.Resuming.{MayBeDone}
use Rattle.xw_session.specs.Reply.{Reply, fill_tried, filling_line, shown}
use Rattle.xw_session.specs.NamedSearch.{names_of, IsSearchDue}
use Rattle.xw_session.specs.Best.{best_lines}
use Rattle.xw_session.specs.Answer.{IsDue, Replies, Answers, AnswersParsed, step_of, state_after}
use Rattle.xw_journal.specs.declared.journal.Written.TheVariants.{Letters}
use Rattle.xw_journal.specs.Journal.{written_of}

-- the grid has the size that it had before
pub record HasSizeOf (before after : Grid) : Type 0 where
  pub width : before.width ≡ after.width
  pub height : before.height ≡ after.height

same_size : (grid : Grid) → HasSizeOf grid grid
same_size grid = record { width = refl; height = refl }

abbrev done : Reply → Result Reply CommandRefusal
done reply = Ok reply

reply_size : (state : SessionState) (given reply : Reply) → done given ≡ done reply → HasSizeOf state.engine.grid given.state.engine.grid → HasSizeOf state.engine.grid reply.state.engine.grid
reply_size state given reply e size = let same : given ≡ reply = cc in subst (λ (r : Reply). HasSizeOf state.engine.grid r.state.engine.grid) same size

tried_size : (state : SessionState) (filled : State) (limit_line fill_line none_line : List ℕ) (many is_found : Bool) (reply : Reply) → HasSizeOf state.engine.grid filled.grid
    → (if many then shown state limit_line else if is_found then Ok (record { lines = fill_line; state = record state { engine = filled } }) else shown state none_line) ≡ done reply
    → HasSizeOf state.engine.grid reply.state.engine.grid
tried_size state filled limit_line fill_line none_line true is_found reply size e = reply_size state (record { lines = limit_line; state = state }) reply e (same_size state.engine.grid)
tried_size state filled limit_line fill_line none_line false true reply size e = reply_size state (record { lines = fill_line; state = record state { engine = filled } }) reply e size
tried_size state filled limit_line fill_line none_line false false reply size e = reply_size state (record { lines = none_line; state = state }) reply e (same_size state.engine.grid)

fill_size : (state : SessionState) (limit : ℕ) (reply : Reply) → fill_tried state limit ≡ Ok reply → HasSizeOf state.engine.grid reply.state.engine.grid
fill_size state limit reply e =
    tried_size state (filled_in state.engine (end (position_of state.engine)).board.entries) (filling_line Limit) (filling_line Filled) (filling_line NoFill)
    (nat_lt limit (due (position_of state.engine))) (found (position_of state.engine)) reply (record { width = refl; height = refl }) e

autofill_size : (named : ℕ → Bool) (before after : State) (filling : Filling) → IsAutofilled named before after filling → HasSizeOf before.grid after.grid
autofill_size named before after Filled (entries, fills, left) = subst (λ (p : State). HasSizeOf before.grid p.grid) (sym left) (record { width = refl; height = refl })
autofill_size named before after NoFill (none, left) = subst (λ (p : State). HasSizeOf before.grid p.grid) (sym left) (same_size before.grid)
autofill_size named before after Limit left = subst (λ (p : State). HasSizeOf before.grid p.grid) (sym left) (same_size before.grid)

best_size : (named : ℕ → Bool) (before after : State) (best : Best) → IsBest named before after best → HasSizeOf before.grid after.grid
best_size named before after (bests.Filled least bound) (filled, proved) = subst (λ (p : State). HasSizeOf before.grid p.grid) (sym filled.holds) (record { width = refl; height = refl })
best_size named before after bests.NoFill (none, left) = subst (λ (p : State). HasSizeOf before.grid p.grid) (sym left) (same_size before.grid)
best_size named before after (bests.Limit bound) (above, proved, left) = subst (λ (p : State). HasSizeOf before.grid p.grid) (sym left) (same_size before.grid)

-- a search keeps the size if each of its ends does
named_size : {T : Type 0} (lines : T → List ℕ) (IsEnd : (ℕ → Bool) → State → State → T → Type 0) (state : SessionState) (names : List LightName) (reply : Reply) (due : Result Reply CommandRefusal)
    → ((named : ℕ → Bool) (before after : State) (end : T) → IsEnd named before after end → HasSizeOf before.grid after.grid) → IsSearchDue lines IsEnd state names due → due ≡ Ok reply → HasSizeOf state.engine.grid reply.state.engine.grid
named_size lines IsEnd state names reply due keeps owed is =
    let a = subst (λ (d : Result Reply CommandRefusal). IsSearchDue lines IsEnd state names d) is owed in
    subst (λ (r : Reply). HasSizeOf state.engine.grid r.state.engine.grid) (sym a.is) (keeps (is_named state.engine names) state.engine a.engine a.end a.done)

search_size : (state : SessionState) (search : Search) (reply : Reply) (due : Result Reply CommandRefusal) → IsDue state (commands.Search search) due → due ≡ Ok reply → HasSizeOf state.engine.grid reply.state.engine.grid
search_size state (searches.Fill limit) reply due owed is = fill_size state limit reply (owed ∙ is)
search_size state (searches.Autofill limit seed lights) reply due owed is = named_size filling_line IsAutofilled state (names_of lights) reply due autofill_size owed is
search_size state (searches.Best limit seed lights) reply due owed is = named_size best_lines IsBest state (names_of lights) reply due best_size owed is

accepted_size : (state : SessionState) (search : Search) (reply : Result Reply CommandRefusal) (after : SessionState) → Replies state (commands.Search search) reply → Accepted ≡ step_of reply → after ≡ state_after state reply
    → HasSizeOf state.engine.grid after.engine.grid
accepted_size state search (Ok reply) after (due, owed, fits) step is = subst (λ (s : SessionState). HasSizeOf state.engine.grid s.engine.grid) (sym is) (search_size state search reply due owed fits)
accepted_size state search (Err refusal) after replies step is = cc

parsed_size : (state after : SessionState) (parsed : Result (Option Command) SyntaxFault) (answer : List ℕ) → written_of parsed ≡ Letters → AnswersParsed state parsed Accepted answer after
    → HasSizeOf state.engine.grid after.engine.grid
parsed_size state after (Ok (Some (commands.Search search))) answer e (reply, replies, step, is, left) = accepted_size state search reply after replies step left
parsed_size state after (Ok (Some (commands.Ask query))) answer e said = cc
parsed_size state after (Ok (Some (commands.Change change))) answer e said = cc
parsed_size state after (Ok None) answer e said = cc
parsed_size state after (Err fault) answer e said = cc

-- an accepted search keeps the size of the grid
pub searched_size : (state after : SessionState) (line answer : List ℕ) → written_of (command_of line) ≡ Letters → Answers state line Accepted answer after
    → HasSizeOf state.engine.grid after.engine.grid
searched_size state after line answer e said = parsed_size state after (command_of line) answer e said

-- a line whose answer was not finished was executed
pub broken_done : (state after : SessionState) (line : List ℕ) (fault : AnswerFault) (old new : List ℕ) → broken_by Answers NeverStops fault state line after old new → MayBeDone state line after
broken_done state after line WriteFailed old new broke = (broke.outcome, broke.answer, broke.answers)
broken_done state after line Stopped old new broke = absurd broke
