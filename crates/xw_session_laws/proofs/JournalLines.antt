-- The text that one line leaves in a journal, as lines that make its change again.
use Rattle.std.proofs.Common.{◌≡◌, ℕ, List, [], ◌∷◌, ◌++◌, get_or, map, codes, Some, None, refl, sym, ◌∙◌, ap, subst, inl, inr, append_assoc, append-nil}
use Rattle.std.specs.Prelude.{Option, Result, Ok, Err, ◌⊎◌}
use Rattle.std.specs.Option.{option_and_then}
use Rattle.xw_grid.specs.declared.cell.Square.{Square}
use Rattle.xw_grid.specs.declared.cell.Square.TheVariants.{Block, Open}
use Rattle.xw_grid.specs.Grid.{IsGrid}
use Rattle.xw_lines.specs.declared.outcome.Step.{Step}
use Rattle.xw_lines.specs.declared.outcome.Step.TheVariants.{Accepted}
use Rattle.xw_lines.specs.Cut.{Cut, cut, lines_of, last_piece, last_line, with_lfs, HasNoLf, AllHaveNoLf}
use Rattle.xw_lines.proofs.Cuts.{cut-with_lfs}
use Rattle.xw_commands.specs.declared.command.Command.{Command}
use Rattle.xw_commands.specs.declared.command.Command.TheVariants as commands
use Rattle.xw_commands.specs.declared.change.Change.{Change}
use Rattle.xw_commands.specs.declared.search.Search.{Search}
use Rattle.xw_commands.specs.declared.command.SyntaxFault.{SyntaxFault}
use Rattle.xw_commands.specs.Command.{command_of}
use Rattle.xw_answers.specs.declared.refusal.CommandRefusal.{CommandRefusal}
use Rattle.xw_session.specs.State.{SessionState}
use Rattle.xw_session.specs.Reply.{Reply}
use Rattle.xw_session.specs.Answer.{IsDue, Replies, step_of, state_after, AnswersParsed, Answers}
use Rattle.xw_journal.specs.Group.{begin_line, end_line, grouped}
use Rattle.xw_journal.specs.Journal.{entered_commands, written_of, text_of, journal_text}
use Rattle.xw_session_laws.specs.Replay.{state_left, replayed, left_by_line, replayed_lines}
use Rattle.xw_session_laws.proofs.AnsweredAgain.{both_replayed}
use Rattle.xw_session_laws.proofs.CommandsRead.{line_without_lf}
use Rattle.xw_session_laws.proofs.RecordRead.{AreRecorded, lines_apart, no_lf_in, replayed_as_read}
use Rattle.xw_session_laws.proofs.LineEffects.{HasEffect, effected, grid_left}
use Rattle.xw_session_laws.proofs.LettersEntered.{IsLettered, letters_entered, entered_recorded, search_again, search_recorded}

-- ---- what one line leaves

-- the line changes nothing, and nothing is written
abbrev pub IsQuiet : SessionState → List ℕ → SessionState → Type 0
IsQuiet state text next = (text ≡ []) × (next ≡ state)

-- the line is a command
abbrev pub IsCommand : List ℕ → Type 0
IsCommand line = (command : Command) × (command_of line ≡ Ok (Some command))

-- the line makes its change again, and is written
abbrev pub IsChange : SessionState → List ℕ → List ℕ → SessionState → Type 0
IsChange state line text next = (text ≡ line ++ 10 ∷ []) × (left_by_line state (command_of line) ≡ Some next) × IsCommand line

-- the line is a search, whose letters make its change again and are written
pub record Enters (state : SessionState) (line text : List ℕ) (next : SessionState) : Type 0 where
  pub search : Search
  pub is : command_of line ≡ Ok (Some (commands.Search search))
  pub answer : List ℕ
  pub answers : Answers state line Accepted answer next
  pub text-is : text ≡ grouped (entered_commands state.engine.grid next.engine.grid)
  pub recorded : AreRecorded (entered_commands state.engine.grid next.engine.grid)
  pub done : replayed state (entered_commands state.engine.grid next.engine.grid) ≡ Some next

abbrev pub Leaves : SessionState → List ℕ → List ℕ → SessionState → Type 0
Leaves state line text next = IsQuiet state text next ⊎ (IsChange state line text next ⊎ Enters state line text next)

same_lettered : (square : Square) → IsLettered square square
same_lettered Block = tt
same_lettered (Open None) = tt
same_lettered (Open (Some letter)) = refl

module _ (state : SessionState) (is : IsGrid state.engine.grid) where
  -- no letters lead from a grid to itself
  none_again : replayed state (entered_commands state.engine.grid state.engine.grid) ≡ Some state
  none_again = letters_entered state state.engine.grid is state.engine.grid.squares refl (λ k within. same_lettered (get_or state.engine.grid.squares k Block))

  none_recorded : AreRecorded (entered_commands state.engine.grid state.engine.grid)
  none_recorded = entered_recorded state state.engine.grid is state.engine.grid.squares refl (λ k within. same_lettered (get_or state.engine.grid.squares k Block))

  module _ (line : List ℕ) (outcome : Step) (answer : List ℕ) (next : SessionState) (said : Answers state line outcome answer next) where
    abbrev text : List ℕ
    text = journal_text state.engine.grid line outcome next.engine.grid

    module _ (reply : Reply) (step : outcome ≡ Accepted) (same : next ≡ reply.state) where
      text_is : (command : Command) → command_of line ≡ Ok (Some command) → text ≡ text_of (written_of (Ok (Some command))) line state.engine.grid next.engine.grid
      text_is command read =
          ap (λ step. journal_text state.engine.grid line step next.engine.grid) step
          ∙ ap (λ found. text_of (written_of found) line state.engine.grid next.engine.grid) read

      by_letters : (search : Search) → command_of line ≡ Ok (Some (commands.Search search)) → AreRecorded (entered_commands state.engine.grid next.engine.grid) → replayed state (entered_commands state.engine.grid next.engine.grid) ≡ Some next → Leaves state line text next
      by_letters search read recorded done = inr (inr (record {
        search = search;
        is = read;
        answer = answer;
        answers = subst (λ step. Answers state line step answer next) step said;
        text-is = text_is (commands.Search search) read;
        recorded = recorded;
        done = done;
      }))

      by_effect : (command : Command) → command_of line ≡ Ok (Some command) → HasEffect state command reply → Leaves state line text next
      by_effect (commands.Ask query) read left = inl (text_is (commands.Ask query) read, same ∙ left)
      by_effect (commands.Change change) read left =
          inr (inl (text_is (commands.Change change) read, ap (left_by_line state) read ∙ ap state_left left ∙ ap Some (sym same), (commands.Change change, read)))
      by_effect (commands.Search search) read (inl left) =
          let stays : state ≡ next = sym (same ∙ left) in
          by_letters search read
          (subst (λ (s : SessionState). AreRecorded (entered_commands state.engine.grid s.engine.grid)) stays none_recorded)
          (subst (λ (s : SessionState). replayed state (entered_commands state.engine.grid s.engine.grid) ≡ Some s) stays none_again)
      by_effect (commands.Search search) read (inr (engine, left, done)) =
          let moves : record state { engine = engine } ≡ next = sym (same ∙ left) in
          by_letters search read
          (subst (λ (s : SessionState). AreRecorded (entered_commands state.engine.grid s.engine.grid)) moves (search_recorded state is engine done))
          (subst (λ (s : SessionState). replayed state (entered_commands state.engine.grid s.engine.grid) ≡ Some s) moves (search_again state is engine done))

    by_reply : (command : Command) → command_of line ≡ Ok (Some command) → (reply : Result Reply CommandRefusal) → Replies state command reply → outcome ≡ step_of reply → next ≡ state_after state reply → Leaves state line text next
    by_reply command read (Ok reply) (due, owed, fits) step same = by_effect reply step same command read (effected state is reply command (subst (IsDue state command) fits owed))
    by_reply command read (Err refusal) replies step same = inl (ap (λ step. journal_text state.engine.grid line step next.engine.grid) step, same)

    by_parsed : (found : Result (Option Command) SyntaxFault) → command_of line ≡ found → AnswersParsed state found outcome answer next → Leaves state line text next
    by_parsed (Ok None) read said = inl (ap (λ step. journal_text state.engine.grid line step next.engine.grid) said.0, said.2)
    by_parsed (Ok (Some command)) read said = by_reply command read said.0 said.1 said.2 said.4
    by_parsed (Err fault) read said = inl (ap (λ step. journal_text state.engine.grid line step next.engine.grid) said.0, said.2)

    pub line_leaves : Leaves state line text next
    line_leaves = by_parsed (command_of line) refl said

    -- ---- the grid after a line

    grid_after_reply : (command : Command) (reply : Result Reply CommandRefusal) → Replies state command reply → next ≡ state_after state reply → IsGrid next.engine.grid
    grid_after_reply command (Ok reply) (due, owed, fits) same =
        subst (λ (s : SessionState). IsGrid s.engine.grid) (sym same) (grid_left state is reply command (subst (IsDue state command) fits owed))
    grid_after_reply command (Err refusal) replies same = subst (λ (s : SessionState). IsGrid s.engine.grid) (sym same) is

    grid_after_parsed : (found : Result (Option Command) SyntaxFault) → AnswersParsed state found outcome answer next → IsGrid next.engine.grid
    grid_after_parsed (Ok None) said = subst (λ (s : SessionState). IsGrid s.engine.grid) (sym said.2) is
    grid_after_parsed (Ok (Some command)) said = grid_after_reply command said.0 said.1 said.4
    grid_after_parsed (Err fault) said = subst (λ (s : SessionState). IsGrid s.engine.grid) (sym said.2) is

    pub grid_after_line : IsGrid next.engine.grid
    grid_after_line = grid_after_parsed (command_of line) said

-- ---- as lines

-- whole lines of a text, which lead from one state to another
pub record Replays (start : SessionState) (bytes : List ℕ) (end : SessionState) : Type 0 where
  pub lines : List (List ℕ)
  pub whole : bytes ≡ with_lfs lines []
  pub plain : AllHaveNoLf lines
  pub done : replayed_lines start lines ≡ Some end

pub lfs_joined : (front lines : List (List ℕ)) (rest : List ℕ) → with_lfs front [] ++ with_lfs lines rest ≡ with_lfs (front ++ lines) rest
lfs_joined [] lines rest = refl
lfs_joined (line ∷ front) lines rest = append_assoc line (10 ∷ with_lfs front []) (with_lfs lines rest) ∙ ap (λ xs. line ++ 10 ∷ xs) (lfs_joined front lines rest)

pub plain_joined : (front lines : List (List ℕ)) → AllHaveNoLf front → AllHaveNoLf lines → AllHaveNoLf (front ++ lines)
plain_joined [] lines a b = b
plain_joined (line ∷ front) lines a b = (a.0, plain_joined front lines a.1 b)

pub both_replays : (start mid end : SessionState) (bytes others : List ℕ) → Replays start bytes mid → Replays mid others end → Replays start (bytes ++ others) end
both_replays start mid end bytes others a b = record {
  lines = a.lines ++ b.lines;
  whole = ap (λ xs. xs ++ others) a.whole ∙ ap (λ xs. with_lfs a.lines [] ++ xs) b.whole ∙ lfs_joined a.lines b.lines [];
  plain = plain_joined a.lines b.lines a.plain b.plain;
  done = both_replayed start a.lines b.lines ∙ ap (option_and_then (λ mid. replayed_lines mid b.lines)) a.done ∙ b.done;
}

-- a comment changes nothing
after_comment : (state : SessionState) (line : List ℕ) (lines : List (List ℕ)) → command_of line ≡ Ok None → replayed_lines state (line ∷ lines) ≡ replayed_lines state lines
after_comment state line lines e = ap (λ found. option_and_then (λ next. replayed_lines next lines) (left_by_line state found)) e

-- the lines of a group of commands
abbrev pub group_lines : List Change → List (List ℕ)
group_lines commands = begin_line ∷ (map line_without_lf commands ++ end_line ∷ [])

pub group_apart : (command : Change) (commands : List Change) → AreRecorded (command ∷ commands) → grouped (command ∷ commands) ≡ with_lfs (group_lines (command ∷ commands)) []
group_apart command commands recorded =
    ap (λ xs. codes "# xw begin\n" ++ (xs ++ codes "# xw end\n")) (lines_apart (command ∷ commands) recorded)
    ∙ ap (λ xs. codes "# xw begin\n" ++ xs) (lfs_joined (map line_without_lf (command ∷ commands)) (end_line ∷ []) [])

pub group_plain : (commands : List Change) → AreRecorded commands → AllHaveNoLf (group_lines commands)
group_plain commands recorded =
    (begin_plain, plain_joined (map line_without_lf commands) (end_line ∷ []) (no_lf_in commands recorded) (end_plain, tt)) where
      begin_plain : HasNoLf begin_line
      begin_plain = (λ z. cc, (λ z. cc, (λ z. cc, (λ z. cc, (λ z. cc, (λ z. cc, (λ z. cc, (λ z. cc, (λ z. cc, (λ z. cc, tt))))))))))

      end_plain : HasNoLf end_line
      end_plain = (λ z. cc, (λ z. cc, (λ z. cc, (λ z. cc, (λ z. cc, (λ z. cc, (λ z. cc, (λ z. cc, tt))))))))

group_done : (state next : SessionState) (commands : List Change) → AreRecorded commands → replayed state commands ≡ Some next → replayed_lines state (group_lines commands) ≡ Some next
group_done state next commands recorded done =
    after_comment state begin_line (map line_without_lf commands ++ end_line ∷ []) refl
    ∙ both_replayed state (map line_without_lf commands) (end_line ∷ [])
    ∙ ap (option_and_then (λ mid. replayed_lines mid (end_line ∷ []))) (replayed_as_read state commands recorded ∙ done)
    ∙ after_comment next end_line [] refl

group_replays : (state next : SessionState) (commands : List Change) → AreRecorded commands → replayed state commands ≡ Some next → Replays state (grouped commands) next
group_replays state next [] recorded done = record { lines = []; whole = refl; plain = tt; done = done }
group_replays state next (command ∷ commands) recorded done = record {
  lines = group_lines (command ∷ commands);
  whole = group_apart command commands recorded;
  plain = group_plain (command ∷ commands) recorded;
  done = group_done state next (command ∷ commands) recorded done;
}

pub line_replays : (state : SessionState) (line bytes : List ℕ) (next : SessionState) → HasNoLf line → Leaves state line bytes next → Replays state bytes next
line_replays state line bytes next plain (inl (none, same)) = record { lines = []; whole = none; plain = tt; done = ap Some (sym same) }
line_replays state line bytes next plain (inr (inl (is, left, command))) = record { lines = line ∷ []; whole = is; plain = (plain, tt); done = ap (option_and_then (λ next. Some next)) left }
line_replays state line bytes next plain (inr (inr enters)) =
    subst (λ bytes. Replays state bytes next) (sym enters.text-is) (group_replays state next (entered_commands state.engine.grid next.engine.grid) enters.recorded enters.done)

-- the lines of such a text
module _ (start end : SessionState) (bytes : List ℕ) (is : Replays start bytes end) where
  bytes_cut : cut bytes ≡ record { ended = is.lines; rest = [] }
  bytes_cut = ap cut is.whole ∙ cut-with_lfs is.lines [] is.plain tt

  pub lines_there : lines_of bytes ≡ is.lines
  lines_there = ap (λ (c : Cut). c.ended ++ last_line c.rest) bytes_cut ∙ append-nil is.lines

  pub nothing_behind : last_piece bytes ≡ []
  nothing_behind = ap (λ (c : Cut). c.rest) bytes_cut

  pub lines_again : replayed_lines start (lines_of bytes) ≡ Some end
  lines_again = ap (replayed_lines start) lines_there ∙ is.done

pub both_there : (start mid end : SessionState) (bytes others : List ℕ) → Replays start bytes mid → Replays mid others end → lines_of (bytes ++ others) ≡ lines_of bytes ++ lines_of others
unfolding both_replays
both_there start mid end bytes others a b =
    lines_there start end (bytes ++ others) (both_replays start mid end bytes others a b)
    ∙ ap (λ lines. lines ++ b.lines) (sym (lines_there start mid bytes a)) ∙ ap (λ lines. lines_of bytes ++ lines) (sym (lines_there mid end others b))
