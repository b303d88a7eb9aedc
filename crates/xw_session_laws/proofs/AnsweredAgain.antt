-- The lines of a record, as a session answers them.
use Rattle.std.proofs.Common.{◌≡◌, ℕ, true, List, [], ◌∷◌, ◌++◌, Some, None, refl, sym, ◌∙◌, ap, subst, inl, inr, arith}
use Rattle.std.specs.Prelude.{Option, Result, Ok, Err}
use Rattle.std.specs.Option.{option_and_then, option_map, is_some, unwrap_or}
use Rattle.xw_commands.specs.declared.command.Command.{Command}
use Rattle.xw_commands.specs.declared.command.Command.TheVariants as commands
use Rattle.xw_commands.specs.declared.command.SyntaxFault.{SyntaxFault}
use Rattle.xw_lines.specs.declared.outcome.Step.{Step}
use Rattle.xw_lines.specs.declared.outcome.Step.TheVariants.{Silent, Refused}
use Rattle.xw_answers.specs.declared.refusal.CommandRefusal.{CommandRefusal}
use Rattle.xw_session.specs.State.{SessionState}
use Rattle.xw_commands.specs.Command.{command_of}
use Rattle.xw_session.specs.Reply.{Reply, answer_of, asked, searched, reply_to, want_of}
use Rattle.xw_session.specs.Answer.{IsReply, IsOnlyOr, IsOneOf, IsFound, IsDue, Replies, text_of, step_of, state_after, AnswersParsed, Answers}
use Rattle.xw_lines.specs.Spoken.{Spoken, refusals}
use Rattle.xw_session_laws.specs.Replay.{state_left, left_by, left_by_line, replayed_lines, WantsMemory}

-- ---- a command that leaves one state

left_there : (found : Option (Result Reply CommandRefusal)) (left : SessionState) → left_by found ≡ Some left → is_some found ≡ true
left_there None left e = cc
left_there (Some reply) left e = refl

answer_there : (state : SessionState) (found : Option (Result (List ℕ) CommandRefusal)) (left : SessionState) → left_by (option_map (asked state) found) ≡ Some left → is_some found ≡ true
answer_there state None left e = cc
answer_there state (Some answer) left e = refl

only_one : {T : Type 0} (found : Option T) (several : Type 0) (due : T) → is_some found ≡ true → IsOnlyOr found several due → found ≡ Some due
only_one None several due there is = cc
only_one (Some only) several due there is = ap Some is

-- the reply of a command that can be replayed is the only one due
determined : (state : SessionState) (command : Command) (due : Result Reply CommandRefusal) (left : SessionState) → left_by (reply_to state command) ≡ Some left → IsDue state command due → reply_to state command ≡ Some due
determined state (commands.Ask query) due left e (answer, is, same) =
    ap (option_map (asked state)) (only_one (answer_of state query) (IsOneOf state query answer) answer (answer_there state (answer_of state query) left e) is) ∙ ap Some (sym same)
determined state (commands.Change change) due left e owed = ap Some owed
determined state (commands.Search search) due left e owed = only_one (searched state search) (IsFound state search due) due (left_there (searched state search) left e) owed

pub some_left : {X : Type 0} (left : Option X) (f : X → Option SessionState) (last : SessionState) → option_and_then f left ≡ Some last → (next : X) × (left ≡ Some next)
some_left None f last e = cc
some_left (Some next) f last e = (next, refl)

-- ---- no line is refused

module _ (state next : SessionState) where
  reply_left : (command : Command) (reply : Result Reply CommandRefusal) (outcome : Step) (left : SessionState) → left_by (reply_to state command) ≡ Some left → Replies state command reply → outcome ≡ step_of reply → next ≡ state_after state reply → refusals outcome ≡ 0
      → left ≡ next
  reply_left command (Ok reply) outcome left e (due, owed, fits) step after none =
      let is : Some left ≡ Some reply.state = sym e ∙ ap left_by (determined state command due left e owed ∙ ap Some fits) in
      ap (λ found. unwrap_or found left) is ∙ sym after
  reply_left command (Err refusal) outcome left e fits step after none = let bad : 1 ≡ 0 = sym (ap refusals step) ∙ none in absurd (omega (arith, bad))

  pub line_left : (found : Result (Option Command) SyntaxFault) (outcome : Step) (answer : List ℕ) (left : SessionState) → left_by_line state found ≡ Some left → AnswersParsed state found outcome answer next → refusals outcome ≡ 0 → left ≡ next
  line_left (Ok None) outcome answer left e said none = ap (λ found. unwrap_or found left) (sym e) ∙ sym said.2
  line_left (Ok (Some command)) outcome answer left e said none = reply_left command said.0 outcome left e said.1 said.2 said.4 none
  line_left (Err fault) outcome answer left e said none = cc

-- lines that can be replayed, and that a session does not refuse, leave the replayed state
pub spoken_left : (lines : List (List ℕ)) (state last whole : SessionState) (out : List ℕ) (count : ℕ) → replayed_lines state lines ≡ Some whole → Spoken Answers state lines out count last → count ≡ 0 → whole ≡ last
spoken_left [] state last whole out count e said none = ap (λ found. unwrap_or found whole) (sym e) ∙ sym said.2
spoken_left (line ∷ lines) state last whole out count e (outcome, answer, mid, others, more, said, rest, out-is, count-is) none =
    let left = some_left (left_by_line state (command_of line)) (λ next. replayed_lines next lines) whole e in
    let done : replayed_lines left.0 lines ≡ Some whole = sym (ap (option_and_then (λ next. replayed_lines next lines)) left.1) ∙ e in
    let same : left.0 ≡ mid = line_left state mid (command_of line) outcome answer left.0 left.1 said (omega (arith, count-is, none)) in
    spoken_left lines mid last whole others more (subst (λ (next : SessionState). replayed_lines next lines ≡ Some whole) same done) rest (omega (arith, count-is, none))

-- ---- a line is refused

one_and_others : (left : Option SessionState) (front rest : List (List ℕ))
    → ((next : SessionState) → replayed_lines next (front ++ rest) ≡ option_and_then (λ mid. replayed_lines mid rest) (replayed_lines next front))
    → option_and_then (λ next. replayed_lines next (front ++ rest)) left ≡ option_and_then (λ mid. replayed_lines mid rest) (option_and_then (λ next. replayed_lines next front) left)
one_and_others None front rest others = refl
one_and_others (Some next) front rest others = others next

pub both_replayed : (state : SessionState) (front rest : List (List ℕ)) → replayed_lines state (front ++ rest) ≡ option_and_then (λ mid. replayed_lines mid rest) (replayed_lines state front)
both_replayed state [] rest = refl
both_replayed state (line ∷ front) rest = one_and_others (left_by_line state (command_of line)) front rest (λ next. both_replayed next front rest)

module _ (state last : SessionState) (answer : List ℕ) where
  due_left : (command : Command) (due : Result Reply CommandRefusal) (refusal : CommandRefusal) (next : SessionState) → state_left due ≡ Some next → IsReply due (want_of state command) (Err refusal) → want_of state command ≡ Some refusal
  due_left command (Ok reply) refusal next e (inl is) = cc
  due_left command (Ok reply) refusal next e (inr wants) = wants.1
  due_left command (Err other) refusal next e fits = cc

  reply_wants : (command : Command) (reply : Result Reply CommandRefusal) (next : SessionState) → left_by (reply_to state command) ≡ Some next → Replies state command reply → Refused ≡ step_of reply → answer ≡ text_of reply → WantsMemory state (Ok (Some command)) answer
  reply_wants command (Ok reply) next e fits step is = cc
  reply_wants command (Err refusal) next e (due, owed, fits) step is =
      (refusal, due_left command due refusal next (ap left_by (sym (determined state command due next e owed)) ∙ e) fits, is)

  pub line_wants : (found : Result (Option Command) SyntaxFault) (next : SessionState) → left_by_line state found ≡ Some next → AnswersParsed state found Refused answer last → WantsMemory state found answer
  line_wants (Ok None) next e said = let bad : Refused ≡ Silent = said.0 in cc
  line_wants (Ok (Some command)) next e said = reply_wants command said.0 next e said.1 said.2 said.3
  line_wants (Err fault) next e said = cc

pub first_refused : (state mid last whole : SessionState) (front rest : List (List ℕ)) (line out answer : List ℕ) → replayed_lines state (front ++ line ∷ rest) ≡ Some whole
    → Spoken Answers state front out 0 mid → Answers mid line Refused answer last → WantsMemory mid (command_of line) answer
first_refused state mid last whole front rest line out answer done said refused =
    let both : option_and_then (λ mid. replayed_lines mid (line ∷ rest)) (replayed_lines state front) ≡ Some whole = sym (both_replayed state front (line ∷ rest)) ∙ done in
    let first = some_left (replayed_lines state front) (λ mid. replayed_lines mid (line ∷ rest)) whole both in
    let so_far : replayed_lines state front ≡ Some mid = first.1 ∙ ap Some (spoken_left front state mid first.0 out 0 first.1 said refl) in
    let others : replayed_lines mid (line ∷ rest) ≡ Some whole = sym (ap (option_and_then (λ mid. replayed_lines mid (line ∷ rest))) so_far) ∙ both in
    let left = some_left (left_by_line mid (command_of line)) (λ next. replayed_lines next rest) whole others in
    line_wants mid last answer (command_of line) left.0 left.1 refused
