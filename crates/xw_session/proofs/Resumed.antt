-- Executing the lines of a text one after another.
use Rattle.std.proofs.Common.{◌≡◌, ◌≢◌, ◌≤◌, inl, inr, ◌∙◌, ◌+◌, ap, sym, refl, ℕ, false, List, [], ◌∷◌, ◌++◌, length, Option, Some, None, subst, append_assoc, append-nil, length-append, arith}
use Rattle.std.specs.Prelude.{Result, Ok, Err}
use Rattle.xw_text.specs.Lines.{lines_of as lines_lines_of}
use Rattle.xw_text.proofs.LineLemmas.{lines_of-with_lfs}
use Rattle.xw_lines.specs.Cut.{lines_of, ended_lines, last_piece}
use Rattle.xw_lines.specs.Device.{HasFailed}
use Rattle.xw_lines.proofs.Cuts.{cut-whole}
use Rattle.xw_lines.specs.declared.outcome.Step.TheVariants.{Refused}
use Rattle.xw_commands.specs.Command.{command_of}
use Rattle.xw_commands.specs.declared.command.Command.{Command}
use Rattle.xw_session.specs.Reply.{Reply}
use Rattle.xw_session.specs.Answer.{Answers, AnswersParsed, IsExecuted, Replies, ended_by, state_after, step_of, text_of}
use Rattle.xw_answers.specs.declared.refusal.CommandRefusal.{CommandRefusal}
use Rattle.xw_session.specs.declared.resuming.Stop.{Stop}
use Rattle.xw_session.specs.declared.resuming.Stop.TheVariants.{NoCommand, Memory}
use Rattle.xw_session.specs.State.{SessionState}
use Rattle.xw_session.specs.Drafting.{IsRedrawn}
use Rattle.xw_session.specs.Resuming.{AreDone, IsDone, IsDrawn, IsReached, MayBeDone, Resumes, ResumesLine, Tells, count, is_memory, line_fault, told_of}

-- commands are split into lines in the same way as word lists
lines_are_pieces : (text : List ℕ) → lines_lines_of text ≡ lines_of text
lines_are_pieces text =
    let whole = cut-whole text in
    ap lines_lines_of whole.0 ∙ lines_of-with_lfs (ended_lines text) (last_piece text) whole.1 whole.2

-- the first line, and the lines after it
pub first_of_both : (text line rest : List ℕ) → lines_lines_of text ≡ line ∷ lines_lines_of rest → lines_of text ≡ line ∷ lines_of rest
first_of_both text line rest first = sym (lines_are_pieces text) ∙ first ∙ ap (λ lines. line ∷ lines) (lines_are_pieces rest)

-- ---- one line

accepted-reply : (reply : Result Reply CommandRefusal) (done : Unit {0}) → Ok done ≡ ended_by reply → step_of reply ≢ Refused
accepted-reply (Ok reply) done is = λ e. cc
accepted-reply (Err refusal) done is = cc

refused-reply : (reply : Result Reply CommandRefusal) (refusal : CommandRefusal) → Err refusal ≡ ended_by reply → reply ≡ Err refusal
refused-reply (Ok reply) refusal is = cc
refused-reply (Err why) refusal is = let same : refusal ≡ why = cc in ap Err (sym same)

module _ (state after : SessionState) (line : List ℕ) (command : Command) (is : command_of line ≡ Ok (Some command)) where
  answered : (reply : Result Reply CommandRefusal) → Replies state command reply → after ≡ state_after state reply → Answers state line (step_of reply) (text_of reply) after
  answered reply fits effect = subst (λ parsed. AnswersParsed state parsed (step_of reply) (text_of reply) after) (sym is) (reply, fits, refl, refl, effect)

  -- a line is done whose command was executed and not refused
  pub done-accepted : (done : Unit {0}) → line_fault line ≡ None → IsExecuted state command (Ok done) after → IsDone state line None after
  done-accepted done whole executed =
      (whole, step_of executed.reply, text_of executed.reply, answered executed.reply executed.fits executed.effect, accepted-reply executed.reply done executed.is)

  -- or refused, but not for a failed allocation
  pub done-refused : (refusal : CommandRefusal) → line_fault line ≡ None → is_memory refusal ≡ false → IsExecuted state command (Err refusal) after → IsDone state line (Some refusal) after
  done-refused refusal whole other executed = (
    whole,
    subst (λ reply. Answers state line (step_of reply) (text_of reply) after) (refused-reply executed.reply refusal executed.is) (answered executed.reply executed.fits executed.effect),
    other,
  )

  -- however it ended, its line may be done
  pub may-done : (ended : Result (Unit {0}) CommandRefusal) → IsExecuted state command ended after → MayBeDone state line after
  may-done ended executed = (step_of executed.reply, text_of executed.reply, answered executed.reply executed.fits executed.effect)

-- ---- all lines before one

pub count-few : (refusal : Option CommandRefusal) → count refusal ≤ 1
count-few None = omega arith
count-few (Some refusal) = omega arith

-- one line is done
pub done-one : (file : List ℕ) (number : ℕ) (start end : SessionState) (line : List ℕ) (refusal : Option CommandRefusal) → IsDone start line refusal end
    → AreDone file number start (line ∷ []) (told_of file number refusal) (count refusal) end
done-one file number start end line refusal one = (refusal, end, [], 0, one, (refl, refl, refl), sym (append-nil (told_of file number refusal)), omega arith)

-- more lines are done
pub done-all : (lines others : List (List ℕ)) (file : List ℕ) (number : ℕ) (start mid end : SessionState) (transcript more_transcript : List ℕ) (refused more : ℕ)
    → AreDone file number start lines transcript refused mid → AreDone file (number + length lines) mid others more_transcript more end
    → AreDone file number start (lines ++ others) (transcript ++ more_transcript) (refused + more) end
done-all [] others file number start mid end transcript more_transcript refused more done all =
    let numbered : number + 0 ≡ number = omega arith in
    let none : 0 + more ≡ more = omega arith in
    let here : AreDone file number mid others more_transcript more end = subst (λ n. AreDone file n mid others more_transcript more end) numbered all in
    let first : AreDone file number start others more_transcript more end = subst (λ state. AreDone file number state others more_transcript more end) done.2 here in
    let all_of_them : AreDone file number start others ([] ++ more_transcript) (0 + more) end = subst (λ n. AreDone file number start others more_transcript n end) (sym none) first in
    rw (done.0, done.1) all_of_them
done-all (first ∷ lines) others file number start mid end transcript more_transcript refused more (why, next, out, few, did, rest, transcript-is, count-is) all =
    let numbered : number + length (first ∷ lines) ≡ (number + 1) + length lines = omega arith in
    let here : AreDone file ((number + 1) + length lines) mid others more_transcript more end = subst (λ n. AreDone file n mid others more_transcript more end) numbered all in (
      why,
      next,
      out ++ more_transcript,
      few + more,
      did,
      done-all lines others file (number + 1) next mid end out more_transcript few more rest here,
      rw transcript-is (append_assoc (told_of file number why) out more_transcript),
      rw count-is (omega arith),
    )

module _ {S : Type 0} (transcript : S → List ℕ) (failures : S → ℕ) where
  -- one text is told, and then another
  pub tells-more : (old mid new : S) (front rest : List ℕ) → Tells transcript failures old mid front → Tells transcript failures mid new rest → Tells transcript failures old new (front ++ rest)
  tells-more old mid new front rest (inl one) (inl other) = inl (other.0 ∙ ap (λ bytes. bytes ++ rest) one.0 ∙ append_assoc (transcript old) front rest, other.1 ∙ one.1)
  tells-more old mid new front rest (inl one) (inr failed) = inr (subst (λ n. HasFailed n (failures new)) one.1 failed)
  tells-more old mid new front rest (inr failed) (inl other) = inr (subst (λ n. HasFailed (failures old) n) (sym other.1) failed)
  tells-more old mid new front rest (inr failed) (inr again) = inr (omega (arith, failed, again))

  -- nothing is told
  pub tells-nothing : (old new : S) → new ≡ old → Tells transcript failures old new []
  tells-nothing old new same = rw same (inl (sym (append-nil (transcript old)), refl))

  -- The lines before the rest of a text are commands that were done: so many, of which so many are refused, and they leave this state.
  pub record Goes (file : List ℕ) (start : SessionState) (text rest : List ℕ) (number refused : ℕ) (state : SessionState) (old new : S) : Type 0 where
    before : List (List ℕ)
    out : List ℕ
    parts : lines_of text ≡ before ++ lines_of rest
    numbered : number ≡ length before
    done : AreDone file 1 start before out refused state
    tells : Tells transcript failures old new out

  -- no line is done
  pub goes-begun : (file : List ℕ) (start : SessionState) (text : List ℕ) (old : S) → Goes file start text text 0 0 start old old
  goes-begun file start text old = record {
    before = [];
    out = [];
    parts = refl;
    numbered = refl;
    done = (refl, refl, refl);
    tells = tells-nothing old old refl;
  }

  -- more lines are done
  goes-further : (file : List ℕ) (start mid end : SessionState) (text rest next : List ℕ) (number refused taken more : ℕ) (old now new : S) (lines : List (List ℕ)) (told : List ℕ)
      → lines_of rest ≡ lines ++ lines_of next → taken ≡ length lines → AreDone file (number + 1) mid lines told more end → Tells transcript failures now new told
      → Goes file start text rest number refused mid old now → Goes file start text next (number + taken) (refused + more) end old new
  goes-further file start mid end text rest next number refused taken more old now new lines told parts counted done said goes =
      let numbered : number + 1 ≡ 1 + length goes.before = rw goes.numbered (omega arith) in
      let here : AreDone file (1 + length goes.before) mid lines told more end = subst (λ n. AreDone file n mid lines told more end) numbered done in
      record {
        before = goes.before ++ lines;
        out = goes.out ++ told;
        parts = goes.parts ∙ ap (λ others. goes.before ++ others) parts ∙ sym (append_assoc goes.before lines (lines_of next));
        numbered = rw (goes.numbered, counted) (sym (length-append goes.before lines));
        done = done-all goes.before lines file 1 start mid end goes.out told refused more goes.done here;
        tells = tells-more old now new goes.out told goes.tells said;
      }

  -- one more line is done
  pub goes-on : (file : List ℕ) (start mid end : SessionState) (text rest next line reports : List ℕ) (number refused more : ℕ) (old now new : S) → lines_of rest ≡ line ∷ lines_of next
      → IsDrawn file (number + 1) mid line more end [] reports → Tells transcript failures now new reports → Goes file start text rest number refused mid old now → Goes file start text next (number + 1) (refused + more) end old new
  goes-on file start mid end text rest next line reports number refused more old now new first one said goes =
      goes-further file start mid end text rest next number refused 1 more old now new (line ∷ []) (told_of file (number + 1) one.refusal) first (omega arith)
      (rw one.counted (done-one file (number + 1) mid end line one.refusal one.done)) (subst (λ bytes. Tells transcript failures now new bytes) one.told said) goes

  -- the state is still the same
  pub goes-still : (file : List ℕ) (start mid end : SessionState) (text rest : List ℕ) (number refused : ℕ) (old now : S) → end ≡ mid → Goes file start text rest number refused mid old now
      → Goes file start text rest number refused end old now
  goes-still file start mid end text rest number refused old now same goes = subst (λ state. Goes file start text rest number refused state old now) (sym same) goes

  -- lines are done at once
  pub goes-jump : (file : List ℕ) (start mid end : SessionState) (text rest next reports : List ℕ) (number refused taken more : ℕ) (old now new : S) → IsRedrawn file number rest mid taken more reports next end
      → Tells transcript failures now new reports → Goes file start text rest number refused mid old now → Goes file start text next (number + taken) (refused + more) end old new
  goes-jump file start mid end text rest next reports number refused taken more old now new drew said goes =
      goes-further file start mid end text rest next number refused taken more old now new drew.lines reports drew.parts drew.counted drew.done said goes

  -- a line is reached
  reached : (file : List ℕ) (start state : SessionState) (text rest next line : List ℕ) (number refused : ℕ) (old now : S) → lines_of rest ≡ line ∷ lines_of next
      → (goes : Goes file start text rest number refused state old now) → IsReached file start (lines_of text) goes.out state line (number + 1)
  reached file start state text rest next line number refused old now first goes = record {
    before = goes.before;
    after = lines_of next;
    refused = refused;
    parts = goes.parts ∙ ap (λ lines. goes.before ++ lines) first;
    numbered = ap (λ n. n + 1) goes.numbered;
    done = goes.done;
  }

  -- the next line stops them
  pub goes-stop : (file : List ℕ) (start mid end : SessionState) (text rest next line reports : List ℕ) (number refused : ℕ) (stop : Stop) (old now : S) → lines_of rest ≡ line ∷ lines_of next
      → ResumesLine file (number + 1) mid line (Err stop) end [] reports → Goes file start text rest number refused mid old now → (out : List ℕ) × Resumes file start (lines_of text) (Err stop) out end × Tells transcript failures old now out
  goes-stop file start mid end text rest next line reports number refused (NoCommand told refusal) old now first (here, why, same) goes =
      (goes.out, (line, why, rw (here, same) (reached file start mid text rest next line number refused old now first goes)), goes.tells)
  goes-stop file start mid end text rest next line reports number refused Memory old now first (command, did) goes =
      (goes.out, (number + 1, line, mid, command, reached file start mid text rest next line number refused old now first goes, did), goes.tells)

  -- nothing is left
  pub goes-end : (file : List ℕ) (start end : SessionState) (text rest : List ℕ) (number refused : ℕ) (old new : S) → length rest ≡ 0 → Goes file start text rest number refused end old new
      → (out : List ℕ) × Resumes file start (lines_of text) (Ok refused) out end × Tells transcript failures old new out
  goes-end file start end text [] number refused old new none goes =
      let all : lines_of text ≡ goes.before = goes.parts ∙ append-nil goes.before in
      (goes.out, subst (λ lines. AreDone file 1 start lines goes.out refused end) (sym all) goes.done, goes.tells)
  goes-end file start end text (byte ∷ rest) number refused old new none goes = absurd (omega (arith, none))
