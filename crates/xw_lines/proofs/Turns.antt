-- Answering one line after another.
use Rattle.std.proofs.Common.{◌≡◌, ℕ, ◌+◌, List, [], ◌∷◌, ◌++◌, Option, Some, arith, refl, sym, ◌∙◌, ap, subst, append_assoc, append-nil}
use Rattle.xw_lines.specs.Cut.{Cut, held, ended_lines, last_piece, lines_of, HasNoLf}
use Rattle.xw_lines.specs.Device.{saturated}
use Rattle.xw_lines.specs.Spoken.{Spoken, Answered, BreaksOff, refusals, flush_after}
use Rattle.xw_lines.specs.Run.{Speaks, StopsIn, Progress}
use Rattle.xw_lines.specs.declared.outcome.Step.{Step}
use Rattle.xw_lines.proofs.Cuts.{cut-at_lf, cut-longer_by, lines_of-at_lf, lines_of-ended, lines_of-rest}

pub saturated-add : (count more : ℕ) → saturated (saturated count + more) ≡ saturated (count + more)
saturated-add count more = omega arith

-- the output after one more answer and its flush
transcript-more : (begun out transcript answer mid flush transcript' : List ℕ) → transcript ≡ begun ++ out → mid ≡ transcript ++ answer → transcript' ≡ mid ++ flush → transcript' ≡ begun ++ (out ++ (answer ++ flush))
transcript-more begun out transcript answer mid flush transcript' t m f =
    f ∙ ap (λ xs. xs ++ flush) (m ∙ ap (λ xs. xs ++ answer) t) ∙ append_assoc (begun ++ out) answer flush ∙ append_assoc begun out (answer ++ flush)

module _ {S : Type 0} (Answers : S → List ℕ → Step → List ℕ → S → Type 0) where
  -- the answer to an equal piece
  pub answered-along : (start end : S) (outcome : Step) (old new : List ℕ) (piece piece' : Option (List ℕ)) → piece ≡ piece' → Answered Answers start piece outcome end old new → Answered Answers start piece' outcome end old new
  answered-along start end outcome old new piece piece' p a = record {
    answer = a.answer;
    fits = λ line h. a.fits line (h ∙ sym p);
    transcript = a.transcript;
  }

  -- a whole answer is a prefix of itself
  pub broke-after : (start end : S) (outcome : Step) (old new new' : List ℕ) (piece piece' : Option (List ℕ)) → piece ≡ piece' → new' ≡ new → Answered Answers start piece outcome end old new
      → (line : List ℕ) → held line ≡ piece' → BreaksOff Answers start line end old new'
  broke-after start end outcome old new new' piece piece' p n a line h = record {
    outcome = outcome;
    answer = a.answer;
    answers = a.fits line (h ∙ sym p);
    begins = record { sent = a.answer; unsent = []; parts = sym (append-nil a.answer); transcript = n ∙ a.transcript };
  }

  -- one more line is answered
  pub spoken-more : (lines : List (List ℕ)) (start mid end : S) (out answer line : List ℕ) (count : ℕ) (outcome : Step) → Spoken Answers start lines out count mid → Answers mid line outcome answer end → Spoken Answers start (lines ++ line ∷ []) (out ++ (answer ++ flush_after outcome)) (count + refusals outcome) end
  spoken-more [] start mid end out answer line count outcome s a =
      let a' : Answers start line outcome answer end = subst (λ m. Answers m line outcome answer end) s.2 a in
      (outcome, answer, end, [], 0, a', (refl, refl, refl), rw s.0 (sym (append-nil (answer ++ flush_after outcome))), rw s.1 (omega arith))
  spoken-more (first ∷ lines) start mid end out answer line count outcome (first_outcome, first_answer, next, others, more, said, rest, out-is, count-is) a = (
    first_outcome,
    first_answer,
    next,
    others ++ (answer ++ flush_after outcome),
    more + refusals outcome,
    said,
    spoken-more lines next mid end others answer line more outcome rest a,
    rw out-is (append_assoc (first_answer ++ flush_after first_outcome) others (answer ++ flush_after outcome)),
    rw count-is (omega arith),
  )

  -- nothing has been read
  pub progress-begins : (start : S) (begun : List ℕ) (piece : Option (List ℕ)) (refused : ℕ) (transcript : List ℕ) → piece ≡ Some [] → refused ≡ 0 → transcript ≡ begun → Progress Answers start begun [] start piece refused transcript
  progress-begins start begun piece refused transcript p r t = record {
    count = 0;
    speaks = record { out = []; spoken = (refl, refl, refl); transcript-is = t ∙ sym (append-nil begun) };
    piece-is = p;
    refused-is = r;
  }

  -- bytes without an LF are buffered
  pub progress-held : (start state : S) (begun text bytes : List ℕ) (piece piece' : Option (List ℕ)) (refused : ℕ) (transcript : List ℕ) → HasNoLf bytes → ((line : List ℕ) → piece ≡ held line → piece' ≡ held (line ++ bytes))
      → Progress Answers start begun text state piece refused transcript → Progress Answers start begun (text ++ bytes) state piece' refused transcript
  progress-held start state begun text bytes piece piece' refused transcript h hold p =
      let e = cut-longer_by text bytes h in
      let lines-is : ended_lines (text ++ bytes) ≡ ended_lines text = ap (λ (c : Cut). c.ended) e in
      let rest-is : last_piece (text ++ bytes) ≡ last_piece text ++ bytes = ap (λ (c : Cut). c.rest) e in
      record {
        count = p.count;
        speaks = subst (λ lines. Speaks Answers start lines p.count state begun transcript) (sym lines-is) p.speaks;
        piece-is = hold (last_piece text) p.piece-is ∙ ap held (sym rest-is);
        refused-is = p.refused-is;
      }

  -- an LF ends a line, which is answered
  pub progress-line : (start state end : S) (begun text : List ℕ) (piece piece' : Option (List ℕ)) (refused refused' : ℕ) (transcript mid transcript' : List ℕ) (outcome : Step)
      → Answered Answers state piece outcome end transcript mid → transcript' ≡ mid ++ flush_after outcome → refused' ≡ saturated (refused + refusals outcome) → piece' ≡ Some []
      → Progress Answers start begun text state piece refused transcript → Progress Answers start begun (text ++ 10 ∷ []) end piece' refused' transcript'
  progress-line start state end begun text piece piece' refused refused' transcript mid transcript' outcome a f r e p =
      let c = cut-at_lf text [] in
      let lines-is : ended_lines (text ++ 10 ∷ []) ≡ ended_lines text ++ last_piece text ∷ [] = ap (λ (c : Cut). c.ended) c in
      let rest-is : last_piece (text ++ 10 ∷ []) ≡ [] = ap (λ (c : Cut). c.rest) c in
      let said = a.fits (last_piece text) (sym p.piece-is) in
      let all : Speaks Answers start (ended_lines text ++ last_piece text ∷ []) (p.count + refusals outcome) end begun transcript' = record {
        out = p.speaks.out ++ (a.answer ++ flush_after outcome);
        spoken = spoken-more (ended_lines text) start state end p.speaks.out a.answer (last_piece text) p.count outcome p.speaks.spoken said;
        transcript-is = transcript-more begun p.speaks.out transcript a.answer mid (flush_after outcome) transcript' p.speaks.transcript-is a.transcript f;
      } in
      record {
        count = p.count + refusals outcome;
        speaks = subst (λ lines. Speaks Answers start lines (p.count + refusals outcome) end begun transcript') (sym lines-is) all;
        piece-is = e ∙ ap held (sym rest-is);
        refused-is = r ∙ ap (λ n. saturated (n + refusals outcome)) p.refused-is ∙ saturated-add p.count (refusals outcome);
      }

  -- the answer to a line that ends with an LF is not finished
  pub stops-at_lf : (Breaks : S → List ℕ → S → List ℕ → List ℕ → Type 0) (start state end : S) (begun text more : List ℕ) (piece : Option (List ℕ)) (refused : ℕ) (transcript transcript' : List ℕ)
      → ((line : List ℕ) → held line ≡ piece → Breaks state line end transcript transcript') → Progress Answers start begun text state piece refused transcript → StopsIn Answers Breaks start (text ++ 10 ∷ more) end begun transcript'
  stops-at_lf Breaks start state end begun text more piece refused transcript transcript' b p = record {
    before = ended_lines text;
    line = last_piece text;
    after = lines_of more;
    are-lines = lines_of-at_lf text more;
    out = p.speaks.out;
    refused = p.count;
    mid = state;
    spoken = p.speaks.spoken;
    breaks = subst (λ old. Breaks state (last_piece text) end old transcript') p.speaks.transcript-is (b (last_piece text) (sym p.piece-is));
  }

  -- if nothing is buffered at the end, all lines are answered
  pub speaks-ended : (start state : S) (begun text : List ℕ) (piece : Option (List ℕ)) (refused : ℕ) (transcript : List ℕ) → piece ≡ Some []
      → (p : Progress Answers start begun text state piece refused transcript) → Speaks Answers start (lines_of text) p.count state begun transcript
  speaks-ended start state begun text piece refused transcript e p =
      subst (λ lines. Speaks Answers start lines p.count state begun transcript) (sym (lines_of-ended text (sym p.piece-is ∙ e))) p.speaks

  -- the line that is buffered at the end is the last one
  pub speaks-last : (start state end : S) (begun text : List ℕ) (piece : Option (List ℕ)) (refused : ℕ) (transcript mid transcript' : List ℕ) (outcome : Step) → (piece ≡ Some [] → ⊥)
      → Answered Answers state piece outcome end transcript mid → transcript' ≡ mid ++ flush_after outcome → (p : Progress Answers start begun text state piece refused transcript)
      → Speaks Answers start (lines_of text) (p.count + refusals outcome) end begun transcript'
  speaks-last start state end begun text piece refused transcript mid transcript' outcome e a f p =
      let said = a.fits (last_piece text) (sym p.piece-is) in
      let all : Speaks Answers start (ended_lines text ++ last_piece text ∷ []) (p.count + refusals outcome) end begun transcript' = record {
        out = p.speaks.out ++ (a.answer ++ flush_after outcome);
        spoken = spoken-more (ended_lines text) start state end p.speaks.out a.answer (last_piece text) p.count outcome p.speaks.spoken said;
        transcript-is = transcript-more begun p.speaks.out transcript a.answer mid (flush_after outcome) transcript' p.speaks.transcript-is a.transcript f;
      } in
      subst (λ lines. Speaks Answers start lines (p.count + refusals outcome) end begun transcript') (sym (lines_of-rest text (λ h. e (p.piece-is ∙ h)))) all

  -- the answer to the last line, which has no LF, is not finished
  pub stops-last : (Breaks : S → List ℕ → S → List ℕ → List ℕ → Type 0) (start state end : S) (begun text : List ℕ) (piece : Option (List ℕ)) (refused : ℕ) (transcript transcript' : List ℕ) → (piece ≡ Some [] → ⊥)
      → ((line : List ℕ) → held line ≡ piece → Breaks state line end transcript transcript') → Progress Answers start begun text state piece refused transcript → StopsIn Answers Breaks start text end begun transcript'
  stops-last Breaks start state end begun text piece refused transcript transcript' e b p = record {
    before = ended_lines text;
    line = last_piece text;
    after = [];
    are-lines = lines_of-rest text (λ h. e (p.piece-is ∙ h));
    out = p.speaks.out;
    refused = p.count;
    mid = state;
    spoken = p.speaks.spoken;
    breaks = subst (λ old. Breaks state (last_piece text) end old transcript') p.speaks.transcript-is (b (last_piece text) (sym p.piece-is));
  }

-- answers in terms of states are answers in terms of what the states mean
pub spoken-map : {S T : Type 0} (meaning : S → T) (Answers : T → List ℕ → Step → List ℕ → T → Type 0) (lines : List (List ℕ)) (start : S) (out : List ℕ) (refused : ℕ) (end : S)
    → Spoken (λ old line outcome answer new. Answers (meaning old) line outcome answer (meaning new)) start lines out refused end → Spoken Answers (meaning start) lines out refused (meaning end)
spoken-map meaning Answers [] start out refused end h = (h.0, h.1, ap meaning h.2)
spoken-map meaning Answers (line ∷ lines) start out refused end (outcome, answer, mid, others, more, said, rest, out-is, count-is) =
    (outcome, answer, meaning mid, others, more, said, spoken-map meaning Answers lines mid others more end rest, out-is, count-is)

pub speaks-map : {S T : Type 0} (meaning : S → T) (Answers : T → List ℕ → Step → List ℕ → T → Type 0) (start : S) (lines : List (List ℕ)) (count : ℕ) (state : S) (begun transcript : List ℕ)
    → Speaks (λ old line outcome answer new. Answers (meaning old) line outcome answer (meaning new)) start lines count state begun transcript → Speaks Answers (meaning start) lines count (meaning state) begun transcript
speaks-map meaning Answers start lines count state begun transcript s = record {
  out = s.out;
  spoken = spoken-map meaning Answers lines start s.out count state s.spoken;
  transcript-is = s.transcript-is;
}
