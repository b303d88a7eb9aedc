-- What is written, to the messages and to the output.
use Rattle.std.proofs.Common.{◌≡◌, ◌∙◌, ◌⊎◌, ◌∷◌, inl, inr, refl, sym, ap, subst, ℕ, Bool, true, false, ◌&&◌, [], List, ◌++◌, codes, Result, Ok, Err, IfOk}
use Rattle.std.specs.Prelude.{OnOk, OnErr}
use Rattle.xw_lines.specs.Device.{HasFailed, flushed}
use Rattle.xw_lines.specs.Sends.{Sends}
use Rattle.xw_desk.specs.Desk.{FailsToShow, Moment, Reports, Shows}
use Rattle.xw_desk.specs.declared.failure.Failure.{Failure}
use Rattle.xw_desk.specs.Explained.{IsMessage, IsReason, is_of_disk}
use Rattle.xw_desk.specs.Sentences.{sentence_if}
use Rattle.xw_desk.specs.Failures.{failure_text}

pub goes_out : {S T E : Type 0} (transcript : S → List ℕ) (failures : S → ℕ) (old new : S) (result : Result T E) (text : List ℕ)
    → Sends transcript failures old new result text → ((transcript new ≡ transcript old ++ text) × (failures new ≡ failures old)) ⊎ HasFailed (failures old) (failures new)
goes_out transcript failures old new (Ok sent) text sends = inl sends
goes_out transcript failures old new (Err fault) text sends = inr sends.1

-- the moment with this output
abbrev pub with_output : {S : Type 0} → (S → List ℕ) → (S → ℕ) → (S → Bool) → Moment → S → Moment
with_output transcript failures closed moment output = record moment { told = transcript output; write_failures = failures output; is_closed = closed output }

pub shows : {S T E : Type 0} (transcript : S → List ℕ) (failures : S → ℕ) (closed : S → Bool) (moment : Moment) (old new : S) (result : Result T E) (text : List ℕ)
    → Sends transcript failures old new result (text ++ flushed ∷ []) → OnOk result (Shows text (with_output transcript failures closed moment old) (with_output transcript failures closed moment new))
shows transcript failures closed moment old new (Ok sent) text sends =
    record { closed = closed new; alone = rw (sends.0, sends.1) refl }
shows transcript failures closed moment old new (Err fault) text sends = tt

pub fails_to_show : {S T E : Type 0} (transcript : S → List ℕ) (failures : S → ℕ) (closed : S → Bool) (moment : Moment) (old new : S) (result : Result T E) (text : List ℕ)
    → Sends transcript failures old new result (text ++ flushed ∷ []) → OnErr result (FailsToShow text (with_output transcript failures closed moment old) (with_output transcript failures closed moment new))
fails_to_show transcript failures closed moment old new (Ok sent) text sends = tt
fails_to_show transcript failures closed moment old new (Err fault) text sends =
    record { told = transcript new; failures = failures new; closed = closed new; begins = sends.0; failed = sends.1; alone = refl }

-- a text that is a line is reported as this line
pub reports_as : (old new : Moment) (text line : List ℕ) → text ≡ line → Reports text old new → Reports line old new
reports_as old new text line is reports = subst (λ (t : List ℕ). Reports t old new) is reports

-- a message with the error of the system and a sentence
pub messaged : {T E : Type 0} (bytes : T → List ℕ) (result : Result T E) (explain : Bool) (failure : Failure) (reason sentence text : List ℕ) → IsReason (explain && is_of_disk failure) reason → sentence ≡ sentence_if explain failure
    → text ≡ failure_text failure ++ codes "\n" ++ reason ++ sentence → IfOk result (λ message. bytes message ≡ text) → IfOk result (λ message. IsMessage explain failure (bytes message))
messaged bytes (Ok message) explain failure reason sentence text due is made same = (reason, due, same ∙ made ∙ ap (λ (s : List ℕ). failure_text failure ++ codes "\n" ++ reason ++ s) is)
messaged bytes (Err fault) explain failure reason sentence text due is made same = tt

-- a line with a reason
pub reasoned : {T E : Type 0} (bytes : T → List ℕ) (result : Result T E) (due : Bool) (reason text : List ℕ) → due ≡ true → text ≡ codes "xw: " ++ reason ++ codes "\n"
    → IfOk result (λ line. bytes line ≡ text) → IfOk result (λ line. IsReason due (bytes line))
reasoned bytes (Ok line) due reason text is_due made same = subst (λ (d : Bool). IsReason d (bytes line)) (sym is_due) (inr (reason, same ∙ made))
reasoned bytes (Err fault) due reason text is_due made same = tt

-- no line
pub unreasoned : (due : Bool) (line : List ℕ) → line ≡ [] → IsReason due line
unreasoned true line none = inl none
unreasoned false line none = none
