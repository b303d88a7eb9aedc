-- The effect of a function that writes a text.
use Rattle.std.specs.Prelude.{◌≡◌, ℕ, List, ◌++◌, Result, Ok, Err}
use Rattle.xw_lines.specs.Device.{Begins, HasFailed}

-- Either the whole text was written and nothing failed, or a prefix was written and the writer failed. The arguments
-- are the writer's ghost functions, the writer before and after, the result and the text.
abbrev pub Sends : {S T E : Type 0} → (S → List ℕ) → (S → ℕ) → S → S → Result T E → List ℕ → Type 0
Sends transcript failures old new (Ok x) text = (transcript new ≡ transcript old ++ text) × (failures new ≡ failures old)
Sends transcript failures old new (Err e) text = Begins (transcript old) (transcript new) text × HasFailed (failures old) (failures new)

-- The effect of a function that appends a text to a buffer, and may write the front of the buffer. Either nothing
-- failed: what was written and then the new buffer are the old buffer and then the text. Or the writer failed, and a
-- prefix of the old buffer and the text was written.
abbrev pub Gathers : {S T E : Type 0} → (S → List ℕ) → (S → ℕ) → S → S → List ℕ → List ℕ → Result T E → List ℕ → Type 0
Gathers transcript failures old new before after (Ok x) text = (out : List ℕ) × record {
  transcript : transcript new ≡ transcript old ++ out;
  parts : before ++ text ≡ out ++ after;
  quiet : failures new ≡ failures old;
}
Gathers transcript failures old new before after (Err e) text = Begins (transcript old) (transcript new) (before ++ text) × HasFailed (failures old) (failures new)
