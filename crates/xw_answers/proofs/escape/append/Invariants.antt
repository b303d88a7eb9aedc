use Rattle.std.proofs.Common.{◌≡◌, ◌≤◌, ◌+◌, ◌-◌, ◌++◌, ℕ, List, Some, drop, length}
use Rattle.std.specs.Prelude.{vec_len, vec_capacity}
use Rattle.xw_answers.specs.Escape.{text_left, text_spelled}
use Rattle.xw_answers.proofs.escape.append.Given as goal

-- the rest of the spelling gives what is missing in the text, and fits the capacity
abbrev pub invariant-loop-byte : goal.invariant-loop-byte
invariant-loop-byte l = record {
  room : vec_len l.text + (length l.spelling - l.byte-index) ≤ vec_capacity l.text;
  text : (piece : List ℕ) → text_spelled l.spelling ≡ Some piece
      → (rest : List ℕ) × (text_left l.is_within (drop l.byte-index l.spelling) ≡ Some rest) × (l.fn.text.items ++ piece ≡ l.text.items ++ rest);
}
