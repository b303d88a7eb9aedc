-- Parts of a text.
use Rattle.std.proofs.Common.{◌≡◌, ◌+◌, ◌-◌, ℕ, List, ◌++◌, length, take, drop, arith, append_assoc, take-add, ◌∙◌, ap, sym}
use Rattle.std.proofs.Common.{◌∷◌, ◌<◌, append-nil, get_or, add-one, drop-cons}
use Rattle.std.proofs.lemmas.List.{take-append-drop}
use Rattle.std.proofs.lemmas.Grind.{common_steps}
use Rattle.std.proofs.Common.{[]}
use Rattle.xw_lines.specs.Device.{Begins}

-- the first `count` bytes from an index on, as `&text[at..]` gives the rest
pub take-range_from : (text : List ℕ) (at count : ℕ) → take count (take (length text - at) (drop at text)) ≡ take count (drop at text)
take-range_from text at count = grind (arith, common_steps)

-- another write that continues where the last one ended
pub transcript-grows : (old mid new text : List ℕ) (at count : ℕ) → mid ≡ old ++ take at text → new ≡ mid ++ take count (take (length text - at) (drop at text)) → new ≡ old ++ take (at + count) text
transcript-grows old mid new text at count m n = grind (arith, take-range_from text at count, take-add at count text, append_assoc old (take at text) (take count (drop at text)))

-- a text split around one of its bytes
pub append-split_at : (front text : List ℕ) (at : ℕ) → at < length text → (front ++ take at text) ++ (get_or text at 0 ∷ drop (at + 1) text) ≡ front ++ text
append-split_at front text at h =
    append_assoc front (take at text) (get_or text at 0 ∷ drop (at + 1) text)
    ∙ ap (λ xs. front ++ xs) (ap (λ xs. take at text ++ xs) (sym (rw add-one (drop-cons text at 0 h))) ∙ take-append-drop at text)

-- a read of 0 bytes adds nothing
pub transcript-nothing : (old mid new text bytes : List ℕ) (count : ℕ) → mid ≡ old ++ text → count ≡ 0 → new ≡ mid ++ take count bytes → new ≡ old ++ text
transcript-nothing old mid new text bytes count m z n = n ∙ (rw z (append-nil mid)) ∙ m

-- a prefix of a text is a prefix of a longer one
pub begins-longer : (old new text more : List ℕ) → Begins old new text → Begins old new (text ++ more)
begins-longer old new text more b = record {
  sent = b.sent;
  unsent = b.unsent ++ more;
  parts = ap (λ xs. xs ++ more) b.parts ∙ append_assoc b.sent b.unsent more;
  transcript = b.transcript;
}

-- after the front of a text is written, a prefix of the rest makes a prefix of the text
pub begins-after : (old mid new front rest : List ℕ) → mid ≡ old ++ front → Begins mid new rest → Begins old new (front ++ rest)
begins-after old mid new front rest m b = record {
  sent = front ++ b.sent;
  unsent = b.unsent;
  parts = ap (λ xs. front ++ xs) b.parts ∙ sym (append_assoc front b.sent b.unsent);
  transcript = b.transcript ∙ ap (λ xs. xs ++ b.sent) m ∙ append_assoc old front b.sent;
}

-- some first bytes of a text were written
pub begins-at : (old new text : List ℕ) (at : ℕ) → new ≡ old ++ take at text → Begins old new text
begins-at old new text at n = record { sent = take at text; unsent = drop at text; parts = sym (take-append-drop at text); transcript = n }

-- the whole text was written
pub begins-whole : (old new text : List ℕ) → new ≡ old ++ text → Begins old new text
begins-whole old new text n = record { sent = text; unsent = []; parts = sym (append-nil text); transcript = n }
