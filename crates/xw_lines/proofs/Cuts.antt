-- How the lines of a text change when the text grows.
use Rattle.std.proofs.Common.{rules, ◌≢◌, ◌≡◌, ◌≤◌, ◌<◌, ◌+◌, ◌-◌, ℕ, zero, suc, List, [], ◌∷◌, ◌++◌, length, length-drop, take, take-add, drop, get_or, subst, Some, None, Bool, true, false, cond, refl, sym, ap, ◌∙◌, append_assoc, append-nil, arith}
use Rattle.std.proofs.lemmas.Bool.{true≢false, eqb-true}
use Rattle.std.proofs.lemmas.List.{take_all, take-append-drop, drop_more, get_or-drop}
use Rattle.std.proofs.lemmas.List.Quantifiers.{position-Some}
use Rattle.xw_text.specs.Lines.{is_line_feed}
use Rattle.xw_text.proofs.Position.{position-None}
use Rattle.std.specs.Prelude.{◌==◌, nat_le, position}
use Rattle.xw_lines.specs.Cut.{Cut, cut, with_first, ended_lines, last_piece, last_line, lines_of, held, HasNoLf, EndsLine, AllHaveNoLf, with_lfs}

-- the lines after one more byte at the front
abbrev cut_onto : Bool → ℕ → Cut → Cut
cut_onto is_lf b c = cond is_lf (record { ended = [] ∷ c.ended; rest = c.rest }) (with_first b c.ended c.rest)

-- the lines of two texts with an LF between them
abbrev joined : Cut → Cut → Cut
joined c d = record { ended = c.ended ++ c.rest ∷ d.ended; rest = d.rest }

-- the lines after one more byte at the end, which is not an LF
abbrev longer : Cut → ℕ → Cut
longer c b = record { ended = c.ended; rest = c.rest ++ b ∷ [] }

with_first-joined : (b : ℕ) (lines : List (List ℕ)) (rest : List ℕ) (d : Cut) → with_first b (lines ++ rest ∷ d.ended) d.rest ≡ joined (with_first b lines rest) d
with_first-joined b [] rest d = refl
with_first-joined b (line ∷ lines) rest d = refl

with_first-longer : (a : ℕ) (lines : List (List ℕ)) (rest : List ℕ) (b : ℕ) → with_first a lines (rest ++ b ∷ []) ≡ longer (with_first a lines rest) b
with_first-longer a [] rest b = refl
with_first-longer a (line ∷ lines) rest b = refl

onto-joined : (is_lf : Bool) (b : ℕ) (c d : Cut) → cut_onto is_lf b (joined c d) ≡ joined (cut_onto is_lf b c) d
onto-joined true b c d = refl
onto-joined false b c d = with_first-joined b c.ended c.rest d

onto-longer : (is_lf : Bool) (a : ℕ) (c : Cut) (b : ℕ) → cut_onto is_lf a (longer c b) ≡ longer (cut_onto is_lf a c) b
onto-longer true a c b = refl
onto-longer false a c b = with_first-longer a c.ended c.rest b

pub cut-at_lf : (front back : List ℕ) → cut (front ++ 10 ∷ back) ≡ joined (cut front) (cut back)
cut-at_lf [] back = refl
cut-at_lf (b ∷ front) back = ap (λ c. cut_onto (b == 10) b c) (cut-at_lf front back) ∙ onto-joined (b == 10) b (cut front) (cut back)

pub cut-longer : (front : List ℕ) (b : ℕ) → (b == 10) ≡ false → cut (front ++ b ∷ []) ≡ longer (cut front) b
cut-longer [] b h = ap (λ t. cut_onto t b (cut [])) h
cut-longer (a ∷ front) b h = ap (λ c. cut_onto (a == 10) a c) (cut-longer front b h) ∙ onto-longer (a == 10) a (cut front) b

-- the lines after more bytes without an LF
pub cut-longer_by : (front bytes : List ℕ) → HasNoLf bytes → cut (front ++ bytes) ≡ record { ended = (cut front).ended; rest = (cut front).rest ++ bytes }
cut-longer_by front [] h =
    ap cut (append-nil front) ∙ ap (λ rest. record { ended = (cut front).ended; rest = rest }) (sym (append-nil (cut front).rest))
cut-longer_by front (b ∷ bytes) h =
    let no_lf : (b == 10) ≡ false = search (rules, h.0) in
    ap cut (sym (append_assoc front (b ∷ []) bytes))
    ∙ cut-longer_by (front ++ b ∷ []) bytes h.1
    ∙ ap (λ (c : Cut). record { ended = c.ended; rest = c.rest ++ bytes }) (cut-longer front b no_lf)
    ∙ ap (λ rest. record { ended = (cut front).ended; rest = rest }) (append_assoc (cut front).rest (b ∷ []) bytes)

-- there is no LF before the first one
pub no_lf-before : (bytes : List ℕ) (end : ℕ) → (end ≤ length bytes) → ((k : ℕ) → k < end → (get_or bytes k 0 == 10) ≡ false) → HasNoLf (take end bytes)
no_lf-before bytes zero le h = tt
no_lf-before [] (suc end) le h = absurd (omega arith)
no_lf-before (b ∷ bytes) (suc end) le h =
    let other : b ≢ 10 = λ z. (let bad : (b == 10) ≡ true = rw z refl in true≢false (sym bad ∙ h zero (omega arith))) in
    (other, no_lf-before bytes end (omega arith) (λ k lt. h (suc k) (omega arith)))

pub no_lf : (bytes : List ℕ) → position is_line_feed bytes ≡ None → HasNoLf bytes
no_lf bytes none =
    subst HasNoLf (take_all (length bytes) bytes (omega arith)) (no_lf-before bytes (length bytes) (omega arith) (λ k lt. position-None is_line_feed bytes none k 0 lt))

-- the first LF from an index on ends a line
pub first_lf-ends : (bytes : List ℕ) (from more : ℕ) → position is_line_feed (drop from bytes) ≡ Some more → EndsLine bytes from (from + more)
first_lf-ends bytes from more some =
    let found = position-Some is_line_feed (drop from bytes) more 0 some in
    let count : more ≡ from + more - from = omega arith in
    let long = length-drop from bytes in
    let lf : get_or bytes (from + more) 0 ≡ 10 = sym (get_or-drop from bytes more 0) ∙ eqb-true _ _ found.1 in
    let within : from + more < length bytes = omega (arith, found.0, long) in (
      subst (λ n. HasNoLf (take n (drop from bytes))) count (no_lf-before (drop from bytes) more (omega (arith, found.0)) found.2),
      drop_more bytes (from + more) 0 within ∙ ap (λ b. b ∷ drop (from + more + 1) bytes) lf,
    )

before_end : (bytes : List ℕ) (from end : ℕ) → from ≤ end → take from bytes ++ take (end - from) (drop from bytes) ≡ take end bytes
before_end bytes from end le =
    let e : from + (end - from) ≡ end = omega arith in
    sym (take-add from (end - from) bytes) ∙ ap (λ n. take n bytes) e

-- the text up to the end of a line, and the bytes after it
pub line-within : (text bytes : List ℕ) (from end : ℕ) → from ≤ end → EndsLine bytes from end
    → ((text ++ take from bytes) ++ take (end - from) (drop from bytes)) ++ 10 ∷ drop (end + 1) bytes ≡ text ++ bytes
line-within text bytes from end le h =
    ap (λ xs. xs ++ 10 ∷ drop (end + 1) bytes) (append_assoc text _ _ ∙ ap (λ xs. text ++ xs) (before_end bytes from end le))
    ∙ ap (λ xs. (text ++ take end bytes) ++ xs) (sym h.1)
    ∙ append_assoc text _ _
    ∙ ap (λ xs. text ++ xs) (take-append-drop end bytes)

-- the text up to and including the LF of a line
pub line-through : (text bytes : List ℕ) (from end : ℕ) → from ≤ end → EndsLine bytes from end
    → ((text ++ take from bytes) ++ take (end - from) (drop from bytes)) ++ 10 ∷ [] ≡ text ++ take (end + 1) bytes
line-through text bytes from end le h =
    ap (λ xs. xs ++ 10 ∷ []) (append_assoc text _ _ ∙ ap (λ xs. text ++ xs) (before_end bytes from end le))
    ∙ append_assoc text _ _
    ∙ ap (λ xs. text ++ (take end bytes ++ xs)) (sym (ap (take 1) h.1))
    ∙ ap (λ xs. text ++ xs) (sym (take-add end 1 bytes))

-- the lines of a text with an LF in it
pub lines_of-at_lf : (front back : List ℕ) → lines_of (front ++ 10 ∷ back) ≡ ended_lines front ++ last_piece front ∷ lines_of back
lines_of-at_lf front back =
    ap (λ (c : Cut). c.ended ++ last_line c.rest) (cut-at_lf front back)
    ∙ append_assoc (ended_lines front) (last_piece front ∷ ended_lines back) (last_line (last_piece back))

some-full : (t : Bool) (b : ℕ) (piece : List ℕ) → cond t (Some (b ∷ piece)) None ≡ Some [] → ⊥
some-full true b piece h = cc
some-full false b piece h = cc

-- a line that is buffered as empty is empty
pub held-empty : (piece : List ℕ) → held piece ≡ Some [] → piece ≡ []
held-empty [] h = refl
held-empty (b ∷ piece) h = absurd (some-full (nat_le (length (b ∷ piece)) 4096) b piece h)

-- if nothing follows the last LF, all lines end with an LF
pub lines_of-ended : (text : List ℕ) → held (last_piece text) ≡ Some [] → lines_of text ≡ ended_lines text
lines_of-ended text h = ap (λ rest. ended_lines text ++ last_line rest) (held-empty (last_piece text) h) ∙ append-nil (ended_lines text)

last_line-full : (rest : List ℕ) → (held rest ≡ Some [] → ⊥) → last_line rest ≡ rest ∷ []
last_line-full [] h = absurd (h refl)
last_line-full (b ∷ rest) h = refl

-- if something follows the last LF, it is the last line
pub lines_of-rest : (text : List ℕ) → (held (last_piece text) ≡ Some [] → ⊥) → lines_of text ≡ ended_lines text ++ last_piece text ∷ []
lines_of-rest text h = ap (λ lines. ended_lines text ++ lines) (last_line-full (last_piece text) h)

-- a text without an LF has no complete line
cut-plain : (bytes : List ℕ) → HasNoLf bytes → cut bytes ≡ record { ended = []; rest = bytes }
cut-plain [] h = refl
cut-plain (b ∷ bytes) h =
    let no_lf : (b == 10) ≡ false = search (rules, h.0) in
    rw (no_lf, cut-plain bytes h.1) refl

-- lines with an LF each, and a rest, split into these
pub cut-with_lfs : (lines : List (List ℕ)) (rest : List ℕ) → AllHaveNoLf lines → HasNoLf rest → cut (with_lfs lines rest) ≡ record { ended = lines; rest = rest }
cut-with_lfs [] rest hs h = cut-plain rest h
cut-with_lfs (line ∷ lines) rest hs h =
    cut-at_lf line (with_lfs lines rest)
    ∙ ap (λ c. joined c (cut (with_lfs lines rest))) (cut-plain line hs.0)
    ∙ ap (λ c. joined (record { ended = []; rest = line }) c) (cut-with_lfs lines rest hs.1 h)

onto-whole : (is_lf : Bool) (b : ℕ) (bytes : List ℕ) (c : Cut) → (b == 10) ≡ is_lf → (bytes ≡ with_lfs c.ended c.rest) × AllHaveNoLf c.ended × HasNoLf c.rest
    → (b ∷ bytes ≡ with_lfs (cut_onto is_lf b c).ended (cut_onto is_lf b c).rest) × AllHaveNoLf (cut_onto is_lf b c).ended × HasNoLf (cut_onto is_lf b c).rest
onto-whole true b bytes c t h =
    let lf : b ≡ 10 = search (rules, t) in
    (rw (lf, ← h.0) refl, (tt, h.1), h.2)
onto-whole false b bytes c t h =
    let other : b ≢ 10 = λ z. (let bad : (b == 10) ≡ true = rw z refl in cc) in
    go c.ended c.rest h
  where
    go : (lines : List (List ℕ)) (rest : List ℕ) → (bytes ≡ with_lfs lines rest) × AllHaveNoLf lines × HasNoLf rest
        → (b ∷ bytes ≡ with_lfs (with_first b lines rest).ended (with_first b lines rest).rest) × AllHaveNoLf (with_first b lines rest).ended × HasNoLf (with_first b lines rest).rest
    go [] rest k = (ap (λ xs. b ∷ xs) k.0, tt, (λ z. (let bad : (b == 10) ≡ true = rw z refl in cc), k.2))
    go (line ∷ lines) rest k = (ap (λ xs. b ∷ xs) k.0, ((λ z. (let bad : (b == 10) ≡ true = rw z refl in cc), k.1.0), k.1.1), k.2)

-- the lines and the rest give the text back, and have no LF in them
pub cut-whole : (text : List ℕ) → (text ≡ with_lfs (ended_lines text) (last_piece text)) × AllHaveNoLf (ended_lines text) × HasNoLf (last_piece text)
cut-whole [] = (refl, tt, tt)
cut-whole (b ∷ bytes) = onto-whole (b == 10) b bytes (cut bytes) refl (cut-whole bytes)
