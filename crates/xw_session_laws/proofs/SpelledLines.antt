-- A text with escapes is one line: it has no LF, and no space or tab at either end.
use Rattle.std.proofs.Common.{◌≡◌, ◌≢◌, ℕ, ◌+◌, ◌-◌, ◌<◌, Bool, true, false, ◌&&◌, ◌||◌, eqb, List, [], ◌∷◌, ◌++◌, length, take, drop, get_or, flat_map, Some, None, refl, sym, ◌∙◌, ap, subst, append_assoc, append-nil, arith, zero-add}
use Rattle.std.specs.Prelude.{Option, reverse, position, unwrap_or, slice_index, if◌then◌else◌}
use Rattle.std.specs.List.{range_with_len}
use Rattle.std.proofs.lemmas.Bool.{eqb-false, eq-eqb}
use Rattle.std.proofs.lemmas.List.{take_all, take_more, reverse-append}
use Rattle.std.proofs.lemmas.List.FromFn.{get_or-range_with_len, length-range_with_len}
use Rattle.std.proofs.lemmas.Grind.{flat_map-append}
use Rattle.xw_text.proofs.Position.{position_is_some}
use Rattle.xw_lines.specs.Cut.{HasNoLf}
use Rattle.xw_commands.specs.Line.{is_ink, first_index, trimmed_start, trimmed_end, trimmed}
use Rattle.xw_answers.specs.Escape.{letter_for, escaped, is_end, spelled_at, escaped_text}

-- ---- no LF

no_lf_joined : (front rest : List ℕ) → HasNoLf front → HasNoLf rest → HasNoLf (front ++ rest)
no_lf_joined [] rest a b = b
no_lf_joined (byte ∷ front) rest a b = (a.0, no_lf_joined front rest a.1 b)

lf_escaped : (test : Bool) (byte letter : ℕ) (other : Option ℕ) → letter ≢ 10 → (test ≡ false → HasNoLf (escaped byte other)) → HasNoLf (escaped byte (if test then Some letter else other))
lf_escaped true byte letter other plain rest = ((λ e. cc), (plain, tt))
lf_escaped false byte letter other plain rest = rest refl

no_lf_in : (at_end : Bool) (byte : ℕ) → HasNoLf (escaped byte (letter_for at_end byte))
no_lf_in at_end byte =
    lf_escaped (eqb byte 10) byte 110 _ (λ e. cc)
    (λ other. lf_escaped (eqb byte 13) byte 114 _ (λ e. cc)
    (λ _. lf_escaped (eqb byte 92) byte 92 _ (λ e. cc)
    (λ _. lf_escaped (at_end && eqb byte 32) byte 115 _ (λ e. cc)
    (λ _. lf_escaped (at_end && eqb byte 9) byte 116 _ (λ e. cc)
    (λ _. (eqb-false byte 10 other, tt))))))

no_lf_each : (text indices : List ℕ) → HasNoLf (flat_map (spelled_at text) indices)
no_lf_each text [] = tt
no_lf_each text (index ∷ indices) = no_lf_joined (spelled_at text index) (flat_map (spelled_at text) indices) (no_lf_in (is_end text index) (slice_index text index)) (no_lf_each text indices)

pub no_lf_spelled : (text : List ℕ) → HasNoLf (escaped_text text)
no_lf_spelled text = no_lf_each text (range_with_len 0 (length text))

-- ---- no space or tab at either end

-- the letter of an escape is not blank, and neither is a byte at an end without an escape
abbrev pub IsInked : ℕ → Option ℕ → Type 0
IsInked byte None = is_ink byte ≡ true
IsInked byte (Some letter) = is_ink letter ≡ true

inked_chosen : (test : Bool) (byte letter : ℕ) (other : Option ℕ) → is_ink letter ≡ true → (test ≡ false → IsInked byte other) → IsInked byte (if test then Some letter else other)
inked_chosen true byte letter other ink rest = ink
inked_chosen false byte letter other ink rest = rest refl

pub inked : (byte : ℕ) → IsInked byte (letter_for true byte)
inked byte =
    inked_chosen (eqb byte 10) byte 110 _ refl
    (λ _. inked_chosen (eqb byte 13) byte 114 _ refl
    (λ _. inked_chosen (eqb byte 92) byte 92 _ refl
    (λ _. inked_chosen (eqb byte 32) byte 115 _ refl
    (λ space. inked_chosen (eqb byte 9) byte 116 _ refl
    (λ tab. rw (space, tab) refl)))))

at_once : (byte : ℕ) (bytes : List ℕ) → is_ink byte ≡ true → first_index is_ink (byte ∷ bytes) ≡ 0
at_once byte bytes ink =
    let found : position is_ink (byte ∷ bytes) ≡ Some 0 = position_is_some is_ink (byte ∷ bytes) 0 0 (omega arith) (λ k before. absurd (omega arith)) ink in
    ap (λ at. unwrap_or at (length (byte ∷ bytes))) found

start_kept : (byte : ℕ) (bytes : List ℕ) → is_ink byte ≡ true → trimmed_start (byte ∷ bytes) ≡ byte ∷ bytes
start_kept byte bytes ink = ap (λ n. drop n (byte ∷ bytes)) (at_once byte bytes ink)

end_kept : (front : List ℕ) (byte : ℕ) → is_ink byte ≡ true → trimmed_end (front ++ byte ∷ []) ≡ front ++ byte ∷ []
end_kept front byte ink =
    let back : reverse (front ++ byte ∷ []) ≡ byte ∷ reverse front = reverse-append front (byte ∷ []) in
    let none : first_index is_ink (reverse (front ++ byte ∷ [])) ≡ 0 = ap (first_index is_ink) back ∙ at_once byte (reverse front) ink in
    ap (λ n. take (length (front ++ byte ∷ []) - n) (front ++ byte ∷ [])) none ∙ take_all _ _ (omega arith)

front_kept : (byte : ℕ) (letter : Option ℕ) (rest : List ℕ) → IsInked byte letter → trimmed_start (escaped byte letter ++ rest) ≡ escaped byte letter ++ rest
front_kept byte None rest ink = start_kept byte rest ink
front_kept byte (Some letter) rest ink = start_kept 92 (letter ∷ rest) refl

back_kept : (front : List ℕ) (byte : ℕ) (letter : Option ℕ) → IsInked byte letter → trimmed_end (front ++ escaped byte letter) ≡ front ++ escaped byte letter
back_kept front byte None ink = end_kept front byte ink
back_kept front byte (Some letter) ink =
    let last : (front ++ 92 ∷ []) ++ letter ∷ [] ≡ front ++ 92 ∷ letter ∷ [] = append_assoc front (92 ∷ []) (letter ∷ []) in
    subst (λ xs. trimmed_end xs ≡ xs) last (end_kept (front ++ 92 ∷ []) letter ink)

pub starts_inked : (byte : ℕ) (bytes : List ℕ) → trimmed_start (escaped_text (byte ∷ bytes)) ≡ escaped_text (byte ∷ bytes)
starts_inked byte bytes = front_kept byte (letter_for true byte) (flat_map (spelled_at (byte ∷ bytes)) (range_with_len 1 (length bytes))) (inked byte)

-- the spelling of the last byte comes last
last_apart : (text : List ℕ) (m : ℕ) → m + 1 ≡ length text → escaped_text text ≡ flat_map (spelled_at text) (take m (range_with_len 0 (length text))) ++ spelled_at text m
last_apart text m is =
    let indices = range_with_len 0 (length text) in
    let long : length indices ≡ length text = length-range_with_len 0 (length text) in
    let inside : m < length indices = omega (arith, long, is) in
    let at : get_or indices m 0 ≡ m = get_or-range_with_len 0 (length text) m 0 (omega (arith, is)) ∙ zero-add m in
    let parts : indices ≡ take m indices ++ m ∷ [] = sym (take_all (m + 1) indices (omega (arith, long, is))) ∙ take_more indices m 0 inside ∙ ap (λ k. take m indices ++ k ∷ []) at in
    ap (flat_map (spelled_at text)) parts ∙ flat_map-append (spelled_at text) (take m indices) (m ∷ []) ∙ ap (λ xs. flat_map (spelled_at text) (take m indices) ++ xs) (append-nil (spelled_at text m))

ends_inked : (text : List ℕ) (m : ℕ) → m + 1 ≡ length text → trimmed_end (escaped_text text) ≡ escaped_text text
ends_inked text m is =
    let front = flat_map (spelled_at text) (take m (range_with_len 0 (length text))) in
    let byte = slice_index text m in
    let at_end : is_end text m ≡ true = ap (λ b. eqb m 0 || b) (eq-eqb (m + 1) (length text) is) ∙ or_true (eqb m 0) in
    let last : spelled_at text m ≡ escaped byte (letter_for true byte) = ap (λ b. escaped byte (letter_for b byte)) at_end in
    let whole : escaped_text text ≡ front ++ escaped byte (letter_for true byte) = last_apart text m is ∙ ap (λ xs. front ++ xs) last in
    subst (λ xs. trimmed_end xs ≡ xs) (sym whole) (back_kept front byte (letter_for true byte) (inked byte)) where
      or_true : (b : Bool) → (b || true) ≡ true
      or_true true = refl
      or_true false = refl

pub spelled_trimmed : (text : List ℕ) → trimmed (escaped_text text) ≡ escaped_text text
spelled_trimmed [] = refl
spelled_trimmed (byte ∷ bytes) = ap trimmed_end (starts_inked byte bytes) ∙ ends_inked (byte ∷ bytes) (length bytes) (omega arith)
