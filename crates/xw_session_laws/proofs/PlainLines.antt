-- The lines of a text file without a NUL have none.
use Rattle.std.proofs.Common.{◌≡◌, ℕ, zero, suc, ◌-◌, ◌≤◌, Bool, false, ◌&&◌, List, [], ◌∷◌, ◌++◌, length, length-drop, map, filter, take, drop, refl, sym, subst, arith}
use Rattle.std.specs.Prelude.{◌==◌, nat_lt, nat_eq, slice_index}
use Rattle.std.specs.List.{AllByRecursion, join_with_byte, starts_with}
use Rattle.std.proofs.lemmas.Bool.{cond_both}
use Rattle.bstr.specs.Text.{line_len, lines_of, no_cr, without_terminator}
use Rattle.bstr.proofs.lemmas.LineLemmas.{line_len-bounds, lines-nil, lines-step}
use Rattle.xw_files.specs.Text.Lines.{is_blank, trim_front, before, trim_back, trimmed, is_some_line, without_mark, cut, text_lines}
use Rattle.xw_files.specs.Text.Shape.{is_nul}
use Rattle.xw_files.proofs.TextLemmas.Alls.{all_append}

-- ---- parts of a list

module _ {X : Type 0} (P : X → Type 0) where
  all_taken : (count : ℕ) (xs : List X) → AllByRecursion P xs → AllByRecursion P (take count xs)
  all_taken zero [] all = tt
  all_taken zero (x ∷ xs) all = tt
  all_taken (suc count) [] all = tt
  all_taken (suc count) (x ∷ xs) all = (all.0, all_taken count xs all.1)

  all_dropped : (count : ℕ) (xs : List X) → AllByRecursion P xs → AllByRecursion P (drop count xs)
  all_dropped zero [] all = tt
  all_dropped zero (x ∷ xs) all = all
  all_dropped (suc count) [] all = tt
  all_dropped (suc count) (x ∷ xs) all = all_dropped count xs all.1

  all_filtered : (test : X → Bool) (xs : List X) → AllByRecursion P xs → AllByRecursion P (filter test xs)
  all_filtered test [] all = tt
  all_filtered test (x ∷ xs) all = cond_both (test x) (x ∷ filter test xs) (filter test xs) (AllByRecursion P) (λ _. (all.0, all_filtered test xs all.1)) (λ _. all_filtered test xs all.1)

  all_mapped : (f : X → X) → ((x : X) → P x → P (f x)) → (xs : List X) → AllByRecursion P xs → AllByRecursion P (map f xs)
  all_mapped f each [] all = tt
  all_mapped f each (x ∷ xs) all = (each x all.0, all_mapped f each xs all.1)

  pub all_parts : (xs ys : List X) → AllByRecursion P (xs ++ ys) → AllByRecursion P xs × AllByRecursion P ys
  all_parts [] ys all = (tt, all)
  all_parts (x ∷ xs) ys all = let parts = all_parts xs ys all.1 in ((all.0, parts.0), parts.1)

-- ---- lines without a NUL

abbrev pub IsPlainText : List ℕ → Type 0
IsPlainText text = AllByRecursion (λ byte. is_nul byte ≡ false) text

abbrev pub ArePlainTexts : List (List ℕ) → Type 0
ArePlainTexts texts = AllByRecursion IsPlainText texts

abbrev byte_plain : ℕ → Type 0
byte_plain byte = is_nul byte ≡ false

front_plain : (line : List ℕ) → IsPlainText line → IsPlainText (trim_front line)
front_plain [] plain = tt
front_plain (byte ∷ rest) plain = cond_both (is_blank byte) (trim_front rest) (byte ∷ rest) IsPlainText (λ _. front_plain rest plain.1) (λ _. plain)

before_plain : (byte : ℕ) (rest : List ℕ) → is_nul byte ≡ false → IsPlainText rest → IsPlainText (before byte rest)
before_plain byte [] one plain = cond_both (is_blank byte) [] (byte ∷ []) IsPlainText (λ _. tt) (λ _. (one, tt))
before_plain byte (next ∷ rest) one plain = (one, plain)

back_plain : (line : List ℕ) → IsPlainText line → IsPlainText (trim_back line)
back_plain [] plain = tt
back_plain (byte ∷ rest) plain = before_plain byte (trim_back rest) plain.0 (back_plain rest plain.1)

trimmed_plain : (line : List ℕ) → IsPlainText line → IsPlainText (trimmed line)
trimmed_plain line plain = back_plain (trim_front line) (front_plain line plain)

no_cr_plain : (line : List ℕ) → IsPlainText line → IsPlainText (no_cr line)
no_cr_plain line plain =
    cond_both (nat_lt 0 (length line) && slice_index line (length line - 1) == 13) (take (length line - 1) line) line IsPlainText (λ _. all_taken byte_plain (length line - 1) line plain) (λ _. plain)

unended_plain : (line : List ℕ) → IsPlainText line → IsPlainText (without_terminator line)
unended_plain line plain =
    let less = take (length line - 1) line in
    cond_both (nat_lt 0 (length line) && slice_index line (length line - 1) == 10) (no_cr less) line IsPlainText (λ _. no_cr_plain less (all_taken byte_plain (length line - 1) line plain)) (λ _. plain)

lines_plain : (most : ℕ) (bytes : List ℕ) → length bytes ≤ most → IsPlainText bytes → ArePlainTexts (lines_of bytes)
lines_plain most [] few plain = subst ArePlainTexts (sym lines-nil) tt
lines_plain zero (byte ∷ bytes) few plain = absurd (omega arith)
lines_plain (suc most) (byte ∷ bytes) few plain =
    let all = byte ∷ bytes in
    let long = line_len all in
    let fewer : length (drop long all) ≤ most = omega (arith, (line_len-bounds all (omega arith)).0, length-drop long all) in
    subst ArePlainTexts (sym (lines-step all (omega arith))) (all_taken byte_plain long all plain, lines_plain most (drop long all) fewer (all_dropped byte_plain long all plain))

unmarked_plain : (bytes : List ℕ) → IsPlainText bytes → IsPlainText (without_mark bytes)
unmarked_plain bytes plain = cond_both (starts_with nat_eq bytes (239 ∷ 187 ∷ 191 ∷ [])) (drop 3 bytes) bytes IsPlainText (λ _. all_dropped byte_plain 3 bytes plain) (λ _. plain)

pub text_lines_plain : (bytes : List ℕ) → IsPlainText bytes → ArePlainTexts (text_lines bytes)
text_lines_plain bytes plain =
    let rest = without_mark bytes in
    let raw = lines_plain (length rest) rest (omega arith) (unmarked_plain bytes plain) in
    all_filtered IsPlainText is_some_line (map trimmed (cut rest)) (all_mapped IsPlainText trimmed trimmed_plain (cut rest) (all_mapped IsPlainText without_terminator unended_plain (lines_of rest) raw))

pub joined_plain : (lines : List (List ℕ)) → ArePlainTexts lines → IsPlainText (join_with_byte 10 lines)
joined_plain [] plain = tt
joined_plain (line ∷ []) plain = plain.0
joined_plain (line ∷ next ∷ lines) plain = all_append byte_plain line (10 ∷ join_with_byte 10 (next ∷ lines)) plain.0 (refl, joined_plain (next ∷ lines) plain.1)
