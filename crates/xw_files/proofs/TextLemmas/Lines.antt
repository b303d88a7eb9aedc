-- Trimming byte by byte, and the lines without the blank ones.
use Rattle.std.proofs.Common.{◌≡◌, ℕ, zero, suc, ◌+◌, ◌-◌, ◌<◌, true, false, List, [], ◌∷◌, ◌++◌, length, get_or, take, drop, refl, ap, arith}
use Rattle.std.proofs.lemmas.Bool.{cond-true, cond-false}
use Rattle.std.specs.List.{flat_map, join_with_byte}
use Rattle.std.proofs.lemmas.List.{append-nil}
use Rattle.xw_files.specs.Text.Lines.{is_blank, trim_front, before, trim_back}

pub trim_front-blank : (line : List ℕ) → 0 < length line → is_blank (get_or line 0 0) ≡ true → trim_front line ≡ trim_front (drop 1 line)
trim_front-blank [] some blank = absurd (omega arith)
trim_front-blank (byte ∷ rest) some blank = cond-true _ _ _ blank

pub trim_front-none : (line : List ℕ) → is_blank (get_or line 0 0) ≡ false → trim_front line ≡ line
trim_front-none [] other = refl
trim_front-none (byte ∷ rest) other = cond-false _ _ _ other

back-blank : (line : List ℕ) (last : ℕ) → last + 1 ≡ length line → is_blank (get_or line last 0) ≡ true → trim_back line ≡ trim_back (take last line)
back-blank [] last end blank = absurd (omega arith)
back-blank (byte ∷ []) zero end blank = cond-true _ _ _ blank
back-blank (byte ∷ []) (suc last) end blank = absurd (omega arith)
back-blank (byte ∷ next ∷ rest) zero end blank = absurd (omega arith)
back-blank (byte ∷ next ∷ rest) (suc last) end blank = ap (before byte) (back-blank (next ∷ rest) last (omega arith) blank)

pub trim_back-blank : (line : List ℕ) → 0 < length line → is_blank (get_or line (length line - 1) 0) ≡ true → trim_back line ≡ trim_back (take (length line - 1) line)
trim_back-blank line some blank = back-blank line (length line - 1) (omega arith) blank

back-none : (line : List ℕ) (last : ℕ) → last + 1 ≡ length line → is_blank (get_or line last 0) ≡ false → trim_back line ≡ line
back-none [] last end other = refl
back-none (byte ∷ []) zero end other = cond-false _ _ _ other
back-none (byte ∷ []) (suc last) end other = absurd (omega arith)
back-none (byte ∷ next ∷ rest) zero end other = absurd (omega arith)
back-none (byte ∷ next ∷ rest) (suc last) end other = ap (before byte) (back-none (next ∷ rest) last (omega arith) other)

pub trim_back-none : (line : List ℕ) → 0 < length line → is_blank (get_or line (length line - 1) 0) ≡ false → trim_back line ≡ line
trim_back-none line some other = back-none line (length line - 1) (omega arith) other

-- lines joined by LF: the first line, and then an LF before each other line
pub joined_is : (line : List ℕ) (lines : List (List ℕ)) → line ++ flat_map (λ other. 10 ∷ other) lines ≡ join_with_byte 10 (line ∷ lines)
joined_is line [] = append-nil line
joined_is line (next ∷ lines) = ap (λ (rest : List ℕ). line ++ (10 ∷ rest)) (joined_is next lines)
