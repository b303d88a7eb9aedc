-- The first line of a text, by the position of its first line feed.
use Rattle.std.proofs.Common.{◌≡◌, ℕ, zero, suc, ◌+◌, ◌<◌, true, false, List, [], ◌∷◌, length, get_or, take, drop, sym, ap, ◌∙◌, arith, add-one}
use Rattle.std.specs.Prelude.{Option, Some, None, position}
use Rattle.std.proofs.lemmas.Bool.{cond-true, cond-false, false_from_ne_true}
use Rattle.std.proofs.lemmas.List.Quantifiers.{position-Some}
use Rattle.xw_text.specs.Lines.{is_line_feed, begun, lines_of}
use Rattle.xw_text.proofs.Position.{position-None, position_is_some, position_is_none}
use Rattle.memchr.specs.Find.{IsFirstByte, is_byte}

-- the first byte that is a line feed is at the position of the first line feed
pub first_line_feed : (xs : List ℕ) (found : Option ℕ) → IsFirstByte (is_byte 10) xs found → found ≡ position is_line_feed xs
first_line_feed xs None nowhere = sym (position_is_none is_line_feed xs 0 (λ k lt. false_from_ne_true (is_line_feed (get_or xs k 0)) (nowhere k (omega arith) lt)))
first_line_feed xs (Some end) first = sym (position_is_some is_line_feed xs end 0 first.0.high (λ k lt. false_from_ne_true (is_line_feed (get_or xs k 0)) (first.0.before k (omega arith) lt)) first.1)

-- a line feed ends the first line
lines_at : (xs : List ℕ) (end : ℕ) → end < length xs → is_line_feed (get_or xs end 0) ≡ true → ((k : ℕ) → k < end → is_line_feed (get_or xs k 0) ≡ false) → lines_of xs ≡ take end xs ∷ lines_of (drop (suc end) xs)
lines_at [] end within here before = absurd (omega arith)
lines_at (x ∷ xs) zero within here before = cond-true (is_line_feed x) ([] ∷ lines_of xs) (begun x (lines_of xs)) here
lines_at (x ∷ xs) (suc end) within here before =
    cond-false (is_line_feed x) ([] ∷ lines_of xs) (begun x (lines_of xs)) (before 0 (omega arith))
    ∙ ap (begun x) (lines_at xs end (omega arith) here (λ k lt. before (suc k) (omega arith)))

-- the bytes after the last line feed are one line
lines_whole : (x : ℕ) (xs : List ℕ) → ((k : ℕ) → k < length (x ∷ xs) → is_line_feed (get_or (x ∷ xs) k 0) ≡ false) → lines_of (x ∷ xs) ≡ (x ∷ xs) ∷ []
lines_whole x [] none = cond-false (is_line_feed x) ([] ∷ []) (begun x []) (none 0 (omega arith))
lines_whole x (y ∷ ys) none =
    cond-false (is_line_feed x) ([] ∷ lines_of (y ∷ ys)) (begun x (lines_of (y ∷ ys))) (none 0 (omega arith))
    ∙ ap (begun x) (lines_whole y ys (λ k lt. none (suc k) (omega arith)))

pub first_of_lines : (xs : List ℕ) (end : ℕ) → position is_line_feed xs ≡ Some end → lines_of xs ≡ take end xs ∷ lines_of (drop (end + 1) xs)
first_of_lines xs end found =
    let at = position-Some is_line_feed xs end 0 found in
    rw add-one (lines_at xs end at.0 at.1 at.2)

pub only_line : (xs : List ℕ) → 0 < length xs → position is_line_feed xs ≡ None → lines_of xs ≡ xs ∷ []
only_line [] some none = absurd (omega arith)
only_line (x ∷ xs) some none = lines_whole x xs (λ k lt. position-None is_line_feed (x ∷ xs) none k 0 lt)
