-- The lines of a text are its pieces between line feeds.
use Rattle.std.proofs.Common.{◌≡◌, ℕ, List, [], ◌∷◌, ◌++◌, refl, ap, ◌∙◌}
use Rattle.std.proofs.lemmas.Bool.{cond-false, ne_eqb}
use Rattle.xw_text.specs.Lines.{HasNoLf, AllHaveNoLf, with_lfs, last_line, is_line_feed, begun, lines_of}

-- a line feed ends the first line
lines_of-ended : (line bytes : List ℕ) → HasNoLf line → lines_of (line ++ 10 ∷ bytes) ≡ line ∷ lines_of bytes
lines_of-ended [] bytes none = refl
lines_of-ended (b ∷ line) bytes none =
    cond-false (is_line_feed b) ([] ∷ lines_of (line ++ 10 ∷ bytes)) (begun b (lines_of (line ++ 10 ∷ bytes))) (ne_eqb b 10 none.0)
    ∙ ap (begun b) (lines_of-ended line bytes none.1)

-- the bytes after the last line feed are one line, unless they are empty
lines_of-rest : (rest : List ℕ) → HasNoLf rest → lines_of rest ≡ last_line rest
lines_of-rest [] none = refl
lines_of-rest (b ∷ []) none = cond-false (is_line_feed b) ([] ∷ []) (begun b []) (ne_eqb b 10 none.0)
lines_of-rest (b ∷ c ∷ rest) none =
    cond-false (is_line_feed b) ([] ∷ lines_of (c ∷ rest)) (begun b (lines_of (c ∷ rest))) (ne_eqb b 10 none.0)
    ∙ ap (begun b) (lines_of-rest (c ∷ rest) none.1)

pub lines_of-with_lfs : (lines : List (List ℕ)) (rest : List ℕ) → AllHaveNoLf lines → HasNoLf rest → lines_of (with_lfs lines rest) ≡ lines ++ last_line rest
lines_of-with_lfs [] rest lines_none none = lines_of-rest rest none
lines_of-with_lfs (line ∷ lines) rest lines_none none =
    lines_of-ended line (with_lfs lines rest) lines_none.0 ∙ ap (λ all. line ∷ all) (lines_of-with_lfs lines rest lines_none.1 none)
