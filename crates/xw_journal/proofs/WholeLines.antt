-- The lines of a text that end with an LF.
use Rattle.std.proofs.Common.{◌≡◌, ◌≢◌, ◌∙◌, ◌⊎◌, ◌<◌, ◌+◌, ◌++◌, inl, inr, ap, sym, subst, ℕ, List, [], ◌∷◌, take, take-add, drop, get_or, length, append-nil}
use Rattle.std.proofs.lemmas.List.{drop_more, take-append-drop}
use Rattle.xw_lines.specs.Cut.{Cut, HasNoLf, cut, ended_lines, last_line, last_piece, lines_of}
use Rattle.xw_lines.proofs.Cuts.{cut-at_lf, cut-longer_by}

-- one more byte without an LF
pub no_lf_from : (bytes : List ℕ) (k : ℕ) → k < length bytes → get_or bytes k 0 ≢ 10 → HasNoLf (drop (k + 1) bytes) → HasNoLf (drop k bytes)
no_lf_from bytes k within other no_lf = subst HasNoLf (sym (drop_more bytes k 0 within)) (other, no_lf)

-- the text up to an LF, with it
through_lf : (bytes : List ℕ) (k : ℕ) → k < length bytes → get_or bytes k 0 ≡ 10 → take (k + 1) bytes ≡ take k bytes ++ 10 ∷ []
through_lf bytes k within lf =
    take-add k 1 bytes ∙ ap (λ xs. take k bytes ++ take 1 xs) (drop_more bytes k 0 within ∙ ap (λ b. b ∷ drop (k + 1) bytes) lf)

-- nothing follows the last LF of a text that is empty or ends with one
no_piece : (bytes : List ℕ) (end : ℕ) → (end ≡ 0) ⊎ ((k : ℕ) × (end ≡ k + 1) × (k < length bytes) × (get_or bytes k 0 ≡ 10)) → last_piece (take end bytes) ≡ []
no_piece bytes end (inl none) = ap (λ n. last_piece (take n bytes)) none
no_piece bytes end (inr (k, is, within, lf)) =
    ap (λ n. last_piece (take n bytes)) is ∙ ap last_piece (through_lf bytes k within lf) ∙ ap (λ (c : Cut). c.rest) (cut-at_lf (take k bytes) [])

-- the split of a text, from that of its front
parts : (bytes : List ℕ) (end : ℕ) → HasNoLf (drop end bytes) → cut bytes ≡ record { ended = ended_lines (take end bytes); rest = last_piece (take end bytes) ++ drop end bytes }
parts bytes end no_lf = ap cut (sym (take-append-drop end bytes)) ∙ cut-longer_by (take end bytes) (drop end bytes) no_lf

pub whole_lines : (bytes : List ℕ) (end : ℕ) → HasNoLf (drop end bytes) → (end ≡ 0) ⊎ ((k : ℕ) × (end ≡ k + 1) × (k < length bytes) × (get_or bytes k 0 ≡ 10)) → lines_of (take end bytes) ≡ ended_lines bytes
whole_lines bytes end no_lf ends =
    ap (λ piece. ended_lines (take end bytes) ++ last_line piece) (no_piece bytes end ends) ∙ append-nil _ ∙ sym (ap (λ (c : Cut). c.ended) (parts bytes end no_lf))

pub rest_of : (bytes : List ℕ) (end : ℕ) → HasNoLf (drop end bytes) → (end ≡ 0) ⊎ ((k : ℕ) × (end ≡ k + 1) × (k < length bytes) × (get_or bytes k 0 ≡ 10)) → bytes ≡ take end bytes ++ last_piece bytes
rest_of bytes end no_lf ends =
    let rest : last_piece bytes ≡ drop end bytes = ap (λ (c : Cut). c.rest) (parts bytes end no_lf) ∙ ap (λ piece. piece ++ drop end bytes) (no_piece bytes end ends) in
    sym (take-append-drop end bytes) ∙ ap (λ xs. take end bytes ++ xs) (sym rest)
