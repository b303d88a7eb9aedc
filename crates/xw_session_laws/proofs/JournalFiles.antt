-- The file of a journal that was cut.
use Rattle.std.proofs.Common.{◌≡◌, ℕ, ◌+◌, true, codes, suc, List, ◌∷◌, ◌++◌, length, take, refl, sym, ◌∙◌, ap, inl, inr, arith}
use Rattle.std.specs.Prelude.{◌⊎◌, ◌&&◌, bytes_eq, nat_lt}
use Rattle.std.proofs.lemmas.Bool.{lt-ltb}
use Rattle.std.proofs.Math.Seq.{take-append_seam}
use Rattle.std.proofs.lemmas.List.{length-append}
use Rattle.std.proofs.lemmas.Slice.Eq.{bytes_eq-Decides}
use Rattle.xw_grid.specs.Grid.{IsGrid}
use Rattle.xw_lines.specs.Cut.{ended_lines, AllHaveNoLf}
use Rattle.xw_session.specs.State.{SessionState}
use Rattle.xw_journal.specs.File.{first_line, is_part, kept_lines}
use Rattle.xw_journal.specs.Group.{complete}
use Rattle.xw_session_laws.specs.Replay.{replayed_lines}
use Rattle.xw_session_laws.specs.Journals.{IsJournaled, KeepsFirstLines, JournalFilesAreCutAtLines}
use Rattle.xw_session_laws.proofs.JournalCut.{fronts, journal_cut}

part_of : (whole front tail : List ℕ) (next : ℕ) → whole ≡ front ++ next ∷ tail → (bytes_eq front (take (length front) whole) && nat_lt (length front) (length whole)) ≡ true
part_of whole front tail next e =
    let same : front ≡ take (length front) whole = sym (ap (take (length front)) e ∙ take-append_seam front (next ∷ tail)) in
    let long : length whole ≡ length front + suc (length tail) = ap length e ∙ length-append front (next ∷ tail) in
    ap (λ t. t && nat_lt (length front) (length whole)) ((bytes_eq-Decides front (take (length front) whole)).1 same) ∙ lt-ltb (length front) (length whole) (omega (arith, long))

-- the lines after the first one
kept_behind : (front : List ℕ) → kept_lines (first_line ++ front) ≡ codes "# xw session 1" ∷ complete (ended_lines front)
kept_behind front = refl

module _ (start end : SessionState) (lines : List (List ℕ)) (journal front rest : List ℕ) (is : IsGrid start.engine.grid) (plain : AllHaveNoLf lines) (done : IsJournaled start lines journal end) where
  keeps : (behind : List ℕ) → front ≡ first_line ++ behind → journal ≡ behind ++ rest → KeepsFirstLines start lines journal end front
  keeps behind front-is parts =
      let are = journal_cut start end lines journal behind rest is plain done parts in
      record {
        first = complete (ended_lines behind);
        are = are;
        again = ap (λ file. replayed_lines start (kept_lines file)) front-is ∙ are.again;
      }

  by_fronts : ((next : ℕ) × (tail : List ℕ) × (first_line ≡ front ++ next ∷ tail)) ⊎ ((behind : List ℕ) × (front ≡ first_line ++ behind) × (journal ≡ behind ++ rest))
      → (is_part front ≡ true) ⊎ KeepsFirstLines start lines journal end front
  by_fronts (inl (next, tail, e)) = inl (part_of first_line front tail next e)
  by_fronts (inr (behind, front-is, parts)) = inr (keeps behind front-is parts)

pub file_cut : JournalFilesAreCutAtLines
file_cut start end lines journal front rest is plain done parts = by_fronts start end lines journal front rest is plain done (fronts first_line journal front rest parts)
