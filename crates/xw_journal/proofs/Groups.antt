-- Lines with groups, read one after another.
use Rattle.std.proofs.Common.{◌≡◌, ◌∙◌, refl, sym, ap, subst, ℕ, ◌≤◌, ◌<◌, ◌+◌, ◌-◌, Bool, true, false, not, List, [], ◌∷◌, ◌++◌, length, take, drop, Some, None, append_assoc, append-nil, arith}
use Rattle.std.specs.Prelude.{◌&&◌, ◌||◌, Option, if◌then◌else◌}
use Rattle.std.specs.Option.{unwrap_or}
use Rattle.std.specs.List.{list_any}
use Rattle.std.proofs.Math.Bool.{or-true, and-false}
use Rattle.std.proofs.lemmas.List.{take-append-drop}
use Rattle.std.proofs.lemmas.List.Folds.{list_any-append}
use Rattle.std.proofs.lemmas.Slice.Eq.{bytes_eq-Decides}
use Rattle.xw_lines.specs.Cut.{Cut, cut, ended_lines, last_line, lines_of, with_lfs, AllHaveNoLf, HasNoLf, EndsLine}
use Rattle.xw_lines.proofs.Cuts.{cut-with_lfs, line-through}
use Rattle.xw_journal.specs.Group.{begin_line, end_line, begins_group, ends_group, is_open, complete, begun_at, open_after}

-- each group of these lines has an end
abbrev pub IsClosed : List (List ℕ) → Type 0
IsClosed lines = (more : List (List ℕ)) → complete (lines ++ more) ≡ lines ++ complete more

pub none_closed : IsClosed []
none_closed more = refl

-- a line that begins no group
plain_first : (line : List ℕ) (more : List (List ℕ)) → begins_group line ≡ false → complete (line ∷ more) ≡ line ∷ complete more
plain_first line more plain = ap (λ t. if t && not (list_any ends_group more) then [] else line ∷ complete more) plain

pub plain_closed : (lines : List (List ℕ)) (line : List ℕ) → IsClosed lines → begins_group line ≡ false → IsClosed (lines ++ line ∷ [])
plain_closed lines line closed plain more =
    ap complete (append_assoc lines (line ∷ []) more) ∙ closed (line ∷ more) ∙ ap (λ xs. lines ++ xs) (plain_first line more plain) ∙ sym (append_assoc lines (line ∷ []) (complete more))

-- an end behind some lines
end_behind : (front rest : List (List ℕ)) → list_any ends_group (front ++ end_line ∷ rest) ≡ true
end_behind front rest = list_any-append ends_group front (end_line ∷ rest) ∙ or-true (list_any ends_group front)

kept_before_end : (front rest : List (List ℕ)) → complete (front ++ end_line ∷ rest) ≡ front ++ end_line ∷ complete rest
kept_before_end [] rest = plain_first end_line rest refl
kept_before_end (line ∷ front) rest =
    ap (λ t. if begins_group line && not t then [] else line ∷ complete (front ++ end_line ∷ rest)) (end_behind front rest)
    ∙ ap (λ t. if t then [] else line ∷ complete (front ++ end_line ∷ rest)) (and-false (begins_group line))
    ∙ ap (λ xs. line ∷ xs) (kept_before_end front rest)

pub ended_closed : (lines : List (List ℕ)) → IsClosed (lines ++ end_line ∷ [])
ended_closed lines more =
    ap complete (append_assoc lines (end_line ∷ []) more) ∙ kept_before_end lines more ∙ sym (append_assoc lines (end_line ∷ []) (complete more))

-- two lists of lines
pub both_closed : (front rest : List (List ℕ)) → IsClosed front → IsClosed rest → IsClosed (front ++ rest)
both_closed front rest a b more =
    ap complete (append_assoc front rest more) ∙ a (rest ++ more) ∙ ap (λ xs. front ++ xs) (b more) ∙ sym (append_assoc front rest (complete more))

-- closed lines are all kept
pub closed_kept : (lines : List (List ℕ)) → IsClosed lines → complete lines ≡ lines
closed_kept lines closed = ap complete (sym (append-nil lines)) ∙ closed [] ∙ append-nil lines

-- a group without an end is not kept
pub open_dropped : (before inside : List (List ℕ)) → IsClosed before → list_any ends_group inside ≡ false → complete (before ++ begin_line ∷ inside) ≡ before
open_dropped before inside closed unended =
    closed (begin_line ∷ inside)
    ∙ ap (λ t. before ++ (if not t then [] else begin_line ∷ complete inside)) unended
    ∙ append-nil before

-- ---- lines read from bytes

-- a group begins behind these lines, at this index, and has no end
pub record IsBegun (bytes : List ℕ) (at : ℕ) (lines : List (List ℕ)) : Type 0 where
  pub before : List (List ℕ)
  pub inside : List (List ℕ)
  pub parts : lines ≡ before ++ begin_line ∷ inside
  pub closed : IsClosed before
  pub unended : list_any ends_group inside ≡ false
  pub there : take at bytes ≡ with_lfs before []
  pub plain : AllHaveNoLf before
  pub within : at ≤ length bytes

abbrev pub IsOpenAt : List ℕ → Option ℕ → List (List ℕ) → Type 0
IsOpenAt bytes None lines = IsClosed lines
IsOpenAt bytes (Some at) lines = IsBegun bytes at lines

-- the bytes before an index are these lines, of which a group may be unended
pub record IsScanned (bytes : List ℕ) (from : ℕ) (unended : Option ℕ) : Type 0 where
  pub lines : List (List ℕ)
  pub there : take from bytes ≡ with_lfs lines []
  pub plain : AllHaveNoLf lines
  pub is_open : IsOpenAt bytes unended lines
  pub within : from ≤ length bytes

pub scanned-none : (bytes : List ℕ) → IsScanned bytes 0 None
scanned-none bytes = record { lines = []; there = refl; plain = tt; is_open = none_closed; within = omega arith }

module _ (bytes : List ℕ) (from end : ℕ) (below : from ≤ end) (within : end < length bytes) (ends : EndsLine bytes from end) where
  abbrev line : List ℕ
  line = take (end - from) (drop from bytes)

  lfs_behind : (lines : List (List ℕ)) (last : List ℕ) → with_lfs (lines ++ last ∷ []) [] ≡ with_lfs lines [] ++ (last ++ 10 ∷ [])
  lfs_behind [] last = refl
  lfs_behind (first ∷ lines) last = ap (λ xs. first ++ 10 ∷ xs) (lfs_behind lines last) ∙ sym (append_assoc first (10 ∷ with_lfs lines []) (last ++ 10 ∷ []))

  one_more : (lines : List (List ℕ)) → take from bytes ≡ with_lfs lines [] → take (end + 1) bytes ≡ with_lfs (lines ++ line ∷ []) []
  one_more lines there =
      sym (line-through [] bytes from end below ends) ∙ append_assoc (take from bytes) line (10 ∷ []) ∙ ap (λ xs. xs ++ (line ++ 10 ∷ [])) there ∙ sym (lfs_behind lines line)

  plain_behind : (lines : List (List ℕ)) → AllHaveNoLf lines → AllHaveNoLf (lines ++ line ∷ [])
  plain_behind [] plain = (ends.0, tt)
  plain_behind (first ∷ lines) plain = (plain.0, plain_behind lines plain.1)

  goes_on : (lines : List (List ℕ)) (at : ℕ) → IsBegun bytes at lines → ends_group line ≡ false → IsBegun bytes at (lines ++ line ∷ [])
  goes_on lines at begun other = record {
    before = begun.before;
    inside = begun.inside ++ line ∷ [];
    parts = ap (λ xs. xs ++ line ∷ []) begun.parts ∙ append_assoc begun.before (begin_line ∷ begun.inside) (line ∷ []);
    closed = begun.closed;
    unended = list_any-append ends_group begun.inside (line ∷ []) ∙ ap (λ t. t || (ends_group line || false)) begun.unended ∙ ap (λ t. t || false) other;
    there = begun.there;
    plain = begun.plain;
    within = begun.within;
  }

  -- the line begins a group
  begins : (lines : List (List ℕ)) → take from bytes ≡ with_lfs lines [] → AllHaveNoLf lines → line ≡ begin_line → (unended : Option ℕ) → IsOpenAt bytes unended lines → IsOpenAt bytes (begun_at unended from) (lines ++ line ∷ [])
  begins lines there plain is None closed = record {
    before = lines;
    inside = [];
    parts = ap (λ l. lines ++ l ∷ []) is;
    closed = closed;
    unended = refl;
    there = there;
    plain = plain;
    within = omega (arith, below, within);
  }
  begins lines there plain is (Some at) begun = goes_on lines at begun (ap ends_group is)

  -- the line neither begins nor ends a group
  between : (lines : List (List ℕ)) → begins_group line ≡ false → ends_group line ≡ false → (unended : Option ℕ) → IsOpenAt bytes unended lines → IsOpenAt bytes unended (lines ++ line ∷ [])
  between lines plain other None closed = plain_closed lines line closed plain
  between lines plain other (Some at) begun = goes_on lines at begun other

  by_tests : (lines : List (List ℕ)) → take from bytes ≡ with_lfs lines [] → AllHaveNoLf lines → (unended : Option ℕ) → IsOpenAt bytes unended lines → (b e : Bool) → begins_group line ≡ b → ends_group line ≡ e
      → IsOpenAt bytes (if b then begun_at unended from else if e then None else unended) (lines ++ line ∷ [])
  by_tests lines there plain unended is_open true e is f = begins lines there plain ((bytes_eq-Decides line begin_line).0 is) unended is_open
  by_tests lines there plain unended is_open false true is f = subst (λ l. IsClosed (lines ++ l ∷ [])) (sym ((bytes_eq-Decides line end_line).0 f)) (ended_closed lines)
  by_tests lines there plain unended is_open false false is f = between lines is f unended is_open

  pub scanned-more : (unended next : Option ℕ) → IsScanned bytes from unended → next ≡ open_after unended from line → IsScanned bytes (end + 1) next
  scanned-more unended next scanned is = record {
    lines = scanned.lines ++ line ∷ [];
    there = one_more scanned.lines scanned.there;
    plain = plain_behind scanned.lines scanned.plain;
    is_open = subst (λ o. IsOpenAt bytes o (scanned.lines ++ line ∷ [])) (sym is) (by_tests scanned.lines scanned.there scanned.plain unended scanned.is_open (begins_group line) (ends_group line) refl refl);
    within = omega (arith, within);
  }

-- ---- all bytes

lfs_then : (lines : List (List ℕ)) (rest : List ℕ) → with_lfs lines [] ++ rest ≡ with_lfs lines rest
lfs_then [] rest = refl
lfs_then (line ∷ lines) rest = append_assoc line (10 ∷ with_lfs lines []) rest ∙ ap (λ xs. line ++ 10 ∷ xs) (lfs_then lines rest)

whole_lines_of : (bytes : List ℕ) (at : ℕ) (lines : List (List ℕ)) → take at bytes ≡ with_lfs lines [] → AllHaveNoLf lines → lines_of (take at bytes) ≡ lines
whole_lines_of bytes at lines there plain = ap lines_of there ∙ ap (λ (c : Cut). c.ended ++ last_line c.rest) (cut-with_lfs lines [] plain tt) ∙ append-nil lines

module _ (bytes : List ℕ) (from : ℕ) (no_lf : HasNoLf (drop from bytes)) where
  ended_are : (lines : List (List ℕ)) → take from bytes ≡ with_lfs lines [] → AllHaveNoLf lines → ended_lines bytes ≡ lines
  ended_are lines there plain =
      ap (λ (c : Cut). c.ended)
      (ap cut (sym (take-append-drop from bytes) ∙ ap (λ xs. xs ++ drop from bytes) there ∙ lfs_then lines (drop from bytes)) ∙ cut-with_lfs lines (drop from bytes) plain no_lf)

  kept_by : (lines : List (List ℕ)) → take from bytes ≡ with_lfs lines [] → AllHaveNoLf lines → (unended : Option ℕ) → IsOpenAt bytes unended lines → lines_of (take (unwrap_or unended from) bytes) ≡ complete lines
  kept_by lines there plain None closed = whole_lines_of bytes from lines there plain ∙ sym (closed_kept lines closed)
  kept_by lines there plain (Some at) begun =
      whole_lines_of bytes at begun.before begun.there begun.plain ∙ sym (open_dropped begun.before begun.inside begun.closed begun.unended) ∙ ap complete (sym begun.parts)

  kept_text : (lines : List (List ℕ)) → take from bytes ≡ with_lfs lines [] → (unended : Option ℕ) → IsOpenAt bytes unended lines → take (unwrap_or unended from) bytes ≡ with_lfs (complete lines) []
  kept_text lines there None closed = there ∙ ap (λ ls. with_lfs ls []) (sym (closed_kept lines closed))
  kept_text lines there (Some at) begun =
      begun.there ∙ ap (λ ls. with_lfs ls []) (sym (open_dropped begun.before begun.inside begun.closed begun.unended) ∙ ap complete (sym begun.parts))

  pub scanned-bytes : (unended : Option ℕ) → IsScanned bytes from unended → take (unwrap_or unended from) bytes ≡ with_lfs (complete (ended_lines bytes)) []
  scanned-bytes unended scanned =
      kept_text scanned.lines scanned.there unended scanned.is_open ∙ ap (λ ls. with_lfs (complete ls) []) (sym (ended_are scanned.lines scanned.there scanned.plain))

  pub scanned-kept : (unended : Option ℕ) → IsScanned bytes from unended → lines_of (take (unwrap_or unended from) bytes) ≡ complete (ended_lines bytes)
  scanned-kept unended scanned =
      kept_by scanned.lines scanned.there scanned.plain unended scanned.is_open ∙ ap complete (sym (ended_are scanned.lines scanned.there scanned.plain))
