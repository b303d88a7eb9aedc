-- The fault that is returned is the first one of the file.
use Rattle.std.proofs.Common.{◌≡◌, ◌≢◌, ℕ, ◌+◌, ◌<◌, true, false, List, [], ◌∷◌, length, get_or, drop, Some, None, Result, Ok, Err, refl, sym, ap, subst, ◌∙◌, inl, inr, arith}
use Rattle.std.specs.Prelude.{position, IfErr, IfOk}
use Rattle.std.proofs.lemmas.Bool.{cases_Bool, cases_eq, eqb-true, eq-eqb, ne_eqb}
use Rattle.std.proofs.lemmas.List.Quantifiers.{position-Some}
use Rattle.std.proofs.lemmas.Option.{slice_get_within, get_or_from_slice_get, slice_get-get_or}
use Rattle.xw_text.proofs.Position.{position-None}
use Rattle.xw_grid.specs.declared.cell.Cell.{Cell}
use Rattle.xw_grid.specs.declared.cell.Square.{Square}
use Rattle.xw_grid.specs.declared.cell.Direction.{Direction}
use Rattle.xw_grid.specs.declared.cell.Direction.TheVariants.{Across, Down}
use Rattle.xw_grid.specs.Grid.{Grid}
use Rattle.xw_grid.specs.Edit.{grid_of}
use Rattle.xw_grid.specs.Clue.{ClueMap, no_clues}
use Rattle.xw_grid.specs.declared.puzzle.Puzzle.{Puzzle}
use Rattle.xw_grid.specs.Puzzle.{PuzzleShown, puzzle_view}
use Rattle.xw_files.specs.declared.fault.Tag.{Tag}
use Rattle.xw_files.specs.declared.fault.Tag.TheVariants as tags
use Rattle.xw_files.specs.declared.fault.ReadFault.{ReadFault}
use Rattle.xw_files.specs.declared.fault.ReadFault.TheVariants as faults
use Rattle.xw_files.specs.Steps.{GivesOrLacksMemory}
use Rattle.xw_files.specs.Text.Lines.{text_lines}
use Rattle.xw_files.specs.Text.Tag.{name_of, names}
use Rattle.xw_files.specs.Text.Starts.{starts}
use Rattle.xw_files.specs.Text.Shape.{Lines, header_at, tag_at, texts_at, size_at, rows_at, grid_at, clues_at, both_clues_at, notes_at, shape, is_nul, all_of}
use Rattle.xw_files.specs.Text.Faults.{below, count_plain, past_lines, from_size, from_grid, from_across, from_down, from_notes, Lacks, HasOther, HasSize, WithSize, CountsApart, grid_in, LinesHave, HasFault, location_of, within_location, ComesBefore, IsFirstFault, HasNoFault}
use Rattle.xw_files.proofs.TextLemmas.FaultOrder.{IsFirst, NoneBefore, Leads, leads_then, is_single, tag_single, passed, first_at}
use Rattle.xw_files.proofs.TextLemmas.FaultSteps.{true_not_false, header_leads, tag_leads, texts_lead, size_leads, of_size}
use Rattle.xw_files.proofs.TextLemmas.FaultRows.{rows_lead}
use Rattle.xw_files.proofs.TextLemmas.Plains.{cases_option}

-- ---- the grid

-- a size and a grid were read, and what comes next
abbrev pub GridThere : Lines → Grid × Lines → Type 0
GridThere lines x = (width : ℕ) × (height : ℕ) × HasSize (below (from_size lines)) width height × (x.0 ≡ grid_in width height lines) × (x.1 ≡ from_across height lines) × NoneBefore lines (location_of (faults.Tag tags.Across))

grid_leads : (lines at : Lines) → at ≡ from_size lines → NoneBefore lines (location_of (faults.Tag tags.Size)) → Leads lines (GridThere lines) (grid_at at)
unfolding grid_at
grid_leads lines at same none =
    leads_then lines _ (GridThere lines) (tag_at tags.Size at) _ (tag_leads lines tags.Size at (from_size lines) same refl none (λ h. h) (λ h. h)) (λ a p.
    leads_then lines _ (GridThere lines) (size_at a) _ (size_leads lines a p.0 p.1) (λ size q.
    leads_then lines _ (GridThere lines) (tag_at tags.Grid size.1) _ (tag_leads lines tags.Grid size.1 (from_grid lines) q.1 refl q.2 (λ h. h) (λ h. h)) (λ b r.
    leads_then lines _ (GridThere lines) (rows_at size.0.0 1 size.0.1 b) _ (rows_lead lines size.0.0 size.0.1 q.0 b r.0 r.1) (λ rows s.
    (size.0.0, size.0.1, q.0, ap (λ (squares : List Square). grid_of size.0.0 size.0.1 squares) s.1, s.0, s.2)))))

-- ---- the clues

clues_lead_from : (lines under : Lines) (fault : ReadFault) (direction : Direction) (begins : List Cell) (clues : ClueMap) → is_single (location_of fault) ≡ true → (within_location fault).0 ≡ 0 → (within_location fault).1 ≡ 0 → NoneBefore lines (location_of fault)
    → (count_plain under ≢ length begins → LinesHave lines fault) → (LinesHave lines fault → count_plain under ≢ length begins)
    → Leads lines (λ (x : ClueMap × Lines). (x.1 ≡ past_lines under) × NoneBefore lines (location_of fault + 1)) (clues_at fault direction begins clues under)
unfolding clues_at
clues_lead_from lines under fault direction begins clues single row col none has apart =
    elim (cases_eq (count_plain under) (length begins)) [
      | inl same ↦ rw (eq-eqb _ _ same) (ap (λ (n : ℕ). drop n under) (sym same), passed lines fault single none (λ have. apart have same))
      | inr other ↦ rw (ne_eqb _ _ other) (first_at lines fault row col none (has other))
    ]

clues_lead : (lines at under : Lines) (fault : ReadFault) (direction : Direction) (begins : List Cell) (clues : ClueMap) → at ≡ under → is_single (location_of fault) ≡ true → (within_location fault).0 ≡ 0 → (within_location fault).1 ≡ 0 → NoneBefore lines (location_of fault)
    → (count_plain under ≢ length begins → LinesHave lines fault) → (LinesHave lines fault → count_plain under ≢ length begins)
    → Leads lines (λ (x : ClueMap × Lines). (x.1 ≡ past_lines under) × NoneBefore lines (location_of fault + 1)) (clues_at fault direction begins clues at)
clues_lead lines at under fault direction begins clues same single row col none has apart =
    subst (λ t. Leads lines (λ (x : ClueMap × Lines). (x.1 ≡ past_lines under) × NoneBefore lines (location_of fault + 1)) (clues_at fault direction begins clues t)) (sym same)
    (clues_lead_from lines under fault direction begins clues single row col none has apart)

-- the lines have no fault of any location
abbrev AllPassed : Lines → Type 0
AllPassed lines = NoneBefore lines (location_of (faults.Tag tags.Notepad) + 1)

module _ (lines : Lines) (width height : ℕ) (has : HasSize (below (from_size lines)) width height) where
  -- a fault that a size has, and what it says
  there : (P : ℕ → ℕ → Type 0) → P width height → WithSize lines P
  there P p = (width, height, has, p)

  both_lead_from : (at : Lines) → at ≡ from_across height lines → NoneBefore lines (location_of (faults.Tag tags.Across)) → Leads lines (λ (x : ClueMap × Lines). (x.1 ≡ from_notes height lines) × NoneBefore lines (location_of (faults.Tag tags.Notepad))) (both_clues_at (grid_in width height lines) at)
  unfolding both_clues_at
  both_lead_from at same none =
      let grid = grid_in width height lines in
      let Q : ClueMap × Lines → Type 0 = λ x. (x.1 ≡ from_notes height lines) × NoneBefore lines (location_of (faults.Tag tags.Notepad)) in
      let lacks_across : ℕ → ℕ → Type 0 = λ w h. Lacks (name_of tags.Across) (from_across h lines) in
      let lacks_down : ℕ → ℕ → Type 0 = λ w h. Lacks (name_of tags.Down) (from_down h lines) in
      let across : ℕ → ℕ → Type 0 = λ w h. CountsApart Across (grid_in w h lines) (below (from_across h lines)) in
      let down : ℕ → ℕ → Type 0 = λ w h. CountsApart Down (grid_in w h lines) (below (from_down h lines)) in
      leads_then lines _ Q (tag_at tags.Across at) _ (tag_leads lines tags.Across at (from_across height lines) same refl none (there lacks_across) (of_size lines width height lacks_across has)) (λ a p.
      leads_then lines _ Q (clues_at faults.AcrossCount Across (starts grid Across) no_clues a) _
      (clues_lead lines a (below (from_across height lines)) faults.AcrossCount Across (starts grid Across) no_clues p.0 refl refl refl p.1 (there across) (of_size lines width height across has)) (λ x q.
      leads_then lines _ Q (tag_at tags.Down x.1) _ (tag_leads lines tags.Down x.1 (from_down height lines) q.0 refl q.1 (there lacks_down) (of_size lines width height lacks_down has)) (λ b r.
      clues_lead lines b (below (from_down height lines)) faults.DownCount Down (starts grid Down) x.0 r.0 refl refl refl r.1 (there down) (of_size lines width height down has))))

  pub both_lead : (grid : Grid) (at : Lines) → grid ≡ grid_in width height lines → at ≡ from_across height lines → NoneBefore lines (location_of (faults.Tag tags.Across))
      → Leads lines (λ (x : ClueMap × Lines). (x.1 ≡ from_notes height lines) × NoneBefore lines (location_of (faults.Tag tags.Notepad))) (both_clues_at grid at)
  both_lead grid at is same none =
      subst (λ g. Leads lines (λ (x : ClueMap × Lines). (x.1 ≡ from_notes height lines) × NoneBefore lines (location_of (faults.Tag tags.Notepad))) (both_clues_at g at)) (sym is) (both_lead_from at same none)

  notes_lead_from : (notes : Lines) → NoneBefore lines (location_of (faults.Tag tags.Notepad)) → (HasOther (name_of tags.Notepad) notes → LinesHave lines (faults.Tag tags.Notepad)) → (LinesHave lines (faults.Tag tags.Notepad) → HasOther (name_of tags.Notepad) notes)
      → Leads lines (λ (x : List ℕ). AllPassed lines) (notes_at notes)
  unfolding notes_at
  notes_lead_from [] none has_other other = passed lines (faults.Tag tags.Notepad) refl none other
  notes_lead_from (line ∷ rest) none has_other other =
      elim (cases_Bool (names line (name_of tags.Notepad))) [
        | inl is ↦ rw is (passed lines (faults.Tag tags.Notepad) refl none (λ have. true_not_false is (other have)))
        | inr differs ↦ rw differs (first_at lines (faults.Tag tags.Notepad) refl refl none (has_other differs))
      ]

  pub notes_lead : (at : Lines) → at ≡ from_notes height lines → NoneBefore lines (location_of (faults.Tag tags.Notepad)) → Leads lines (λ (x : List ℕ). AllPassed lines) (notes_at at)
  notes_lead at same none =
      let other : ℕ → ℕ → Type 0 = λ w h. HasOther (name_of tags.Notepad) (from_notes h lines) in
      notes_lead_from at none (λ differs. there other (subst (HasOther (name_of tags.Notepad)) same differs)) (λ have. subst (HasOther (name_of tags.Notepad)) (sym same) (of_size lines width height other has have))

-- ---- all of it

shape_leads : (lines : Lines) → Leads lines (λ (x : PuzzleShown). AllPassed lines) (shape lines)
unfolding shape
shape_leads lines =
    let Q : PuzzleShown → Type 0 = λ x. AllPassed lines in
    leads_then lines _ Q (header_at lines) _ (header_leads lines) (λ a p.
    leads_then lines _ Q (texts_at a) _ (texts_lead lines a p.0 p.1) (λ texts q.
    leads_then lines _ Q (grid_at texts.1) _ (grid_leads lines texts.1 q.0 q.1) (λ grid r.
    leads_then lines _ Q (both_clues_at grid.0 grid.1) _ (both_lead lines r.0 r.1 r.2 grid.0 grid.1 r.3 r.4 r.5) (λ clues s.
    leads_then lines _ Q (notes_at clues.1) _ (notes_lead lines r.0 r.1 r.2 clues.1 s.0 s.1) (λ notes t. t)))))

-- lines' faults are the file's, where no byte is NUL
has_of_lines : (bytes : List ℕ) (fault : ReadFault) → LinesHave (text_lines bytes) fault → HasFault bytes fault
has_of_lines bytes (faults.NulByte offset) have = absurd have
has_of_lines bytes fault have = have

lines_of_has : (bytes : List ℕ) (fault : ReadFault) → position is_nul bytes ≡ None → HasFault bytes fault → LinesHave (text_lines bytes) fault
lines_of_has bytes (faults.NulByte offset) none have =
    true_not_false (ap is_nul (get_or_from_slice_get bytes offset 0 0 have)) (position-None is_nul bytes none offset 0 (slice_get_within bytes offset 0 have))
lines_of_has bytes fault none have = have

-- the first NUL is the first fault
nul_is_first : (bytes : List ℕ) (offset : ℕ) → position is_nul bytes ≡ Some offset → IsFirstFault bytes (faults.NulByte offset)
nul_is_first bytes offset is =
    let there = position-Some is_nul bytes offset 0 is in
    (slice_get-get_or bytes offset 0 there.0 ∙ ap (λ (byte : ℕ). Some byte) (eqb-true _ _ there.1), none there.2)
  where
    none : ((k : ℕ) → k < offset → is_nul (get_or bytes k 0) ≡ false) → (earlier : ReadFault) → ComesBefore earlier (faults.NulByte offset) → HasFault bytes earlier → ⊥
    none before earlier (inl sooner) have = absurd (omega (arith, sooner))
    none before (faults.NulByte other) (inr (same, inl lt)) have = true_not_false (ap is_nul (get_or_from_slice_get bytes other 0 0 have)) (before other lt)
    none before (faults.NulByte other) (inr (same, inr both)) have = absurd (omega (arith, both.1))
    none before (faults.Tag tag) (inr both) have = true_not_false (tag_single tag) (ap is_single both.0)
    none before earlier (inr both) have = absurd (omega (arith, both.0))

-- lines without a fault of any location have none
none_of_passed : (lines : Lines) → AllPassed lines → (fault : ReadFault) → LinesHave lines fault → ⊥
none_of_passed lines passed faults.Header have = passed faults.Header (omega arith) have
none_of_passed lines passed (faults.Tag tag) have = passed (faults.Tag tag) (tag_within tag) have
  where
    tag_within : (tag : Tag) → location_of (faults.Tag tag) < location_of (faults.Tag tags.Notepad) + 1
    tag_within tags.Title = omega arith
    tag_within tags.Author = omega arith
    tag_within tags.Copyright = omega arith
    tag_within tags.Size = omega arith
    tag_within tags.Grid = omega arith
    tag_within tags.Across = omega arith
    tag_within tags.Down = omega arith
    tag_within tags.Notepad = omega arith
none_of_passed lines passed faults.SizeLine have = passed faults.SizeLine (omega arith) have
none_of_passed lines passed (faults.GridLine row) have = passed (faults.GridLine row) (omega arith) have
none_of_passed lines passed (faults.BadCell cell) have = passed (faults.BadCell cell) (omega arith) have
none_of_passed lines passed faults.AcrossCount have = passed faults.AcrossCount (omega arith) have
none_of_passed lines passed faults.DownCount have = passed faults.DownCount (omega arith) have
none_of_passed lines passed fault have = have

pub no_fault : (bytes : List ℕ) (puzzle : PuzzleShown) → all_of bytes ≡ Ok puzzle → HasNoFault bytes
unfolding all_of
no_fault bytes puzzle e fault have =
    elim (cases_option (position is_nul bytes)) [
      | inl found ↦ absurd (fails (rw found.1 at e))
      | inr none ↦
          let lines = text_lines bytes in
          let passed : AllPassed lines = subst (Leads lines (λ (x : PuzzleShown). AllPassed lines)) (rw none at e) (shape_leads lines) in
          none_of_passed lines passed fault (lines_of_has bytes fault none have)
    ]
  where
    fails : {X : Type 0} {x : X} {other : ReadFault} → ◌≡◌ {A = Result X ReadFault} (Err other) (Ok x) → ⊥
    fails e = cc

pub is_faultless : (bytes : List ℕ) (result : Result Puzzle ReadFault) → GivesOrLacksMemory puzzle_view result (all_of bytes) → IfOk result (λ _. HasNoFault bytes)
is_faultless bytes (Ok read) given = no_fault bytes (puzzle_view read) given
is_faultless bytes (Err fault) given = tt

pub first_fault : (bytes : List ℕ) (fault : ReadFault) → all_of bytes ≡ Err fault → IsFirstFault bytes fault
unfolding all_of
first_fault bytes fault e =
    elim (cases_option (position is_nul bytes)) [
      | inl found ↦ subst (IsFirstFault bytes) (sym (fault_is (rw found.1 at e))) (nul_is_first bytes found.0 found.1)
      | inr none ↦
          let lines = text_lines bytes in
          let first : IsFirst lines fault = subst (Leads lines (λ (x : PuzzleShown). AllPassed lines)) (rw none at e) (shape_leads lines) in
          (has_of_lines bytes fault first.0, λ earlier before have. first.1 earlier before (lines_of_has bytes earlier none have))
    ]
  where
    fault_is : {X : Type 0} {other : ReadFault} → ◌≡◌ {A = Result X ReadFault} (Err other) (Err fault) → fault ≡ other
    fault_is e = cc

pub is_first : (bytes : List ℕ) (result : Result Puzzle ReadFault) → GivesOrLacksMemory puzzle_view result (all_of bytes) → IfErr result (λ fault. fault ≢ faults.Memory → IsFirstFault bytes fault)
is_first bytes (Ok read) given = tt
is_first bytes (Err fault) given = λ other. first_fault bytes fault (given other)
