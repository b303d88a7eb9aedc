-- Reading in steps: the first step that fails returns the first fault.
use Rattle.std.proofs.Common.{◌≡◌, ℕ, ◌+◌, ◌<◌, ◌⊎◌, Bool, true, not, ◌&&◌, cond, eqb, leb, Result, Ok, Err, refl, sym, ap, subst, ◌∙◌, inl, inr, arith}
use Rattle.std.proofs.lemmas.Bool.{cases_eq}
use Rattle.xw_files.specs.declared.fault.Tag.{Tag}
use Rattle.xw_files.specs.declared.fault.Tag.TheVariants as tags
use Rattle.xw_files.specs.declared.fault.ReadFault.{ReadFault}
use Rattle.xw_files.specs.declared.fault.ReadFault.TheVariants as faults
use Rattle.xw_files.specs.Steps.{◌>>=◌}
use Rattle.xw_files.specs.Text.Shape.{Lines}
use Rattle.xw_files.specs.Text.Faults.{LinesHave, location_of, within_location, ComesBefore}

-- lines have a fault, and none that comes before it
abbrev pub IsFirst : Lines → ReadFault → Type 0
IsFirst lines fault = LinesHave lines fault × ((earlier : ReadFault) → ComesBefore earlier fault → LinesHave lines earlier → ⊥)

-- lines have no fault of an earlier location
abbrev pub NoneBefore : Lines → ℕ → Type 0
NoneBefore lines location = (earlier : ReadFault) → location_of earlier < location → LinesHave lines earlier → ⊥

-- a step gives what has this property, or the first fault
abbrev pub Leads : {A : Type 0} → Lines → (A → Type 0) → Result A ReadFault → Type 0
Leads lines P (Ok x) = P x
Leads lines P (Err fault) = IsFirst lines fault

pub leads_then : {A B : Type 0} (lines : Lines) (P : A → Type 0) (Q : B → Type 0) (r : Result A ReadFault) (f : A → Result B ReadFault) → Leads lines P r → ((x : A) → P x → Leads lines Q (f x)) → Leads lines Q (r >>= f)
leads_then lines P Q (Ok x) f led more = more x led
leads_then lines P Q (Err fault) f led more = led

-- ---- locations with one fault

-- the fault of a location that has no other
abbrev fault_at : ℕ → ReadFault
fault_at location =
    cond (eqb location (location_of faults.Header)) faults.Header
    (cond (eqb location (location_of (faults.Tag tags.Title))) (faults.Tag tags.Title)
    (cond (eqb location (location_of (faults.Tag tags.Author))) (faults.Tag tags.Author)
    (cond (eqb location (location_of (faults.Tag tags.Copyright))) (faults.Tag tags.Copyright)
    (cond (eqb location (location_of (faults.Tag tags.Size))) (faults.Tag tags.Size)
    (cond (eqb location (location_of faults.SizeLine)) faults.SizeLine
    (cond (eqb location (location_of (faults.Tag tags.Grid))) (faults.Tag tags.Grid)
    (cond (eqb location (location_of (faults.Tag tags.Across))) (faults.Tag tags.Across)
    (cond (eqb location (location_of faults.AcrossCount)) faults.AcrossCount
    (cond (eqb location (location_of (faults.Tag tags.Down))) (faults.Tag tags.Down)
    (cond (eqb location (location_of faults.DownCount)) faults.DownCount (faults.Tag tags.Notepad)))))))))))

abbrev pub is_single : ℕ → Bool
is_single location = (leb 1 location && leb location 13) && not (eqb location 8)

-- each tag has a location of its own
pub tag_single : (tag : Tag) → is_single (location_of (faults.Tag tag)) ≡ true
tag_single tags.Title = refl
tag_single tags.Author = refl
tag_single tags.Copyright = refl
tag_single tags.Size = refl
tag_single tags.Grid = refl
tag_single tags.Across = refl
tag_single tags.Down = refl
tag_single tags.Notepad = refl

decoded : (fault : ReadFault) → is_single (location_of fault) ≡ true → fault_at (location_of fault) ≡ fault
decoded faults.Header single = refl
decoded (faults.Tag tags.Title) single = refl
decoded (faults.Tag tags.Author) single = refl
decoded (faults.Tag tags.Copyright) single = refl
decoded (faults.Tag tags.Size) single = refl
decoded faults.SizeLine single = refl
decoded (faults.Tag tags.Grid) single = refl
decoded (faults.Tag tags.Across) single = refl
decoded faults.AcrossCount single = refl
decoded (faults.Tag tags.Down) single = refl
decoded faults.DownCount single = refl
decoded (faults.Tag tags.Notepad) single = refl
decoded fault single = absurd cc

pub alone : (one other : ReadFault) → is_single (location_of one) ≡ true → location_of other ≡ location_of one → other ≡ one
alone one other single same = sym (decoded other (ap is_single same ∙ single)) ∙ ap fault_at same ∙ decoded one single

-- the next location has a fault no more than those before it
pub passed : (lines : Lines) (fault : ReadFault) → is_single (location_of fault) ≡ true → NoneBefore lines (location_of fault) → (LinesHave lines fault → ⊥) → NoneBefore lines (location_of fault + 1)
passed lines fault single none lacks earlier lt have =
    elim (cases_eq (location_of earlier) (location_of fault)) [
      | inl same ↦ lacks (subst (LinesHave lines) (alone fault earlier single same) have)
      | inr apart ↦ none earlier (omega (arith, lt, apart)) have
    ]

pub first_at : (lines : Lines) (fault : ReadFault) → (within_location fault).0 ≡ 0 → (within_location fault).1 ≡ 0 → NoneBefore lines (location_of fault) → LinesHave lines fault → IsFirst lines fault
first_at lines fault row col none have = (
  have,
  λ earlier before. elim before [
    | inl lt ↦ none earlier lt
    | inr same ↦ absurd (not_within same.1)
  ],
)
  where
    not_within : {a b : ℕ} → (a < (within_location fault).0) ⊎ ((a ≡ (within_location fault).0) × (b < (within_location fault).1)) → ⊥
    not_within (inl lt) = omega (arith, row, lt)
    not_within (inr both) = omega (arith, col, both.1)

-- no lines have a fault of bytes
pub none_at_first : (lines : Lines) → NoneBefore lines 1
none_at_first lines (faults.NulByte offset) lt have = have
none_at_first lines (faults.Tag tag) lt have = absurd (tag_later tag lt)
  where
    tag_later : (tag : Tag) → location_of (faults.Tag tag) < 1 → ⊥
    tag_later tags.Title lt = omega (arith, lt)
    tag_later tags.Author lt = omega (arith, lt)
    tag_later tags.Copyright lt = omega (arith, lt)
    tag_later tags.Size lt = omega (arith, lt)
    tag_later tags.Grid lt = omega (arith, lt)
    tag_later tags.Across lt = omega (arith, lt)
    tag_later tags.Down lt = omega (arith, lt)
    tag_later tags.Notepad lt = omega (arith, lt)
none_at_first lines fault lt have = absurd (omega (arith, lt))
