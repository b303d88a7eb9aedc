-- Each part of reading returns the first fault if it fails.
use Rattle.std.proofs.Common.{◌≡◌, ℕ, ◌+◌, Bool, true, false, List, [], ◌∷◌, Option, Some, None, Result, Ok, Err, refl, sym, ap, subst, ◌∙◌, inl, inr}
use Rattle.std.proofs.lemmas.Bool.{cases_Bool, cond-false}
use Rattle.xw_files.specs.declared.fault.Tag.{Tag}
use Rattle.xw_files.specs.declared.fault.Tag.TheVariants as tags
use Rattle.xw_files.specs.declared.fault.ReadFault.{ReadFault}
use Rattle.xw_files.specs.declared.fault.ReadFault.TheVariants as faults
use Rattle.xw_files.specs.Text.Tag.{header, name_of, names, is_tag_line}
use Rattle.xw_grid.specs.Puzzle.{TextsShown}
use Rattle.xw_files.specs.Text.Shape.{Lines, header_at, tag_at, plain_at, text_at, texts_at, sized, size_at, sides_of}
use Rattle.xw_files.specs.Text.Relation.{IsPlain, IsSizeLine}
use Rattle.xw_files.specs.Text.Faults.{below, past_line, from_title, from_author, from_copyright, from_size, from_grid, Lacks, HasSize, WithSize, LinesHave, location_of}
use Rattle.xw_files.proofs.TextLemmas.FaultOrder.{IsFirst, NoneBefore, Leads, leads_then, is_single, passed, first_at, none_at_first}
use Rattle.xw_files.proofs.TextLemmas.Sizes.{sides_line, line_sides}

pub true_not_false : {b : Bool} → b ≡ true → b ≡ false → ⊥
true_not_false is isnt = cc

-- ---- the header and the tags

pub header_leads : (lines : Lines) → Leads lines (λ rest. (rest ≡ from_title lines) × NoneBefore lines (location_of (faults.Tag tags.Title))) (header_at lines)
unfolding header_at
header_leads [] = first_at [] faults.Header refl refl (none_at_first []) tt
header_leads (line ∷ rest) =
    let lines = line ∷ rest in
    elim (cases_Bool (names line header)) [
      | inl is ↦ rw is (refl, passed lines faults.Header refl (none_at_first lines) (true_not_false is))
      | inr other ↦ rw other (first_at lines faults.Header refl refl (none_at_first lines) other)
    ]

module _ (lines : Lines) (tag : Tag) where
  abbrev After : Lines → Lines → Type 0
  After from rest = (rest ≡ below from) × NoneBefore lines (location_of (faults.Tag tag) + 1)

  tag_leads_from : (from : Lines) → is_single (location_of (faults.Tag tag)) ≡ true → NoneBefore lines (location_of (faults.Tag tag))
      → (Lacks (name_of tag) from → LinesHave lines (faults.Tag tag)) → (LinesHave lines (faults.Tag tag) → Lacks (name_of tag) from) → Leads lines (After from) (tag_at tag from)
  unfolding tag_at
  tag_leads_from [] single none has lacks = first_at lines (faults.Tag tag) refl refl none (has tt)
  tag_leads_from (line ∷ rest) single none has lacks =
      elim (cases_Bool (names line (name_of tag))) [
        | inl is ↦ rw is (refl, passed lines (faults.Tag tag) single none (λ have. true_not_false is (lacks have)))
        | inr other ↦ rw other (first_at lines (faults.Tag tag) refl refl none (has other))
      ]

  pub tag_leads : (at from : Lines) → at ≡ from → is_single (location_of (faults.Tag tag)) ≡ true → NoneBefore lines (location_of (faults.Tag tag))
      → (Lacks (name_of tag) from → LinesHave lines (faults.Tag tag)) → (LinesHave lines (faults.Tag tag) → Lacks (name_of tag) from) → Leads lines (After from) (tag_at tag at)
  tag_leads at from same single none has lacks = subst (λ t. Leads lines (After from) (tag_at tag t)) (sym same) (tag_leads_from from single none has lacks)

-- ---- the texts

past_is : (lines : Lines) → (plain_at lines).1 ≡ past_line lines
past_is [] = refl
past_is (line ∷ rest) = elim (cases_Bool (is_tag_line line)) [ inl tagged ↦ rw tagged refl | inr plain ↦ rw plain refl ]

pub texts_lead : (lines at : Lines) → at ≡ from_title lines → NoneBefore lines (location_of (faults.Tag tags.Title)) → Leads lines (λ (x : TextsShown × Lines). (x.1 ≡ from_size lines) × NoneBefore lines (location_of (faults.Tag tags.Size))) (texts_at at)
unfolding texts_at text_at
texts_lead lines at same none =
    leads_then lines _ _ (tag_at tags.Title at) _ (tag_leads lines tags.Title at (from_title lines) same refl none (λ h. h) (λ h. h)) (λ a p.
    leads_then lines _ _ (tag_at tags.Author (plain_at a).1) _ (tag_leads lines tags.Author (plain_at a).1 (from_author lines) (past_is a ∙ ap past_line p.0) refl p.1 (λ h. h) (λ h. h)) (λ b q.
    leads_then lines _ _ (tag_at tags.Copyright (plain_at b).1) _ (tag_leads lines tags.Copyright (plain_at b).1 (from_copyright lines) (past_is b ∙ ap past_line q.0) refl q.1 (λ h. h) (λ h. h)) (λ c r.
    (past_is c ∙ ap past_line r.0, r.1))))

-- ---- the size

-- a size line comes first, or the fault is that none does
abbrev FindsSize : Lines → Result ((ℕ × ℕ) × Lines) ReadFault → Type 0
FindsSize under (Ok x) = HasSize under x.0.0 x.0.1 × (x.1 ≡ past_line under)
FindsSize under (Err fault) = (fault ≡ faults.SizeLine) × ((width height : ℕ) → HasSize under width height → ⊥)

some_is : {A : Type 0} (x y : A) → Some x ≡ Some y → x ≡ y
some_is x y e = cc

sized_finds : (line : List ℕ) (rest : Lines) (sides : Option (ℕ × ℕ)) → IsPlain line → sides_of line ≡ sides → FindsSize (line ∷ rest) (sized sides rest)
sized_finds line rest None plain none = (refl, λ width height has. some_none (sym (line_sides line width height (subst (IsSizeLine width height) (some_is _ _ (sym has.first)) has.size)) ∙ none))
  where
    some_none : {A : Type 0} {x : A} → Some x ≡ None → ⊥
    some_none e = cc
sized_finds line rest (Some sides) plain is = (record { line = line; first = refl; plain = plain; size = sides_line line sides.0 sides.1 is }, sym (cond-false _ _ _ plain))

size_finds : (under : Lines) → FindsSize under (size_at under)
unfolding size_at
size_finds [] = (refl, λ width height has. absurd (none_some has.first))
  where
    none_some : {A : Type 0} {x : A} → None ≡ Some x → ⊥
    none_some e = cc
size_finds (line ∷ rest) =
    elim (cases_Bool (is_tag_line line)) [
      | inl tagged ↦ subst (FindsSize (line ∷ rest)) (sym (tagged_fails tagged)) (refl, λ width height has. true_not_false (ap is_tag_line (some_is _ _ (sym has.first)) ∙ tagged) has.plain)
      | inr plain ↦ subst (FindsSize (line ∷ rest)) (sym (plain_goes_on plain)) (sized_finds line rest (sides_of line) plain refl)
    ]
  where
    tagged_fails : is_tag_line line ≡ true → size_at (line ∷ rest) ≡ Err faults.SizeLine
    tagged_fails tagged = rw tagged refl

    plain_goes_on : is_tag_line line ≡ false → size_at (line ∷ rest) ≡ sized (sides_of line) rest
    plain_goes_on plain = rw plain refl

size_found : (lines : Lines) (r : Result ((ℕ × ℕ) × Lines) ReadFault) → FindsSize (below (from_size lines)) r → NoneBefore lines (location_of faults.SizeLine)
    → Leads lines (λ x. HasSize (below (from_size lines)) x.0.0 x.0.1 × (x.1 ≡ from_grid lines) × NoneBefore lines (location_of (faults.Tag tags.Grid))) r
size_found lines (Ok x) found none = (found.0, found.1, passed lines faults.SizeLine refl none (λ none_there. none_there x.0.0 x.0.1 found.0))
size_found lines (Err fault) found none = subst (IsFirst lines) (sym found.0) (first_at lines faults.SizeLine refl refl none found.1)

pub size_leads : (lines at : Lines) → at ≡ below (from_size lines) → NoneBefore lines (location_of faults.SizeLine)
    → Leads lines (λ x. HasSize (below (from_size lines)) x.0.0 x.0.1 × (x.1 ≡ from_grid lines) × NoneBefore lines (location_of (faults.Tag tags.Grid))) (size_at at)
size_leads lines at same none = size_found lines (size_at at) (subst (λ t. FindsSize t (size_at at)) same (size_finds at)) none

-- there is one size
pub one_size : (under : Lines) (width height w h : ℕ) → HasSize under width height → HasSize under w h → (w ≡ width) × (h ≡ height)
one_size under width height w h one other =
    let same : other.line ≡ one.line = some_is _ _ (sym other.first ∙ one.first) in
    let sides : (w, h) ≡ (width, height) = some_is (w, h) (width, height) (sym (line_sides other.line w h other.size) ∙ ap sides_of same ∙ line_sides one.line width height one.size) in
    (ap (λ (p : ℕ × ℕ). p.0) sides, ap (λ (p : ℕ × ℕ). p.1) sides)

-- what holds of the size holds of these numbers
pub of_size : (lines : Lines) (width height : ℕ) (P : ℕ → ℕ → Type 0) → HasSize (below (from_size lines)) width height → WithSize lines P → P width height
of_size lines width height P has with =
    let same = one_size (below (from_size lines)) width height with.0 with.1 has with.2 in
    subst (λ w. P w height) same.0 (subst (λ h. P with.0 h) same.1 with.3)
