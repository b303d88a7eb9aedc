-- Each light without feasible words has a reason.
use Rattle.std.proofs.Common.{◌≡◌, ℕ, zero, suc, ◌<◌, ◌≤◌, true, false, List, length, set, Option, Some, None, refl, sym, ◌∙◌, subst, arith, inl, inr}
use Rattle.std.specs.Prelude.{◌⊎◌, is_some, count_by}
use Rattle.std.proofs.lemmas.Bool.{cases_Bool, cases_eq, false≢true}
use Rattle.xw_search.specs.Position.{Position}
use Rattle.xw_search.specs.Lights.{lacks_words}
use Rattle.xw_fill.specs.Reason.{entry_in, leaves_none, IsPart, no_entries, IsMinimal, IsReason}
use Rattle.xw_fill.proofs.EntryLemmas.{entry_within, IsPart-itself, IsPart-then, IsPart-none, no_entry}
use Rattle.xw_fill.proofs.ReasonLemmas.{IsPart-set, fewer_without}

module _ (position : Position) (light : ℕ) where
  -- the cell has an entry that can be spared
  abbrev IsSpare : List (Option ℕ) → ℕ → Type 0
  IsSpare entries cell = (letter : ℕ) × (entry_in entries cell ≡ Some letter) × (leaves_none position light (set entries cell None) ≡ true)

  -- no entry of the first n cells can be spared
  abbrev AreNeeded : List (Option ℕ) → ℕ → Type 0
  AreNeeded entries n = (cell letter : ℕ) → cell < n → entry_in entries cell ≡ Some letter → leaves_none position light (set entries cell None) ≡ false

  one_more : (entries : List (Option ℕ)) (n : ℕ) → AreNeeded entries n → ((letter : ℕ) → entry_in entries n ≡ Some letter → leaves_none position light (set entries n None) ≡ false) → AreNeeded entries (suc n)
  one_more entries n before here cell letter below h = elim (cases_eq cell n) [
    | inl same ↦ subst (λ k. leaves_none position light (set entries k None) ≡ false) (sym same) (here letter (subst (λ k. entry_in entries k ≡ Some letter) same h))
    | inr apart ↦ before cell letter (omega (arith, below, apart)) h
  ]

  spare_below : (entries : List (Option ℕ)) (n : ℕ) → ((cell : ℕ) × IsSpare entries cell) ⊎ AreNeeded entries n
  spare_below entries zero = inr (λ cell letter below h. absurd (omega (arith, below)))
  spare_below entries (suc n) = elim (spare_below entries n) [
    | inl found ↦ inl found
    | inr before ↦ by_entry before (entry_in entries n) refl (cases_Bool (leaves_none position light (set entries n None)))
  ] where
    by_entry : AreNeeded entries n → (o : Option ℕ) → entry_in entries n ≡ o → (leaves_none position light (set entries n None) ≡ true) ⊎ (leaves_none position light (set entries n None) ≡ false)
        → ((cell : ℕ) × IsSpare entries cell) ⊎ AreNeeded entries (suc n)
    by_entry before None e dead = inr (one_more entries n before (λ letter h. cc))
    by_entry before (Some letter) e (inl dead) = inl (n, (letter, e, dead))
    by_entry before (Some letter) e (inr alive) = inr (one_more entries n before (λ other h. alive))

  -- entries that can be spared are left out as long as there are any
  minimal_part : (n : ℕ) (start entries : List (Option ℕ)) → count_by is_some entries ≤ n → IsPart entries start → leaves_none position light entries ≡ true
      → (found : List (Option ℕ)) × IsPart found start × (leaves_none position light found ≡ true) × IsMinimal position light found
  minimal_part zero start entries few part dead = elim (spare_below entries (length entries)) [
    | inl spare ↦ absurd (omega (arith, few, fewer_without entries spare.0 spare.1.0 spare.1.1))
    | inr needed ↦ (entries, part, dead, λ cell letter h. needed cell letter (entry_within entries cell letter h) h)
  ]
  minimal_part (suc n) start entries few part dead = elim (spare_below entries (length entries)) [
    | inl spare ↦
        let less = fewer_without entries spare.0 spare.1.0 spare.1.1 in
        minimal_part n start (set entries spare.0 None) (omega (arith, few, less)) (IsPart-then start entries (set entries spare.0 None) part (IsPart-set entries spare.0)) spare.1.2
    | inr needed ↦ (entries, part, dead, λ cell letter h. needed cell letter (entry_within entries cell letter h) h)
  ]

  pub reason_exists : lacks_words position light ≡ true → (entries : List (Option ℕ)) × IsReason position light entries
  reason_exists dead = by_empty (cases_Bool (leaves_none position light (no_entries position.board.entries))) where
    by_empty : (leaves_none position light (no_entries position.board.entries) ≡ true) ⊎ (leaves_none position light (no_entries position.board.entries) ≡ false) → (entries : List (Option ℕ)) × IsReason position light entries
    by_empty (inl empty) = (
      no_entries position.board.entries,
      record {
        part = IsPart-none position.board.entries;
        dead = empty;
        minimal = λ cell letter h. let none = no_entry position.board.entries cell in cc;
        least = λ h. refl;
      },
    )
    by_empty (inr alive) =
        let found = minimal_part (count_by is_some position.board.entries) position.board.entries position.board.entries (omega arith) (IsPart-itself position.board.entries) dead in
        (found.0, record { part = found.1; dead = found.2; minimal = found.3; least = λ h. absurd (false≢true (sym alive ∙ h)) })
