-- Keeping a row before it changes, and giving it back.
use Rattle.std.proofs.Common.{◌≡◌, ℕ, ◌<◌, List, [], ◌∷◌, ◌++◌, length, set, sym, ap, subst, ◌∙◌, inl, inr, arith}
use Rattle.std.proofs.lemmas.Bool.{cases_eq}
use Rattle.std.proofs.lemmas.List.{length-set}
use Rattle.std.proofs.lemmas.List.Elements.{Contains-append_left, Contains-push, Contains-push_cases}
use Rattle.xw_bits.specs.Bits.{RowOfBits}
use Rattle.xw_net.specs.Spread.{bits_in, OtherRowsStay}
use Rattle.xw_net.specs.Level.{HasKept, IsRowOf, LeadBack}
use Rattle.xw_net.specs.declared.level.KeptRow.{KeptRow}
use Rattle.xw_net.proofs.BaseRows.WrittenRows.{bits_here, bits_other}

-- a row of another light was kept before
kept_before : (kept : List KeptRow) (one : KeptRow) (light : ℕ) → HasKept kept light → HasKept (kept ++ one ∷ []) light
kept_before kept one light has = (has.0, Contains-append_left kept (one ∷ []) has.0 has.1, has.2)

-- keeping a row that no kept one stands for
pub keeps_row : (kept : List KeptRow) (rows before : List RowOfBits) (one : KeptRow) → ¬ HasKept kept one.light → one.light < length rows → one.row.bits ≡ bits_in rows one.light → LeadBack kept rows before → LeadBack (kept ++ one ∷ []) rows before
keeps_row kept rows before one none within is back = record {
  many = back.many;
  long = back.long;
  right = λ other listed. elim (Contains-push_cases kept one other listed) [
    | inl was ↦ back.right other was
    | inr new ↦ subst (λ o. IsRowOf o before) new (record { within = omega (arith, within, back.many); bits = is ∙ back.others one.light none })
  ];
  others = λ light unkept. back.others light (λ has. unkept (kept_before kept one light has));
}

-- a row whose light has one kept may change
pub changes_kept : (kept : List KeptRow) (rows new before : List RowOfBits) (light : ℕ) → HasKept kept light → length new ≡ length rows → length (bits_in new light) ≡ length (bits_in rows light) → OtherRowsStay light rows new → LeadBack kept rows before → LeadBack kept new before
changes_kept kept rows new before light has many long stay back = record {
  many = many ∙ back.many;
  long = λ other. elim (cases_eq other light) [
    | inl e ↦ ap (λ n. length (bits_in new n)) e ∙ long ∙ ap (λ n. length (bits_in rows n)) (sym e) ∙ back.long other
    | inr apart ↦ ap length (stay other apart) ∙ back.long other
  ];
  right = back.right;
  others = λ other unkept. stay other (λ e. unkept (subst (HasKept kept) (sym e) has)) ∙ back.others other unkept;
}

-- the last kept row is given back
pub gives_row : (left : List KeptRow) (last : KeptRow) (rows before : List RowOfBits) (row : RowOfBits) → row.bits ≡ last.row.bits → LeadBack (left ++ last ∷ []) rows before → LeadBack left (set rows last.light row) before
gives_row left last rows before row is back = record {
  many = length-set rows last.light row ∙ back.many;
  long = λ light. elim (cases_eq light last.light) [
    | inl e ↦ ap (λ n. length (bits_in (set rows last.light row) n)) e ∙ ap length here ∙ ap (λ n. length (bits_in before n)) (sym e)
    | inr apart ↦ ap length (bits_other rows last.light within row light apart) ∙ back.long light
  ];
  right = λ one listed. back.right one (Contains-append_left left (last ∷ []) one listed);
  others = λ light unkept. elim (cases_eq light last.light) [
    | inl e ↦ ap (bits_in (set rows last.light row)) e ∙ here ∙ ap (bits_in before) (sym e)
    | inr apart ↦ bits_other rows last.light within row light apart ∙ back.others light (λ has. elim (Contains-push_cases left last has.0 has.1) [
      | inl was ↦ unkept (has.0, was, has.2)
      | inr new ↦ apart (sym has.2 ∙ ap (λ (o : KeptRow). o.light) (sym new))
    ])
  ];
} where
  of_last : IsRowOf last before
  of_last = back.right last (Contains-push left last)

  within : last.light < length rows
  within = omega (arith, of_last.within, back.many)

  here : bits_in (set rows last.light row) last.light ≡ bits_in before last.light
  here = bits_here rows last.light within row ∙ is ∙ of_last.bits
