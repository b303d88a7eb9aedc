-- The first checksum that differs from the computed one.
use Rattle.std.proofs.Common.{◌≡◌, ◌≢◌, ℕ, zero, suc, ◌+◌, ◌-◌, ◌<◌, Bool, true, false, cond, List, [], ◌∷◌, length, get_or, nat_eq, refl, sym, ap, ◌∙◌, subst, arith, inl, inr, Ok}
use Rattle.std.specs.Prelude.{Option, Some, None, ◌⊎◌}
use Rattle.std.proofs.lemmas.Bool.Decides.{nat_tests}
use Rattle.xw_files.specs.declared.fault.SumName.{SumName}
use Rattle.xw_files.specs.declared.fault.SumName.TheVariants.{Cib, File, Masked}
use Rattle.xw_files.specs.declared.fault.ReadFault.TheVariants.{BadSum}
use Rattle.xw_files.specs.Puz.Reading.{Fields, fields_at}
use Rattle.xw_files.specs.Puz.Sums.{sums_of, masked_of, wrong_masked, wrong_sum}
use Rattle.xw_files.specs.Puz.Faults.{AreFields, IsWrong, sum_location, IsLess, IsFirstFault}
use Rattle.xw_files.proofs.StepLemmas.{ok_is}
use Rattle.xw_files.proofs.PuzLemmas.Files.{fields_at-again}
use Rattle.xw_files.proofs.PuzLemmas.SumsAndSquares.{same_from, passing_sums}
use Rattle.xw_files.proofs.PuzLemmas.Ranks.{Clear, Never, NotSooner, NoSooner, more, only_8, first_among}

-- bytes are cut into fields in one way
pub one_fields : (bytes : List ℕ) (fields others : Fields) → AreFields bytes fields → AreFields bytes others → fields ≡ others
one_fields bytes fields others are also =
    let read : fields_at bytes ≡ Ok fields = ap fields_at are.cut ∙ fields_at-again fields are.reserved are.fits are.reserved_long in
    let read_also : fields_at bytes ≡ Ok others = ap fields_at also.cut ∙ fields_at-again others also.reserved also.fits also.reserved_long in
    ok_is fields others (sym read ∙ read_also)

pub some_is : {A : Type 0} (x y : A) → let l : Option A = Some x in let r : Option A = Some y in l ≡ r → x ≡ y
some_is x y e = cc

-- a test that has to pass for the rest to be looked at
tried : {A : Type 0} (b : Bool) (o : Option A) (x y : A) → cond b o (Some x) ≡ Some y → ((b ≡ false) × (x ≡ y)) ⊎ ((b ≡ true) × (o ≡ Some y))
tried true o x y e = inr (refl, e)
tried false o x y e = inl (refl, some_is x y e)

pub other_from : (m n : ℕ) → nat_eq m n ≡ false → m ≢ n
other_from m n e = grind (arith, nat_tests, e)

-- the first masked byte that is another one, j bytes after the first
record OtherAt (k : ℕ) (bytes others : List ℕ) (sum : SumName) : Type 0 where
  j : ℕ
  is : Masked (k + j) ≡ sum
  inside : j < length bytes
  differ : get_or bytes j 0 ≢ get_or others j 0
  before : (i : ℕ) → i < j → get_or bytes i 0 ≡ get_or others i 0

same-before : (byte other : ℕ) (bytes others : List ℕ) (j : ℕ) → byte ≡ other → ((i : ℕ) → i < j → get_or bytes i 0 ≡ get_or others i 0) → (i : ℕ) → i < suc j → get_or (byte ∷ bytes) i 0 ≡ get_or (other ∷ others) i 0
same-before byte other bytes others j e before zero h = e
same-before byte other bytes others j e before (suc i) h = before i (omega (arith, h))

masked_found : (k : ℕ) (bytes others : List ℕ) (sum : SumName) → length bytes ≡ length others → wrong_masked k bytes others ≡ Some sum → OtherAt k bytes others sum
masked_found k [] others sum l e = cc
masked_found k (byte ∷ bytes) [] sum l e = cc
masked_found k (byte ∷ bytes) (other ∷ others) sum l e = elim (tried (nat_eq byte other) (wrong_masked (k + 1) bytes others) (Masked k) sum e) [
  | inl here ↦ record {
    j = 0;
    is = (let plus : k + 0 ≡ k = omega arith in ap (λ n. Masked n) plus ∙ here.1);
    inside = omega arith;
    differ = other_from byte other here.0;
    before = λ i h. absurd (omega (arith, h));
  }
  | inr there ↦
      let rest = masked_found (k + 1) bytes others sum (omega (arith, l)) there.1 in
      record {
        j = suc rest.j;
        is = (let plus : k + suc rest.j ≡ k + 1 + rest.j = omega arith in ap (λ n. Masked n) plus ∙ rest.is);
        inside = (let h = rest.inside in omega (arith, h));
        differ = rest.differ;
        before = same-before byte other bytes others rest.j (same_from byte other there.0) rest.before;
      }
]

-- the first wrong sum of fields
record FirstWrong (fields : Fields) (sum : SumName) : Type 0 where
  holds : IsWrong fields sum
  none : (earlier : SumName) → IsLess (sum_location earlier) (sum_location sum) → IsWrong fields earlier → ⊥

abbrev NoneSooner : Fields → SumName → Type 0
NoneSooner fields sum = (earlier : SumName) → IsLess (sum_location earlier) (sum_location sum) → IsWrong fields earlier → ⊥

before_cib : (fields : Fields) → NoneSooner fields Cib
before_cib fields Cib less wrong = grind (arith, less)
before_cib fields other less wrong = grind (arith, less)

before_file : (fields : Fields) → fields.header.cib_sum ≡ (sums_of fields).cib → NoneSooner fields File
before_file fields cib Cib less wrong = wrong cib
before_file fields cib other less wrong = grind (arith, less)

-- the masked byte of fields and the computed one, j bytes after the first
abbrev AreSame : Fields → ℕ → Type 0
AreSame fields i = get_or fields.header.masked i 0 ≡ get_or (masked_of (sums_of fields)) i 0

before_masked : (fields : Fields) (j : ℕ) → fields.header.cib_sum ≡ (sums_of fields).cib → fields.header.file_sum ≡ (sums_of fields).file → ((i : ℕ) → i < j → AreSame fields i) → NoneSooner fields (Masked (1 + j))
before_masked fields j cib file before Cib less wrong = wrong cib
before_masked fields j cib file before File less wrong = wrong file
before_masked fields j cib file before (Masked k) less wrong = let first = wrong.0 in wrong.2 (before (k - 1) (grind (arith, less, first)))

masked_wrong : (fields : Fields) (j : ℕ) → j < 8 → (AreSame fields j → ⊥) → IsWrong fields (Masked (1 + j))
masked_wrong fields j few differ = (omega arith, omega (arith, few), (let back : 1 + j - 1 ≡ j = omega arith in rw back differ))

wrong_found : (fields : Fields) (sum : SumName) → length fields.header.masked ≡ 8 → wrong_sum fields.header (sums_of fields) ≡ Some sum → FirstWrong fields sum
wrong_found fields sum long e = elim (tried (nat_eq fields.header.cib_sum (sums_of fields).cib) _ Cib sum e) [
  | inl cib ↦ subst (FirstWrong fields) cib.1 (record { holds = other_from _ _ cib.0; none = before_cib fields })
  | inr cib ↦ elim (tried (nat_eq fields.header.file_sum (sums_of fields).file) _ File sum cib.1) [
    | inl file ↦ subst (FirstWrong fields) file.1 (record { holds = other_from _ _ file.0; none = before_file fields (same_from _ _ cib.0) })
    | inr file ↦
        let found = masked_found 1 fields.header.masked (masked_of (sums_of fields)) sum long file.1 in
        let few : found.j < 8 = (let h = found.inside in omega (arith, h, long)) in
        subst (FirstWrong fields) found.is (record { holds = masked_wrong fields found.j few found.differ; none = before_masked fields found.j (same_from _ _ cib.0) (same_from _ _ file.0) found.before })
  ]
]

no_sooner : (bytes : List ℕ) (fields : Fields) (sum : SumName) → AreFields bytes fields → FirstWrong fields sum → NoSooner bytes (BadSum sum)
no_sooner bytes fields sum are first = only_8 (NotSooner bytes (BadSum sum)) (λ other less has. first.none other less (subst (λ f. IsWrong f other) (one_fields bytes has.0 fields has.1 are) has.2))

pub sum_first : (bytes : List ℕ) (fields : Fields) (sum : SumName) → AreFields bytes fields → Clear bytes 8 → wrong_sum fields.header (sums_of fields) ≡ Some sum → IsFirstFault bytes (BadSum sum)
sum_first bytes fields sum are clear e =
    let first = wrong_found fields sum are.fits.header.masked e in
    first_among bytes (BadSum sum) (fields, are, first.holds) clear (no_sooner bytes fields sum are first)

all_right : (fields : Fields) (sum : SumName) → length fields.header.masked ≡ 8 → wrong_sum fields.header (sums_of fields) ≡ None → IsWrong fields sum → ⊥
all_right fields Cib long e bad = bad (passing_sums fields.header (sums_of fields) long e).cib
all_right fields File long e bad = bad (passing_sums fields.header (sums_of fields) long e).file
all_right fields (Masked k) long e bad = bad.2 (ap (λ xs. get_or xs (k - 1) 0) (passing_sums fields.header (sums_of fields) long e).masked)

pub sums_clear : (bytes : List ℕ) (fields : Fields) → AreFields bytes fields → Clear bytes 8 → wrong_sum fields.header (sums_of fields) ≡ None → Clear bytes 9
sums_clear bytes fields are clear e = more bytes 8 clear (only_8 (Never bytes) (λ sum has. all_right fields sum are.fits.header.masked e (subst (λ f. IsWrong f sum) (one_fields bytes has.0 fields has.1 are) has.2)))
