-- The first fault of a header.
use Rattle.std.proofs.Common.{◌≡◌, ◌≢◌, ℕ, true, false, cond, List, [], ◌∷◌, length, get_or, nat_eq, nat_lt, refl, sym, ◌∙◌, subst, arith, inl, inr, Ok, Err}
use Rattle.std.specs.Cmp.Lexicographic.{pointwise}
use Rattle.std.proofs.lemmas.Bool.Decides.{nat_tests}
use Rattle.xw_files.specs.declared.puz.header.Header.{Header}
use Rattle.xw_files.specs.declared.fault.Piece.TheVariants as part
use Rattle.xw_files.specs.declared.fault.ReadFault.{ReadFault}
use Rattle.xw_files.specs.declared.fault.ReadFault.TheVariants.{Short, Magic, Version, Scrambled, Size}
use Rattle.xw_files.specs.Puz.Reading.{part_at, number_at, version, has_magic, sized_header_at, header_at}
use Rattle.xw_files.specs.Puz.Faults.{IsFirstFault}
use Rattle.xw_files.proofs.PuzLemmas.Taken.{same_bytes, tested}
use Rattle.xw_files.proofs.PuzLemmas.SumsAndSquares.{same}
use Rattle.xw_files.proofs.PuzLemmas.Ranks.{refused, caught, Clear, Never, more, clear_1, only_1, only_2, only_3, only_4, only_5, first_alone}

pub same_all : (xs : List ℕ) → pointwise nat_eq xs xs ≡ true
same_all [] = refl
same_all (x ∷ xs) = rw (same x) (same_all xs)

-- bytes that a test tells apart
apart : (xs ys : List ℕ) → pointwise nat_eq xs ys ≡ false → xs ≢ ys
apart xs ys differ e = let alike : pointwise nat_eq xs ys ≡ true = rw e (same_all ys) in let bad = sym differ ∙ alike in cc

is_zero : (n : ℕ) → nat_eq n 0 ≡ true → n ≡ 0
is_zero n h = grind (arith, nat_tests, h)

not_zero : (n : ℕ) → nat_eq n 0 ≡ false → n ≢ 0
not_zero n h = grind (arith, nat_tests, h)

sized_first : (bytes : List ℕ) (fault : ReadFault) → Clear bytes 5 → sized_header_at bytes ≡ Err fault → IsFirstFault bytes fault
unfolding sized_header_at
sized_first bytes fault clear e = elim (caught (nat_eq (get_or bytes 44 0) 0) _ _ fault e) [
  | inl wide ↦ subst (IsFirstFault bytes) wide.1 (first_alone bytes Size refl (inl (is_zero _ wide.0)) clear)
  | inr wide ↦ elim (caught (nat_eq (get_or bytes 45 0) 0) _ _ fault wide.1) [
    | inl high ↦ subst (IsFirstFault bytes) high.1 (first_alone bytes Size refl (inr (is_zero _ high.0)) clear)
    | inr high ↦ cc
  ]
]

tag_first : (bytes : List ℕ) (fault : ReadFault) → Clear bytes 4 → cond (nat_eq (number_at 50 bytes) 0) (sized_header_at bytes) (Err Scrambled) ≡ Err fault → IsFirstFault bytes fault
tag_first bytes fault clear e = elim (refused (nat_eq (number_at 50 bytes) 0) _ _ fault e) [
  | inl fails ↦ subst (IsFirstFault bytes) fails.1 (first_alone bytes Scrambled refl (not_zero _ fails.0) clear)
  | inr holds ↦ sized_first bytes fault (more bytes 4 clear (only_4 (Never bytes) (λ bad. bad (is_zero _ holds.0)))) holds.1
]

version_first : (bytes : List ℕ) (fault : ReadFault) → Clear bytes 3
    → cond (pointwise nat_eq (part_at 24 4 bytes) version) (cond (nat_eq (number_at 50 bytes) 0) (sized_header_at bytes) (Err Scrambled)) (Err Version) ≡ Err fault → IsFirstFault bytes fault
version_first bytes fault clear e = elim (refused (pointwise nat_eq (part_at 24 4 bytes) version) _ _ fault e) [
  | inl fails ↦ subst (IsFirstFault bytes) fails.1 (first_alone bytes Version refl (apart _ _ fails.0) clear)
  | inr holds ↦ tag_first bytes fault (more bytes 3 clear (only_3 (Never bytes) (λ bad. bad (same_bytes _ _ holds.0)))) holds.1
]

magic_first : (bytes : List ℕ) (fault : ReadFault) → Clear bytes 2
    → cond (has_magic bytes) (cond (pointwise nat_eq (part_at 24 4 bytes) version) (cond (nat_eq (number_at 50 bytes) 0) (sized_header_at bytes) (Err Scrambled)) (Err Version)) (Err Magic) ≡ Err fault → IsFirstFault bytes fault
magic_first bytes fault clear e = elim (refused (has_magic bytes) _ _ fault e) [
  | inl fails ↦ subst (IsFirstFault bytes) fails.1 (first_alone bytes Magic refl (apart _ _ fails.0) clear)
  | inr holds ↦ version_first bytes fault (more bytes 2 clear (only_2 (Never bytes) (λ bad. bad (same_bytes _ _ holds.0)))) holds.1
]

pub header_first : (bytes : List ℕ) (fault : ReadFault) → header_at bytes ≡ Err fault → IsFirstFault bytes fault
unfolding header_at
header_first bytes fault e = elim (caught (nat_lt (length bytes) 52) _ _ fault e) [
  | inl short ↦ subst (IsFirstFault bytes) short.1 (first_alone bytes (Short part.Header) refl (grind (arith, nat_tests, short.0)) (clear_1 bytes))
  | inr long ↦ magic_first bytes fault (more bytes 1 (clear_1 bytes) (only_1 (Never bytes) (λ bad. absurd (grind (arith, nat_tests, long.0, bad))))) long.1
]

-- a header that is read has none
pub header_clear : (bytes : List ℕ) (header : Header) → header_at bytes ≡ Ok header → Clear bytes 6
header_clear bytes header e =
    let t = tested bytes header e in
    let after_1 = more bytes 1 (clear_1 bytes) (only_1 (Never bytes) (λ bad. absurd (omega (arith, t.long, bad)))) in
    let after_2 = more bytes 2 after_1 (only_2 (Never bytes) (λ bad. bad t.magic)) in
    let after_3 = more bytes 3 after_2 (only_3 (Never bytes) (λ bad. bad t.version)) in
    let after_4 = more bytes 4 after_3 (only_4 (Never bytes) (λ bad. bad t.tag)) in
    more bytes 5 after_4 (only_5 (Never bytes) (λ bad. elim bad [
      | inl none ↦ absurd (omega (arith, t.width, none))
      | inr none ↦ absurd (omega (arith, t.height, none))
    ]))
