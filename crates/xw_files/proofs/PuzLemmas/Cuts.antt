-- Bytes split into whole sections in exactly one way.
use Rattle.std.proofs.Common.{◌≡◌, ℕ, zero, suc, ◌+◌, ◌-◌, ◌<◌, ◌≤◌, ◌^◌, true, false, cond, List, [], ◌∷◌, ◌++◌, length, get_or, refl, sym, ap, ◌∙◌, subst, arith, length-append, append_assoc}
use Rattle.std.specs.Prelude.{Option, Some, None, flat_map, All}
use Rattle.std.proofs.lemmas.List.{get_or-append_right}
use Rattle.xw_files.specs.Puz.Sections.{Section, AreBytes, section_bytes, FitsSection, AreSections, section_at, is_gext, first_gext, gext_among, gext_in}
use Rattle.xw_files.specs.Puz.Laws.{BytesAreCut, CutsAreOne}
use Rattle.xw_files.proofs.PuzLemmas.SectionLemmas.{gext-none, gext-found, gext-more, section-again, section_at-takes}

pub pair_is : {A : Type 0} (x y : A) → let l : Option A = Some x in let r : Option A = Some y in l ≡ r → x ≡ y
pair_is x y e = cc

all-more : (section : Section) (sections : List Section) → FitsSection section → All FitsSection sections → All FitsSection (section ∷ sections)
all-more section sections first rest zero d h = first
all-more section sections first rest (suc k) d h = rest k d (omega arith)

-- the first section is read, and the others are cut from what remains
pub first-read : (bytes tail : List ℕ) (section : Section) (sections : List Section) → AreSections bytes (section ∷ sections) tail → section_at bytes ≡ Some (section, flat_map section_bytes sections ++ tail)
first-read bytes tail section sections are =
    ap section_at (are.cut ∙ append_assoc (section_bytes section) (flat_map section_bytes sections) tail) ∙ section-again section (flat_map section_bytes sections ++ tail) (are.fit 0 section (omega arith))

pub others-cut : (bytes tail : List ℕ) (section : Section) (sections : List Section) → AreSections bytes (section ∷ sections) tail → AreSections (flat_map section_bytes sections ++ tail) sections tail
others-cut bytes tail section sections are = record { fit = λ k d h. are.fit (suc k) d (omega arith); cut = refl; end = are.end }

not-both : (bytes tail end : List ℕ) (section : Section) (sections : List Section) → AreSections bytes [] tail → AreSections bytes (section ∷ sections) end → ⊥
not-both bytes tail end section sections none some =
    none.end section (flat_map section_bytes sections ++ end) (some.fit 0 section (omega arith)) (sym none.cut ∙ some.cut ∙ append_assoc (section_bytes section) (flat_map section_bytes sections) end)

pub one-cut : CutsAreOne
one-cut bytes [] [] tail end are also = (refl, sym are.cut ∙ also.cut)
one-cut bytes [] (other ∷ others) tail end are also = absurd (not-both bytes tail end other others are also)
one-cut bytes (section ∷ sections) [] tail end are also = absurd (not-both bytes end tail section sections also are)
one-cut bytes (section ∷ sections) (other ∷ others) tail end are also =
    let both = pair_is _ _ (sym (first-read bytes tail section sections are) ∙ first-read bytes end other others also) in
    let same : section ≡ other = ap (λ (p : Section × List ℕ). p.0) both in
    let left : flat_map section_bytes sections ++ tail ≡ flat_map section_bytes others ++ end = ap (λ (p : Section × List ℕ). p.1) both in
    let rest = one-cut (flat_map section_bytes others ++ end) sections others tail end (subst (λ xs. AreSections xs sections tail) left (others-cut bytes tail section sections are)) (others-cut bytes end other others also) in
    (rw (same, rest.0) refl, rest.1)

-- ---- sections found by reading

pub bytes-after : (front rest : List ℕ) → AreBytes (front ++ rest) → AreBytes rest
bytes-after front rest small index =
    let at = small (length front + index) in
    let same : get_or (front ++ rest) (length front + index) 0 ≡ get_or rest index 0 = get_or-append_right front rest (length front) (length front + index) 0 refl (omega arith) ∙ (let left : length front + index - length front ≡ index = omega arith in rw left refl) in
    subst (λ n. n < 2 ^ 8) same at

section-long : (section : Section) (more : List ℕ) → length more < length (section_bytes section ++ more)
section-long section more = simp (length-append) (omega arith)

no-section : (bytes tail : List ℕ) (read : Option (Section × List ℕ)) → AreBytes bytes → section_at bytes ≡ read → AreSections bytes [] tail → read ≡ None
no-section bytes tail None small e are = refl
no-section bytes tail (Some found) small e are =
    let is = section_at-takes bytes found.1 found.0 small e in
    absurd (are.end found.0 found.1 is.0 (sym are.cut ∙ is.1))

pub gext-cut : (count : ℕ) (bytes tail : List ℕ) (sections : List Section) → AreBytes bytes → length bytes ≤ count → AreSections bytes sections tail → gext_among count bytes ≡ first_gext sections
gext-cut zero bytes tail [] small few are = refl
gext-cut zero bytes tail (section ∷ sections) small few are =
    let long = section-long section (flat_map section_bytes sections ++ tail) in
    let size : length bytes ≡ length (section_bytes section ++ (flat_map section_bytes sections ++ tail)) = ap length (are.cut ∙ append_assoc (section_bytes section) (flat_map section_bytes sections) tail) in
    absurd (omega (arith, long, size))
gext-cut (suc count) bytes tail [] small few are = gext-none (suc count) count bytes refl (no-section bytes tail (section_at bytes) small refl are)
gext-cut (suc count) bytes tail (section ∷ sections) small few are =
    let rest : List ℕ = flat_map section_bytes sections ++ tail in
    let cut : bytes ≡ section_bytes section ++ rest = are.cut ∙ append_assoc (section_bytes section) (flat_map section_bytes sections) tail in
    let read = first-read bytes tail section sections are in
    let long = section-long section rest in
    let size : length bytes ≡ length (section_bytes section ++ rest) = ap length cut in
    let fewer : length rest ≤ count = omega (arith, long, size) in
    let later = gext-cut count rest tail sections (bytes-after (section_bytes section) rest (subst AreBytes cut small)) fewer (others-cut bytes tail section sections are) in
    elim (is_gext section) as (λ b. is_gext section ≡ b → gext_among (suc count) bytes ≡ cond b (Some section) (first_gext sections)) [
      | true ↦ λ is. gext-found (suc count) count bytes rest section refl read is
      | false ↦ λ is. gext-more (suc count) count bytes rest section refl read is ∙ later
    ] refl

pub gext-is : (bytes tail : List ℕ) (sections : List Section) → AreBytes bytes → AreSections bytes sections tail → gext_in bytes ≡ first_gext sections
gext-is bytes tail sections small are = gext-cut (length bytes) bytes tail sections small (omega arith) are

-- ---- any bytes can be split

pub record Cut (bytes : List ℕ) : Type 0 where
  pub sections : List Section
  pub tail : List ℕ
  pub are : AreSections bytes sections tail

no-more : (bytes : List ℕ) → section_at bytes ≡ None → AreSections bytes [] bytes
no-more bytes none = record {
  fit = λ k d h. absurd (omega arith);
  cut = refl;
  end = λ section more fits e. (let bad = sym (section-again section more fits) ∙ ap section_at (sym e) ∙ none in cc);
}

pub one-more : (bytes rest tail : List ℕ) (section : Section) (sections : List Section) → FitsSection section → bytes ≡ section_bytes section ++ rest → AreSections rest sections tail → AreSections bytes (section ∷ sections) tail
one-more bytes rest tail section sections fits cut are = record {
  fit = all-more section sections fits are.fit;
  cut = cut ∙ ap (λ xs. section_bytes section ++ xs) are.cut ∙ sym (append_assoc (section_bytes section) (flat_map section_bytes sections) tail);
  end = are.end;
}

cut-by : (count : ℕ) (bytes : List ℕ) (read : Option (Section × List ℕ)) → AreBytes bytes → length bytes ≤ count → section_at bytes ≡ read → Cut bytes
cut-by count bytes None small few e = record { sections = []; tail = bytes; are = no-more bytes e }
cut-by zero bytes (Some found) small few e =
    let is = section_at-takes bytes found.1 found.0 small e in
    let long = section-long found.0 found.1 in
    let size : length bytes ≡ length (section_bytes found.0 ++ found.1) = ap length is.1 in
    absurd (omega (arith, long, size))
cut-by (suc count) bytes (Some found) small few e =
    let is = section_at-takes bytes found.1 found.0 small e in
    let long = section-long found.0 found.1 in
    let size : length bytes ≡ length (section_bytes found.0 ++ found.1) = ap length is.1 in
    let rest = cut-by count found.1 (section_at found.1) (bytes-after (section_bytes found.0) found.1 (subst AreBytes is.1 small)) (omega (arith, long, size)) refl in
    record { sections = found.0 ∷ rest.sections; tail = rest.tail; are = one-more bytes found.1 rest.tail found.0 rest.sections is.0 is.1 rest.are }

pub cut-of : (bytes : List ℕ) → AreBytes bytes → Cut bytes
cut-of bytes small = cut-by (length bytes) bytes (section_at bytes) small (omega arith) refl

pub bytes_are_cut : BytesAreCut
bytes_are_cut bytes small = let cut = cut-of bytes small in (cut.sections, cut.tail, cut.are)
