-- The search through whole sections for a section of rebus cells.
use Rattle.std.proofs.Common.{◌≡◌, ◌≢◌, ℕ, ◌<◌, Bool, true, false, List, [], ◌∷◌, ◌++◌, length, refl, sym, ap, ◌∙◌, subst, arith, length-append}
use Rattle.std.specs.Prelude.{Some, None, Ok, Err}
use Rattle.std.specs.List.{list_any}
use Rattle.xw_files.specs.Puz.Reading.{Fields, fields_at, part_at}
use Rattle.xw_files.specs.Puz.Sections.{Section, AreBytes, AreSections, section_bytes, section_at}
use Rattle.xw_files.specs.Puz.Rebus.{is_rebus, HasSections}
use Rattle.xw_files.proofs.PuzLemmas.SectionLemmas.{section_at-takes}
use Rattle.xw_files.proofs.PuzLemmas.Cuts.{first-read, others-cut, pair_is, bytes-after, cut-of}
use Rattle.xw_files.proofs.PuzLemmas.Files.{fields_at-again}
use Rattle.xw_files.proofs.PuzLemmas.Related.{memory-alone, rest-bytes}
use Rattle.xw_files.proofs.PuzLemmas.SumsAndSquares.{part-length}
use Rattle.xw_files.proofs.PuzLemmas.Taken.{fields_at-takes}
use Rattle.xw_files.proofs.StepLemmas.{ok_is}
use Rattle.xw_files.specs.declared.fault.ReadFault.{ReadFault}
use Rattle.xw_files.specs.declared.fault.ReadFault.TheVariants as faults

-- Whatever sections bytes are cut into, those of the rest decide whether one of them is of rebus cells.
abbrev pub AreLeft : List ℕ → List ℕ → Type 0
AreLeft bytes rest = (sections : List Section) (tail : List ℕ) → AreSections bytes sections tail
    → (left : List Section) × AreSections rest left tail × (list_any is_rebus sections ≡ list_any is_rebus left)

pub left-all : (bytes : List ℕ) → AreLeft bytes bytes
left-all bytes sections tail are = (sections, are, refl)

-- the sections of bytes that begin with a whole section
first-is : (rest others tail : List ℕ) (section : Section) (left : List Section) → AreBytes rest → section_at rest ≡ Some (section, others) → AreSections rest left tail
    → (later : List Section) × (left ≡ section ∷ later) × AreSections others later tail
first-is rest others tail section [] small at are =
    let is = section_at-takes rest others section small at in
    absurd (are.end section others is.0 (sym are.cut ∙ is.1))
first-is rest others tail section (first ∷ later) small at are =
    let both = pair_is _ _ (sym (first-read rest tail first later are) ∙ at) in
    (later, ap (λ (p : Section × List ℕ). p.0 ∷ later) both, subst (λ bytes. AreSections bytes later tail) (ap (λ (p : Section × List ℕ). p.1) both) (others-cut rest tail first later are))

-- there is no whole section at the front
none-is : (rest tail : List ℕ) (left : List Section) → section_at rest ≡ None → AreSections rest left tail → left ≡ []
none-is rest tail [] at are = refl
none-is rest tail (first ∷ later) at are = let bad = sym at ∙ first-read rest tail first later are in cc

-- a section of another kind is passed over
pub left-less : (bytes rest others : List ℕ) (section : Section) → AreBytes rest → section_at rest ≡ Some (section, others) → is_rebus section ≡ false → AreLeft bytes rest → AreLeft bytes others
left-less bytes rest others section small at other left sections tail are =
    let now = left sections tail are in
    let next = first-is rest others tail section now.0 small at now.1 in
    (next.0, next.2, now.2 ∙ ap (list_any is_rebus) next.1 ∙ rw other refl)

-- the section at the front is of this kind
pub left-found : (bytes rest others : List ℕ) (section : Section) → AreBytes rest → section_at rest ≡ Some (section, others) → is_rebus section ≡ true → AreLeft bytes rest
    → (sections : List Section) (tail : List ℕ) → AreSections bytes sections tail → true ≡ list_any is_rebus sections
left-found bytes rest others section small at is left sections tail are =
    let now = left sections tail are in
    let next = first-is rest others tail section now.0 small at now.1 in
    sym (now.2 ∙ ap (list_any is_rebus) next.1 ∙ rw is refl)

-- no section is left
pub left-none : (bytes rest : List ℕ) → section_at rest ≡ None → AreLeft bytes rest → (sections : List Section) (tail : List ℕ) → AreSections bytes sections tail → false ≡ list_any is_rebus sections
left-none bytes rest at left sections tail are =
    let now = left sections tail are in
    sym (now.2 ∙ ap (list_any is_rebus) (none-is rest tail now.0 at now.1))

-- what follows a section has fewer bytes
pub others-shorter : (rest others : List ℕ) (section : Section) → AreBytes rest → section_at rest ≡ Some (section, others) → length others < length rest
others-shorter rest others section small at =
    let is = section_at-takes rest others section small at in
    let size : length rest ≡ length (section_bytes section ++ others) = ap length is.1 in
    let long : length others < length (section_bytes section ++ others) = simp (length-append) (omega arith) in
    omega (arith, size, long)

pub others-bytes : (rest others : List ℕ) (section : Section) → AreBytes rest → section_at rest ≡ Some (section, others) → AreBytes others
others-bytes rest others section small at =
    let is = section_at-takes rest others section small at in
    bytes-after (section_bytes section) others (subst AreBytes is.1 small)

-- the fields of a file that has sections
pub fields-of : (bytes : List ℕ) (sections : List Section) → (has : HasSections bytes sections) → fields_at bytes ≡ Ok has.fields
fields-of bytes sections has = ap fields_at has.cut ∙ fields_at-again has.fields has.reserved has.fits has.reserved_long

-- cutting such a file into fields fails only if an allocation fails
pub only-memory : (bytes : List ℕ) (sections : List Section) (fault : ReadFault) → HasSections bytes sections → (fault ≢ faults.Memory → fields_at bytes ≡ Err fault) → fault ≡ faults.Memory
only-memory bytes sections fault has other = memory-alone fault (λ is. (let bad = sym (fields-of bytes sections has) ∙ other is in cc))

-- the result for the sections after the notes is the result for the file
pub rebus-told : (bytes : List ℕ) (sections : List Section) (fields : Fields) (found : Bool) → HasSections bytes sections → fields_at bytes ≡ Ok fields
    → ((those : List Section) (tail : List ℕ) → AreSections fields.rest those tail → found ≡ list_any is_rebus those) → found ≡ list_any is_rebus sections
rebus-told bytes sections fields found has read told =
    let same = ok_is has.fields fields (sym (fields-of bytes sections has) ∙ read) in
    told sections has.tail (subst (λ (f : Fields). AreSections f.rest sections has.tail) same has.cut_rest)

-- the sections of bytes that are cut into fields
pub sections-of : (bytes : List ℕ) (fields : Fields) → AreBytes bytes → fields_at bytes ≡ Ok fields → (sections : List Section) × HasSections bytes sections
sections-of bytes fields small read =
    let taken = fields_at-takes bytes fields small read in
    let cut = cut-of fields.rest (rest-bytes fields (part_at 28 16 bytes) (subst AreBytes taken.spelled small)) in (
      cut.sections,
      record { fields = fields; reserved = part_at 28 16 bytes; tail = cut.tail; reserved_long = part-length bytes 28 16 (let h = taken.long in omega (arith, h)); fits = taken.fits; cut = taken.spelled; cut_rest = cut.are },
    )
