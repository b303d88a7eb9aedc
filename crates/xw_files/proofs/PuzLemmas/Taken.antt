-- The fields that are read from bytes spell these bytes.
use Rattle.std.proofs.Common.{◌≡◌, ℕ, zero, suc, ◌-◌, length-drop, length-take-le, ◌+◌, ◌*◌, ◌/◌, ◌%◌, ◌<◌, ◌≤◌, ◌^◌, List, [], ◌∷◌, ◌++◌, length, nat_eq, nat_lt, Bool, true, false, ◌&&◌, get_or, take, drop, refl, sym, ap, ◌∙◌, arith, Ok, subst}
use Rattle.std.specs.Cmp.Lexicographic.{pointwise}
use Rattle.std.proofs.lemmas.List.{take-append-drop}
use Rattle.std.proofs.lemmas.Bool.Decides.{nat_tests}
use Rattle.byteorder.specs.Endian.{little_bytes}
use Rattle.xw_files.specs.Puz.Reading.{Fields, magic, version, part_at, number_at, header_at, sized_header_at, cell_count, text_at, clues_at, texts_at, boards_at, fields_at}
use Rattle.xw_files.specs.Puz.Spelling.{header_bytes, FitsHeader, FitsFile, HasNoNul, AllHaveNoNul, with_nuls, file_bytes}
use Rattle.xw_files.specs.Puz.Sections.{AreBytes}
use Rattle.xw_files.specs.declared.puz.header.Header.{Header}
use Rattle.xw_files.proofs.StepLemmas.{ok_is, bind_ok, passed, avoided}
use Rattle.xw_files.proofs.PuzLemmas.Texts.{text_at-takes}
use Rattle.xw_files.specs.declared.fault.TextName.TheVariants.{Title, Author, Copyright, Clue, Notes}
use Rattle.xw_files.proofs.PuzLemmas.Headers.{items_from, first_items}

and-true : (a b : Bool) → (a && b) ≡ true → (a ≡ true) × (b ≡ true)
and-true true true h = (refl, refl)
and-true true false h = cc
and-true false b h = cc

pub same_bytes : (xs ys : List ℕ) → pointwise nat_eq xs ys ≡ true → xs ≡ ys
same_bytes [] [] h = refl
same_bytes [] (y ∷ ys) h = cc
same_bytes (x ∷ xs) [] h = cc
same_bytes (x ∷ xs) (y ∷ ys) h =
    let both = and-true (nat_eq x y) (pointwise nat_eq xs ys) h in
    let head : x ≡ y = grind (arith, nat_tests, both.0) in
    rw (head, same_bytes xs ys both.1) refl

-- a number read from two bytes is written as the same bytes
two_again : (low high : ℕ) → low < 256 → high < 256 → little_bytes 2 (low + 256 * (high + 0)) ≡ low ∷ high ∷ []
two_again low high l h =
    let first : (low + 256 * (high + 0)) % 256 ≡ low = omega arith in
    let second : (low + 256 * (high + 0)) / 256 % 256 ≡ high = omega arith in
    rw (first, second) refl

-- replacing parts of a list by equal ones
parts_same : (a a' b b' c c' d e e' f g h h' i i' j j' rest : List ℕ) → a' ≡ a → b ≡ b' → c' ≡ c → e ≡ e' → h' ≡ h → i' ≡ i → j' ≡ j
    → a ++ b ++ c ++ d ++ e ++ f ++ g ++ h ++ i ++ j ++ rest ≡ a' ++ b' ++ c' ++ d ++ e' ++ f ++ g ++ h' ++ i' ++ j' ++ rest
parts_same a a' b b' c c' d e e' f g h h' i i' j j' rest pa pb pc pe ph pi pj = rw (pa, pb, pc, pe, ph, pi, pj) refl

-- what the tests of width and height say, for given first bytes
sized : (bytes : List ℕ) (header : Header) → sized_header_at bytes ≡ Ok header → let is : Header = record { file_sum = number_at 0 bytes; cib_sum = number_at 14 bytes; masked = part_at 16 8 bytes; width = get_or bytes 44 0; height = get_or bytes 45 0; clue_count = number_at 46 bytes; bitmask = number_at 48 bytes } in
    (0 < get_or bytes 44 0) × (0 < get_or bytes 45 0) × (is ≡ header)
unfolding sized_header_at
sized bytes header e =
    let wide = avoided (nat_eq (get_or bytes 44 0) 0) _ _ header e in
    let high = avoided (nat_eq (get_or bytes 45 0) 0) _ _ header wide.1 in
    (grind (arith, nat_tests, wide.0), grind (arith, nat_tests, high.0), ok_is _ header high.1)

-- what the tests of a header say
pub record Tested (bytes : List ℕ) (header : Header) : Type 0 where
  pub long : 52 ≤ length bytes
  pub magic : part_at 2 12 bytes ≡ magic
  pub version : part_at 24 4 bytes ≡ version
  pub tag : number_at 50 bytes ≡ 0
  pub width : 0 < get_or bytes 44 0
  pub height : 0 < get_or bytes 45 0
  pub is : Path Header (record { file_sum = number_at 0 bytes; cib_sum = number_at 14 bytes; masked = part_at 16 8 bytes; width = get_or bytes 44 0; height = get_or bytes 45 0; clue_count = number_at 46 bytes; bitmask = number_at 48 bytes }) header

pub tested : (bytes : List ℕ) (header : Header) → header_at bytes ≡ Ok header → Tested bytes header
unfolding header_at
tested bytes header e =
    let long = avoided (nat_lt (length bytes) 52) _ _ header e in
    let named = passed (pointwise nat_eq (part_at 2 12 bytes) Rattle.xw_files.specs.Puz.Reading.magic) _ _ header long.1 in
    let told = passed (pointwise nat_eq (part_at 24 4 bytes) Rattle.xw_files.specs.Puz.Reading.version) _ _ header named.1 in
    let plain = passed (nat_eq (number_at 50 bytes) 0) _ _ header told.1 in
    let rest = sized bytes header plain.1 in
    record {
      long = grind (arith, nat_tests, long.0);
      magic = same_bytes _ _ named.0;
      version = same_bytes _ _ told.0;
      tag = grind (arith, nat_tests, plain.0);
      width = rest.0;
      height = rest.1;
      is = rest.2;
    }

-- the header of bytes that pass the tests
abbrev header_in : List ℕ → Header
header_in bytes = record { file_sum = number_at 0 bytes; cib_sum = number_at 14 bytes; masked = part_at 16 8 bytes; width = get_or bytes 44 0; height = get_or bytes 45 0; clue_count = number_at 46 bytes; bitmask = number_at 48 bytes }

number-small : (low high : ℕ) → low < 256 → high < 256 → low + 256 * (high + 0) < 2 ^ 16
number-small low high l h = omega arith

-- the bytes are those of their header and what follows
abbrev Spelled : List ℕ → Type 0
Spelled bytes = FitsHeader (header_in bytes) × (bytes ≡ header_bytes (header_in bytes) (part_at 28 16 bytes) ++ drop 52 bytes)

spelled-shown : (from rest : List ℕ) → AreBytes from → let bytes : List ℕ = items_from 0 52 from ++ rest in part_at 2 12 bytes ≡ magic → part_at 24 4 bytes ≡ version → number_at 50 bytes ≡ 0 → 0 < get_or bytes 44 0 → 0 < get_or bytes 45 0 → Spelled bytes
spelled-shown from rest small m v t width height =
    let at : ℕ → ℕ = λ k. get_or from k 0 in
    let pair : (k : ℕ) → little_bytes 2 (at k + 256 * (at (suc k) + 0)) ≡ at k ∷ at (suc k) ∷ [] = λ k. two_again (at k) (at (suc k)) (small k) (small (suc k)) in
    let zero_low : at 50 ≡ 0 = omega (arith, t) in
    let zero_high : at 51 ≡ 0 = omega (arith, t) in
    let tag : little_bytes 2 0 ≡ at 50 ∷ at 51 ∷ [] = rw (zero_low, zero_high) refl in
    let number : (k : ℕ) → at k + 256 * (at (suc k) + 0) < 2 ^ 16 = λ k. number-small (at k) (at (suc k)) (small k) (small (suc k)) in (
      record { file_sum = number 0; cib_sum = number 14; clue_count = number 46; bitmask = number 48; masked = refl; width = width; height = height },
      parts_same
          (at 0 ∷ at 1 ∷ []) _
          (at 2 ∷ at 3 ∷ at 4 ∷ at 5 ∷ at 6 ∷ at 7 ∷ at 8 ∷ at 9 ∷ at 10 ∷ at 11 ∷ at 12 ∷ at 13 ∷ []) _
          (at 14 ∷ at 15 ∷ []) _
          (at 16 ∷ at 17 ∷ at 18 ∷ at 19 ∷ at 20 ∷ at 21 ∷ at 22 ∷ at 23 ∷ [])
          (at 24 ∷ at 25 ∷ at 26 ∷ at 27 ∷ []) _
          (at 28 ∷ at 29 ∷ at 30 ∷ at 31 ∷ at 32 ∷ at 33 ∷ at 34 ∷ at 35 ∷ at 36 ∷ at 37 ∷ at 38 ∷ at 39 ∷ at 40 ∷ at 41 ∷ at 42 ∷ at 43 ∷ [])
          (at 44 ∷ at 45 ∷ [])
          (at 46 ∷ at 47 ∷ []) _
          (at 48 ∷ at 49 ∷ []) _
          (at 50 ∷ at 51 ∷ []) _
          rest (pair 0) m (pair 14) v (pair 46) (pair 48) tag,
    )

-- a header that is read is spelled by the bytes
pub header_at-takes : (bytes : List ℕ) (header : Header) → AreBytes bytes → header_at bytes ≡ Ok header → FitsHeader header × (bytes ≡ header_bytes header (part_at 28 16 bytes) ++ drop 52 bytes)
header_at-takes bytes header small e =
    let t = tested bytes header e in
    let shown = first_items bytes 52 t.long in
    let Needs : List ℕ → Type 0 = λ xs. part_at 2 12 xs ≡ magic → part_at 24 4 xs ≡ version → number_at 50 xs ≡ 0 → 0 < get_or xs 44 0 → 0 < get_or xs 45 0 → Spelled xs in
    let spelled = subst Needs (sym shown) (spelled-shown bytes (drop 52 bytes) small) t.magic t.version t.tag t.width t.height in
    (subst FitsHeader t.is spelled.0, subst (λ h. bytes ≡ header_bytes h (part_at 28 16 bytes) ++ drop 52 bytes) t.is spelled.1)

-- clues that are read are spelled by the bytes
pub clues_at-takes : (k count : ℕ) (bytes : List ℕ) (clues : List (List ℕ)) (rest : List ℕ) → clues_at k count bytes ≡ Ok (clues, rest) → AllHaveNoNul clues × (length clues ≡ count) × (bytes ≡ with_nuls clues rest)
clues_at-takes k zero bytes clues rest e =
    let is = ok_is ([], bytes) (clues, rest) e in
    subst (λ (p : List (List ℕ) × List ℕ). AllHaveNoNul p.0 × (length p.0 ≡ 0) × (bytes ≡ with_nuls p.0 p.1)) is (tt, refl, refl)
clues_at-takes k (suc count) bytes clues rest e =
    let clue = bind_ok (text_at (Clue k) bytes) _ (clues, rest) e in
    let others = bind_ok (clues_at (k + 1) count clue.0.1) _ (clues, rest) clue.2 in
    let first = text_at-takes (Clue k) bytes clue.0.0 clue.0.1 clue.1 in
    let more = clues_at-takes (k + 1) count clue.0.1 others.0.0 others.0.1 others.1 in
    let is = ok_is _ (clues, rest) others.2 in
    subst (λ (p : List (List ℕ) × List ℕ). AllHaveNoNul p.0 × (length p.0 ≡ suc count) × (bytes ≡ with_nuls p.0 p.1)) is
    ((first.0, more.0), ap (λ n. suc n) more.1, first.1 ∙ ap (λ tail. clue.0.0 ++ 0 ∷ tail) more.2)

-- what texts that are read say
pub record Texts (head : Header) (first second bytes : List ℕ) (fields : Fields) : Type 0 where
  pub header : fields.header ≡ head
  pub solution : fields.solution ≡ first
  pub state : fields.state ≡ second
  pub title : HasNoNul fields.title
  pub author : HasNoNul fields.author
  pub copyright : HasNoNul fields.copyright
  pub clues : AllHaveNoNul fields.clues
  pub clue_count : length fields.clues ≡ head.clue_count
  pub notes : HasNoNul fields.notes
  pub spelled : bytes ≡ fields.title ++ 0 ∷ (fields.author ++ 0 ∷ (fields.copyright ++ 0 ∷ with_nuls fields.clues (fields.notes ++ 0 ∷ fields.rest)))

pub texts_at-takes : (header : Header) (solution state bytes : List ℕ) (fields : Fields) → texts_at header solution state bytes ≡ Ok fields → Texts header solution state bytes fields
texts_at-takes header solution state bytes fields e =
    let title = bind_ok (text_at Title bytes) _ fields e in
    let author = bind_ok (text_at Author title.0.1) _ fields title.2 in
    let copyright = bind_ok (text_at Copyright author.0.1) _ fields author.2 in
    let clues = bind_ok (clues_at 1 header.clue_count copyright.0.1) _ fields copyright.2 in
    let notes = bind_ok (text_at Notes clues.0.1) _ fields clues.2 in
    let is = ok_is _ fields notes.2 in
    let t = text_at-takes Title bytes title.0.0 title.0.1 title.1 in
    let a = text_at-takes Author title.0.1 author.0.0 author.0.1 author.1 in
    let c = text_at-takes Copyright author.0.1 copyright.0.0 copyright.0.1 copyright.1 in
    let k = clues_at-takes 1 header.clue_count copyright.0.1 clues.0.0 clues.0.1 clues.1 in
    let n = text_at-takes Notes clues.0.1 notes.0.0 notes.0.1 notes.1 in
    subst (Texts header solution state bytes) is (record {
      header = refl;
      solution = refl;
      state = refl;
      title = t.0;
      author = a.0;
      copyright = c.0;
      clues = k.0;
      clue_count = k.1;
      notes = n.0;
      spelled =
          t.1
          ∙ ap (λ tail. title.0.0 ++ 0 ∷ tail) a.1
          ∙ ap (λ tail. title.0.0 ++ 0 ∷ (author.0.0 ++ 0 ∷ tail)) c.1
          ∙ ap (λ tail. title.0.0 ++ 0 ∷ (author.0.0 ++ 0 ∷ (copyright.0.0 ++ 0 ∷ tail))) k.2
          ∙ ap (λ tail. title.0.0 ++ 0 ∷ (author.0.0 ++ 0 ∷ (copyright.0.0 ++ 0 ∷ with_nuls clues.0.0 tail))) n.1;
    })

-- fields that are read are spelled by the bytes
pub record Takes (bytes : List ℕ) (fields : Fields) : Type 0 where
  pub fits : FitsFile fields
  pub spelled : bytes ≡ file_bytes fields (part_at 28 16 bytes)
  pub long : 52 ≤ length bytes

split-again : (count : ℕ) (xs : List ℕ) → xs ≡ take count xs ++ drop count xs
split-again count xs = sym (take-append-drop count xs)

boards_same : (h h' : Header) (a a' b b' more bytes reserved : List ℕ) → h ≡ h' → a ≡ a' → b ≡ b' → bytes ≡ header_bytes h' reserved ++ (a' ++ (b' ++ more)) → bytes ≡ header_bytes h reserved ++ (a ++ (b ++ more))
boards_same h h' a a' b b' more bytes reserved ph pa pb e = rw (ph, pa, pb) e

pub fields_at-takes : (bytes : List ℕ) (fields : Fields) → AreBytes bytes → fields_at bytes ≡ Ok fields → Takes bytes fields
fields_at-takes bytes fields small e =
    let head = bind_ok (header_at bytes) _ fields e in
    let header = head.0 in
    let cells = cell_count header in
    let enough = avoided (nat_lt (length bytes) (52 + 2 * cells)) _ _ fields head.2 in
    let long : 52 + 2 * cells ≤ length bytes = grind (arith, nat_tests, enough.0) in
    let body = drop 52 bytes in
    let size : length body ≡ length bytes - 52 = length-drop 52 bytes in
    let h = header_at-takes bytes header small head.1 in
    let texts = texts_at-takes header (take cells body) (take cells (drop cells body)) (drop cells (drop cells body)) fields enough.1 in
    let first : length (take cells body) ≡ cells = length-take-le cells body (omega (arith, size)) in
    let left : length (drop cells body) ≡ length body - cells = length-drop cells body in
    let second : length (take cells (drop cells body)) ≡ cells = length-take-le cells (drop cells body) (omega (arith, size, left)) in
    record {
      fits = record {
        header = subst FitsHeader (sym texts.header) h.0;
        solution = ap length texts.solution ∙ first ∙ ap cell_count (sym texts.header);
        state = ap length texts.state ∙ second ∙ ap cell_count (sym texts.header);
        title = texts.title;
        author = texts.author;
        copyright = texts.copyright;
        clues = texts.clues;
        clue_count = texts.clue_count ∙ ap (λ (h : Header). h.clue_count) (sym texts.header);
        notes = texts.notes;
      };
      spelled = boards_same fields.header _ fields.solution _ fields.state _ _ bytes (part_at 28 16 bytes) texts.header texts.solution texts.state
          (h.1 ∙ ap (λ more. header_bytes header (part_at 28 16 bytes) ++ more)
          (split-again cells body ∙ ap (λ more. take cells body ++ more) (split-again cells (drop cells body) ∙ ap (λ more. take cells (drop cells body) ++ more) texts.spelled)));
      long = omega (arith, long);
    }
