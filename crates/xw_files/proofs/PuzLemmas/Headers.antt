-- A header that was written is read back.
use Rattle.std.proofs.Common.{◌≡◌, ℕ, ◌+◌, ◌*◌, ◌/◌, ◌%◌, ◌<◌, ◌≤◌, ◌^◌, List, [], ◌∷◌, ◌++◌, length, nat_eq, nat_lt, false, refl, sym, arith, rules, Ok}
use Rattle.std.proofs.Common.{length-append, subst, get_or, drop, drop-cons, zero, suc, ap, ◌∙◌}
use Rattle.std.proofs.lemmas.List.{append-nil, drop_all}
use Rattle.xw_files.specs.Puz.Reading.{header_at, sized_header_at}
use Rattle.xw_files.specs.Puz.Spelling.{header_bytes, FitsHeader}
use Rattle.xw_files.specs.declared.puz.header.Header.{Header}

pub two_bytes : (x : ℕ) → x < 2 ^ 16 → x % 256 + 256 * (x / 256 % 256 + 0) ≡ x
two_bytes x h = omega arith

not-zero : (x : ℕ) → 0 < x → nat_eq x 0 ≡ false
not-zero x h = search rules

long : (bytes : List ℕ) → 52 ≤ length bytes → nat_lt (length bytes) 52 ≡ false
long bytes h = search rules

-- `count` elements of a list from an index on, one by one
abbrev pub items_from : ℕ → ℕ → List ℕ → List ℕ
items_from at zero xs = []
items_from at (suc count) xs = get_or xs at 0 ∷ items_from (suc at) count xs

items_from-drop : (xs : List ℕ) (at count : ℕ) → at + count ≤ length xs → drop at xs ≡ items_from at count xs ++ drop (at + count) xs
items_from-drop xs at zero h = let none : at + 0 ≡ at = omega arith in rw none refl
items_from-drop xs at (suc count) h =
    let more = items_from-drop xs (suc at) count (omega arith) in
    let plus : suc at + count ≡ at + suc count = omega arith in
    let head : drop at xs ≡ get_or xs at 0 ∷ drop (suc at) xs = drop-cons xs at 0 (omega arith) in
    rw (head, more, plus) refl

-- a list is its first elements, one by one, and the rest
pub first_items : (xs : List ℕ) (count : ℕ) → count ≤ length xs → xs ≡ items_from 0 count xs ++ drop count xs
first_items xs count h =
    let parts = items_from-drop xs 0 count (omega arith) in
    let whole : 0 + count ≡ count = omega arith in
    rw whole at parts

pub all_items : (xs : List ℕ) (count : ℕ) → length xs ≡ count → xs ≡ items_from 0 count xs
all_items xs count h =
    let none : drop count xs ≡ [] = drop_all count xs (omega arith) in
    let parts = first_items xs count (omega arith) in
    parts ∙ ap (λ more. items_from 0 count xs ++ more) none ∙ append-nil (items_from 0 count xs)

header-again : (header : Header) (reserved rest : List ℕ) → FitsHeader header
    → let all : Header = record { file_sum = header.file_sum; cib_sum = header.cib_sum; masked = items_from 0 8 header.masked; width = header.width; height = header.height; clue_count = header.clue_count; bitmask = header.bitmask } in
    header_at (header_bytes all (items_from 0 16 reserved) ++ rest) ≡ Ok all
unfolding header_at sized_header_at
header-again header reserved rest fits =
    let all : Header = record { file_sum = header.file_sum; cib_sum = header.cib_sum; masked = items_from 0 8 header.masked; width = header.width; height = header.height; clue_count = header.clue_count; bitmask = header.bitmask } in
    let enough : 52 ≤ length (header_bytes all (items_from 0 16 reserved) ++ rest) = simp (length-append) (omega arith) in
    rw (
      long (header_bytes all (items_from 0 16 reserved) ++ rest) enough,
      not-zero header.width fits.width,
      not-zero header.height fits.height,
      two_bytes header.file_sum fits.file_sum,
      two_bytes header.cib_sum fits.cib_sum,
      two_bytes header.clue_count fits.clue_count,
      two_bytes header.bitmask fits.bitmask,
    ) refl

pub header_at-again : (header : Header) (reserved rest : List ℕ) → FitsHeader header → length reserved ≡ 16 → header_at (header_bytes header reserved ++ rest) ≡ Ok header
header_at-again header reserved rest fits r =
    let With : List ℕ → List ℕ → Type 0 = λ masked kept. (let h : Header = record { file_sum = header.file_sum; cib_sum = header.cib_sum; masked = masked; width = header.width; height = header.height; clue_count = header.clue_count; bitmask = header.bitmask } in header_at (header_bytes h kept ++ rest) ≡ Ok h) in
    subst (λ masked. With masked reserved) (sym (all_items header.masked 8 fits.masked)) (subst (With (items_from 0 8 header.masked)) (sym (all_items reserved 16 r)) (header-again header reserved rest fits))
