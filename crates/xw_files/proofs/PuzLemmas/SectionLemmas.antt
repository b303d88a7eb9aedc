-- Whole sections, written and read.
use Rattle.std.proofs.Common.{◌≡◌, ℕ, suc, ◌+◌, ◌-◌, ◌*◌, ◌/◌, ◌%◌, ◌<◌, ◌≤◌, ◌^◌, Bool, true, false, cond, List, [], ◌∷◌, ◌++◌, take, drop, drop-cons, length, get_or, nat_eq, nat_lt, refl, sym, ap, ◌∙◌, subst, arith, length-append, append_assoc}
use Rattle.std.specs.Prelude.{Option, Some, None}
use Rattle.std.proofs.lemmas.Bool.Decides.{nat_tests}
use Rattle.std.proofs.Math.Seq.{take-append_seam, drop-append_seam}
use Rattle.std.proofs.lemmas.List.{length-take-le, length-drop, drop-drop, get_or-drop, get_or-append_right, take-append-drop}
use Rattle.byteorder.specs.Endian.{little_bytes}
use Rattle.xw_files.specs.Puz.Reading.{number_at, part_at}
use Rattle.xw_files.specs.Puz.Sections.{Section, AreBytes, section_bytes, FitsSection, section_at, section_sized, section_in, is_gext, gext_among}
use Rattle.xw_files.proofs.PuzLemmas.Headers.{two_bytes, items_from, first_items, all_items}

pub gext-none : (left less : ℕ) (bytes : List ℕ) → left ≡ suc less → section_at bytes ≡ None → gext_among left bytes ≡ None
gext-none left less bytes n at = rw (n, at) refl

pub gext-found : (left less : ℕ) (bytes rest : List ℕ) (section : Section) → left ≡ suc less → section_at bytes ≡ Some (section, rest) → is_gext section ≡ true → gext_among left bytes ≡ Some section
gext-found left less bytes rest section n at is = rw (n, at, is) refl

pub gext-more : (left less : ℕ) (bytes rest : List ℕ) (section : Section) → left ≡ suc less → section_at bytes ≡ Some (section, rest) → is_gext section ≡ false → gext_among left bytes ≡ gext_among less rest
gext-more left less bytes rest section n at is = rw (n, at, is) refl

-- ---- what was written is read back

below-false : (n limit : ℕ) → limit ≤ n → nat_lt n limit ≡ false
below-false n limit h = grind (arith, nat_tests)

drop-eight : (a b c d e f g h : ℕ) (xs : List ℕ) (n : ℕ) → drop (8 + n) (a ∷ b ∷ c ∷ d ∷ e ∷ f ∷ g ∷ h ∷ xs) ≡ drop n xs
drop-eight a b c d e f g h xs n = sym (drop-drop n 8 (a ∷ b ∷ c ∷ d ∷ e ∷ f ∷ g ∷ h ∷ xs))

get-eight : (a b c d e f g h : ℕ) (xs : List ℕ) (n : ℕ) → get_or (a ∷ b ∷ c ∷ d ∷ e ∷ f ∷ g ∷ h ∷ xs) (8 + n) 0 ≡ get_or xs n 0
get-eight a b c d e f g h xs n = sym (get_or-drop 8 (a ∷ b ∷ c ∷ d ∷ e ∷ f ∷ g ∷ h ∷ xs) n 0)

-- what follows the first eight bytes of a section
after_eight : (body more : List ℕ) → (body ++ 0 ∷ []) ++ more ≡ body ++ 0 ∷ more
after_eight body more = append_assoc body (0 ∷ []) more

-- a section with these four bytes as its name
abbrev named : ℕ → ℕ → ℕ → ℕ → ℕ → List ℕ → Section
named a b c d sum body = record { name = a ∷ b ∷ c ∷ d ∷ []; sum = sum; body = body }

section_in-again : (a b c d sum : ℕ) (body more : List ℕ) → length body < 2 ^ 16 → sum < 2 ^ 16 → section_in (length body) (section_bytes (named a b c d sum body) ++ more) ≡ (named a b c d sum body, more)
unfolding section_in
section_in-again a b c d sum body more few small =
    let n = length body in
    let nine : 9 + n ≡ 8 + (n + 1) = omega arith in
    let behind : drop (n + 1) ((body ++ 0 ∷ []) ++ more) ≡ more =
    ap (drop (n + 1)) (after_eight body more) ∙ sym (drop-drop 1 n (body ++ 0 ∷ more)) ∙ ap (drop 1) (drop-append_seam body (0 ∷ more)) in
    let end : drop (9 + n) (section_bytes (named a b c d sum body) ++ more) ≡ more =
    ap (λ m. drop m (section_bytes (named a b c d sum body) ++ more)) nine ∙ drop-eight a b c d (n % 256) (n / 256 % 256) (sum % 256) (sum / 256 % 256) ((body ++ 0 ∷ []) ++ more) (n + 1) ∙ behind in
    let front : take n ((body ++ 0 ∷ []) ++ more) ≡ body = ap (take n) (after_eight body more) ∙ take-append_seam body (0 ∷ more) in
    rw (end, front, two_bytes sum small) refl

section_sized-again : (a b c d sum : ℕ) (body more : List ℕ) → length body < 2 ^ 16 → sum < 2 ^ 16 → section_sized (length body) (section_bytes (named a b c d sum body) ++ more) ≡ Some (named a b c d sum body, more)
unfolding section_sized
section_sized-again a b c d sum body more few small =
    let n = length body in
    let size : length (section_bytes (named a b c d sum body) ++ more) ≡ 8 + (n + 1 + length more) = simp (length-append) (omega arith) in
    let long : nat_lt (length (section_bytes (named a b c d sum body) ++ more)) (9 + n) ≡ false = rw size (below-false (8 + (n + 1 + length more)) (9 + n) (omega arith)) in
    let at : get_or ((body ++ 0 ∷ []) ++ more) n 0 ≡ 0 = ap (λ xs. get_or xs n 0) (after_eight body more) ∙ get_or-append_right body (0 ∷ more) n n 0 refl (omega arith) ∙ (let none : n - n ≡ 0 = omega arith in rw none refl) in
    let nul : get_or (section_bytes (named a b c d sum body) ++ more) (8 + n) 0 ≡ 0 = get-eight a b c d (n % 256) (n / 256 % 256) (sum % 256) (sum / 256 % 256) ((body ++ 0 ∷ []) ++ more) n ∙ at in
    rw (long, nul, section_in-again a b c d sum body more few small) refl

named-again : (a b c d sum : ℕ) (body more : List ℕ) → length body < 2 ^ 16 → sum < 2 ^ 16 → section_at (section_bytes (named a b c d sum body) ++ more) ≡ Some (named a b c d sum body, more)
unfolding section_at
named-again a b c d sum body more few small =
    let size : length (section_bytes (named a b c d sum body) ++ more) ≡ 8 + (length body + 1 + length more) = simp (length-append) (omega arith) in
    let long : nat_lt (length (section_bytes (named a b c d sum body) ++ more)) 9 ≡ false = rw size (below-false (8 + (length body + 1 + length more)) 9 (omega arith)) in
    rw (long, two_bytes (length body) few) (section_sized-again a b c d sum body more few small)

pub section-again : (section : Section) (more : List ℕ) → FitsSection section → section_at (section_bytes section ++ more) ≡ Some (section, more)
section-again section more fits =
    let Again : List ℕ → Type 0 = λ name. (let s : Section = record { name = name; sum = section.sum; body = section.body } in section_at (section_bytes s ++ more) ≡ Some (s, more)) in
    subst Again (sym (all_items section.name 4 fits.name)) (named-again _ _ _ _ section.sum section.body more fits.size fits.sum)

-- ---- what was read is spelled by the same bytes

skipped : {A : Type 0} (b : Bool) (o : Option A) (x : A) → cond b None o ≡ Some x → (b ≡ false) × (o ≡ Some x)
skipped true o x e = cc
skipped false o x e = (refl, e)

allowed : {A : Type 0} (b : Bool) (o : Option A) (x : A) → cond b o None ≡ Some x → (b ≡ true) × (o ≡ Some x)
allowed true o x e = (refl, e)
allowed false o x e = cc

some_is : {A : Type 0} (x y : A) → let l : Option A = Some x in let r : Option A = Some y in l ≡ r → x ≡ y
some_is x y e = cc

-- the section with `size` bytes of data at the front
abbrev of_size : ℕ → List ℕ → Section
of_size size bytes = record { name = take 4 bytes; sum = number_at 6 bytes; body = part_at 8 size bytes }

sized : (size : ℕ) (bytes more : List ℕ) (section : Section) → section_sized size bytes ≡ Some (section, more) → (9 + size ≤ length bytes) × (get_or bytes (8 + size) 0 ≡ 0) × (of_size size bytes ≡ section) × (drop (9 + size) bytes ≡ more)
unfolding section_sized section_in
sized size bytes more section e =
    let long = skipped (nat_lt (length bytes) (9 + size)) _ _ e in
    let ended = allowed (nat_eq (get_or bytes (8 + size) 0) 0) _ _ long.1 in
    let both = some_is _ (section, more) ended.1 in
    (grind (arith, nat_tests, long.0), grind (arith, nat_tests, ended.0), ap (λ (p : Section × List ℕ). p.0) both, ap (λ (p : Section × List ℕ). p.1) both)

measured : (bytes more : List ℕ) (section : Section) → section_at bytes ≡ Some (section, more) → section_sized (number_at 4 bytes) bytes ≡ Some (section, more)
unfolding section_at
measured bytes more section e = (skipped (nat_lt (length bytes) 9) _ _ e).1

pieces : (a b c d e f g h : ℕ) (size sum body rest more : List ℕ) → size ≡ e ∷ f ∷ [] → sum ≡ g ∷ h ∷ [] → rest ≡ body ++ 0 ∷ more
    → a ∷ b ∷ c ∷ d ∷ e ∷ f ∷ g ∷ h ∷ rest ≡ ((a ∷ b ∷ c ∷ d ∷ []) ++ (size ++ (sum ++ (body ++ 0 ∷ [])))) ++ more
pieces a b c d e f g h size sum body rest more s t r = rw (s, t, r, after_eight body more) refl

two_again : (low high : ℕ) → low < 256 → high < 256 → little_bytes 2 (low + 256 * (high + 0)) ≡ low ∷ high ∷ []
two_again low high l h =
    let first : (low + 256 * (high + 0)) % 256 ≡ low = omega arith in
    let second : (low + 256 * (high + 0)) / 256 % 256 ≡ high = omega arith in
    rw (first, second) refl

abbrev Spelled : ℕ → List ℕ → Type 0
Spelled size bytes = FitsSection (of_size size bytes) × (bytes ≡ section_bytes (of_size size bytes) ++ drop (9 + size) bytes)

-- the same for bytes whose first eight are given one by one
shown : (from rest : List ℕ) (size : ℕ) → AreBytes from → let bytes : List ℕ = items_from 0 8 from ++ rest in size ≡ number_at 4 bytes → size + 1 ≤ length rest → get_or bytes (8 + size) 0 ≡ 0 → Spelled size bytes
shown from rest size small is long nul =
    let at : ℕ → ℕ = λ k. get_or from k 0 in
    let bytes : List ℕ = items_from 0 8 from ++ rest in
    let count : length (take size rest) ≡ size = length-take-le size rest (omega arith) in
    let few : size < 2 ^ 16 = omega (arith, is, small 4, small 5) in
    let whole : at 4 + 256 * (at 5 + 0) ≡ length (take size rest) = sym is ∙ sym count in
    let body : rest ≡ take size rest ++ 0 ∷ drop (size + 1) rest =
    sym (take-append-drop size rest) ∙ ap (λ xs. take size rest ++ xs) (drop-cons rest size 0 (omega arith) ∙ (let got : get_or rest size 0 ≡ 0 = sym (get-eight (at 0) (at 1) (at 2) (at 3) (at 4) (at 5) (at 6) (at 7) rest size) ∙ nul in let plus : suc size ≡ size + 1 = omega arith in rw (got, plus) refl)) in
    let nine : 9 + size ≡ 8 + (size + 1) = omega arith in
    let behind : drop (9 + size) bytes ≡ drop (size + 1) rest = ap (λ m. drop m bytes) nine ∙ drop-eight (at 0) (at 1) (at 2) (at 3) (at 4) (at 5) (at 6) (at 7) rest (size + 1) in (
      record { name = refl; size = rw count few; sum = omega (arith, small 6, small 7) },
      rw behind (pieces (at 0) (at 1) (at 2) (at 3) (at 4) (at 5) (at 6) (at 7) _ _ (take size rest) rest (drop (size + 1) rest) (ap (little_bytes 2) (sym whole) ∙ two_again (at 4) (at 5) (small 4) (small 5)) (two_again (at 6) (at 7) (small 6) (small 7)) body),
    )

pub section_at-takes : (bytes more : List ℕ) (section : Section) → AreBytes bytes → section_at bytes ≡ Some (section, more) → FitsSection section × (bytes ≡ section_bytes section ++ more)
section_at-takes bytes more section small e =
    let size = number_at 4 bytes in
    let t = sized size bytes more section (measured bytes more section e) in
    let first = first_items bytes 8 (omega (arith, t.0)) in
    let left : length (drop 8 bytes) ≡ length bytes - 8 = length-drop 8 bytes in
    let enough : size + 1 ≤ length (drop 8 bytes) = omega (arith, t.0, left) in
    let Needs : List ℕ → Type 0 = λ xs. size ≡ number_at 4 xs → get_or xs (8 + size) 0 ≡ 0 → Spelled size xs in
    let is = subst Needs (sym first) (λ same nul. shown bytes (drop 8 bytes) size small same enough nul) refl t.1 in
    (subst FitsSection t.2 is.0, is.1 ∙ ap (λ s. section_bytes s ++ drop (9 + size) bytes) t.2 ∙ ap (λ xs. section_bytes section ++ xs) t.3)
