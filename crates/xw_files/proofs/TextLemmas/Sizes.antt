-- The size line.
use Rattle.std.proofs.Common.{◌≡◌, ℕ, zero, suc, ◌+◌, ◌<◌, ◌≤◌, true, false, ◌&&◌, cond, eqb, List, [], ◌∷◌, ◌++◌, length, Option, Some, None, get_or, take, drop, refl, sym, ap, subst, ◌∙◌, inl, inr, take-append-drop, drop-cons, append_assoc, length-append, ◌-◌, arith}
use Rattle.std.specs.Prelude.{position, decimal}
use Rattle.std.specs.List.{AllByRecursion, list_all}
use Rattle.std.specs.Char.{is_ascii_digit, digit_value}
use Rattle.std.specs.Str.Parse.{AllDigits, digits_value}
use Rattle.std.proofs.lemmas.Bool.{cases_Bool, ne_eqb, le-leb, leb-true, and_parts}
use Rattle.std.proofs.lemmas.Bool.Decides.{nat_tests}
use Rattle.std.proofs.lemmas.List.{take_at, drop_at}
use Rattle.std.proofs.lemmas.List.Quantifiers.{position-Some}
use Rattle.std.proofs.lemmas.Option.{cond_some}
use Rattle.std.proofs.lemmas.Fmt.{decimal_is_IsNumeral, length-decimal-le}
use Rattle.std.proofs.lemmas.Str.Parse.{digit_from_value}
use Rattle.xw_text.proofs.Position.{position_is_some}
use Rattle.xw_files.specs.Text.Lines.{is_blank, trimmed, trim_front, trim_back, before}
use Rattle.xw_files.specs.Text.Shape.{is_numeral, is_side, side_of, is_times, both, sides_around, sides_of}
use Rattle.xw_files.specs.Text.Relation.{AreDigitsOf, IsSizeLine}
use Rattle.xw_files.proofs.TextLemmas.Lines.{trim_front-none, trim_back-none}
use Rattle.xw_files.proofs.TextLemmas.Plains.{cases_option}
use Rattle.xw_files.proofs.TextLemmas.Fine.{IsFine, fine_blank}
use Rattle.xw_files.proofs.TextLemmas.Alls.{all_at, all_append, all_pass, pass_all}

-- ---- one number

-- what the test of one number says
side_digits : (digits : List ℕ) (side : ℕ) → side_of digits ≡ Some side → AreDigitsOf side digits
side_digits digits side e =
    let value = digits_value 10 digits in
    let chosen = cond_some (is_numeral digits && is_side value) value side e in
    let both = and_parts (is_numeral digits) (is_side value) chosen.0 in
    let numeral = and_parts _ (list_all is_ascii_digit digits) both.0 in
    let few = and_parts _ _ numeral.0 in
    let range = and_parts _ _ both.1 in
    record {
      several = (leb-true 1 (length digits) few.0, leb-true (length digits) 3 few.1);
      each = all_pass is_ascii_digit digits numeral.1;
      value = chosen.1;
      range = subst (λ (n : ℕ). (1 ≤ n) × (n ≤ 255)) chosen.1 (leb-true 1 value range.0, leb-true value 255 range.1);
    }

digits_side : (digits : List ℕ) (side : ℕ) → AreDigitsOf side digits → side_of digits ≡ Some side
digits_side digits side are =
    let counted : is_numeral digits ≡ true = rw (le-leb 1 (length digits) are.several.0, le-leb (length digits) 3 are.several.1, pass_all is_ascii_digit digits are.each) refl in
    let sided : is_side side ≡ true = rw (le-leb 1 side are.range.0, le-leb side 255 are.range.1) refl in
    let answer : ℕ → Option ℕ = λ value. cond (is_numeral digits && is_side value) (Some value) None in
    ap answer are.value ∙ rw (counted, sided) refl

-- ---- both numbers

some_is : {A : Type 0} (x y : A) → Some x ≡ Some y → x ≡ y
some_is x y e = cc

both_are : (width height : Option ℕ) (w h : ℕ) → both width height ≡ Some (w, h) → (width ≡ Some w) × (height ≡ Some h)
both_are None height w h e = absurd cc
both_are (Some width) None w h e = absurd cc
both_are (Some width) (Some height) w h e = let same = some_is (width, height) (w, h) e in (ap (λ (p : ℕ × ℕ). Some p.0) same, ap (λ (p : ℕ × ℕ). Some p.1) same)

no_sides : (line : List ℕ) (sides : ℕ × ℕ) → sides_around line None ≡ Some sides → ⊥
no_sides line sides e = cc

pub sides_line : (line : List ℕ) (width height : ℕ) → sides_of line ≡ Some (width, height) → IsSizeLine width height line
unfolding sides_of
sides_line line width height e =
    elim (cases_option (position is_times line)) [
      | inl found ↦
          let index = found.0 in
          let there = position-Some is_times line index 0 found.1 in
          let next : suc index ≡ index + 1 = omega arith in
          let two = both_are _ _ width height (rw found.1 at e) in
          record {
            left = take index line;
            times = get_or line index 0;
            right = drop (index + 1) line;
            parts = sym (take-append-drop index line) ∙ ap (λ (t : List ℕ). take index line ++ t) (drop-cons line index 0 there.0 ∙ ap (λ (n : ℕ). get_or line index 0 ∷ drop n line) next);
            is_times = there.1;
            width_there = side_digits (trimmed (take index line)) width two.0;
            height_there = side_digits (trimmed (drop (index + 1) line)) height two.1;
          }
      | inr none ↦ absurd (no_sides line (width, height) (rw none at e))
    ]

-- ---- no digit and no blank is an x

not_times : (byte : ℕ) → is_ascii_digit byte ≡ true → is_times byte ≡ false
not_times byte is = grind (arith, nat_tests)

blank_not_times : (byte : ℕ) → is_blank byte ≡ true → is_times byte ≡ false
blank_not_times byte is = grind (arith, nat_tests)

abbrev NoTimes : List ℕ → Type 0
NoTimes line = AllByRecursion (λ byte. is_times byte ≡ false) line

digits_no_times : (digits : List ℕ) → AllByRecursion (λ byte. is_ascii_digit byte ≡ true) digits → NoTimes digits
digits_no_times [] all = tt
digits_no_times (byte ∷ digits) all = (not_times byte all.0, digits_no_times digits all.1)

front_no_times : (line : List ℕ) → NoTimes (trim_front line) → NoTimes line
front_no_times [] none = tt
front_no_times (byte ∷ line) none =
    elim (cases_Bool (is_blank byte)) [
      | inl blank ↦ (blank_not_times byte blank, front_no_times line (rw blank at none))
      | inr other ↦ rw other at none
    ]

last_no_times : (byte : ℕ) (rest : List ℕ) → NoTimes (before byte rest) → (is_times byte ≡ false) × NoTimes rest
last_no_times byte [] none =
    elim (cases_Bool (is_blank byte)) [
      | inl blank ↦ (blank_not_times byte blank, tt)
      | inr other ↦ rw other at none
    ]
last_no_times byte (next ∷ rest) none = none

back_no_times : (line : List ℕ) → NoTimes (trim_back line) → NoTimes line
back_no_times [] none = tt
back_no_times (byte ∷ line) none = let parts = last_no_times byte (trim_back line) none in (parts.0, back_no_times line parts.1)

left_at : (a b : List ℕ) (k : ℕ) → k < length a → get_or (a ++ b) k 0 ≡ get_or a k 0
left_at [] b k lt = absurd (omega arith)
left_at (x ∷ a) b zero lt = refl
left_at (x ∷ a) b (suc k) lt = left_at a b k (omega arith)

middle_is : (a : List ℕ) (x : ℕ) (b : List ℕ) → get_or (a ++ x ∷ b) (length a) 0 ≡ x
middle_is [] x b = refl
middle_is (y ∷ a) x b = middle_is a x b

-- the first x is the one between the numbers
sides_parted : (left right : List ℕ) (times width height : ℕ) → is_times times ≡ true → AreDigitsOf width (trimmed left) → AreDigitsOf height (trimmed right) → sides_of (left ++ times ∷ right) ≡ Some (width, height)
unfolding sides_of
sides_parted left right times width height is wide high =
    let line = left ++ times ∷ right in
    let none = front_no_times left (back_no_times (trim_front left) (digits_no_times (trimmed left) wide.each)) in
    let index : position is_times line ≡ Some (length left) =
    position_is_some is_times line (length left) 0 (omega (arith, length-append left (times ∷ right)))
    (λ k lt. ap is_times (left_at left (times ∷ right) k lt) ∙ all_at (λ byte. is_times byte ≡ false) left none k 0 lt)
    (ap is_times (middle_is left times right) ∙ is) in
    let back : drop (length left + 1) line ≡ right = ap (drop (length left + 1)) (sym (append_assoc left (times ∷ []) right)) ∙ drop_at (left ++ times ∷ []) right (length left + 1) (length-append left (times ∷ [])) in
    let one : side_of (trimmed (take (length left) line)) ≡ Some width = ap (λ (t : List ℕ). side_of (trimmed t)) (take_at left (times ∷ right) (length left) refl) ∙ digits_side (trimmed left) width wide in
    let two : side_of (trimmed (drop (length left + 1) line)) ≡ Some height = ap (λ (t : List ℕ). side_of (trimmed t)) back ∙ digits_side (trimmed right) height high in
    ap (sides_around line) index ∙ ap (λ (w : Option ℕ). both w (side_of (trimmed (drop (length left + 1) line)))) one ∙ ap (both (Some width)) two

pub line_sides : (line : List ℕ) (width height : ℕ) → IsSizeLine width height line → sides_of line ≡ Some (width, height)
line_sides line width height is = ap sides_of is.parts ∙ sides_parted is.left is.right is.times width height is.is_times is.width_there is.height_there

-- ---- the size line as it is written

pub record IsDigits (digits : List ℕ) : Type 0 where
  pub fine : AllByRecursion IsFine digits
  pub all : AllByRecursion (λ byte. is_ascii_digit byte ≡ true) digits

digit_is : (c : ℕ) → digit_value c < 10 → IsFine c × (is_ascii_digit c ≡ true)
digit_is c small =
    let range = digit_from_value c small in
    let apart : (n : ℕ) → n < 48 → eqb c n ≡ false = λ n lt. ne_eqb c n (λ e. omega (arith, range.0)) in
    let above : (n : ℕ) → 57 < n → eqb c n ≡ false = λ n lt. ne_eqb c n (λ e. omega (arith, range.1)) in
    (((rw (apart 0 (omega arith), apart 10 (omega arith), apart 13 (omega arith)) refl), ((rw (apart 32 (omega arith), apart 9 (omega arith)) refl), above 60 (omega arith))), rw (le-leb 48 c range.0, le-leb c 57 range.1) refl)

digits_are : (digits : List ℕ) → AllDigits 10 digits → IsDigits digits
digits_are [] all = record { fine = tt; all = tt }
digits_are (c ∷ digits) all =
    let first = digit_is c all.0 in
    let rest = digits_are digits all.1 in
    record { fine = (first.0, rest.fine); all = (first.1, rest.all) }

decimal_bare : (n : ℕ) → n ≤ 255 → trimmed (decimal n) ≡ decimal n
decimal_bare n small =
    let numeral = decimal_is_IsNumeral n (omega arith) in
    let digits = digits_are (decimal n) numeral.0.1 in
    ap trim_back (trim_front-none (decimal n) (fine_blank (decimal n) 0 digits.fine)) ∙ trim_back-none (decimal n) numeral.0.0 (fine_blank (decimal n) (length (decimal n) - 1) digits.fine)

side_written : (n : ℕ) → (1 ≤ n) × (n ≤ 255) → AreDigitsOf n (trimmed (decimal n))
side_written n range =
    let numeral = decimal_is_IsNumeral n (omega arith) in
    let digits = digits_are (decimal n) numeral.0.1 in
    subst (AreDigitsOf n) (sym (decimal_bare n range.1)) (record {
      several = (numeral.0.0, length-decimal-le 3 n (omega arith) (omega arith) (omega arith));
      each = digits.all;
      value = numeral.1;
      range = range;
    })

pub size_is : (width height : ℕ) → (1 ≤ width) × (width ≤ 255) → (1 ≤ height) × (height ≤ 255) → AllByRecursion IsFine (decimal width ++ 120 ∷ decimal height) × IsSizeLine width height (decimal width ++ 120 ∷ decimal height)
size_is width height wide high =
    let left = digits_are (decimal width) (decimal_is_IsNumeral width (omega arith)).0.1 in
    let right = digits_are (decimal height) (decimal_is_IsNumeral height (omega arith)).0.1 in (
      all_append IsFine (decimal width) (120 ∷ decimal height) left.fine ((refl, (refl, refl)), right.fine),
      record { left = decimal width; times = 120; right = decimal height; parts = refl; is_times = refl; width_there = side_written width wide; height_there = side_written height high },
    )
