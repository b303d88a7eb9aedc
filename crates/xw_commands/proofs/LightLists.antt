-- Lists of lights at the start of a text.
use Rattle.std.proofs.Common.{◌≡◌, ℕ, zero, suc, ◌+◌, ◌<◌, ◌≤◌, true, false, ◌==◌, List, [], ◌∷◌, length, take, drop, Option, Some, None, Result, Ok, Err, IfSome, IfNone, is_some, refl, sym, ◌∙◌, ap, inl, inr, take-append-drop, length-append, length-drop, arith}
use Rattle.std.specs.Iterator.{YieldsFirst, MakesProgress, item_count}
use Rattle.std.proofs.lemmas.Bool.{cases_Bool}
use Rattle.xw_commands.specs.declared.command.LightArg.{LightArg}
use Rattle.xw_commands.specs.declared.command.SyntaxFault.{SyntaxFault}
use Rattle.xw_commands.specs.Line.{trimmed_start, first_word, first_index, is_ink, is_blank, number_in}
use Rattle.xw_text.specs.Digits.{is_number}
use Rattle.xw_commands.specs.Names.{directions}
use Rattle.xw_commands.specs.Reading.{Reading, ◌>>=◌, given, wanted, then_others, next_word, HasFault, word, number, direction, named, lookup, before_others, first_lights, lights, lights_first}
use Rattle.xw_text.proofs.DigitLemmas.{has_digits}

-- ---- how much is read

split : (n : ℕ) (text : List ℕ) → length (take n text) + length (drop n text) ≡ length text
split n text = sym (length-append (take n text) (drop n text)) ∙ ap length (take-append-drop n text)

-- a word and what follows it are no longer than the text
first_word_fits : (text : List ℕ) (found : List ℕ × List ℕ) → first_word text ≡ Some found → length found.0 + length found.1 ≤ length text
first_word_fits text found e =
    let start = trimmed_start text in
    let at = first_index is_blank start in
    elim (cases_Bool (length start == 0)) [
      | inl none ↦ let bad : None ≡ Some found = rw none at e in cc
      | inr some ↦
          let is : Some (take at start, drop at start) ≡ Some found = rw some at e in
          let same : (take at start, drop at start) ≡ found = cc in
          let parts : length found.0 + length found.1 ≡ length start = ap (λ (p : List ℕ × List ℕ). length p.0 + length p.1) (sym same) ∙ split at start in
          let trimmed = length-drop (first_index is_ink text) text in
          omega (arith, parts, trimmed)
    ]

next_is : (first : Option (List ℕ × List ℕ)) (found : List ℕ × List ℕ) → next_word first ≡ Ok found → first ≡ Some found
next_is None found e = cc
next_is (Some first) found e = cc

then_parts : {A B : Type 0} (read : Result (A × List ℕ) SyntaxFault) (others : A → Reading B) (found : B × List ℕ) → then_others read others ≡ Ok found
    → (first : A × List ℕ) × (read ≡ Ok first) × (others first.0 first.1 ≡ Ok found)
then_parts (Ok first) others found e = (first, refl, e)
then_parts (Err fault) others found e = cc

wanted_is : {A : Type 0} (value : Option A) (rest : List ℕ) (found : A × List ℕ) → wanted value rest ≡ Ok found → (value ≡ Some found.0) × (found.1 ≡ rest)
wanted_is None rest found e = cc
wanted_is {A} (Some x) rest found e =
    let same : (x, rest) ≡ found = cc in
    (ap (λ (p : A × List ℕ). Some p.0) same, sym (ap (λ (p : A × List ℕ). p.1) same))

value_has_digits : (digits : List ℕ) (n : ℕ) → number_in digits ≡ Some n → 1 ≤ length digits
value_has_digits digits n e =
    elim (cases_Bool (is_number 18 digits)) [
      | inl is ↦ has_digits digits is
      | inr not ↦ let bad : None ≡ Some n = rw not at e in cc
    ]

number_shortens : (rest : List ℕ) (found : ℕ × List ℕ) → number rest ≡ Ok found → length found.1 < length rest
number_shortens rest found e =
    let parts = then_parts (word rest) (λ w. wanted (number_in w)) found e in
    let fits = first_word_fits rest parts.0 (next_is (first_word rest) parts.0 parts.1) in
    let value = wanted_is (number_in parts.0.0) parts.0.1 found parts.2 in
    let some = value_has_digits parts.0.0 found.0 value.0 in
    let left : length found.1 ≡ length parts.0.1 = ap length value.1 in
    omega (arith, fits, some, left)

direction_fits : (rest : List ℕ) (found : _ × List ℕ) → direction rest ≡ Ok found → length found.1 ≤ length rest
direction_fits rest found e =
    let parts = then_parts (word rest) (λ w. wanted (lookup directions w)) found e in
    let fits = first_word_fits rest parts.0 (next_is (first_word rest) parts.0 parts.1) in
    let value = wanted_is (lookup directions parts.0.0) parts.0.1 found parts.2 in
    let left : length found.1 ≡ length parts.0.1 = ap length value.1 in
    omega (arith, fits, left)

-- a light has at least one byte
pub light_shortens : (rest : List ℕ) (found : LightArg × List ℕ) → named rest ≡ Ok found → length found.1 < length rest
light_shortens rest found e =
    let first = then_parts (number rest) (λ count. direction >>= (λ way. given (record { number = count; direction = way }))) found e in
    let second = then_parts (direction first.0.1) (λ way. given (record { number = first.0.0; direction = way })) found first.2 in
    let shorter = number_shortens rest first.0 first.1 in
    let fits = direction_fits first.0.1 second.0 second.1 in
    let same : Ok (record { number = first.0.0; direction = second.0.0 }, second.0.1) ≡ Ok found = second.2 in
    let pair : (record { number = first.0.0; direction = second.0.0 }, second.0.1) ≡ found = cc in
    let left : length second.0.1 ≡ length found.1 = ap (λ (p : LightArg × List ℕ). length p.1) pair in
    omega (arith, shorter, fits, left)

-- ---- all lights

same_others : (rest : List ℕ) (f g : List ℕ → List LightArg × List ℕ) (first : Result (LightArg × List ℕ) SyntaxFault)
    → ((found : LightArg × List ℕ) → first ≡ Ok found → f found.1 ≡ g found.1) → before_others rest f first ≡ before_others rest g first
same_others rest f g (Ok found) same = ap (λ (p : List LightArg × List ℕ). (found.0 ∷ p.0, p.1)) (same found refl)
same_others rest f g (Err fault) same = refl

-- more than the bytes of a text are not needed
enough : (n m : ℕ) (rest : List ℕ) → length rest ≤ n → length rest ≤ m → first_lights n rest ≡ first_lights m rest
enough zero zero rest a b = refl
enough zero (suc m) [] a b = refl
enough zero (suc m) (byte ∷ bytes) a b = absurd (omega (arith, a))
enough (suc n) zero [] a b = refl
enough (suc n) zero (byte ∷ bytes) a b = absurd (omega (arith, b))
enough (suc n) (suc m) rest a b =
    same_others rest (first_lights n) (first_lights m) (named rest) (λ found e. let shorter = light_shortens rest found e in enough n m found.1 (omega (arith, shorter, a)) (omega (arith, shorter, b)))

no_fault : (first : Result (LightArg × List ℕ) SyntaxFault) (found : LightArg × List ℕ) → HasFault first → first ≡ Ok found → ⊥
no_fault (Ok first) found fault e = fault
no_fault (Err f) found fault e = cc

-- a text that begins with a light
pub lights_more : (rest left : List ℕ) (light : LightArg) → named rest ≡ Ok (light, left) → lights_first rest ≡ (light ∷ (lights_first left).0, (lights_first left).1)
lights_more [] left light e = absurd (no_fault (named []) (light, left) tt e)
lights_more (byte ∷ bytes) left light e =
    let shorter = light_shortens (byte ∷ bytes) (light, left) e in
    ap (before_others (byte ∷ bytes) (first_lights (length bytes))) e
    ∙ ap (λ (p : List LightArg × List ℕ). (light ∷ p.0, p.1)) (enough (length bytes) (length left) left (omega (arith, shorter)) (omega arith))

none_before : (rest : List ℕ) (others : List ℕ → List LightArg × List ℕ) (first : Result (LightArg × List ℕ) SyntaxFault) → HasFault first → before_others rest others first ≡ ([], rest)
none_before rest others (Ok found) fault = absurd fault
none_before rest others (Err f) fault = refl

-- a text that does not
pub lights_none : (rest : List ℕ) → HasFault (named rest) → lights_first rest ≡ ([], rest)
lights_none [] fault = refl
lights_none (byte ∷ bytes) fault = none_before (byte ∷ bytes) (first_lights (length bytes)) (named (byte ∷ bytes)) fault

-- ---- reading all of them

pub shortens_if_some : (rest left : List ℕ) (result : Option LightArg) → IfSome result (λ light. named rest ≡ Ok (light, left)) → is_some result ≡ true → length left < length rest
shortens_if_some rest left None some is = cc
shortens_if_some rest left (Some light) some is = light_shortens rest (light, left) some

pub left_if_some : (rest left : List ℕ) (result : Option LightArg) → IfSome result (λ light. named rest ≡ Ok (light, left)) → is_some result ≡ true → (lights_first rest).1 ≡ (lights_first left).1
left_if_some rest left None some is = cc
left_if_some rest left (Some light) some is = ap (λ (p : List LightArg × List ℕ). p.1) (lights_more rest left light some)

pub all_read : (start rest left : List ℕ) (result : Option LightArg) → (lights_first start).1 ≡ (lights_first rest).1 → IfNone result (HasFault (named rest)) → IfNone result (left ≡ rest) → is_some result ≡ false
    → lights start ≡ Ok ((lights_first start).0, left)
all_read start rest left None so_far none same is =
    ap (λ bytes. Ok ((lights_first start).0, bytes)) (so_far ∙ ap (λ (p : List LightArg × List ℕ). p.1) (lights_none rest none) ∙ sym same)
all_read start rest left (Some light) so_far none same is = cc

-- ---- the iterator

pub light_yielded : (rest left : List ℕ) (result : Option LightArg) → IfSome result (λ light. named rest ≡ Ok (light, left)) → IfNone result (HasFault (named rest)) → IfNone result (left ≡ rest)
    → YieldsFirst (λ lights. lights) (lights_first rest).0 result (lights_first left).0
light_yielded rest left None some none same =
    (ap (λ (p : List LightArg × List ℕ). p.0) (lights_none rest none), ap (λ bytes. (lights_first bytes).0) same ∙ ap (λ (p : List LightArg × List ℕ). p.0) (lights_none rest none))
light_yielded rest left (Some light) some none same = ap (λ (p : List LightArg × List ℕ). p.0) (lights_more rest left light some)

pub light_progress : (before after : List LightArg) (result : Option LightArg) → YieldsFirst (λ lights. lights) before result after → MakesProgress (λ _. Unit {0}) (item_count (λ lights. lights)) before result after
light_progress before after None yields = record { on = λ _. tt; keeps = tt; rests = λ _. tt }
light_progress before after (Some light) yields = record { on = λ _. (tt, tt, omega (arith, ap length yields)); keeps = tt; rests = λ _. tt }
