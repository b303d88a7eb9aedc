-- Escapes, byte by byte.
use Rattle.std.proofs.Common.{◌≡◌, ℕ, Bool, true, false, not, ◌&&◌, ◌||◌, eqb, List, [], ◌∷◌, ◌++◌, length, map, flat_map, Some, None, refl, sym, ◌∙◌, ap, subst, inl, inr, append_assoc}
use Rattle.std.specs.Prelude.{Option, nat_eq, slice_index, if◌then◌else◌}
use Rattle.std.specs.Option.{is_some}
use Rattle.std.specs.List.{range_with_len}
use Rattle.std.proofs.lemmas.Bool.{eqb-true, and_parts, cases_Bool}
use Rattle.std.proofs.lemmas.List.Folds.{list_any-append}
use Rattle.std.proofs.lemmas.List.FromFn.{fill_by_all}
use Rattle.xw_answers.specs.Escape.{meaning, added, one_byte, begins_escape, joined, text_left, text_spelled, letter_for, escaped, is_end, spelled_at, escaped_text, has_nul}

-- ---- a text with escapes is read back unchanged

-- the letter of an escape gives the byte, and a byte without an escape is not a backslash
abbrev Fits : ℕ → Option ℕ → Type 0
Fits byte None = eqb byte 92 ≡ false
Fits byte (Some letter) = meaning letter ≡ Some byte

chosen : (test : Bool) (byte letter : ℕ) (other : Option ℕ) → (test ≡ true → meaning letter ≡ Some byte) → (test ≡ false → Fits byte other) → Fits byte (if test then Some letter else other)
chosen true byte letter other here there = here refl
chosen false byte letter other here there = there refl

letter_fits : (at_end : Bool) (byte : ℕ) → Fits byte (letter_for at_end byte)
letter_fits at_end byte =
    chosen (eqb byte 10) byte 110 _ (λ e. ap Some (sym (eqb-true byte 10 e)))
    (λ _. chosen (eqb byte 13) byte 114 _ (λ e. ap Some (sym (eqb-true byte 13 e)))
    (λ _. chosen (eqb byte 92) byte 92 _ (λ e. ap Some (sym (eqb-true byte 92 e)))
    (λ plain. chosen (at_end && eqb byte 32) byte 115 _ (λ e. ap Some (sym (eqb-true byte 32 (and_parts at_end (eqb byte 32) e).1)))
    (λ _. chosen (at_end && eqb byte 9) byte 116 _ (λ e. ap Some (sym (eqb-true byte 9 (and_parts at_end (eqb byte 9) e).1)))
    (λ _. plain)))))

nothing_before : (rest : Option (List ℕ)) → joined (Some []) rest ≡ rest
nothing_before None = refl
nothing_before (Some rest) = refl

piece_read : (byte : ℕ) (letter : Option ℕ) (rest : List ℕ) → Fits byte letter → text_left false (escaped byte letter ++ rest) ≡ joined (Some (byte ∷ [])) (text_left false rest)
piece_read byte None rest plain = rw plain refl
piece_read byte (Some letter) rest means = nothing_before (joined (one_byte (meaning letter)) (text_left false rest)) ∙ ap (λ found. joined (one_byte found) (text_left false rest)) means

pieces_read : (text indices : List ℕ) → text_left false (flat_map (spelled_at text) indices) ≡ Some (map (λ index. slice_index text index) indices)
pieces_read text [] = refl
pieces_read text (index ∷ indices) =
    piece_read (slice_index text index) (letter_for (is_end text index) (slice_index text index)) (flat_map (spelled_at text) indices) (letter_fits (is_end text index) (slice_index text index))
    ∙ ap (joined (Some (slice_index text index ∷ []))) (pieces_read text indices)

pub reads_back : (text : List ℕ) → text_spelled (escaped_text text) ≡ Some text
reads_back text =
    pieces_read text (range_with_len 0 (length text))
    ∙ ap Some (sym (fill_by_all (λ index. slice_index text index) text (length text) 0 refl (λ k h. refl)))

-- ---- reading a spelling

judged : (front rest : Option (List ℕ)) → not (is_some front) ≡ false → is_some (joined front rest) ≡ is_some rest
judged None rest fine = cc
judged (Some front) None fine = refl
judged (Some front) (Some rest) fine = refl

-- after a byte that is no fault, the rest decides whether the spelling is valid
pub same_judged : (within : Bool) (byte : ℕ) (bytes : List ℕ) → not (is_some (added within byte)) ≡ false → is_some (text_left within (byte ∷ bytes)) ≡ is_some (text_left (begins_escape within byte) bytes)
same_judged true byte bytes fine = judged (added true byte) (text_left (begins_escape true byte) bytes) fine
same_judged false byte bytes fine = judged (added false byte) (text_left (begins_escape false byte) bytes) fine

-- the two parts of a text
pub parts : (front rest : Option (List ℕ)) (piece : List ℕ) → joined front rest ≡ Some piece → (a : List ℕ) × (b : List ℕ) × (front ≡ Some a) × (rest ≡ Some b) × (piece ≡ a ++ b)
parts None rest piece e = cc
parts (Some a) None piece e = cc
parts (Some a) (Some b) piece e = (a, b, refl, refl, cc)

pub next_parts : (within : Bool) (byte : ℕ) (bytes piece : List ℕ) → text_left within (byte ∷ bytes) ≡ Some piece
    → (a : List ℕ) × (b : List ℕ) × (added within byte ≡ Some a) × (text_left (begins_escape within byte) bytes ≡ Some b) × (piece ≡ a ++ b)
next_parts true byte bytes piece e = parts (added true byte) (text_left (begins_escape true byte) bytes) piece e
next_parts false byte bytes piece e = parts (added false byte) (text_left (begins_escape false byte) bytes) piece e

pub nothing_left : (within : Bool) (piece : List ℕ) → text_left within [] ≡ Some piece → piece ≡ []
nothing_left true piece e = cc
nothing_left false piece e = cc

-- ---- a NUL has no escape

not_nul : (byte n : ℕ) → eqb 0 n ≡ false → eqb byte n ≡ true → eqb 0 byte ≡ false
not_nul byte n some is = subst (λ b. eqb 0 b ≡ false) (sym (eqb-true byte n is)) some

meant : (test : Bool) (x byte : ℕ) (other : Option ℕ) (a : List ℕ) → (test ≡ true → eqb 0 byte ≡ false) → eqb 0 x ≡ false → (one_byte other ≡ Some a → has_nul a ≡ eqb 0 byte)
    → one_byte (if test then Some x else other) ≡ Some a → has_nul a ≡ eqb 0 byte
meant true x byte other a here some rest is =
    let same : a ≡ x ∷ [] = cc in
    ap has_nul same ∙ ap (λ b. b || false) some ∙ sym (here refl)
meant false x byte other a here some rest is = rest is

front_nul : (within : Bool) (byte : ℕ) (a : List ℕ) → added within byte ≡ Some a → has_nul a ≡ eqb 0 byte
front_nul true byte a =
    meant (eqb byte 110) 10 byte _ a (not_nul byte 110 refl) refl
    (meant (eqb byte 114) 13 byte _ a (not_nul byte 114 refl) refl
    (meant (eqb byte 116) 9 byte _ a (not_nul byte 116 refl) refl
    (meant (eqb byte 115) 32 byte _ a (not_nul byte 115 refl) refl
    (meant (eqb byte 92) 92 byte _ a (not_nul byte 92 refl) refl (λ e. cc)))))
front_nul false byte a = by_test (eqb byte 92) (not_nul byte 92 refl) where
  by_test : (test : Bool) → (test ≡ true → eqb 0 byte ≡ false) → (if test then Some [] else Some (byte ∷ [])) ≡ Some a → has_nul a ≡ eqb 0 byte
  by_test true here e = let same : a ≡ [] = cc in ap has_nul same ∙ sym (here refl)
  by_test false here e = let same : a ≡ byte ∷ [] = cc in ap has_nul same ∙ elim (cases_Bool (eqb 0 byte)) [ inl is ↦ rw is refl | inr is ↦ rw is refl ]

pub nul_spelled : (within : Bool) (spelling piece : List ℕ) → text_left within spelling ≡ Some piece → has_nul piece ≡ has_nul spelling
nul_spelled within [] piece e = ap has_nul (nothing_left within piece e)
nul_spelled within (byte ∷ bytes) piece e =
    let found = next_parts within byte bytes piece e in
    ap has_nul found.4 ∙ list_any-append (nat_eq 0) found.0 found.1
    ∙ ap (λ b. b || has_nul found.1) (front_nul within byte found.0 found.2)
    ∙ ap (λ b. eqb 0 byte || b) (nul_spelled (begins_escape within byte) bytes found.1 found.3)

-- ---- building the text of a spelling

pub grown : (within : Bool) (byte : ℕ) (left bytes rest items front piece more : List ℕ) → left ≡ byte ∷ bytes → text_left within left ≡ Some rest → front ++ piece ≡ items ++ rest
    → ((a : List ℕ) → added within byte ≡ Some a → a ≡ more)
    → (others : List ℕ) × (text_left (begins_escape within byte) bytes ≡ Some others) × (front ++ piece ≡ (items ++ more) ++ others)
grown within byte left bytes rest items front piece more next is so_far adds =
    let found = next_parts within byte bytes rest (ap (text_left within) (sym next) ∙ is) in
    let same : found.0 ≡ more = adds found.0 found.2 in
    (found.1, found.3, so_far ∙ ap (λ xs. items ++ xs) (found.4 ∙ ap (λ a. a ++ found.1) same) ∙ sym (append_assoc items more found.1))

-- ---- only the empty spelling gives the empty text

no_meaning : (found : Option ℕ) → one_byte found ≡ Some [] → ⊥
no_meaning None e = cc
no_meaning (Some byte) e = cc

both_empty : (a b : List ℕ) → [] ≡ a ++ b → (a ≡ []) × (b ≡ [])
both_empty [] b e = (refl, sym e)
both_empty (x ∷ a) b e = cc

never_nothing : (bytes : List ℕ) → text_left true bytes ≡ Some [] → ⊥
never_nothing [] e = cc
never_nothing (byte ∷ bytes) e =
    let found = next_parts true byte bytes [] e in
    let empty = both_empty found.0 found.1 found.4 in
    no_meaning (meaning byte) (found.2 ∙ ap Some empty.0)

pub spells_some : (spelling piece : List ℕ) → text_spelled spelling ≡ Some piece → eqb (length spelling) 0 ≡ false → piece ≡ [] → ⊥
spells_some [] piece e some none = cc
spells_some (byte ∷ bytes) piece e some none =
    let found = next_parts false byte bytes [] (e ∙ ap Some none) in
    let empty = both_empty found.0 found.1 found.4 in
    elim (cases_Bool (eqb byte 92)) [
      | inl is ↦ never_nothing bytes (ap (λ b. text_left b bytes) (sym is) ∙ found.3 ∙ ap Some empty.1)
      | inr is ↦ let plain : added false byte ≡ Some (byte ∷ []) = rw is refl in let bad : Some (byte ∷ []) ≡ Some [] = sym plain ∙ found.2 ∙ ap Some empty.0 in cc
    ]
