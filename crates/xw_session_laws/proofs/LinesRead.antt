-- Lines of commands, read word by word.
use Rattle.std.proofs.Common.{◌≡◌, ℕ, zero, suc, ◌^◌, ◌<◌, ◌≤◌, Bool, true, false, not, ◌&&◌, ◌||◌, le-leb, List, [], ◌∷◌, ◌++◌, length, take, drop, get_or, Some, None, refl, sym, ◌∙◌, ap, inl, inr, append-nil, append_assoc, lit<, arith}
use Rattle.std.specs.Prelude.{Option, Result, Ok, Err, decimal, position, unwrap_or, nat_le, nat_eq, if◌then◌else◌}
use Rattle.std.specs.List.{list_all}
use Rattle.std.specs.Str.Parse.{AllDigits, digits_value}
use Rattle.std.proofs.lemmas.Bool.{cases_lt}
use Rattle.std.proofs.lemmas.Bool.Decides.{nat_tests}
use Rattle.std.proofs.lemmas.List.{length-append}
use Rattle.std.proofs.lemmas.Fmt.{decimal_is_IsNumeral, decimal_nonempty, length-decimal-le}
use Rattle.std.proofs.lemmas.Str.Parse.{digit_from_value}
use Rattle.std.proofs.lemmas.Bool.{ne_eqb}
use Rattle.xw_grid.specs.declared.cell.Direction.{Direction}
use Rattle.xw_grid.specs.declared.cell.Direction.TheVariants.{Across, Down}
use Rattle.xw_grid.specs.declared.cell.Side.{Side}
use Rattle.xw_grid.specs.declared.cell.Side.TheVariants.{Right, Below}
use Rattle.xw_grid.specs.declared.cell.Symmetry.{Symmetry}
use Rattle.xw_grid.specs.declared.cell.Symmetry.TheVariants as kinds
use Rattle.xw_text.proofs.Position.{position_is_some, position_is_none}
use Rattle.xw_commands.specs.declared.command.SyntaxFault.{SyntaxFault}
use Rattle.xw_commands.specs.declared.command.SyntaxFault.TheVariants as faults
use Rattle.xw_text.specs.Digits.{is_digit}
use Rattle.xw_commands.specs.Line.{is_blank, is_ink, number_in, grade_in, byte_in, first_index, trimmed_start, parted, first_word}
use Rattle.xw_commands.specs.declared.command.CellArg.{CellArg}
use Rattle.xw_commands.specs.Reading.{Reading, ◌>>=◌, given, wanted, is_ended, word, number, grade, grade_if_any, byte, lookup, key_word, direction, side, symmetry, switch, spot}
use Rattle.xw_commands.specs.Names.{direction_name, side_name, symmetry_name, switch_name, directions, sides, symmetries, switches}
use Rattle.xw_answers.specs.Text.{line_of}

-- ---- words with a space between them

-- words with a space before each
abbrev pub spaced : List (List ℕ) → List ℕ
spaced [] = []
spaced (w ∷ ws) = 32 ∷ w ++ spaced ws

-- a line is its first word, the others with a space before each, and an LF
pub line_parts : (w : List ℕ) (ws : List (List ℕ)) → line_of (w ∷ ws) ≡ (w ++ spaced ws) ++ 10 ∷ []
line_parts w [] = ap (λ xs. xs ++ 10 ∷ []) (sym (append-nil w))
line_parts w (next ∷ ws) =
    ap (λ xs. (w ++ 32 ∷ []) ++ xs) (line_parts next ws)
    ∙ append_assoc w (32 ∷ []) ((next ++ spaced ws) ++ 10 ∷ [])
    ∙ sym (append_assoc w (32 ∷ next ++ spaced ws) (10 ∷ []))

-- the word is not empty, and has no space or tab
abbrev pub IsOneWord : List ℕ → Type 0
IsOneWord [] = ⊥
IsOneWord (byte ∷ bytes) = list_all is_ink (byte ∷ bytes) ≡ true

-- ---- the first index of a byte

first_index_is : (test : ℕ → Bool) (xs : List ℕ) (n : ℕ) → n ≤ length xs → ((k : ℕ) → k < n → test (get_or xs k 0) ≡ false) → (n < length xs → test (get_or xs n 0) ≡ true) → first_index test xs ≡ n
first_index_is test xs n most before here =
    elim (cases_lt n (length xs)) [
      | inl within ↦ ap (λ at. unwrap_or at (length xs)) (position_is_some test xs n 0 within before (here within))
      | inr past ↦
          let none : position test xs ≡ None = position_is_none test xs 0 (λ k within. before k (omega (arith, past, within))) in
          let all : length xs ≡ n = omega (arith, past, most) in
          ap (λ at. unwrap_or at (length xs)) none ∙ all
    ]

pub both : (a b : Bool) → (a && b) ≡ true → (a ≡ true) × (b ≡ true)
both true b h = (refl, h)
both false b h = cc

not_blank : (byte : ℕ) → is_ink byte ≡ true → is_blank byte ≡ false
not_blank byte h = turned (is_blank byte) h where
  turned : (b : Bool) → not b ≡ true → b ≡ false
  turned false e = refl
  turned true e = cc

-- what follows a word is empty or begins with a space or tab
abbrev IsApart : List ℕ → Type 0
IsApart [] = Unit {0}
IsApart (byte ∷ bytes) = is_blank byte ≡ true

apart_spaced : (ws : List (List ℕ)) → IsApart (spaced ws)
apart_spaced [] = tt
apart_spaced (w ∷ ws) = refl

module _ (rest : List ℕ) (apart : IsApart rest) where
  no_blank_before : (w : List ℕ) (k : ℕ) → list_all is_ink w ≡ true → k < length w → is_blank (get_or (w ++ rest) k 0) ≡ false
  no_blank_before [] k h l = absurd (omega (arith, l))
  no_blank_before (b ∷ bs) zero h l = not_blank b (both (is_ink b) (list_all is_ink bs) h).0
  no_blank_before (b ∷ bs) (suc k) h l = no_blank_before bs k (both (is_ink b) (list_all is_ink bs) h).1 (omega (arith, l))

  blank_behind : (w : List ℕ) → length w < length (w ++ rest) → is_blank (get_or (w ++ rest) (length w) 0) ≡ true
  blank_behind [] l = begins rest apart l where
    begins : (xs : List ℕ) → IsApart xs → 0 < length xs → is_blank (get_or xs 0 0) ≡ true
    begins [] a l = absurd (omega (arith, l))
    begins (b ∷ bs) a l = a
  blank_behind (b ∷ bs) l = blank_behind bs (omega (arith, l))

  first_blank : (w : List ℕ) → list_all is_ink w ≡ true → first_index is_blank (w ++ rest) ≡ length w
  first_blank w h =
      first_index_is is_blank (w ++ rest) (length w) (omega (arith, length-append w rest)) (λ k l. no_blank_before w k h l) (blank_behind w)

  front_of : (w : List ℕ) → take (length w) (w ++ rest) ≡ w
  front_of [] = refl
  front_of (b ∷ bs) = ap (λ xs. b ∷ xs) (front_of bs)

  back_of : (w : List ℕ) → drop (length w) (w ++ rest) ≡ rest
  back_of [] = refl
  back_of (b ∷ bs) = back_of bs

  word_parted : (w : List ℕ) → list_all is_ink w ≡ true → parted (w ++ rest) ≡ (w, rest)
  word_parted w h =
      let at = first_blank w h in
      ap (λ n. (take n (w ++ rest), drop n (w ++ rest))) at ∙ ap (λ front. (front, drop (length w) (w ++ rest))) (front_of w) ∙ ap (λ back. (w, back)) (back_of w)

-- ---- the start of a text

ink_first : (byte : ℕ) (bytes : List ℕ) → is_ink byte ≡ true → trimmed_start (byte ∷ bytes) ≡ byte ∷ bytes
ink_first byte bytes ink =
    let at : first_index is_ink (byte ∷ bytes) ≡ 0 = first_index_is is_ink (byte ∷ bytes) 0 (omega arith) (λ k l. absurd (omega (arith, l))) (λ _. ink) in
    ap (λ n. drop n (byte ∷ bytes)) at

pub space_first : (byte : ℕ) (bytes : List ℕ) → is_ink byte ≡ true → trimmed_start (32 ∷ byte ∷ bytes) ≡ byte ∷ bytes
space_first byte bytes ink =
    let at : first_index is_ink (32 ∷ byte ∷ bytes) ≡ 1 =
    first_index_is is_ink (32 ∷ byte ∷ bytes) 1 (omega arith) (λ k l. let first : k ≡ 0 = omega (arith, l) in ap (λ n. is_ink (get_or (32 ∷ byte ∷ bytes) n 0)) first) (λ _. ink) in
    ap (λ n. drop n (32 ∷ byte ∷ bytes)) at

-- ---- one word after another

abbrev word_of_start : List ℕ → Option (List ℕ × List ℕ)
word_of_start start = if nat_eq (length start) 0 then None else Some (parted start)

some_start : (byte : ℕ) (bytes : List ℕ) → word_of_start (byte ∷ bytes) ≡ Some (parted (byte ∷ bytes))
some_start byte bytes =
    let some : 0 < length (byte ∷ bytes) = omega arith in
    ap (λ t. if t then None else Some (parted (byte ∷ bytes))) (ne_eqb (length (byte ∷ bytes)) 0 (λ e. absurd (omega (arith, e, some))))

pub first_read : (w : List ℕ) (ws : List (List ℕ)) → IsOneWord w → first_word (w ++ spaced ws) ≡ Some (w, spaced ws)
first_read [] ws is = absurd is
first_read (b ∷ bs) ws is =
    ap word_of_start (ink_first b (bs ++ spaced ws) (both (is_ink b) (list_all is_ink bs) is).0)
    ∙ some_start b (bs ++ spaced ws)
    ∙ ap Some (word_parted (spaced ws) (apart_spaced ws) (b ∷ bs) is)

next_read : (w : List ℕ) (ws : List (List ℕ)) → IsOneWord w → first_word (spaced (w ∷ ws)) ≡ Some (w, spaced ws)
next_read [] ws is = absurd is
next_read (b ∷ bs) ws is =
    ap word_of_start (space_first b (bs ++ spaced ws) (both (is_ink b) (list_all is_ink bs) is).0)
    ∙ some_start b (bs ++ spaced ws)
    ∙ ap Some (word_parted (spaced ws) (apart_spaced ws) (b ∷ bs) is)

abbrev next_of : Option (List ℕ × List ℕ) → Result (List ℕ × List ℕ) SyntaxFault
next_of None = Err faults.Arguments
next_of (Some found) = Ok found

pub reads_word : (w : List ℕ) (ws : List (List ℕ)) → IsOneWord w → word (spaced (w ∷ ws)) ≡ Ok (w, spaced ws)
reads_word w ws is = ap next_of (next_read w ws is)

-- reading one thing, and then others
pub then_read : {A B : Type 0} (read : Reading A) (others : A → Reading B) (line rest : List ℕ) (x : A) → read line ≡ Ok (x, rest) → (read >>= others) line ≡ others x rest
then_read read others line rest x e = ap (λ found. ((λ l. found) >>= others) line) e

-- ---- numbers

pub list_all_both : (p : ℕ → Bool) (b : ℕ) (bs : List ℕ) → p b ≡ true → list_all p bs ≡ true → list_all p (b ∷ bs) ≡ true
list_all_both p b bs e f = ap (λ t. t && list_all p bs) e ∙ f

-- the byte is at least that of the digit 0, like all digits and letters
abbrev pub is_high : ℕ → Bool
is_high byte = nat_le 48 byte

pub each_weaker : (p q : ℕ → Bool) → ((b : ℕ) → p b ≡ true → q b ≡ true) → (bytes : List ℕ) → list_all p bytes ≡ true → list_all q bytes ≡ true
each_weaker p q weaker [] h = refl
each_weaker p q weaker (b ∷ bs) h =
    let parts = both (p b) (list_all p bs) h in
    list_all_both q b bs (weaker b parts.0) (each_weaker p q weaker bs parts.1)

high_ink : (byte : ℕ) → is_high byte ≡ true → is_ink byte ≡ true
high_ink byte h =
    let high : 48 ≤ byte = grind (arith, nat_tests, h) in
    ap (λ b. not (b || nat_eq byte 9)) (ne_eqb byte 32 (λ e. absurd (omega (arith, e, high)))) ∙ ap (λ b. not (false || b)) (ne_eqb byte 9 (λ e. absurd (omega (arith, e, high))))

-- a word of such bytes
abbrev pub IsHigh : List ℕ → Type 0
IsHigh w = (0 < length w) × (list_all is_high w ≡ true)

pub high_word : (w : List ℕ) → IsHigh w → IsOneWord w
high_word [] is = absurd (omega (arith, is.0))
high_word (b ∷ bs) is = each_weaker is_high is_ink high_ink (b ∷ bs) is.1

digit_high : (c : ℕ) → 48 ≤ c → is_high c ≡ true
digit_high c low = le-leb 48 c low

digit_passes : (c : ℕ) → 48 ≤ c → c ≤ 57 → is_digit c ≡ true
digit_passes c low high = ap (λ b. b && nat_le c 57) (le-leb 48 c low) ∙ le-leb c 57 high

digits_pass : (ds : List ℕ) → AllDigits 10 ds → (list_all is_digit ds ≡ true) × (list_all is_high ds ≡ true)
digits_pass [] d = (refl, refl)
digits_pass (c ∷ cs) d =
    let k = digit_from_value c d.0 in
    let rest = digits_pass cs d.1 in
    (list_all_both is_digit c cs (digit_passes c k.0 k.1) rest.0, list_all_both is_high c cs (digit_high c k.0) rest.1)

module _ (n : ℕ) (small : n ≤ 255) where
  fits : n < 2 ^ 64
  fits = let most : 255 < 2 ^ 64 = lit< tt in omega (arith, small, most)

  passes : (list_all is_digit (decimal n) ≡ true) × (list_all is_high (decimal n) ≡ true)
  passes = digits_pass (decimal n) (decimal_is_IsNumeral n fits).0.1

  pub short_number : length (decimal n) ≤ 3
  short_number = let most : 255 < 10 ^ 3 = lit< tt in length-decimal-le 3 n (lit< tt) (omega (arith, small, most)) fits

  pub high_number : IsHigh (decimal n)
  high_number = (decimal_nonempty n fits, passes.1)

  number_is : number_in (decimal n) ≡ Some n
  number_is =
      ap (λ b. if (b && nat_le (length (decimal n)) 18) && list_all is_digit (decimal n) then Some (digits_value 10 (decimal n)) else None) (le-leb 1 (length (decimal n)) (omega (arith, decimal_nonempty n fits)))
      ∙ ap (λ b. if b && list_all is_digit (decimal n) then Some (digits_value 10 (decimal n)) else None) (le-leb (length (decimal n)) 18 (omega (arith, short_number)))
      ∙ ap (λ b. if b then Some (digits_value 10 (decimal n)) else None) passes.0
      ∙ ap Some (decimal_is_IsNumeral n fits).1

  pub reads_number : (ws : List (List ℕ)) → number (spaced (decimal n ∷ ws)) ≡ Ok (n, spaced ws)
  reads_number ws =
      then_read word (λ w. wanted (number_in w)) (spaced (decimal n ∷ ws)) (spaced ws) (decimal n) (reads_word (decimal n) ws (high_word (decimal n) high_number))
      ∙ ap (λ found. wanted found (spaced ws)) number_is

-- ---- grades

pub reads_grade : (n : ℕ) (ws : List (List ℕ)) → n ≤ 100 → grade (spaced (decimal n ∷ ws)) ≡ Ok (n, spaced ws)
reads_grade n ws small =
    let short : n ≤ 255 = omega (arith, small) in
    then_read number (λ number. wanted (grade_in number)) (spaced (decimal n ∷ ws)) (spaced ws) n (reads_number n short ws)
    ∙ ap (λ b. wanted (if b then Some n else None) (spaced ws)) (le-leb n 100 small)

more_left : (w : List ℕ) (ws : List (List ℕ)) → IsOneWord w → is_ended (spaced (w ∷ ws)) ≡ false
more_left [] ws is = absurd is
more_left (b ∷ bs) ws is =
    ap (λ start. nat_eq (length start) 0) (space_first b (bs ++ spaced ws) (both (is_ink b) (list_all is_ink bs) is).0)
    ∙ ne_eqb (length (b ∷ bs ++ spaced ws)) 0 (λ e. absurd (omega (arith, e)))

pub reads_no_grade : grade_if_any [] ≡ Ok (None, [])
reads_no_grade = refl

pub reads_some_grade : (n : ℕ) → n ≤ 100 → grade_if_any (spaced (decimal n ∷ [])) ≡ Ok (Some n, [])
reads_some_grade n small =
    let short : n ≤ 255 = omega (arith, small) in
    ap (λ b. (if b then given None (spaced (decimal n ∷ [])) else (grade >>= (λ found. given (Some found))) (spaced (decimal n ∷ [])))) (more_left (decimal n) [] (high_word (decimal n) (high_number n short)))
    ∙ then_read grade (λ found. given (Some found)) (spaced (decimal n ∷ [])) [] n (reads_grade n [] small)

-- ---- spots, letters and names

pub reads_spot : (at : CellArg) (ws : List (List ℕ)) → at.row ≤ 255 → at.col ≤ 255 → spot (spaced (decimal at.row ∷ decimal at.col ∷ ws)) ≡ Ok (at, spaced ws)
reads_spot at ws low left =
    then_read number (λ row. number >>= (λ col. given (record { row = row; col = col }))) (spaced (decimal at.row ∷ decimal at.col ∷ ws)) (spaced (decimal at.col ∷ ws)) at.row (reads_number at.row low (decimal at.col ∷ ws))
    ∙ then_read number (λ col. given (record { row = at.row; col = col })) (spaced (decimal at.col ∷ ws)) (spaced ws) at.col (reads_number at.col left ws)

pub reads_byte : (letter : ℕ) (ws : List (List ℕ)) → 48 ≤ letter → byte (spaced ((letter ∷ []) ∷ ws)) ≡ Ok (letter, spaced ws)
reads_byte letter ws high =
    then_read word (λ w. wanted (byte_in w)) (spaced ((letter ∷ []) ∷ ws)) (spaced ws) (letter ∷ []) (reads_word (letter ∷ []) ws (high_word (letter ∷ []) (omega arith, list_all_both is_high letter [] (le-leb 48 letter high) refl)))

module _ {A : Type 0} (table : List (List ℕ × A)) (name : List ℕ) (value : A) where
  pub reads_key : (ws : List (List ℕ)) → IsOneWord name → lookup table name ≡ Some value → key_word table (spaced (name ∷ ws)) ≡ Ok (value, spaced ws)
  reads_key ws is stands =
      then_read word (λ w. wanted (lookup table w)) (spaced (name ∷ ws)) (spaced ws) name (reads_word name ws is)
      ∙ ap (λ found. wanted found (spaced ws)) stands

pub reads_side : (which : Side) (ws : List (List ℕ)) → side (spaced (side_name which ∷ ws)) ≡ Ok (which, spaced ws)
reads_side Right ws = reads_key sides (side_name Right) Right ws refl refl
reads_side Below ws = reads_key sides (side_name Below) Below ws refl refl

pub reads_direction : (way : Direction) (ws : List (List ℕ)) → direction (spaced (direction_name way ∷ ws)) ≡ Ok (way, spaced ws)
reads_direction Across ws = reads_key directions (direction_name Across) Across ws refl refl
reads_direction Down ws = reads_key directions (direction_name Down) Down ws refl refl

pub reads_switch : (is_on : Bool) (ws : List (List ℕ)) → switch (spaced (switch_name is_on ∷ ws)) ≡ Ok (is_on, spaced ws)
reads_switch true ws = reads_key switches (switch_name true) true ws refl refl
reads_switch false ws = reads_key switches (switch_name false) false ws refl refl

pub reads_symmetry : (kind : Symmetry) (ws : List (List ℕ)) → symmetry (spaced (symmetry_name kind ∷ ws)) ≡ Ok (kind, spaced ws)
reads_symmetry kinds.None ws = reads_key symmetries (symmetry_name kinds.None) kinds.None ws refl refl
reads_symmetry kinds.Half ws = reads_key symmetries (symmetry_name kinds.Half) kinds.Half ws refl refl
reads_symmetry kinds.Quarter ws = reads_key symmetries (symmetry_name kinds.Quarter) kinds.Quarter ws refl refl
reads_symmetry kinds.LeftRight ws = reads_key symmetries (symmetry_name kinds.LeftRight) kinds.LeftRight ws refl refl
reads_symmetry kinds.UpDown ws = reads_key symmetries (symmetry_name kinds.UpDown) kinds.UpDown ws refl refl
