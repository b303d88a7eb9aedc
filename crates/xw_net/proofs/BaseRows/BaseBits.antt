-- The bits of base words, built up by positions of the light and by chunks of words.
use Rattle.std.proofs.Common.{◌≡◌, ℕ, zero, suc, ◌+◌, ◌-◌, ◌*◌, ◌/◌, ◌<◌, ◌≤◌, Bool, true, false, not, ◌&&◌, eqb, List, [], ◌∷◌, length, get_or, take, refl, sym, ap, ◌∙◌, inl, inr, arith, add-one}
use Rattle.std.specs.Prelude.{All, Option, Some, None, slice_get}
use Rattle.std.proofs.lemmas.Bool.{cases_lt, cases_eq, eq-eqb, ne_eqb}
use Rattle.std.proofs.lemmas.List.{same_lists, get_or-map, get_or_past, get_or_default, length-map, take_all}
use Rattle.xw_bits.specs.Bits.{has_bit}
use Rattle.xw_words.specs.Dictionary.{Entry, entry_at, no_entry}
use Rattle.xw_words.specs.Columns.{letter_is}
use Rattle.xw_feas.specs.Board.{Board, entry, allows, agrees, is_wholly_entered}
use Rattle.xw_net.specs.Base.{is_base_word, base_bits, has_entry}

-- ---- positions of the light

and_assoc : (a b c : Bool) → ((a && b) && c) ≡ (a && (b && c))
and_assoc true b c = refl
and_assoc false b c = refl

and_one : (b : Bool) → (b && true) ≡ b
and_one true = refl
and_one false = refl

and_false : (b : Bool) → (b && false) ≡ false
and_false true = refl
and_false false = refl

-- one more position that agrees
agrees_next : (board : Board) (cells word : List ℕ) (i : ℕ) → i < length cells → i < length word
    → agrees board (take (suc i) cells) (take (suc i) word) ≡ (agrees board (take i cells) (take i word) && allows (entry board (get_or cells i 0)) (get_or word i 0))
agrees_next board [] word i hc hw = absurd (omega arith)
agrees_next board (c ∷ cs) [] i hc hw = absurd (omega arith)
agrees_next board (c ∷ cs) (w ∷ ws) zero hc hw = and_one (allows (entry board c) w)
agrees_next board (c ∷ cs) (w ∷ ws) (suc i) hc hw =
    ap (λ b. allows (entry board c) w && b) (agrees_next board cs ws i (omega arith) (omega arith))
    ∙ sym (and_assoc (allows (entry board c) w) (agrees board (take i cs) (take i ws)) (allows (entry board (get_or cs i 0)) (get_or ws i 0)))

letter_at : (word : List ℕ) (i letter : ℕ) → i < length word → letter_is (slice_get word i) letter ≡ eqb (get_or word i 0) letter
letter_at [] i letter lt = absurd (omega arith)
letter_at (x ∷ xs) zero letter lt = refl
letter_at (x ∷ xs) (suc i) letter lt = letter_at xs i letter (omega arith)

pub eqb_other_way : (a b : ℕ) → eqb a b ≡ eqb b a
eqb_other_way a b = elim (cases_eq a b) [
  | inl e ↦ eq-eqb a b e ∙ sym (eq-eqb b a (sym e))
  | inr n ↦ ne_eqb a b n ∙ sym (ne_eqb b a (λ e. n (sym e)))
]

-- an entry allows the letter of a word that is long enough
pub has_entry_is : (found : Option ℕ) (entries : List Entry) (position index : ℕ) → position < length (entry_at entries index).word
    → has_entry found entries position index ≡ allows found (get_or (entry_at entries index).word position 0)
has_entry_is None entries position index lt = refl
has_entry_is (Some letter) entries position index lt =
    letter_at (entry_at entries index).word position letter lt ∙ eqb_other_way (get_or (entry_at entries index).word position 0) letter

-- what is known of a word so far: it is active, and agrees with the first entries
abbrev pub base_so_far : Board → List ℕ → ℕ → Entry → Bool
base_so_far board cells n word = word.active && agrees board (take n cells) (take n word.word)

pub base_first : (board : Board) (cells : List ℕ) (word : Entry) → word.active ≡ base_so_far board cells 0 word
base_first board cells word = sym (and_one (word.active))

module _ (board : Board) (cells : List ℕ) (entries : List Entry) (long : All (λ (word : Entry). length word.word ≡ length cells) entries) where
  pub base_more : (i index : ℕ) → i < length cells
      → (base_so_far board cells i (entry_at entries index) && has_entry (entry board (get_or cells i 0)) entries i index) ≡ base_so_far board cells (i + 1) (entry_at entries index)
  base_more i index lt =
      elim (cases_lt index (length entries)) [
        | inr past ↦
            let none : entry_at entries index ≡ no_entry = get_or_past entries index no_entry past in
            ap (λ (e : Entry). base_so_far board cells i e && has_entry (entry board (get_or cells i 0)) entries i index) none
            ∙ sym (ap (base_so_far board cells (i + 1)) none)
        | inl within ↦
            let word = (entry_at entries index).word in
            let in_word : i < length word = omega (arith, long index no_entry within) in
            ap (λ b. base_so_far board cells i (entry_at entries index) && b) (has_entry_is (entry board (get_or cells i 0)) entries i index in_word)
            ∙ and_assoc (entry_at entries index).active (agrees board (take i cells) (take i word)) (allows (entry board (get_or cells i 0)) (get_or word i 0))
            ∙ ap (λ b. (entry_at entries index).active && b) (sym (rw add-one (agrees_next board cells word i lt in_word)))
      ]

  pub base_all : (i index : ℕ) → i ≡ length cells → base_so_far board cells i (entry_at entries index) ≡ ((entry_at entries index).active && agrees board cells (entry_at entries index).word)
  base_all i index e =
      elim (cases_lt index (length entries)) [
        | inr past ↦
            let none : entry_at entries index ≡ no_entry = get_or_past entries index no_entry past in
            ap (base_so_far board cells i) none ∙ sym (ap (λ (w : Entry). w.active && agrees board cells w.word) none)
        | inl within ↦
            ap (λ cs. (entry_at entries index).active && agrees board cs (take i (entry_at entries index).word)) (take_all i cells (omega arith))
            ∙ ap (λ w. (entry_at entries index).active && agrees board cells w) (take_all i (entry_at entries index).word (omega (arith, long index no_entry within)))
      ]

  -- a word that does not agree with the first entries does not agree with all of them
  never : (d i index : ℕ) → i + d ≡ length cells → base_so_far board cells i (entry_at entries index) ≡ false → base_so_far board cells (i + d) (entry_at entries index) ≡ false
  never zero i index e none =
      let is : i + 0 ≡ i = omega arith in
      ap (λ n. base_so_far board cells n (entry_at entries index)) is ∙ none
  never (suc d) i index e none =
      let is : i + suc d ≡ i + 1 + d = omega arith in
      ap (λ n. base_so_far board cells n (entry_at entries index)) is
      ∙ never d (i + 1) index (omega arith) (sym (base_more i index (omega arith)) ∙ ap (λ b. b && has_entry (entry board (get_or cells i 0)) entries i index) none)

  pub base_never : (i index : ℕ) → i ≤ length cells → base_so_far board cells i (entry_at entries index) ≡ false → ((entry_at entries index).active && agrees board cells (entry_at entries index).word) ≡ false
  base_never i index le none =
      let left : i + (length cells - i) ≡ length cells = omega arith in
      sym (base_all (i + (length cells - i)) index left) ∙ never (length cells - i) i index left none

-- ---- chunks of words

-- a bit past the known words is clear
pub base_bit : (board : Board) (cells : List ℕ) (entries : List Entry) (index : ℕ) → is_base_word board cells (entry_at entries index) ≡ get_or (base_bits board cells entries) index false
base_bit board cells entries index =
    elim (cases_lt index (length entries)) [
      | inl lt ↦ sym (get_or-map (is_base_word board cells) entries index no_entry false lt)
      | inr le ↦
          ap (is_base_word board cells) (get_or_past entries index no_entry le)
          ∙ and_false (not (is_wholly_entered board cells))
          ∙ sym (get_or_past (base_bits board cells entries) index false (omega (arith, length-map entries (is_base_word board cells))))
    ]

pub length-base_bits : (board : Board) (cells : List ℕ) (entries : List Entry) → length (base_bits board cells entries) ≡ length entries
length-base_bits board cells entries = length-map entries (is_base_word board cells)

-- the first bits of a row are those of another row
pub record IsBelow (now target : List Bool) (n : ℕ) : Type 0 where
  pub long : length now ≡ length target
  pub below : (i : ℕ) → i < n → get_or now i false ≡ get_or target i false

-- once all bits are covered, the rows are equal
pub below_all : (now target : List Bool) (n : ℕ) → IsBelow now target n → length now ≤ n → now ≡ target
below_all now target n is all =
    same_lists now target is.long (λ k d lt. get_or_default now k d false lt ∙ is.below k (omega arith) ∙ get_or_default target k false d (omega (arith, is.long)))

-- a row whose bits are right
pub all_read : (board : Board) (cells : List ℕ) (entries : List Entry) (now : List Bool) → length now ≡ length entries
    → ((k : ℕ) → get_or now k false ≡ is_base_word board cells (entry_at entries k)) → now ≡ base_bits board cells entries
all_read board cells entries now long right = below_all now (base_bits board cells entries) (length now) (record {
  long = long ∙ sym (length-base_bits board cells entries);
  below = λ i lt. right i ∙ base_bit board cells entries i;
}) (omega arith)

-- if all bits but one are right, they are all right after the chunk of that one is updated
pub chunk_read : (board : Board) (cells : List ℕ) (entries : List Entry) (now next : List Bool) (index word : ℕ) → length now ≡ length entries → length next ≡ length now
    → ((k : ℕ) → k < 64 → 64 * (index / 64) + k < length now → get_or next (64 * (index / 64) + k) false ≡ has_bit word k)
    → ((i : ℕ) → (i / 64 ≡ index / 64 → ⊥) → get_or next i false ≡ get_or now i false)
    → ((k : ℕ) → k < 64 → has_bit word k ≡ is_base_word board cells (entry_at entries (64 * (index / 64) + k)))
    → ((k : ℕ) → (k ≡ index → ⊥) → get_or now k false ≡ is_base_word board cells (entry_at entries k))
    → next ≡ base_bits board cells entries
chunk_read board cells entries now next index word long same inside others bits right = below_all next (base_bits board cells entries) (length next) (record {
  long = same ∙ long ∙ sym (length-base_bits board cells entries);
  below = λ i lt. elim (cases_eq (i / 64) (index / 64)) [
    | inl here ↦
        let at : 64 * (index / 64) + (i - 64 * (index / 64)) ≡ i = omega (arith, here) in
        ap (λ n. get_or next n false) (sym at) ∙ inside (i - 64 * (index / 64)) (omega (arith, here)) (omega (arith, here, lt, same)) ∙ bits (i - 64 * (index / 64)) (omega (arith, here))
        ∙ ap (λ n. is_base_word board cells (entry_at entries n)) at ∙ base_bit board cells entries i
    | inr apart ↦ others i apart ∙ right i (λ e. apart (ap (λ n. n / 64) e)) ∙ base_bit board cells entries i
  ];
}) (omega arith)

-- if the missing bit is past the end, they are all right already
pub none_to_read : (board : Board) (cells : List ℕ) (entries : List Entry) (now : List Bool) (index : ℕ) → length now ≡ length entries → length now ≤ index
    → ((k : ℕ) → (k ≡ index → ⊥) → get_or now k false ≡ is_base_word board cells (entry_at entries k)) → now ≡ base_bits board cells entries
none_to_read board cells entries now index long past right = below_all now (base_bits board cells entries) (length now) (record {
  long = long ∙ sym (length-base_bits board cells entries);
  below = λ i lt. right i (λ e. omega (arith, e, lt, past)) ∙ base_bit board cells entries i;
}) (omega arith)
