-- Counting words by letter, 64 at a time.
use Rattle.std.proofs.Common.{◌≡◌, ℕ, zero, suc, ◌+◌, ◌-◌, ◌*◌, ◌^◌, ◌<◌, ◌≤◌, Bool, true, false, cond, ◌&&◌, eqb, List, [], ◌∷◌, ◌++◌, map, length, length-append, get_or, drop, count_by, count_ones, Some, None, refl, sym, ◌∙◌, ap, arith}
use Rattle.std.specs.Prelude.{Option, slice_get, unwrap_or}
use Rattle.std.specs.Coded.{Coded-set, coded_ℕ}
use Rattle.std.specs.List.{range_with_len}
use Rattle.std.proofs.Math.Logic.{∥∥₁_elim}
use Rattle.std.proofs.lemmas.Bool.{ne_eqb}
use Rattle.std.proofs.lemmas.List.{get_or_append_left, get_or-append_right, get_or-map, get_or_past, length-map}
use Rattle.std.proofs.lemmas.List.FromFn.{sum_by-map-range_with_len_more}
use Rattle.std.proofs.lemmas.List.Sums.{sum_by-cons}
use Rattle.std.proofs.lemmas.Option.{unwrap_or-slice_get}
use Rattle.xw_bits.specs.Bits.{has_bit}
use Rattle.xw_bits.proofs.BitLemmas.{ones_of_word, has_bit-none}
use Rattle.xw_words.specs.Columns.{letter_is, has_letter}
use Rattle.xw_words.specs.Dictionary.{Entry, entry_at, no_entry, known_words}
use Rattle.xw_grid.specs.Light.{lights_of}
use Rattle.xw_feas.specs.Board.{board_of, light_at, entry, spelled}
use Rattle.xw_feas.specs.Choices.{choices}
use Rattle.xw_feas.specs.State.{State}
use Rattle.xw_feas.proofs.BoardLemmas.{length-lights}
use Rattle.xw_feas.specs.AnswersOf.{items_where}
use Rattle.xw_net.specs.Sums.{sum_below}
use Rattle.xw_net.specs.Support.{supports}
use Rattle.xw_net.specs.Net.{IsSettledFor}
use Rattle.xw_net.specs.Nets.{bits_for}
use Rattle.xw_net.specs.Tally.{net_tally, row_tally}
use Rattle.xw_net.specs.declared.net.Net.{Net}
use Rattle.xw_net.proofs.Costs.CostsByLight.{sum_below-agree, sum_below-first}
use Rattle.xw_net.proofs.Nets.SettledNets.{flags_are}

-- ---- sums

-- a sum in two parts
sum_below-split : (f : ℕ → ℕ) (m n : ℕ) → sum_below f (m + n) ≡ sum_below f m + sum_below (λ k. f (m + k)) n
sum_below-split f m zero = let same : m + 0 ≡ m = omega arith in omega (arith, ap (sum_below f) same)
sum_below-split f m (suc n) =
    let one_more : m + suc n ≡ suc (m + n) = omega arith in
    ap (sum_below f) one_more ∙ omega (arith, sum_below-split f m n)

-- the number of passing numbers is 0 if none passes
none_below : (test : ℕ → Bool) (n : ℕ) → ((k : ℕ) → k < n → test k ≡ false) → sum_below (λ k. cond (test k) 1 0) n ≡ 0
none_below test zero none = refl
none_below test (suc n) none = omega (arith, none_below test n (λ k lt. none k (omega arith)), ap (λ b. cond {A = ℕ} b 1 0) (none n (omega arith)))

count_below : (test : ℕ → Bool) (n : ℕ) → count_by (λ b. b) (map test (range_with_len 0 n)) ≡ sum_below (λ k. cond (test k) 1 0) n
count_below test zero = refl
count_below test (suc n) =
    let one_more : suc n ≡ n + 1 = omega arith in
    ap (λ m. count_by (λ b. b) (map test (range_with_len 0 m))) one_more
    ∙ sum_by-map-range_with_len_more (λ b. cond b 1 0) test 0 n n (omega arith)
    ∙ ap (λ m. m + cond (test n) 1 0) (count_below test n)

-- the set bits of a word
pub ones_are : (word : ℕ) (test : ℕ → Bool) → word < 2 ^ 64 → ((k : ℕ) → k < 64 → has_bit word k ≡ test k) → count_ones word ≡ sum_below (λ k. cond (test k) 1 0) 64
ones_are word test fits is =
    sym (ones_of_word 64 word fits) ∙ count_below (has_bit word) 64 ∙ sum_below-agree (λ k. cond (has_bit word k) 1 0) (λ k. cond (test k) 1 0) 64 (λ k lt. ap (λ b. cond {A = ℕ} b 1 0) (is k lt))

-- ---- rows

module _ (row : List Bool) (words : List Entry) (position letter : ℕ) where
  -- one more chunk
  pub tally_more : (chunk : ℕ) → row_tally row words position letter 0 (64 * (chunk + 1)) ≡ row_tally row words position letter 0 (64 * chunk) + row_tally row words position letter (64 * chunk) 64
  tally_more chunk =
      let more : 64 * (chunk + 1) ≡ 64 * chunk + 64 = omega arith in
      ap (row_tally row words position letter 0) more ∙ sum_below-split (λ k. cond (supports row words position letter (0 + k)) 1 0) (64 * chunk) 64
      ∙ ap (λ n. row_tally row words position letter 0 (64 * chunk) + n) (sum_below-agree (λ k. cond (supports row words position letter (0 + (64 * chunk + k))) 1 0) (λ k. cond (supports row words position letter (64 * chunk + k)) 1 0) 64
      (λ k lt. let same : 0 + (64 * chunk + k) ≡ 64 * chunk + k = omega arith in ap (λ n. cond {A = ℕ} (supports row words position letter n) 1 0) same))

  -- clear bits add nothing
  pub tally_clear : (m n : ℕ) → m ≤ n → ((i : ℕ) → m ≤ i → i < n → get_or row i false ≡ false) → row_tally row words position letter 0 n ≡ row_tally row words position letter 0 m
  unfolding supports
  tally_clear m n le clear =
      let parts : n ≡ m + (n - m) = omega (arith, le) in
      ap (row_tally row words position letter 0) parts ∙ sum_below-split (λ k. cond (supports row words position letter (0 + k)) 1 0) m (n - m)
      ∙ omega (
        arith,
        none_below (λ k. supports row words position letter (0 + (m + k))) (n - m)
            (λ k lt. ap (λ b. b && has_letter words position letter (0 + (m + k))) (clear (0 + (m + k)) (omega arith) (omega (arith, lt)))),
      )

  -- no word past the end is in the row
  pub tally_whole : (n : ℕ) → length row ≤ n → row_tally row words position letter 0 n ≡ row_tally row words position letter 0 (length row)
  tally_whole n long = tally_clear (length row) n long (λ i past lt. get_or_past row i false past)

  -- a chunk without words
  pub tally_none : (chunk : ℕ) → ((k : ℕ) → k < 64 → has_bit 0 k ≡ get_or row (64 * chunk + k) false) → 0 ≡ row_tally row words position letter (64 * chunk) 64
  unfolding supports
  tally_none chunk bits = sym (none_below (λ k. supports row words position letter (64 * chunk + k)) 64 (λ k lt. ap (λ b. b && has_letter words position letter (64 * chunk + k)) (sym (bits k lt) ∙ has_bit-none k)))

  -- a chunk is counted by the set bits that it shares with a column
  pub tally_both : (chunk one two both : ℕ) → both < 2 ^ 64 → ((k : ℕ) → k < 64 → has_bit both k ≡ (has_bit one k && has_bit two k)) → ((k : ℕ) → k < 64 → has_bit one k ≡ get_or row (64 * chunk + k) false)
      → ((k : ℕ) → k < 64 → has_bit two k ≡ has_letter words position letter (64 * chunk + k)) → count_ones both ≡ row_tally row words position letter (64 * chunk) 64
  unfolding supports
  tally_both chunk one two both fits are bits column =
      ones_are both (λ k. supports row words position letter (64 * chunk + k)) fits
      (λ k lt. are k lt ∙ ap (λ b. b && has_bit two k) (bits k lt) ∙ ap (λ b. get_or row (64 * chunk + k) false && b) (column k lt))

-- ---- words

-- a position past a word's end has no letter
letter_at : (word : List ℕ) (position letter : ℕ) → 0 < letter → letter_is (slice_get word position) letter ≡ eqb (get_or word position 0) letter
letter_at word position letter some = split (slice_get word position) (unwrap_or-slice_get word position 0) where
  split : (found : Option ℕ) → unwrap_or found 0 ≡ get_or word position 0 → letter_is found letter ≡ eqb (get_or word position 0) letter
  split None at = sym (ap (λ n. eqb n letter) (sym at) ∙ ne_eqb 0 letter (λ same. omega (arith, same, some)))
  split (Some other) at = ap (λ n. eqb n letter) at

next_flag : (flags : List Bool) (k : ℕ) → get_or (drop 1 flags) k false ≡ get_or flags (suc k) false
next_flag [] k = refl
next_flag (flag ∷ flags) k = refl

-- the items whose flag is set, counted by their indices
count_items : {X : Type 0} (test : X → Bool) (d : X) (flags : List Bool) (xs : List X) → count_by test (items_where flags xs) ≡ sum_below (λ k. cond (get_or flags k false && test (get_or xs k d)) 1 0) (length xs)
count_items test d flags [] = refl
count_items {X} test d flags (x ∷ xs) =
    first (get_or flags 0 false)
    ∙ ap (λ n. cond (get_or flags 0 false && test x) 1 0 + n) (count_items test d (drop 1 flags) xs ∙ sum_below-agree (λ k. cond (get_or (drop 1 flags) k false && test (get_or xs k d)) 1 0) (λ k. cond (get_or flags (suc k) false && test (get_or xs k d)) 1 0) (length xs) (λ k lt. ap (λ b. cond {A = ℕ} (b && test (get_or xs k d)) 1 0) (next_flag flags k)))
    ∙ sym (sum_below-first (λ k. cond (get_or flags k false && test (get_or (x ∷ xs) k d)) 1 0) (length xs)) where
      rest : List X
      rest = items_where (drop 1 flags) xs

      first : (b : Bool) → count_by test (cond b (x ∷ items_where (drop 1 flags) xs) (items_where (drop 1 flags) xs)) ≡ cond (b && test x) 1 0 + count_by test (items_where (drop 1 flags) xs)
      first true = sum_by-cons (λ y. cond (test y) 1 0) x (items_where (drop 1 flags) xs)
      first false = omega arith

-- the words of a light with a letter: the known ones, and the entered word
pub tally_choices : (row : List Bool) (words : List Entry) (entered : Bool) (word : List ℕ) (position letter : ℕ) → length row ≡ length words → 0 < letter
    → count_by (λ w. eqb (get_or w position 0) letter) (items_where (row ++ entered ∷ []) (map (λ (known : Entry). known.word) words ++ word ∷ []))
    ≡ row_tally row words position letter 0 (length row) + cond (entered && eqb (get_or word position 0) letter) 1 0
unfolding supports
tally_choices row words entered word position letter long some =
    count_items (λ w. eqb (get_or w position 0) letter) [] (row ++ entered ∷ []) all
    ∙ ap (sum_below (λ k. cond (get_or (row ++ entered ∷ []) k false && eqb (get_or (get_or all k []) position 0) letter) 1 0)) many
    ∙ ap (λ n. n + cond (get_or (row ++ entered ∷ []) (length row) false && eqb (get_or (get_or all (length row) []) position 0) letter) 1 0) (sum_below-agree (λ k. cond (get_or (row ++ entered ∷ []) k false && eqb (get_or (get_or all k []) position 0) letter) 1 0) (λ k. cond (supports row words position letter (0 + k)) 1 0) (length row) listed)
    ∙ ap (λ (flag : Bool). row_tally row words position letter 0 (length row) + cond (flag && eqb (get_or (get_or all (length row) []) position 0) letter) 1 0) (get_or-append_right row (entered ∷ []) (length row) (length row) false refl (omega arith) ∙ ap (λ n. get_or (entered ∷ []) n false) none_left)
    ∙ ap (λ (w : List ℕ). row_tally row words position letter 0 (length row) + cond (entered && eqb (get_or w position 0) letter) 1 0) (get_or-append_right (map (λ (known : Entry). known.word) words) (word ∷ []) (length row) (length row) [] (length-map words (λ (known : Entry). known.word) ∙ sym long) (omega arith) ∙ ap (λ n. get_or (word ∷ []) n []) none_left) where
      all : List (List ℕ)
      all = map (λ (known : Entry). known.word) words ++ word ∷ []

      none_left : length row - length row ≡ 0
      none_left = omega arith

      many : length all ≡ suc (length row)
      many = omega (arith, length-append (map (λ (known : Entry). known.word) words) (word ∷ []), length-map words (λ (known : Entry). known.word), long)

      listed : (k : ℕ) → k < length row → cond {A = ℕ} (get_or (row ++ entered ∷ []) k false && eqb (get_or (get_or all k []) position 0) letter) 1 0 ≡ cond (supports row words position letter (0 + k)) 1 0
      listed k lt =
          let here : 0 + k ≡ k = omega arith in
          ap (λ b. cond {A = ℕ} (b && eqb (get_or (get_or all k []) position 0) letter) 1 0) (get_or_append_left row (entered ∷ []) false k lt)
          ∙ ap (λ (w : List ℕ). cond {A = ℕ} (get_or row k false && eqb (get_or w position 0) letter) 1 0)
          (get_or_append_left (map (λ (known : Entry). known.word) words) (word ∷ []) [] k (omega (arith, lt, long, length-map words (λ (known : Entry). known.word))) ∙ get_or-map (λ (known : Entry). known.word) words k no_entry [] (omega (arith, lt, long)))
          ∙ ap (λ b. cond {A = ℕ} (get_or row k false && b) 1 0) (sym (letter_at (entry_at words k).word position letter some))
          ∙ ap (λ n. cond {A = ℕ} (supports row words position letter n) 1 0) (sym here)

-- ---- the net

module _ (state : State) (net : Net) (settled : ∥ IsSettledFor state net ∥₁) (light position letter : ℕ) (below : light < length (lights_of state.grid)) (in_light : position < length (light_at (board_of state.grid) light)) (some : 0 < letter) where
  in_board : light < length (board_of state.grid).lights
  in_board = omega (arith, below, length-lights state.grid)

  long : length (bits_for net light) ≡ length (known_words state.words (length (light_at (board_of state.grid) light)))
  long = ∥∥₁_elim settled (Coded-set coded_ℕ _ _) (λ settled. settled.filled.whole.bits light in_board)

  spelled_at : get_or (spelled (board_of state.grid) (light_at (board_of state.grid) light)) position 0 ≡ unwrap_or (entry (board_of state.grid) (get_or (light_at (board_of state.grid) light) position 0)) 65
  spelled_at = get_or-map (λ cell. unwrap_or (entry (board_of state.grid) cell) 65) (light_at (board_of state.grid) light) position 0 0 in_light

  -- the known words of the net with the letter, and the entered word
  pub net_tally_is : net_tally state net light position letter
      ≡ row_tally (bits_for net light) (known_words state.words (length (light_at (board_of state.grid) light))) position letter 0 (length (bits_for net light))
      + cond (get_or net.entered.items light false && eqb (unwrap_or (entry (board_of state.grid) (get_or (light_at (board_of state.grid) light) position 0)) 65) letter) 1 0
  net_tally_is =
      let words = known_words state.words (length (light_at (board_of state.grid) light)) in
      ap (λ (flags : List Bool). count_by (λ w. eqb (get_or w position 0) letter) (items_where flags (choices (board_of state.grid) state.words (light_at (board_of state.grid) light)))) (flags_are (lights_of state.grid) net light below)
      ∙ tally_choices (bits_for net light) words (get_or net.entered.items light false) (spelled (board_of state.grid) (light_at (board_of state.grid) light)) position letter long some
      ∙ ap (λ n. row_tally (bits_for net light) words position letter 0 (length (bits_for net light)) + cond (get_or net.entered.items light false && eqb n letter) 1 0) spelled_at
