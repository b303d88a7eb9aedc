-- The ticks that may still come, letter by letter.
use Rattle.std.proofs.Common.{◌≡◌, ℕ, ◌+◌, ◌-◌, ◌*◌, ◌/◌, ◌<◌, ◌≤◌, Bool, true, false, not, ◌&&◌, cond, ltb, length, refl, sym, ap, ◌∙◌, inl, inr, arith}
use Rattle.std.proofs.lemmas.Bool.{cond-true, cond-false, cases_Bool, cases_lt, lt-ltb, le-ltb, eqb-true, both_ways, false_from_ne_true}
use Rattle.xw_words.specs.Dictionary.{Dictionary}
use Rattle.xw_feas.specs.Board.{Board, light_at}
use Rattle.xw_net.specs.Region.{chunks_of}
use Rattle.xw_net.specs.Marks.{Marks, IsPositionIn, cell_at, slot_at, known, puts, letter_of}
use Rattle.xw_net.specs.Due.{count_from, ahead_of, due_of, chunks, due_letter, due_position, due_light, due, strip_cost, set_cost}
use Rattle.xw_net.proofs.Costs.SumsBelow.{sum_to-le, sum_to-falls, sum_to-bound, sum_to-add, counts-le, count_from-later, search_found, search_first}

-- ---- one letter

abbrev searched : (ℕ → Bool) → ℕ → ℕ → ℕ
searched has n h = (chunks_of n - h / 64) + count_from has h (n - h)

abbrev unsearched : (ℕ → Bool) → ℕ → ℕ
unsearched has n = 2 * chunks_of n + count_from has 0 n

ahead-read : (has : ℕ → Bool) (n h : ℕ) (again : Bool) → h < n → again ≡ false → ahead_of has n h again ≡ searched has n h
ahead-read has n h again lt never = ap (λ b. cond (ltb h n && not b) (searched has n h) (unsearched has n)) never ∙ ap (λ b. cond (b && true) (searched has n h) (unsearched has n)) (lt-ltb h n lt)

ahead-past : (has : ℕ → Bool) (n h : ℕ) (again : Bool) → n ≤ h → ahead_of has n h again ≡ unsearched has n
ahead-past has n h again le = ap (λ b. cond (b && not again) (searched has n h) (unsearched has n)) (le-ltb h n le)

ahead-again : (has : ℕ → Bool) (n h : ℕ) (again : Bool) → again ≡ true → ahead_of has n h again ≡ unsearched has n
ahead-again has n h again is = ap (λ b. cond (ltb h n && not b) (searched has n h) (unsearched has n)) is ∙ off (ltb h n) where
  off : (b : Bool) → cond (b && false) (searched has n h) (unsearched has n) ≡ unsearched has n
  off true = refl
  off false = refl

due-stands : (has : ℕ → Bool) (n h : ℕ) (stands again pending : Bool) → stands ≡ true → due_of has n stands h again pending ≡ chunks_of n + ahead_of has n h again
unfolding due_of
due-stands has n h stands again pending is = cond-true stands (chunks_of n + ahead_of has n h again) (cond pending (chunks_of n) 0) is

pub due-pending : (has : ℕ → Bool) (n h : ℕ) (stands again pending : Bool) → stands ≡ false → due_of has n stands h again pending ≡ chunks_of n * cond pending 1 0
unfolding due_of
due-pending has n h stands again pending is = cond-false stands (chunks_of n + ahead_of has n h again) (cond pending (chunks_of n) 0) is ∙ times pending where
  times : (p : Bool) → cond p (chunks_of n) 0 ≡ chunks_of n * cond p 1 0
  times true = omega arith
  times false = omega arith

pub due-same : (has : ℕ → Bool) (n h h' : ℕ) (s s' a a' p p' : Bool) → h' ≡ h → s' ≡ s → a' ≡ a → p' ≡ p → due_of has n s' h' a' p' ≡ due_of has n s h a p
due-same has n h h' s s' a a' p p' held stands again pending =
    ap (λ x. due_of has n x h' a' p') stands ∙ ap (λ x. due_of has n s x a' p') held ∙ ap (λ x. due_of has n s h x p') again ∙ ap (λ x. due_of has n s h a x) pending

flag-le : (c : ℕ) (p p' : Bool) → (p' ≡ true → p ≡ true) → c * cond p' 1 0 ≤ c * cond p 1 0
flag-le c p false h = omega arith
flag-le c p true h = omega (arith, ap (λ b. c * cond b 1 0) (h refl))

flag-small : (c : ℕ) (b : Bool) → c * cond b 1 0 ≤ c
flag-small c true = omega arith
flag-small c false = omega arith

-- if no more letters are pending, no more ticks may come
pub due-fewer : (has : ℕ → Bool) (n h h' : ℕ) (s s' a a' p p' : Bool) → h' ≡ h → s' ≡ s → a' ≡ a → (p' ≡ true → p ≡ true) → due_of has n s' h' a' p' ≤ due_of has n s h a p
due-fewer has n h h' s s' a a' p p' held stands again pending =
    elim (cases_Bool s) [
      | inl is ↦ omega (arith, due-same has n h h' s s' a a' p' p' held stands again refl, due-stands has n h s a p is, due-stands has n h s a p' is)
      | inr gone ↦ omega (arith, due-pending has n h s a p gone, due-pending has n h' s' a' p' (stands ∙ gone), flag-le (chunks_of n) p p' pending)
    ]

-- if a pending letter is cleared, its ticks are no longer due
pub due-cleared : (has : ℕ → Bool) (n h h' : ℕ) (s s' a a' p p' : Bool) → h' ≡ h → s' ≡ s → a' ≡ a → p' ≡ false → (p ≡ true → s ≡ false) → due_of has n s' h' a' p' + chunks_of n * cond p 1 0 ≤ due_of has n s h a p
due-cleared has n h h' s s' a a' p p' held stands again none gone_if =
    elim (cases_Bool s) [
      | inl is ↦
          let idle : p ≡ false = false_from_ne_true p (λ h. both_ways s (gone_if h) is) in
          omega (arith, due-same has n h h' s s' a a' p p' held stands again (none ∙ sym idle), ap (λ b. chunks_of n * cond b 1 0) idle)
      | inr gone ↦ omega (arith, due-pending has n h s a p gone, due-pending has n h' s' a' p' (stands ∙ gone), ap (λ b. chunks_of n * cond b 1 0) none)
    ]

-- for a letter in the net, pending letters make no difference
pub due-alike : (has : ℕ → Bool) (n h h' : ℕ) (s s' a a' p p' : Bool) → h' ≡ h → s ≡ true → s' ≡ true → a' ≡ a → due_of has n s' h' a' p' ≡ due_of has n s h a p
due-alike has n h h' s s' a a' p p' held is is' again =
    due-stands has n h' s' a' p' is' ∙ ap (λ k. chunks_of n + ahead_of has n k a') held ∙ ap (λ b. chunks_of n + ahead_of has n h b) again ∙ sym (due-stands has n h s a p is)

ahead-bound : (has : ℕ → Bool) (n h : ℕ) (again : Bool) → ahead_of has n h again ≤ unsearched has n
ahead-bound has n h again =
    elim (cases_Bool again) [
      | inl is ↦ omega (arith, ahead-again has n h again is)
      | inr never ↦ elim (cases_lt h n) [
        | inl lt ↦
            let start : 0 + h ≡ h = omega arith in
            let many : h + (n - h) ≡ n = omega arith in
            omega (arith, ahead-read has n h again lt never, count_from-later has 0 (n - h) h, ap (λ k. count_from has k (n - h)) start, ap (count_from has 0) many)
        | inr le ↦ omega (arith, ahead-past has n h again le)
      ]
    ]

pub due-bound-letter : (has : ℕ → Bool) (n h : ℕ) (stands again pending : Bool) → due_of has n stands h again pending ≤ 3 * chunks_of n + count_from has 0 n
due-bound-letter has n h stands again pending =
    elim (cases_Bool stands) [
      | inl is ↦ omega (arith, due-stands has n h stands again pending is, ahead-bound has n h again)
      | inr gone ↦ omega (arith, due-pending has n h stands again pending gone, flag-small (chunks_of n) pending)
    ]

-- a letter that is removed, or becomes pending, has fewer ticks due
pub due-dies : (has : ℕ → Bool) (n h h' : ℕ) (stands stands' again again' pending pending' : Bool) → stands ≡ true → stands' ≡ false → due_of has n stands' h' again' pending' ≤ due_of has n stands h again pending
due-dies has n h h' stands stands' again again' pending pending' was gone =
    omega (arith, due-stands has n h stands again pending was, due-pending has n h' stands' again' pending' gone, flag-small (chunks_of n) pending')

-- the chunk from which a search goes on
abbrev pub IsFrom : ℕ → ℕ → Bool → ℕ → Type 0
IsFrom n h again from = (h < n → again ≡ false → from ≡ h / 64) × (n ≤ h → from ≡ 0) × (again ≡ true → from ≡ 0)

-- the removed letter pays for a search that finds nothing
pub due-nowhere : (has : ℕ → Bool) (n h h' from spent : ℕ) (stands stands' again again' pending pending' : Bool) → stands ≡ true → stands' ≡ false → pending' ≡ false → IsFrom n h again from → spent ≤ chunks_of n - from
    → due_of has n stands' h' again' pending' + spent ≤ due_of has n stands h again pending
due-nowhere has n h h' from spent stands stands' again again' pending pending' was gone none is_from cost =
    let new = due-pending has n h' stands' again' pending' gone ∙ ap (λ b. chunks_of n * cond b 1 0) none in
    let old = due-stands has n h stands again pending was in
    elim (cases_Bool again) [
      | inl is ↦ omega (arith, new, old, ahead-again has n h again is, cost)
      | inr never ↦ elim (cases_lt h n) [
        | inl lt ↦ omega (arith, new, old, ahead-read has n h again lt never, cost, is_from.0 lt never)
        | inr le ↦ omega (arith, new, old, ahead-past has n h again le, cost)
      ]
    ]

-- a search that finds a word is paid by the part of the row behind it
pub due-moves : (has : ℕ → Bool) (n h word from spent : ℕ) (stands stands' again again' pending pending' : Bool) → stands ≡ true → stands' ≡ true → again' ≡ false → word < n → IsFrom n h again from
    → (h < n → again ≡ false → (has h ≡ true) × (h < word)) → spent + from ≤ word / 64 + 1 → due_of has n stands' word again' pending' + spent ≤ due_of has n stands h again pending
due-moves has n h word from spent stands stands' again again' pending pending' was is again_is within is_from later cost =
    let new = due-stands has n word stands' again' pending' is in
    let new_ahead = ahead-read has n word again' within again_is in
    let old = due-stands has n h stands again pending was in
    elim (cases_Bool again) [
      | inl start ↦ omega (arith, new, new_ahead, old, ahead-again has n h again start, search_first has n word spent within (omega (arith, cost, is_from.2 start)))
      | inr never ↦ elim (cases_lt h n) [
        | inl lt ↦ omega (arith, new, new_ahead, old, ahead-read has n h again lt never, search_found has n h word spent lt within (later lt never).0 (later lt never).1 (omega (arith, cost, is_from.0 lt never)))
        | inr le ↦ omega (arith, new, new_ahead, old, ahead-past has n h again le, search_first has n word spent within (omega (arith, cost, is_from.1 le)))
      ]
    ]

-- ---- the lights of a set

module _ (board : Board) (dictionary : Dictionary) (member : ℕ → Bool) (marks new : Marks)
    (each : (j r k : ℕ) → IsPositionIn board j r → k < 26 → due_letter board dictionary new j r (65 + k) ≤ due_letter board dictionary marks j r (65 + k)) where
  position-le : (j r : ℕ) → IsPositionIn board j r → due_position board dictionary new j r ≤ due_position board dictionary marks j r
  unfolding due_position
  position-le j r here = sum_to-le (λ k. due_letter board dictionary new j r (65 + k)) (λ k. due_letter board dictionary marks j r (65 + k)) 26 (λ k lt. each j r k here lt)

  light-le : (j : ℕ) → j < length board.lights → due_light board dictionary new j ≤ due_light board dictionary marks j
  unfolding due_light
  light-le j lt = sum_to-le (λ r. due_position board dictionary new j r) (λ r. due_position board dictionary marks j r) (length (light_at board j)) (λ r within. position-le j r (lt, within))

  member-le : (j : ℕ) → j < length board.lights → cond (member j) (due_light board dictionary new j) 0 ≤ cond (member j) (due_light board dictionary marks j) 0
  member-le j lt =
      elim (member j) as (λ m. cond m (due_light board dictionary new j) 0 ≤ cond m (due_light board dictionary marks j) 0) [
        | true ↦ light-le j lt
        | false ↦ omega arith
      ]

  pub due-le : due board dictionary member new ≤ due board dictionary member marks
  unfolding due
  due-le = sum_to-le (λ j. cond (member j) (due_light board dictionary new j) 0) (λ j. cond (member j) (due_light board dictionary marks j) 0) (length board.lights) member-le

  -- one position of a light in the set decreases by t
  module _ (i q t : ℕ) (is_position : IsPositionIn board i q) (in_set : member i ≡ true) (falls : due_position board dictionary new i q + t ≤ due_position board dictionary marks i q) where
    light-falls : due_light board dictionary new i + t ≤ due_light board dictionary marks i
    unfolding due_light
    light-falls =
        sum_to-falls (λ r. due_position board dictionary new i r) (λ r. due_position board dictionary marks i r) (length (light_at board i)) q t is_position.1 (λ r within. position-le i r (is_position.0, within)) falls

    member-falls : cond (member i) (due_light board dictionary new i) 0 + t ≤ cond (member i) (due_light board dictionary marks i) 0
    member-falls = omega (arith, light-falls, cond-true (member i) (due_light board dictionary new i) 0 in_set, cond-true (member i) (due_light board dictionary marks i) 0 in_set)

    pub due-falls : due board dictionary member new + t ≤ due board dictionary member marks
    unfolding due
    due-falls = sum_to-falls (λ j. cond (member j) (due_light board dictionary new j) 0) (λ j. cond (member j) (due_light board dictionary marks j) 0) (length board.lights) i t is_position.0 member-le member-falls

  -- one letter of a position decreases by t
  pub position-falls : (i q k t : ℕ) → IsPositionIn board i q → k < 26 → due_letter board dictionary new i q (65 + k) + t ≤ due_letter board dictionary marks i q (65 + k) → due_position board dictionary new i q + t ≤ due_position board dictionary marks i q
  unfolding due_position
  position-falls i q k t is_position small falls = sum_to-falls (λ k. due_letter board dictionary new i q (65 + k)) (λ k. due_letter board dictionary marks i q (65 + k)) 26 k t small (λ k lt. each i q k is_position lt) falls

-- ---- the start of stripping

module _ (board : Board) (dictionary : Dictionary) (marks : Marks) where
  position-bound : (i q : ℕ) → due_position board dictionary marks i q ≤ 78 * chunks board dictionary i + known board dictionary i
  unfolding due_position due_letter
  position-bound i q =
      let c = chunks board dictionary i in
      let n = known board dictionary i in
      let counted = λ (k : ℕ). count_from (puts board dictionary i q (65 + k)) 0 n in
      omega (
        arith,
        sum_to-le (λ k. due_letter board dictionary marks i q (65 + k)) (λ k. 3 * c + counted k) 26 (λ k lt.
            due-bound-letter (puts board dictionary i q (65 + k)) n (marks.held (slot_at board i q) (65 + k)) (marks.letters (cell_at board i q) (65 + k)) (marks.restart (slot_at board i q) (65 + k)) (marks.pending (slot_at board i q) (65 + k))),
        sum_to-add (λ k. 3 * c) counted 26,
        sum_to-bound (λ k. 3 * c) 26 (3 * c) (λ k lt. omega arith),
        counts-le (λ k. puts board dictionary i q (65 + k)) 26 0 n (λ w j k h g.
            omega (arith, eqb-true (letter_of board dictionary i w q) (65 + j) h, eqb-true (letter_of board dictionary i w q) (65 + k) g)),
      )

  product-le : (c m n : ℕ) → m ≤ n → c * m ≤ c * n
  product-le c m n h = grind arith

  light-bound : (i : ℕ) → due_light board dictionary marks i ≤ strip_cost board dictionary i
  unfolding due_light
  light-bound i =
      let c = chunks board dictionary i in
      let n = known board dictionary i in
      omega (
        arith,
        sum_to-bound (λ q. due_position board dictionary marks i q) (length (light_at board i)) (78 * c + n) (λ q lt. position-bound i q),
        product-le (length (light_at board i)) (78 * c + n) (100 * c + 4 * n + 1) (omega arith),
      )

  pub due-bound : (member : ℕ → Bool) → due board dictionary member marks ≤ set_cost board dictionary member
  unfolding due set_cost
  due-bound member =
      sum_to-le (λ i. cond (member i) (due_light board dictionary marks i) 0) (λ i. cond (member i) (strip_cost board dictionary i) 0) (length board.lights) (λ i lt.
      elim (member i) as (λ m. cond m (due_light board dictionary marks i) 0 ≤ cond m (strip_cost board dictionary i) 0) [
        | true ↦ light-bound i
        | false ↦ omega arith
      ])
