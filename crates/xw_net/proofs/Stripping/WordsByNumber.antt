-- The words of a net by number, and their letters.
use Rattle.std.proofs.Common.{◌≡◌, ◌≢◌, ℕ, zero, suc, ◌+◌, ◌-◌, ◌*◌, ◌<◌, ◌≤◌, Bool, true, false, not, ◌&&◌, eqb, Option, Some, List, [], ◌∷◌, ◌++◌, map, length, get_or, set, slice_get, refl, sym, ap, ◌∙◌, inl, inr, arith}
use Rattle.std.specs.Prelude.{unwrap_or}
use Rattle.std.proofs.lemmas.Bool.{cases_lt, cases_eq, both_ways, and_parts, and_from, eq-eqb, not_from_false, not-true, false_from_ne_true, false≢true}
use Rattle.std.proofs.lemmas.List.{get_or-map, get_or_append_left, get_or_push, length-map, get_or-set_same, get_or-set_other}
use Rattle.std.proofs.lemmas.Option.{slice_get-get_or, slice_get_within}
use Rattle.xw_bits.specs.Bits.{RowOfBits}
use Rattle.xw_words.specs.Dictionary.{Dictionary, Entry, known_words, no_entry}
use Rattle.xw_words.specs.Columns.{has_letter, letter_is}
use Rattle.xw_letters.specs.LetterSet.{has}
use Rattle.xw_letters.proofs.LetterSetLemmas.{has-none}
use Rattle.xw_feas.specs.Board.{Board, light_at, entry, spelled}
use Rattle.xw_feas.specs.Choices.{choice_at}
use Rattle.xw_feas.specs.Flags.{set_has}
use Rattle.xw_net.specs.Marks.{IsPositionIn, cell_at, slot_at, IsSetting, known, letter_of, IsSound}
use Rattle.xw_net.specs.Support.{Strikes, AreApart}
use Rattle.xw_net.specs.Nets.{bits_at, bits_for, word_stands, letter_stands, held_in, restart_in, pending_in, queued_in, marks_of, HasBits}
use Rattle.xw_net.specs.declared.net.Net.{Net}
use Rattle.xw_net.proofs.Stripping.StepsKeepInvariant.{IsStruck}

pub slice_get-set_same : {X : Type 0} (xs : List X) (i : ℕ) (y : X) → i < length xs → slice_get (set xs i y) i ≡ Some y
slice_get-set_same [] i y lt = absurd (omega arith)
slice_get-set_same (x ∷ xs) zero y lt = refl
slice_get-set_same (x ∷ xs) (suc i) y lt = slice_get-set_same xs i y (omega arith)

pub slice_get-set_other : {X : Type 0} (xs : List X) (i j : ℕ) (y : X) → j ≢ i → slice_get (set xs i y) j ≡ slice_get xs j
slice_get-set_other [] i j y n = refl
slice_get-set_other (x ∷ xs) zero zero y n = absurd (n refl)
slice_get-set_other (x ∷ xs) zero (suc j) y n = refl
slice_get-set_other (x ∷ xs) (suc i) zero y n = refl
slice_get-set_other (x ∷ xs) (suc i) (suc j) y n = slice_get-set_other xs i j y (λ e. n (ap suc e))

-- a flag past the others is the last one
past_flags : (flags : List Bool) (last : Bool) (k : ℕ) → length flags ≤ k → get_or (flags ++ last ∷ []) k false ≡ true → (k ≡ length flags) × (last ≡ true)
past_flags [] last zero above h = (refl, h)
past_flags [] last (suc k) above h = absurd (false≢true h)
past_flags (flag ∷ flags) last zero above h = absurd (omega arith)
past_flags (flag ∷ flags) last (suc k) above h = let rest = past_flags flags last k (omega arith) h in (omega (arith, rest.0), rest.1)

-- ---- the words of a light

module _ (net : Net) (light : ℕ) where
  pub listed_is : (k : ℕ) → k < length (bits_for net light) → word_stands net light k ≡ get_or (bits_for net light) k false
  unfolding word_stands
  listed_is k lt = get_or_append_left (bits_for net light) (get_or net.entered.items light false ∷ []) false k lt

  pub entered_is : (k : ℕ) → length (bits_for net light) ≡ k → word_stands net light k ≡ get_or net.entered.items light false
  unfolding word_stands
  entered_is k is = get_or_push (bits_for net light) (get_or net.entered.items light false) false k is

  -- a word in the net is a known one, or the entered one
  pub data WordOf (k : ℕ) : Type 0 where
    listed : k < length (bits_for net light) → get_or (bits_for net light) k false ≡ true → WordOf k
    spelled_one : k ≡ length (bits_for net light) → get_or net.entered.items light false ≡ true → WordOf k

  pub word_cases : (k : ℕ) → word_stands net light k ≡ true → WordOf k
  unfolding word_stands
  word_cases k h =
      elim (cases_lt k (length (bits_for net light))) [
        | inl lt ↦ listed lt (sym (listed_is k lt) ∙ h)
        | inr le ↦ let last = past_flags (bits_for net light) (get_or net.entered.items light false) k le h in spelled_one last.0 last.1
      ]

-- ---- the letters of words

module _ (board : Board) (entries : ℕ → List Entry) (dictionary : Dictionary) (setting : IsSetting board entries dictionary) where
  pub bits_known : (net : Net) → HasBits board entries net → (i : ℕ) → i < length board.lights → length (bits_for net i) ≡ known board dictionary i
  bits_known net bits i lt = bits i lt ∙ ap length (setting.read (length (light_at board i)))

  pub choice_listed : (i k : ℕ) → k < known board dictionary i → choice_at board dictionary i k ≡ (get_or (known_words dictionary (length (light_at board i))) k no_entry).word
  choice_listed i k lt =
      let words = known_words dictionary (length (light_at board i)) in
      get_or_append_left (map (λ (word : Entry). word.word) words) (spelled board (light_at board i) ∷ []) [] k (omega (arith, length-map words (λ (word : Entry). word.word)))
      ∙ get_or-map (λ (word : Entry). word.word) words k no_entry [] lt

  is_letter : (o : Option ℕ) (a letter : ℕ) → o ≡ Some a → letter_is o letter ≡ eqb a letter
  is_letter o a letter is = ap (λ o. letter_is o letter) is

  pub letter_listed : (i q k letter : ℕ) → IsPositionIn board i q → k < known board dictionary i → has_letter (entries (length (light_at board i))) q letter k ≡ eqb (letter_of board dictionary i k q) letter
  letter_listed i q k letter position lt =
      let words = known_words dictionary (length (light_at board i)) in
      let word = (get_or words k no_entry).word in
      let long : length word ≡ length (light_at board i) = (setting.words.words (length (light_at board i))).long k no_entry lt in
      ap (λ es. has_letter es q letter k) (setting.read (length (light_at board i)))
      ∙ is_letter (slice_get word q) (get_or word q 0) letter (slice_get-get_or word q 0 (omega (arith, long, position.1)))
      ∙ ap (λ w. eqb (get_or w q 0) letter) (sym (choice_listed i k lt))

  pub letter_entered : (i q : ℕ) → IsPositionIn board i q → letter_of board dictionary i (known board dictionary i) q ≡ unwrap_or (entry board (cell_at board i q)) 65
  letter_entered i q position =
      let words = known_words dictionary (length (light_at board i)) in
      ap (λ w. get_or w q 0) (get_or_push (map (λ (word : Entry). word.word) words) (spelled board (light_at board i)) [] (known board dictionary i) (length-map words (λ (word : Entry). word.word)))
      ∙ get_or-map (λ cell. unwrap_or (entry board cell) 65) (light_at board i) q 0 0 position.1

  -- each letter of a known word in the net is in the net too, or pending
  pub has_own : (i q k : ℕ) → IsPositionIn board i q → k < known board dictionary i → has_letter (entries (length (light_at board i))) q (letter_of board dictionary i k q) k ≡ true
  has_own i q k position lt = letter_listed i q k (letter_of board dictionary i k q) position lt ∙ eq-eqb (letter_of board dictionary i k q) (letter_of board dictionary i k q) refl

  -- ---- removing words from a row

  module _ (old new : Net) (i q : ℕ) (position : IsPositionIn board i q) (bits : HasBits board entries old) (first second : RowOfBits) (pending alive : ℕ)
      (row_is : slice_get old.rows.items i ≡ Some first) (rows_are : new.rows.items ≡ set old.rows.items i second) (long : length second.bits ≡ length first.bits)
      (in_entered : i < length old.entered.items)
      (entered_are : new.entered.items ≡ set old.entered.items i (get_or old.entered.items i false && not (has pending (unwrap_or (entry board (cell_at board i q)) 65))))
      (in_pending : slot_at board i q < length old.pending.items) (pending_are : new.pending.items ≡ set old.pending.items (slot_at board i q) 0)
      (letters_same : new.letters ≡ old.letters) (held_same : new.held ≡ old.held) (restart_same : new.restart ≡ old.restart) (queued_same : new.queue ≡ old.queue)
      (pending_is : pending ≡ get_or old.pending.items (slot_at board i q) 0) (alive_is : alive ≡ get_or old.letters.items (cell_at board i q) 0)
      (strikes : AreApart pending alive → Strikes (entries (length (light_at board i))) q pending alive (λ w. get_or first.bits w false) (λ w. get_or second.bits w false)) where
    bits_now : bits_for new i ≡ second.bits
    bits_now = ap (λ rows. bits_at (slice_get rows i)) rows_are ∙ ap bits_at (slice_get-set_same old.rows.items i second (slice_get_within old.rows.items i first row_is))

    bits_then : bits_for old i ≡ first.bits
    bits_then = ap bits_at row_is

    bits_other : (j : ℕ) → j ≢ i → bits_for new j ≡ bits_for old j
    bits_other j n = ap (λ rows. bits_at (slice_get rows j)) rows_are ∙ ap bits_at (slice_get-set_other old.rows.items i j second n)

    pub still_bits : HasBits board entries new
    still_bits j lt =
        elim (cases_eq j i) [
          | inl e ↦ ap (λ n. length (bits_for new n)) e ∙ ap length bits_now ∙ long ∙ sym (ap length bits_then) ∙ sym (ap (λ n. length (bits_for old n)) e) ∙ bits j lt
          | inr n ↦ ap length (bits_other j n) ∙ bits j lt
        ]

    pub pending_cleared : (b : ℕ) → pending_in new (slot_at board i q) b ≡ false
    unfolding pending_in
    pending_cleared b = ap (λ sets. set_has sets (slot_at board i q) b) pending_are ∙ ap (λ s. has s b) (get_or-set_same old.pending.items (slot_at board i q) 0 0 in_pending) ∙ has-none b

    pub pending_rest : (s b : ℕ) → s ≢ slot_at board i q → pending_in new s b ≡ pending_in old s b
    unfolding pending_in
    pending_rest s b n = ap (λ sets. set_has sets s b) pending_are ∙ ap (λ t. has t b) (get_or-set_other old.pending.items (slot_at board i q) s 0 0 n)

    entered_now : get_or new.entered.items i false ≡ (get_or old.entered.items i false && not (has pending (unwrap_or (entry board (cell_at board i q)) 65)))
    entered_now = ap (λ flags. get_or flags i false) entered_are ∙ get_or-set_same old.entered.items i (get_or old.entered.items i false && not (has pending (unwrap_or (entry board (cell_at board i q)) 65))) false in_entered

    size_now : length (bits_for new i) ≡ known board dictionary i
    size_now = bits_known new still_bits i position.0

    size_then : length (bits_for old i) ≡ known board dictionary i
    size_then = bits_known old bits i position.0

    module _ (apart : AreApart pending alive) where
      words_fewer : (k : ℕ) → word_stands new i k ≡ true → word_stands old i k ≡ true
      words_fewer k h =
          elim (word_cases new i k h) [
            | listed lt bit ↦
                listed_is old i k (omega (arith, size_now, size_then, lt))
                ∙ ap (λ bs. get_or bs k false) bits_then ∙ (strikes apart).fewer k (sym (ap (λ bs. get_or bs k false) bits_now) ∙ bit)
            | spelled_one is flag ↦
                entered_is old i k (omega (arith, size_now, size_then, is))
                ∙ (and_parts (get_or old.entered.items i false) (not (has pending (unwrap_or (entry board (cell_at board i q)) 65))) (sym entered_now ∙ flag)).0
          ]

      words_struck : (k : ℕ) → word_stands new i k ≡ true → has pending (letter_of board dictionary i k q) ≡ false
      words_struck k h =
          false_from_ne_true (has pending (letter_of board dictionary i k q)) (λ waits.
          elim (word_cases new i k h) [
            | listed lt bit ↦
                both_ways (get_or (bits_for new i) k false)
                (ap (λ bs. get_or bs k false) bits_now ∙ (strikes apart).struck k (letter_of board dictionary i k q) waits (has_own i q k position (omega (arith, size_now, lt)))) bit
            | spelled_one is flag ↦
                let at : k ≡ known board dictionary i = is ∙ size_now in
                let same : letter_of board dictionary i k q ≡ unwrap_or (entry board (cell_at board i q)) 65 = ap (λ n. letter_of board dictionary i n q) at ∙ letter_entered i q position in
                both_ways (has pending (unwrap_or (entry board (cell_at board i q)) 65))
                (not-true (has pending (unwrap_or (entry board (cell_at board i q)) 65)) (and_parts (get_or old.entered.items i false) (not (has pending (unwrap_or (entry board (cell_at board i q)) 65))) (sym entered_now ∙ flag)).1)
                (ap (has pending) (sym same) ∙ waits)
          ])

      words_kept : (k : ℕ) → word_stands old i k ≡ true → has alive (letter_of board dictionary i k q) ≡ true → word_stands new i k ≡ true
      words_kept k h stands =
          elim (word_cases old i k h) [
            | listed lt bit ↦
                listed_is new i k (omega (arith, size_now, size_then, lt))
                ∙ ap (λ bs. get_or bs k false) bits_now
                ∙ (strikes apart).kept k (letter_of board dictionary i k q) stands (has_own i q k position (omega (arith, size_then, lt))) (sym (ap (λ bs. get_or bs k false) bits_then) ∙ bit)
            | spelled_one is flag ↦
                let at : k ≡ known board dictionary i = is ∙ size_then in
                let same : letter_of board dictionary i k q ≡ unwrap_or (entry board (cell_at board i q)) 65 = ap (λ n. letter_of board dictionary i n q) at ∙ letter_entered i q position in
                entered_is new i k (omega (arith, size_now, at)) ∙ entered_now
                ∙ and_from (get_or old.entered.items i false) (not (has pending (unwrap_or (entry board (cell_at board i q)) 65))) flag
                (not_from_false (has pending (unwrap_or (entry board (cell_at board i q)) 65)) (false_from_ne_true (has pending (unwrap_or (entry board (cell_at board i q)) 65)) (λ waits.
                both_ways (has alive (unwrap_or (entry board (cell_at board i q)) 65)) (apart (unwrap_or (entry board (cell_at board i q)) 65) waits) (ap (has alive) (sym same) ∙ stands))))
          ]

    words_other : (j k : ℕ) → j ≢ i → word_stands new j k ≡ word_stands old j k
    unfolding word_stands
    words_other j k n =
        ap (λ bs. get_or (bs ++ get_or new.entered.items j false ∷ []) k false) (bits_other j n)
        ∙ ap (λ flag. get_or (bits_for old j ++ flag ∷ []) k false)
        (ap (λ flags. get_or flags j false) entered_are ∙ get_or-set_other old.entered.items i j (get_or old.entered.items i false && not (has pending (unwrap_or (entry board (cell_at board i q)) 65))) false n)

    sets_apart : IsSound board dictionary (marks_of old) → AreApart pending alive
    unfolding pending_in letter_stands
    sets_apart sound letter waits =
        ap (λ s. has s letter) alive_is ∙ sound.pending_gone i q letter position (ap (λ s. has s letter) (sym pending_is) ∙ waits)

    pub net_struck : IsSound board dictionary (marks_of old) → IsStruck board dictionary (marks_of old) (marks_of new) i q
    unfolding letter_stands held_in restart_in queued_in pending_in
    net_struck sound =
        let apart = sets_apart sound in
        record {
          rest = words_other;
          fewer = words_fewer apart;
          struck = λ k h. ap (λ s. has s (letter_of board dictionary i k q)) (sym pending_is) ∙ words_struck apart k h;
          kept = λ k h stands. words_kept apart k h (ap (λ s. has s (letter_of board dictionary i k q)) alive_is ∙ stands);
          letters = λ x b. ap (λ v. set_has v.items x b) letters_same;
          held = λ s b. ap (λ v. get_or v.items (26 * s + (b - 65)) 0) held_same;
          restart = λ s b. ap (λ v. set_has v.items s b) restart_same;
          queued = λ j. ap (λ list. get_or list.marks j false) queued_same;
          cleared = pending_cleared;
          pending_rest = pending_rest;
        }
