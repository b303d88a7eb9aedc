-- How a search for a support of a letter changes the marks of a net.
use Rattle.std.proofs.Common.{◌≡◌, ◌≢◌, ℕ, ◌+◌, ◌-◌, ◌*◌, ◌/◌, ◌^◌, ◌<◌, ◌≤◌, Bool, true, false, not, ◌&&◌, cond, eqb, ltb, List, length, get_or, set, refl, sym, ap, ◌∙◌, subst, inl, inr, arith}
use Rattle.std.proofs.lemmas.Bool.{cases_lt, cases_Bool, both_ways, and_parts, and_from, and_right, eq-eqb, eqb-true, lt-ltb, le-ltb, not_from_true, false_from_ne_true, or_cases, or_left, or_right}
use Rattle.std.proofs.lemmas.List.{get_or-set_same, get_or-set_other, get_or_past}
use Rattle.xw_letters.specs.Letter.{IsLetter}
use Rattle.xw_words.specs.Dictionary.{Dictionary, Entry}
use Rattle.xw_words.specs.Columns.{has_letter}
use Rattle.xw_feas.specs.Board.{Board, light_at}
use Rattle.xw_feas.specs.Flags.{set_has}
use Rattle.xw_net.specs.Marks.{IsPositionIn, cell_at, slot_at, IsSetting, known, puts, IsHeld, IsHolding, IsSound, Drops}
use Rattle.xw_net.specs.Marks.IsHeld.{by_held}
use Rattle.xw_net.specs.Due.{Measure, IsUnderway, and_light}
use Rattle.xw_net.specs.Support.{Held, holds, index_for, search_from, supports, Finds}
use Rattle.xw_net.specs.Support.Finds.{stands, moves, nowhere}
use Rattle.xw_net.specs.Nets.{bits_for, word_stands, letter_stands, held_in, restart_in, pending_in, queued_in, marks_of, HasBits, Waits, left_of}
use Rattle.xw_net.specs.Steps.{IsStruckFrom, IsCheck}
use Rattle.xw_net.specs.declared.net.Net.{Net}
use Rattle.xw_net.proofs.Costs.DueTicks.{IsFrom}
use Rattle.xw_net.proofs.Stripping.StruckRows.{set_letter}
use Rattle.xw_net.proofs.Stripping.StepsKeepInvariant.{IsHung, IsMoved, IsDropped, hung_held, hung_stays, same_stays, moves_sound, moves_paid}
use Rattle.xw_net.proofs.Stripping.DroppedLetters.{words_struck, held_struck, restart_struck, dropped_under}
use Rattle.xw_net.proofs.Stripping.KeptSupports.{few_bits}
use Rattle.xw_net.proofs.Stripping.HeldWords.{hung_holding, same_holding}
use Rattle.xw_net.proofs.Stripping.WordsByNumber.{listed_is, word_cases, bits_known, letter_listed}
use Rattle.xw_net.proofs.Stripping.WordsByNumber.WordOf.{listed, spelled_one}

from_cases : (held : Held) (slot letter n : ℕ) → IsFrom n (index_for held slot letter) (set_has held.restart slot letter) (search_from held slot letter n)
from_cases held slot letter n =
    let h = index_for held slot letter in
    let again = set_has held.restart slot letter in (
      (λ lt never. ap (λ b. cond (b && not (set_has held.restart slot letter)) (index_for held slot letter / 64) 0) (lt-ltb h n lt) ∙ ap (λ b. cond (true && not b) (index_for held slot letter / 64) 0) never),
      (λ le. ap (λ b. cond (b && not (set_has held.restart slot letter)) (index_for held slot letter / 64) 0) (le-ltb h n le)),
      (λ is. ap (λ b. cond (ltb (index_for held slot letter) n && not b) (index_for held slot letter / 64) 0) is ∙ off (ltb h n)),
    ) where
      off : (b : Bool) → cond (b && false) (index_for held slot letter / 64) 0 ≡ 0
      off true = refl
      off false = refl

pub supports-parts : (row : List Bool) (words : List Entry) (position letter k : ℕ) → supports row words position letter k ≡ true → (get_or row k false ≡ true) × (has_letter words position letter k ≡ true)
unfolding supports
supports-parts row words position letter k h = and_parts (get_or row k false) (has_letter words position letter k) h

pub supports-from : (row : List Bool) (words : List Entry) (position letter k : ℕ) → get_or row k false ≡ true → has_letter words position letter k ≡ true → supports row words position letter k ≡ true
unfolding supports
supports-from row words position letter k in_row has = and_from (get_or row k false) (has_letter words position letter k) in_row has

-- different slots and letters have different indices in the list of held words
apart_indices : (s slot d b : ℕ) → IsLetter d → IsLetter b → ((s ≡ slot) × (d ≡ b) → ⊥) → 26 * s + (d - 65) ≢ 26 * slot + (b - 65)
apart_indices s slot d b is_d is_b n e =
    let slots : s ≡ slot = omega (arith, e, is_d.0, is_d.1, is_b.0, is_b.1) in
    let letters : d ≡ b = omega (arith, e, slots, is_d.0, is_b.0) in
    n (slots, letters)

-- A net was searched for another word that supports a letter at a position, and holds what was found. The entered word of the light is
-- not in the net.
pub record IsSearched (board : Board) (entries : ℕ → List Entry) (old new : Net) (i q b spent : ℕ) (found : Bool) : Type 0 where
  pub bits : HasBits board entries old
  pub position : IsPositionIn board i q
  pub letter : IsLetter b
  pub stood : letter_stands old (cell_at board i q) b ≡ true
  pub no_entry : get_or old.entered.items i false ≡ false
  pub in_held : 26 * slot_at board i q + (b - 65) < length old.held.items
  pub rest : new ≡ record old { held = new.held; restart = new.restart }
  pub finds : length (bits_for old i) < 2 ^ 32
      → Finds (bits_for old i) (entries (length (light_at board i))) q (slot_at board i q) b (holds old.held.items old.restart.items) (holds new.held.items new.restart.items) found spent

module _ {board : Board} {entries : ℕ → List Entry} {old new : Net} {i q b spent : ℕ} {found : Bool} (searched : IsSearched board entries old new i q b spent found) where
  open searched use {bits, position, letter, stood, no_entry, in_held, rest, finds}

  words_same : (j k : ℕ) → word_stands new j k ≡ word_stands old j k
  unfolding word_stands
  words_same j k = ap (λ (net : Net). word_stands net j k) rest

  pub letters_same : (x d : ℕ) → letter_stands new x d ≡ letter_stands old x d
  unfolding letter_stands
  letters_same x d = ap (λ (net : Net). letter_stands net x d) rest

  pending_same : (s d : ℕ) → pending_in new s d ≡ pending_in old s d
  unfolding pending_in
  pending_same s d = ap (λ (net : Net). pending_in net s d) rest

  queued_same : (j : ℕ) → queued_in new j ≡ queued_in old j
  unfolding queued_in
  queued_same j = ap (λ (net : Net). queued_in net j) rest

  module _ (dictionary : Dictionary) (setting : IsSetting board entries dictionary) where
    abbrev before : Held
    before = record { indices = old.held.items; restart = old.restart.items }

    abbrev after : Held
    after = record { indices = new.held.items; restart = new.restart.items }

    size : length (bits_for old i) ≡ known board dictionary i
    size = bits_known board entries dictionary setting old bits i position.0

    outcome : Finds (bits_for old i) (entries (length (light_at board i))) q (slot_at board i q) b before after found spent
    outcome = finds (few_bits board entries dictionary setting old bits i position.0)

    -- each word in the net is a known one, since the entered word is not
    in_row : (k : ℕ) → word_stands old i k ≡ true → (k < known board dictionary i) × (get_or (bits_for old i) k false ≡ true)
    in_row k h =
        elim (word_cases old i k h) [
          | listed lt bit ↦ (omega (arith, lt, size), bit)
          | spelled_one is flag ↦ absurd (both_ways (get_or old.entered.items i false) no_entry flag)
        ]

    -- a word in the net that has the letter is not before the chunk where the search goes on
    not_before : IsSound board dictionary (marks_of old) → (k : ℕ) → word_stands old i k ≡ true → puts board dictionary i q b k ≡ true → 64 * search_from before (slot_at board i q) b (length (bits_for old i)) ≤ k
    unfolding held_in restart_in
    not_before sound k stands_there has =
        let from = from_cases before (slot_at board i q) b (length (bits_for old i)) in
        let known_one = in_row k stands_there in
        elim (cases_Bool (set_has old.restart.items (slot_at board i q) b)) [
          | inl again ↦ omega (arith, from.2 again)
          | inr never ↦ elim (cases_lt (held_in old (slot_at board i q) b) (known board dictionary i)) [
            | inl lt ↦
                let most = sound.first i q b k position stood lt never known_one.0 stands_there has in
                omega (arith, from.0 (omega (arith, size, lt)) never, most)
            | inr le ↦ omega (arith, from.1 (omega (arith, size, le)))
          ]
        ]

    supported : (k : ℕ) → word_stands old i k ≡ true → puts board dictionary i q b k ≡ true → supports (bits_for old i) (entries (length (light_at board i))) q b k ≡ true
    supported k stands_there has =
        let known_one = in_row k stands_there in
        supports-from (bits_for old i) (entries (length (light_at board i))) q b k known_one.1 (letter_listed board entries dictionary setting i q k b position known_one.0 ∙ has)

    hung : (word : ℕ) → supports (bits_for old i) (entries (length (light_at board i))) q b word ≡ true → new.held.items ≡ set old.held.items (26 * slot_at board i q + (b - 65)) word → IsHung board dictionary (marks_of old) (marks_of new) i q b word
    unfolding held_in
    hung word sup indices =
        let parts = supports-parts (bits_for old i) (entries (length (light_at board i))) q b word sup in
        let lt : word < length (bits_for old i) = elim (cases_lt word (length (bits_for old i))) [ inl lt ↦ lt | inr le ↦ absurd (both_ways (get_or (bits_for old i) word false) (get_or_past (bits_for old i) word false le) parts.0) ] in
        record {
          words = words_same;
          held_here = ap (λ l. get_or l (26 * slot_at board i q + (b - 65)) 0) indices ∙ get_or-set_same old.held.items (26 * slot_at board i q + (b - 65)) word 0 in_held;
          held_rest = λ s d is_d n.
              ap (λ l. get_or l (26 * s + (d - 65)) 0) indices ∙ get_or-set_other old.held.items (26 * slot_at board i q + (b - 65)) (26 * s + (d - 65)) word 0 (apart_indices s (slot_at board i q) d b is_d letter n);
          within = omega (arith, lt, size);
          stands = listed_is old i word lt ∙ parts.0;
        }

    same_held : after ≡ before → (s d : ℕ) → held_in new s d ≡ held_in old s d
    unfolding held_in
    same_held e s d = ap (λ (h : Held). get_or h.indices (26 * s + (d - 65)) 0) e

    same_restart : after ≡ before → (s d : ℕ) → restart_in new s d ≡ restart_in old s d
    unfolding restart_in
    same_restart e s d = ap (λ (h : Held). set_has h.restart s d) e

    from_held : IsFrom (known board dictionary i) (held_in old (slot_at board i q) b) (restart_in old (slot_at board i q) b) (search_from before (slot_at board i q) b (length (bits_for old i)))
    unfolding held_in restart_in
    from_held = subst (λ n. IsFrom n (held_in old (slot_at board i q) b) (restart_in old (slot_at board i q) b) (search_from before (slot_at board i q) b (length (bits_for old i)))) size (from_cases before (slot_at board i q) b (length (bits_for old i)))

    stands_letter : (x d : ℕ) → letter_stands old x d ≡ true → IsLetter d
    unfolding letter_stands
    stands_letter x d h = set_letter (get_or old.letters.items x 0) d h

    -- ---- the search finds a word

    pub found_held : found ≡ true → IsHeld board dictionary (marks_of new) i q b
    unfolding held_in
    found_held is =
        elim outcome [
          | stands has_word lt bit same none ↦
              let at = held_in old (slot_at board i q) b in
              let here = same_held same (slot_at board i q) b in
              by_held (omega (arith, here, lt, size)) (ap (word_stands new i) here ∙ words_same i at ∙ listed_is old i at lt ∙ bit)
          | moves word has_word gone low sup none indices long again cost ↦ hung_held board dictionary setting.apart (marks_of old) (marks_of new) i q b position letter word (hung word sup indices)
          | nowhere lacks gone none same cost ↦ absurd (both_ways found lacks is)
        ]

    pub found_stays : found ≡ true → (j r d : ℕ) → IsPositionIn board j r → IsLetter d → IsHeld board dictionary (marks_of old) j r d → IsHeld board dictionary (marks_of new) j r d
    found_stays is j r d here is_d held =
        elim outcome [
          | stands has_word lt bit same none ↦ same_stays board dictionary setting.apart (marks_of old) (marks_of new) words_same (same_held same) j r d held
          | moves word has_word gone low sup none indices long again cost ↦ hung_stays board dictionary setting.apart (marks_of old) (marks_of new) i q b position letter word (hung word sup indices) j r d here is_d held
          | nowhere lacks gone none same cost ↦ absurd (both_ways found lacks is)
        ]

    -- if it finds none, the other letters keep their supports
    pub none_stays : found ≡ false → (last : Net) → IsStruckFrom new last → (j r d : ℕ) → IsHeld board dictionary (marks_of old) j r d → IsHeld board dictionary (marks_of last) j r d
    none_stays is last struck j r d held =
        elim outcome [
          | stands has_word lt bit same none ↦ absurd (both_ways found is has_word)
          | moves word has_word gone low sup none indices long again cost ↦ absurd (both_ways found is has_word)
          | nowhere lacks gone none same cost ↦
              same_stays board dictionary setting.apart (marks_of old) (marks_of last) (λ j k. words_struck new last struck j k ∙ words_same j k) (λ s d. held_struck new last struck s d ∙ same_held same s d) j r d held
        ]

    -- each held known word still has its letter
    pub found_holding : IsHolding board dictionary (marks_of old) → IsHolding board dictionary (marks_of new)
    found_holding =
        elim outcome [
          | stands has_word lt bit same none ↦ same_holding board dictionary (marks_of old) (marks_of new) (same_held same)
          | moves word has_word gone low sup none indices long again cost ↦
              let is_hung = hung word sup indices in
              let parts = supports-parts (bits_for old i) (entries (length (light_at board i))) q b word sup in
              hung_holding board dictionary (marks_of old) (marks_of new) setting.apart i q b word position is_hung (sym (letter_listed board entries dictionary setting i q word b position is_hung.within) ∙ parts.1)
          | nowhere lacks gone none same cost ↦ same_holding board dictionary (marks_of old) (marks_of new) (same_held same)
        ]

    -- whether a light is left out
    free_less : (more fewer : ℕ → Bool) → ((j : ℕ) → fewer j ≡ true → more j ≡ true) → (j : ℕ) → and_light more i j ≡ false → and_light fewer i j ≡ false
    free_less more fewer each j off =
        false_from_ne_true (and_light fewer i j) (λ h.
        both_ways (and_light more i j) off
        (elim (or_cases (fewer j) (eqb j i) h) [
          | inl waits ↦ or_left (more j) (eqb j i) (each j waits)
          | inr same ↦ or_right (more j) (eqb j i) same
        ]))

    marks_same : after ≡ before → marks_of new ≡ marks_of old
    unfolding held_in restart_in
    marks_same e = λ t. record {
      words = λ j k. words_same j k t;
      letters = λ x d. letters_same x d t;
      held = λ s d. same_held e s d t;
      restart = λ s d. same_restart e s d t;
      pending = λ s d. pending_same s d t;
      queued = λ j. queued_same j t;
    }

    module _ (measure : Measure) (ticks ticks' : ℕ) (spent_is : spent ≡ ticks' - ticks) (in_set : measure.member i ≡ true)
        (under : IsUnderway board dictionary measure (marks_of old) (and_light (queued_in old) i) ticks) where
      moved : (word : ℕ) → (held_in old (slot_at board i q) b < length (bits_for old i) → get_or (bits_for old i) (held_in old (slot_at board i q) b) false ≡ false)
          → supports (bits_for old i) (entries (length (light_at board i))) q b word ≡ true
          → ((other : ℕ) → 64 * search_from before (slot_at board i q) b (length (bits_for old i)) ≤ other → other < word → supports (bits_for old i) (entries (length (light_at board i))) q b other ≡ false)
          → new.held.items ≡ set old.held.items (26 * slot_at board i q + (b - 65)) word
          → ((s d : ℕ) → set_has new.restart.items s d ≡ (set_has old.restart.items s d && not (eqb s (slot_at board i q) && eqb d b)))
          → IsMoved board dictionary (marks_of old) (marks_of new) i q b word (search_from before (slot_at board i q) b (length (bits_for old i)))
      unfolding held_in restart_in
      moved word gone sup none indices again =
          let sound = under.kept.sound in
          let parts = supports-parts (bits_for old i) (entries (length (light_at board i))) q b word sup in
          let is_hung = hung word sup indices in
          let s = slot_at board i q in
          record {
            hung = is_hung;
            letters = letters_same;
            pending = pending_same;
            queued = queued_same;
            restart_here =
                again s b
                ∙ and_right (set_has old.restart.items s b) (not (eqb s (slot_at board i q) && eqb b b)) (not_from_true (eqb s (slot_at board i q) && eqb b b) (and_from (eqb s (slot_at board i q)) (eqb b b) (eq-eqb s (slot_at board i q) refl) (eq-eqb b b refl)));
            restart_rest = λ u d n.
                again u d
                ∙ ap (λ t. set_has old.restart.items u d && not t) (false_from_ne_true (eqb u (slot_at board i q) && eqb d b) (λ both.
                let two = and_parts (eqb u (slot_at board i q)) (eqb d b) both in n (eqb-true u (slot_at board i q) two.0, eqb-true d b two.1)))
                ∙ and_true (set_has old.restart.items u d);
            stood = stood;
            has = sym (letter_listed board entries dictionary setting i q word b position is_hung.within) ∙ parts.1;
            none_before = λ k lt stands_there has.
                both_ways (supports (bits_for old i) (entries (length (light_at board i))) q b k) (none k (not_before sound k stands_there has) lt) (supported k stands_there has);
            from_is = from_held;
            lost = λ lt.
                let low : held_in old (slot_at board i q) b < length (bits_for old i) = omega (arith, size, lt) in
                listed_is old i (held_in old (slot_at board i q) b) low ∙ gone low;
          } where
            and_true : (t : Bool) → (t && true) ≡ t
            and_true true = refl
            and_true false = refl

      pub found_kept : found ≡ true → IsUnderway board dictionary measure (marks_of new) (and_light (queued_in new) i) ticks'
      unfolding held_in restart_in
      found_kept is =
          elim outcome [
            | stands has_word lt bit same none ↦
                subst (λ m. IsUnderway board dictionary measure m (and_light m.queued i) ticks') (sym (marks_same same)) record {
                  kept = under.kept;
                  paid = record { closed = under.paid.closed; within = omega (arith, under.paid.within, none, spent_is); queued = under.paid.queued; fewer = under.paid.fewer };
                }
            | moves word has_word gone low sup none indices long again cost ↦
                let is_moved = moved word gone sup none indices again in
                let from = search_from before (slot_at board i q) b (length (bits_for old i)) in
                record {
                  kept = record {
                    sound = moves_sound board dictionary setting.apart (marks_of old) (marks_of new) i q b position letter word from is_moved under.kept.sound;
                    held = λ j r d here off alive.
                        let alive_before : letter_stands old (cell_at board j r) d ≡ true = sym (letters_same (cell_at board j r) d) ∙ alive in
                        hung_stays board dictionary setting.apart (marks_of old) (marks_of new) i q b position letter word is_moved.hung j r d here (stands_letter (cell_at board j r) d alive_before)
                        (under.kept.held j r d here (free_less (queued_in new) (queued_in old) (λ n h. queued_same n ∙ h) j off) alive_before);
                  };
                  paid = moves_paid board dictionary setting.apart (marks_of old) (marks_of new) i q b position letter word from is_moved measure ticks ticks' under.kept.sound under.paid in_set (omega (arith, cost, spent_is));
                }
            | nowhere lacks gone none same cost ↦ absurd (both_ways found lacks is)
          ]

      -- ---- the search finds no word

      pub none_kept : found ≡ false → (last : Net) → IsStruckFrom new last
          → Drops board i q b (marks_of new) (marks_of last) → IsUnderway board dictionary measure (marks_of last) (and_light (queued_in last) i) ticks'
      none_kept is last struck drops =
          elim outcome [
            | stands has_word lt bit same none ↦ absurd (both_ways found is has_word)
            | moves word has_word gone low sup none indices long again cost ↦ absurd (both_ways found is has_word)
            | nowhere lacks gone none same cost ↦
                let sound = under.kept.sound in
                let from = search_from before (slot_at board i q) b (length (bits_for old i)) in
                let all_words : (j k : ℕ) → word_stands last j k ≡ word_stands old j k = λ j k. words_struck new last struck j k ∙ words_same j k in
                let all_held : (s d : ℕ) → held_in last s d ≡ held_in old s d = λ s d. held_struck new last struck s d ∙ same_held same s d in
                let all_drops : Drops board i q b (marks_of old) (marks_of last) = subst (λ m. Drops board i q b m (marks_of last)) (marks_same same) drops in
                let dropped : IsDropped board dictionary (marks_of old) (marks_of last) i q b (search_from before (slot_at board i q) b (length (bits_for old i))) = record {
                  words = all_words;
                  held = all_held;
                  restart = λ s d. restart_struck new last struck s d ∙ same_restart same s d;
                  stood = stood;
                  drops = all_drops;
                  no_word = λ k stands_there has.
                      both_ways (supports (bits_for old i) (entries (length (light_at board i))) q b k) (none k (not_before sound k stands_there has)) (supported k stands_there has);
                  from_is = from_held;
                } in
                dropped_under board dictionary setting.apart (marks_of old) (marks_of last) i q b from position letter dropped measure ticks ticks' in_set (omega (arith, cost, spent_is, size)) under
          ]

  -- a search keeps what a check of letters keeps
  pub found_check : IsCheck board entries old new
  unfolding queued_in
  found_check = record {
    fewer = omega (arith, ap left_of rest);
    waits = λ other. subst (λ (net : Net). Waits net other) (sym rest);
    holding = found_holding;
    pending = λ slot other pends. inl (sym (pending_same slot other) ∙ pends);
  }
