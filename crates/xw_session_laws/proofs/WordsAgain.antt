-- The word commands of a record.
use Rattle.std.proofs.Common.{◌≡◌, ℕ, ◌+◌, ◌<◌, ◌≤◌, zero, suc, Bool, true, false, List, [], ◌∷◌, length, map, get_or, set, flat_map, Some, refl, sym, ◌∙◌, ap, subst, inl, inr, zero-add, arith}
use Rattle.std.specs.Prelude.{◌==◌, if◌then◌else◌}
use Rattle.std.specs.Option.{option_and_then}
use Rattle.std.specs.List.{range_with_len}
use Rattle.std.proofs.Math.Nat.{min-eq_left}
use Rattle.std.proofs.lemmas.Bool.{cases_lt}
use Rattle.std.proofs.lemmas.Bool.Decides.{nat_tests}
use Rattle.std.proofs.lemmas.List.{length-map, get_or-map, get_or_default, same_lists}
use Rattle.std.proofs.lemmas.List.FromFn.{get_or-range_with_len, length-range_with_len, get_or-map-range_with_len}
use Rattle.xw_words.specs.Dictionary.{Dictionary, Entry, IsDictionary, AreLeft, known_words, capped, limited, all_limited, with_least}
use Rattle.xw_commands.specs.declared.change.Change.TheVariants.{Least}
use Rattle.xw_session.specs.State.{SessionState}
use Rattle.xw_answers.specs.Record.{known_counts, row_commands, length_commands, least_commands, word_commands}
use Rattle.xw_session_laws.specs.Replay.{replayed, with_words, ComeFirst}
use Rattle.xw_session_laws.proofs.Replaying.{replayed_both, next_done}
use Rattle.xw_session_laws.proofs.CellsAgain.{mixed, mixed_more, mixed_next, mixed_same, mixed_all, length-mixed}
use Rattle.xw_session_laws.proofs.WordAgain.{each_item_again}
use Rattle.xw_session_laws.proofs.RowAgain.{row_again}

-- ---- no words

none_to_add : (n : ℕ) → row_commands [] n ≡ []
none_to_add zero = refl
none_to_add (suc n) = refl

none_begun : (begun : List Entry) → length begun ≤ 0 → begun ≡ []
none_begun [] few = refl
none_begun (e ∷ begun) few = absurd (omega (arith, few))

-- ---- the least grade

limited_again : (least : ℕ) (entries : List Entry) → AreLeft least entries → all_limited least (all_limited 0 entries) ≡ entries
limited_again least entries left =
    let mid = all_limited 0 entries in
    let long = length-map mid (limited least) ∙ length-map entries (limited 0) in
    same_lists (all_limited least mid) entries long (λ k d within.
    let here : k < length entries = omega (arith, within, long) in
    let there : k < length mid = omega (arith, here, length-map entries (limited 0)) in
    let one = get_or entries k d in
    get_or-map (limited least) mid k d d there
    ∙ ap (limited least) (get_or-map (limited 0) entries k d d here)
    ∙ ap (λ b. record { word = one.word; active = b; struck = one.struck; grade = one.grade; regraded = one.regraded }) (sym (left k d here)))

limited_once : (entries : List Entry) → AreLeft 0 entries → all_limited 0 entries ≡ entries
limited_once entries left =
    let long = length-map entries (limited 0) in
    same_lists (all_limited 0 entries) entries long (λ k d within.
    let here : k < length entries = omega (arith, within, long) in
    let one = get_or entries k d in
    get_or-map (limited 0) entries k d d here
    ∙ ap (λ b. record { word = one.word; active = b; struck = one.struck; grade = one.grade; regraded = one.regraded }) (sym (left k d here)))

-- the words while none is left out
abbrev all_in : Dictionary → Dictionary
all_in words = record { rows = map (all_limited 0) words.rows; least = 0 }

module _ (words : Dictionary) (is : IsDictionary words) where
  none_out : words.least ≡ 0 → all_in words ≡ words
  none_out least =
      let same : map (all_limited 0) words.rows ≡ words.rows =
      same_lists (map (all_limited 0) words.rows) words.rows (length-map words.rows (all_limited 0)) (λ k d within.
      let here : k < length words.rows = omega (arith, within, length-map words.rows (all_limited 0)) in
      get_or-map (all_limited 0) words.rows k [] d here ∙ limited_once (get_or words.rows k []) (subst (λ n. AreLeft n (known_words words k)) least (is.left k)) ∙ get_or_default words.rows k [] d here) in
      ap (λ rows. record { rows = rows; least = 0 }) same ∙ ap (λ n. record { rows = words.rows; least = n }) (sym least)

  least_again : with_least words.least (all_in words) ≡ words
  least_again =
      let number : capped words.least ≡ words.least = min-eq_left is.least in
      let rows = map (all_limited 0) words.rows in
      let same : map (all_limited words.least) rows ≡ words.rows =
      same_lists (map (all_limited words.least) rows) words.rows (length-map rows (all_limited words.least) ∙ length-map words.rows (all_limited 0)) (λ k d within.
      let here : k < length words.rows = omega (arith, within, length-map rows (all_limited words.least), length-map words.rows (all_limited 0)) in
      let there : k < length rows = omega (arith, here, length-map words.rows (all_limited 0)) in
      get_or-map (all_limited words.least) rows k [] d there
      ∙ ap (all_limited words.least) (get_or-map (all_limited 0) words.rows k [] [] here)
      ∙ limited_again words.least (get_or words.rows k []) (is.left k) ∙ get_or_default words.rows k [] d here) in
      ap (λ n. record { rows = map (all_limited n) rows; least = n }) number ∙ ap (λ rows. record { rows = rows; least = words.least }) same

  maybe_least : (state : SessionState) (b : Bool) → (words.least == 0) ≡ b → replayed (with_words state (all_in words)) (if b then [] else Least words.least ∷ []) ≡ Some (with_words state words)
  maybe_least state true none = let least : words.least ≡ 0 = grind (arith, nat_tests, none) in ap (λ ws. Some (with_words state ws)) (none_out least)
  maybe_least state false some = next_done (with_words state (all_in words)) (with_words state words) (Least words.least) [] (ap (λ ws. Some (with_words state ws)) least_again)

-- ---- the whole dictionary

module _ (state : SessionState) (begun words : Dictionary) (is : IsDictionary words) (was : length begun.rows ≡ 256) (least : begun.least ≡ 0) (now : state.engine.words ≡ begun)
    (first : (count : ℕ) → ComeFirst (known_words begun count) (known_words words count)) where
  abbrev settled : List (List Entry)
  settled = map (all_limited 0) words.rows

  length-settled : length settled ≡ 256
  length-settled = length-map words.rows (all_limited 0) ∙ is.lengths

  as_many : length settled ≡ length begun.rows
  as_many = length-settled ∙ sym was

  abbrev after : ℕ → SessionState
  after k = with_words state (record { rows = mixed settled begun.rows k; least = begun.least })

  module _ (k : ℕ) (below : k < 256) where
    within : k < length settled
    within = omega (arith, below, length-settled)

    row_now : known_words (after k).engine.words k ≡ known_words begun k
    row_now = mixed_next settled begun.rows as_many k [] within

    row_settled : get_or settled k [] ≡ all_limited 0 (known_words words k)
    row_settled = get_or-map (all_limited 0) words.rows k [] [] (omega (arith, below, is.lengths))

    length_again : replayed (after k) (row_commands (known_words words k) (length (known_words begun k))) ≡ Some (after (k + 1))
    length_again = elim (cases_lt k 2) [
      | inl short ↦
          let none : known_words words k ≡ [] = is.none_shorter k short in
          let none_before : known_words begun k ≡ [] = none_begun (known_words begun k) (omega (arith, (first k).few, ap length none)) in
          ap (λ es. replayed (after k) (row_commands es (length (known_words begun k)))) none
          ∙ ap (replayed (after k)) (none_to_add (length (known_words begun k)))
          ∙ ap (λ rows. Some (with_words state (record { rows = rows; least = begun.least })))
          (sym (mixed_same settled begun.rows as_many k [] within (none_before ∙ sym (row_settled ∙ ap (all_limited 0) none))))
      | inr several ↦
          let long : length (after k).engine.words.rows ≡ 256 = length-mixed settled begun.rows as_many k [] within ∙ length-settled in
          row_again (after k) k (known_words words k) (is.words k) several (omega (arith, below)) long least (known_words begun k) (first k) row_now
          ∙ ap (λ rows. Some (with_words state (record { rows = rows; least = begun.least })))
          (ap (set (mixed settled begun.rows k) k) (sym row_settled) ∙ sym (mixed_more settled begun.rows as_many k [] within))
    ]

  some_lengths : (n : ℕ) → n ≤ 256 → (counts : List ℕ) → ((k : ℕ) → k < n → get_or counts k 0 ≡ length (known_words begun k))
      → replayed state (flat_map (length_commands counts words) (range_with_len 0 n)) ≡ Some (after n)
  some_lengths n most counts are =
      let start : state ≡ after 0 = ap (λ ws. with_words state ws) now in
      let size : length (range_with_len 0 n) ≡ n = length-range_with_len 0 n in
      ap (λ s. replayed s (flat_map (length_commands counts words) (range_with_len 0 n))) start
      ∙ each_item_again (length_commands counts words) 0 (range_with_len 0 n) after (λ i inside.
      let below : i < n = omega (arith, inside, size) in
      let at : get_or (range_with_len 0 n) i 0 ≡ i = get_or-range_with_len 0 n i 0 below ∙ zero-add i in
      ap (λ k. replayed (after i) (length_commands counts words k)) at
      ∙ ap (λ m. replayed (after i) (row_commands (known_words words i) m)) (are i below)
      ∙ length_again i (omega (arith, below, most)))
      ∙ ap (λ m. Some (after m)) size

  all_lengths : replayed state (flat_map (length_commands (known_counts begun) words) (range_with_len 0 256)) ≡ Some (with_words state (all_in words))
  all_lengths =
      some_lengths 256 (omega arith) (known_counts begun) (λ k below. get_or-map-range_with_len (λ count. length (known_words begun count)) 0 256 k k 0 below (zero-add k))
      ∙ ap (λ rows. Some (with_words state (record { rows = rows; least = begun.least }))) (mixed_all settled begun.rows 256 as_many (sym length-settled))
      ∙ ap (λ n. Some (with_words state (record { rows = settled; least = n }))) least

  pub words_again : replayed state (word_commands (known_counts begun) words) ≡ Some (with_words state words)
  words_again =
      replayed_both state (flat_map (length_commands (known_counts begun) words) (range_with_len 0 256)) (least_commands words.least)
      ∙ ap (option_and_then (λ mid. replayed mid (least_commands words.least))) all_lengths
      ∙ maybe_least words is state (words.least == 0) refl
