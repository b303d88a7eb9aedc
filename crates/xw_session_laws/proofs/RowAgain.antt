-- The word commands of a record for the words of one length.
use Rattle.std.proofs.Common.{◌≡◌, ℕ, ◌+◌, ◌-◌, ◌<◌, ◌≤◌, Bool, true, false, ◌&&◌, not, le-leb, List, [], ◌∷◌, ◌++◌, length, map, take, drop, get_or, set, min, flat_map, Some, None, refl, sym, ◌∙◌, ap, subst, inl, inr, get_or-set_same, length-set, arith}
use Rattle.std.specs.Prelude.{nat_le, ◌==◌, if◌then◌else◌}
use Rattle.std.specs.Str.{bytes_eq}
use Rattle.std.specs.Option.{option_and_then}
use Rattle.std.proofs.Math.Nat.{min-eq_left, zero-max}
use Rattle.std.proofs.Math.Seq.{take-append_seam}
use Rattle.std.proofs.lemmas.Bool.{cases_lt, cases_eq}
use Rattle.std.proofs.lemmas.Bool.Decides.{nat_tests}
use Rattle.std.proofs.lemmas.List.{take_more, take_all, length-take-le, length-drop, length-append, get_or-take, length-map, set-set, set-get_or, get_or-map, get_or-drop, get_or_append_left, get_or-append_right, get_or-set_other}
use Rattle.std.proofs.lemmas.Slice.Eq.{bytes_eq-Decides}
use Rattle.xw_words.specs.Dictionary.{Entry, AreWords, known_words, with_row, no_entry, entry_at, index_in, most_words, best_grade, grade_given, new_entry, returned, struck, with_struck, limited, all_limited}
use Rattle.xw_text.proofs.Position.{position_is_some, position_is_none}
use Rattle.xw_commands.specs.declared.change.Change.{Change}
use Rattle.xw_commands.specs.declared.change.Change.TheVariants.{Add, Strike}
use Rattle.xw_session.specs.State.{SessionState}
use Rattle.xw_session.specs.Reply.{changed as reply_changed}
use Rattle.xw_answers.specs.Record.{named_grade, add_command, regrade_commands, strike_commands, row_commands}
use Rattle.xw_session_laws.specs.Replay.{state_left, replayed, with_words, fresh, IsSince, ComeFirst}
use Rattle.xw_session_laws.proofs.Replaying.{replayed_both, next_done}
use Rattle.xw_session_laws.proofs.CellsAgain.{mixed, mixed_more, mixed_next, mixed_same, mixed_all, length-mixed}
use Rattle.xw_session_laws.proofs.WordAgain.{each_item_again, one_each, IsItself, word_itself, unlike, added_again, returned_again, struck_again}

-- ---- grades

-- a new word that is added with its grade, while no word is left out
new_fresh : (word : List ℕ) (grade : ℕ) → grade ≤ best_grade → new_entry 0 word (named_grade grade) ≡ fresh word grade
new_fresh word grade small = ap (fresh word) (zero-max (grade_given (named_grade grade) best_grade) ∙ by_test (grade == best_grade) refl) where
  by_test : (b : Bool) → (grade == best_grade) ≡ b → grade_given (if b then None else Some grade) best_grade ≡ grade
  by_test true same = grind (arith, nat_tests, same)
  by_test false other = min-eq_left small

-- the entry of a word that is not struck, and not left out
abbrev eased : Entry → Entry
eased entry = record { word = entry.word; active = true; struck = false; grade = entry.grade; regraded = entry.regraded }

-- a word that was struck and comes back with a grade
back_eased : (entry before : Entry) → entry.grade ≤ best_grade → entry.regraded ≡ true → before ≡ fresh entry.word before.grade → returned 0 (Some entry.grade) (struck before) ≡ eased entry
back_eased entry before small again is =
    ap (λ (e : Entry). returned 0 (Some entry.grade) (struck e)) is
    ∙ ap (λ grade. record { word = entry.word; active = true; struck = false; grade = grade; regraded = true }) (zero-max (min entry.grade best_grade) ∙ min-eq_left small)
    ∙ ap (λ b. record { word = entry.word; active = true; struck = false; grade = entry.grade; regraded = b }) (sym again)

-- a word that never got another grade
fresh_eased : (entry before : Entry) → entry.regraded ≡ false → IsSince before entry → before ≡ eased entry
fresh_eased entry before none is =
    is.0 ∙ ap (fresh entry.word) (is.1 none) ∙ ap (λ b. record { word = entry.word; active = true; struck = false; grade = entry.grade; regraded = b }) (sym none)

-- a word that is to be struck, and one that is not
struck_limited : (entry : Entry) → entry.struck ≡ true → struck (eased entry) ≡ limited 0 entry
struck_limited entry off = ap (λ b. record { word = entry.word; active = not b && nat_le 0 entry.grade; struck = b; grade = entry.grade; regraded = entry.regraded }) (sym off)

eased_limited : (entry : Entry) → entry.struck ≡ false → eased entry ≡ limited 0 entry
eased_limited entry on =
    ap (λ b. record { word = entry.word; active = b; struck = false; grade = entry.grade; regraded = entry.regraded }) (sym (le-leb 0 entry.grade (omega arith)))
    ∙ ap (λ b. record { word = entry.word; active = not b && nat_le 0 entry.grade; struck = b; grade = entry.grade; regraded = entry.regraded }) (sym on)

-- ---- the first elements of one list, followed by those of another

mixed_at : {X : Type 0} (P : X → Type 0) (xs ys : List X) (j k : ℕ) (d : X) → j ≤ length xs → P (get_or xs k d) → P (get_or ys k d) → P (get_or (mixed xs ys j) k d)
mixed_at P xs ys j k d most here there =
    let front : length (take j xs) ≡ j = length-take-le j xs most in
    elim (cases_lt k j) [
      | inl before ↦ subst P (sym (get_or_append_left (take j xs) (drop j ys) d k (omega (arith, before, front)) ∙ get_or-take j xs k d before)) here
      | inr after ↦
          let at : j + (k - j) ≡ k = omega (arith, after) in
          subst P (sym (get_or-append_right (take j xs) (drop j ys) j k d front after ∙ get_or-drop j ys (k - j) d ∙ ap (λ i. get_or ys i d) at)) there
    ]

-- ---- the words of one length

module _ (state : SessionState) (count : ℕ) (entries : List Entry) (are : AreWords count entries) (several : 2 ≤ count) (short : count ≤ 255)
    (long : length state.engine.words.rows ≡ 256) (none_out : state.engine.words.least ≡ 0) where
  abbrev with_these : List Entry → SessionState
  with_these es = with_words state (with_row state.engine.words count es)

  row_is : (es : List Entry) → known_words (with_these es).engine.words count ≡ es
  row_is es = get_or-set_same state.engine.words.rows count es [] (omega (arith, short, long))

  -- the words at the same places
  abbrev AreSame : List Entry → Type 0
  AreSame es = (length es ≡ length entries) × ((k : ℕ) → k < length entries → (get_or es k no_entry).word ≡ (get_or entries k no_entry).word)

  module _ (k : ℕ) (here : k < length entries) where
    abbrev one : Entry
    one = get_or entries k no_entry

    size : length one.word ≡ count
    size = are.long k no_entry here

    small : one.grade ≤ best_grade
    small = are.graded k no_entry here

    itself : IsItself one.word
    itself = word_itself one.word (are.letters k no_entry here) (omega (arith, several, size)) (omega (arith, short, size))

    its_index : (es : List Entry) → AreSame es → index_in es one.word ≡ Some k
    its_index es same =
        position_is_some (λ e. bytes_eq e.word one.word) es k no_entry (omega (arith, here, same.0))
        (λ i before. ap (λ w. bytes_eq w one.word) (same.1 i (omega (arith, before, here))) ∙ unlike _ _ (are.distinct i k no_entry before here))
        ((bytes_eq-Decides _ one.word).1 (same.1 k here))

    module _ (es : List Entry) where
      at : known_words (with_these es).engine.words (length one.word) ≡ es
      at = ap (known_words (with_these es).engine.words) size ∙ row_is es

      -- the state after these words changed again
      changed : (next : List Entry) → with_words (with_these es) (with_row (with_these es).engine.words (length one.word) next) ≡ with_these next
      changed next =
          ap (λ m. with_words state (with_row (with_these es).engine.words m next)) size
          ∙ ap (λ rows. with_words state (record { rows = rows; least = state.engine.words.least })) (set-set state.engine.words.rows count es next)

      add_new : index_in es one.word ≡ None → length es < most_words → state_left (reply_changed (with_these es) (Add one.word (named_grade one.grade))) ≡ Some (with_these (es ++ fresh one.word one.grade ∷ []))
      add_new new room =
          added_again (with_these es) one.word es itself at (named_grade one.grade) new room
          ∙ ap Some (changed _)
          ∙ ap (λ least. Some (with_these (es ++ new_entry least one.word (named_grade one.grade) ∷ []))) none_out
          ∙ ap (λ e. Some (with_these (es ++ e ∷ []))) (new_fresh one.word one.grade small)

      add_back : AreSame es → (entry_at es k).active ≡ false → state_left (reply_changed (with_these es) (Add one.word (Some one.grade))) ≡ Some (with_these (set es k (returned 0 (Some one.grade) (entry_at es k))))
      add_back same off =
          returned_again (with_these es) one.word es itself at (Some one.grade) k (its_index es same) off
          ∙ ap Some (changed _)
          ∙ ap (λ least. Some (with_these (set es k (returned least (Some one.grade) (entry_at es k))))) none_out

      strike : AreSame es → (entry_at es k).struck ≡ false → state_left (reply_changed (with_these es) (Strike one.word)) ≡ Some (with_these (with_struck es k))
      strike same off = struck_again (with_these es) one.word es itself at k (its_index es same) off ∙ ap Some (changed _)

  -- ---- added

  module _ (begun : List Entry) (first : ComeFirst begun entries) where
    abbrev n : ℕ
    n = length begun

    abbrev later : List Entry
    later = drop n entries

    abbrev as_new : Entry → Entry
    as_new entry = fresh entry.word entry.grade

    abbrev added : List Entry
    added = begun ++ map as_new later

    length-added : length added ≡ length entries
    length-added = length-append begun (map as_new later) ∙ (omega (arith, length-map later as_new, length-drop n entries, first.few))

    is_added : (k : ℕ) → n ≤ k → k < length entries → get_or added k no_entry ≡ as_new (get_or entries k no_entry)
    is_added k past here =
        let at : n + (k - n) ≡ k = omega (arith, past) in
        get_or-append_right begun (map as_new later) n k no_entry refl past
        ∙ get_or-map as_new later (k - n) no_entry no_entry (omega (arith, past, here, length-drop n entries))
        ∙ ap as_new (get_or-drop n entries (k - n) no_entry ∙ ap (λ i. get_or entries i no_entry) at)

    since_all : (k : ℕ) → k < length entries → IsSince (get_or added k no_entry) (get_or entries k no_entry)
    since_all k here =
        elim (cases_lt k n) [
          | inl before ↦ subst (λ e. IsSince e (get_or entries k no_entry)) (sym (get_or_append_left begun (map as_new later) no_entry k before)) (first.since k before)
          | inr past ↦ subst (λ e. IsSince e (get_or entries k no_entry)) (sym (is_added k past here)) (refl, λ _. refl)
        ]

    same_added : AreSame added
    same_added = (length-added, λ k here. ap (λ (e : Entry). e.word) (since_all k here).0)

    abbrev grown : ℕ → List Entry
    grown i = take (n + i) added

    module _ (i : ℕ) (here : n + i < length entries) where
      known : length (grown i) ≡ n + i
      known = length-take-le (n + i) added (omega (arith, here, length-added))

      is_new : index_in (grown i) (one (n + i) here).word ≡ None
      is_new =
          position_is_none (λ e. bytes_eq e.word (one (n + i) here).word) (grown i) no_entry (λ j within.
          let before : j < n + i = omega (arith, within, known) in
          ap (λ (e : Entry). bytes_eq e.word (one (n + i) here).word) (get_or-take (n + i) added j no_entry before)
          ∙ ap (λ w. bytes_eq w (one (n + i) here).word) (same_added.1 j (omega (arith, before, here)))
          ∙ unlike _ _ (are.distinct j (n + i) no_entry before here))

      one_more : grown i ++ fresh (one (n + i) here).word (one (n + i) here).grade ∷ [] ≡ grown (i + 1)
      one_more =
          let last : n + i + 1 ≡ n + (i + 1) = omega arith in
          ap (λ e. grown i ++ e ∷ []) (sym (is_added (n + i) (omega arith) here))
          ∙ sym (take_more added (n + i) no_entry (omega (arith, here, length-added)))
          ∙ ap (λ m. take m added) last

      next_added : replayed (with_these (grown i)) (add_command (one (n + i) here) ∷ []) ≡ Some (with_these (grown (i + 1)))
      next_added =
          next_done (with_these (grown i)) (with_these (grown (i + 1))) (add_command (one (n + i) here)) []
          (add_new (n + i) here (grown i) is_new (omega (arith, known, here, are.few)) ∙ ap (λ es. Some (with_these es)) one_more)

    none_grown : grown 0 ≡ begun
    none_grown = let none : n + 0 ≡ n = omega arith in ap (λ m. take m added) none ∙ take-append_seam begun (map as_new later)

    all_added : replayed (with_these begun) (map add_command later) ≡ Some (with_these added)
    all_added =
        let all : length added ≤ n + length later = omega (arith, length-added, length-drop n entries) in
        ap (λ es. replayed (with_these es) (map add_command later)) (sym none_grown)
        ∙ ap (replayed (with_these (grown 0))) (one_each add_command later)
        ∙ each_item_again (λ e. add_command e ∷ []) no_entry later (λ i. with_these (grown i)) (λ i within.
        let here : n + i < length entries = omega (arith, within, length-drop n entries, first.few) in
        ap (λ (e : Entry). replayed (with_these (grown i)) (add_command e ∷ [])) (get_or-drop n entries i no_entry) ∙ next_added i here)
        ∙ ap (λ es. Some (with_these es)) (take_all (n + length later) added all)

    -- ---- given their grades

    abbrev all_eased : List Entry
    all_eased = map eased entries

    length-eased : length all_eased ≡ length added
    length-eased = length-map entries eased ∙ sym length-added

    eased_at : (k : ℕ) → k < length entries → get_or all_eased k no_entry ≡ eased (get_or entries k no_entry)
    eased_at k here = get_or-map eased entries k no_entry no_entry here

    abbrev again : ℕ → List Entry
    again j = mixed all_eased added j

    module _ (j : ℕ) (here : j < length entries) where
      within : j < length all_eased
      within = omega (arith, here, length-map entries eased)

      same_again : AreSame (again j)
      same_again = (
        length-mixed all_eased added length-eased j no_entry within ∙ length-map entries eased,
        λ k there.
            mixed_at (λ (e : Entry). e.word ≡ (get_or entries k no_entry).word) all_eased added j k no_entry (omega (arith, within))
            (ap (λ (e : Entry). e.word) (eased_at k there)) (same_added.1 k there),
      )

      before_it : get_or (again j) j no_entry ≡ get_or added j no_entry
      before_it = mixed_next all_eased added length-eased j no_entry within

      abbrev off : List Entry
      off = with_struck (again j) j

      is_off : get_or off j no_entry ≡ struck (get_or added j no_entry)
      is_off = get_or-set_same (again j) j _ no_entry (omega (arith, here, same_again.0)) ∙ ap struck before_it

      same_off : AreSame off
      same_off = (
        length-set (again j) j _ ∙ same_again.0,
        λ k there.
            elim (cases_eq k j) [
              | inl is ↦ ap (λ i. (get_or off i no_entry).word) is ∙ ap (λ (e : Entry). e.word) is_off ∙ same_added.1 j here ∙ ap (λ i. (get_or entries i no_entry).word) (sym is)
              | inr other ↦ ap (λ (e : Entry). e.word) (get_or-set_other (again j) j k _ no_entry other) ∙ same_again.1 k there
            ],
      )

      maybe_regraded : (b : Bool) → (one j here).regraded ≡ b
          → replayed (with_these (again j)) (if b then Strike (one j here).word ∷ Add (one j here).word (Some (one j here).grade) ∷ [] else []) ≡ Some (with_these (again (j + 1)))
      maybe_regraded false none =
          let is : get_or added j no_entry ≡ get_or all_eased j no_entry = fresh_eased (one j here) (get_or added j no_entry) none (since_all j here) ∙ sym (eased_at j here) in
          ap (λ es. Some (with_these es)) (sym (mixed_same all_eased added length-eased j no_entry within is))
      maybe_regraded true is =
          let add : Change = Add (one j here).word (Some (one j here).grade) in
          let since = (since_all j here).0 in
          let back : returned 0 (Some (one j here).grade) (entry_at off j) ≡ get_or all_eased j no_entry =
          ap (returned 0 (Some (one j here).grade)) is_off ∙ back_eased (one j here) (get_or added j no_entry) (small j here) is since ∙ sym (eased_at j here) in
          let next : set off j (returned 0 (Some (one j here).grade) (entry_at off j)) ≡ again (j + 1) =
          set-set (again j) j _ _ ∙ ap (set (again j) j) back ∙ sym (mixed_more all_eased added length-eased j no_entry within) in
          next_done (with_these (again j)) (with_these off) (Strike (one j here).word) (add ∷ []) (strike j here (again j) same_again (ap (λ (e : Entry). e.struck) (before_it ∙ since)))
          ∙ next_done (with_these off) (with_these (again (j + 1))) add []
          (add_back j here off same_off (ap (λ (e : Entry). e.active) is_off) ∙ ap (λ es. Some (with_these es)) next)

    all_regraded : replayed (with_these added) (flat_map regrade_commands entries) ≡ Some (with_these all_eased)
    all_regraded =
        each_item_again regrade_commands no_entry entries (λ j. with_these (again j)) (λ j here. maybe_regraded j here (get_or entries j no_entry).regraded refl)
        ∙ ap (λ es. Some (with_these es)) (mixed_all all_eased added (length entries) length-eased (sym (length-map entries eased)))

    -- ---- struck

    abbrev settled : List Entry
    settled = all_limited 0 entries

    length-settled : length settled ≡ length all_eased
    length-settled = length-map entries (limited 0) ∙ sym (length-map entries eased)

    settled_at : (k : ℕ) → k < length entries → get_or settled k no_entry ≡ limited 0 (get_or entries k no_entry)
    settled_at k here = get_or-map (limited 0) entries k no_entry no_entry here

    abbrev cleared : ℕ → List Entry
    cleared j = mixed settled all_eased j

    module _ (j : ℕ) (here : j < length entries) where
      inside : j < length settled
      inside = omega (arith, here, length-map entries (limited 0))

      same_cleared : AreSame (cleared j)
      same_cleared = (
        length-mixed settled all_eased length-settled j no_entry inside ∙ length-map entries (limited 0),
        λ k there.
            mixed_at (λ (e : Entry). e.word ≡ (get_or entries k no_entry).word) settled all_eased j k no_entry (omega (arith, inside))
            (ap (λ (e : Entry). e.word) (settled_at k there)) (ap (λ (e : Entry). e.word) (eased_at k there)),
      )

      before_that : get_or (cleared j) j no_entry ≡ eased (one j here)
      before_that = mixed_next settled all_eased length-settled j no_entry inside ∙ eased_at j here

      maybe_struck : (b : Bool) → (one j here).struck ≡ b → replayed (with_these (cleared j)) (if b then Strike (one j here).word ∷ [] else []) ≡ Some (with_these (cleared (j + 1)))
      maybe_struck false none =
          let is : get_or all_eased j no_entry ≡ get_or settled j no_entry = eased_at j here ∙ eased_limited (one j here) none ∙ sym (settled_at j here) in
          ap (λ es. Some (with_these es)) (sym (mixed_same settled all_eased length-settled j no_entry inside is))
      maybe_struck true is =
          let next : with_struck (cleared j) j ≡ cleared (j + 1) =
          ap (λ e. set (cleared j) j (struck e)) before_that
          ∙ ap (set (cleared j) j) (struck_limited (one j here) is ∙ sym (settled_at j here))
          ∙ sym (mixed_more settled all_eased length-settled j no_entry inside) in
          next_done (with_these (cleared j)) (with_these (cleared (j + 1))) (Strike (one j here).word) []
          (strike j here (cleared j) same_cleared (ap (λ (e : Entry). e.struck) before_that) ∙ ap (λ es. Some (with_these es)) next)

    all_struck : replayed (with_these all_eased) (flat_map strike_commands entries) ≡ Some (with_these settled)
    all_struck =
        each_item_again strike_commands no_entry entries (λ j. with_these (cleared j)) (λ j here. maybe_struck j here (get_or entries j no_entry).struck refl)
        ∙ ap (λ es. Some (with_these es)) (mixed_all settled all_eased (length entries) length-settled (sym (length-map entries (limited 0))))

    -- the words as they are, while no word is left out
    pub row_again : known_words state.engine.words count ≡ begun → replayed state (row_commands entries (length begun)) ≡ Some (with_these settled)
    row_again start =
        let begins : with_these begun ≡ state =
        ap (λ es. with_these es) (sym start) ∙ ap (λ rows. with_words state (record { rows = rows; least = state.engine.words.least })) (set-get_or state.engine.words.rows count []) in
        ap (λ s. replayed s (row_commands entries n)) (sym begins)
        ∙ replayed_both (with_these begun) (map add_command later) (flat_map regrade_commands entries ++ flat_map strike_commands entries)
        ∙ ap (option_and_then (λ mid. replayed mid (flat_map regrade_commands entries ++ flat_map strike_commands entries))) all_added
        ∙ replayed_both (with_these added) (flat_map regrade_commands entries) (flat_map strike_commands entries)
        ∙ ap (option_and_then (λ mid. replayed mid (flat_map strike_commands entries))) all_regraded
        ∙ all_struck
