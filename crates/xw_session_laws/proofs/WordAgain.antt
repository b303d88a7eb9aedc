-- The word commands of a record, one word at a time.
use Rattle.std.proofs.Common.{◌≡◌, ◌≢◌, ℕ, ◌+◌, ◌<◌, ◌≤◌, suc, Bool, true, false, ◌&&◌, le-leb, List, [], ◌∷◌, ◌++◌, length, map, get_or, set, flat_map, Some, None, refl, ◌∙◌, ap, inl, inr, arith}
use Rattle.std.specs.Prelude.{Option, Result, Ok, Err, All, nat_le, position, if◌then◌else◌}
use Rattle.std.specs.Str.{bytes_eq}
use Rattle.std.specs.Option.{option_and_then}
use Rattle.std.proofs.lemmas.Bool.{cases_Bool}
use Rattle.std.proofs.lemmas.Bool.Decides.{nat_tests}
use Rattle.std.proofs.lemmas.List.{length-map, get_or-map, same_lists}
use Rattle.std.proofs.lemmas.Slice.Eq.{bytes_eq-Decides}
use Rattle.xw_words.specs.declared.fault.WordFault.{WordFault}
use Rattle.xw_words.specs.declared.fault.WordFault.TheVariants.{Length, Known, Full, Unknown}
use Rattle.xw_words.specs.declared.bank.Added.{Added}
use Rattle.xw_words.specs.declared.bank.Added.TheVariants.{New, Returned}
use Rattle.xw_letters.specs.Letter.{IsLetter, folded}
use Rattle.xw_words.specs.Word.{is_bad_letter, word_of, judged}
use Rattle.xw_words.specs.Dictionary.{Dictionary, Entry, known_words, with_row, entry_at, index_in, most_words, new_entry, returned, with_added, with_struck, added_at, add_to, add_answer, after_add, struck_at, strike_from, strike_answer, after_strike, answer_on}
use Rattle.xw_text.proofs.Position.{position_is_none}
use Rattle.xw_feas.specs.State.{answered, with_words as state_with_words}
use Rattle.xw_commands.specs.declared.change.Change.{Change}
use Rattle.xw_commands.specs.declared.change.Change.TheVariants.{Add, Strike}
use Rattle.xw_session.specs.State.{SessionState}
use Rattle.xw_session.specs.Reply.{changed, moved}
use Rattle.xw_session_laws.specs.Replay.{state_left, replayed, with_words}
use Rattle.xw_session_laws.proofs.Replaying.{replayed_both}

-- ---- one element after another

items_from : {X : Type 0} (made : X → List Change) (d : X) (xs : List X) (after : ℕ → SessionState)
    → ((i : ℕ) → i < length xs → replayed (after i) (made (get_or xs i d)) ≡ Some (after (suc i)))
    → replayed (after 0) (flat_map made xs) ≡ Some (after (length xs))
items_from made d [] after step = refl
items_from made d (x ∷ xs) after step =
    let rest = flat_map made xs in
    replayed_both (after 0) (made x) rest
    ∙ ap (option_and_then (λ mid. replayed mid rest)) (step 0 (omega arith))
    ∙ items_from made d xs (λ i. after (suc i)) (λ i within. step (suc i) (omega (arith, within)))

-- if the commands of each element lead from one state to the next, all of them lead from the first to the last
pub each_item_again : {X : Type 0} (made : X → List Change) (d : X) (xs : List X) (after : ℕ → SessionState)
    → ((i : ℕ) → i < length xs → replayed (after i) (made (get_or xs i d)) ≡ Some (after (i + 1)))
    → replayed (after 0) (flat_map made xs) ≡ Some (after (length xs))
each_item_again made d xs after step =
    items_from made d xs after (λ i within. let next : i + 1 ≡ suc i = omega arith in step i within ∙ ap (λ n. Some (after n)) next)

pub one_each : {X : Type 0} (made : X → Change) (xs : List X) → map made xs ≡ flat_map (λ x. made x ∷ []) xs
one_each made [] = refl
one_each made (x ∷ xs) = ap (λ commands. made x ∷ commands) (one_each made xs)

-- ---- the bytes of a known word are its letters

good_letter : (letter : ℕ) → IsLetter letter → (is_bad_letter letter ≡ false) × (folded letter ≡ letter)
good_letter letter is = (grind (arith, nat_tests, is.0, is.1), grind (arith, nat_tests, is.0, is.1))

fine_length : (word : List ℕ) (a b : Bool) → a ≡ true → b ≡ true → (if a && b then Ok word else Err Length) ≡ Ok word
fine_length word true true p q = refl
fine_length word true false p q = cc
fine_length word false b p q = cc

abbrev pub IsItself : List ℕ → Type 0
IsItself word = (word_of word ≡ Ok word) × (map folded word ≡ word)

pub word_itself : (word : List ℕ) → All IsLetter word → 2 ≤ length word → length word ≤ 255 → IsItself word
word_itself word letters several short =
    let good : position is_bad_letter word ≡ None = position_is_none is_bad_letter word 0 (λ k within. (good_letter (get_or word k 0) (letters k 0 within)).0) in
    let same : map folded word ≡ word =
    same_lists (map folded word) word (length-map word folded) (λ k d within.
    let here : k < length word = omega (arith, within, length-map word folded) in
    get_or-map folded word k d d here ∙ (good_letter (get_or word k d) (letters k d here)).1) in (
      ap (λ at. judged at (length word) (map folded word)) good
          ∙ fine_length (map folded word) (nat_le 2 (length word)) (nat_le (length word) 255) (le-leb 2 (length word) several) (le-leb (length word) 255 short)
          ∙ ap Ok same,
      same,
    )

pub unlike : (a b : List ℕ) → a ≢ b → bytes_eq a b ≡ false
unlike a b other = elim (cases_Bool (bytes_eq a b)) [ inl same ↦ absurd (other ((bytes_eq-Decides a b).0 same)) | inr is ↦ is ]

-- ---- adding a word, and striking a word

module _ (state : SessionState) (word : List ℕ) (entries : List Entry) (fine : IsItself word) (at : known_words state.engine.words (length word) ≡ entries) where
  abbrev words : Dictionary
  words = state.engine.words

  -- the state with other words of this length
  abbrev with_these : List Entry → SessionState
  with_these es = with_words state (with_row words (length word) es)

  added_so : (grade : Option ℕ) (added : Added) → added_at entries (index_in entries word) ≡ Ok added → state_left (changed state (Add word grade)) ≡ Some (with_these (with_added words.least entries word grade added))
  added_so grade added is =
      let left : Result Added WordFault → Option SessionState = λ answer. state_left (moved state (state_with_words state.engine (answered (after_add words (map folded word) grade) answer))) in
      let answer : add_answer words word ≡ Ok added = ap (answer_on add_to words) fine.0 ∙ ap (λ es. add_to es word) at ∙ is in
      ap left answer
      ∙ ap (λ w. Some (with_words state (with_row words (length w) (with_added words.least (known_words words (length w)) w grade added)))) fine.1
      ∙ ap (λ es. Some (with_these (with_added words.least es word grade added))) at

  -- a new word
  pub added_again : (grade : Option ℕ) → index_in entries word ≡ None → length entries < most_words → state_left (changed state (Add word grade)) ≡ Some (with_these (entries ++ new_entry words.least word grade ∷ []))
  added_again grade new room =
      let free : nat_le most_words (length entries) ≡ false = grind (arith, nat_tests, room) in
      added_so grade (New (length entries)) (ap (added_at entries) new ∙ ap (λ b. if b then Err Full else Ok (New (length entries))) free)

  -- a word that comes back
  pub returned_again : (grade : Option ℕ) (index : ℕ) → index_in entries word ≡ Some index → (entry_at entries index).active ≡ false
      → state_left (changed state (Add word grade)) ≡ Some (with_these (set entries index (returned words.least grade (entry_at entries index))))
  returned_again grade index known off = added_so grade (Returned index) (ap (added_at entries) known ∙ ap (λ b. if b then Err Known else Ok (Returned index)) off)

  pub struck_again : (index : ℕ) → index_in entries word ≡ Some index → (entry_at entries index).struck ≡ false → state_left (changed state (Strike word)) ≡ Some (with_these (with_struck entries index))
  struck_again index known off =
      let left : Result ℕ WordFault → Option SessionState = λ answer. state_left (moved state (state_with_words state.engine (answered (after_strike words (map folded word)) answer))) in
      let answer : strike_answer words word ≡ Ok index =
      ap (answer_on strike_from words) fine.0 ∙ ap (λ es. strike_from es word) at ∙ ap (struck_at entries) known ∙ ap (λ b. if b then Err Unknown else Ok index) off in
      ap left answer
      ∙ ap (λ w. Some (with_words state (with_row words (length w) (with_struck (known_words words (length w)) index)))) fine.1
      ∙ ap (λ es. Some (with_these (with_struck es index))) at
