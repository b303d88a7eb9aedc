-- Lemmas about a word that is new to a dictionary.
use Rattle.std.proofs.Common.{◌≡◌, ℕ, ◌<◌, ◌≤◌, Bool, true, false, cond, List, map, length, None, Some, refl, sym, ◌∙◌, ap, subst, arith}
use Rattle.std.specs.Prelude.{Option, Result, Ok, Err, position, nat_le}
use Rattle.std.proofs.lemmas.Bool.Decides.{nat_tests}
use Rattle.std.proofs.lemmas.List.{length-map}
use Rattle.xw_words.specs.declared.fault.WordFault.{WordFault}
use Rattle.xw_words.specs.declared.fault.WordFault.TheVariants.{Length, Full, Known}
use Rattle.xw_words.specs.declared.bank.Added.{Added}
use Rattle.xw_words.specs.declared.bank.Added.TheVariants.{New, Returned}
use Rattle.xw_letters.specs.Letter.{folded}
use Rattle.xw_words.specs.Word.{is_bad_letter, is_word_length, judged, word_of}
use Rattle.xw_words.specs.Dictionary.{Entry, Dictionary, known_words, entry_at, index_in, index_of_word, most_words, added_at, add_to, answer_on, add_answer, IsNew}
use Rattle.xw_words.proofs.DictionaryLemmas.{judged-Ok}

-- the bytes spell a word of a valid length that is not known, and the dictionary has room for it
pub record IsNewWord (words : Dictionary) (bytes : List ℕ) : Type 0 where
  pub letters : position is_bad_letter bytes ≡ None
  pub low : 2 ≤ length bytes
  pub high : length bytes ≤ 255
  pub unknown : index_of_word words (map folded bytes) ≡ None
  pub few : length (known_words words (length bytes)) < most_words
  pub answer : add_answer words bytes ≡ Ok (New (length (known_words words (length bytes))))

judged_same : (bad : Option ℕ) (len : ℕ) (x y : List ℕ) → judged bad len x ≡ Ok y → y ≡ x
judged_same (Some index) len x y h = cc
judged_same None len x y h = split (is_word_length len) h where
  split : (b : Bool) → cond {A = Result (List ℕ) WordFault} b (Ok x) (Err Length) ≡ Ok y → y ≡ x
  split true h = cc
  split false h = cc

new_index : (entries : List Entry) (index : Option ℕ) → IsNew (added_at entries index) → (index ≡ None) × ((length entries < most_words) × (added_at entries index ≡ Ok (New (length entries))))
new_index entries (Some index) new = absurd (split (entry_at entries index).active new) where
  split : (b : Bool) → IsNew (cond b (Err Known) (Ok (Returned index))) → ⊥
  split true h = h
  split false h = h
new_index entries None new = split (nat_le most_words (length entries)) refl new where
  split : (b : Bool) → nat_le most_words (length entries) ≡ b → IsNew (cond b (Err Full) (Ok (New (length entries)))) → ◌≡◌ {A = Option ℕ} None None × ((length entries < most_words) × (cond {A = Result Added WordFault} (nat_le most_words (length entries)) (Err Full) (Ok (New (length entries))) ≡ Ok (New (length entries))))
  split true is h = absurd h
  split false is h = (refl, (grind (arith, nat_tests), rw is refl))

pub new_word : (words : Dictionary) (bytes : List ℕ) → IsNew (add_answer words bytes) → IsNewWord words bytes
new_word words bytes new = split (word_of bytes) refl new where
  split : (spelled : Result (List ℕ) WordFault) → word_of bytes ≡ spelled → IsNew (answer_on add_to words spelled) → IsNewWord words bytes
  split (Err fault) is h = absurd h
  split (Ok word) is h =
      let fit = judged-Ok {X = List ℕ} (position is_bad_letter bytes) (length bytes) (map folded bytes) word is in
      let same : word ≡ map folded bytes = judged_same (position is_bad_letter bytes) (length bytes) (map folded bytes) word is in
      let long : length word ≡ length bytes = ap length same ∙ length-map bytes folded in
      let found = new_index (known_words words (length word)) (index_in (known_words words (length word)) word) h in
      record {
        letters = fit.0;
        low = fit.1;
        high = fit.2;
        unknown = ap (index_of_word words) (sym same) ∙ found.0;
        few = subst (λ n. length (known_words words n) < most_words) long found.1.0;
        answer = ap (answer_on add_to words) is ∙ found.1.1 ∙ ap (λ n. Ok (New (length (known_words words n)))) long;
      }
