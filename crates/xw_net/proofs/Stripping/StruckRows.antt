-- Removing words from a row because of their letter at a position.
use Rattle.std.proofs.Common.{◌≡◌, ◌≤◌, ◌+◌, length, arith, ℕ, Bool, true, false, not, ◌&&◌, eqb, refl, sym, ap, ◌∙◌}
use Rattle.std.specs.Prelude.{Option, Some, None, slice_get, List}
use Rattle.std.specs.Int.{bit_at}
use Rattle.std.proofs.Common.{◌-◌}
use Rattle.std.proofs.lemmas.Bool.{both_ways, and_parts, and_from, and_right, eqb-true, false_from_ne_true, not_from_true, not_from_false}
use Rattle.xw_words.specs.Dictionary.{Entry, entry_at}
use Rattle.xw_words.specs.Columns.{has_letter, has_one_of, is_among, letter_is}
use Rattle.xw_letters.specs.Letter.{IsLetter, is_capital}
use Rattle.xw_letters.specs.LetterSet.{has, letters_in}
use Rattle.xw_letters.proofs.LetterSetLemmas.{capital_is_letter}
use Rattle.xw_net.specs.Support.{AreApart, Strikes, letter_count}
use Rattle.xw_net.proofs.Costs.SumsBelow.{letter_count-is, sum_to-one}

pub set_letter : (set letter : ℕ) → has set letter ≡ true → IsLetter letter
set_letter set letter h = capital_is_letter letter (and_parts (is_capital letter) (eqb (bit_at set (letter - 65)) 1) h).0

-- a word with a letter has one of a set if and only if the set has that letter
pub one_of_set : (words : List Entry) (position set letter word : ℕ) → has_letter words position letter word ≡ true → has_one_of words position set word ≡ has set letter
one_of_set words position set letter word has_it = of_option (slice_get (entry_at words word).word position) has_it where
  of_option : (o : Option ℕ) → letter_is o letter ≡ true → is_among set o ≡ has set letter
  of_option None h = absurd (both_ways false refl h)
  of_option (Some other) h = ap (has set) (eqb-true other letter h)

module _ (words : List Entry) (position pending alive : ℕ) (old new : ℕ → Bool) (apart : AreApart pending alive) where
  -- only the words with one of the letters left stay
  pub kept_alive : ((i : ℕ) → new i ≡ (old i && has_one_of words position alive i)) → Strikes words position pending alive old new
  kept_alive bits = record {
    fewer = λ word h. (and_parts (old word) (has_one_of words position alive word) (sym (bits word) ∙ h)).0;
    struck = λ word letter is_pending has_it. bits word ∙ and_right (old word) (has_one_of words position alive word) (one_of_set words position alive letter word has_it ∙ apart letter is_pending);
    kept = λ word letter is_alive has_it stood. bits word ∙ and_from (old word) (has_one_of words position alive word) stood (one_of_set words position alive letter word has_it ∙ is_alive);
  }

  -- or the words with a pending letter go
  pub pending_gone : ((i : ℕ) → new i ≡ (old i && not (has_one_of words position pending i))) → Strikes words position pending alive old new
  pending_gone bits = record {
    fewer = λ word h. (and_parts (old word) (not (has_one_of words position pending word)) (sym (bits word) ∙ h)).0;
    struck = λ word letter is_pending has_it. bits word ∙ and_right (old word) (not (has_one_of words position pending word)) (not_from_true (has_one_of words position pending word) (one_of_set words position pending letter word has_it ∙ is_pending));
    kept = λ word letter is_alive has_it stood. bits word ∙ and_from (old word) (not (has_one_of words position pending word)) stood
        (not_from_false (has_one_of words position pending word) (one_of_set words position pending letter word has_it ∙ false_from_ne_true (has pending letter) (λ h. both_ways (has alive letter) (apart letter h) is_alive)));
  }

-- a set of one letter has at most one letter
pub only_one : (set letter : ℕ) → ((other : ℕ) → has set other ≡ eqb other letter) → length (letters_in set) ≤ 1
unfolding letter_count
only_one set letter only =
    omega (
      arith,
      letter_count-is set,
      sum_to-one (λ k. has set (65 + k)) 26 (λ j k h g.
          omega (arith, eqb-true (65 + j) letter (sym (only (65 + j)) ∙ h), eqb-true (65 + k) letter (sym (only (65 + k)) ∙ g))),
    )
