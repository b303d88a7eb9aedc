-- The letters that the words of a light have, if its entered word is not in the net, are those that have a support.
use Rattle.std.proofs.Common.{◌≡◌, ℕ, ◌<◌, true, false, Some, List, length, get_or, slice_get, sym, ap, ◌∙◌, subst, inl, inr, arith}
use Rattle.std.proofs.lemmas.Bool.{cases_lt, both_ways}
use Rattle.std.proofs.lemmas.List.{get_or_past}
use Rattle.xw_bits.specs.Bits.{RowOfBits}
use Rattle.xw_words.specs.Dictionary.{Dictionary, Entry}
use Rattle.xw_feas.specs.Board.{Board, light_at}
use Rattle.xw_feas.specs.Flags.{set_has}
use Rattle.xw_net.specs.Inner.Passed.{AreLettersOf}
use Rattle.xw_net.specs.Marks.{IsPositionIn, IsSetting, IsHeld, puts}
use Rattle.xw_net.specs.Marks.IsHeld.{by_word}
use Rattle.xw_net.specs.Nets.{bits_at, bits_for, word_stands, marks_of, HasBits}
use Rattle.xw_net.specs.declared.net.Net.{Net}
use Rattle.xw_net.proofs.Stripping.FoundSupports.{supports-parts, supports-from}
use Rattle.xw_net.proofs.Stripping.WordsByNumber.{listed_is, word_cases, bits_known, letter_listed}
use Rattle.xw_net.proofs.Stripping.WordsByNumber.WordOf.{listed, spelled_one}

pub letters_at : (net : Net) (words : ℕ → List Entry) (light long len : ℕ) (first : RowOfBits) (sets : List ℕ) → slice_get net.rows.items light ≡ Some first → len ≡ long
    → AreLettersOf first.bits (words len) sets → AreLettersOf (bits_for net light) (words long) sets
letters_at net words light long len first sets row_is long_is letters =
    subst (λ bits. AreLettersOf bits (words long) sets) (sym (ap bits_at row_is)) (subst (λ n. AreLettersOf first.bits (words n) sets) long_is letters)

module _ (board : Board) (entries : ℕ → List Entry) (dictionary : Dictionary) (setting : IsSetting board entries dictionary) (net : Net) (bits : HasBits board entries net) (i q : ℕ) (position : IsPositionIn board i q)
    (sets : List ℕ) (letters : AreLettersOf (bits_for net i) (entries (length (light_at board i))) sets) where
  size : length (bits_for net i) ≡ length (entries (length (light_at board i)))
  size = bits i position.0

  -- a letter of a word is in the set
  pub has_word : get_or net.entered.items i false ≡ false → (letter choice : ℕ) → word_stands net i choice ≡ true → puts board dictionary i q letter choice ≡ true → set_has sets q letter ≡ true
  has_word unentered letter choice stands has =
      elim (word_cases net i choice stands) [
        | listed lt bit ↦
            letters.all_of q letter choice
            (supports-from (bits_for net i) (entries (length (light_at board i))) q letter choice bit
            (letter_listed board entries dictionary setting i q choice letter position (omega (arith, lt, bits_known board entries dictionary setting net bits i position.0)) ∙ has))
        | spelled_one is flag ↦ absurd (both_ways (get_or net.entered.items i false) unentered flag)
      ]

  -- a letter in the set has a support
  pub is_supported : (letter : ℕ) → set_has sets q letter ≡ true → IsHeld board dictionary (marks_of net) i q letter
  is_supported letter is =
      let found = letters.some_has q letter is in
      let word = found.0 in
      let parts = supports-parts (bits_for net i) (entries (length (light_at board i))) q letter word found.1 in
      let lt : found.0 < length (bits_for net i) = elim (cases_lt found.0 (length (bits_for net i))) [ inl lt ↦ lt | inr le ↦ absurd (both_ways (get_or (bits_for net i) word false) (get_or_past (bits_for net i) word false le) parts.0) ] in
      by_word word (listed_is net i word lt ∙ parts.0)
      (sym (letter_listed board entries dictionary setting i q word letter position (omega (arith, lt, bits_known board entries dictionary setting net bits i position.0))) ∙ parts.1)
