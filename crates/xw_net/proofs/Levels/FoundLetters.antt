-- Letters that are found one after another.
use Rattle.std.proofs.Common.{◌≡◌, ◌≢◌, ◌⊎◌, ℕ, ◌+◌, ◌-◌, ◌*◌, ◌<◌, ◌≤◌, Bool, true, false, not, ◌&&◌, eqb, List, length, get_or, sym, ap, ◌∙◌, subst, inl, inr, arith}
use Rattle.std.proofs.lemmas.Bool.{cases_eq, cases_lt, both_ways, and_parts, ne_eqb, eq-eqb, not_from_false, not_from_true}
use Rattle.xw_letters.specs.LetterSet.{has}
use Rattle.xw_words.specs.Dictionary.{Dictionary, Entry}
use Rattle.xw_feas.specs.Board.{Board, light_at}
use Rattle.xw_net.specs.Marks.{IsPositionIn, AreSlotsApart, IsSetting, IsHeld, puts, slot_at}
use Rattle.xw_net.specs.Marks.IsHeld.{by_word}
use Rattle.xw_net.specs.Nets.{bits_for, word_stands, marks_of, HasBits}
use Rattle.xw_net.specs.declared.net.Net.{Net}
use Rattle.xw_words.specs.Columns.{has_letter}
use Rattle.xw_net.specs.Inner.Lost.{IsInRow}
use Rattle.xw_net.specs.Seen.{AreFound, AreSeen, HasWord, IsSeenAt}
use Rattle.xw_net.specs.Support.{supports}
use Rattle.xw_net.proofs.Stripping.FoundSupports.{supports-parts, supports-from}
use Rattle.xw_net.proofs.Stripping.WordsByNumber.{listed_is, word_cases, bits_known, letter_listed}
use Rattle.xw_net.proofs.Stripping.WordsByNumber.WordOf.{listed, spelled_one}
use Rattle.xw_feas.proofs.Support.{set_flag_within}
use Rattle.xw_net.proofs.Stripping.StruckRows.{set_letter}

-- the word that is remembered for a letter has it
pub seen_has : (bits : List Bool) (words : List Entry) (position slot number : ℕ) (seen : List ℕ) → number < 26 → length bits ≡ length words → IsSeenAt words position slot seen → IsInRow bits (get_or seen (26 * slot + number) 0) → HasWord bits words position (65 + number)
seen_has bits words position slot number seen below long right there =
    let word = get_or seen (26 * slot + number) 0 in
    (word, supports-from bits words position (65 + number) word there.1 (right number below (omega (arith, there.0, long))))

module _ (bits : List Bool) (words : List Entry) (position : ℕ) (alive : ℕ) where
  -- exactly the letters that some word has were found, but for those that are left
  pub record AreFoundBut (found left : ℕ) : Type 0 where
    pub some_has : (letter : ℕ) → has found letter ≡ true → (has left letter ≡ true) ⊎ HasWord bits words position letter
    pub all_of : (letter word : ℕ) → has alive letter ≡ true → supports bits words position letter word ≡ true → has found letter ≡ true

  pub found_none : AreFoundBut alive alive
  found_none = record { some_has = λ letter is. inl is; all_of = λ letter word is sup. is }

  module _ (letter left less : ℕ) (is : (other : ℕ) → has less other ≡ (has left other && not (eqb other letter))) where
    -- another letter of the set is still there
    stays : (other : ℕ) → other ≢ letter → has left other ≡ true → has less other ≡ true
    stays other apart there = is other ∙ ap (λ b. b && not (eqb other letter)) there ∙ not_from_false (eqb other letter) (ne_eqb other letter apart)

    -- a letter that a word has
    pub found_one : (found : ℕ) → HasWord bits words position letter → AreFoundBut found left → AreFoundBut found less
    found_one found has_word before = record {
      some_has = λ other stands. elim (cases_eq other letter) [
        | inl e ↦ inr (subst (HasWord bits words position) (sym e) has_word)
        | inr apart ↦ elim (before.some_has other stands) [
          | inl there ↦ inl (stays other apart there)
          | inr has_one ↦ inr has_one
        ]
      ];
      all_of = before.all_of;
    }

    -- a letter that none has
    pub found_less : (found fewer : ℕ) → ((other : ℕ) → has fewer other ≡ (has found other && not (eqb other letter))) → ((word : ℕ) → supports bits words position letter word ≡ false) → AreFoundBut found left → AreFoundBut fewer less
    found_less found fewer dropped none before = record {
      some_has = λ other stands.
          let parts = and_parts (has found other) (not (eqb other letter)) (sym (dropped other) ∙ stands) in
          elim (cases_eq other letter) [
            | inl e ↦ absurd (both_ways (not (eqb other letter)) (not_from_true (eqb other letter) (eq-eqb other letter e)) parts.1)
            | inr apart ↦ elim (before.some_has other parts.0) [
              | inl there ↦ inl (stays other apart there)
              | inr has_one ↦ inr has_one
            ]
          ];
      all_of = λ other word there sup. elim (cases_eq other letter) [
        | inl e ↦ absurd (both_ways (supports bits words position other word) (ap (λ n. supports bits words position n word) e ∙ none word) sup)
        | inr apart ↦ dropped other ∙ ap (λ b. b && not (eqb other letter)) (before.all_of other word there sup) ∙ not_from_false (eqb other letter) (ne_eqb other letter apart)
      ];
    }

  pub found_all : (found left : ℕ) → ((letter : ℕ) → has left letter ≡ false) → AreFoundBut found left → AreFound bits words position alive found
  found_all found left none before = record {
    some_has = λ letter is. elim (before.some_has letter is) [
      | inl there ↦ absurd (both_ways (has left letter) (none letter) there)
      | inr has_one ↦ has_one
    ];
    all_of = before.all_of;
  }

-- ---- what was found in a light of a net

module _ (board : Board) (entries : ℕ → List Entry) (dictionary : Dictionary) (setting : IsSetting board entries dictionary) (net : Net) (bits : HasBits board entries net) (i q : ℕ) (position : IsPositionIn board i q)
    (alive found : ℕ) (letters : AreFound (bits_for net i) (entries (length (light_at board i))) q alive found) where
  -- a letter of a word was found
  pub word_found : get_or net.entered.items i false ≡ false → (letter choice : ℕ) → has alive letter ≡ true → word_stands net i choice ≡ true → puts board dictionary i q letter choice ≡ true → has found letter ≡ true
  word_found unentered letter choice is_alive stands has_it =
      elim (word_cases net i choice stands) [
        | listed lt bit ↦
            letters.all_of letter choice is_alive
            (supports-from (bits_for net i) (entries (length (light_at board i))) q letter choice bit
            (letter_listed board entries dictionary setting i q choice letter position (omega (arith, lt, bits_known board entries dictionary setting net bits i position.0)) ∙ has_it))
        | spelled_one is flag ↦ absurd (both_ways (get_or net.entered.items i false) unentered flag)
      ]

  -- a letter that was found has a support
  pub found_supported : (letter : ℕ) → has found letter ≡ true → IsHeld board dictionary (marks_of net) i q letter
  found_supported letter is =
      let one = letters.some_has letter is in
      let word = one.0 in
      let parts = supports-parts (bits_for net i) (entries (length (light_at board i))) q letter word one.1 in
      let lt : one.0 < length (bits_for net i) = set_flag_within (bits_for net i) word parts.0 in
      by_word word (listed_is net i word lt ∙ parts.0)
      (sym (letter_listed board entries dictionary setting i q word letter position (omega (arith, lt, bits_known board entries dictionary setting net bits i position.0))) ∙ parts.1)

-- the words remembered at one slot changed
pub seen_stay : (board : Board) (entries : ℕ → List Entry) (apart : AreSlotsApart board) (i q : ℕ) (here : IsPositionIn board i q) (old new : List ℕ) → length new ≡ length old
    → ((index : ℕ) → (index < 26 * slot_at board i q) ⊎ (26 * slot_at board i q + 26 ≤ index) → get_or new index 0 ≡ get_or old index 0)
    → IsSeenAt (entries (length (light_at board i))) q (slot_at board i q) new → AreSeen board entries old → AreSeen board entries new
seen_stay board entries apart i q here old new long others right seen = record {
  long = long ∙ seen.long;
  right = λ light position there k below. elim (cases_eq (slot_at board light position) (slot_at board i q)) [
    | inl e ↦
        let is = apart light position i q there here e in
        subst (λ n. IsSeenAt (entries (length (light_at board n))) position (slot_at board n position) new) (sym is.0)
        (subst (λ n. IsSeenAt (entries (length (light_at board i))) n (slot_at board i n) new) (sym is.1) right) k below
    | inr n ↦
        let outside : (26 * slot_at board light position + k < 26 * slot_at board i q) ⊎ (26 * slot_at board i q + 26 ≤ 26 * slot_at board light position + k) = elim (cases_lt (slot_at board light position) (slot_at board i q)) [
          | inl lt ↦ inl (omega (arith, lt, below))
          | inr le ↦ inr (omega (arith, le, n, below))
        ] in
        subst (λ word. word < length (entries (length (light_at board light))) → has_letter (entries (length (light_at board light))) position (65 + k) word ≡ true) (sym (others (26 * slot_at board light position + k) outside)) (seen.right light position there k below)
  ];
}
