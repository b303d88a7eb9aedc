-- Walks along linked lights of one length, and how the links grow by one light.
use Rattle.std.proofs.Common.{◌≡◌, ◌≢◌, ℕ, set, ◌+◌, ◌<◌, true, false, ◌&&◌, List, length, get_or, Option, Some, None, refl, sym, ◌∙◌, ap, subst, arith, inl, inr, add-one}
use Rattle.std.specs.Prelude.{◌==◌, bytes_eq}
use Rattle.std.proofs.lemmas.Bool.{and_parts, and_from, cases_order, false≢true, false_from_ne_true, eq-eqb, eqb-true, cases_eq}
use Rattle.std.proofs.lemmas.List.{length-set, get_or-set_same, get_or-set_other}
use Rattle.std.proofs.lemmas.Slice.Eq.{bytes_eq-Decides}
use Rattle.xw_feas.specs.Board.{light_at}
use Rattle.xw_search.specs.Position.{Position}
use Rattle.xw_search.specs.Lights.{is_entered, spelling, spell_same, is_repeat}
use Rattle.xw_search.specs.Linked.{size_of, is_entered_of_size, last_of_size, AreLinked}
use Rattle.xw_search.proofs.BelowLemmas.{any_below-from, any_below-gives, last_below-some, last_below-none}
use Rattle.xw_search.proofs.PlacingLemmas.{length-spelled}

-- the index is past the light that the walk has reached
abbrev pub IsPast : Option ℕ → ℕ → Type 0
IsPast None index = Unit {0}
IsPast (Some next) index = next < index

-- a walk back over the earlier lights of this light's length; no light passed so far spells the same
pub record IsWalking (position : Position) (light : ℕ) (next : Option ℕ) : Type 0 where
  pub at : (other : ℕ) → next ≡ Some other → (other < light) × (is_entered_of_size position (size_of position light) other ≡ true)
  pub passed : (other : ℕ) → other < light → IsPast next other → spell_same position light other ≡ false

-- lights that spell the same have the same length
same_size : (position : Position) (light other : ℕ) → spell_same position light other ≡ true → is_entered_of_size position (size_of position light) other ≡ true
same_size position light other h =
    let first = and_parts (is_entered position light) (is_entered position other && bytes_eq (spelling position light) (spelling position other)) h in
    let second = and_parts (is_entered position other) (bytes_eq (spelling position light) (spelling position other)) first.1 in
    let same = (bytes_eq-Decides (spelling position light) (spelling position other)).0 second.1 in
    and_from _ _ second.0 (eq-eqb (size_of position other) (size_of position light) (sym (length-spelled position.board (light_at position.board other)) ∙ ap length (sym same) ∙ length-spelled position.board (light_at position.board light)))

-- lights after the last one of this length spell something else
past_last : (position : Position) (light before : ℕ) (last : Option ℕ) → last_of_size position (size_of position light) before ≡ last → (other : ℕ) → other < before → IsPast last other → spell_same position light other ≡ false
past_last position light before None is other below past = false_from_ne_true _ (λ h.
    false≢true (sym (last_below-none (is_entered_of_size position (size_of position light)) before is other below) ∙ same_size position light other h))
past_last position light before (Some last) is other below past = false_from_ne_true _ (λ h.
    let found = last_below-some (is_entered_of_size position (size_of position light)) before last is in
    false≢true (sym (found.2 other past below) ∙ same_size position light other h))

pub walk-init : (position : Position) (light : ℕ) (last : Option ℕ) → last ≡ last_of_size position (size_of position light) light → IsWalking position light last
walk-init position light last is = record {
  at = λ other here. let found = last_below-some (is_entered_of_size position (size_of position light)) light other (sym is ∙ here) in (found.0, found.1);
  passed = past_last position light light last (sym is);
}

pub walk-step : (position : Position) (light other : ℕ) (next further : Option ℕ) (earlier : List (Option ℕ)) → IsWalking position light next → next ≡ Some other → spell_same position light other ≡ false → AreLinked position light earlier → further ≡ get_or earlier other None → IsWalking position light further
walk-step position light other next further earlier walking here differs linked is =
    let at = walking.at other here in
    let parts = and_parts (is_entered position other) (size_of position other == size_of position light) at.1 in
    let size : size_of position other ≡ size_of position light = eqb-true (size_of position other) (size_of position light) parts.1 in
    let link : last_of_size position (size_of position light) other ≡ further = ap (λ n. last_of_size position n other) (sym size) ∙ sym (linked other at.0 parts.0) ∙ sym is in
    record {
      at = λ index e. let found = last_below-some (is_entered_of_size position (size_of position light)) other index (link ∙ e) in (omega (arith, found.0, at.0), found.1);
      passed = λ index below past. elim (cases_order index other) [
        | inl same ↦ ap (spell_same position light) same ∙ differs
        | inr order ↦ elim order [
          | inl before ↦ past_last position light other further link index before past
          | inr after ↦ walking.passed index below (subst (λ link. IsPast link index) (sym here) after)
        ]
      ];
    }

pub walk-found : (position : Position) (light other : ℕ) (next : Option ℕ) → IsWalking position light next → next ≡ Some other → spell_same position light other ≡ true → is_repeat position light ≡ true
walk-found position light other next walking here same = any_below-from (spell_same position light) light other (walking.at other here).0 same

pub walk-end : (position : Position) (light : ℕ) (next : Option ℕ) → IsWalking position light next → next ≡ None → is_repeat position light ≡ false
walk-end position light next walking over = false_from_ne_true _ (λ h.
    let found = any_below-gives (spell_same position light) light h in
    false≢true (sym (walking.passed found.0 found.1 (subst (λ link. IsPast link found.0) (sym over) tt)) ∙ found.2))

-- a bound on the number of steps left
abbrev pub lights_left : Option ℕ → ℕ
lights_left None = 0
lights_left (Some other) = other + 1

pub walk-shorter : (position : Position) (light other : ℕ) (next : Option ℕ) (earlier : List (Option ℕ)) → IsWalking position light next → next ≡ Some other → AreLinked position light earlier → lights_left (get_or earlier other None) < lights_left next
walk-shorter position light other next earlier walking here linked = subst (λ link. lights_left (get_or earlier other None) < lights_left link) (sym here) (split (get_or earlier other None) refl) where
  split : (further : Option ℕ) → get_or earlier other None ≡ further → lights_left further < other + 1
  split None is = omega arith
  split (Some further) is =
      let at = walking.at other here in
      let parts = and_parts (is_entered position other) (size_of position other == size_of position light) at.1 in
      let found = last_below-some (is_entered_of_size position (size_of position other)) other further (sym (linked other at.0 parts.0) ∙ is) in
      omega (arith, found.0)

-- ---- one more light

-- for each length, the last light of it before this one
abbrev pub AreLast : Position → ℕ → List (Option ℕ) → Type 0
AreLast position light last = (size : ℕ) → size < length last → get_or last size None ≡ last_of_size position size light

-- a light that is not wholly entered leaves the links as they are
pub linked-pass : (position : Position) (light : ℕ) (earlier : List (Option ℕ)) → is_entered position light ≡ false → AreLinked position light earlier → AreLinked position (light + 1) earlier
linked-pass position light earlier gap linked = λ other below entered. elim (cases_eq other light) [
  | inl same ↦ absurd (false≢true (sym gap ∙ ap (is_entered position) (sym same) ∙ entered))
  | inr apart ↦ linked other (omega arith) entered
]

pub linked-put : (position : Position) (light : ℕ) (earlier : List (Option ℕ)) (last : Option ℕ) → last ≡ last_of_size position (size_of position light) light → light < length earlier → AreLinked position light earlier → AreLinked position (light + 1) (set earlier light last)
linked-put position light earlier last is within linked = λ other below entered. elim (cases_eq other light) [
  | inl same ↦ ap (λ n. get_or (set earlier light last) n None) same ∙ get_or-set_same earlier light last None within ∙ is ∙ ap (λ n. last_of_size position (size_of position n) n) (sym same)
  | inr apart ↦ get_or-set_other earlier light other last None apart ∙ linked other (omega arith) entered
]

-- the last light of a length stays the same if the next light has another length
last_of_size-kept : (position : Position) (size light : ℕ) → (is_entered position light ≡ true → size_of position light ≢ size) → last_of_size position size (light + 1) ≡ last_of_size position size light
last_of_size-kept position size light other =
    let fails : is_entered_of_size position size light ≡ false = false_from_ne_true _ (λ h.
    let parts = and_parts (is_entered position light) (size_of position light == size) h in
    other parts.0 (eqb-true (size_of position light) size parts.1)) in
    rw add-one (rw fails refl)

last_of_size-own : (position : Position) (light : ℕ) → is_entered position light ≡ true → last_of_size position (size_of position light) (light + 1) ≡ Some light
last_of_size-own position light entered =
    let own : is_entered_of_size position (size_of position light) light ≡ true = and_from _ _ entered (eq-eqb (size_of position light) (size_of position light) refl) in
    rw add-one (rw own refl)

pub last-pass : (position : Position) (light : ℕ) (last : List (Option ℕ)) → is_entered position light ≡ false → AreLast position light last → AreLast position (light + 1) last
last-pass position light last gap are = λ size within. are size within ∙ sym (last_of_size-kept position size light (λ entered. absurd (false≢true (sym gap ∙ entered))))

pub last-put : (position : Position) (light own : ℕ) (last : List (Option ℕ)) → is_entered position light ≡ true → own ≡ size_of position light → own < length last → AreLast position light last → AreLast position (light + 1) (set last own (Some light))
last-put position light own last entered is below are = λ size within. elim (cases_eq size own) [
  | inl same ↦ ap (λ n. get_or (set last own (Some light)) n None) same ∙ get_or-set_same last own (Some light) None below ∙ sym (last_of_size-own position light entered) ∙ ap (λ n. last_of_size position n (light + 1)) (sym is ∙ sym same)
  | inr other ↦ get_or-set_other last own size (Some light) None other ∙ are size (omega (arith, length-set last own (Some light))) ∙ sym (last_of_size-kept position size light (λ h e. other (sym e ∙ sym is)))
]
