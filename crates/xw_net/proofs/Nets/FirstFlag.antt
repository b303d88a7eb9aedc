-- The first set flag from an index on.
use Rattle.std.proofs.Common.{◌≡◌, ℕ, ◌+◌, ◌-◌, ◌<◌, ◌≤◌, ◌++◌, Bool, true, false, List, [], ◌∷◌, length, get_or, drop, length-append, Some, None, refl, sym, ◌∙◌, ap, arith, inl, inr}
use Rattle.std.specs.Prelude.{Option, position, option_map}
use Rattle.std.proofs.lemmas.Bool.{cases_lt, both_ways, false≢true}
use Rattle.std.proofs.lemmas.List.{get_or_past, get_or-drop, get_or_append_left, get_or_push}
use Rattle.std.proofs.lemmas.List.Quantifiers.{position-Some}
use Rattle.xw_text.proofs.Position.{position-None}
use Rattle.xw_grid.specs.declared.lights.Light.{Light}
use Rattle.xw_net.specs.Nets.{bits_for}
use Rattle.xw_net.specs.Net.{flags_at, row_flags, first_from}
use Rattle.xw_net.specs.declared.net.Net.{Net}
use Rattle.xw_net.proofs.Nets.SettledNets.{flags_are}

-- a flag is set, and none before it from an index on
pub record IsFirstFrom (flags : List Bool) (from choice : ℕ) : Type 0 where
  pub later : from ≤ choice
  pub within : choice < length flags
  pub stands : get_or flags choice false ≡ true
  pub first : (k : ℕ) → from ≤ k → k < choice → get_or flags k false ≡ false

pub first-Some : (flags : List Bool) (from choice : ℕ) → first_from flags from ≡ Some choice → IsFirstFrom flags from choice
first-Some flags from choice h = split (position (λ flag. flag) (drop from flags)) refl h where
  split : (found : Option ℕ) → position (λ flag. flag) (drop from flags) ≡ found → option_map (λ index. from + index) found ≡ Some choice → IsFirstFrom flags from choice
  split None is g = cc
  split (Some index) is g =
      let at : from + index ≡ choice = cc in
      let found = position-Some (λ flag. flag) (drop from flags) index false is in
      let here : get_or flags choice false ≡ true = ap (λ k. get_or flags k false) (sym at) ∙ sym (get_or-drop from flags index false) ∙ found.1 in
      record {
        later = omega arith;
        within = elim (cases_lt choice (length flags)) [
          | inl below ↦ below
          | inr past ↦ absurd (false≢true (sym (get_or_past flags choice false past) ∙ here))
        ];
        stands = here;
        first = λ k low high.
            let shift : from + (k - from) ≡ k = omega arith in
            ap (λ j. get_or flags j false) (sym shift) ∙ sym (get_or-drop from flags (k - from) false) ∙ found.2 (k - from) (omega arith);
      }

pub first-None : (flags : List Bool) (from : ℕ) → first_from flags from ≡ None → (k : ℕ) → from ≤ k → get_or flags k false ≡ false
first-None flags from h k low = split (position (λ flag. flag) (drop from flags)) refl h where
  split : (found : Option ℕ) → position (λ flag. flag) (drop from flags) ≡ found → option_map (λ index. from + index) found ≡ None → get_or flags k false ≡ false
  split (Some index) is g = cc
  split None is g =
      let shift : from + (k - from) ≡ k = omega arith in
      ap (λ j. get_or flags j false) (sym shift) ∙ sym (get_or-drop from flags (k - from) false) ∙ elim (cases_lt (k - from) (length (drop from flags))) [
        | inl below ↦ position-None (λ flag. flag) (drop from flags) is (k - from) false below
        | inr past ↦ get_or_past (drop from flags) (k - from) false past
      ]

-- the first set flag is unique
first_is : (flags : List Bool) (from index : ℕ) → from ≤ index → get_or flags index false ≡ true → ((k : ℕ) → from ≤ k → k < index → get_or flags k false ≡ false) → first_from flags from ≡ Some index
first_is flags from index later stands first = split (first_from flags from) refl where
  split : (found : Option ℕ) → first_from flags from ≡ found → found ≡ Some index
  split None is = absurd (both_ways (get_or flags index false) (first-None flags from is index later) stands)
  split (Some choice) is =
      let at = first-Some flags from choice is in
      elim (cases_lt choice index) [
        | inl before ↦ absurd (both_ways (get_or flags choice false) (first choice at.later before) at.stands)
        | inr le ↦ elim (cases_lt index choice) [
          | inl before ↦ absurd (both_ways (get_or flags index false) (at.first index later before) stands)
          | inr ge ↦ let e : choice ≡ index = omega (arith, le, ge) in ap (λ (k : ℕ). Some k) e
        ]
      ]

first_is_none : (flags : List Bool) (from : ℕ) → ((k : ℕ) → from ≤ k → get_or flags k false ≡ false) → first_from flags from ≡ None
first_is_none flags from none = split (first_from flags from) refl where
  split : (found : Option ℕ) → first_from flags from ≡ found → found ≡ None
  split None is = refl
  split (Some choice) is = let at = first-Some flags from choice is in absurd (both_ways (get_or flags choice false) (none choice at.later) at.stands)

-- the flags of a light: first those of the known words, then that of the entered word
in_bits : (bits : List Bool) (entered : Bool) (k : ℕ) → k < length bits → get_or (bits ++ entered ∷ []) k false ≡ get_or bits k false
in_bits bits entered k lt = get_or_append_left bits (entered ∷ []) false k lt

at_end : (bits : List Bool) (entered : Bool) (k : ℕ) → k ≡ length bits → get_or (bits ++ entered ∷ []) k false ≡ entered
at_end bits entered k is = get_or_push bits entered false k (sym is)

past_end : (bits : List Bool) (entered : Bool) (k : ℕ) → length bits < k → get_or (bits ++ entered ∷ []) k false ≡ false
past_end bits entered k lt = get_or_past (bits ++ entered ∷ []) k false (omega (arith, length-append bits (entered ∷ [])))

module _ (lights : List Light) (net : Net) (light : ℕ) (lt : light < length lights) (from : ℕ) where
  over : (result : Option ℕ) → first_from (row_flags net light) from ≡ result → first_from (flags_at lights net light) from ≡ result
  over result is = ap (λ (flags : List Bool). first_from flags from) (flags_are lights net light lt) ∙ is

  pub first_listed : (index : ℕ) → index < length (bits_for net light) → from ≤ index → get_or (bits_for net light) index false ≡ true
      → ((k : ℕ) → from ≤ k → k < index → get_or (bits_for net light) k false ≡ false) → first_from (flags_at lights net light) from ≡ Some index
  first_listed index below later stands first =
      over (Some index) (first_is (row_flags net light) from index later (in_bits (bits_for net light) (get_or net.entered.items light false) index below ∙ stands)
      (λ k low high. in_bits (bits_for net light) (get_or net.entered.items light false) k (omega arith) ∙ first k low high))

  pub first_entered : from ≤ length (bits_for net light) → get_or net.entered.items light false ≡ true
      → ((k : ℕ) → from ≤ k → k < length (bits_for net light) → get_or (bits_for net light) k false ≡ false) → first_from (flags_at lights net light) from ≡ Some (length (bits_for net light))
  first_entered later entered none =
      over (Some (length (bits_for net light))) (first_is (row_flags net light) from (length (bits_for net light)) later (at_end (bits_for net light) (get_or net.entered.items light false) (length (bits_for net light)) refl ∙ entered)
      (λ k low high. in_bits (bits_for net light) (get_or net.entered.items light false) k high ∙ none k low high))

  pub first_nowhere : ((k : ℕ) → from ≤ k → k < length (bits_for net light) → get_or (bits_for net light) k false ≡ false)
      → (from ≤ length (bits_for net light) → get_or net.entered.items light false ≡ false) → first_from (flags_at lights net light) from ≡ None
  first_nowhere none no_entry =
      over None (first_is_none (row_flags net light) from (λ k low. elim (cases_lt k (length (bits_for net light))) [
        | inl below ↦ in_bits (bits_for net light) (get_or net.entered.items light false) k below ∙ none k low below
        | inr le ↦ elim (cases_lt (length (bits_for net light)) k) [
          | inl past ↦ past_end (bits_for net light) (get_or net.entered.items light false) k past
          | inr ge ↦ at_end (bits_for net light) (get_or net.entered.items light false) k (omega (arith, le, ge)) ∙ no_entry (omega (arith, low, ge))
        ]
      ]))
