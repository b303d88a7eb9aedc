-- The changed word, and the lights with its length.
use Rattle.std.proofs.Common.{◌≡◌, ℕ, Bool, true, List, Some, None, ap, eqb, inl, inr}
use Rattle.std.specs.Prelude.{Option}
use Rattle.std.proofs.lemmas.Bool.{and_parts, or_cases, eqb-true}
use Rattle.xw_net.specs.Begin.{is_long, may_have, has_changed}

pub long_word : (word : Option (ℕ × ℕ)) (len : ℕ) → is_long word len ≡ true → (index : ℕ) × (word ≡ Some (len, index))
long_word None len long = cc
long_word (Some word) len long = (word.1, ap (λ n. Some (n, word.1)) (eqb-true word.0 len long))

pub may_have_long : (word : Option (ℕ × ℕ)) (len : ℕ) (bits : List Bool) → may_have word len bits ≡ true → is_long word len ≡ true
may_have_long None len bits has = has
may_have_long (Some word) len bits has = (and_parts (eqb word.0 len) _ has).0

pub has_changed_long : (word : Option (ℕ × ℕ)) (len : ℕ) (base bits : List Bool) → has_changed word len base bits ≡ true → is_long word len ≡ true
has_changed_long word len base bits has = elim (or_cases (may_have word len base) (may_have word len bits) has) [
  | inl may ↦ may_have_long word len base may
  | inr stood ↦ may_have_long word len bits stood
]
