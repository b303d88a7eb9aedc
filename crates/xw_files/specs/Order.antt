-- Pairs of numbers in lexicographic order, by which faults of the same kind are ordered.
use Rattle.std.specs.Prelude.{◌≡◌, ◌<◌, ◌⊎◌, ℕ}

abbrev pub IsLess : ℕ × ℕ → ℕ × ℕ → Type 0
IsLess a b = (a.0 < b.0) ⊎ ((a.0 ≡ b.0) × (a.1 < b.1))
