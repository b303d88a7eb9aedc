-- Decimal digits.
use Rattle.std.specs.Prelude.{ℕ, Bool, ◌&&◌, List, length, nat_le}
use Rattle.std.specs.List.{list_all}

abbrev pub is_digit : ℕ → Bool
is_digit byte = nat_le 48 byte && nat_le byte 57

-- 1 to `most` decimal digits
abbrev pub is_number : ℕ → List ℕ → Bool
is_number most text = (nat_le 1 (length text) && nat_le (length text) most) && list_all is_digit text
