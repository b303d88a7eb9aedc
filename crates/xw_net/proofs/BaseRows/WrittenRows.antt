-- Writing one of the rows of all lights.
use Rattle.std.proofs.Common.{◌≡◌, ℕ, ◌<◌, ◌≤◌, List, length, get_or, set, sym, ap, subst, ◌∙◌, inl, inr, arith}
use Rattle.std.proofs.lemmas.Bool.{cases_eq}
use Rattle.std.proofs.lemmas.List.{get_or_default, get_or-set_same, get_or-set_other}
use Rattle.xw_bits.specs.Bits.{RowOfBits}
use Rattle.xw_net.specs.Room.{row_at, no_row}
use Rattle.xw_net.specs.Spread.{bits_in}
use Rattle.xw_net.proofs.Nets.RowRoom.{bits_are}

module _ (rows : List RowOfBits) (light : ℕ) (within : light < length rows) where
  -- the old row, for any default
  pub bits_read : (row : RowOfBits) → (get_or rows light row).bits ≡ bits_in rows light
  bits_read row = ap (λ (r : RowOfBits). r.bits) (get_or_default rows light row no_row within) ∙ sym (bits_are rows light)

  pub bits_here : (row : RowOfBits) → bits_in (set rows light row) light ≡ row.bits
  bits_here row = bits_are (set rows light row) light ∙ ap (λ (r : RowOfBits). r.bits) (get_or-set_same rows light row no_row within)

  pub bits_other : (row : RowOfBits) (other : ℕ) → (other ≡ light → ⊥) → bits_in (set rows light row) other ≡ bits_in rows other
  bits_other row other apart = bits_are (set rows light row) other ∙ ap (λ (r : RowOfBits). r.bits) (get_or-set_other rows light other row no_row apart) ∙ sym (bits_are rows other)

  pub room_other : (row old : RowOfBits) → (get_or rows light old).room ≤ row.room → (other : ℕ) → (row_at rows other).room ≤ (row_at (set rows light row) other).room
  room_other row old more other =
      let kept : (row_at rows light).room ≤ row.room = subst (λ (r : RowOfBits). r.room ≤ row.room) (get_or_default rows light old no_row within) more in
      elim (cases_eq other light) [
        | inl e ↦ subst (λ n. (row_at rows n).room ≤ (row_at (set rows light row) n).room) (sym e) (subst (λ (r : RowOfBits). (row_at rows light).room ≤ r.room) (sym (get_or-set_same rows light row no_row within)) kept)
        | inr apart ↦ subst (λ (r : RowOfBits). (row_at rows other).room ≤ r.room) (sym (get_or-set_other rows light other row no_row apart)) (omega arith)
      ]
