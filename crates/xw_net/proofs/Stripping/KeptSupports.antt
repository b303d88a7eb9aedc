-- Letters whose held words are still in the row of their light have a support.
use Rattle.std.proofs.Common.{◌≡◌, ℕ, ◌+◌, ◌-◌, ◌*◌, ◌^◌, ◌<◌, ◌≤◌, Bool, true, false, List, length, get_or, sym, ap, ◌∙◌, arith}
use Rattle.xw_letters.specs.LetterSet.{has}
use Rattle.xw_words.specs.Dictionary.{Dictionary, Entry}
use Rattle.xw_feas.specs.Board.{Board, light_at}
use Rattle.xw_net.specs.Inner.Lost.{AreInRow}
use Rattle.xw_net.specs.Marks.{IsPositionIn, slot_at, IsSetting, IsHeld}
use Rattle.xw_net.specs.Marks.IsHeld.{by_held}
use Rattle.xw_net.specs.Nets.{bits_for, held_in, marks_of, HasBits}
use Rattle.xw_net.specs.declared.net.Net.{Net}
use Rattle.xw_net.proofs.Nets.RowRoom.{known_few}
use Rattle.xw_net.proofs.Stripping.WordsByNumber.{listed_is, bits_known}

pub held_in_row : (board : Board) (entries : ℕ → List Entry) (dictionary : Dictionary) (setting : IsSetting board entries dictionary) (net : Net) (bits : HasBits board entries net) (i q : ℕ) (position : IsPositionIn board i q)
    (row : List Bool) (held : List ℕ) (slot set from end : ℕ) → bits_for net i ≡ row → held ≡ net.held.items → slot ≡ slot_at board i q → AreInRow row held slot set from end
    → (letter : ℕ) → 65 + from ≤ letter → letter < 65 + end → has set letter ≡ true → IsHeld board dictionary (marks_of net) i q letter
unfolding held_in
held_in_row board entries dictionary setting net bits i q position row held slot set from end rows_are held_are slots all letter low high is =
    let back : 65 + (letter - 65) ≡ letter = omega (arith, low) in
    let found = all (letter - 65) (omega (arith, low)) (omega (arith, low, high)) (ap (has set) back ∙ is) in
    let value : get_or held (26 * slot + (letter - 65)) 0 ≡ get_or net.held.items (26 * slot_at board i q + (letter - 65)) 0 =
    ap (λ h. get_or h (26 * slot + (letter - 65)) 0) held_are ∙ ap (λ s. get_or net.held.items (26 * s + (letter - 65)) 0) slots in
    let at = get_or net.held.items (26 * slot_at board i q + (letter - 65)) 0 in
    let lt : get_or net.held.items (26 * slot_at board i q + (letter - 65)) 0 < length (bits_for net i) = omega (arith, value, ap (λ (b : List Bool). length b) rows_are, found.0) in
    let bit : get_or (bits_for net i) (get_or net.held.items (26 * slot_at board i q + (letter - 65)) 0) false ≡ true =
    ap (λ b. get_or b at false) rows_are ∙ ap (λ k. get_or row k false) (sym value) ∙ found.1 in
    by_held (omega (arith, lt, bits_known board entries dictionary setting net bits i position.0)) (listed_is net i at lt ∙ bit)

-- the index of each word of a row has 32 bits
pub few_bits : (board : Board) (entries : ℕ → List Entry) (dictionary : Dictionary) (setting : IsSetting board entries dictionary) (net : Net) (bits : HasBits board entries net) (i : ℕ) → i < length board.lights → length (bits_for net i) < 2 ^ 32
few_bits board entries dictionary setting net bits i within = omega (arith, bits_known board entries dictionary setting net bits i within, known_few dictionary (length (light_at board i)) setting.words)
