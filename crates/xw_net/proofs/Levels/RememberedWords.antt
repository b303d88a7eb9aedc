-- No word is remembered at first, and remembered words depend on no entry.
use Rattle.std.proofs.Common.{◌≡◌, ℕ, ◌+◌, ◌-◌, ◌*◌, ◌^◌, ◌<◌, List, length, get_or, replicate, sym, ap, ◌∙◌, subst, arith}
use Rattle.std.proofs.lemmas.List.{get_or-replicate, length-replicate}
use Rattle.xw_words.specs.Dictionary.{Entry}
use Rattle.xw_feas.specs.Board.{Board, light_at}
use Rattle.xw_feas.specs.WellFormed.{IsLaidOut}
use Rattle.xw_feas.proofs.Support.{set_flag_within}
use Rattle.xw_net.specs.Marks.{IsPositionIn, cell_at, slot_at}
use Rattle.xw_net.specs.Seen.{IsSeenAt, AreSeen}
use Rattle.xw_net.proofs.Nets.SlotsApart.{side_small}

-- an index past all words is remembered for each slot and letter
pub seen_begun : (board : Board) (entries : ℕ → List Entry) (seen : List ℕ) → IsLaidOut board → ((len : ℕ) → length (entries len) < 2 ^ 32) → seen ≡ replicate (52 * length board.open_cells) (2 ^ 32 - 1) → AreSeen board entries seen
seen_begun board entries seen laid_out few is = record {
  long = ap length is ∙ length-replicate (52 * length board.open_cells) (2 ^ 32 - 1);
  right = λ light position here k below known.
      let cell = cell_at board light position in
      let open_ : cell < length board.open_cells = set_flag_within board.open_cells cell (laid_out.cells_open light position here.1) in
      let side = side_small (light_at board light) in
      let at = 26 * slot_at board light position + k in
      let within : at < 52 * length board.open_cells = omega (arith, open_, side, below) in
      let none : get_or seen at 0 ≡ 2 ^ 32 - 1 = ap (λ (s : List ℕ). get_or s at 0) is ∙ get_or-replicate (52 * length board.open_cells) at (2 ^ 32 - 1) 0 within in
      absurd (omega (arith, none, known, few (length (light_at board light))));
}

-- remembered words stay right for another board with the same lights and open cells
pub seen_moved : (before after : Board) (entries : ℕ → List Entry) (seen : List ℕ) → after.lights ≡ before.lights → after.open_cells ≡ before.open_cells → AreSeen before entries seen → AreSeen after entries seen
seen_moved before after entries seen lights opens are = record {
  long = are.long ∙ ap (λ opens. 52 * length opens) (sym opens);
  right = subst right_for (sym lights) are.right;
} where
  right_for : List (List ℕ) → Type 0
  right_for ls =
      (light position : ℕ) → IsPositionIn (record after { lights = ls }) light position
      → IsSeenAt (entries (length (light_at (record after { lights = ls }) light))) position (slot_at (record after { lights = ls }) light position) seen
