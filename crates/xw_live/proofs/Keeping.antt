-- What an engine keeps from one edit to the next.
use Rattle.std.proofs.Common.{◌≡◌, ℕ, ◌+◌, ◌<◌, ◌≤◌, Bool, true, false, add-zero, List, length, Some, None, sym, ◌∙◌, ap, subst, arith}
use Rattle.std.specs.Prelude.{Option, slice_get, is_some, if◌then◌else◌}
use Rattle.std.proofs.lemmas.Bool.{false≢true}
use Rattle.std.proofs.Math.Logic.{∥∥₁_elim}
use mathlib.Core.Logic.{∥∥₁_prop}
use mathlib.Core.HLevel.{Π_prop}
use Rattle.std.specs.Coded.{Coded-set, coded_ℕ, le_prop}
use Rattle.std.proofs.lemmas.List.{length-map}
use Rattle.xw_letters.specs.LetterSet.{letters_in}
use Rattle.xw_words.specs.Dictionary.{Dictionary}
use Rattle.xw_grid.specs.Grid.{Grid, index_of}
use Rattle.xw_grid.specs.declared.lights.Light.{Light}
use Rattle.xw_grid.specs.Light.{lights_of, cells_of}
use Rattle.xw_grid.proofs.LightLemmas.{length-line}
use Rattle.xw_feas.specs.Board.{Board, board_of, light_at}
use Rattle.xw_feas.specs.Choices.{IsExact}
use Rattle.xw_feas.specs.Feasible.{AreAnswers}
use Rattle.xw_feas.specs.Single.{IsExact-prop, AreAnswers-prop}
use Rattle.xw_feas.specs.Flags.{flag_at, set_has, standing_count}
use Rattle.xw_feas.specs.Queries.{words_of}
use Rattle.xw_feas.specs.Rows.{grows}
use Rattle.xw_feas.specs.Shape.{SameCounts, GrowsAt}
use Rattle.xw_feas.specs.Standing.{HasRows}
use Rattle.xw_feas.specs.State.{State}
use Rattle.xw_feas.proofs.AnswersLemmas.{AreAnswers-rows}
use Rattle.xw_feas.proofs.BoardLemmas.{length-open_cells, length-lights, light_at-found}
use Rattle.xw_feas.proofs.QueryLemmas.{count_is}
use Rattle.xw_net.specs.declared.net.Net.{Net}
use Rattle.xw_live.specs.Engine.{IsKept, net_answers}
use Rattle.xw_net.specs.Layout.{layout_of}
use Rattle.xw_net.specs.Begin.{is_long}
use Rattle.xw_net.proofs.BaseRows.BaseBits.{eqb_other_way}
use Rattle.xw_net.specs.Net.{flags_of, flags_at, sets_of, IsSettledFor, HasRoomIn, IsAlike, StandsFor, StoodFor, known_counts}
use Rattle.xw_net.specs.Room.{HasRoom}
use Rattle.xw_net.specs.Fit.{lacking, HasRoomBetween}
use Rattle.xw_net.specs.declared.room.Spare.{Spare}
use Rattle.xw_net.proofs.Nets.SettledNets.{filled_room}

settled_answers : (state : State) (net : Net) → IsSettledFor state net → AreAnswers (board_of state.grid) state.words (net_answers state net)
settled_answers state net settled = AreAnswers-rows (board_of state.grid) state.words (flags_of (lights_of state.grid) net) (sets_of net) settled.rows settled.exact

-- the invariant from a net that is settled for a state and has no spare arrays
pub kept_from : (state : State) (net : Net) → ∥ IsSettledFor state net ∥₁ → is_some net.spare ≡ false → IsKept state net
kept_from state net settled none_waits = record {
  settled = settled;
  none_waits = none_waits;
  answers = ∥∥₁_elim settled (AreAnswers-prop (board_of state.grid) state.words (net_answers state net)) (settled_answers state net);
}

-- an alike net is settled for the same states
pub settled_alike : (state : State) (old new : Net) → IsAlike old new → ∥ IsSettledFor state old ∥₁ → ∥ IsSettledFor state new ∥₁
settled_alike state old new alike known = ∥∥₁_elim known ∥∥₁_prop (λ settled. ∣ alike.settled (layout_of state.grid) state.words settled ∣₁)

-- an alike net satisfies the invariant for the same states
pub kept_alike : (state : State) (old new : Net) → IsAlike old new → is_some new.spare ≡ false → IsKept state old → IsKept state new
kept_alike state old new alike none_waits kept = kept_from state new (settled_alike state old new alike kept.settled) none_waits

-- there is a set for each cell
pub kept_cells : (state : State) (net : Net) → IsKept state net → length (sets_of net) ≡ length state.grid.squares
kept_cells state net kept = sym (length-map (sets_of net) letters_in) ∙ kept.answers.cells ∙ length-open_cells state.grid

-- ---- room

room_prop : (lights : List Light) (counts : ℕ → ℕ) (net : Net) → IsProp (HasRoom lights counts net)
room_prop lights counts net x y = λ i. record {
  rows = Π_prop (λ light. Π_prop (λ below. le_prop)) x.rows y.rows i;
  base = Π_prop (λ light. Π_prop (λ below. le_prop)) x.base y.base i;
}

-- a settled net has room for its lights
pub settled_room : (state : State) (net : Net) → ∥ IsSettledFor state net ∥₁ → HasRoom (lights_of state.grid) (known_counts state.words) net
settled_room state net known = ∥∥₁_elim known (room_prop (lights_of state.grid) (known_counts state.words) net) (λ settled. filled_room state.grid state.words net settled.filled)

pub room_of_lights : (state : State) (net : Net) (lights : List Light) → lights ≡ lights_of state.grid → ∥ IsSettledFor state net ∥₁ → HasRoom lights (known_counts state.words) net
room_of_lights state net lights are known = subst (λ ls. HasRoom ls (known_counts state.words) net) (sym are) (settled_room state net known)

-- room for the same lights, without spare arrays
pub room_without : (lights after : List Light) (counts : ℕ → ℕ) (net : Net) (waiting : Option Spare) → is_some waiting ≡ false → after ≡ lights → HasRoom after counts net → HasRoomBetween lights after counts net waiting
room_without lights after counts net None none same room = (same, room)
room_without lights after counts net (Some spare) none same room = absurd (false≢true (sym none))

-- room in the net itself, if no arrays are spare
pub room_in_place : (lights : List Light) (counts : ℕ → ℕ) (net : Net) (waiting : Option Spare) → is_some waiting ≡ false → HasRoomIn lights counts net waiting → HasRoom lights counts net
room_in_place lights counts net None none room = room
room_in_place lights counts net (Some spare) none room = absurd (false≢true (sym none))

-- room for other lights, in the spare arrays
pub room_waiting : (before after : List Light) (counts : ℕ → ℕ) (net : Net) (waiting : Option Spare) → is_some waiting ≡ true → HasRoom before counts net → HasRoomIn after counts net waiting → HasRoomBetween before after counts net waiting
room_waiting before after counts net (Some spare) waits room spare_room = (room, spare_room)
room_waiting before after counts net None waits room spare_room = absurd (false≢true waits)

one_if : (b : Bool) (n : ℕ) → (n ≤ n + (if b then 1 else 0)) × (n + (if b then 1 else 0) ≤ n + (if b then 1 else 0))
one_if true n = (omega arith, omega arith)
one_if false n = (omega arith, omega arith)

-- room for no more words
pub room_for_none : (lights : List Light) (words : Dictionary) (net : Net) (waiting : Option Spare) → HasRoomIn lights (λ len. known_counts words len + (if grows None len then 1 else 0)) net waiting → HasRoomIn lights (known_counts words) net waiting
room_for_none lights words net waiting room = subst (λ known. HasRoomIn lights known net waiting) (λ i len. add-zero (known_counts words len) i) room

-- ---- what a net was settled for

pub near_same : (old new : Dictionary) (word : Option (ℕ × ℕ)) → SameCounts old new → (len : ℕ) → (known_counts old len ≤ known_counts new len) × (known_counts new len ≤ known_counts old len + lacking word len)
near_same old new word same len =
    let is : known_counts new len ≡ known_counts old len = same len in
    (omega (arith, is), omega (arith, is))

pub near_grown : (old new : Dictionary) (grown index : ℕ) → GrowsAt old new grown → (len : ℕ) → (known_counts old len ≤ known_counts new len) × (known_counts new len ≤ known_counts old len + lacking (Some (grown, index)) len)
near_grown old new grown index more len =
    let is : known_counts new len ≡ known_counts old len + (if grows (Some grown) len then 1 else 0) = more len in
    let same : grows (Some grown) len ≡ is_long (Some (grown, index)) len = eqb_other_way len grown in
    subst (λ n. (known_counts old len ≤ n) × (n ≤ known_counts old len + lacking (Some (grown, index)) len)) (sym is)
    (subst (λ b. (known_counts old len ≤ known_counts old len + (if grows (Some grown) len then 1 else 0)) × (known_counts old len + (if grows (Some grown) len then 1 else 0) ≤ known_counts old len + (if b then 1 else 0))) same (one_if (grows (Some grown) len) (known_counts old len)))

module _ (state : State) (net : Net) (lights : List Light) (are : lights ≡ lights_of state.grid) (known : ∥ IsSettledFor state net ∥₁) where
  abbrev pub stands_for : StandsFor lights net
  stands_for = record { state = state; are_lights = sym are; settled = known }

  -- no word became known, except perhaps the changed one
  pub stood_near : (counts : ℕ → ℕ) (word : Option (ℕ × ℕ)) → ((len : ℕ) → (known_counts state.words len ≤ counts len) × (counts len ≤ known_counts state.words len + lacking word len)) → StoodFor lights word counts net
  stood_near counts word near = record { stands = stands_for; near = near }

-- ---- the answers of an engine

HasRows-prop : (board : Board) (dictionary : Dictionary) (words : List (List Bool)) (letters : List ℕ) → IsProp (HasRows board dictionary words letters)
HasRows-prop board dictionary words letters x y = λ i. record {
  lights = Coded-set coded_ℕ _ _ x.lights y.lights i;
  choices = Π_prop (λ light. Π_prop (λ below. Coded-set coded_ℕ _ _)) x.choices y.choices i;
  cells = Coded-set coded_ℕ _ _ x.cells y.cells i;
}

pub kept_rows : (state : State) (net : Net) → IsKept state net → HasRows (board_of state.grid) state.words (flags_of (lights_of state.grid) net) (sets_of net)
kept_rows state net kept = ∥∥₁_elim kept.settled (HasRows-prop (board_of state.grid) state.words (flags_of (lights_of state.grid) net) (sets_of net)) (λ settled. settled.rows)

pub kept_exact : (state : State) (net : Net) → IsKept state net → IsExact (board_of state.grid) state.words (flag_at (flags_of (lights_of state.grid) net)) (set_has (sets_of net))
kept_exact state net kept = ∥∥₁_elim kept.settled (IsExact-prop (board_of state.grid) state.words (flag_at (flags_of (lights_of state.grid) net)) (set_has (sets_of net))) (λ settled. settled.exact)

-- the net can be queried
pub kept_stands : (state : State) (net : Net) (lights : List Light) → lights ≡ lights_of state.grid → IsKept state net → StandsFor lights net
kept_stands state net lights are kept = stands_for state net lights are kept.settled

-- the number of set flags is the number of feasible words of the light
pub kept_count : (state : State) (net : Net) (lights : List Light) → lights ≡ lights_of state.grid → IsKept state net → (light : ℕ) → light < length (lights_of state.grid)
    → standing_count (flags_at lights net light) ≡ length (words_of (net_answers state net) light)
kept_count state net lights are kept light below =
    let rows = kept_rows state net kept in
    let within : light < length (flags_of (lights_of state.grid) net) = omega (arith, rows.lights, length-lights state.grid) in
    ap (λ ls. standing_count (flags_at ls net light)) are ∙ count_is (board_of state.grid) state.words (flags_of (lights_of state.grid) net) (sets_of net) rows light within

-- the number of cells of a light
pub light_size : (grid : Grid) (index : ℕ) (light : Light) → index < length (lights_of grid) → slice_get (lights_of grid) index ≡ Some light → length (light_at (board_of grid) index) ≡ light.size
light_size grid index light below found =
    ap length (light_at-found grid index light found below)
    ∙ length-map (cells_of light) (index_of grid)
    ∙ length-line light.name.direction light.start light.size
