-- The placements of a search: put behind others, taken from their end, and led to by another net.
use Rattle.std.proofs.Common.{◌≡◌, ℕ, ◌+◌, ◌-◌, ◌*◌, ◌^◌, ◌<◌, inl, inr, true, false, List, [], ◌∷◌, ◌++◌, length, get_or, if◌then◌else◌, Some, refl, sym, ◌∙◌, ap, subst, arith}
use Rattle.std.specs.Prelude.{All, Result, Ok, Err, IsOk, OnOk, OnErr, is_ok, replicate}
use Rattle.std.specs.declared.alloc.AllocError.{AllocError}
use Rattle.std.proofs.Math.Nat.{mul-pos}
use Rattle.std.proofs.lemmas.List.Elements.{All-push, All-pop}
use Rattle.xw_words.specs.Dictionary.{known_words}
use Rattle.xw_grid.specs.EditLaws.{SameShape}
use Rattle.xw_grid.specs.Grid.{Grid, IsGrid}
use Rattle.xw_feas.specs.Board.{board_of}
use Rattle.xw_feas.specs.State.{State}
use Rattle.xw_feas.specs.WellFormed.{IsWellFormed}
use Rattle.xw_net.specs.Level.{IsWay, IsAsLong}
use Rattle.xw_net.specs.Seen.{AreKeptOrNone, AreSeen}
use Rattle.xw_net.specs.declared.net.Net.{Net}
use Rattle.xw_feas.proofs.ShapeLemmas.{SameShape-itself, SameShape-turned, SameShape-then}
use Rattle.xw_feas.proofs.BoardLemmas.{length-open_cells}
use Rattle.xw_net.proofs.Levels.RememberedWords.{seen_begun, seen_moved}
use Rattle.xw_net.proofs.Levels.SettledAgain.{way_again}
use Rattle.xw_live.specs.Engine.{IsKept}
use Rattle.xw_live.specs.Levels.{SameCells, state_before, HasSizeOf, IsPlacementIn, first_net, AreWays, AreRemembered, AreLevels, IsBegunAt, IsLastOf, IsLastIn, IsLedTo}
use Rattle.xw_live.specs.declared.levels.Placement.{Placement}
use Rattle.xw_live.specs.declared.levels.Levels.{Levels}

-- pushed for certain
pub pushed_back : {X E : Type 0} (list new : List X) (last : X) (result : Result (Unit {0}) E) → new ≡ (if is_ok result then list ++ last ∷ [] else list) → IsOk result → new ≡ list ++ last ∷ []
pushed_back list new last (Ok done) are ok = are
pushed_back list new last (Err failed) are ok = let never : false ≡ true = ok in cc

-- ---- ways back

-- the net before the first of some placements and a last one
pub first_of_all : (rest : List Placement) (last : Placement) (now : Net) → first_net (rest ++ last ∷ []) now ≡ first_net rest last.net.value
first_of_all [] last now = refl
first_of_all (placement ∷ rest) last now = refl

-- a last placement behind others
pub ways_pushed : (rest : List Placement) (last : Placement) (now : Net) → AreWays rest last.net.value → IsWay last.level now last.net.value → AreWays (rest ++ last ∷ []) now
ways_pushed [] last now ways way = (way, tt)
ways_pushed (placement ∷ rest) last now ways way =
    (subst (λ net. IsWay placement.level net placement.net.value) (sym (first_of_all rest last now)) ways.0, ways_pushed rest last now ways.1 way)

-- without it
pub ways_popped : (rest : List Placement) (last : Placement) (now : Net) → AreWays (rest ++ last ∷ []) now → AreWays rest last.net.value × IsWay last.level now last.net.value
ways_popped [] last now ways = (tt, ways.0)
ways_popped (placement ∷ rest) last now ways =
    let more = ways_popped rest last now ways.1 in
    ((subst (λ net. IsWay placement.level net placement.net.value) (first_of_all rest last now) ways.0, more.0), more.1)

-- from a net like the last one
pub ways_like : (placements : List Placement) (old new : Net) → IsAsLong old new → AreWays placements old → AreWays placements new
ways_like [] old new as_long ways = tt
ways_like (placement ∷ []) old new as_long ways = (way_again placement.level old new placement.net.value ways.0 as_long, tt)
ways_like (placement ∷ other ∷ rest) old new as_long ways = (ways.0, ways_like (other ∷ rest) old new as_long ways.1)

-- ---- the words that are remembered

-- an equal table
pub remembered_same : (state : State) (old new : List ℕ) → new ≡ old → AreRemembered state old → AreRemembered state new
remembered_same state old new same are = subst (AreRemembered state) (sym same) are

-- without a table
pub remembered_none : (state : State) (seen : List ℕ) → seen ≡ [] → AreRemembered state seen
remembered_none state seen none = λ some. absurd (omega (arith, some, ap length none))

-- ---- the placements of an engine

-- none are made
pub levels_none : (state : State) (levels : Levels) (net : Net) → levels.made.items ≡ [] → All (HasSizeOf state.grid) levels.spare.items → AreRemembered state levels.trail.seen.items → AreLevels state levels net
levels_none state levels net none spare seen = record {
  made = subst (All (IsPlacementIn state)) (sym none) (λ k d below. absurd (omega (arith, below)));
  ways = subst (λ made. AreWays made net) (sym none) tt;
  spare = spare;
  seen = seen;
}

-- the sizes of all that is kept
pub made_sizes : (state : State) (levels : Levels) (net : Net) → AreLevels state levels net → All (HasSizeOf state.grid) levels.made.items
made_sizes state levels net are k d below = (are.made k d below).shape.cells

-- placements as large as a grid are as large as another one of its size
pub sizes_moved : (one other : Grid) (placements : List Placement) → length one.squares ≡ length other.squares → All (HasSizeOf one) placements → All (HasSizeOf other) placements
sizes_moved one other placements same all k d below = all k d below ∙ same

-- those of levels that were cleared, for a grid of the same size
pub spare_cleared : (state : State) (levels new : Levels) (net : Net) (grid : Grid) → AreLevels state levels net → ((grid : Grid) → All (HasSizeOf grid) levels.made.items → All (HasSizeOf grid) levels.spare.items → All (HasSizeOf grid) new.spare.items)
    → length state.grid.squares ≡ length grid.squares → All (HasSizeOf grid) new.spare.items
spare_cleared state levels new net grid are cleared same = sizes_moved state.grid grid new.spare.items same (cleared state.grid (made_sizes state levels net are) are.spare)

-- a placement that begins at the state
pub begun_placement : (state : State) (net : Net) (placement : Placement) → IsWellFormed state → IsKept state net → IsBegunAt state.grid net placement → IsPlacementIn state placement
begun_placement state net placement formed kept begun = record {
  shape = subst (SameShape state.grid) (sym begun.grid_is) (SameShape-itself state.grid);
  cells = (ap (λ grid. (board_of grid).lights) begun.grid_is, ap (λ grid. (board_of grid).open_cells) begun.grid_is);
  formed = subst (λ grid. IsWellFormed (record { grid = grid; words = state.words })) (sym begun.grid_is) formed;
  kept = subst (λ grid. IsKept (record { grid = grid; words = state.words }) placement.net.value) (sym begun.grid_is) (subst (IsKept state) (sym begun.net_is) kept);
}

-- a placement was begun at the state
pub levels_begun : (state : State) (old new : Levels) (net : Net) → IsWellFormed state → IsKept state net → AreLevels state old net → IsLastOf state.grid net old.made.items new.made.items → All (HasSizeOf state.grid) new.spare.items
    → AreRemembered state new.trail.seen.items → AreLevels state new net
levels_begun state old new net formed kept are last spare seen = record {
  made = subst (All (IsPlacementIn state)) (sym last.all_are) (All-push (IsPlacementIn state) old.made.items last.placement are.made (begun_placement state net last.placement formed kept last.begun));
  ways = subst (λ made. AreWays made net) (sym last.all_are)
      (ways_pushed old.made.items last.placement net (subst (AreWays old.made.items) (sym last.begun.net_is) are.ways) (subst (IsWay last.placement.level net) (sym last.begun.net_is) last.begun.way));
  spare = spare;
  seen = seen;
}

-- a placement of the state before is one of a state with the same words and a grid of the same shape
pub placement_after : (before now : State) (placement : Placement) → SameShape before.grid now.grid → SameCells (board_of now.grid) (board_of before.grid) → now.words ≡ before.words → IsPlacementIn before placement → IsPlacementIn now placement
placement_after before now placement shape cells words is = record {
  shape = SameShape-then now.grid before.grid placement.grid (SameShape-turned before.grid now.grid shape) is.shape;
  cells = (is.cells.0 ∙ sym cells.0, is.cells.1 ∙ sym cells.1);
  formed = subst (λ words. IsWellFormed (record { grid = placement.grid; words = words })) (sym words) is.formed;
  kept = subst (λ words. IsKept (record { grid = placement.grid; words = words }) placement.net.value) (sym words) is.kept;
}

-- a placement with the grid and the net of another one
same_placement : (state : State) (one other : Placement) → other.grid ≡ one.grid → other.net.value ≡ one.net.value → IsPlacementIn state one → IsPlacementIn state other
same_placement state one other grid net is = record {
  shape = subst (SameShape state.grid) (sym grid) is.shape;
  cells = (ap (λ g. (board_of g).lights) grid ∙ is.cells.0, ap (λ g. (board_of g).open_cells) grid ∙ is.cells.1);
  formed = subst (λ g. IsWellFormed (record { grid = g; words = state.words })) (sym grid) is.formed;
  kept = subst (λ g. IsKept (record { grid = g; words = state.words }) other.net.value) (sym grid) (subst (IsKept (state_before state.words one)) (sym net) is.kept);
}

module _ (before now : State) (levels : Levels) (others : List Placement) (net : Net) (are : AreLevels before levels net) (last : IsLastOf before.grid net others levels.made.items) (shape : SameShape before.grid now.grid) (cells : SameCells (board_of now.grid) (board_of before.grid))
    (words : now.words ≡ before.words) where
  all_made : All (IsPlacementIn before) others × IsPlacementIn before last.placement
  all_made = All-pop (IsPlacementIn before) levels.made.items others (Some last.placement) last.all_are are.made

  others_ways : AreWays others net
  others_ways =
      subst (AreWays others) last.begun.net_is
      (ways_popped others last.placement net (subst (λ made. AreWays made net) last.all_are are.ways)).0

  -- the last placement keeps a grid of the shape of the grid after it
  pub last_in : IsLastIn now.grid net others levels.made.items
  last_in = record {
    placement = last.placement;
    all_are = last.all_are;
    shape = SameShape-then now.grid before.grid last.placement.grid (SameShape-turned before.grid now.grid shape) all_made.1.shape;
    net_is = last.begun.net_is;
    way = last.begun.way;
  }

  -- the placement stands
  pub levels_led : (new : Levels) (next : Net) → IsLedTo net others levels.made.items new.made.items next → All (HasSizeOf now.grid) new.spare.items → AreSeen (board_of now.grid) (known_words now.words) new.trail.seen.items → AreLevels now new next
  levels_led new next led spare seen = record {
    made = subst (All (IsPlacementIn now)) (sym led.all_are)
        (All-push (IsPlacementIn now) others led.placement (λ k d below. placement_after before now (get_or others k d) shape cells words (all_made.0 k d below))
        (placement_after before now led.placement shape cells words
        (same_placement before last.placement led.placement (led.same_grid last.placement last.all_are) (led.same_net last.placement last.all_are) all_made.1)));
    ways = subst (λ made. AreWays made next) (sym led.all_are)
        (ways_pushed others led.placement next (subst (AreWays others) (sym net_is) others_ways) (subst (IsWay led.placement.level next) (sym net_is) led.way));
    spare = spare;
    seen = λ some. seen;
  } where
    net_is : led.placement.net.value ≡ net
    net_is = led.same_net last.placement last.all_are ∙ last.begun.net_is

  -- it does not, and the net is as before
  pub levels_left : (new : Levels) (back : Net) → new.made.items ≡ others → IsAsLong net back → All (HasSizeOf before.grid) new.spare.items → AreSeen (board_of before.grid) (known_words before.words) new.trail.seen.items → AreLevels before new back
  levels_left new back are_others as_long spare seen = record {
    made = subst (All (IsPlacementIn before)) (sym are_others) all_made.0;
    ways = subst (λ made. AreWays made back) (sym are_others) (ways_like others net back as_long others_ways);
    spare = spare;
    seen = λ some. seen;
  }

-- the last placement was taken back
module _ (state : State) (levels : Levels) (net : Net) (are : AreLevels state levels net) (others : List Placement) (last : Placement) (all_are : levels.made.items ≡ others ++ last ∷ []) where
  taken_all : All (IsPlacementIn state) others × IsPlacementIn state last
  taken_all = All-pop (IsPlacementIn state) levels.made.items others (Some last) all_are are.made

  pub taken_last : IsPlacementIn state last
  taken_last = taken_all.1

  pub taken_way : IsWay last.level net last.net.value
  taken_way = (ways_popped others last net (subst (λ made. AreWays made net) all_are are.ways)).1

  pub taken_seen : (seen : List ℕ) → seen ≡ levels.trail.seen.items → AreRemembered (state_before state.words last) seen
  taken_seen seen is some =
      seen_moved (board_of state.grid) (board_of last.grid) (known_words state.words) seen taken_last.cells.0 taken_last.cells.1
      (remembered_same state levels.trail.seen.items seen is are.seen some)

  pub levels_taken : (new : Levels) (back : Net) → new.made.items ≡ others → IsAsLong last.net.value back → All (HasSizeOf state.grid) new.spare.items → AreRemembered (state_before state.words last) new.trail.seen.items → AreLevels (state_before state.words last) new back
  levels_taken new back are_others as_long spare seen = record {
    made = subst (All (IsPlacementIn (state_before state.words last))) (sym are_others)
        (λ k d below. placement_after state (state_before state.words last) (get_or others k d) taken_last.shape taken_last.cells refl (taken_all.0 k d below));
    ways = subst (λ made. AreWays made back) (sym are_others) (ways_like others last.net.value back as_long (ways_popped others last net (subst (λ made. AreWays made net) all_are are.ways)).0);
    spare = sizes_moved state.grid last.grid new.spare.items (sym taken_last.shape.cells) spare;
    seen = seen;
  }

-- ---- when a placement begins

-- as many words of a length as a row has room for
few_words : (state : State) (len : ℕ) → IsWellFormed state → length (known_words state.words len) < 2 ^ 32
few_words state len formed =
    let few = (formed.dictionary.words len).few in
    omega (arith, few)

-- the table is kept, or a new one
pub seen_at_begin : (state : State) (old new : List ℕ) → IsWellFormed state → AreKeptOrNone (length state.grid.squares) old new → AreRemembered state old → AreRemembered state new
seen_at_begin state old new formed either are = elim either [
  | inl same ↦ remembered_same state old new same are
  | inr none ↦ λ some.
      seen_begun (board_of state.grid) (known_words state.words) new formed.board (λ len. few_words state len formed)
      (none ∙ ap (λ n. replicate (52 * n) (2 ^ 32 - 1)) (sym (length-open_cells state.grid)))
]

-- a grid has a cell
some_cells : (grid : Grid) → IsGrid grid → 0 < length grid.squares
some_cells grid is = subst (λ n. 0 < n) (sym is.squares) (mul-pos (omega (arith, is.wide.0)) (omega (arith, is.high.0)))

-- the table has an entry for each letter, since a grid has a cell
pub seen_for_all : (state : State) (seen : List ℕ) → IsWellFormed state → length seen ≡ 52 * length state.grid.squares → AreRemembered state seen → AreSeen (board_of state.grid) (known_words state.words) seen
seen_for_all state seen formed long are =
    let some : 0 < length state.grid.squares = some_cells state.grid formed.grid in
    are (omega (arith, long, some))

-- a placement was begun, or an allocation failed
pub levels_either : (state : State) (old new : Levels) (net : Net) (result : Result (Unit {0}) AllocError) → IsWellFormed state → IsKept state net → AreLevels state old net → OnOk result (IsLastOf state.grid net old.made.items new.made.items)
    → OnErr result (new.made.items ≡ old.made.items) → All (HasSizeOf state.grid) new.spare.items → AreKeptOrNone (length state.grid.squares) old.trail.seen.items new.trail.seen.items → AreLevels state new net
levels_either state old new net (Ok done) formed kept are last none spare seen = levels_begun state old new net formed kept are last spare (seen_at_begin state old.trail.seen.items new.trail.seen.items formed seen are.seen)
levels_either state old new net (Err failed) formed kept are last none spare seen = record {
  made = subst (All (IsPlacementIn state)) (sym none) are.made;
  ways = subst (λ made. AreWays made net) (sym none) are.ways;
  spare = spare;
  seen = seen_at_begin state old.trail.seen.items new.trail.seen.items formed seen are.seen;
}

-- the last placement, seen from an equal state with an equal net
pub last_moved : (before now : State) (old new : Net) (others all : List Placement) → before ≡ now → old ≡ new → IsLastOf before.grid old others all → IsLastOf now.grid new others all
last_moved before now old new others all same same_net last = subst (λ (state : State). IsLastOf state.grid new others all) same (subst (λ net. IsLastOf before.grid net others all) same_net last)

-- no placements have any size
pub none_sized : (grid : Grid) (placements : List Placement) → placements ≡ [] → All (HasSizeOf grid) placements
none_sized grid placements none = subst (All (HasSizeOf grid)) (sym none) (λ k d below. absurd (omega (arith, below)))
