-- What a try of a placement leaves: the placement stands, or all is as before.
use Rattle.std.proofs.Common.{◌≡◌, ◌≢◌, ℕ, ◌<◌, Bool, true, false, List, [], ◌∷◌, ◌++◌, length, get_or, Option, Some, None, refl, sym, ◌∙◌, ap, subst, arith}
use Rattle.std.specs.Prelude.{All, Result, Ok, Err, IfOk, IfSome, is_some, slice_index_or}
use Rattle.std.specs.declared.alloc.AllocError.{AllocError}
use Rattle.std.proofs.lemmas.List.{map_push}
use Rattle.xw_words.specs.Dictionary.{known_words}
use Rattle.xw_grid.specs.EditLaws.{SameShape}
use Rattle.xw_grid.specs.Grid.{Grid}
use Rattle.xw_grid.specs.Light.{lights_of}
use Rattle.xw_feas.specs.Board.{Board, board_of}
use Rattle.xw_feas.specs.Feasible.{IsFeasibleWord}
use Rattle.xw_feas.specs.State.{State, Action, after}
use Rattle.xw_feas.specs.Trying.{IsTried, levels_after}
use Rattle.xw_feas.proofs.BoardLemmas.{length-lights}
use Rattle.xw_net.specs.Level.{IsBack}
use Rattle.xw_net.specs.Net.{IsSettledFor, sets_of}
use Rattle.xw_net.specs.Seen.{AreSeen}
use Rattle.xw_net.specs.Steps.{IsEmptied}
use Rattle.xw_net.specs.declared.net.Net.{Net}
use Rattle.xw_net.proofs.Levels.EmptiedLights.{emptied_dead, dead_emptied}
use Rattle.xw_net.proofs.Levels.RememberedWords.{seen_moved}
use Rattle.xw_live.specs.Engine.{IsKept}
use Rattle.xw_live.specs.Levels.{SameCells, state_before, states_before, HasSizeOf, AreLevels, IsLastOf, IsLastIn, IsLedTo, IsLeft}
use Rattle.xw_live.specs.declared.levels.Placement.{Placement}
use Rattle.xw_live.specs.declared.levels.Levels.{Levels}
use Rattle.xw_live.proofs.Keeping.{kept_from, kept_cells}
use Rattle.xw_live.proofs.Placements.{made_sizes, spare_cleared, last_in, levels_led, levels_left}

abbrev pub Outcome : Type 0
Outcome = Result (Option ℕ) AllocError

abbrev pub stood : Outcome
stood = Ok None

not_dead : (light : ℕ) → Ok (Some light) ≡ stood → ⊥
not_dead light is = cc

not_failed : (failed : AllocError) → Err failed ≡ stood → ⊥
not_failed failed is = cc

-- the facts that a try ensures
pub record IsOutcome (net : Net) (levels : Levels) (there now : State) (next : Net) (new : Levels) (watch : List Bool) (result : Outcome) : Type 0 where
  pub words : now.words ≡ there.words
  pub seen : AreSeen (board_of there.grid) (known_words there.words) new.trail.seen.items
  pub none_waits : next.spare ≡ net.spare
  pub grid : result ≡ stood → now.grid ≡ there.grid
  pub settled : result ≡ stood → ∥ IsSettledFor there next ∥₁
  pub alive : result ≡ stood → (light : ℕ) → slice_index_or watch light false ≡ true → IsEmptied next light → IsEmptied net light
  pub made : result ≡ stood → (others : List Placement) → IsLastIn there.grid net others levels.made.items → IsLedTo net others levels.made.items new.made.items next
  pub back : result ≢ stood → IsBack net next
  pub dead : IfOk result (λ dead. IfSome dead (λ light. (word : List ℕ) → ¬ IsFeasibleWord (board_of there.grid) there.words light word))
  pub watched : IfOk result (λ dead. IfSome dead (λ light. slice_index_or watch light false ≡ true))
  pub within : IfOk result (λ dead. IfSome dead (λ light. light < length (lights_of there.grid)))
  pub left : result ≢ stood → (others : List Placement) (last : Placement) → levels.made.items ≡ others ++ last ∷ [] → IsLeft others last levels.made.items new.made.items now.grid
  pub spare : (grid : Grid) → All (HasSizeOf grid) levels.made.items → All (HasSizeOf grid) levels.spare.items → All (HasSizeOf grid) new.spare.items

module _ (was : State) (net : Net) (levels : Levels) (others : List Placement) (kept : IsKept was net) (are : AreLevels was levels net) (last : IsLastOf was.grid net others levels.made.items)
    (there : State) (shape : SameShape was.grid there.grid) (entries_only : board_of there.grid ≡ record (board_of was.grid) { entries = (board_of there.grid).entries }) (words : there.words ≡ was.words)
    (now : State) (next : Net) (new : Levels) (watched : List Bool) (result : Outcome) (out : IsOutcome net levels there now next new watched result) where
  cells : SameCells (board_of there.grid) (board_of was.grid)
  cells = (ap (λ (b : Board). b.lights) entries_only, ap (λ (b : Board). b.open_cells) entries_only)

  -- where it leads
  stands : result ≡ stood → now ≡ there
  stands is = λ i. record { grid = out.grid is i; words = out.words i }

  falls : result ≢ stood → now ≡ was
  falls fell =
      let grid = (out.left fell others last.placement last.all_are).grid_is ∙ last.begun.grid_is in
      λ i. record { grid = grid i; words = (out.words ∙ words) i }

  stood_kept : result ≡ stood → IsKept now next
  stood_kept is = subst (λ state. IsKept state next) (sym (stands is)) (kept_from there next (out.settled is) (ap is_some out.none_waits ∙ kept.none_waits))

  fallen_kept : result ≢ stood → IsKept now next
  fallen_kept fell = subst (λ state. IsKept state next) (sym (falls fell)) (kept_from was next ((out.back fell).settled was kept.settled) (ap is_some out.none_waits ∙ kept.none_waits))

  stood_levels : result ≡ stood → AreLevels now new next
  stood_levels is =
      subst (λ state. AreLevels state new next) (sym (stands is))
      (levels_led was there levels others net are last shape cells words new next (out.made is others (last_in was there levels others net are last shape cells words))
      (spare_cleared was levels new net there.grid are out.spare (sym shape.cells)) out.seen)

  fallen_levels : result ≢ stood → AreLevels now new next
  fallen_levels fell =
      subst (λ state. AreLevels state new next) (sym (falls fell))
      (levels_left was there levels others net are last shape cells words new next (out.left fell others last.placement last.all_are).all_are (out.back fell).as_long
      (out.spare was.grid (made_sizes was levels net are) are.spare)
      (seen_moved (board_of there.grid) (board_of was.grid) (known_words was.words) new.trail.seen.items (sym cells.0) (sym cells.1) (subst (λ words. AreSeen (board_of there.grid) (known_words words) new.trail.seen.items) words out.seen)))

  by_outcome : (A : Type 0) → (result ≡ stood → A) → (result ≢ stood → A) → A
  by_outcome A stands falls = split result refl where
    split : (r : Outcome) → result ≡ r → A
    split (Ok None) is = stands is
    split (Ok (Some light)) is = falls (λ e. not_dead light (sym is ∙ e))
    split (Err failed) is = falls (λ e. not_failed failed (sym is ∙ e))

  pub kept_then : IsKept now next
  kept_then = by_outcome (IsKept now next) stood_kept fallen_kept

  pub levels_then : AreLevels now new next
  levels_then = by_outcome (AreLevels now new next) stood_levels fallen_levels

  -- as many cells as before
  pub cells_then : length (sets_of net) ≡ length (sets_of next)
  cells_then = by_outcome (length (sets_of net) ≡ length (sets_of next))
      (λ is. kept_cells was net kept ∙ sym shape.cells ∙ ap (λ (state : State). length state.grid.squares) (sym (stands is)) ∙ sym (kept_cells now next kept_then))
      (λ fell. kept_cells was net kept ∙ ap (λ (state : State). length state.grid.squares) (sym (falls fell)) ∙ sym (kept_cells now next kept_then))

  module _ (action : Action) (made : after was action ≡ Ok there) where
    tried_for : (dead : Option ℕ) → result ≡ Ok dead → IsTried was action watched dead now
    tried_for None is = record {
      made = made ∙ ap Ok (sym (stands is));
      alive = λ light watch dies.
          let here : light < length (board_of now.grid).lights = omega (arith, dies.within, length-lights now.grid) in
          let emptied = out.alive is light watch (dead_emptied now next light kept_then.settled here dies.dead) in
          record {
            within = omega (arith, dies.within, ap (λ (state : State). length (lights_of state.grid)) (stands is), ap length shape.lights);
            dead = emptied_dead was net light kept.settled emptied;
          };
    }
    tried_for (Some light) is =
        let told = subst (λ r. IfOk r (λ dead. IfSome dead (λ light. (word : List ℕ) → ¬ IsFeasibleWord (board_of there.grid) there.words light word))) is out.dead in (
          falls (λ e. not_dead light (sym is ∙ e)),
          record {
            is_watched = subst (λ r. IfOk r (λ dead. IfSome dead (λ light. slice_index_or watched light false ≡ true))) is out.watched;
            there = there;
            made = made;
            dead = record { within = subst (λ r. IfOk r (λ dead. IfSome dead (λ light. light < length (lights_of there.grid)))) is out.within; dead = told };
          },
        )

    pub tried_then : (dead : Option ℕ) → result ≡ Ok dead → IsTried was action watched dead now
    tried_then dead is = tried_for dead is

  -- the levels
  pub states_then : states_before now.words new.made.items ≡ levels_after (states_before was.words others) was result
  states_then = split result refl where
    fallen : result ≢ stood → states_before now.words new.made.items ≡ states_before was.words others
    fallen fell = ap (λ (state : State). states_before state.words new.made.items) (falls fell) ∙ ap (states_before was.words) (out.left fell others last.placement last.all_are).all_are

    split : (r : Outcome) → result ≡ r → states_before now.words new.made.items ≡ levels_after (states_before was.words others) was r
    split (Ok None) is =
        let led = out.made is others (last_in was there levels others net are last shape cells words) in
        let here : state_before was.words led.placement ≡ was = λ i. record { grid = (led.same_grid last.placement last.all_are ∙ last.begun.grid_is) i; words = was.words } in
        ap (λ (state : State). states_before state.words new.made.items) (stands is)
        ∙ ap (λ words. states_before words new.made.items) words
        ∙ ap (states_before was.words) led.all_are
        ∙ map_push (state_before was.words) others led.placement
        ∙ ap (λ (state : State). states_before was.words others ++ state ∷ []) here
    split (Ok (Some light)) is = fallen (λ e. not_dead light (sym is ∙ e))
    split (Err failed) is = fallen (λ e. not_failed failed (sym is ∙ e))
