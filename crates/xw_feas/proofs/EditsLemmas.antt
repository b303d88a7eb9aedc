-- A list of edits, run up to an edit and one further.
use Rattle.std.proofs.Common.{◌≡◌, ℕ, ◌+◌, ◌<◌, ◌≤◌, cond, List, [], ◌∷◌, ◌++◌, map, take, length, get_or, refl, sym, ◌∙◌, ap, subst, arith, Some, None, inl, inr, ◌⊎◌}
use Rattle.std.specs.Prelude.{Result, Ok, Err, is_err, IsOk, IfErr, IsErrAnd}
use Rattle.std.proofs.lemmas.List.{take_more, take_all, map_push}
use Rattle.xw_feas.specs.State.{State, Action, after, want_of, action_of, IsRefused, IsAfter, done, accepted, skipped, with_grid, by_fault, block_toggled}
use Rattle.xw_feas.specs.Shape.{IsGridRefused}
use Rattle.xw_grid.specs.declared.cell.Cell.{Cell}
use Rattle.xw_grid.specs.declared.fault.GridFault.{GridFault}
use Rattle.xw_grid.specs.declared.fault.GridFault.TheVariants as grids
use Rattle.xw_grid.specs.Grid.{Grid}
use Rattle.xw_grid.specs.Edit.{toggle_block}
use Rattle.xw_feas.specs.declared.edit.Refusal.TheVariants as refusals
use Rattle.xw_feas.specs.Feasible.{Answers}
use Rattle.xw_feas.specs.Engine.{IsEdited}
use Rattle.xw_feas.specs.Placings.{placings, placed_after}
use Rattle.xw_feas.specs.declared.changed.Changed.{Changed}
use Rattle.xw_feas.specs.declared.edit.Edit.{Edit}
use Rattle.xw_feas.specs.declared.edit.Refusal.{Refusal}

then_accepted : (before now next : State) (actions : List Action) (refused : ℕ) (action : Action) → IsAfter before actions refused now → after now action ≡ Ok next → IsAfter before (actions ++ action ∷ []) refused next
then_accepted _ _ next _ _ action (done state) ok = accepted state next next action [] 0 ok (done next)
then_accepted _ _ next _ _ action (accepted state second last first actions refused e rest) ok = accepted state second next first (actions ++ action ∷ []) refused e (then_accepted second last next actions refused action rest ok)
then_accepted _ _ next _ _ action (skipped state last first actions refusal refused e rest) ok = skipped state next first (actions ++ action ∷ []) refusal refused e (then_accepted state last next actions refused action rest ok)

then_skipped : (before now : State) (actions : List Action) (refused : ℕ) (action : Action) (refusal : Refusal) → IsAfter before actions refused now → IsRefused now action refusal → IsAfter before (actions ++ action ∷ []) (refused + 1) now
then_skipped _ _ _ _ action refusal (done state) stays = skipped state state action [] refusal 0 stays (done state)
then_skipped _ _ _ _ action refusal (accepted state second last first actions refused e rest) stays = accepted state second last first (actions ++ action ∷ []) (refused + 1) e (then_skipped second last actions refused action refusal rest stays)
then_skipped _ _ _ _ action refusal (skipped state last first actions refusal' refused e rest) stays = skipped state last first (actions ++ action ∷ []) refusal' (refused + 1) e (then_skipped state last actions refused action refusal rest stays)

-- the first n edits lead from one state to another, with this number of refusals
pub record LeadsUpTo (edits : List Edit) (before now : State) (refused : ℕ) (n : ℕ) : Type 0 where
  pub few : refused ≤ n
  pub state : IsAfter before (map action_of (take n edits)) refused now

pub LeadsUpTo-start : (edits : List Edit) (before : State) → LeadsUpTo edits before before 0 0
LeadsUpTo-start edits before = record { few = omega arith; state = done before }

-- the edit at an index as the next action
more_actions : (edits : List Edit) (n : ℕ) (edit : Edit) → n < length edits → edit ≡ get_or edits n edit → map action_of (take (n + 1) edits) ≡ map action_of (take n edits) ++ action_of edit ∷ []
more_actions edits n edit below is =
    ap (map action_of) (take_more edits n edit below ∙ ap (λ e. take n edits ++ e ∷ []) (sym is))
    ∙ map_push action_of (take n edits) edit

-- the same from what an engine ensures about an edit
pub LeadsUpTo-edit : (edits : List Edit) (before now after_it : State) (answers answers_after : Answers) (refused n : ℕ) (edit : Edit) (result : Result Changed Refusal) → n < length edits → edit ≡ get_or edits n edit → LeadsUpTo edits before now refused n → IsEdited now answers (action_of edit) result after_it answers_after → LeadsUpTo edits before after_it (refused + cond {A = ℕ} (is_err result) 1 0) (n + 1)
LeadsUpTo-edit edits before now after_it answers answers_after refused n edit (Ok changed) below is so_far edited =
    let plus : refused ≡ refused + 0 = omega arith in
    record {
      few = omega (arith, so_far.few);
      state = subst (λ m. IsAfter before (map action_of (take (n + 1) edits)) m after_it) plus (subst (λ actions. IsAfter before actions refused after_it) (sym (more_actions edits n edit below is)) (then_accepted before now after_it (map action_of (take n edits)) refused (action_of edit) so_far.state edited.state));
    }
LeadsUpTo-edit edits before now after_it answers answers_after refused n edit (Err refusal) below is so_far edited =
    record {
      few = omega (arith, so_far.few);
      state = subst (λ state. IsAfter before (map action_of (take (n + 1) edits)) (refused + 1) state) (sym edited.state) (subst (λ actions. IsAfter before actions (refused + 1) now) (sym (more_actions edits n edit below is)) (then_skipped before now (map action_of (take n edits)) refused (action_of edit) refusal so_far.state edited.rule));
    }

pub IsAfter-all : (edits : List Edit) (before now : State) (refused n : ℕ) → length edits ≤ n → LeadsUpTo edits before now refused n → IsAfter before (map action_of edits) refused now
IsAfter-all edits before now refused n all so_far = subst (λ es. IsAfter before (map action_of es) refused now) (take_all n edits all) so_far.state

-- a refusal of the grid's change is a refusal of the edit
grid_refused : (state : State) (result : Result Grid GridFault) (fault : GridFault) → IsGridRefused result fault → (with_grid state (by_fault result) ≡ Err (refusals.Grid fault)) ⊎ (IsOk (with_grid state (by_fault result)) × (Some (refusals.Grid grids.Memory) ≡ Some (refusals.Grid fault)))
grid_refused state (Ok grid) fault (inl refused) = absurd cc
grid_refused state (Ok grid) fault (inr (ok, memory)) = inr (ok, ap (λ f. Some (refusals.Grid f)) (sym memory))
grid_refused state (Err other) fault (inl refused) = inl (let e : other ≡ fault = cc in ap (λ f. Err (refusals.Grid f)) e)
grid_refused state (Err other) fault (inr (ok, memory)) = cc

pub block_refused : (state : State) (cell : Cell) (fault : GridFault) → IsGridRefused (toggle_block state.grid cell) fault → IsRefused state (block_toggled cell) (refusals.Grid fault)
block_refused state cell fault refused = grid_refused state (toggle_block state.grid cell) fault refused

pub refusal_made : {X : Type 0} (result : Result X Refusal) (refusal : Refusal) (P : Refusal → Type 0) → IsErrAnd result (λ made. made ≡ refusal) → P refusal → IfErr result P
refusal_made (Ok x) refusal P made holds = tt
refusal_made (Err other) refusal P made holds = subst P (sym made) holds

-- an edit that no rule refuses, and that does not allocate, leads where the rule says
pub edit_done : (before now target : State) (answers_before answers_now : Answers) (action : Action) (result : Result Changed Refusal) → after before action ≡ Ok target → want_of before action ≡ None → IsEdited before answers_before action result now answers_now → now ≡ target
edit_done before now target answers_before answers_now action (Ok changed) e none edited = let is = edited.state in cc
edit_done before now target answers_before answers_now action (Err refusal) e none edited = by_rule edited.rule where
  by_rule : (after before action ≡ Err refusal) ⊎ (IsOk (after before action) × (want_of before action ≡ Some refusal)) → now ≡ target
  by_rule (inl h) = cc
  by_rule (inr h) = let wanted = h.1 in cc

-- it counts what it places
pub edit_counted : (before now target : State) (answers_before answers_now : Answers) (action : Action) (placed : ℕ) (result : Result Changed Refusal) → after before action ≡ Ok target → want_of before action ≡ None → IsEdited before answers_before action result now answers_now → placed_after placed action result ≡ placings action + placed
edit_counted before now target answers_before answers_now action placed (Ok changed) e none edited = refl
edit_counted before now target answers_before answers_now action placed (Err refusal) e none edited = absurd (by_rule edited.rule) where
  by_rule : (after before action ≡ Err refusal) ⊎ (IsOk (after before action) × (want_of before action ≡ Some refusal)) → ⊥
  by_rule (inl h) = let both = sym h ∙ e in cc
  by_rule (inr h) = let both = sym h.1 ∙ none in cc
