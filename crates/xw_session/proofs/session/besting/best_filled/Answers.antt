use Rattle.std.proofs.Common.{◌≡◌, ℕ, Bool, List, ◌∙◌, ap, subst, arith}
use Rattle.std.specs.Prelude.{IfOk, IfErr, Result, Ok, Err}
use Rattle.xw_grid.specs.declared.cell.LightName.{LightName}
use Rattle.xw_search.specs.NamedFill.{IsRefusal, is_named}
use Rattle.xw_best.specs.Best.{IsBest}
use Rattle.xw_best.specs.OneSearch.{IsOfOneSearch, IsBestWithin}
use Rattle.xw_search.specs.declared.allowance.Allowance.{Allowance}
use Rattle.xw_best.specs.declared.best.Best.{Best}
use Rattle.xw_best.specs.declared.best.Best.TheVariants.{Limit}
use Rattle.xw_feas.specs.State.{State}
use Rattle.xw_feas.specs.declared.edit.Refusal.{Refusal}
use Rattle.xw_session.proofs.Naming.{on_ok, unsearched}
use Rattle.xw_session.proofs.session.besting.best_filled.Goals as goal

pub returns-clause-ok : goal.returns-clause-ok
returns-clause-ok g c =
    let before = g.E.Feasible.state c.args.engine.now in
    subst (λ (names : List LightName). IfOk c.best_fill.result (IsBest (is_named before names) before (g.E.Feasible.state c.best_fill.new.engine))) (c.as_slice.ensures.value ∙ c.in_ok-names.ensures.ok) c.best_fill.ensures.ok

-- the answer of a search whose allowance was unused
within : {E S : Type 0} (state : E → State) (saved : S → State) (named : ℕ → Bool) (before after : E) (limit : ℕ) (from to : Allowance) (result : Result Best Refusal) → from.made ≡ 0 → from.limit ≡ limit → to.limit ≡ from.limit
    → IfOk result (IsOfOneSearch state saved named before after from to) → ((bound : ℕ) → result ≡ Ok (Limit bound) → to.made ≡ to.limit) → IfOk result (IsBestWithin state saved named before after limit)
within state saved named before after limit from to (Ok best) unused all same one spent = record { from = from; to = to; unused = unused; all = all; one = one; spent = λ bound is. spent bound (ap Ok is) ∙ same ∙ all }
within state saved named before after limit from to (Err refusal) unused all same one spent = tt

pub returns-clause-within : goal.returns-clause-within
returns-clause-within g c =
    let state = g.E.Feasible.state in
    let saved = g.E.Searchable.saved in
    let before = c.args.engine.now in
    let after = c.best_fill.new.engine in
    let from = c.new-allowance.result in
    let to = c.best_fill.new.allowance in
    let one = subst (λ (names : List LightName). IfOk c.best_fill.result (IsOfOneSearch state saved (is_named (state before) names) before after from to)) (c.as_slice.ensures.value ∙ c.in_ok-names.ensures.ok) c.best_fill.ensures.one in
    within state saved _ before after c.args.limit from to c.best_fill.result c.new-allowance.ensures.made c.new-allowance.ensures.limit c.best_fill.ensures.counted.limit one c.best_fill.ensures.limit

pub returns-clause-known : goal.returns-clause-known
returns-clause-known g c = on_ok c.best_fill.result c.in_ok-names.ensures.known

pub returns-clause-refused : goal.returns-clause-refused
returns-clause-refused g c =
    let before = g.E.Feasible.state c.args.engine.now in
    let names = c.as_slice.ensures.value ∙ c.in_ok-names.ensures.ok in
    unsearched before _ c.best_fill.result c.in_ok-names.ensures.known (subst (λ (names : List LightName). IfErr c.best_fill.result (IsRefusal before names)) names c.best_fill.ensures.refused)

pub returns-clause-idle : goal.returns-clause-idle
returns-clause-idle g c none =
    let made = c.best_fill.new.allowance in
    c.best_fill.ensures.counted.idle (omega (arith, none, c.best_fill.ensures.counted.limit, c.new-allowance.ensures.made, c.new-allowance.ensures.limit, made.within, made.shared))

pub returns-clause-placed : goal.returns-clause-placed
returns-clause-placed g c =
    let made = c.best_fill.new.allowance in
    omega (arith, c.best_fill.ensures.within, c.best_fill.ensures.counted.limit, c.new-allowance.ensures.made, c.new-allowance.ensures.limit, made.within, made.shared)

pub returns-in_err-names-clause-placed : goal.returns-in_err-names-clause-placed
returns-in_err-names-clause-placed g c = omega arith
