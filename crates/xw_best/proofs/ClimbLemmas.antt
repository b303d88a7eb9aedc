-- The search for the best fill.
use Rattle.std.proofs.Common.{◌≡◌, ℕ, suc, length, ◌<◌, ◌≤◌, Bool, true, List, [], Option, Some, None, cond, refl, sym, ◌∙◌, ap, subst, arith, inl, inr}
use Rattle.std.specs.Prelude.{replicate, IfSome, nat_le}
use Rattle.std.proofs.lemmas.Bool.{le-leb}
use Rattle.std.proofs.lemmas.List.{get_or-replicate}
use Rattle.xw_words.specs.Dictionary.{best_grade}
use Rattle.xw_feas.specs.State.{State}
use Rattle.xw_feas.specs.Snapshot.{IsTwin}
use Rattle.xw_feas.specs.WellFormed.{IsWellFormed}
use Rattle.xw_search.specs.Position.{position_of}
use Rattle.xw_search.specs.Lights.{light_count}
use Rattle.xw_search.specs.NamedFill.{flags, AreFlags, IsFillOf}
use Rattle.xw_best.specs.Best.{at_least, IsFillAt, HasNoneAt, IsBound, IsFilledAt, IsBest}
use Rattle.xw_best.specs.OneSearch.{IsOfOneSearch}
use Rattle.xw_best.specs.declared.best.Best.{Best}
use Rattle.xw_best.specs.declared.best.Best.TheVariants.{Filled, NoFill, Limit}
use Rattle.xw_best.specs.Inner.Climbing.{grade_sum, IsProber, IsProbed, IsBetter, IsClimbing, IsOffered, HasClimbed, IsAtLeast, IsTaken, grade_above, next_grade, work_left, best_of}
use Rattle.xw_search.specs.declared.allowance.Allowance.{Allowance}
use Rattle.xw_best.specs.declared.best.probe.Prober.{Prober}
use Rattle.xw_best.specs.declared.best.probe.Probe.{Probe}
use Rattle.xw_best.specs.declared.best.probe.Probe.TheVariants as probes
use Rattle.xw_best.specs.declared.best.climb.Climb.{Climb}
use Rattle.xw_search.specs.declared.plan.Plan.{Plan}
use Rattle.xw_feas.proofs.BoardLemmas.{length-lights}
use Rattle.xw_feas.proofs.SnapshotLemmas.{IsTwin-turned}
use Rattle.xw_best.proofs.LeastLemmas.{at_least-same, least_within}
use Rattle.xw_search.proofs.StateLemmas.{filled_twin}
use Rattle.xw_best.proofs.GradeLemmas.{none_up}
use Rattle.xw_search.proofs.Naming.{fill_same}

-- where the bound is no greater than the least grade, there is no fill
pub none_left : (named : ℕ → Bool) (state : State) (bound : ℕ) → IsWellFormed state → IsBound named state bound → bound ≤ state.words.least → (entries : List (Option ℕ)) → IsFillOf named (position_of state) entries → ⊥
none_left named state bound formed is below entries fill =
    let within = least_within state formed in
    none_up named state bound state.words.least below (is.none (omega (arith, below, within))) entries
    (subst (λ (s : State). IsFillOf named (position_of s) entries) (sym (at_least-same state formed)) fill)

-- the state with a fill is a twin of the state before
pub filled_at_twin : (named : ℕ → Bool) (before after : State) (grade : ℕ) → IsFilledAt named before after grade → IsTwin before after
filled_at_twin named before after grade is = subst (IsTwin before) (sym is.holds) (filled_twin before is.entries)

-- what a prober found, as the search has it
pub known_probed : {E S : Type 0} (saved : S → State) (climb : Climb E S) (prober : Prober) (start after : State) (probe : Probe) → IsClimbing saved climb start → prober.plan ≡ climb.prober.plan → IsProbed (flags climb.prober.plan.named.items) start climb.prober.least after probe → IsProbed (flags prober.plan.named.items) (saved climb.start) climb.prober.least after probe
known_probed saved climb prober start after probe is plan found =
    subst (λ (s : State). IsProbed (flags prober.plan.named.items) s climb.prober.least after probe) (sym is.began)
    (subst (λ (p : Plan). IsProbed (flags p.named.items) start climb.prober.least after probe) (sym plan) found)

-- the same climb with a prober that has served one more probe, and with what another one has counted
pub probed : {E S : Type 0} (saved : S → State) (climb other : Climb E S) (prober : Prober) (start : State) → IsClimbing saved climb start → IsProber prober start → prober.plan ≡ climb.prober.plan → prober.fresh ≡ climb.prober.fresh → IsClimbing saved (record climb { prober = prober; counted = other.counted }) start
probed saved climb other prober start is served same fresh = record {
  prober = served;
  began = is.began;
  best = is.best;
  found = subst (λ (plan : Plan). IfSome climb.found (IsFilledAt (flags plan.named.items) start (saved climb.best))) (sym same) is.found;
  sum = subst (λ (list : List Bool). IfSome climb.found (λ grade. climb.sum ≡ grade_sum (flags list) (saved climb.best))) (sym (ap (λ vec. vec.items) fresh)) is.sum;
  bound = subst (λ (plan : Plan). IsBound (flags plan.named.items) start climb.bound) (sym same) is.bound;
}

-- a better bound
pub bounded : {E S : Type 0} (saved : S → State) (climb : Climb E S) (grade : ℕ) (start : State) → IsClimbing saved climb start → grade ≤ best_grade → HasNoneAt (flags climb.prober.plan.named.items) start grade → IsClimbing saved (record climb { bound = grade }) start
bounded saved climb grade start is within none = record {
  prober = is.prober;
  began = is.began;
  best = is.best;
  found = is.found;
  sum = is.sum;
  bound = record { within = omega (arith, within); none = λ below. none };
}

-- another fill
pub found_more : {E S : Type 0} (saved : S → State) (climb : Climb E S) (best_now : S) (grade sum : ℕ) (start filled : State) → IsClimbing saved climb start → IsFilledAt (flags climb.prober.plan.named.items) start filled grade → sum ≡ grade_sum (flags climb.prober.fresh.items) filled → saved best_now ≡ filled
    → IsClimbing saved (record climb { best = best_now; found = Some grade; sum = sum }) start
found_more saved climb best_now grade sum start filled is fill total best_is = record {
  prober = is.prober;
  began = is.began;
  best = subst (λ s. IsTwin s start) (sym best_is) (IsTwin-turned start filled (filled_at_twin (flags climb.prober.plan.named.items) start filled grade fill));
  found = subst (λ s. IsFilledAt (flags climb.prober.plan.named.items) start s grade) (sym best_is) fill;
  sum = subst (λ s. sum ≡ grade_sum (flags climb.prober.fresh.items) s) (sym best_is) total;
  bound = is.bound;
}

-- another snapshot of the start
pub restarted : {E S : Type 0} (saved : S → State) (climb : Climb E S) (start_now : S) (start : State) → IsClimbing saved climb start → saved start_now ≡ saved climb.start → IsClimbing saved (record climb { start = start_now }) start
restarted saved climb start_now start is same = record { prober = is.prober; began = same ∙ is.began; best = is.best; found = is.found; sum = is.sum; bound = is.bound }

-- a fill has as many lights as the start
pub filled_lights : (before after : State) → IsTwin before after → light_count (position_of after) ≡ light_count (position_of before)
filled_lights before after twin = length-lights after.grid ∙ ap length twin.shape.lights ∙ sym (length-lights before.grid)

-- ---- better fills

-- a fill that is new has no word below the least grade
pub next_above : (named : ℕ → Bool) (start best : State) (found : Option ℕ) (least : ℕ) → least ≡ start.words.least → IfSome found (IsFilledAt named start best) → least ≤ grade_above found least
next_above named start best None least same is = omega arith
next_above named start best (Some grade) least same is = omega (arith, is.left, same)

-- a fill whose worst word is better
better_above : (found : Option ℕ) (was least worst sum : ℕ) → grade_above found least ≤ worst → IsBetter found was worst sum
better_above None was least worst sum above = tt
better_above (Some grade) was least worst sum above = inl (omega (arith, above))

-- a fill whose worst word is better is kept
pub offered_found : {E S : Type 0} (saved : S → State) (before now : Climb E S) (filled : State) (worst sum : ℕ) → IsOffered saved before now filled worst sum → next_grade before ≤ worst → now.found ≡ Some worst
offered_found saved before now filled worst sum offered above = elim offered [
  | inl kept ↦ kept.1
  | inr left ↦ absurd (left.0 (better_above before.found before.sum before.prober.least worst sum above))
]

-- a better fill has no worse word, and no smaller sum if its worst word has the same grade
gets_better : (found : Option ℕ) (was least worst sum : ℕ) → IsBetter found was worst sum → least ≤ worst → (grade_above found least ≤ suc worst) × (suc worst ≡ grade_above found least → was ≤ sum)
gets_better None was least worst sum better above = (omega (arith, above), λ same. absurd (omega (arith, above, same)))
gets_better (Some grade) was least worst sum (inl over) above = (omega (arith, over), λ same. absurd (omega (arith, over, same)))
gets_better (Some grade) was least worst sum (inr even) above = (omega (arith, even.0), λ same. omega (arith, even.1))

-- ---- what a step keeps

-- a step that found nothing
pub climbed_same : {E S : Type 0} (saved : S → State) (before now : Climb E S) (from to : Allowance) → now.prober.plan ≡ before.prober.plan → now.prober.least ≡ before.prober.least → now.found ≡ before.found → now.sum ≡ before.sum → now.bound ≡ before.bound
    → saved now.best ≡ saved before.best → saved now.start ≡ saved before.start → from.made ≤ to.made → to.limit ≡ from.limit → now.counted.value.made ≡ to.made → HasClimbed saved before now from to
climbed_same saved before now from to plan least found sum bound best start made limit counted = record {
  plan = plan;
  least = least;
  found = omega (arith, ap (λ f. grade_above f now.prober.least) found, ap (grade_above before.found) least);
  sum = λ same. omega (arith, sum);
  bound = omega (arith, bound);
  made = made;
  limit = limit;
  counted = counted;
  idle = λ none was. subst (λ f. IfSome f (λ grade. saved now.best ≡ saved now.start)) (sym found) (subst (λ s. IfSome before.found (λ grade. s ≡ saved now.start)) (sym best) (subst (λ s. IfSome before.found (λ grade. saved before.best ≡ s)) (sym start) was));
}

-- a step that found a better bound
pub climbed_bound : {E S : Type 0} (saved : S → State) (climb : Climb E S) (grade : ℕ) (from to : Allowance) → grade < climb.bound → from.made ≤ to.made → to.limit ≡ from.limit → climb.counted.value.made ≡ to.made → HasClimbed saved climb (record climb { bound = grade }) from to
climbed_bound saved climb grade from to below made limit counted = record {
  plan = refl;
  least = refl;
  found = omega arith;
  sum = λ same. omega arith;
  bound = omega (arith, below);
  made = made;
  limit = limit;
  counted = counted;
  idle = λ none was. was;
}

-- a step that found a fill, which is kept if it is better
pub climbed_offered : {E S : Type 0} (saved : S → State) (before now : Climb E S) (filled : State) (worst sum : ℕ) (from to : Allowance) → IsOffered saved before now filled worst sum → before.prober.least ≤ worst → now.prober ≡ before.prober → now.bound ≡ before.bound
    → saved now.start ≡ saved before.start → from.made ≤ to.made → to.limit ≡ from.limit → now.counted.value.made ≡ to.made → (to.made ≡ from.made → filled ≡ saved before.start) → HasClimbed saved before now from to
climbed_offered {E} {S} saved before now filled worst sum from to offered above prober bound start made limit counted idle = elim offered [
  | inl kept ↦
      let better = gets_better before.found before.sum before.prober.least worst sum kept.0 above in
      let next : next_grade now ≡ suc worst = ap (λ f. grade_above f now.prober.least) kept.1 in
      record {
        plan = ap (λ (p : Prober). p.plan) prober;
        least = ap (λ (p : Prober). p.least) prober;
        found = omega (arith, better.0, next);
        sum = λ same. omega (arith, better.1 (sym next ∙ same), kept.2);
        bound = omega (arith, bound);
        made = made;
        limit = limit;
        counted = counted;
        idle = λ none was. subst (λ f. IfSome f (λ n. saved now.best ≡ saved now.start)) (sym kept.1) (kept.3 ∙ idle none ∙ sym start);
      }
  | inr left ↦ climbed_same saved before now from to (ap (λ (p : Prober). p.plan) prober) (ap (λ (p : Prober). p.least) prober) left.1 left.2 bound left.3 start made limit counted
]

-- one step after another
pub climbed-then : {E S : Type 0} (saved : S → State) (before between now : Climb E S) (from through to : Allowance) → HasClimbed saved before between from through → HasClimbed saved between now through to → HasClimbed saved before now from to
climbed-then saved before between now from through to first next = record {
  plan = next.plan ∙ first.plan;
  least = next.least ∙ first.least;
  found = omega (arith, first.found, next.found);
  sum = λ same. omega (arith, first.sum (omega (arith, first.found, next.found, same)), next.sum (omega (arith, first.found, next.found, same)));
  bound = omega (arith, first.bound, next.bound);
  made = omega (arith, first.made, next.made);
  limit = next.limit ∙ first.limit;
  counted = next.counted;
  idle = λ none was. next.idle (omega (arith, first.made, next.made, none)) (first.idle (omega (arith, first.made, next.made, none)) was);
}

-- a step after another one, where placements were made before
pub climbed_on : {E S : Type 0} (saved : S → State) (before between now : Climb E S) (from through to : Allowance) → HasClimbed saved before between through to → HasClimbed saved between now from to → from.made < through.made → HasClimbed saved before now from to
climbed_on saved before between now from through to first next more = record {
  plan = next.plan ∙ first.plan;
  least = next.least ∙ first.least;
  found = omega (arith, first.found, next.found);
  sum = λ same. omega (arith, first.sum (omega (arith, first.found, next.found, same)), next.sum (omega (arith, first.found, next.found, same)));
  bound = omega (arith, first.bound, next.bound);
  made = next.made;
  limit = next.limit;
  counted = next.counted;
  idle = λ none was. absurd (omega (arith, first.made, more, none));
}

-- a step, whatever was counted before
pub climbed_from : {E S : Type 0} (saved : S → State) (before other now : Climb E S) (from to : Allowance) → HasClimbed saved (record before { counted = other.counted }) now from to → HasClimbed saved before now from to
climbed_from saved before other now from to is = record { plan = is.plan; least = is.least; found = is.found; sum = is.sum; bound = is.bound; made = is.made; limit = is.limit; counted = is.counted; idle = is.idle }

-- the grade of a fill that was found
abbrev told_grade : Probe → ℕ
told_grade (probes.Filled least) = least
told_grade probes.NoFill = 0
told_grade probes.Limit = 0

pub same_grade : (one other : ℕ) → probes.Filled one ≡ probes.Filled other → one ≡ other
same_grade one other is = ap told_grade is

-- ---- how much is left

-- no step leaves more to do
pub work_kept : {E S : Type 0} (saved : S → State) (before now : Climb E S) (from to : Allowance) → HasClimbed saved before now from to → work_left now to ≤ work_left before from
work_kept saved before now from to climbed = omega (arith, climbed.found, climbed.bound, climbed.made, climbed.limit)

-- a step that makes a placement leaves less to do
pub work_made : {E S : Type 0} (saved : S → State) (before now : Climb E S) (from to : Allowance) → HasClimbed saved before now from to → from.made < to.made → work_left now to < work_left before from
work_made saved before now from to climbed more = omega (arith, climbed.found, climbed.bound, climbed.made, climbed.limit, more, to.within, to.shared)

-- a step that may make a placement leaves less to do
pub work_done : {E S : Type 0} (saved : S → State) (before now : Climb E S) (from to : Allowance) (grade : ℕ) (probe : Probe) → HasClimbed saved before now from to → next_grade before ≤ grade → grade < before.bound → from.made < to.until → IsAtLeast grade probe → IsTaken grade before now to probe
    → work_left now to < work_left before from
work_done saved before now from to grade (probes.Filled least) climbed new below share above taken =
    omega (arith, climbed.made, climbed.limit, new, below, above.0, taken.1, ap (λ f. grade_above f now.prober.least) taken.0)
work_done saved before now from to grade probes.NoFill climbed new below share above taken =
    omega (arith, climbed.made, climbed.limit, climbed.found, new, below, taken.1)
work_done saved before now from to grade probes.Limit climbed new below share above taken =
    omega (arith, climbed.limit, climbed.found, climbed.bound, taken.2, share, to.within, to.shared)

-- a search that can find no better fill answers no Limit
pub no_limit : (found : Option ℕ) (least bound told : ℕ) → bound ≤ grade_above found least → best_of found least bound ≡ Limit told → ⊥
no_limit (Some grade) least bound told over is = cc
no_limit None least bound told over is =
    let below : nat_le bound least ≡ true = le-leb bound least over in
    let e : NoFill ≡ Limit told = sym (ap (λ b. cond b NoFill (Limit bound)) below) ∙ is in
    cc

-- ---- the named lights

-- what holds for some lights holds for the same lights
module _ (f g : ℕ → Bool) (before : State) (same : (light : ℕ) → light < light_count (position_of before) → f light ≡ g light) where
  back : (light : ℕ) → light < light_count (position_of before) → g light ≡ f light
  back light in_grid = sym (same light in_grid)

  fill_at_same : (grade : ℕ) (entries : List (Option ℕ)) → IsFillAt f before grade entries → IsFillAt g before grade entries
  fill_at_same grade entries = fill_same f g (position_of (at_least before grade)) same entries

  fill_at_back : (grade : ℕ) (entries : List (Option ℕ)) → IsFillAt g before grade entries → IsFillAt f before grade entries
  fill_at_back grade entries = fill_same g f (position_of (at_least before grade)) back entries

  bound_same : (bound : ℕ) → IsBound f before bound → IsBound g before bound
  bound_same bound is = record {
    within = is.within;
    none = λ below entries fill. is.none below entries (fill_at_back bound entries fill);
  }

  pub best_same : (after : State) (best : Best) → IsBest f before after best → IsBest g before after best
  best_same after (Filled least bound) is =
      let filled = is.0 in (
        record {
          entries = filled.entries;
          fill = fill_at_same least filled.entries filled.fill;
          left = filled.left;
          graded = filled.graded;
          greatest = λ grade above within fill. filled.greatest grade above within (fill_at_back grade filled.entries fill);
          holds = filled.holds;
        },
        bound_same bound is.1,
      )
  best_same after NoFill is = (λ entries fill. is.0 entries (fill_same g f (position_of before) back entries fill), is.1)
  best_same after (Limit bound) is = (is.0, bound_same bound is.1, is.2)

pub one_same : {E S : Type 0} (state : E → State) (saved : S → State) (f g : ℕ → Bool) (before after : E) (from to : Allowance) (best : Best) → ((light : ℕ) → light < light_count (position_of (state before)) → f light ≡ g light)
    → IsOfOneSearch state saved f before after from to best → IsOfOneSearch state saved g before after from to best
one_same state saved f g before after from to best same is = record {
  first = is.first;
  last = is.last;
  began = is.began;
  lights = λ light in_grid. is.lights light in_grid ∙ same light in_grid;
  empty = is.empty;
  own = is.own;
  climbed = is.climbed;
  ended = is.ended;
  answer = is.answer;
  entered = is.entered;
}

-- a flag for each light is a flag for each named light, if an empty list names all lights
pub all_are_flags : (state : State) (list : List Bool) → list ≡ replicate (light_count (position_of state)) true → AreFlags state [] list
all_are_flags state list is light in_grid =
    ap (λ flagged. flags flagged light) is ∙ get_or-replicate (light_count (position_of state)) light true _ (subst (λ n. light < n) (sym (length-lights state.grid)) in_grid)
