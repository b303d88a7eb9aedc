use Rattle.std.proofs.Common.{◌≡◌, ◌<◌, ℕ, true, false, None, Some, length, set, refl, sym, ap, ◌∙◌, arith}
use Rattle.std.specs.Prelude.{List, Option, is_some}
use Rattle.std.proofs.lemmas.Bool.{both_ways}
use Rattle.xw_grid.specs.declared.lights.Light.{Light}
use Rattle.xw_net.specs.Renumber.{same_before}
use Rattle.xw_net.specs.Worklist.{ListOfLights, Grows, Adds}
use Rattle.xw_net.proofs.Lists.ListsOfLights.{adds_none, adds_as, adds_insert, adds_start, adds_next, adds_end}
use Rattle.xw_net.proofs.seeds.mark_new.Goals as goal

pub loop-light-init : goal.loop-light-init
loop-light-init c = record {
  queue = adds_start (λ other. same_before c.args.before.now c.args.lights.now other ≡ None) c.args.queue.now;
  chain = adds_start (λ other. same_before c.args.before.now c.args.lights.now other ≡ None) c.args.chain.now;
}

module _ (before lights : List Light) (light : ℕ) where
  new_here : (old new : ListOfLights) → same_before before lights light ≡ None → light < length old.marks → new.marks ≡ set old.marks light true → Grows old new → Adds (λ other. (other ≡ light) × (same_before before lights other ≡ None)) old new
  new_here old new none lt marks grows =
      adds_as (λ other. other ≡ light) (λ other. (other ≡ light) × (same_before before lights other ≡ None)) old new
      (λ other e. (e, ap (same_before before lights) e ∙ none)) (λ other is. is.0) (adds_insert old new light lt marks grows)

  known_here : (list : ListOfLights) (same : ℕ) → same_before before lights light ≡ Some same → Adds (λ other. (other ≡ light) × (same_before before lights other ≡ None)) list list
  known_here list same some =
      adds_none (λ other. (other ≡ light) × (same_before before lights other ≡ None)) list (λ other is. let never : None ≡ Some same = sym is.1 ∙ ap (same_before before lights) is.0 ∙ some in cc)

-- a light is new if none of the same cells was found
none_found : (found : Option ℕ) → is_some found ≡ false → found ≡ None
none_found None is = refl
none_found (Some same) is = absurd (both_ways true is refl)

found_one : (found : Option ℕ) → is_some found ≡ true → (same : ℕ) × (found ≡ Some same)
found_one (Some same) is = (same, refl)
found_one None is = absurd (both_ways false refl is)

pub loop-light-preserved : goal.loop-light-preserved
loop-light-preserved c =
    let inv = c.loop-light.invariant in
    let none = sym c.same.ensures ∙ none_found c.same.result (sym c.if-is_some.ensures) in
    let in_list : c.loop-light.light < length c.args.lights.now = omega (arith, c.loop-light-test.true, c.loop-light.auto.light-end, c.len-light-end.ensures.len) in
    record {
      queue = adds_next (λ other. same_before c.args.before.now c.args.lights.now other ≡ None) c.loop-light.light c.args.queue.now c.loop-light.queue c.insert.new.self inv.queue
          (new_here c.args.before.now c.args.lights.now c.loop-light.light c.loop-light.queue c.insert.new.self none (omega (arith, in_list, c.requires.queue, inv.queue.grows.size)) c.insert.ensures.marks c.insert.ensures.grows);
      chain = adds_next (λ other. same_before c.args.before.now c.args.lights.now other ≡ None) c.loop-light.light c.args.chain.now c.loop-light.chain c.insert-in-loop-light.new.self inv.chain
          (new_here c.args.before.now c.args.lights.now c.loop-light.light c.loop-light.chain c.insert-in-loop-light.new.self none (omega (arith, in_list, c.requires.chain, inv.chain.grows.size)) c.insert-in-loop-light.ensures.marks c.insert-in-loop-light.ensures.grows);
    }

pub loop-light-preserved-then-is_some : goal.loop-light-preserved-then-is_some
loop-light-preserved-then-is_some c =
    let inv = c.loop-light.invariant in
    let one = found_one c.same.result (sym c.if-is_some.ensures) in
    let some = sym c.same.ensures ∙ one.1 in
    record {
      queue = adds_next (λ other. same_before c.args.before.now c.args.lights.now other ≡ None) c.loop-light.light c.args.queue.now c.loop-light.queue c.loop-light.queue inv.queue (known_here c.args.before.now c.args.lights.now c.loop-light.light c.loop-light.queue one.0 some);
      chain = adds_next (λ other. same_before c.args.before.now c.args.lights.now other ≡ None) c.loop-light.light c.args.chain.now c.loop-light.chain c.loop-light.chain inv.chain (known_here c.args.before.now c.args.lights.now c.loop-light.light c.loop-light.chain one.0 some);
    }

pub returns-clause-queue : goal.returns-clause-queue
returns-clause-queue c =
    adds_end (λ other. same_before c.args.before.now c.args.lights.now other ≡ None) c.loop-light.light (length c.args.lights.now) c.args.queue.now c.loop-light.queue (omega (arith, c.loop-light-test.false, c.loop-light.auto.light-end, c.len-light-end.ensures.len)) c.loop-light.invariant.queue

pub returns-clause-chain : goal.returns-clause-chain
returns-clause-chain c =
    adds_end (λ other. same_before c.args.before.now c.args.lights.now other ≡ None) c.loop-light.light (length c.args.lights.now) c.args.chain.now c.loop-light.chain (omega (arith, c.loop-light-test.false, c.loop-light.auto.light-end, c.len-light-end.ensures.len)) c.loop-light.invariant.chain
