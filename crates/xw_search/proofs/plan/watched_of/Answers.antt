use Rattle.std.proofs.Common.{◌≡◌, ◌∙◌, ◌+◌, sym, ap, arith, ◌||◌, length, [], ◌∷◌, ◌++◌, if◌then◌else◌}
use Rattle.std.specs.Result.{is_ok}
use Rattle.std.proofs.lemmas.List.{length_push}
use Rattle.xw_search.specs.Position.{position_of}
use Rattle.xw_search.specs.NamedFill.{flags}
use Rattle.xw_search.specs.Progress.{is_watched, has_target}
use Rattle.xw_search.proofs.PlanLemmas.{flags_more}
use Rattle.xw_search.proofs.plan.watched_of.Goals.{then-is_flagged, else-is_flagged}
use Rattle.xw_search.proofs.plan.watched_of.Goals as goal

pub loop-light-init : goal.loop-light-init
loop-light-init g c = record {
  long = ap length c.new-watched.ensures.items;
  are = λ k below. absurd (omega arith);
}

pub loop-light-preserved : goal.loop-light-preserved
loop-light-preserved g c =
    let named = flags c.args.named.now in
    let position = position_of (g.E.Feasible.state c.args.engine.now) in
    let light = c.loop-light.light in
    let before = c.loop-light.watched.items in
    let flag = c.if-is_flagged.flag in
    let is_pushed = ap is_ok c.in_ok-push.was in
    let items : c.push.new.self.items ≡ before ++ flag ∷ [] = c.push.ensures.items ∙ ap (λ pushed. if pushed then before ++ flag ∷ [] else before) is_pushed in
    let is : flag ≡ is_watched named position light = elim c.if-is_flagged.branch [
      | then-is_flagged w ↦ w.flag-is ∙ w.if-is_flagged.true ∙ sym (ap (λ b. b || has_target named position light) (sym c.is_flagged.ensures ∙ w.if-is_flagged.true))
      | else-is_flagged w ↦ w.flag-is ∙ w.has_target-flag.ensures ∙ sym (ap (λ b. b || has_target named position light) (sym c.is_flagged.ensures ∙ w.if-is_flagged.false))
    ] in
    record {
      long = ap length items ∙ length_push before flag ∙ ap (λ n. n + 1) c.loop-light.invariant.long;
      are = flags_more (is_watched named position) before c.push.new.self.items light flag items c.loop-light.invariant.long is c.loop-light.invariant.are;
    }

pub returns : goal.returns
returns g c = record {
  long = c.loop-light.invariant.long ∙ (let all : c.loop-light.light ≡ c.light_count-light-end.result = omega (arith, c.loop-light.auto.light-end, c.loop-light-test.false) in all) ∙ c.light_count-light-end.ensures;
  are = λ light below. c.loop-light.invariant.are light (omega (arith, below, c.loop-light-test.false, c.light_count-light-end.ensures));
}
