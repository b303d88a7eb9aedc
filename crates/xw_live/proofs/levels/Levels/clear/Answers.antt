use Rattle.std.specs.Prelude.{Some}
use Rattle.std.proofs.lemmas.List.Elements.{All-pop}
use Rattle.xw_feas.proofs.Elements.{all_pushed}
use Rattle.xw_live.specs.Levels.{HasSizeOf}
use Rattle.xw_live.proofs.levels.Levels.clear.Goals as goal

pub loop-placement-preserved-in-Some : goal.loop-placement-preserved-in-Some
loop-placement-preserved-in-Some c = record {
  sizes = λ grid made spare.
      let inv = c.loop-placement.invariant.sizes grid made spare in
      let (rest, last) = All-pop (HasSizeOf grid) c.loop-placement.self.made.items c.pop.new.self.items (Some c.in-Some.placement) c.in-Some.ensures.items inv.0 in
      (rest, all_pushed (HasSizeOf grid) c.loop-placement.self.spare.items c.push.new.self.items c.in-Some.placement _ c.push.ensures.items last inv.1);
  trail = c.loop-placement.invariant.trail;
}

pub loop-placement-preserved : goal.loop-placement-preserved
loop-placement-preserved c = record {
  sizes = λ grid made spare.
      let inv = c.loop-placement.invariant.sizes grid made spare in
      let (rest, last) = All-pop (HasSizeOf grid) c.loop-placement.self.made.items c.pop.new.self.items (Some c.in-Some.placement) c.in-Some.ensures.items inv.0 in
      (rest, all_pushed (HasSizeOf grid) c.loop-placement.self.spare.items c.push.new.self.items c.in-Some.placement _ c.push.ensures.items last inv.1);
  trail = c.loop-placement.invariant.trail;
}
