use Rattle.std.proofs.Common.{◌+◌, not, ◌&&◌, eqb, sym, ap, ◌∙◌, subst, arith}
use Rattle.xw_letters.specs.LetterSet.{has}
use Rattle.xw_net.specs.Seen.{IsSeenAt, HasWord}
use Rattle.xw_net.specs.Support.{supports}
use Rattle.xw_net.proofs.Levels.FoundLetters.{found_one, found_less, found_all}
use Rattle.xw_net.proofs.seen.found_letters.Goals as goal

pub loop-number-preserved-then-not-look_for : goal.loop-number-preserved-then-not-look_for
loop-number-preserved-then-not-look_for g c =
    let inv = c.loop-number.invariant in
    let k = c.look_for.ensures in
    let bits = c.args.row.now.bits in
    let here = c.args.here in
    let words = g.R.Rows.entries c.args.rows.now here.len in
    record {
      same = k.entries ∙ inv.same;
      risen = omega (arith, inv.risen, k.risen);
      len = k.len ∙ inv.len;
      others = λ index outside. k.others index outside ∙ inv.others index outside;
      seen = subst (λ e. IsSeenAt (e here.len) here.position here.slot c.look_for.new.seen) inv.same k.seen;
      found = found_less bits words here.position c.args.alive (65 + c.in-Some.number) c.loop-number.left c.take_first.new.self c.in-Some.ensures.removed c.loop-number.found c.remove.new.self
          (λ other. c.remove.ensures.removed other ∙ ap (λ n. has c.loop-number.found other && not (eqb other n)) c.at.ensures)
          (λ word. ap (λ e. supports bits (e here.len) here.position (65 + c.in-Some.number) word) (sym inv.same) ∙ k.none c.if-not-look_for.true word)
          inv.found;
    }

pub loop-number-preserved : goal.loop-number-preserved
loop-number-preserved g c =
    let inv = c.loop-number.invariant in
    let k = c.look_for.ensures in
    let bits = c.args.row.now.bits in
    let here = c.args.here in
    let words = g.R.Rows.entries c.args.rows.now here.len in
    record {
      same = k.entries ∙ inv.same;
      risen = omega (arith, inv.risen, k.risen);
      len = k.len ∙ inv.len;
      others = λ index outside. k.others index outside ∙ inv.others index outside;
      seen = subst (λ e. IsSeenAt (e here.len) here.position here.slot c.look_for.new.seen) inv.same k.seen;
      found = found_one bits words here.position c.args.alive (65 + c.in-Some.number) c.loop-number.left c.take_first.new.self c.in-Some.ensures.removed c.loop-number.found
          (subst (λ e. HasWord bits (e here.len) here.position (65 + c.in-Some.number)) inv.same (k.found c.if-not-look_for.false))
          inv.found;
    }

pub returns-clause-found : goal.returns-clause-found
returns-clause-found g c =
    let here = c.args.here in
    found_all c.args.row.now.bits (g.R.Rows.entries c.args.rows.now here.len) here.position c.args.alive c.loop-number.found c.loop-number.left c.in_default.ensures.none c.loop-number.invariant.found
