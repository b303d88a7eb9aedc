use Rattle.std.proofs.Common.{◌≡◌, length, arith}
use Rattle.std.proofs.lemmas.Bool.Decides.{nat_tests}
use Rattle.std.proofs.lemmas.Result.{err_from_is_err_and}
use Rattle.xw_session.proofs.Resumed.{first_of_both, goes-begun, goes-still, goes-jump, goes-on, goes-stop, goes-end}
use Rattle.xw_session.proofs.resuming.resume.Goals as goal

pub loop-rest-init : goal.loop-rest-init
loop-rest-init g c = record {
  numbered = omega arith;
  counted = omega arith;
  goes = goes-begun g.E.Sink.transcript g.E.Sink.failures c.args.file.now c.args.session.now c.args.text.now c.args.errors.now;
}

pub loop-rest-preserved-in-Some : goal.loop-rest-preserved-in-Some
loop-rest-preserved-in-Some g c =
    let drew = c.in-Some.ensures.some in
    record {
      numbered = omega (arith, drew.shorter, c.loop-rest.invariant.numbered);
      counted = omega (arith, drew.few, c.loop-rest.invariant.counted);
      goes = goes-jump g.E.Sink.transcript g.E.Sink.failures _ _ _ _ _ _ _ _ _ _ _ _ _ _ _ drew (rw c.as_slice.ensures.value at c.tell.ensures) c.loop-rest.invariant.goes;
    }

pub loop-rest-preserved : goal.loop-rest-preserved
loop-rest-preserved g c = record {
  numbered = omega arith;
  counted = omega (arith, c.in_ok-refused.ensures.once);
  goes = goes-on g.E.Sink.transcript g.E.Sink.failures _ _ _ _ _ _ _ _ c.resume_line.new.reports.items _ _ _ _ _ _ (first_of_both c.loop-rest.rest.now c.first_line.result.0.now c.first_line.result.1.now c.first_line.ensures.lines) (rw c.new-reports.ensures.items at c.in_ok-refused.ensures.done) (rw c.as_slice-in-loop-rest.ensures.value at c.tell-in-loop-rest.ensures) (goes-still g.E.Sink.transcript g.E.Sink.failures _ _ _ _ _ _ _ _ _ _ c.in_default.ensures.none c.loop-rest.invariant.goes);
}

pub returns-in_err-refused : goal.returns-in_err-refused
returns-in_err-refused g c =
    let e = err_from_is_err_and c.from_residual.result c.from_residual.ensures.1 in
    rw (e.1, e.2) (goes-stop g.E.Sink.transcript g.E.Sink.failures _ _ _ _ _ _ c.first_line.result.1.now _ _ _ _ _ _ _ (first_of_both c.loop-rest.rest.now c.first_line.result.0.now c.first_line.result.1.now c.first_line.ensures.lines) (rw c.new-reports.ensures.items at c.in_err-refused.ensures.done) (goes-still g.E.Sink.transcript g.E.Sink.failures _ _ _ _ _ _ _ _ _ _ c.in_default.ensures.none c.loop-rest.invariant.goes))

pub returns : goal.returns
returns g c =
    let none : length c.loop-rest.rest.now ≡ 0 = grind (arith, nat_tests, c.is_empty.ensures, c.loop-rest-test.false) in
    goes-end g.E.Sink.transcript g.E.Sink.failures _ _ _ _ _ _ _ _ _ none c.loop-rest.invariant.goes
