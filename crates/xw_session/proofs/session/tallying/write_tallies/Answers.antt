use Rattle.std.proofs.Common.{◌≡◌, [], flat_map, append-nil, refl, sym, ap}
use Rattle.std.proofs.lemmas.Result.{err_from_is_err_and}
use Rattle.xw_letters.specs.LetterSet.{letters_in}
use Rattle.xw_session.specs.Tally.{tally_line}
use Rattle.xw_lines.proofs.SendsLemmas.{next_stops}
use Rattle.xw_session.proofs.session.tallying.write_tallies.Goals as goal

pub loop-letter-init : goal.loop-letter-init
loop-letter-init g c =
    let items = c.iter-letter-items.ensures in
    let begun = c.into_iter-letter-iterator.ensures.into_iter_gives in
    let is : c.into_iter-letter-iterator.result ≡ letters_in c.args.letters = cc in (
      [],
      record {
        transcript = sym (append-nil (g.W.Sink.transcript c.args.sink.now));
        left = ap (flat_map (tally_line (g.E.Feasible.state c.args.engine.now) c.args.cell)) (sym is);
        quiet = refl;
      },
    )

pub returns-in_err-write_tally : goal.returns-in_err-write_tally
returns-in_err-write_tally g c =
    let e = err_from_is_err_and c.from_residual.result c.from_residual.ensures.1 in
    let kept = c.loop-letter.invariant.1 in
    rw e.1 (next_stops g.W.Sink.transcript g.W.Sink.failures (tally_line (g.E.Feasible.state c.args.engine.now) c.args.cell) c.args.sink.now c.loop-letter.sink c.write_tally.new.sink c.loop-letter.invariant.0 _ _ _ c.in-Some.letter kept.transcript kept.quiet kept.left c.in-Some.ensures.steps c.in_err-write_tally.ensures)
