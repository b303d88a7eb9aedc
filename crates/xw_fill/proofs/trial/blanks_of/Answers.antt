use Rattle.std.proofs.Common.{◌<◌, ◌≢◌, length, ap, ◌∙◌, arith, below_more, get_or-set_other, get_or-set_same}
use Rattle.std.proofs.lemmas.List.{length-set}
use Rattle.std.specs.Prelude.{is_none}
use Rattle.xw_feas.specs.Board.{entry}
use Rattle.xw_fill.proofs.ScanLemmas.{none_is}
use Rattle.xw_fill.proofs.trial.blanks_of.Goals as goal

pub loop-pos-preserved : goal.loop-pos-preserved
loop-pos-preserved c =
    let below : c.loop-pos.pos < length c.args.cells.now = omega (arith, c.loop-pos-test.true, c.len-pos-end.ensures) in
    let within : c.loop-pos.pos < length c.loop-pos.blanks = omega (arith, c.requires, below, c.loop-pos.invariant.long) in
    record {
      long = length-set c.loop-pos.blanks c.loop-pos.pos c.is_none.result ∙ c.loop-pos.invariant.long;
      each = below_more _ _
          (λ k h. let ne : k ≢ c.loop-pos.pos = omega arith in rw get_or-set_other (c.loop-pos.invariant.each k h))
          (rw get_or-set_same (none_is c.entry.result c.is_none.result c.is_none.ensures ∙ ap is_none (c.entry.ensures.entry ∙ ap (λ cell. entry c.args.board.now cell) c.at.ensures)));
    }
