use Rattle.std.proofs.Common.{◌<◌, length, ap, ◌∙◌, arith}
use Rattle.std.specs.Prelude.{unwrap_or}
use Rattle.std.proofs.lemmas.List.{length-set}
use Rattle.xw_feas.specs.Board.{entry}
use Rattle.xw_search.proofs.ListingLemmas.{spelled-more}
use Rattle.xw_search.proofs.listing.spell.Goals as goal

pub loop-pos-preserved : goal.loop-pos-preserved
loop-pos-preserved c =
    let below : c.loop-pos.pos < length c.args.cells.now = omega (arith, c.loop-pos-test.true, c.len-pos-end.ensures) in
    let within : c.loop-pos.pos < length c.loop-pos.letters = omega (arith, c.requires, below, c.loop-pos.invariant.long) in
    record {
      long = length-set c.loop-pos.letters c.loop-pos.pos c.letter.result ∙ c.loop-pos.invariant.long;
      front = spelled-more c.args.board.now c.args.cells.now c.loop-pos.letters c.loop-pos.pos c.letter.result below within (c.letter.ensures ∙ ap (λ cell. unwrap_or (entry c.args.board.now cell) 65) c.at.ensures) c.loop-pos.invariant.front;
    }
