use Rattle.std.proofs.Common.{◌≡◌, ◌∙◌, true, false, map, sym}
use Rattle.xw_arguments.specs.Tips.{is_argument, tip_of}
use Rattle.xw_arguments.proofs.TipLemmas.{found_first, none_yet}
use Rattle.xw_arguments.proofs.tips.tip_of.Goals as goal

pub returns-then-not-is_argument : goal.returns-then-not-is_argument
returns-then-not-is_argument g c =
    let words = map g.S.AsStr.text c.args.words.now in
    let wrong : is_argument c.as_str-in-loop-i.result.now c.as_str-word.result.now ≡ false = sym c.is_argument.ensures ∙ c.if-not-is_argument.true in
    found_first g.S.AsStr.text c.args.words.now (tip_of words) _ c.loop-i.i c.as_str-in-loop-i.result.now c.as_str-word.result.now
    c.index-words-i-in-loop-i.result c.index-words-i.result c.loop-i.auto.i c.loop-i-test.true c.as_str-in-loop-i.ensures c.as_str-word.ensures
    c.index-words-i-in-loop-i.is c.index-words-i.is c.tip_at.ensures c.loop-i.invariant wrong

pub loop-i-preserved : goal.loop-i-preserved
loop-i-preserved g c =
    let words = map g.S.AsStr.text c.args.words.now in
    let right : is_argument c.as_str-in-loop-i.result.now c.as_str-word.result.now ≡ true = sym c.is_argument.ensures ∙ c.if-not-is_argument.false in
    none_yet g.S.AsStr.text c.args.words.now (tip_of words) c.loop-i.i c.as_str-in-loop-i.result.now c.as_str-word.result.now
    c.index-words-i-in-loop-i.result c.index-words-i.result c.loop-i.auto.i c.loop-i-test.true c.as_str-in-loop-i.ensures c.as_str-word.ensures
    c.index-words-i-in-loop-i.is c.index-words-i.is c.loop-i.invariant right
