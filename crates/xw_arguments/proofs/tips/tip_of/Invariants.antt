use Rattle.std.proofs.Common.{◌≡◌, ◌-◌, [], map, drop, get_or}
use Rattle.xw_arguments.specs.Tips.{tip_among, tip_of}
use Rattle.xw_arguments.proofs.tips.tip_of.Given as goal

abbrev pub invariant-loop-i : goal.invariant-loop-i
invariant-loop-i g l =
    let words = map g.S.AsStr.text l.words in
    tip_of words ≡ tip_among (get_or words (l.i - 1) []) (drop l.i words)
