use Rattle.std.proofs.Common.{◌<◌, false, map, length, sym, ◌∙◌, arith}
use Rattle.std.proofs.lemmas.List.{same_lists, get_or_default, get_or-map, length-map}
use Rattle.xw_words.specs.Marks.{no_marks, are_left}
use Rattle.xw_words.proofs.table.limiting.limit_flags.Goals as goal

pub returns-clause-bits : goal.returns-clause-bits
returns-clause-bits c =
    let flags = c.loop-chunk.active.bits in
    let marks = c.args.marks.now.items in
    let is_left = are_left c.args.least in
    let long = c.loop-chunk.invariant.long in
    same_lists flags (map is_left marks) (long ∙ sym (length-map marks is_left)) (λ k d lt.
    let within : k < length marks = omega (arith, lt, long) in
    get_or_default flags k d false lt
    ∙ c.loop-chunk.invariant.done k within (omega (arith, within, c.loop-chunk-test.false, c.div_ceil-chunk-end.ensures))
    ∙ sym (get_or-map is_left marks k no_marks d within))
