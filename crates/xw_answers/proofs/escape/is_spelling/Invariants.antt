use Rattle.std.proofs.Common.{◌≡◌, drop, false}
use Rattle.std.specs.Option.{is_some}
use Rattle.xw_answers.specs.Escape.{text_left}
use Rattle.xw_answers.proofs.escape.is_spelling.Given as goal

abbrev pub invariant-loop-byte : goal.invariant-loop-byte
invariant-loop-byte l = is_some (text_left false l.spelling) ≡ is_some (text_left l.is_within (drop l.byte-index l.spelling))
