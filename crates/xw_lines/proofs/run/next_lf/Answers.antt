use Rattle.std.proofs.Common.{◌≡◌, ◌-◌, List, ℕ, length, length-drop, take, drop, ◌∙◌, ap, sym, arith}
use Rattle.std.proofs.lemmas.List.{take_all}
use Rattle.std.specs.Prelude.{position}
use Rattle.xw_text.specs.Lines.{is_line_feed}
use Rattle.xw_lines.proofs.Cuts.{no_lf, first_lf-ends}
use Rattle.xw_lines.proofs.run.next_lf.Goals as goal

-- everything from an index on
rest : (bytes : List ℕ) (from : ℕ) → take (length bytes - from) (drop from bytes) ≡ drop from bytes
rest bytes from = take_all (length bytes - from) (drop from bytes) (omega (arith, length-drop from bytes))

pub returns-in-Some-clause-ends : goal.returns-in-Some-clause-ends
returns-in-Some-clause-ends c =
    first_lf-ends c.args.bytes.now c.args.from c.in-Some.more (ap (position is_line_feed) (sym (rest c.args.bytes.now c.args.from)) ∙ sym c.line_end.ensures.index ∙ c.in-Some.is)

pub returns-in-None-clause-none : goal.returns-in-None-clause-none
returns-in-None-clause-none c =
    no_lf (drop c.args.from c.args.bytes.now) (ap (position is_line_feed) (sym (rest c.args.bytes.now c.args.from)) ∙ sym c.line_end.ensures.index ∙ c.in-None.is)
