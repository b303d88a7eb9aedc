use Rattle.std.proofs.Common.{◌+◌, ◌∷◌, take, length, sym, ap, ◌∙◌, arith}
use Rattle.std.proofs.lemmas.List.{take_rest, drop_all}
use Rattle.xw_text.specs.Lines.{lines_of}
use Rattle.xw_text.proofs.FirstLineLemmas.{first_of_lines, only_line}
use Rattle.xw_text.proofs.lines.first_line.Goals as goal

pub returns-in-Some-clause-lines : goal.returns-in-Some-clause-lines
returns-in-Some-clause-lines c =
    let bytes = c.args.bytes.now in
    first_of_lines bytes c.in-Some.end (sym c.in-Some.ensures.index)
    ∙ ap (λ rest. take c.in-Some.end bytes ∷ lines_of rest) (sym (take_rest bytes (c.in-Some.end + 1)))

pub returns-in-None-clause-lines : goal.returns-in-None-clause-lines
returns-in-None-clause-lines c =
    let bytes = c.args.bytes.now in
    only_line bytes c.requires (sym c.in-None.ensures.index)
    ∙ ap (λ rest. bytes ∷ lines_of rest) (sym (take_rest bytes (length bytes) ∙ drop_all (length bytes) bytes (omega arith)))
