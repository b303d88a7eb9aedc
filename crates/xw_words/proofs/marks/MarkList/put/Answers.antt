use Rattle.std.proofs.Common.{ap, ◌∙◌}
use Rattle.std.specs.Prelude.{slice_set}
use Rattle.std.proofs.lemmas.List.{map-set}
use Rattle.xw_words.specs.Marks.{MarkList, marks_in}
use Rattle.xw_words.proofs.marks.MarkList.put.Goals as goal

pub returns-clause-items : goal.returns-clause-items
returns-clause-items c =
    let index = c.args.index in
    let byte = c.marks.inside.byte in
    map-set marks_in c.self.inside.bytes.items index byte
    ∙ ap (λ (list : MarkList). slice_set list.items index (marks_in byte)) c.self.view_is
    ∙ ap (slice_set c.args.self.now.items index) c.marks.view_is
