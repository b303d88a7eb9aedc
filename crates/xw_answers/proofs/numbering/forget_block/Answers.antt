use Rattle.std.proofs.Common.{◌∙◌}
use Rattle.xw_answers.proofs.Numbered.{numbers_stay}
use Rattle.xw_answers.proofs.numbering.forget_block.Goals as goal

pub returns-clause-same : goal.returns-clause-same
returns-clause-same c = λ index is found. c.requires index is (c.forget_near.ensures.kept index is found)

pub returns-clause-made : goal.returns-clause-made
returns-clause-made c = λ new made index is found.
    numbers_stay c.args.grid.now new c.args.cell index c.well_formed-2.ensures made (c.forget_near.ensures.gone index is found)
    ∙ c.requires index is (c.forget_near.ensures.kept index is found)
