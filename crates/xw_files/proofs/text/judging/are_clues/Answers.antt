use Rattle.std.proofs.Common.{rules, eqb, tests}
use Rattle.std.proofs.lemmas.Iterator.Search.{all_from_yields_List}
use Rattle.std.proofs.lemmas.Iterator.Splits.{YieldsList-from_slice_split}
use Rattle.xw_files.specs.Text.Written.{is_clue}
use Rattle.xw_files.proofs.text.judging.are_clues.Goals as goal

pub returns : goal.returns
returns c = all_from_yields_List is_clue _ _ _ c.all.ensures.ran (YieldsList-from_slice_split _ (λ byte. eqb byte 10) _ c.split.ensures.rest c.split.ensures.done c.split.ensures.closure (λ x b q k. search (rules, tests))) (λ x b q k. search (rules, tests))
