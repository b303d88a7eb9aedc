use Rattle.std.proofs.Common.{◌≡◌, arith}
use Rattle.std.proofs.lemmas.Grind.{common_steps}
use Rattle.xw_words.specs.Dictionary.{IsDictionary, known_words, entry_at}
use Rattle.xw_words.proofs.DictionaryLemmas.{grade_small}
use Rattle.xw_words.proofs.bank.Bank.grade.Goals as goal

pub returns-in-Some-clause-range : goal.returns-in-Some-clause-range
returns-in-Some-clause-range c =
    let words = c.args.self.now.words in
    let is : IsDictionary words = rw (← c.self.view_is) c.self.invariant.dictionary in
    let same : c.grade.result ≡ (entry_at (known_words words c.args.len) c.args.index).grade = grind (arith, common_steps) in
    omega (arith, same, grade_small c.args.len (known_words words c.args.len) c.args.index (is.words c.args.len))
