use Rattle.std.proofs.Common.{◌≡◌, ◌≤◌, length, [], ap, ◌∙◌, arith}
use Rattle.xw_words.specs.Bank.{words_of}
use Rattle.xw_words.specs.Dictionary.{known_words}
use Rattle.xw_words.specs.Columns.{has_letter}
use Rattle.xw_words.proofs.DictionaryLemmas.{no_row_of}
use Rattle.xw_words.proofs.ColumnLemmas.{no_letter}
use Rattle.xw_words.proofs.bank.Bank.column_of.Goals as goal

pub returns-in-None-clause-none : goal.returns-in-None-clause-none
returns-in-None-clause-none c = λ index.
    let rows = c.self.inside.rows.items in
    let words = words_of rows c.self.inside.least in
    let past : length rows ≤ c.args.len = omega (arith, c.in-None.ensures.lookup.3, c.deref.ensures.len) in
    let none : known_words words c.args.len ≡ [] = no_row_of rows c.self.inside.least c.args.len past in
    rw (← c.self.view_is) (ap (λ es. has_letter es c.args.position c.args.letter index) none ∙ no_letter [] c.args.position c.args.letter index (omega arith))

pub returns-in-None-clause-within : goal.returns-in-None-clause-within
returns-in-None-clause-within c = λ _.
    let rows = c.self.inside.rows.items in
    let words = words_of rows c.self.inside.least in
    let past : length rows ≤ c.args.len = omega (arith, c.in-None.ensures.lookup.3, c.deref.ensures.len) in
    let none : known_words words c.args.len ≡ [] = no_row_of rows c.self.inside.least c.args.len past in
    rw (← c.self.view_is) (ap length none)
