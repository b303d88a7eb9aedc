use Rattle.std.proofs.Common.{◌≡◌, ◌∙◌, map, get_or, sym, ap, subst, length, arith}
use Rattle.std.specs.Prelude.{All}
use Rattle.xw_letters.specs.Letter.{folded}
use Rattle.xw_words.specs.Row.{Row}
use Rattle.xw_words.specs.Columns.{has_letter}
use Rattle.xw_words.specs.Dictionary.{Entry, entry_at}
use Rattle.xw_words.proofs.MatchLemmas.{good_at, is_letter_there, letter_no_dot, letter_missing, struck_unfit}
use Rattle.xw_words.proofs.row.Row.sieve_from.Goals as goal

pub capital-letter-requires : goal.capital-letter-requires
capital-letter-requires c = is_letter_there _ (good_at c.args.pattern.now c.loop-position.position c.requires.good c.loop-position-test.true) c.if-pattern-position-ne46.true

pub returns-in-Some-clause-row : goal.returns-in-Some-clause-row
returns-in-Some-clause-row c = λ i clear.
    let row = c.args.self.now in
    let pattern = c.args.pattern.now in
    let position = c.loop-position.position in
    let P : Row → Type 0 = λ kept. All (λ (entry : Entry). length entry.word ≡ kept.word_len) kept.entries in
    let long : P row = subst P c.self.view_is c.word_len.ensures.words in
    let good = good_at pattern position c.requires.good c.loop-position-test.true in
    letter_missing row.word_len row.entries pattern position i long c.requires.length (omega (arith, c.requires.length)) (letter_no_dot (get_or pattern position 0) good c.if-pattern-position-ne46.true)
    (ap (λ letter. has_letter row.entries position letter i) (sym c.capital-letter.ensures) ∙ sym (c.in-Some.ensures.some.says i) ∙ clear)

pub returns-clause-row : goal.returns-clause-row
returns-clause-row c = λ i clear.
    let pattern = map folded c.args.pattern.now in
    struck_unfit pattern (entry_at c.args.self.now.entries i) (ap (λ (row : Row). (entry_at row.entries i).active) (sym c.self.view_is) ∙ sym (c.active_row.ensures.bits i) ∙ clear)
