use Rattle.std.proofs.Common.{◌∙◌, sym, subst}
use Rattle.std.specs.Vec.{with_items}
use Rattle.std.proofs.lemmas.List.{with_items_is}
use Rattle.xw_feas.specs.AnswersOf.{answers_of}
use Rattle.xw_feas.specs.Board.{Board}
use Rattle.xw_feas.specs.Choices.{IsExact}
use Rattle.xw_feas.specs.Feasible.{AreAnswers}
use Rattle.xw_feas.specs.Flags.{flag_at, set_has}
use Rattle.xw_feas.specs.Standing.{HasRows}
use Rattle.xw_plain.proofs.plain.settle_position.Goals as goal

pub returns-clause-rows : goal.returns-clause-rows
returns-clause-rows c =
    let words = with_items_is c.args.words.now c.settle.new.words (c.settle.auto.words ∙ c.deref_mut.ensures.len) in
    let letters = with_items_is c.args.letters.now c.settle.new.letters (c.settle.auto.letters ∙ c.deref_mut-2.ensures.len) in
    let known = c.args.position.now.bank.words in
    subst (λ (board : Board). HasRows board known (with_items c.args.words.now c.settle.new.words).items (with_items c.args.letters.now c.settle.new.letters).items) c.new.ensures
    (subst (λ ws. HasRows c.new.result known ws (with_items c.args.letters.now c.settle.new.letters).items) (sym words)
    (subst (λ ls. HasRows c.new.result known c.settle.new.words ls) (sym letters) c.settle.ensures.rows))

pub returns-clause-exact : goal.returns-clause-exact
returns-clause-exact c =
    let words = with_items_is c.args.words.now c.settle.new.words (c.settle.auto.words ∙ c.deref_mut.ensures.len) in
    let letters = with_items_is c.args.letters.now c.settle.new.letters (c.settle.auto.letters ∙ c.deref_mut-2.ensures.len) in
    let known = c.args.position.now.bank.words in
    subst (λ (board : Board). IsExact board known (flag_at (with_items c.args.words.now c.settle.new.words).items) (set_has (with_items c.args.letters.now c.settle.new.letters).items)) c.new.ensures
    (subst (λ ws. IsExact c.new.result known (flag_at ws) (set_has (with_items c.args.letters.now c.settle.new.letters).items)) (sym words)
    (subst (λ ls. IsExact c.new.result known (flag_at c.settle.new.words) (set_has ls)) (sym letters) c.settle.ensures.exact))

pub returns-clause-answers : goal.returns-clause-answers
returns-clause-answers c =
    let words = with_items_is c.args.words.now c.settle.new.words (c.settle.auto.words ∙ c.deref_mut.ensures.len) in
    let letters = with_items_is c.args.letters.now c.settle.new.letters (c.settle.auto.letters ∙ c.deref_mut-2.ensures.len) in
    let known = c.args.position.now.bank.words in
    subst (λ (board : Board). AreAnswers board known (answers_of board known (with_items c.args.words.now c.settle.new.words).items (with_items c.args.letters.now c.settle.new.letters).items)) c.new.ensures
    (subst (λ ws. AreAnswers c.new.result known (answers_of c.new.result known ws (with_items c.args.letters.now c.settle.new.letters).items)) (sym words)
    (subst (λ ls. AreAnswers c.new.result known (answers_of c.new.result known c.settle.new.words ls)) (sym letters) c.settle.ensures.answers))
