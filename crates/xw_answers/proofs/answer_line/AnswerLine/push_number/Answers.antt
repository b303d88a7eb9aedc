use Rattle.std.proofs.Common.{◌<◌, ◌+◌, ◌/◌, ◌%◌, [], ◌∷◌, ◌++◌, ◌∙◌, ap, sym, length, arith, append_assoc, length-append}
use Rattle.std.specs.Prelude.{decimal}
use Rattle.std.proofs.lemmas.Fmt.{decimal_digit, decimal_step, length-decimal-le}
use Rattle.xw_answers.proofs.answer_line.AnswerLine.push_number.Goals as goal

pub push_byte-requires : goal.push_byte-requires
push_byte-requires c =
    let n = c.args.number in
    let tens : n / 10 < 10 = omega arith in
    omega (arith, c.requires, ap length c.push_digit-then-number-lt100.ensures, length-append c.args.self.now (decimal (n / 10)), ap length (decimal_digit (n / 10) tens))

pub returns-then-number-lt10-clause-short : goal.returns-then-number-lt10-clause-short
returns-then-number-lt10-clause-short c = omega (arith, ap length (decimal_digit c.args.number c.if-number-lt10.true))

pub returns-then-number-lt100-clause-number : goal.returns-then-number-lt100-clause-number
returns-then-number-lt100-clause-number c =
    let n = c.args.number in
    c.push_byte.ensures ∙ ap (λ xs. xs ++ (48 + n % 10) ∷ []) c.push_digit-then-number-lt100.ensures
    ∙ append_assoc c.args.self.now (decimal (n / 10)) ((48 + n % 10) ∷ [])
    ∙ ap (λ xs. c.args.self.now ++ xs) (sym (decimal_step n (omega arith) (omega arith)))

pub returns-then-number-lt100-clause-short : goal.returns-then-number-lt100-clause-short
returns-then-number-lt100-clause-short c =
    let two = length-decimal-le 2 c.args.number (omega arith) (omega arith) (omega arith) in
    omega (arith, two)
