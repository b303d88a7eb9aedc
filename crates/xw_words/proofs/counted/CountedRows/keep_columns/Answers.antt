use Rattle.std.proofs.Common.{◌≡◌, ◌≤◌, ◌*◌, arith, rules}
use Rattle.std.proofs.Math.Nat.{mul-le-mul_right}
use Rattle.xw_letters.proofs.LetterSetLemmas.{few_letters}
use Rattle.xw_words.proofs.counted.CountedRows.keep_columns.Goals as goal

pub overflow_mul-div_ceil : goal.overflow_mul-div_ceil
overflow_mul-div_ceil c =
    let few : c.len-2.result ≤ 26 = omega (arith, few_letters c.args.letters, c.len-2.ensures) in
    let most : c.len-2.result * c.div_ceil.result ≤ 26 * c.div_ceil.result = mul-le-mul_right c.div_ceil.result few in
    let swap : c.div_ceil.result * c.len-2.result ≡ c.len-2.result * c.div_ceil.result = grind arith in
    record { fits = omega (arith, swap, most, c.div_ceil.ensures, c.len.ensures.small) }

pub returns-clause-bits : goal.returns-clause-bits
returns-clause-bits c = search rules
