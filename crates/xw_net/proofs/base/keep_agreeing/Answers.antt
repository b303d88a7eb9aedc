use Rattle.std.proofs.Common.{◌≡◌, ◌≤◌, ◌*◌, length, arith}
use Rattle.std.proofs.Math.Nat.{mul-le-mul_right}
use Rattle.xw_letters.specs.LetterSet.{letters_in}
use Rattle.xw_net.specs.Region.{chunks_of}
use Rattle.xw_net.proofs.Stripping.StruckRows.{only_one}
use Rattle.xw_net.proofs.base.keep_agreeing.Goals as goal

pub returns-in-Some-clause-cost : goal.returns-in-Some-clause-cost
returns-in-Some-clause-cost g c =
    let many = chunks_of (length c.args.row.now.bits) in
    let one : length (letters_in c.only.result) ≤ 1 = only_one c.only.result c.in-Some.letter c.only.ensures.letters in
    let most : length (letters_in c.only.result) * many ≤ 1 * many = mul-le-mul_right many one in
    let swap : many * length (letters_in c.only.result) ≡ length (letters_in c.only.result) * many = grind arith in
    omega (arith, c.keep_columns.ensures.ticks, swap, most)
