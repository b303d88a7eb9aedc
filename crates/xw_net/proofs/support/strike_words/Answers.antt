use Rattle.std.proofs.Common.{◌≡◌, ◌≤◌, ◌*◌, false, length, get_or, sym, ap, arith}
use Rattle.std.proofs.Math.Nat.{mul-le-mul_right}
use Rattle.xw_letters.specs.LetterSet.{letters_in}
use Rattle.xw_net.specs.Region.{chunks_of}
use Rattle.xw_net.specs.Support.{letter_count}
use Rattle.xw_net.proofs.Costs.SumsBelow.{letter_count-is}
use Rattle.xw_net.proofs.Stripping.StruckRows.{kept_alive, pending_gone}
use Rattle.xw_net.proofs.support.strike_words.Goals as goal

pub returns-then-len-clause-strikes : goal.returns-then-len-clause-strikes
returns-then-len-clause-strikes g c apart =
    kept_alive (g.R.Rows.entries c.args.rows.now c.args.len) c.args.position c.args.pending c.args.alive (λ word. get_or c.args.row.now.bits word false) (λ word. get_or c.keep_columns.new.row.bits word false) apart c.keep_columns.ensures.bits

pub returns-then-len-clause-cost : goal.returns-then-len-clause-cost
returns-then-len-clause-cost g c =
    let many = chunks_of (length c.args.row.now.bits) in
    let fewer : length (letters_in c.args.alive) ≤ letter_count c.args.pending = omega (arith, letter_count-is c.args.pending, c.len.ensures, c.len-2.ensures, c.if-len.true) in
    let most : length (letters_in c.args.alive) * many ≤ letter_count c.args.pending * many = mul-le-mul_right many fewer in
    let swap : many * letter_count c.args.pending ≡ letter_count c.args.pending * many = grind arith in
    let swap_alive : many * length (letters_in c.args.alive) ≡ length (letters_in c.args.alive) * many = grind arith in
    omega (arith, c.keep_columns.ensures.ticks, swap, swap_alive, most)

pub returns-else-len-clause-strikes : goal.returns-else-len-clause-strikes
returns-else-len-clause-strikes g c apart =
    pending_gone (g.R.Rows.entries c.args.rows.now c.args.len) c.args.position c.args.pending c.args.alive (λ word. get_or c.args.row.now.bits word false) (λ word. get_or c.strike_columns.new.row.bits word false) apart c.strike_columns.ensures.bits

pub returns-else-len-clause-cost : goal.returns-else-len-clause-cost
returns-else-len-clause-cost g c =
    let many = chunks_of (length c.args.row.now.bits) in
    let same : many * length (letters_in c.args.pending) ≡ many * letter_count c.args.pending = ap (λ n. chunks_of (length c.args.row.now.bits) * n) (sym (letter_count-is c.args.pending)) in
    omega (arith, c.strike_columns.ensures.ticks, same)
