use Rattle.std.proofs.Common.{◌≡◌, ◌+◌, ◌*◌, ◌<◌, ◌||◌, false, take, get_or, sym, ap, ◌∙◌, arith}
use Rattle.std.specs.Prelude.{slice_get}
use Rattle.std.proofs.lemmas.List.{get_or_default, get_or-replicate, take_all}
use Rattle.xw_bits.specs.Bits.{RowOfBits, has_bit}
use Rattle.xw_words.specs.Columns.{column_at, no_column, is_listed, has_listed}
use Rattle.xw_words.specs.Dictionary.{entry_at}
use Rattle.xw_bits.proofs.BitLemmas.{has_bit-none, has_bit-or}
use Rattle.xw_words.proofs.Sieving.{listed_more}
use Rattle.xw_words.proofs.sieve.block_with.Goals as goal

pub loop-letter-init : goal.loop-letter-init
loop-letter-init c chunk k in_block lt entries position are = ap (λ w. has_bit w k) (get_or-replicate 8 chunk 0 0 in_block) ∙ has_bit-none k

pub loop-letter-preserved : goal.loop-letter-preserved
loop-letter-preserved c chunk k in_block lt entries position are =
    let i = c.loop-letter.letter-index in
    let list = c.args.list.now in
    let letter = get_or c.args.list.now c.loop-letter.letter-index 0 in
    let place : get_or c.args.list.now c.loop-letter.letter-index 0 < 26 = c.requires.places i c.loop-letter-test.true in
    let column : column_at c.args.columns.now (get_or c.args.list.now c.loop-letter.letter-index 0) ≡ c.index-columns-letter.result =
    sym (c.index-columns-letter.is ∙ get_or_default c.args.columns.now letter c.index-columns-letter.result no_column (omega (arith, place, c.requires.many))) in
    let index = 64 * (c.args.at + chunk) + k in
    let o = slice_get (entry_at entries (64 * (c.args.at + chunk) + k)).word position in
    let mine = get_or c.loop-letter.found chunk 0 in
    let its = get_or c.block.result chunk 0 in
    ap (λ w. has_bit w k) (c.either_block-found.ensures chunk in_block)
    ∙ has_bit-or mine its k
    ∙ ap (λ b. b || has_bit its k) (c.loop-letter.invariant chunk k in_block lt entries position are)
    ∙ ap (λ b. is_listed (take i list) o || b) (c.block.ensures chunk k in_block lt ∙ ap (λ (row : RowOfBits). get_or row.bits index false) (sym column) ∙ (are.each letter place).says index)
    ∙ sym (listed_more list i o c.loop-letter-test.true)

pub returns : goal.returns
returns c chunk k in_block lt entries position are =
    c.loop-letter.invariant chunk k in_block lt entries position are
    ∙ ap (λ list. has_listed entries position list (64 * (c.args.at + chunk) + k)) (take_all c.loop-letter.letter-index c.args.list.now c.loop-letter-test.false)
