use Rattle.std.proofs.Common.{◌≡◌, ◌≤◌, length, sym, ap, ◌∙◌, subst, arith}
use Rattle.xw_bits.specs.Bits.{RowOfBits}
use Rattle.xw_words.specs.Dictionary.{known_words}
use Rattle.xw_feas.specs.Board.{light_at}
use Rattle.xw_net.specs.Nets.{bits_for}
use Rattle.xw_net.proofs.BaseRows.WrittenRows.{bits_read}
use Rattle.xw_net.proofs.Nets.SettledNets.{over_shaped}
use Rattle.xw_net.proofs.net.Net.promises.Goals as goal

pub index-row-requires : goal.index-row-requires
index-row-requires c =
    let net = c.args.self.now in
    omega (arith, (over_shaped c.args.board.now c.args.bank.now.words net c.args.light c.requires.settled c.requires.light).0, net.rows.ok.0)

pub index-requires : goal.index-requires
index-requires c =
    let net = c.args.self.now in
    omega (arith, (over_shaped c.args.board.now c.args.bank.now.words net c.args.light c.requires.settled c.requires.light).1, net.entered.ok.0)

pub weigh_words-weights-requires-clause-words : goal.weigh_words-weights-requires-clause-words
weigh_words-weights-requires-clause-words c =
    let net = c.args.self.now in
    let shaped = over_shaped c.args.board.now c.args.bank.now.words net c.args.light c.requires.settled c.requires.light in
    let bits : c.index-row.result.now.bits ≡ bits_for c.args.self.now c.args.light = ap (λ (r : RowOfBits). r.bits) c.index-row.ensures ∙ bits_read net.rows.items c.args.light shaped.0 c.index-row.result.now in
    let len : c.len.result ≡ length (light_at c.args.board.now c.args.light) = c.len.ensures ∙ ap length c.light-cells.ensures.cells in
    subst (λ n. length c.index-row.result.now.bits ≤ length (known_words c.args.bank.now.words n)) (sym len) (omega (arith, shaped.2, ap length bits))
