use Rattle.std.proofs.Common.{◌≡◌, ℕ, ◌+◌, ◌<◌, Bool, false, cond, ◌&&◌, eqb, List, length, get_or, sym, ap, subst, ◌∙◌, arith}
use Rattle.std.specs.Prelude.{unwrap_or}
use Rattle.std.proofs.lemmas.List.{get_or_read}
use Rattle.xw_bits.specs.Bits.{RowOfBits}
use Rattle.xw_words.specs.Dictionary.{Entry, known_words}
use Rattle.xw_feas.specs.Board.{Board, board_of, light_at, entry}
use Rattle.xw_feas.specs.State.{State}
use Rattle.xw_net.specs.Net.{StandsFor}
use Rattle.xw_net.specs.Nets.{bits_for}
use Rattle.xw_net.specs.Tally.{row_tally}
use Rattle.xw_net.proofs.BaseRows.WrittenRows.{bits_read}
use Rattle.xw_net.proofs.Nets.SettledNets.{stands_shaped}
use Rattle.xw_net.proofs.Nets.TalliedLetters.{net_tally_is}
use Rattle.xw_net.proofs.net.Net.tally.Goals as goal

pub index-row-requires : goal.index-row-requires
index-row-requires c =
    let net = c.args.self.now in
    let state : State = record { grid = c.args.grid.now; words = c.args.bank.now.words } in
    let stands : StandsFor c.args.lights.now net = record { state = state; are_lights = sym c.requires.lights; settled = c.requires.settled } in
    omega (arith, (stands_shaped c.args.lights.now net c.args.light stands c.requires.light).0, net.rows.ok.0)

pub index-requires : goal.index-requires
index-requires c =
    let net = c.args.self.now in
    let state : State = record { grid = c.args.grid.now; words = c.args.bank.now.words } in
    let stands : StandsFor c.args.lights.now net = record { state = state; are_lights = sym c.requires.lights; settled = c.requires.settled } in
    omega (arith, (stands_shaped c.args.lights.now net c.args.light stands c.requires.light).1, net.entered.ok.0)

pub returns : goal.returns
returns c =
    let net = c.args.self.now in
    let grid = c.args.grid.now in
    let light = c.args.light in
    let position = c.args.position in
    let letter = c.args.letter in
    let state : State = record { grid = c.args.grid.now; words = c.args.bank.now.words } in
    let stands : StandsFor c.args.lights.now net = record { state = state; are_lights = sym c.requires.lights; settled = c.requires.settled } in
    let shaped = stands_shaped c.args.lights.now net c.args.light stands c.requires.light in
    let cells : c.light-cells.result ≡ light_at (board_of c.args.grid.now) c.args.light = c.light-cells.ensures.cells ∙ ap (λ (b : Board). light_at b c.args.light) c.new-board.ensures in
    let bits : c.index-row.result.now.bits ≡ bits_for c.args.self.now c.args.light =
    ap (λ (r : RowOfBits). r.bits) c.index-row.ensures ∙ bits_read net.rows.items light shaped.0 c.index-row.result.now in
    let words : known_words c.new-rows.result.words c.len.result ≡ known_words c.args.bank.now.words (length (light_at (board_of c.args.grid.now) c.args.light)) =
    ap (λ d. known_words d c.len.result) c.new-rows.ensures.words ∙ ap (known_words c.args.bank.now.words) (c.len.ensures ∙ ap length cells) in
    let listed : c.count_row-listed.result ≡ row_tally (bits_for c.args.self.now c.args.light) (known_words c.args.bank.now.words (length (light_at (board_of c.args.grid.now) c.args.light))) c.args.position c.args.letter 0 (length (bits_for c.args.self.now c.args.light)) =
    c.count_row-listed.ensures.tally
    ∙ ap (λ (row : List Bool). row_tally row (known_words c.new-rows.result.words c.len.result) c.args.position c.args.letter 0 (length row)) bits
    ∙ ap (λ (all : List Entry). row_tally (bits_for c.args.self.now c.args.light) all c.args.position c.args.letter 0 (length (bits_for c.args.self.now c.args.light))) words in
    let entered : c.index.result.now ≡ get_or c.args.self.now.entered.items c.args.light false = get_or_read net.entered.items light c.index.result.now shaped.1 c.index.ensures false in
    let here : c.letter-here.result ≡ unwrap_or (entry (board_of c.args.grid.now) (get_or (light_at (board_of c.args.grid.now) c.args.light) c.args.position 0)) 65 =
    c.letter-here.ensures ∙ ap (λ (b : Board). unwrap_or (entry b c.at.result) 65) c.new-board.ensures
    ∙ ap (λ n. unwrap_or (entry (board_of c.args.grid.now) n) 65) (c.at.ensures ∙ ap (λ (ks : List ℕ). get_or ks c.args.position 0) cells) in
    let one : c.count_entered.result ≡ cond (get_or c.args.self.now.entered.items c.args.light false && eqb (unwrap_or (entry (board_of c.args.grid.now) (get_or (light_at (board_of c.args.grid.now) c.args.light) c.args.position 0)) 65) c.args.letter) 1 0 =
    c.count_entered.ensures
    ∙ ap (λ b. cond {A = ℕ} (b && eqb c.byte.result c.byte-2.result) 1 0) entered
    ∙ ap (λ n. cond {A = ℕ} (get_or c.args.self.now.entered.items c.args.light false && eqb n c.byte-2.result) 1 0) (c.byte.ensures.code ∙ here)
    ∙ ap (λ n. cond {A = ℕ} (get_or c.args.self.now.entered.items c.args.light false && eqb (unwrap_or (entry (board_of c.args.grid.now) (get_or (light_at (board_of c.args.grid.now) c.args.light) c.args.position 0)) 65) n) 1 0) c.byte-2.ensures.code in
    let some : 0 < c.args.letter = omega (arith, c.byte-2.ensures.letter.0, c.byte-2.ensures.code) in
    ap (λ n. n + c.count_entered.result) listed
    ∙ ap (λ n. row_tally (bits_for c.args.self.now c.args.light) (known_words c.args.bank.now.words (length (light_at (board_of c.args.grid.now) c.args.light))) c.args.position c.args.letter 0 (length (bits_for c.args.self.now c.args.light)) + n) one
    ∙ sym (net_tally_is state net c.requires.settled light position letter (subst (λ ls. c.args.light < length ls) c.requires.lights c.requires.light) c.requires.position some)
