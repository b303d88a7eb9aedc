use Rattle.std.proofs.Common.{◌≡◌, ◌<◌, length, Some, None, sym, ◌∙◌, ap, arith}
use Rattle.xw_grid.specs.Light.{lights_of}
use Rattle.xw_feas.specs.Board.{board_of}
use Rattle.xw_feas.proofs.BoardLemmas.{length-lights}
use Rattle.xw_live.specs.Live.{state_of}
use Rattle.xw_net.specs.Net.{flags_of, flags_at, sets_of, first_from}
use Rattle.xw_live.proofs.Next.{found_listed, found_entered, found_late, found_none}
use Rattle.xw_live.proofs.Keeping.{kept_stands, kept_rows, kept_exact}
use Rattle.xw_live.proofs.live.LiveFeasible.next_word_at.Goals as goal

pub next_word-requires-clause-settled : goal.next_word-requires-clause-settled
next_word-requires-clause-settled c =
    let live = c.args.self.now in
    kept_stands (state_of live) live.net live.position.lights live.position.light_list live.kept

pub returns-then-choice-known : goal.returns-then-choice-known
returns-then-choice-known c =
    let live = c.args.self.now in
    let state = state_of live in
    let within : c.args.light < length (board_of live.position.grid).lights = omega (arith, c.requires, length-lights live.position.grid) in
    let found : first_from (flags_at (lights_of live.position.grid) live.net c.args.light) c.args.from ≡ Some c.in_ok-choice.choice = ap (λ lights. first_from (flags_at lights live.net c.args.light) c.args.from) (sym live.position.light_list) ∙ sym c.next_word.ensures ∙ c.in_ok-choice.was in
    found_listed (board_of live.position.grid) live.position.bank.words (flags_of (lights_of live.position.grid) live.net) (sets_of live.net) (kept_rows state live.net live.kept) (kept_exact state live.net live.kept) live.kept.answers c.args.light c.args.from c.known_at-known.result within c.known_at-known.ensures c.in_ok-choice.choice found c.if-choice-known.true

pub returns-then-from-eq0 : goal.returns-then-from-eq0
returns-then-from-eq0 c =
    let live = c.args.self.now in
    let state = state_of live in
    let within : c.args.light < length (board_of live.position.grid).lights = omega (arith, c.requires, length-lights live.position.grid) in
    let found : first_from (flags_at (lights_of live.position.grid) live.net c.args.light) c.args.from ≡ Some c.in_ok-choice.choice = ap (λ lights. first_from (flags_at lights live.net c.args.light) c.args.from) (sym live.position.light_list) ∙ sym c.next_word.ensures ∙ c.in_ok-choice.was in
    found_entered (board_of live.position.grid) live.position.bank.words (flags_of (lights_of live.position.grid) live.net) (sets_of live.net) (kept_rows state live.net live.kept) (kept_exact state live.net live.kept) live.kept.answers c.args.light c.args.from c.known_at-known.result within c.known_at-known.ensures c.in_ok-choice.choice found c.if-choice-known.false c.if-from-eq0.true

pub returns : goal.returns
returns c =
    let live = c.args.self.now in
    let state = state_of live in
    let within : c.args.light < length (board_of live.position.grid).lights = omega (arith, c.requires, length-lights live.position.grid) in
    let found : first_from (flags_at (lights_of live.position.grid) live.net c.args.light) c.args.from ≡ Some c.in_ok-choice.choice = ap (λ lights. first_from (flags_at lights live.net c.args.light) c.args.from) (sym live.position.light_list) ∙ sym c.next_word.ensures ∙ c.in_ok-choice.was in
    found_late (board_of live.position.grid) live.position.bank.words (flags_of (lights_of live.position.grid) live.net) (sets_of live.net) (kept_rows state live.net live.kept) (kept_exact state live.net live.kept) live.kept.answers c.args.light c.args.from c.known_at-known.result within c.known_at-known.ensures c.in_ok-choice.choice found c.if-choice-known.false c.if-from-eq0.false

pub returns-in_err-choice : goal.returns-in_err-choice
returns-in_err-choice c =
    let live = c.args.self.now in
    let state = state_of live in
    let within : c.args.light < length (board_of live.position.grid).lights = omega (arith, c.requires, length-lights live.position.grid) in
    let found : first_from (flags_at (lights_of live.position.grid) live.net c.args.light) c.args.from ≡ None = ap (λ lights. first_from (flags_at lights live.net c.args.light) c.args.from) (sym live.position.light_list) ∙ sym c.next_word.ensures ∙ c.in_err-choice.was in
    c.from_residual.ensures ∙ found_none (board_of live.position.grid) live.position.bank.words (flags_of (lights_of live.position.grid) live.net) (sets_of live.net) (kept_rows state live.net live.kept) (kept_exact state live.net live.kept) live.kept.answers c.args.light c.args.from c.known_at-known.result within c.known_at-known.ensures found
