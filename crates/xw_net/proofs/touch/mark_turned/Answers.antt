use Rattle.std.proofs.Common.{◌≡◌, ◌<◌, ℕ, true, false, length, get_or, sym, ap, ◌∙◌, arith}
use Rattle.std.specs.Prelude.{List, Bool}
use Rattle.std.proofs.lemmas.Bool.{both_ways}
use Rattle.xw_feas.specs.Board.{Board, light_at}
use Rattle.xw_net.proofs.Lists.ListsOfLights.{adds_none, adds_as, adds_insert, adds_start, adds_next, adds_end}
use Rattle.xw_net.proofs.touch.mark_turned.Goals as goal

abbrev Turns : Board → List Bool → ℕ → Type 0
Turns board turned light = get_or turned (length (light_at board light)) false ≡ true

pub loop-light-init : goal.loop-light-init
loop-light-init c = adds_start (Turns c.args.board.now c.args.turned.now) c.args.list.now

pub loop-light-preserved : goal.loop-light-preserved
loop-light-preserved c =
    let inv = c.loop-light.invariant in
    let in_board : c.loop-light.light < length c.args.board.now.lights = omega (arith, c.loop-light-test.true, c.light_count-light-end.ensures) in
    let turns : Turns c.args.board.now c.args.turned.now c.loop-light.light =
    ap (λ n. get_or c.args.turned.now n false) (sym (c.len-len.ensures ∙ ap length c.light.ensures.cells)) ∙ sym c.flag_of.ensures ∙ c.if-not-flag_of.false in
    adds_next (Turns c.args.board.now c.args.turned.now) c.loop-light.light c.args.list.now c.loop-light.list c.insert.new.self inv
    (adds_as (λ other. other ≡ c.loop-light.light) (λ other. (other ≡ c.loop-light.light) × Turns c.args.board.now c.args.turned.now other) c.loop-light.list c.insert.new.self
    (λ other e. (e, ap (λ l. get_or c.args.turned.now (length (light_at c.args.board.now l)) false) e ∙ turns)) (λ other is. is.0)
    (adds_insert c.loop-light.list c.insert.new.self c.loop-light.light (omega (arith, in_board, c.requires, inv.grows.size)) c.insert.ensures.marks c.insert.ensures.grows))

pub loop-light-preserved-then-not-flag_of : goal.loop-light-preserved-then-not-flag_of
loop-light-preserved-then-not-flag_of c =
    let still : get_or c.args.turned.now (length (light_at c.args.board.now c.loop-light.light)) false ≡ false =
    ap (λ n. get_or c.args.turned.now n false) (sym (c.len-len.ensures ∙ ap length c.light.ensures.cells)) ∙ sym c.flag_of.ensures ∙ c.if-not-flag_of.true in
    adds_next (Turns c.args.board.now c.args.turned.now) c.loop-light.light c.args.list.now c.loop-light.list c.loop-light.list c.loop-light.invariant
    (adds_none (λ other. (other ≡ c.loop-light.light) × Turns c.args.board.now c.args.turned.now other) c.loop-light.list
    (λ other is. both_ways _ still (sym (ap (λ l. get_or c.args.turned.now (length (light_at c.args.board.now l)) false) is.0) ∙ is.1)))

pub returns : goal.returns
returns c =
    adds_end (Turns c.args.board.now c.args.turned.now) c.loop-light.light (length c.args.board.now.lights) c.args.list.now c.loop-light.list
    (omega (arith, c.loop-light-test.false, c.loop-light.auto.light-end, c.light_count-light-end.ensures)) c.loop-light.invariant
