use Rattle.std.proofs.Common.{◌≡◌, Bool, true, set, subst, sym, ap, ◌∙◌}
use Rattle.std.specs.Prelude.{List}
use Rattle.xw_feas.specs.Board.{light_at, is_wholly_entered}
use Rattle.xw_net.specs.Spread.{Lit, lit, IsLit}
use Rattle.xw_net.proofs.Lists.ListsOfLights.{waits_grow}
use Rattle.xw_net.proofs.Revivals.WordsComeBack.{lit_bring}
use Rattle.xw_net.proofs.spread.bring_words.Goals as goal

pub returns-clause-listed : goal.returns-clause-listed
returns-clause-listed c listed light on = waits_grow c.args.queue.now c.insert_urgent.new.self light c.insert_urgent.ensures.grows (listed light) on

pub returns-clause-lit : goal.returns-clause-lit
returns-clause-lit c start marked waiting left on quieter is_lit =
    let now : Lit = lit c.args.rows.now c.args.entered.now c.args.restart.now c.args.queue.now in
    let entered : is_wholly_entered c.args.board.now (light_at c.args.board.now c.args.light) ≡ c.has_all_entries.result = sym (c.has_all_entries.ensures ∙ ap (is_wholly_entered c.args.board.now) c.light.ensures.cells) in
    let brought = lit_bring c.args.board.now c.args.base.now start now c.bring_row.new.rows c.restart_light.new.restart marked waiting left c.args.light on quieter
    c.requires.light c.requires.entered c.requires.queue c.bring_row.ensures.len c.requires.bits c.bring_row.ensures.here c.bring_row.ensures.others
    c.restart_light.ensures.len c.restart_light.ensures.on c.restart_light.ensures.off c.restart_light.ensures.more is_lit in
    let P : Bool → List Bool → Type 0 = λ e q. IsLit c.args.board.now c.args.base.now start (record { rows = c.bring_row.new.rows; entered = set c.args.entered.now c.args.light e; restart = c.restart_light.new.restart; queued = q }) marked left in
    let with_entered = subst (λ e. P e (set c.args.queue.now.marks c.args.light true)) entered brought in
    subst (P c.has_all_entries.result) (sym c.insert_urgent.ensures.marks) with_entered
