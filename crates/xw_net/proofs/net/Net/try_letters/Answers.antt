use Rattle.std.proofs.Common.{ℕ, length, sym, ap, ◌∙◌, subst, arith}
use Rattle.std.specs.Prelude.{Option, Some, None, Result, Ok, Err, IfOk, IfSome}
use Rattle.std.specs.declared.alloc.AllocError.{AllocError}
use Rattle.xw_words.specs.Dictionary.{known_words}
use Rattle.xw_feas.specs.Board.{Board}
use Rattle.xw_feas.proofs.BoardLemmas.{length-lights, length-open_cells}
use Rattle.xw_net.specs.Marks.{AreSlotsApart}
use Rattle.xw_net.specs.declared.net.Net.{Net}
use Rattle.xw_net.proofs.Levels.SettledAgain.{placed_back, roomier_long, way_again, words_like}
use Rattle.xw_net.proofs.Levels.WaysBack.{way_halted}
use Rattle.xw_net.proofs.Levels.TriedLetters.{tried_sized, tried_quiet, tried_settled, tried_dies}
use Rattle.xw_net.proofs.Nets.SlotsApart.{slots_apart}
use Rattle.xw_net.proofs.net.Net.try_letters.Goals as goal

pub place-tried-requires-clause-cells : goal.place-tried-requires-clause-cells
place-tried-requires-clause-cells c = sym (length-open_cells c.args.search.grid.now) ∙ ap (λ (b : Board). length b.open_cells) (sym c.new-board.ensures)

pub place-tried-requires-clause-sized : goal.place-tried-requires-clause-sized
place-tried-requires-clause-sized c =
    let search = c.args.search in
    tried_sized search.grid.now search.words.now.words search.written.now c.args.self.now c.requires.tried c.new-board.result c.new-rows.result.words c.new-board.ensures c.new-rows.ensures.words

pub place-tried-requires-clause-quiet : goal.place-tried-requires-clause-quiet
place-tried-requires-clause-quiet c =
    let search = c.args.search in
    tried_quiet search.grid.now search.words.now.words search.written.now c.args.self.now c.requires.tried c.new-board.result c.new-rows.result.words c.new-board.ensures c.new-rows.ensures.words

pub place-tried-requires-clause-apart : goal.place-tried-requires-clause-apart
place-tried-requires-clause-apart c = subst AreSlotsApart (sym c.new-board.ensures) (slots_apart c.args.search.grid.now)

pub undo-requires : goal.undo-requires
undo-requires c =
    (c.args.self.now, way_halted c.place-tried.new.level c.place-tried.new.self c.halt.new.self c.args.self.now c.halt.ensures.rest (c.place-tried.ensures.back c.args.self.now c.requires.begun))

pub returns-then-matches-clause-settled : goal.returns-then-matches-clause-settled
returns-then-matches-clause-settled c is =
    let search = c.args.search in
    tried_settled search.grid.now search.words.now.words search.written.now c.args.self.now c.requires.tried c.new-board.result c.new-rows.result.words c.new-board.ensures c.new-rows.ensures.words
    c.place-tried.new.self c.keep_counts.new.self (c.place-tried.ensures.filled is) c.keep_counts.ensures

pub returns-then-matches-clause-way : goal.returns-then-matches-clause-way
returns-then-matches-clause-way c is =
    way_again c.place-tried.new.level c.place-tried.new.self c.keep_counts.new.self c.args.self.now (c.place-tried.ensures.back c.args.self.now c.requires.begun)
    (roomier_long c.place-tried.new.self c.keep_counts.new.self c.keep_counts.ensures)

pub returns-then-matches-clause-alive : goal.returns-then-matches-clause-alive
returns-then-matches-clause-alive c is light watched emptied =
    let long = roomier_long c.place-tried.new.self c.keep_counts.new.self c.keep_counts.ensures in
    c.place-tried.ensures.alive is light watched (λ choice. sym (words_like c.place-tried.new.self c.keep_counts.new.self long.like light choice) ∙ emptied choice)

-- what follows for each light follows for one that was returned
if_dead : {P Q : ℕ → Type 0} (result : Result (Option ℕ) AllocError) → ((light : ℕ) → P light → Q light) → IfOk result (λ dead. IfSome dead P) → IfOk result (λ dead. IfSome dead Q)
if_dead (Ok None) goes is = is
if_dead (Ok (Some light)) goes is = goes light is
if_dead (Err fault) goes is = is

pub returns-else-matches-clause-dead : goal.returns-else-matches-clause-dead
returns-else-matches-clause-dead c =
    let search = c.args.search in
    if_dead c.place-tried.result
    (tried_dies search.grid.now search.words.now.words search.written.now c.args.self.now c.requires.tried c.new-board.result c.new-rows.result.words c.new-board.ensures c.new-rows.ensures.words)
    c.place-tried.ensures.dies

pub returns-else-matches-clause-within : goal.returns-else-matches-clause-within
returns-else-matches-clause-within c =
    if_dead c.place-tried.result
    (λ light below. omega (arith, below, ap (λ (b : Board). length b.lights) c.new-board.ensures, length-lights c.args.search.grid.now, ap length c.requires.lights))
    c.place-tried.ensures.within

pub returns-else-matches-clause-back : goal.returns-else-matches-clause-back
returns-else-matches-clause-back c not =
    let search = c.args.search in
    let placed = c.place-tried.ensures in
    let halted = c.halt.ensures in
    let undone = c.undo.ensures in
    let way = way_halted c.place-tried.new.level c.place-tried.new.self c.halt.new.self c.args.self.now halted.rest (placed.back c.args.self.now c.requires.begun) in
    placed_back c.place-tried.new.level c.new-board.result (known_words c.new-rows.result.words) c.args.self.now c.place-tried.new.self c.halt.new.self c.undo.new.self way
    (tried_sized search.grid.now search.words.now.words search.written.now c.args.self.now c.requires.tried c.new-board.result c.new-rows.result.words c.new-board.ensures c.new-rows.ensures.words)
    placed.sized placed.room placed.chain
    (record { rest = halted.rest; long = halted.long; pending = halted.pending; lights = halted.lights; marks = halted.marks })
    (undone.like c.args.self.now way) (record { room = undone.room; many = undone.many; many_base = undone.many_base; rest = undone.rest })
