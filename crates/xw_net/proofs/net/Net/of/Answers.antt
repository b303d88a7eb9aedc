use Rattle.std.proofs.Common.{length, sym, ap, subst, ◌∙◌}
use Rattle.xw_words.specs.Dictionary.{Dictionary, known_words}
use Rattle.xw_feas.specs.Board.{Board, board_of}
use Rattle.xw_feas.specs.WellFormed.{HasLetterEntries}
use Rattle.xw_feas.proofs.FormedLemmas.{laid_out}
use Rattle.xw_net.specs.Marks.{IsSetting}
use Rattle.xw_net.specs.Room.{counts_of, HasRoom}
use Rattle.xw_net.specs.Net.{HasRoomIn, known_counts}
use Rattle.xw_net.specs.Inner.Blank.{IsBlank}
use Rattle.xw_net.specs.Filled.{IsFresh, IsFilled}
use Rattle.xw_net.proofs.Nets.SlotsApart.{slots_apart}
use Rattle.xw_net.proofs.Nets.SettledNets.{filled_settled, filled_room}
use Rattle.xw_net.proofs.Nets.BlankNets.{blank_fresh}
use Rattle.xw_net.proofs.net.Net.of.Goals as goal

pub fill-requires-clause-fresh : goal.fill-requires-clause-fresh
fill-requires-clause-fresh c =
    let net = c.in_ok-net.net in
    let words = c.args.bank.now.words in
    let grid = c.args.grid.now in
    let is_blank = subst (λ l. IsBlank l (counts_of (known_words c.args.bank.now.words)) (length c.args.grid.now.squares) c.in_ok-net.net) c.requires c.in_ok-net.ensures.blank in
    let room = subst (λ l. HasRoom l (counts_of (known_words c.args.bank.now.words)) c.in_ok-net.net) c.requires c.in_ok-net.ensures.room in
    let fresh = blank_fresh grid c.well_formed-2.ensures words c.well_formed-3.ensures net is_blank room in
    subst (λ (b : Board). IsFresh b (known_words c.new-rows.result.words) c.in_ok-net.net) (sym c.new.ensures)
    (subst (λ (d : Dictionary). IsFresh (board_of c.args.grid.now) (known_words d) c.in_ok-net.net) (sym c.new-rows.ensures.words) fresh)

pub returns-clause-settled : goal.returns-clause-settled
returns-clause-settled c =
    let grid = c.args.grid.now in
    let letters = subst HasLetterEntries c.new.ensures c.fill.ensures.letters in
    let setting : IsSetting (board_of c.args.grid.now) (known_words c.new-rows.result.words) c.args.bank.now.words = record {
      laid_out = laid_out grid c.well_formed-2.ensures letters;
      apart = slots_apart grid;
      words = c.well_formed-3.ensures;
      read = λ len. ap (λ (d : Dictionary). known_words d len) c.new-rows.ensures.words;
    } in
    filled_settled grid c.args.bank.now.words c.fill.new.self (subst (λ (b : Board). IsFilled b c.args.bank.now.words c.fill.new.self) c.new.ensures
    (c.fill.ensures.filled c.args.bank.now.words (subst (λ (b : Board). IsSetting b (known_words c.new-rows.result.words) c.args.bank.now.words) (sym c.new.ensures) setting)))

pub returns-clause-room : goal.returns-clause-room
returns-clause-room c =
    let words = c.args.bank.now.words in
    let room = filled_room c.args.grid.now words c.fill.new.self (returns-clause-settled c).filled in
    subst (λ o. HasRoomIn c.args.lights.now (known_counts c.args.bank.now.words) c.fill.new.self o) (sym (c.fill.ensures.spare ∙ c.in_ok-net.ensures.blank.spare))
    (subst (λ l. HasRoom l (known_counts c.args.bank.now.words) c.fill.new.self) (sym c.requires) room)
