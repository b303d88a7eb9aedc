use Rattle.std.proofs.Common.{◌≡◌, ◌≤◌, ℕ, true, false, List, length, None, Some, sym, ap, subst, ◌∙◌, arith, rules}
use Rattle.std.proofs.lemmas.Bool.{or_left}
use Rattle.std.proofs.lemmas.List.{with_items_is}
use Rattle.std.specs.Vec.{with_items}
use Rattle.xw_bits.specs.Bits.{RowOfBits}
use Rattle.xw_words.specs.Dictionary.{Entry, known_words}
use Rattle.xw_letters.specs.Letter.{is_capital}
use Rattle.xw_feas.specs.Board.{light_at}
use Rattle.xw_feas.specs.Flags.{set_has}
use Rattle.xw_net.specs.Marks.{IsPositionIn, slot_at, known, IsReady}
use Rattle.xw_net.specs.Base.{base_bits}
use Rattle.xw_net.specs.Spread.{bits_in}
use Rattle.xw_net.specs.Worklist.{is_marked}
use Rattle.xw_net.specs.Brought.{HasBase, IsBase}
use Rattle.xw_net.specs.Room.{row_at}
use Rattle.xw_net.specs.Nets.{IsQueue, marks_of, word_stands, letter_stands, held_in, restart_in, pending_in, queued_in}
use Rattle.xw_net.specs.declared.net.Net.{Net}
use Rattle.xw_net.proofs.Stripping.LeftByStripping.{base_read}
use Rattle.xw_net.proofs.Nets.RowRoom.{known_few}
use Rattle.xw_net.proofs.Lists.QuietNets.{quiet_queue, quiet_seeds}
use Rattle.xw_net.proofs.Lists.ListsOfLights.{seeds_grow}
use Rattle.xw_net.specs.Filled.{IsWholeNet}
use Rattle.xw_net.proofs.Revivals.UnstrippedNet.{brought_unstripped}
use Rattle.xw_net.proofs.Nets.FreshNets.{brought_ready_all}
use Rattle.std.proofs.lemmas.Grind.{common_steps}
use Rattle.xw_net.proofs.net.Net.bring_all.Goals as goal

pub bring_back-requires-clause-seeds : goal.bring_back-requires-clause-seeds
bring_back-requires-clause-seeds g c = seeds_grow c.args.self.now.chain c.mark_all.new.chain c.mark_all.ensures.grows (quiet_seeds c.args.self.now c.requires.fresh.quiet)

pub bring_back-requires-clause-bits : goal.bring_back-requires-clause-bits
bring_back-requires-clause-bits g c =
    let base_is = with_items_is c.args.self.now.base c.read_marked.new.base (omega (arith, c.read_marked.auto.base, c.deref_mut-2.ensures.len)) in
    (g.R.Rows.entries c.args.rows.now, c.requires.fresh.whole.bits, subst (HasBase c.args.board.now (g.R.Rows.entries c.args.rows.now)) (sym base_is) c.read_marked.ensures.base)

pub returns-clause-queue : goal.returns-clause-queue
unfolding queued_in
returns-clause-queue g c =
    subst (λ (net : Net). IsQueue net) (sym c.unmark.ensures.rest) (c.bring_back.ensures.queue (quiet_queue c.args.self.now c.requires.fresh.quiet))

pub returns-clause-unstripped : goal.returns-clause-unstripped
unfolding word_stands letter_stands held_in restart_in pending_in queued_in
returns-clause-unstripped g c dictionary setting =
    let board = c.args.board.now in
    let old = c.args.self.now in
    let fresh = c.requires.fresh in
    let entries = g.R.Rows.entries c.args.rows.now in
    let back = c.bring_back in
    let base_is = with_items_is c.args.self.now.base c.read_marked.new.base (omega (arith, c.read_marked.auto.base, c.deref_mut-2.ensures.len)) in
    let letters_is = with_items_is c.args.self.now.letters c.fill_letters.new.letters (omega (arith, c.fill_letters.auto.letters, c.deref_mut.ensures.len)) in
    let start : Net = record old { base = with_items old.base c.read_marked.new.base; letters = with_items old.letters c.fill_letters.new.letters; chain = c.mark_all.new.chain } in
    let is_base : IsBase board dictionary start.base.items = λ light lt.
    ap (λ (rows : List RowOfBits). bits_in rows light) base_is
    ∙ c.read_marked.ensures.on light lt (or_left (is_marked c.mark_all.new.chain.marks light) false (c.mark_all.ensures.all light lt)) (λ position some. let never : None ≡ Some (length (light_at board light), position) = some in cc) (λ cell some. let never : None ≡ Some cell = some in cc)
    ∙ ap (base_bits board (light_at board light)) (setting.read (length (light_at board light))) in
    let held_far : (light position letter : ℕ) → IsPositionIn c.args.board.now light position → is_capital letter ≡ true → known c.args.board.now dictionary light ≤ held_in c.args.self.now (slot_at c.args.board.now light position) letter =
    λ light position letter here capital. omega (arith, fresh.held light position letter here capital, known_few dictionary (length (light_at board light)) setting.words) in
    let words_read : (light : ℕ) → length (g.R.Rows.entries c.args.rows.now (length (light_at c.args.board.now light))) ≡ length (known_words dictionary (length (light_at c.args.board.now light))) =
    λ light. ap (λ (words : List Entry). length words) (setting.read (length (light_at board light))) in
    let ready : IsReady board dictionary (marks_of back.new.self) =
    brought_ready_all board entries dictionary setting (marks_of start) (marks_of back.new.self) (is_marked back.new.self.chain.marks) (back.ensures.brought dictionary is_base)
    (λ light lt. back.ensures.seeded light (c.mark_all.ensures.all light lt))
    fresh.past
    (λ cell letter. ap (λ s. set_has s cell letter) letters_is ∙ c.fill_letters.ensures.letters cell letter)
    held_far
    fresh.pending in
    let whole : IsWholeNet c.args.board.now (known_words dictionary) start = record {
      shaped = search rules;
      chained = search rules;
      bits = λ light lt. fresh.whole.bits light lt ∙ words_read light;
      base = base_read board entries (known_words dictionary) start.base.items setting.read (subst (HasBase c.args.board.now (g.R.Rows.entries c.args.rows.now)) (sym base_is) c.read_marked.ensures.base);
      room = λ light lt. omega (arith, fresh.whole.room light lt, words_read light);
      base_room = λ light lt. omega (
        arith,
        fresh.whole.base_room light lt,
        c.read_marked.ensures.row_room light,
        words_read light,
        ap (λ (rows : List RowOfBits). (row_at rows light).room) c.deref_mut-2.ensures.value,
        ap (λ (rows : List RowOfBits). (row_at rows light).room) base_is,
      );
    } in
    brought_unstripped board dictionary start back.new.self c.unmark.new.self whole is_base
    (c.unmark.ensures.shaped board back.ensures.shaped) (c.unmark.ensures.chained board back.ensures.chained)
    (back.ensures.bits (known_words dictionary) whole.bits) back.ensures.base c.unmark.ensures.empty back.ensures.row_room (is_marked back.new.self.chain.marks) (back.ensures.brought dictionary is_base)
    ready (λ light position letter here capital lt. absurd (omega (arith, lt, held_far light position letter here capital))) fresh.pending c.unmark.ensures.rest c.unmark.ensures.marked

pub bring_back-requires-clause-chained : goal.bring_back-requires-clause-chained
bring_back-requires-clause-chained g c = grind (arith, common_steps)
