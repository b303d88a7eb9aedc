use Rattle.std.proofs.Common.{◌≡◌, ◌<◌, ℕ, Bool, true, false, List, length, sym, ap, subst, ◌∙◌, inl, inr, arith}
use Rattle.std.proofs.lemmas.Bool.{cases_Bool, or_cases}
use Rattle.xw_words.specs.Dictionary.{Entry, known_words}
use Rattle.xw_feas.specs.Board.{Board, board_of, light_at}
use Rattle.xw_feas.specs.Flags.{set_has}
use Rattle.xw_feas.specs.State.{State, Action}
use Rattle.xw_net.specs.declared.net.Net.{Net}
use Rattle.xw_net.specs.Change.{word_of, fields_of, Fields, IsChange, AreReadsOf}
use Rattle.xw_net.specs.Revival.{IsMatching, same_light}
use Rattle.xw_net.specs.Marks.{IsSetting}
use Rattle.xw_net.specs.Nets.{marks_of, word_stands, letter_stands, held_in, restart_in, pending_in, queued_in, IsQueue}
use Rattle.xw_net.specs.Worklist.{is_marked}
use Rattle.xw_net.specs.Brought.{IsBase, IsBegun, IsReadyBut, base_cost}
use Rattle.xw_net.specs.Filled.{IsWholeNet, IsUnstripped}
use Rattle.xw_net.specs.Begin.{is_long, is_read}
use Rattle.xw_net.specs.Opened.{IsOpened}
use Rattle.xw_net.proofs.Edits.ChangedLights.{long_within}
use Rattle.xw_net.proofs.Edits.ChangedWord.{long_word}
use Rattle.xw_net.proofs.Edits.SameLights.{same_is_matching}
use Rattle.xw_net.proofs.Nets.SlotsApart.{slots_apart}
use Rattle.xw_net.proofs.Stripping.LeftByStripping.{base_read}
use Rattle.xw_net.proofs.Revivals.UnstrippedNet.{brought_unstripped}
use Rattle.xw_net.proofs.Costs.CostBounds.{revival-is}
use Rattle.xw_net.proofs.net.Net.revive_moved.Goals as goal

setting_of : (before now : State) (action : Action) (change : Fields) (board : Board) (entries : ℕ → List Entry) → board ≡ board_of now.grid → AreReadsOf entries now.words → IsChange before now action change → IsSetting board entries now.words
setting_of before now action change board entries same read is =
    subst (λ b. IsSetting b entries now.words) (sym same) (record { laid_out = is.formed_now.board; apart = slots_apart now.grid; words = is.formed_now.dictionary; read = read })

matching_of : (before now : State) (board : Board) → board ≡ board_of now.grid → now.grid.width ≡ before.grid.width → IsMatching (board_of before.grid) board (same_light before.grid now.grid)
matching_of before now board same wide = subst (λ b. IsMatching (board_of before.grid) b (same_light before.grid now.grid)) (sym same) (same_is_matching before.grid now.grid wide)

begun_of : (before now : State) (action : Action) (settled net : Net) (board : Board) → board ≡ board_of now.grid → IsOpened before now action settled net
    → IsBegun (board_of before.grid) board before.words now.words (same_light before.grid now.grid) (word_stands settled) (letter_stands settled) (word_stands net) (letter_stands net) (is_marked net.chain.marks)
begun_of before now action settled net board same opened =
    subst (λ b. IsBegun (board_of before.grid) b before.words now.words (same_light before.grid now.grid) (word_stands settled) (letter_stands settled) (word_stands net) (letter_stands net) (is_marked net.chain.marks)) (sym same) opened.begun

base_of : (before now : State) (action : Action) (settled net : Net) (board : Board) → board ≡ board_of now.grid → IsOpened before now action settled net → IsBase board now.words net.base.items
base_of before now action settled net board same opened = subst (λ b. IsBase b now.words net.base.items) (sym same) opened.is_base

ready_of : (before now : State) (action : Action) (settled net : Net) (board : Board) → board ≡ board_of now.grid → IsOpened before now action settled net → IsReadyBut board now.words (marks_of net) (is_marked net.chain.marks)
ready_of before now action settled net board same opened = subst (λ b. IsReadyBut b now.words (marks_of net) (is_marked net.chain.marks)) (sym same) opened.ready

cost_of : (now : State) (member : List ℕ → Bool) (board : Board) (entries : ℕ → List Entry) → board ≡ board_of now.grid → entries ≡ known_words now.words
    → base_cost board entries (λ light. member (light_at board light)) ≡ base_cost (board_of now.grid) (known_words now.words) (λ light. member (light_at (board_of now.grid) light))
cost_of now member board entries same read =
    ap (λ b. base_cost b entries (λ light. member (light_at b light))) same ∙ ap (λ es. base_cost (board_of now.grid) es (λ light. member (light_at (board_of now.grid) light))) read

pub returns-clause-queue : goal.returns-clause-queue
unfolding queued_in
returns-clause-queue g c = subst (λ (net : Net). IsQueue net) (sym c.unmark.ensures.rest) (c.bring_back.ensures.queue c.begin.ensures.begun.queue)

pub returns-clause-revived : goal.returns-clause-revived
unfolding word_stands letter_stands held_in restart_in pending_in queued_in is_marked
returns-clause-revived g c before words action settled read is filled moved room base_room =
    let board = c.args.board.now in
    let opened = c.begin.ensures.opened before words action settled read is filled moved in
    let setting = setting_of before (record { grid = c.args.grid.now; words = words }) action (fields_of c.args.lights.now c.args.change.now) c.args.board.now (g.R.Rows.entries c.args.rows.now) c.requires.boards read is in
    let is_base = base_of before (record { grid = c.args.grid.now; words = words }) action settled c.begin.new.self c.args.board.now c.requires.boards opened in
    let begun = begun_of before (record { grid = c.args.grid.now; words = words }) action settled c.begin.new.self c.args.board.now c.requires.boards opened in
    let covers = c.bring_back.ensures.covers (board_of before.grid) before.words words (same_light before.grid c.args.grid.now) (word_stands settled) (letter_stands settled) is_base
    (matching_of before (record { grid = c.args.grid.now; words = words }) c.args.board.now c.requires.boards is.width) filled.exact begun in
    let start = ready_of before (record { grid = c.args.grid.now; words = words }) action settled c.begin.new.self c.args.board.now c.requires.boards opened in
    let ready = c.bring_back.ensures.ready (g.R.Rows.entries c.args.rows.now) words setting is_base start covers in
    let words_read : (light : ℕ) → length (g.R.Rows.entries c.args.rows.now (length (light_at c.args.board.now light))) ≡ length (known_words words (length (light_at c.args.board.now light))) =
    λ light. ap (λ (entries : List Entry). length entries) (read (length (light_at board light))) in
    let whole : IsWholeNet c.args.board.now (known_words words) c.begin.new.self = record {
      shaped = c.begin.ensures.begun.sized.shaped;
      chained = c.begin.ensures.begun.sized.chained;
      bits = λ light lt. c.begin.ensures.begun.sized.bits light lt ∙ words_read light;
      base = base_read board (g.R.Rows.entries c.args.rows.now) (known_words words) c.begin.new.self.base.items read c.begin.ensures.begun.sized.base;
      room = λ light lt. omega (arith, room light lt, c.begin.ensures.begun.room.rows light, words_read light);
      base_room = λ light lt. omega (arith, base_room light lt, c.begin.ensures.begun.room.base light, words_read light);
    } in
    let none_pending : (slot letter : ℕ) → pending_in c.begin.new.self slot letter ≡ false =
    λ slot letter. c.begin.ensures.begun.pending slot letter (ap (λ ps. set_has ps slot letter) moved.pending ∙ filled.pending slot letter) in
    let brought = c.bring_back.ensures.brought words is_base in
    let unstripped = brought_unstripped board words c.begin.new.self c.bring_back.new.self c.unmark.new.self whole is_base
    (c.unmark.ensures.shaped board c.bring_back.ensures.shaped) (c.unmark.ensures.chained board c.bring_back.ensures.chained)
    (c.bring_back.ensures.bits (known_words words) whole.bits) c.bring_back.ensures.base c.unmark.ensures.empty c.bring_back.ensures.row_room (is_marked c.bring_back.new.self.chain.marks) brought
    ready start.hits none_pending c.unmark.ensures.rest c.unmark.ensures.marked in
    record {
      unstripped = subst (λ b. IsUnstripped b words c.unmark.new.self) c.requires.boards unstripped;
      queued = λ member region light on.
          let seeds : (l : ℕ) → is_marked c.begin.new.self.chain.marks l ≡ true → member (light_at c.args.board.now l) ≡ true =
          λ l marked. ap (λ b. member (light_at b l)) c.requires.boards ∙ opened.within member region l marked in
          let chain = c.bring_back.ensures.region before (record { grid = c.args.grid.now; words = words }) action member (word_stands settled) (letter_stands settled) c.requires.boards region filled.exact begun.letters_kept seeds in
          let back : queued_in c.bring_back.new.self light ≡ true = ap (λ (net : Net). queued_in net light) (sym c.unmark.ensures.rest) ∙ on in
          elim (cases_Bool (is_marked c.bring_back.new.self.chain.marks light)) [
            | inl marked ↦ ap (λ b. member (light_at b light)) (sym c.requires.boards) ∙ chain light marked
            | inr off ↦ opened.queued_within member region light (sym (brought.queued_off light off) ∙ back)
          ];
    }

pub returns-clause-cost : goal.returns-clause-cost
returns-clause-cost g c before words action settled member read is filled moved region =
    let opened = c.begin.ensures.opened before words action settled read is filled moved in
    let entries : g.R.Rows.entries c.args.rows.now ≡ known_words words = λ t. λ len. read len t in
    let read_within : (light : ℕ) → light < length c.args.board.now.lights → is_read c.args.board.now (word_of c.args.change.now) (is_marked c.begin.new.self.queue.marks) light ≡ true → member (light_at c.args.board.now light) ≡ true =
    λ light in_board is_in. elim (or_cases (is_marked c.begin.new.self.queue.marks light) (is_long (word_of c.args.change.now) (length (light_at c.args.board.now light))) is_in) [
      | inl on ↦ ap (λ b. member (light_at b light)) c.requires.boards ∙ opened.queued_within member region light on
      | inr long ↦
          let word = long_word (word_of c.args.change.now) (length (light_at c.args.board.now light)) long in
          ap (λ b. member (light_at b light)) c.requires.boards
          ∙ long_within before (record { grid = c.args.grid.now; words = words }) action (fields_of c.args.lights.now c.args.change.now) is member region (length (light_at c.args.board.now light)) word.0 light word.1
          (subst (λ (b : Board). light < length b.lights) c.requires.boards in_board) (ap (λ b. length (light_at b light)) (sym c.requires.boards))
    ] in
    let reading = c.begin.ensures.cost (λ light. member (light_at c.args.board.now light)) read_within in
    let bases = cost_of (record { grid = c.args.grid.now; words = words }) member c.args.board.now (g.R.Rows.entries c.args.rows.now) c.requires.boards entries in
    omega (arith, reading, bases, revival-is (record { grid = c.args.grid.now; words = words }) member)
