use Rattle.std.specs.Prelude.{Option}
use Rattle.std.proofs.Common.{◌≡◌, ℕ, List, length, sym, ap, subst, ◌∙◌, arith}
use Rattle.std.proofs.lemmas.Bool.{false_from_ne_true, both_ways}
use Rattle.std.proofs.lemmas.List.{with_items_is}
use Rattle.xw_words.specs.Dictionary.{Entry, known_words}
use Rattle.xw_grid.specs.declared.lights.Light.{Light}
use Rattle.xw_grid.specs.Grid.{Grid}
use Rattle.xw_grid.specs.Light.{lights_of}
use Rattle.xw_feas.specs.Board.{Board, board_of, light_at}
use Rattle.xw_feas.specs.Flags.{set_has}
use Rattle.xw_feas.proofs.BoardLemmas.{length-lights, length-open_cells}
use Rattle.xw_net.specs.Change.{fields_of, Fields}
use Rattle.xw_net.specs.declared.net.Net.{Net}
use Rattle.xw_net.specs.Marks.{AreSlotsApart}
use Rattle.xw_net.specs.Nets.{pending_in, queued_in}
use Rattle.xw_net.specs.Renumber.{same_before}
use Rattle.xw_net.specs.Worklist.{is_marked}
use Rattle.xw_net.specs.Inner.Forget.{lost_from, Forgets}
use Rattle.xw_net.specs.Opened.{Arrays, IsOpening}
use Rattle.xw_net.proofs.Nets.SlotsApart.{slots_apart}
use Rattle.xw_net.specs.Begin.{filled_of}
use Rattle.xw_net.proofs.Revivals.FilledCell.{fills_one}
use Rattle.xw_net.proofs.Revivals.OpenedNet.{opens}
use Rattle.xw_net.proofs.net.Net.begin.Goals as goal

abbrev Lost : Fields → Board → List Light → (ℕ → List Entry) → List ℕ → List ℕ → List ℕ → List ℕ → Type 0
Lost change board lights entries held held' pending pending' =
    Forgets board (λ light. lost_from change.word (same_before change.before lights light) (length (light_at board light)) (length (entries (length (light_at board light))))) held held' pending pending'

-- the same for equal boards, lights and words
opening_of : (grid : Grid) (change : Fields) (cell : Option ℕ) (old new : Arrays) (board board' : Board) (lights lights' : List Light) (entries entries' : ℕ → List Entry) → board ≡ board' → lights ≡ lights' → entries ≡ entries'
    → IsOpening grid board lights entries change cell old new → IsOpening grid board' lights' entries' change cell old new
opening_of grid change cell old new board board' lights lights' entries entries' b l e opening =
    subst (λ es. IsOpening grid board' lights' es change cell old new) e (subst (λ ls. IsOpening grid board' ls entries change cell old new) l (subst (λ bs. IsOpening grid bs lights entries change cell old new) b opening))

lost_of : (change : Fields) (held held' pending pending' : List ℕ) (board board' : Board) (lights lights' : List Light) (entries entries' : ℕ → List Entry) → board ≡ board' → lights ≡ lights' → entries ≡ entries'
    → Lost change board lights entries held held' pending pending' → Lost change board' lights' entries' held held' pending pending'
lost_of change held held' pending pending' board board' lights lights' entries entries' b l e lost =
    subst (λ es. Lost change board' lights' es held held' pending pending') e (subst (λ ls. Lost change board' ls entries held held' pending pending') l (subst (λ bs. Lost change bs lights entries held held' pending pending') b lost))

lost_by : (change : Fields) (board : Board) (lights : List Light) (entries : ℕ → List Entry) (held held-2 held' held'-2 pending pending-2 pending' pending'-2 : List ℕ) → held ≡ held-2 → held' ≡ held'-2 → pending ≡ pending-2 → pending' ≡ pending'-2
    → Lost change board lights entries held held' pending pending' → Lost change board lights entries held-2 held'-2 pending-2 pending'-2
lost_by change board lights entries held held-2 held' held'-2 pending pending-2 pending' pending'-2 a b d e lost =
    subst (λ x. Lost change board lights entries held-2 held'-2 pending-2 x) e (subst (λ x. Lost change board lights entries held-2 held'-2 x pending') d
    (subst (λ x. Lost change board lights entries held-2 x pending pending') b (subst (λ x. Lost change board lights entries x held' pending pending') a lost)))

as_many : (grid : Grid) (board : Board) (lights : List Light) → board ≡ board_of grid → lights ≡ lights_of grid → length lights ≡ length board.lights
as_many grid board lights b l = ap length l ∙ sym (length-lights grid) ∙ sym (ap (λ (of_grid : Board). length of_grid.lights) b)

pub forget_lights-requires-clause-lights : goal.forget_lights-requires-clause-lights
forget_lights-requires-clause-lights g c = as_many c.args.grid.now c.args.board.now c.args.lights.now c.requires.boards c.requires.are_lights

pub forget_lights-requires-clause-apart : goal.forget_lights-requires-clause-apart
forget_lights-requires-clause-apart g c = subst AreSlotsApart (sym c.requires.boards) (slots_apart c.args.grid.now)

pub open-requires-clause-cells : goal.open-requires-clause-cells
open-requires-clause-cells g c = sym (length-open_cells c.args.grid.now) ∙ sym (ap (λ (b : Board). length b.open_cells) c.requires.boards)

pub open-requires-clause-lights : goal.open-requires-clause-lights
open-requires-clause-lights g c = as_many c.args.grid.now c.args.board.now c.args.lights.now c.requires.boards c.requires.are_lights

pub forget_lights-requires-clause-few : goal.forget_lights-requires-clause-few
forget_lights-requires-clause-few g c = c.requires.sized.shaped.few_cells

pub forget_lights-requires-clause-held : goal.forget_lights-requires-clause-held
forget_lights-requires-clause-held g c = c.deref_mut.ensures.len ∙ c.requires.sized.shaped.held

pub forget_lights-requires-clause-pending : goal.forget_lights-requires-clause-pending
forget_lights-requires-clause-pending g c = c.deref_mut-2.ensures.len ∙ c.requires.sized.shaped.pending

pub returns-clause-opened : goal.returns-clause-opened
returns-clause-opened g c before words action settled read is filled moved =
    let entries : g.R.Rows.entries c.args.rows.now ≡ known_words words = λ t. λ len. read len t in
    let rest = c.open.ensures.rest in
    let held = ap (λ (net : Net). net.held.items) rest ∙ with_items_is c.args.self.now.held c.forget_lights.new.held (omega (arith, c.forget_lights.auto.held, c.deref_mut.ensures.len)) in
    let pending = ap (λ (net : Net). net.pending.items) rest ∙ with_items_is c.args.self.now.pending c.forget_lights.new.pending (omega (arith, c.forget_lights.auto.pending, c.deref_mut-2.ensures.len)) in
    let opening = opening_of c.args.grid.now (fields_of c.args.lights.now c.args.change.now) (filled_of c.args.grid.now c.args.board.now c.args.change.now) _ _ c.args.board.now (board_of c.args.grid.now) c.args.lights.now (lights_of c.args.grid.now) (g.R.Rows.entries c.args.rows.now) (known_words words) c.requires.boards c.requires.are_lights entries
    c.open.ensures.opening in
    let lost = lost_of (fields_of c.args.lights.now c.args.change.now) _ _ _ _ c.args.board.now (board_of c.args.grid.now) c.args.lights.now (lights_of c.args.grid.now) (g.R.Rows.entries c.args.rows.now) (known_words words) c.requires.boards c.requires.are_lights entries
    (lost_by (fields_of c.args.lights.now c.args.change.now) c.args.board.now c.args.lights.now (g.R.Rows.entries c.args.rows.now) c.deref_mut.result.now c.args.self.now.held.items c.forget_lights.new.held _ c.deref_mut-2.result.now c.args.self.now.pending.items c.forget_lights.new.pending _
    c.deref_mut.ensures.value (sym held) c.deref_mut-2.ensures.value (sym pending) c.forget_lights.ensures) in
    opens before (record { grid = c.args.grid.now; words = words }) action (fields_of c.args.lights.now c.args.change.now) is settled c.args.self.now c.open.new.self filled filled.holding moved opening lost
    (ap (λ (net : Net). net.entered.items) rest) (ap (λ (net : Net). net.restart.items) rest) c.requires.inside
    (λ filled some. fills_one c.args.grid.now c.args.board.now c.args.lights.now c.args.change.now filled c.requires.are_lights some)

pub returns-clause-begun : goal.returns-clause-begun
unfolding queued_in is_marked pending_in
returns-clause-begun g c = record {
  sized = c.open.ensures.sized;
  queue = λ light on. sym (c.open.ensures.opening.listed light) ∙ on;
  seeds = c.open.ensures.opening.seeds;
  spare = ap (λ (net : Net). net.spare) c.open.ensures.rest;
  pending = λ slot letter gone.
      let pending = with_items_is c.args.self.now.pending c.forget_lights.new.pending (omega (arith, c.forget_lights.auto.pending, c.deref_mut-2.ensures.len)) in
      ap (λ (net : Net). set_has net.pending.items slot letter) c.open.ensures.rest ∙ ap (λ ps. set_has ps slot letter) pending
      ∙ false_from_ne_true (set_has c.forget_lights.new.pending slot letter) (λ pends.
      both_ways (set_has c.args.self.now.pending.items slot letter) gone (ap (λ ps. set_has ps slot letter) (sym c.deref_mut-2.ensures.value) ∙ c.forget_lights.ensures.less slot letter pends));
  room = record { rows = c.open.ensures.room.rows; base = c.open.ensures.room.base };
}
