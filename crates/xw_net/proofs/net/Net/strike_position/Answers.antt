use Rattle.std.proofs.Common.{◌≡◌, ◌+◌, ◌*◌, ◌<◌, ◌≤◌, false, not, ◌&&◌, cond, Some, length, get_or, set, slice_get, refl, sym, ap, ◌∙◌, subst, arith}
use Rattle.std.specs.Prelude.{unwrap_or}
use Rattle.std.proofs.lemmas.List.{get_or_default}
use Rattle.std.proofs.lemmas.Option.{slice_get_read}
use Rattle.xw_letters.specs.LetterSet.{has}
use Rattle.xw_feas.specs.Board.{entry, light_at}
use Rattle.xw_net.specs.Region.{chunks_of}
use Rattle.xw_net.specs.Marks.{cell_at, slot_at}
use Rattle.xw_net.specs.Due.{chunks, sum_letters}
use Rattle.xw_net.specs.Support.{letter_count, AreApart, Strikes}
use Rattle.xw_net.specs.Nets.{marks_of, pending_in, bits_at}
use Rattle.xw_net.specs.declared.net.Net.{Net}
use Rattle.std.specs.Vec.{with_item}
use Rattle.xw_net.proofs.Stripping.SearchStarts.{emptied}
use Rattle.xw_net.proofs.Stripping.WordsByNumber.{net_struck, bits_known}
use Rattle.xw_net.proofs.Stripping.StepsKeepInvariant.{strike_kept, strike_paid}
use Rattle.xw_net.proofs.net.Net.strike_position.Goals as goal

pub returns-clause-cleared : goal.returns-clause-cleared
unfolding pending_in
returns-clause-cleared g c letter =
    let here = c.args.here in
    let there = c.requires.there in
    emptied c.args.self.now.pending.items here.slot c.new.result (omega (arith, there.in_slots, c.requires.net.shaped.pending)) c.new.ensures
    (slot_at c.args.board.now here.light here.position) letter (λ n. absurd (n (sym there.slot)))

pub returns-clause-less : goal.returns-clause-less
unfolding pending_in
returns-clause-less g c slot letter gone =
    emptied c.args.self.now.pending.items c.args.here.slot c.new.result (omega (arith, c.requires.there.in_slots, c.requires.net.shaped.pending)) c.new.ensures slot letter (λ n. gone)

pub returns-clause-kept : goal.returns-clause-kept
unfolding pending_in letter_count
returns-clause-kept g c dictionary measure setting queued in_set under =
    let there = c.requires.there in
    let board = c.args.board.now in
    let here = c.args.here in
    let i = here.light in
    let q = here.position in
    let old = c.args.self.now in
    let first = c.index_mut-2.result.now in
    let second = c.strike_row.new.row in
    let pending = c.index-pending.result.now in
    let alive = c.index-alive.result.now in
    let flag = c.index_mut-3.result.now && not c.has.result in
    let new : Net = record old { rows = with_item old.rows i second; entered = with_item old.entered i flag; pending = with_item old.pending here.slot c.new.result } in
    let in_slots : here.slot < length old.pending.items = omega (arith, there.in_slots, c.requires.net.shaped.pending) in
    let in_cells : here.cell < length old.letters.items = omega (arith, there.in_board, c.requires.net.shaped.letters) in
    let in_entered : i < length old.entered.items = omega (arith, there.position.0, c.requires.net.shaped.entered) in
    let in_rows : i < length old.rows.items = omega (arith, there.position.0, c.requires.net.shaped.rows) in
    let row_is : slice_get old.rows.items i ≡ Some first = slice_get_read old.rows.items (length old.rows.items) i first refl in_rows c.index_mut-2.ensures.value in
    let pending_is : pending ≡ get_or old.pending.items (slot_at board i q) 0 =
    c.index-pending.ensures ∙ get_or_default old.pending.items here.slot pending 0 in_slots ∙ ap (λ s. get_or old.pending.items s 0) there.slot in
    let alive_is : alive ≡ get_or old.letters.items (cell_at board i q) 0 =
    c.index-alive.ensures ∙ get_or_default old.letters.items here.cell alive 0 in_cells ∙ ap (λ s. get_or old.letters.items s 0) there.cell in
    let flag_is : flag ≡ (get_or old.entered.items i false && not (has pending (unwrap_or (entry board (cell_at board i q)) 65))) =
    ap (λ b. b && not c.has.result) (c.index_mut-3.ensures.value ∙ get_or_default old.entered.items i c.index_mut-3.result.now false in_entered)
    ∙ ap (λ b. get_or old.entered.items i false && not b) (c.has.ensures ∙ ap (has pending) (c.letter.ensures ∙ ap (λ x. unwrap_or (entry board x) 65) there.cell)) in
    let strikes : AreApart pending alive → Strikes (g.R.Rows.entries c.args.rows.now (length (light_at board i))) q pending alive (λ w. get_or first.bits w false) (λ w. get_or second.bits w false) =
    subst (λ n. AreApart pending alive → Strikes (g.R.Rows.entries c.args.rows.now n) q pending alive (λ w. get_or first.bits w false) (λ w. get_or second.bits w false)) there.len c.strike_row.ensures.strikes in
    let pending_are : set old.pending.items here.slot c.new.result ≡ set old.pending.items (slot_at board i q) 0 =
    ap (λ s. set old.pending.items s c.new.result) there.slot ∙ ap (set old.pending.items (slot_at board i q)) c.new.ensures in
    let sound = under.kept.sound in
    let struck = net_struck board (g.R.Rows.entries c.args.rows.now) dictionary setting old new i q there.position c.requires.net.bits first second pending alive row_is refl c.strike_row.ensures.len
    in_entered (ap (set old.entered.items i) flag_is) (omega (arith, there.slot, in_slots)) pending_are refl refl refl refl pending_is alive_is strikes sound in
    let size = bits_known board (g.R.Rows.entries c.args.rows.now) dictionary setting old c.requires.net.bits i there.position.0 in
    let cost : g.R.Rows.ticks c.strike_row.new.rows ≤ g.R.Rows.ticks c.args.rows.now + chunks_of (length first.bits) * sum_letters (λ b. cond (has pending b) 1 0) = c.strike_row.ensures.cost in
    let known_size = sym (ap (λ o. length (bits_at o)) row_is) ∙ size in
    let spent : g.R.Rows.ticks c.strike_row.new.rows ≤ g.R.Rows.ticks c.args.rows.now + chunks board dictionary i * sum_letters (λ b. cond (pending_in old (slot_at board i q) b) 1 0) =
    subst (λ s. g.R.Rows.ticks c.strike_row.new.rows ≤ g.R.Rows.ticks c.args.rows.now + chunks board dictionary i * sum_letters (λ b. cond (has s b) 1 0)) pending_is
    (subst (λ n. g.R.Rows.ticks c.strike_row.new.rows ≤ g.R.Rows.ticks c.args.rows.now + chunks_of n * sum_letters (λ b. cond (has pending b) 1 0)) known_size cost) in
    record {
      kept = strike_kept board dictionary setting.apart (marks_of old) (marks_of new) i q there.position queued struck under.kept;
      paid = strike_paid board dictionary setting.apart (marks_of old) (marks_of new) i q there.position queued struck measure (g.R.Rows.ticks c.args.rows.now) (g.R.Rows.ticks c.strike_row.new.rows) sound under.paid in_set spent;
    }
