use Rattle.std.proofs.Common.{◌≡◌, ◌<◌, ◌+◌, ◌*◌, ℕ, not, ◌||◌, ◌&&◌, eqb, Some, length, get_or, set, refl, ap, ◌∙◌, arith}
use Rattle.std.proofs.lemmas.List.{get_or_default}
use Rattle.xw_letters.specs.LetterSet.{has}
use Rattle.xw_feas.specs.Board.{light_at}
use Rattle.xw_feas.specs.Flags.{set_has, set_sum}
use Rattle.xw_net.specs.Marks.{side_of, cell_at}
use Rattle.xw_net.specs.Nets.{marks_of, pending_in, queued_in, letter_stands}
use Rattle.xw_net.specs.declared.net.Net.{Net}
use Rattle.std.specs.Vec.{with_item}
use Rattle.xw_net.proofs.Stripping.SearchStarts.{without_letter}
use Rattle.xw_net.proofs.Stripping.RemovedLetters.{sum-less, crossed_drops, alone_drops}
use Rattle.xw_net.proofs.net.Net.drop_letter.Goals as goal

pub returns-in-Some-clause-fewer : goal.returns-in-Some-clause-fewer
unfolding letter_stands
returns-in-Some-clause-fewer c =
    let sets = c.args.self.now.letters.items in
    let cell = c.args.here.cell in
    let within : cell < length sets = omega (arith, c.requires.there.in_board, c.requires.shaped.letters) in
    let set_is : c.index_mut.result.now ≡ get_or sets cell 0 = c.index_mut.ensures.value ∙ get_or_default sets cell c.index_mut.result.now 0 within in
    let less : c.remove.new.self < get_or sets cell 0 = omega (arith, set_is, c.remove.ensures.fewer (ap (λ s. has s c.args.letter) set_is ∙ c.requires.stood)) in
    omega (arith, sum-less sets cell c.remove.new.self within less, c.leave_pending.ensures.longer, ap (λ (net : Net). set_sum net.letters.items) c.leave_pending.ensures.same)

pub returns-in_default-clause-fewer : goal.returns-in_default-clause-fewer
unfolding letter_stands
returns-in_default-clause-fewer c =
    let sets = c.args.self.now.letters.items in
    let cell = c.args.here.cell in
    let within : cell < length sets = omega (arith, c.requires.there.in_board, c.requires.shaped.letters) in
    let set_is : c.index_mut.result.now ≡ get_or sets cell 0 = c.index_mut.ensures.value ∙ get_or_default sets cell c.index_mut.result.now 0 within in
    let less : c.remove.new.self < get_or sets cell 0 = omega (arith, set_is, c.remove.ensures.fewer (ap (λ s. has s c.args.letter) set_is ∙ c.requires.stood)) in
    omega (arith, sum-less sets cell c.remove.new.self within less)

pub returns-in-Some-clause-waits : goal.returns-in-Some-clause-waits
unfolding queued_in
returns-in-Some-clause-waits c other waits = c.leave_pending.ensures.waits other waits

pub returns-in_default-clause-waits : goal.returns-in_default-clause-waits
unfolding queued_in
returns-in_default-clause-waits c other waits is = waits is

pub returns-in-Some-clause-drops : goal.returns-in-Some-clause-drops
unfolding letter_stands pending_in queued_in
returns-in-Some-clause-drops c =
    let old = c.args.self.now in
    let sets = old.letters.items in
    let cell = c.args.here.cell in
    let letter = c.args.letter in
    let board = c.args.board.now in
    let i = c.args.here.light in
    let q = c.args.here.position in
    let other = c.in-Some.other in
    let within : cell < length sets = omega (arith, c.requires.there.in_board, c.requires.shaped.letters) in
    let set_is : c.index_mut.result.now ≡ get_or sets cell 0 = c.index_mut.ensures.value ∙ get_or_default sets cell c.index_mut.result.now 0 within in
    let removed : (d : ℕ) → has c.remove.new.self d ≡ (set_has c.args.self.now.letters.items c.args.here.cell d && not (eqb d c.args.letter)) = λ d.
    c.remove.ensures.removed d ∙ ap (λ s. has s d && not (eqb d c.args.letter)) set_is in
    let letters : (y d : ℕ) → set_has c.leave_pending.new.self.letters.items y d ≡ (set_has c.args.self.now.letters.items y d && not (eqb y (cell_at c.args.board.now c.args.here.light c.args.here.position) && eqb d c.args.letter)) = λ y d.
    ap (λ (net : Net). set_has net.letters.items y d) c.leave_pending.ensures.same
    ∙ without_letter sets cell c.remove.new.self letter within removed y d
    ∙ ap (λ x. set_has sets y d && not (eqb y x && eqb d letter)) c.requires.there.cell in
    let pending : (s d : ℕ) → set_has c.leave_pending.new.self.pending.items s d ≡ (set_has c.args.self.now.pending.items s d || (eqb s (2 * cell_at c.args.board.now c.args.here.light c.args.here.position + side_of (light_at c.args.board.now c.in-Some.other)) && eqb d c.args.letter)) = λ s d.
    c.leave_pending.ensures.pending s d
    ∙ ap (λ x. set_has old.pending.items s d || (eqb s (2 * x + side_of (light_at board other)) && eqb d letter)) c.requires.there.cell in
    crossed_drops board i q letter c.requires.there.position (marks_of old) (marks_of c.leave_pending.new.self) letters other c.in-Some.ensures.other
    (λ one at. let e : Some c.in-Some.other ≡ Some one = c.in-Some.ensures.only one at in cc) pending c.leave_pending.ensures.queued

pub returns-in_default-clause-drops : goal.returns-in_default-clause-drops
unfolding letter_stands pending_in queued_in
returns-in_default-clause-drops c =
    let old = c.args.self.now in
    let sets = old.letters.items in
    let cell = c.args.here.cell in
    let letter = c.args.letter in
    let board = c.args.board.now in
    let i = c.args.here.light in
    let q = c.args.here.position in
    let new : Net = record old { letters = with_item old.letters cell c.remove.new.self } in
    let within : cell < length sets = omega (arith, c.requires.there.in_board, c.requires.shaped.letters) in
    let set_is : c.index_mut.result.now ≡ get_or sets cell 0 = c.index_mut.ensures.value ∙ get_or_default sets cell c.index_mut.result.now 0 within in
    let removed : (d : ℕ) → has c.remove.new.self d ≡ (set_has c.args.self.now.letters.items c.args.here.cell d && not (eqb d c.args.letter)) = λ d.
    c.remove.ensures.removed d ∙ ap (λ s. has s d && not (eqb d c.args.letter)) set_is in
    let letters : (y d : ℕ) → set_has (set c.args.self.now.letters.items c.args.here.cell c.remove.new.self) y d ≡ (set_has c.args.self.now.letters.items y d && not (eqb y (cell_at c.args.board.now c.args.here.light c.args.here.position) && eqb d c.args.letter)) = λ y d.
    without_letter sets cell c.remove.new.self letter within removed y d
    ∙ ap (λ x. set_has sets y d && not (eqb y x && eqb d letter)) c.requires.there.cell in
    alone_drops board i q letter c.requires.there.position (marks_of old) (marks_of new) letters
    (λ one at. c.in_default.not-Some one (c.crossing.ensures.only one at)) (λ s d. refl) (λ j. refl)
