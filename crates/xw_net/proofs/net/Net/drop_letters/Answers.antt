use Rattle.std.proofs.Common.{◌≡◌, ◌<◌, ◌+◌, ◌*◌, not, ◌||◌, ◌&&◌, eqb, Some, length, get_or, refl, ap, ◌∙◌, arith}
use Rattle.std.proofs.lemmas.List.{get_or_default}
use Rattle.xw_letters.specs.LetterSet.{has}
use Rattle.xw_feas.specs.Board.{light_at}
use Rattle.xw_feas.specs.Flags.{set_has, set_sum}
use Rattle.xw_net.specs.Marks.{side_of}
use Rattle.xw_net.specs.Marks.LeavesPending.{crossed, alone}
use Rattle.xw_net.specs.Nets.{pending_in, queued_in, letter_stands}
use Rattle.xw_net.specs.declared.net.Net.{Net}
use Rattle.xw_net.proofs.Stripping.RemovedLetters.{sum-less}
use Rattle.xw_net.proofs.Stripping.SearchStarts.{without_letters}
use Rattle.xw_net.proofs.net.Net.drop_letters.Goals as goal

pub returns-in-Some-clause-fewer : goal.returns-in-Some-clause-fewer
unfolding letter_stands
returns-in-Some-clause-fewer c =
    let sets = c.args.self.now.letters.items in
    let cell = c.args.here.cell in
    let within : cell < length sets = omega (arith, c.requires.there.in_board, c.requires.shaped.letters) in
    let alive_is : c.index-alive.result.now ≡ get_or sets cell 0 = c.index-alive.ensures ∙ get_or_default sets cell c.index-alive.result.now 0 within in
    let less = c.without.ensures.fewer c.requires.some.0 (ap (λ s. has s c.requires.some.0) alive_is ∙ c.requires.stood c.requires.some.0 c.requires.some.1) c.requires.some.1 in
    omega (arith, sum-less sets cell c.without.result within (omega (arith, less, alive_is)), c.leave_all_pending.ensures.longer, ap (λ (net : Net). set_sum net.letters.items) c.leave_all_pending.ensures.same)

pub returns-in_default-clause-fewer : goal.returns-in_default-clause-fewer
unfolding letter_stands
returns-in_default-clause-fewer c =
    let sets = c.args.self.now.letters.items in
    let cell = c.args.here.cell in
    let within : cell < length sets = omega (arith, c.requires.there.in_board, c.requires.shaped.letters) in
    let alive_is : c.index-alive.result.now ≡ get_or sets cell 0 = c.index-alive.ensures ∙ get_or_default sets cell c.index-alive.result.now 0 within in
    let less = c.without.ensures.fewer c.requires.some.0 (ap (λ s. has s c.requires.some.0) alive_is ∙ c.requires.stood c.requires.some.0 c.requires.some.1) c.requires.some.1 in
    omega (arith, sum-less sets cell c.without.result within (omega (arith, less, alive_is)))

pub returns-in-Some-clause-waits : goal.returns-in-Some-clause-waits
unfolding queued_in
returns-in-Some-clause-waits c other waits = c.leave_all_pending.ensures.waits other waits

pub returns-in_default-clause-waits : goal.returns-in_default-clause-waits
unfolding queued_in
returns-in_default-clause-waits c other waits is = waits is

pub returns-in-Some-clause-letters : goal.returns-in-Some-clause-letters
unfolding letter_stands
returns-in-Some-clause-letters c y d =
    let sets = c.args.self.now.letters.items in
    let within : c.args.here.cell < length sets = omega (arith, c.requires.there.in_board, c.requires.shaped.letters) in
    let alive_is : c.index-alive.result.now ≡ get_or sets c.args.here.cell 0 = c.index-alive.ensures ∙ get_or_default sets c.args.here.cell c.index-alive.result.now 0 within in
    ap (λ (net : Net). set_has net.letters.items y d) c.leave_all_pending.ensures.same
    ∙ without_letters sets c.args.here.cell c.without.result c.args.gone within (λ other. c.without.ensures.rest other ∙ ap (λ s. has s other && not (has c.args.gone other)) alive_is) y d
    ∙ ap (λ x. set_has sets y d && not (eqb y x && has c.args.gone d)) c.requires.there.cell

pub returns-in_default-clause-letters : goal.returns-in_default-clause-letters
unfolding letter_stands
returns-in_default-clause-letters c y d =
    let sets = c.args.self.now.letters.items in
    let within : c.args.here.cell < length sets = omega (arith, c.requires.there.in_board, c.requires.shaped.letters) in
    let alive_is : c.index-alive.result.now ≡ get_or sets c.args.here.cell 0 = c.index-alive.ensures ∙ get_or_default sets c.args.here.cell c.index-alive.result.now 0 within in
    without_letters sets c.args.here.cell c.without.result c.args.gone within (λ other. c.without.ensures.rest other ∙ ap (λ s. has s other && not (has c.args.gone other)) alive_is) y d
    ∙ ap (λ x. set_has sets y d && not (eqb y x && has c.args.gone d)) c.requires.there.cell

pub returns-in-Some-clause-leaves : goal.returns-in-Some-clause-leaves
unfolding letter_stands pending_in queued_in
returns-in-Some-clause-leaves c =
    let old = c.args.self.now in
    let board = c.args.board.now in
    let other = c.in-Some.other in
    crossed other c.in-Some.ensures.other
    (λ one at. let e : Some c.in-Some.other ≡ Some one = c.in-Some.ensures.only one at in cc)
    (λ s d.
    c.leave_all_pending.ensures.pending s d
    ∙ ap (λ x. set_has old.pending.items s d || (eqb s (2 * x + side_of (light_at board other)) && has c.args.gone d)) c.requires.there.cell)
    c.leave_all_pending.ensures.queued

pub returns-in_default-clause-leaves : goal.returns-in_default-clause-leaves
unfolding letter_stands pending_in queued_in
returns-in_default-clause-leaves c =
    alone (λ one at. c.in_default.not-Some one (c.crossing.ensures.only one at)) (λ s d. refl) (λ j. refl)
