use Rattle.std.proofs.Common.{◌≡◌, ◌<◌, ℕ, true, length, set, sym, ap, ◌∙◌, inl, inr, arith}
use Rattle.std.proofs.lemmas.Bool.{cases_eq}
use Rattle.std.proofs.lemmas.List.{length-set, get_or-set_other}
use Rattle.xw_letters.specs.Letter.{is_capital}
use Rattle.xw_feas.specs.Flags.{set_has}
use Rattle.xw_net.specs.Marks.{slot_at}
use Rattle.xw_net.proofs.Revivals.LettersComeBack.{set_has-here, set_has-there}
use Rattle.xw_net.proofs.spread.restart_light.Goals as goal

pub loop-position-preserved : goal.loop-position-preserved
loop-position-preserved c =
    let inv = c.loop-position.invariant in
    let slot = c.position_of-slot.result.slot in
    let is : c.position_of-slot.result.slot ≡ slot_at c.args.board.now c.args.light c.loop-position.position = c.position_of-slot.ensures.slot in
    let below : c.position_of-slot.result.slot < length c.loop-position.restart = omega (arith, c.position_of-slot.ensures.in_slots, c.requires.slots, inv.len) in
    let here : (letter : ℕ) → is_capital letter ≡ true → set_has (set c.loop-position.restart c.position_of-slot.result.slot c.all.result) c.position_of-slot.result.slot letter ≡ true =
    λ letter capital. set_has-here c.loop-position.restart c.position_of-slot.result.slot c.all.result letter below ∙ c.all.ensures letter ∙ capital in
    let keeps : (other letter : ℕ) → is_capital letter ≡ true → set_has c.loop-position.restart other letter ≡ true → set_has (set c.loop-position.restart c.position_of-slot.result.slot c.all.result) other letter ≡ true =
    λ other letter capital had.
    elim (cases_eq other c.position_of-slot.result.slot) [
      | inl e ↦ ap (λ s. set_has (set c.loop-position.restart c.position_of-slot.result.slot c.all.result) s letter) e ∙ here letter capital
      | inr n ↦ set_has-there c.loop-position.restart c.position_of-slot.result.slot other c.all.result letter n ∙ had
    ] in
    record {
      len = length-set c.loop-position.restart c.position_of-slot.result.slot c.all.result ∙ inv.len;
      on = λ position letter lt capital.
          elim (cases_eq position c.loop-position.position) [
            | inl e ↦ ap (λ p. set_has (set c.loop-position.restart c.position_of-slot.result.slot c.all.result) (slot_at c.args.board.now c.args.light p) letter) e ∙ ap (λ s. set_has (set c.loop-position.restart c.position_of-slot.result.slot c.all.result) s letter) (sym is) ∙ here letter capital
            | inr n ↦ keeps (slot_at c.args.board.now c.args.light position) letter capital (inv.on position letter (omega arith) capital)
          ];
      off = λ other none.
          get_or-set_other c.loop-position.restart c.position_of-slot.result.slot other c.all.result 0 (λ e. none c.loop-position.position (omega arith) (sym is ∙ sym e))
          ∙ inv.off other (λ position lt at. none position (omega arith) at);
      more = λ other letter capital had. keeps other letter capital (inv.more other letter capital had);
    }

pub returns-clause-on : goal.returns-clause-on
returns-clause-on c position letter lt capital = c.loop-position.invariant.on position letter (omega (arith, c.loop-position-test.false, c.len-position-end.ensures, ap length c.light.ensures.cells)) capital

pub returns-clause-off : goal.returns-clause-off
returns-clause-off c slot none = c.loop-position.invariant.off slot (λ position lt at. none position (omega (arith, c.loop-position.auto.position-end, c.len-position-end.ensures, ap length c.light.ensures.cells)) at)
