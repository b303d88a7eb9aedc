use Rattle.std.proofs.Common.{◌≡◌, ℕ, ◌+◌, ◌-◌, ◌*◌, ◌<◌, true, false, length, get_or, set, sym, ◌∙◌, ap, subst, inl, inr, arith, length-set}
use Rattle.std.proofs.lemmas.Bool.{cases_eq, cases_lt, both_ways}
use Rattle.xw_letters.specs.LetterSet.{has}
use Rattle.xw_letters.specs.Letter.{is_capital}
use Rattle.xw_letters.proofs.LetterSetLemmas.{capital_is_letter, has-none}
use Rattle.xw_feas.specs.Flags.{set_has}
use Rattle.xw_net.specs.Marks.{IsPositionIn, slot_at}
use Rattle.xw_net.specs.Inner.Forget.{cut}
use Rattle.xw_net.proofs.Revivals.LettersComeBack.{set_has-here, set_has-there}
use Rattle.xw_net.proofs.forget.forget_light.Goals as goal

-- a capital has an index below 26
number_of : (letter : ℕ) → is_capital letter ≡ true → letter - 65 < 26
number_of letter capital = let is = capital_is_letter letter capital in omega (arith, is)

pub loop-position-preserved : goal.loop-position-preserved
loop-position-preserved c =
    let inv = c.loop-position.invariant in
    let is : c.position_of-slot.result.slot ≡ slot_at c.args.board.now c.args.light c.loop-position.position = c.position_of-slot.ensures.slot in
    let here : IsPositionIn c.args.board.now c.args.light c.loop-position.position = (c.requires.light, omega (arith, c.loop-position-test.true, c.loop-position.auto.position-end, c.len-position-end.ensures, ap length c.light.ensures.cells)) in
    let below : c.position_of-slot.result.slot < length c.loop-position.pending = omega (arith, c.position_of-slot.ensures.in_slots, c.requires.pending, inv.pending) in
    let other_slot : (other letter : ℕ) → (other ≡ c.position_of-slot.result.slot → ⊥) → letter - 65 < 26 → get_or c.forget_slot.new.held (26 * other + (letter - 65)) 0 ≡ get_or c.loop-position.held (26 * other + (letter - 65)) 0 =
    λ other letter apart small. elim (cases_lt other c.position_of-slot.result.slot) [
      | inl before ↦ c.forget_slot.ensures.others (26 * other + (letter - 65)) (inl (omega arith))
      | inr past ↦ c.forget_slot.ensures.others (26 * other + (letter - 65)) (inr (omega arith))
    ] in
    let empty : (letter : ℕ) → set_has (set c.loop-position.pending c.position_of-slot.result.slot c.new.result) c.position_of-slot.result.slot letter ≡ false =
    λ letter. set_has-here c.loop-position.pending c.position_of-slot.result.slot c.new.result letter below ∙ ap (λ s. has s letter) c.new.ensures ∙ has-none letter in
    record {
      held = c.forget_slot.ensures.len ∙ inv.held;
      pending = length-set c.loop-position.pending c.position_of-slot.result.slot c.new.result ∙ inv.pending;
      cuts = λ position letter lt capital. elim (cases_eq position c.loop-position.position) [
        | inl e ↦
            let P : ℕ → Type 0 = λ s. get_or c.forget_slot.new.held (26 * s + (letter - 65)) 0 ≡ cut c.args.first (get_or c.args.held.now (26 * s + (letter - 65)) 0) in
            subst P (is ∙ ap (slot_at c.args.board.now c.args.light) (sym e))
            (c.forget_slot.ensures.here (letter - 65) (number_of letter capital)
            ∙ ap (cut c.args.first) (inv.others c.position_of-slot.result.slot letter (λ earlier before at.
            let same = c.requires.apart c.args.light earlier c.args.light c.loop-position.position (here.0, omega (arith, before, here.1)) here (at ∙ is) in
            omega (arith, same.1, before)) capital))
        | inr n ↦
            other_slot (slot_at c.args.board.now c.args.light position) letter (λ at.
            let same = c.requires.apart c.args.light position c.args.light c.loop-position.position (here.0, omega (arith, lt, n, here.1)) here (at ∙ is) in
            n same.1) (number_of letter capital)
            ∙ inv.cuts position letter (omega (arith, lt, n)) capital
      ];
      others = λ slot letter none capital.
          other_slot slot letter (λ e. none c.loop-position.position (omega arith) (sym is ∙ sym e)) (number_of letter capital)
          ∙ inv.others slot letter (λ position lt at. none position (omega (arith, lt)) at) capital;
      less = λ slot letter has. elim (cases_eq slot c.position_of-slot.result.slot) [
        | inl e ↦ absurd (both_ways _ (empty letter) (ap (λ s. set_has (set c.loop-position.pending c.position_of-slot.result.slot c.new.result) s letter) (sym e) ∙ has))
        | inr n ↦ inv.less slot letter (sym (set_has-there c.loop-position.pending c.position_of-slot.result.slot slot c.new.result letter n) ∙ has)
      ];
      cleared = λ position letter lt. elim (cases_eq position c.loop-position.position) [
        | inl e ↦ ap (λ s. set_has (set c.loop-position.pending c.position_of-slot.result.slot c.new.result) s letter) (ap (slot_at c.args.board.now c.args.light) e ∙ sym is) ∙ empty letter
        | inr n ↦ elim (cases_eq (slot_at c.args.board.now c.args.light position) c.position_of-slot.result.slot) [
          | inl e ↦ ap (λ s. set_has (set c.loop-position.pending c.position_of-slot.result.slot c.new.result) s letter) e ∙ empty letter
          | inr apart ↦ set_has-there c.loop-position.pending c.position_of-slot.result.slot (slot_at c.args.board.now c.args.light position) c.new.result letter apart ∙ inv.cleared position letter (omega (arith, lt, n))
        ]
      ];
    }
