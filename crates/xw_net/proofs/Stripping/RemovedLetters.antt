-- A letter is removed from the cell at a position, with or without a crossing light.
use Rattle.std.proofs.Common.{◌≡◌, ℕ, ◌+◌, ◌*◌, ◌<◌, true, not, ◌&&◌, ◌||◌, eqb, List, length, get_or, set, refl, sym, ap, ◌∙◌, subst, inl, inr, arith}
use Rattle.std.proofs.lemmas.Bool.{and_parts, and_from, or_cases, or_left, or_right, eq-eqb, eqb-true}
use Rattle.std.proofs.lemmas.List.Sums.{sum_by-set}
use Rattle.xw_feas.specs.Board.{Board, light_at, IsCrossing}
use Rattle.xw_feas.specs.Flags.{set_sum}
use Rattle.xw_net.specs.Marks.{Marks, side_of, IsPositionIn, cell_at, slot_at, IsOther, Drops}

-- the sum of sets decreases when one of them loses a letter
pub sum-less : (sets : List ℕ) (i new : ℕ) → i < length sets → new < get_or sets i 0 → set_sum (set sets i new) < set_sum sets
sum-less sets i new within less = omega (arith, sum_by-set (λ set. set) sets i new 0 within)

module _ (board : Board) (i q b : ℕ) (position : IsPositionIn board i q) (old new : Marks)
    (letters : (y d : ℕ) → new.letters y d ≡ (old.letters y d && not (eqb y (cell_at board i q) && eqb d b))) where
  crosses : (other r : ℕ) → IsOther board i q other r → IsCrossing board i (cell_at board i q) other
  crosses other r at = record { in_board = at.position_there.0; apart = at.apart; position = r; below = at.position_there.1; meets = at.meets }

  -- with a crossing light
  module _ (other : ℕ) (crossing : IsCrossing board i (cell_at board i q) other) (only : (one : ℕ) → IsCrossing board i (cell_at board i q) one → other ≡ one)
      (pending : (s d : ℕ) → new.pending s d ≡ (old.pending s d || (eqb s (2 * cell_at board i q + side_of (light_at board other)) && eqb d b)))
      (queued : (j : ℕ) → new.queued j ≡ (old.queued j || eqb j other)) where
    the_other : (j : ℕ) → j ≡ other → IsOther board i q j crossing.position
    the_other j e = subst (λ n. IsOther board i q n crossing.position) (sym e) (record { position_there = (crossing.in_board, crossing.below); apart = crossing.apart; meets = crossing.meets })

    other_queued : new.queued other ≡ true
    other_queued = queued other ∙ or_right (old.queued other) (eqb other other) (eq-eqb other other refl)

    other_pending : (one r : ℕ) → IsOther board i q one r → new.pending (slot_at board one r) b ≡ true
    other_pending one r at =
        let same : other ≡ one = only one (crosses one r at) in
        let slots : slot_at board one r ≡ 2 * cell_at board i q + side_of (light_at board other) =
        ap (λ n. 2 * n + side_of (light_at board one)) at.meets ∙ ap (λ n. 2 * cell_at board i q + side_of (light_at board n)) (sym same) in
        pending (slot_at board one r) b
        ∙ or_right (old.pending (slot_at board one r) b) (eqb (slot_at board one r) (2 * cell_at board i q + side_of (light_at board other)) && eqb b b)
        (and_from (eqb (slot_at board one r) (2 * cell_at board i q + side_of (light_at board other))) (eqb b b) (eq-eqb (slot_at board one r) (2 * cell_at board i q + side_of (light_at board other)) slots) (eq-eqb b b refl))

    pub crossed_drops : Drops board i q b old new
    crossed_drops = record {
      letters = letters;
      crossing = other_pending;
      pending_more = λ s d h. pending s d ∙ or_left (old.pending s d) (eqb s (2 * cell_at board i q + side_of (light_at board other)) && eqb d b) h;
      pending_new = λ s d h.
          elim (or_cases (old.pending s d) (eqb s (2 * cell_at board i q + side_of (light_at board other)) && eqb d b) (sym (pending s d) ∙ h)) [
            | inl before ↦ inl before
            | inr both ↦
                let parts = and_parts (eqb s (2 * cell_at board i q + side_of (light_at board other))) (eqb d b) both in
                let is : s ≡ 2 * cell_at board i q + side_of (light_at board other) = eqb-true s (2 * cell_at board i q + side_of (light_at board other)) parts.0 in
                inr (eqb-true d b parts.1, (other, crossing.position, the_other other refl, ap (λ n. 2 * n + side_of (light_at board other)) crossing.meets ∙ sym is, other_queued))
          ];
      queued_more = λ j h. queued j ∙ or_left (old.queued j) (eqb j other) h;
      queued_new = λ j h.
          elim (or_cases (old.queued j) (eqb j other) (sym (queued j) ∙ h)) [
            | inl before ↦ inl before
            | inr now ↦ inr (crossing.position, the_other j (eqb-true j other now))
          ];
    }

  -- without a crossing light
  pub alone_drops : ((one : ℕ) → IsCrossing board i (cell_at board i q) one → ⊥) → ((s d : ℕ) → new.pending s d ≡ old.pending s d) → ((j : ℕ) → new.queued j ≡ old.queued j) → Drops board i q b old new
  alone_drops none pending queued = record {
    letters = letters;
    crossing = λ one r at. absurd (none one (crosses one r at));
    pending_more = λ s d h. pending s d ∙ h;
    pending_new = λ s d h. inl (sym (pending s d) ∙ h);
    queued_more = λ j h. queued j ∙ h;
    queued_new = λ j h. inl (sym (queued j) ∙ h);
  }
