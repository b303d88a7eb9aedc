use Rattle.std.proofs.Common.{◌≡◌, ℕ, Bool, true, false, ◌&&◌, refl, subst, sym, ap, ◌∙◌, inl, inr, arith}
use Rattle.std.proofs.lemmas.Bool.{cases_eq}
use Rattle.xw_feas.specs.Feasible.{may_stand}
use Rattle.xw_feas.specs.Flags.{set_has}
use Rattle.xw_net.proofs.Levels.NewCells.{new_none, new_to, new_split, new_before}
use Rattle.xw_net.proofs.enter.narrow_entered.Goals as goal

pub loop-at-init : goal.loop-at-init
loop-at-init c = record {
  len = refl;
  narrowed = λ cell. inr (new_none c.args.grid.now c.args.written.now cell, λ letter. refl);
}

pub loop-at-preserved-then-is_some : goal.loop-at-preserved-then-is_some
loop-at-preserved-then-is_some c = record {
  len = c.loop-at.invariant.len;
  narrowed = λ cell. elim (c.loop-at.invariant.narrowed cell) [
    | inl narrowed ↦ inl narrowed
    | inr same ↦ inr (λ new. same.0 (new_before c.args.grid.now c.args.written.now c.loop-at.at c.loop-at-test.true c.index-written-at-in-loop-at.result cell (sym c.is_some.ensures ∙ c.if-is_some.true) new), same.1)
  ];
}

pub narrow_cell-requires : goal.narrow_cell-requires
narrow_cell-requires c = omega (arith, c.index_in.ensures.within, c.requires.cells, c.requires.letters, c.loop-at.invariant.len)

-- what is narrowed twice is narrowed
twice : (a b : Bool) → ((a && b) && b) ≡ (a && b)
twice true true = refl
twice true false = refl
twice false b = refl

pub loop-at-preserved : goal.loop-at-preserved
loop-at-preserved c =
    let board = c.args.board.now in
    let here = c.index_in.result in
    let old = c.args.letters.now in
    record {
      len = c.narrow_cell.ensures.len ∙ c.loop-at.invariant.len;
      narrowed = λ cell. elim (cases_eq cell here) [
        | inl e ↦
            let now : (letter : ℕ) → set_has c.narrow_cell.new.letters cell letter ≡ (set_has c.loop-at.letters cell letter && may_stand board cell letter) =
            λ letter. subst (λ n. set_has c.narrow_cell.new.letters n letter ≡ (set_has c.loop-at.letters n letter && may_stand board n letter)) (sym e) (c.narrow_cell.ensures.here letter) in
            inl (elim (c.loop-at.invariant.narrowed cell) [
              | inl narrowed ↦ λ letter. now letter ∙ ap (λ b. b && may_stand board cell letter) (narrowed letter) ∙ twice (set_has old cell letter) (may_stand board cell letter)
              | inr same ↦ λ letter. now letter ∙ ap (λ b. b && may_stand board cell letter) (same.1 letter)
            ])
        | inr apart ↦ elim (c.loop-at.invariant.narrowed cell) [
          | inl narrowed ↦ inl (λ letter. c.narrow_cell.ensures.others cell letter apart ∙ narrowed letter)
          | inr same ↦ inr (
            λ new. elim (new_split c.args.grid.now c.args.written.now c.loop-at.at c.loop-at-test.true c.index-written-at.result cell new) [
              | inl was ↦ same.0 was
              | inr now ↦ apart (sym (c.index_in.ensures.index ∙ now))
            ],
            λ letter. c.narrow_cell.ensures.others cell letter apart ∙ same.1 letter,
          )
        ]
      ];
    }

pub returns : goal.returns
returns c = record {
  len = c.loop-at.invariant.len;
  narrowed = λ cell. elim (c.loop-at.invariant.narrowed cell) [
    | inl narrowed ↦ inl narrowed
    | inr same ↦ inr (λ new. same.0 (new_to c.args.grid.now c.args.written.now c.loop-at.at cell c.loop-at-test.false new), same.1)
  ];
}
