use Rattle.std.proofs.Common.{◌≡◌, ◌+◌, ◌*◌, ◌<◌, true, false, cond, refl, sym, ap, ◌∙◌, take, below_more, arith}
use Rattle.std.specs.Prelude.{count_by}
use Rattle.std.proofs.lemmas.Bool.{false≢true}
use Rattle.xw_grid.specs.Grid.{cell_at, cells, index_of}
use Rattle.xw_grid.specs.Light.{begins_some, number_at}
use Rattle.xw_grid.proofs.GridLemmas.{cell_at-index_of, index_of-lt, count_by-cells}
use Rattle.xw_answers.proofs.LightStarts.{begins_inside, number_counted}
use Rattle.xw_answers.proofs.numbering.numbered.Goals.{then-is_numbered_at+else-begun-number, else-is_numbered_at}
use Rattle.xw_answers.proofs.numbering.numbered.Goals as goal

pub loop-index-init : goal.loop-index-init
loop-index-init c = record { few = omega arith; begun = refl; known = c.requires; others = λ k lt. absurd (omega arith) }

pub overflow_add-begun : goal.overflow_add-begun
overflow_add-begun c = omega (arith, c.loop-index.invariant.few, c.size-index-end.ensures.small)

pub returns-then-begun-number-clause-number : goal.returns-then-begun-number-clause-number
returns-then-begun-number-clause-number c =
    ap (number_at c.args.grid.now) c.cell_at.ensures.cell
    ∙ number_counted c.args.grid.now c.loop-index.index c.loop-index.begun c.loop-index.invariant.begun
    ∙ c.if-begun-number.true

pub loop-index-preserved : goal.loop-index-preserved
loop-index-preserved c =
    let grid = c.args.grid.now in
    let k = c.loop-index.index in
    let within : k < grid.width * grid.height = omega (arith, c.size-index-end.ensures.size) in
    let here : c.is_numbered_at.result ≡ begins_some grid (cell_at grid k) = c.is_numbered_at.ensures.is in
    let counted = count_by-cells grid (begins_some grid) k within in
    elim c.if-is_numbered_at.branch [
      | then-is_numbered_at+else-begun-number w ↦
          let yes : begins_some grid (cell_at grid k) ≡ true = sym here ∙ w.if-is_numbered_at.true in
          record {
            few = omega (arith, c.loop-index.invariant.few, w.begun-is);
            known = c.is_numbered_at.ensures.known;
            begun = w.begun-is ∙ ap (λ n. n + 1) c.loop-index.invariant.begun ∙ sym (counted ∙ ap (λ b. count_by (begins_some grid) (take k (cells grid)) + cond b 1 0) yes);
            others = below_more _ _ c.loop-index.invariant.others (λ _ number. w.if-begun-number.false (sym (number_counted grid k c.loop-index.begun c.loop-index.invariant.begun) ∙ number));
          }
      | else-is_numbered_at w ↦
          let no : begins_some grid (cell_at grid k) ≡ false = sym here ∙ w.if-is_numbered_at.false in
          record {
            few = omega (arith, c.loop-index.invariant.few, w.begun-is);
            known = c.is_numbered_at.ensures.known;
            begun = w.begun-is ∙ c.loop-index.invariant.begun ∙ sym (counted ∙ ap (λ b. count_by (begins_some grid) (take k (cells grid)) + cond b 1 0) no ∙ (let e : count_by (begins_some grid) (take k (cells grid)) + 0 ≡ count_by (begins_some grid) (take k (cells grid)) = omega arith in e));
            others = below_more _ _ c.loop-index.invariant.others (λ yes _. absurd (false≢true (sym no ∙ yes)));
          }
    ]

pub returns-clause-none : goal.returns-clause-none
returns-clause-none c cell begins number =
    let grid = c.args.grid.now in
    let inside = begins_inside grid cell begins in
    let at = cell_at-index_of grid cell inside in
    c.loop-index.invariant.others (index_of grid cell) (omega (arith, index_of-lt grid cell inside, c.size-index-end.ensures.size))
    (ap (begins_some grid) at ∙ begins) (ap (number_at grid) at ∙ number)
