use Rattle.std.proofs.Common.{◌≡◌, None, Some, sym, ap, ◌∙◌, inl, inr, arith}
use Rattle.std.proofs.lemmas.Bool.{cases_eq}
use Rattle.xw_feas.specs.Board.{IsCrossing}
use Rattle.xw_net.specs.Marks.{cell_at}
use Rattle.xw_net.specs.Worklist.{is_marked, Adds}
use Rattle.xw_net.proofs.Lists.ListsOfLights.{adds_insert}
use Rattle.xw_net.proofs.spread.mark_crossing.Goals as goal
use Rattle.xw_net.proofs.spread.mark_crossing.Goals.{In-Some}

added : (g : goal.After-insert) → Adds (λ light. light ≡ g.in-Some.other) g.args.chain.now g.insert.new.self
added c = adds_insert c.args.chain.now c.insert.new.self c.in-Some.other (omega (arith, c.in-Some.ensures.other.in_board, c.requires.chain)) c.insert.ensures.marks c.insert.ensures.grows

pub returns-in-Some-clause-marked : goal.returns-in-Some-clause-marked
returns-in-Some-clause-marked c was j here =
    elim (cases_eq j c.args.light) [
      | inl e ↦ c.insert.ensures.grows.more j (ap (is_marked c.args.chain.now.marks) e ∙ was)
      | inr n ↦
          let crosses : IsCrossing c.args.board.now c.args.light (cell_at c.args.board.now c.args.light c.args.position) j = record { in_board = here.1.0; apart = n; position = here.0; below = here.1.1; meets = here.2 } in
          let is : Some c.in-Some.other ≡ Some j = c.in-Some.ensures.only j crosses in
          let one : j ≡ c.in-Some.other = cc in
          (added c).all j one
    ]

pub returns-in-Some-clause-within : goal.returns-in-Some-clause-within
returns-in-Some-clause-within c member start reached =
    (added c).only member start (λ j e. ap member e ∙ reached c.in-Some.other (c.in-Some.ensures.other.position, (c.in-Some.ensures.other.in_board, c.in-Some.ensures.other.below), c.in-Some.ensures.other.meets))

pub returns-in_default-clause-marked : goal.returns-in_default-clause-marked
returns-in_default-clause-marked c was j here =
    elim (cases_eq j c.args.light) [
      | inl e ↦ ap (is_marked c.args.chain.now.marks) e ∙ was
      | inr n ↦
          let crosses : IsCrossing c.args.board.now c.args.light (cell_at c.args.board.now c.args.light c.args.position) j = record { in_board = here.1.0; apart = n; position = here.0; below = here.1.1; meets = here.2 } in
          let is : None ≡ Some j = sym c.in_default.is ∙ c.crossing.ensures.only j crosses in
          cc
    ]
