use Rattle.std.proofs.Common.{◌≡◌, ◌<◌, ◌+◌, ℕ, true, false, length, refl, subst, sym, ap, ◌∙◌, inl, inr, arith}
use Rattle.std.proofs.lemmas.Bool.{cases_eq, both_ways}
use Rattle.xw_feas.specs.Board.{light_at}
use Rattle.xw_net.specs.Spread.{bits_in}
use Rattle.xw_net.specs.Worklist.{ListOfLights, is_marked, Adds}
use Rattle.xw_net.specs.Begin.{is_seed, IsSeed, IsQueuedSeed, IsNarrowedRow}
use Rattle.xw_net.proofs.Lists.ListsOfLights.{adds_start, adds_next, adds_as, adds_none, adds_insert}
use Rattle.xw_net.proofs.begin.touch_lights.Goals as goal

pub loop-light-init : goal.loop-light-init
loop-light-init c = record {
  len = refl;
  row_room = λ other. omega arith;
  on = λ light lt queued. absurd (omega arith);
  rest = λ light past. refl;
  off = λ light off. refl;
  chain = adds_start (λ other. (is_marked c.args.queue.now.marks other ≡ true) × IsSeed c.args.board.now c.args.word c.args.base.now other) c.args.chain.now;
}

module _ (queued seed : ℕ → Type 0) (light : ℕ) (chain chain' chain'' : ListOfLights) where
  -- a light that is not queued is passed over
  pass : Adds (λ other. (other < light) × (queued other × seed other)) chain chain' → (queued light → ⊥) → Adds (λ other. (other < light + 1) × (queued other × seed other)) chain chain'
  pass adds calm =
      adds_next (λ other. queued other × seed other) light chain chain' chain' adds
      (adds_none (λ other. (other ≡ light) × (queued other × seed other)) chain' (λ other is. calm (subst queued is.0 is.1.0)))

  -- a queued light is looked at
  step : Adds (λ other. (other < light) × (queued other × seed other)) chain chain' → queued light → Adds (λ other. (other ≡ light) × seed other) chain' chain'' → Adds (λ other. (other < light + 1) × (queued other × seed other)) chain chain''
  step adds on more =
      adds_next (λ other. queued other × seed other) light chain chain' chain'' adds
      (adds_as (λ other. (other ≡ light) × seed other) (λ other. (other ≡ light) × (queued other × seed other)) chain' chain'' (λ other is. (is.0, (subst queued (sym is.0) on, is.1))) (λ other is. (is.0, is.1.1)) more)

pub loop-light-preserved-then-not-contains : goal.loop-light-preserved-then-not-contains
loop-light-preserved-then-not-contains c =
    let inv = c.loop-light.invariant in
    let calm : is_marked c.args.queue.now.marks c.loop-light.light ≡ false = sym c.contains.ensures ∙ c.if-not-contains.true in
    record {
      len = inv.len;
      row_room = inv.row_room;
      on = λ light lt queued. elim (cases_eq light c.loop-light.light) [
        | inl e ↦ absurd (both_ways (is_marked c.args.queue.now.marks light) (ap (is_marked c.args.queue.now.marks) e ∙ calm) queued)
        | inr n ↦ inv.on light (omega arith) queued
      ];
      rest = λ light past. inv.rest light (omega arith);
      off = inv.off;
      chain = pass (λ other. is_marked c.args.queue.now.marks other ≡ true) (IsSeed c.args.board.now c.args.word c.args.base.now) c.loop-light.light c.args.chain.now c.loop-light.chain c.loop-light.chain inv.chain
          (λ on. both_ways (is_marked c.args.queue.now.marks c.loop-light.light) calm on);
    }

pub loop-light-preserved : goal.loop-light-preserved
loop-light-preserved c =
    let inv = c.loop-light.invariant in
    let k = c.narrow_row in
    let on_queue : is_marked c.args.queue.now.marks c.loop-light.light ≡ true = sym c.contains.ensures ∙ c.if-not-contains.false in
    record {
      len = k.ensures.len ∙ inv.len;
      row_room = λ other. omega (arith, inv.row_room other, k.ensures.row_room other);
      on = λ light lt queued. elim (cases_eq light c.loop-light.light) [
        | inl e ↦
            subst (λ n. IsNarrowedRow c.args.word (length (light_at c.args.board.now n)) (bits_in c.args.rows.now n) (bits_in c.args.base.now n) (bits_in c.narrow_row.new.rows n)) (sym e)
            (subst (λ b. IsNarrowedRow c.args.word (length (light_at c.args.board.now c.loop-light.light)) b (bits_in c.args.base.now c.loop-light.light) (bits_in c.narrow_row.new.rows c.loop-light.light)) (inv.rest c.loop-light.light (omega arith)) k.ensures.here)
        | inr n ↦
            subst (λ b. IsNarrowedRow c.args.word (length (light_at c.args.board.now light)) (bits_in c.args.rows.now light) (bits_in c.args.base.now light) b) (sym (k.ensures.others light n)) (inv.on light (omega arith) queued)
      ];
      rest = λ light past. k.ensures.others light (λ e. absurd (omega arith)) ∙ inv.rest light (omega arith);
      off = λ light off. k.ensures.others light (λ e. both_ways (is_marked c.args.queue.now.marks light) off (ap (is_marked c.args.queue.now.marks) e ∙ on_queue)) ∙ inv.off light off;
      chain = step (λ other. is_marked c.args.queue.now.marks other ≡ true) (IsSeed c.args.board.now c.args.word c.args.base.now) c.loop-light.light c.args.chain.now c.loop-light.chain c.insert.new.self inv.chain on_queue
          (adds_as (λ other. other ≡ c.loop-light.light) (λ other. (other ≡ c.loop-light.light) × IsSeed c.args.board.now c.args.word c.args.base.now other) c.loop-light.chain c.insert.new.self
          (λ other e. (e, ap (λ l. is_seed c.args.board.now c.args.word (light_at c.args.board.now l) (bits_in c.args.base.now l)) e ∙ sym c.is_seed.ensures ∙ c.if-not-is_seed.false)) (λ other is. is.0)
          (adds_insert c.loop-light.chain c.insert.new.self c.loop-light.light (omega (arith, c.requires.chain, inv.chain.grows.size, c.loop-light-test.true, c.light_count-light-end.ensures)) c.insert.ensures.marks c.insert.ensures.grows));
    }

pub loop-light-preserved-then-not-is_seed : goal.loop-light-preserved-then-not-is_seed
loop-light-preserved-then-not-is_seed c =
    let inv = c.loop-light.invariant in
    let k = c.narrow_row in
    let on_queue : is_marked c.args.queue.now.marks c.loop-light.light ≡ true = sym c.contains.ensures ∙ c.if-not-contains.false in
    record {
      len = k.ensures.len ∙ inv.len;
      row_room = λ other. omega (arith, inv.row_room other, k.ensures.row_room other);
      on = λ light lt queued. elim (cases_eq light c.loop-light.light) [
        | inl e ↦
            subst (λ n. IsNarrowedRow c.args.word (length (light_at c.args.board.now n)) (bits_in c.args.rows.now n) (bits_in c.args.base.now n) (bits_in c.narrow_row.new.rows n)) (sym e)
            (subst (λ b. IsNarrowedRow c.args.word (length (light_at c.args.board.now c.loop-light.light)) b (bits_in c.args.base.now c.loop-light.light) (bits_in c.narrow_row.new.rows c.loop-light.light)) (inv.rest c.loop-light.light (omega arith)) k.ensures.here)
        | inr n ↦
            subst (λ b. IsNarrowedRow c.args.word (length (light_at c.args.board.now light)) (bits_in c.args.rows.now light) (bits_in c.args.base.now light) b) (sym (k.ensures.others light n)) (inv.on light (omega arith) queued)
      ];
      rest = λ light past. k.ensures.others light (λ e. absurd (omega arith)) ∙ inv.rest light (omega arith);
      off = λ light off. k.ensures.others light (λ e. both_ways (is_marked c.args.queue.now.marks light) off (ap (is_marked c.args.queue.now.marks) e ∙ on_queue)) ∙ inv.off light off;
      chain = step (λ other. is_marked c.args.queue.now.marks other ≡ true) (IsSeed c.args.board.now c.args.word c.args.base.now) c.loop-light.light c.args.chain.now c.loop-light.chain c.loop-light.chain inv.chain on_queue
          (adds_none (λ other. (other ≡ c.loop-light.light) × IsSeed c.args.board.now c.args.word c.args.base.now other) c.loop-light.chain
          (λ other is. both_ways c.is_seed.result c.if-not-is_seed.true (c.is_seed.ensures ∙ ap (λ l. is_seed c.args.board.now c.args.word (light_at c.args.board.now l) (bits_in c.args.base.now l)) (sym is.0) ∙ is.1)));
    }

pub returns-clause-chain : goal.returns-clause-chain
returns-clause-chain c =
    let n : c.loop-light.light ≡ length c.args.board.now.lights = omega (arith, c.loop-light-test.false, c.loop-light.auto.light-end, c.light_count-light-end.ensures) in
    adds_as _ (IsQueuedSeed c.args.board.now c.args.word c.args.base.now c.args.queue.now) c.args.chain.now c.loop-light.chain
    (λ light is. (omega (arith, is.0, n), is.1.0, is.1.1)) (λ light is. (omega (arith, is.0, n), (is.1, is.2))) c.loop-light.invariant.chain
