use Rattle.std.proofs.Common.{◌≡◌, ◌<◌, ℕ, Bool, true, length, sym, ap, subst, ◌∙◌, inl, inr, arith}
use Rattle.std.specs.Prelude.{Option}
use Rattle.std.proofs.lemmas.Bool.{cases_Bool, both_ways, false_from_ne_true, or_cases, or_left, or_right}
use Rattle.xw_feas.specs.Board.{Board, light_at}
use Rattle.xw_net.specs.Base.{base_bits}
use Rattle.xw_net.specs.Begin.{is_long, is_read, is_seed, may_have, IsNarrowedRow, HasLength, IsConcerned, IsQueuedSeed}
use Rattle.xw_net.proofs.Lists.ListsOfLights.{only_as}
use Rattle.xw_net.specs.Spread.{bits_in}
use Rattle.xw_net.specs.Worklist.{is_marked}
use Rattle.xw_net.proofs.Edits.ChangedWord.{long_word, may_have_long, has_changed_long}
use Rattle.xw_net.proofs.begin.prepare.Goals as goal

pub returns-clause-words : goal.returns-clause-words
returns-clause-words g c = record {
  rows = omega (arith, c.requires.words.rows, c.touch_lights.ensures.len);
  bits = λ light lt. elim (cases_Bool (is_marked c.queue_changed.new.queue.marks light)) [
    | inl queued ↦
        (c.touch_lights.ensures.on light lt queued).len ∙ c.requires.words.bits light lt
    | inr calm ↦ ap length (c.touch_lights.ensures.off light calm) ∙ c.requires.words.bits light lt
  ];
}

-- the base rows that are updated are those of lights that are queued or have the changed word's
-- length at the end
module _ (board : Board) (word : Option (ℕ × ℕ)) (old new : ℕ → Bool)
    (more : (light : ℕ) → old light ≡ true → new light ≡ true)
    (within : (light : ℕ) → new light ≡ true → is_read board word old light ≡ true) where
  was_read : (light : ℕ) → is_read board word new light ≡ true → is_read board word old light ≡ true
  was_read light is = elim (or_cases (new light) (is_long word (length (light_at board light))) is) [
    | inl on ↦ within light on
    | inr long ↦ or_right (old light) _ long
  ]

  still_read : (light : ℕ) → is_read board word old light ≡ true → is_read board word new light ≡ true
  still_read light is = elim (or_cases (old light) (is_long word (length (light_at board light))) is) [
    | inl on ↦ or_left (new light) _ (more light on)
    | inr long ↦ or_right (new light) _ long
  ]

pub returns-clause-queued_within : goal.returns-clause-queued_within
returns-clause-queued_within g c =
    only_as (IsConcerned c.args.board.now c.args.word c.read_marked.new.base c.args.words.now) (HasLength c.args.board.now c.args.word) c.args.queue.now c.queue_changed.new.queue
    (λ light is.
    let word = long_word c.args.word (length (light_at c.args.board.now light)) (has_changed_long c.args.word (length (light_at c.args.board.now light)) _ _ is.1) in
    (word.0, word.1, is.0)) c.queue_changed.ensures.only

pub returns-clause-cost : goal.returns-clause-cost
returns-clause-cost g c member has =
    c.read_marked.ensures.cost member (λ light lt was. has light lt (elim (or_cases (is_marked c.args.queue.now.marks light) (is_long c.args.word (length (light_at c.args.board.now light))) was) [
      | inl on ↦ or_left (is_marked c.queue_changed.new.queue.marks light) _ (c.queue_changed.ensures.grows.more light on)
      | inr long ↦ or_right (is_marked c.queue_changed.new.queue.marks light) _ long
    ]))

pub returns-clause-queue : goal.returns-clause-queue
returns-clause-queue g c = c.queue_changed.ensures.grows

pub returns-clause-chain : goal.returns-clause-chain
returns-clause-chain g c = c.touch_lights.ensures.chain.grows

pub returns-clause-within : goal.returns-clause-within
returns-clause-within g c =
    only_as (IsQueuedSeed c.args.board.now c.args.word c.read_marked.new.base c.queue_changed.new.queue) (λ light. is_marked c.queue_changed.new.queue.marks light ≡ true) c.args.chain.now c.touch_lights.new.chain
    (λ light is. is.1) c.touch_lights.ensures.chain.only

pub returns-clause-prepared : goal.returns-clause-prepared
returns-clause-prepared g c but were =
    let within : (light : ℕ) → is_marked c.queue_changed.new.queue.marks light ≡ true → is_read c.args.board.now c.args.word (is_marked c.args.queue.now.marks) light ≡ true =
    c.queue_changed.ensures.only (is_read c.args.board.now c.args.word (is_marked c.args.queue.now.marks)) (λ light on. or_left (is_marked c.args.queue.now.marks light) _ on)
    (λ light is. or_right (is_marked c.args.queue.now.marks light) _ (has_changed_long c.args.word (length (light_at c.args.board.now light)) _ _ is.1)) in
    let read : (light : ℕ) → light < length c.args.board.now.lights → is_read c.args.board.now c.args.word (is_marked c.queue_changed.new.queue.marks) light ≡ true
    → bits_in c.read_marked.new.base light ≡ base_bits c.args.board.now (light_at c.args.board.now light) (g.R.Rows.entries c.args.rows.now (length (light_at c.args.board.now light))) =
    λ light lt is. c.read_marked.ensures.on light lt (was_read c.args.board.now c.args.word (is_marked c.args.queue.now.marks) (is_marked c.queue_changed.new.queue.marks) c.queue_changed.ensures.grows.more within light is) (but light lt) (were light lt) in
    let queued : (light : ℕ) → is_marked c.queue_changed.new.queue.marks light ≡ true → is_read c.args.board.now c.args.word (is_marked c.queue_changed.new.queue.marks) light ≡ true =
    λ light on. or_left (is_marked c.queue_changed.new.queue.marks light) _ on in
    record {
      base_on = read;
      base_off = λ light off. c.read_marked.ensures.off light (false_from_ne_true (is_read c.args.board.now c.args.word (is_marked c.args.queue.now.marks) light) (λ was. both_ways (is_read c.args.board.now c.args.word (is_marked c.queue_changed.new.queue.marks) light) off
          (still_read c.args.board.now c.args.word (is_marked c.args.queue.now.marks) (is_marked c.queue_changed.new.queue.marks) c.queue_changed.ensures.grows.more within light was)));
      rows_on = λ light lt on. subst (λ b. IsNarrowedRow c.args.word (length (light_at c.args.board.now light)) (bits_in c.args.words.now light) b (bits_in c.touch_lights.new.rows light)) (read light lt (queued light on)) (c.touch_lights.ensures.on light lt on);
      rows_off = c.touch_lights.ensures.off;
      calm = λ light lt off. false_from_ne_true _ (λ has. both_ways (is_marked c.queue_changed.new.queue.marks light) off
          (c.queue_changed.ensures.all light (
            lt,
            (or_left _ _ (subst (λ bits. may_have c.args.word (length (light_at c.args.board.now light)) bits ≡ true)
                (sym (read light lt (or_right (is_marked c.queue_changed.new.queue.marks light) _ (may_have_long c.args.word (length (light_at c.args.board.now light)) _ has)))) has)),
          )));
      stood_not = λ light lt off. false_from_ne_true _ (λ has. both_ways (is_marked c.queue_changed.new.queue.marks light) off
          (c.queue_changed.ensures.all light (lt, (or_right (may_have c.args.word (length (light_at c.args.board.now light)) (bits_in c.read_marked.new.base light)) _ has))));
      seeds = λ light lt on seed. c.touch_lights.ensures.chain.all light (lt, on, (subst (λ bits. is_seed c.args.board.now c.args.word (light_at c.args.board.now light) bits ≡ true) (sym (read light lt (queued light on))) seed));
    }
