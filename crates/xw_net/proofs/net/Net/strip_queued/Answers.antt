use Rattle.std.proofs.Common.{◌+◌, ◌-◌, ◌^◌, false, ◌∷◌, get_or, refl, sym, ap, ◌∙◌, subst, inl, inr, arith}
use Rattle.std.proofs.lemmas.Bool.{both_ways}
use Rattle.std.proofs.lemmas.List.Sorted.{length_permutation}
use Rattle.xw_net.specs.Worklist.{ListOfLights, is_marked}
use Rattle.xw_net.proofs.Lists.ListsOfLights.{waits_taken}
use Rattle.xw_net.specs.declared.net.Net.{Net}
use Rattle.xw_net.specs.Marks.{IsHolding, IsSetting}
use Rattle.xw_net.specs.Due.{Measure, IsUnderway, set_cost}
use Rattle.xw_net.specs.Nets.{HasBits, IsQueue, left_of, marks_of, word_stands, letter_stands, held_in, restart_in, pending_in, queued_in}
use Rattle.xw_net.proofs.Costs.DueTicks.{due-bound}
use Rattle.xw_net.proofs.Stripping.ReadyNets.{whole_measure, ready_underway}
use Rattle.xw_net.proofs.Stripping.StrippedNets.{taken_none, taken_strippable, stripped_filled}
use Rattle.xw_net.specs.Filled.{IsFilled}
use Rattle.xw_net.proofs.Stripping.NotedLight.{left_noted, shaped_noted}
use Rattle.xw_net.proofs.Stripping.LeftByStripping.{left_left, left_queue}
use Rattle.xw_net.proofs.net.Net.strip_queued.Goals as goal

pub see_to-requires-clause-light : goal.see_to-requires-clause-light
see_to-requires-clause-light g c = omega (arith, c.in-Some.ensures.within, c.loop-light.invariant.shaped.queue)

pub note_emptied-requires-clause-light : goal.note_emptied-requires-clause-light
note_emptied-requires-clause-light g c = omega (arith, c.in-Some.ensures.within, c.loop-light.invariant.shaped.queue)

pub see_to-requires-clause-queued : goal.see_to-requires-clause-queued
unfolding queued_in is_marked
see_to-requires-clause-queued g c = ap (λ marks. is_marked marks c.in-Some.light) (ap (λ (l : ListOfLights). l.marks) c.take_at.ensures.rest) ∙ c.in-Some.ensures.marked

pub see_to-requires-clause-net : goal.see_to-requires-clause-net
see_to-requires-clause-net g c =
    let inv = c.loop-light.invariant in
    taken_strippable c.args.board.now (g.R.Rows.entries c.args.rows.now) (g.R.Rows.entries c.loop-light.rows) c.loop-light.self c.take_at.new.self c.take_at.ensures.rest inv.same inv.shaped inv.bits

pub loop-light-smaller : goal.loop-light-smaller
loop-light-smaller g c =
    omega (arith, ap left_of c.note_emptied.ensures, c.see_to.ensures.fewer, length_permutation c.loop-light.self.queue.lights (c.in-Some.light ∷ c.take_at.new.self.lights) c.in-Some.ensures.taken)

pub loop-light-init : goal.loop-light-init
unfolding word_stands letter_stands held_in restart_in pending_in queued_in
loop-light-init g c =
    let old = c.args.self.now in
    let first : Net = record old { emptied = 2 ^ 64 - 1 } in
    record {
      same = refl;
      risen = omega arith;
      rest = left_noted old first refl;
      shaped = shaped_noted c.args.board.now old first refl c.requires.net.shaped;
      bits = c.requires.net.bits;
      queue = c.requires.queue;
      pending = λ slot letter pends. inl pends;
      holding = λ dictionary setting holding. holding;
      kept = λ dictionary measure setting under. under;
    }

pub loop-light-preserved : goal.loop-light-preserved
unfolding word_stands letter_stands held_in restart_in pending_in queued_in
loop-light-preserved g c =
    let inv = c.loop-light.invariant in
    let k = c.see_to in
    let seen = k.new.self in
    let noted = c.note_emptied.new.self in
    let e = c.note_emptied.ensures in
    record {
      same = k.ensures.entries ∙ inv.same;
      risen = omega (arith, inv.risen, k.ensures.risen);
      rest = left_left inv.rest (left_left (left_queue c.loop-light.self (record c.loop-light.self { queue = c.take_at.new.self }) refl) (left_left k.ensures.step.rest (left_noted seen noted e)));
      shaped = shaped_noted c.args.board.now seen noted e k.ensures.step.shaped;
      bits = subst (λ (n : Net). HasBits c.args.board.now (g.R.Rows.entries c.args.rows.now) n) (sym e) (subst (λ f. HasBits c.args.board.now f seen) inv.same k.ensures.step.bits);
      queue = subst (λ (n : Net). IsQueue n) (sym e) (λ light. k.ensures.waits light (λ apart is.
          waits_taken c.loop-light.self.queue.lights c.take_at.new.self.lights c.in-Some.light light c.in-Some.ensures.taken apart (inv.queue light (ap (λ marks. get_or marks light false) (sym (ap (λ (l : ListOfLights). l.marks) c.take_at.ensures.rest)) ∙ is))));
      pending = λ slot letter pends. elim (k.ensures.pending slot letter (sym (ap (λ (n : Net). pending_in n slot letter) e) ∙ pends)) [ inl before ↦ inv.pending slot letter before | inr at ↦ inr at ];
      holding = λ dictionary setting holding.
          subst (λ (n : Net). IsHolding c.args.board.now dictionary (marks_of n)) (sym e) (k.ensures.holding dictionary (subst (λ e. IsSetting c.args.board.now e dictionary) (sym inv.same) setting) (inv.holding dictionary setting holding));
      kept = λ dictionary measure setting under.
          subst (λ (n : Net). IsUnderway c.args.board.now dictionary measure (marks_of n) (queued_in n) (g.R.Rows.ticks k.new.rows)) (sym e) (k.ensures.kept dictionary measure (subst (λ e. IsSetting c.args.board.now e dictionary) (sym inv.same) setting) (subst (λ (q : ListOfLights). IsUnderway c.args.board.now dictionary measure (marks_of (record c.loop-light.self { queue = q })) (queued_in (record c.loop-light.self { queue = q })) (g.R.Rows.ticks c.loop-light.rows)) (sym c.take_at.ensures.rest) (inv.kept dictionary measure setting under)));
    }

pub returns-clause-filled : goal.returns-clause-filled
unfolding word_stands letter_stands held_in restart_in pending_in queued_in
returns-clause-filled g c dictionary setting from =
    let board = c.args.board.now in
    let old = c.args.self.now in
    let ticks = g.R.Rows.ticks c.args.rows.now in
    let last = c.loop-light.self in
    let inv = c.loop-light.invariant in
    let under = inv.kept dictionary (whole_measure board dictionary (marks_of old) ticks) setting (ready_underway board dictionary (marks_of old) ticks from.ready) in
    subst (IsFilled board dictionary) (sym (taken_none last c.take_at.new.self c.in_default.ensures.none c.in_default.ensures.left c.take_at.ensures.rest))
    (stripped_filled board (g.R.Rows.entries c.args.rows.now) dictionary setting old last from (record { shaped = inv.shaped; bits = inv.bits; rest = inv.rest }) under.kept inv.queue c.in_default.ensures.none
    (inv.holding dictionary setting from.holding)
    (λ slot letter pends. elim (inv.pending slot letter pends) [ inl before ↦ absurd (both_ways (pending_in old slot letter) (from.pending slot letter) before) | inr at ↦ at ]))

pub returns-clause-cost : goal.returns-clause-cost
returns-clause-cost g c dictionary member setting ready closed queued =
    let board = c.args.board.now in
    let old = c.args.self.now in
    let ticks = g.R.Rows.ticks c.args.rows.now in
    let measure : Measure = record { member = member; letters = letter_stands old; budget = ticks + set_cost board dictionary member } in
    let start : IsUnderway board dictionary measure (marks_of old) (queued_in old) ticks = record {
      kept = ready;
      paid = record { closed = closed; within = omega (arith, due-bound board dictionary (marks_of old) member); queued = queued; fewer = λ cell letter h. h };
    } in
    let under = c.loop-light.invariant.kept dictionary measure setting start in
    omega (arith, under.paid.within)
