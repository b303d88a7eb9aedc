use Rattle.std.proofs.Common.{◌≡◌, ◌-◌, ◌^◌, true, false, ◌∷◌, get_or, Ok, refl, sym, ap, ◌∙◌, subst, inl, inr, arith}
use Rattle.std.proofs.lemmas.Bool.{both_ways, cases_eq}
use Rattle.std.proofs.lemmas.List.Sorted.{length_permutation}
use Rattle.xw_net.specs.Worklist.{ListOfLights, is_marked}
use Rattle.xw_net.proofs.Lists.ListsOfLights.{waits_taken}
use Rattle.xw_net.specs.declared.net.Net.{Net}
use Rattle.xw_net.specs.Marks.{IsHolding, IsSetting, IsReady}
use Rattle.xw_words.specs.Dictionary.{Dictionary}
use Rattle.xw_net.specs.Seen.{AreSeen}
use Rattle.xw_net.proofs.Levels.WaysBack.{way_noted, way_queue}
use Rattle.xw_net.specs.Nets.{HasBits, IsQueue, left_of, marks_of, word_stands, letter_stands, held_in, restart_in, pending_in, queued_in}
use Rattle.xw_net.proofs.Stripping.DeadLights.{covered_dead}
use Rattle.xw_net.proofs.Stripping.StrippedNets.{taken_none, taken_strippable, stripped_filled}
use Rattle.xw_net.specs.Filled.{IsFilled}
use Rattle.xw_net.proofs.Stripping.NotedLight.{left_noted, shaped_noted}
use Rattle.xw_net.proofs.Stripping.LeftByStripping.{left_left, left_queue}
use Rattle.xw_net.specs.Steps.{IsEmptied}
use Rattle.xw_net.proofs.net.Net.strip_trying.Goals as goal

pub try_light-requires-clause-light : goal.try_light-requires-clause-light
try_light-requires-clause-light g c = omega (arith, c.in-Some.ensures.within, c.loop-light.invariant.shaped.queue)

pub note_emptied-requires-clause-light : goal.note_emptied-requires-clause-light
note_emptied-requires-clause-light g c = omega (arith, c.in-Some.ensures.within, c.loop-light.invariant.shaped.queue)

pub try_light-requires-clause-queued : goal.try_light-requires-clause-queued
unfolding queued_in is_marked
try_light-requires-clause-queued g c = ap (λ marks. is_marked marks c.in-Some.light) (ap (λ (l : ListOfLights). l.marks) c.take_at.ensures.rest) ∙ c.in-Some.ensures.marked

pub try_light-requires-clause-words : goal.try_light-requires-clause-words
try_light-requires-clause-words g c = c.loop-light.invariant.same ∙ c.requires.words

pub try_light-requires-clause-net : goal.try_light-requires-clause-net
try_light-requires-clause-net g c =
    let inv = c.loop-light.invariant in
    taken_strippable c.args.board.now (g.R.Rows.entries c.args.rows.now) (g.R.Rows.entries c.loop-light.rows) c.loop-light.self c.take_at.new.self c.take_at.ensures.rest inv.same inv.shaped inv.bits

pub loop-light-smaller : goal.loop-light-smaller
loop-light-smaller g c =
    omega (arith, ap left_of c.note_emptied.ensures, c.try_light.ensures.fewer (c.in_ok-is_dead.was ∙ ap (λ b. Ok b) c.if-is_dead.false), length_permutation c.loop-light.self.queue.lights (c.in-Some.light ∷ c.take_at.new.self.lights) c.in-Some.ensures.taken)

pub loop-light-init : goal.loop-light-init
unfolding word_stands letter_stands held_in restart_in pending_in queued_in
loop-light-init g c =
    let old = c.args.self.now in
    let first : Net = record old { emptied = 2 ^ 64 - 1 } in
    record {
      same = refl;
      seen = c.requires.seen;
      back = λ before way. way_noted c.args.level.now old first before refl way;
      rest = left_noted old first refl;
      shaped = shaped_noted c.args.board.now old first refl c.requires.net.shaped;
      bits = c.requires.net.bits;
      queue = c.requires.queue;
      pending = λ slot letter pends. inl pends;
      holding = λ dictionary setting holding. holding;
      ready = λ dictionary setting ready. ready;
      alive = λ light watched emptied. emptied;
    }

pub loop-light-preserved : goal.loop-light-preserved
unfolding word_stands letter_stands held_in restart_in pending_in queued_in
loop-light-preserved g c =
    let inv = c.loop-light.invariant in
    let k = c.try_light in
    let seen = k.new.self in
    let noted = c.note_emptied.new.self in
    let e = c.note_emptied.ensures in
    let light = c.in-Some.light in
    let taken : Net = record c.loop-light.self { queue = c.take_at.new.self } in
    let is : c.try_light.result ≡ Ok false = c.in_ok-is_dead.was ∙ ap (λ b. Ok b) c.if-is_dead.false in
    let move = λ (dictionary : Dictionary) (setting : IsSetting c.args.board.now (g.R.Rows.entries c.args.rows.now) dictionary). subst (λ e. IsSetting c.args.board.now e dictionary) (sym inv.same) setting in
    record {
      same = k.ensures.entries ∙ inv.same;
      seen = subst (λ e. AreSeen c.args.board.now e k.new.trail.seen.items) inv.same k.ensures.seen;
      back = λ before way. way_noted k.new.level seen noted before e (k.ensures.back before (way_queue c.loop-light.level c.loop-light.self taken before refl (inv.back before way)));
      rest = left_left inv.rest (left_left (left_queue c.loop-light.self taken refl) (left_left k.ensures.step.rest (left_noted seen noted e)));
      shaped = shaped_noted c.args.board.now seen noted e k.ensures.step.shaped;
      bits = subst (λ (n : Net). HasBits c.args.board.now (g.R.Rows.entries c.args.rows.now) n) (sym e) (subst (λ f. HasBits c.args.board.now f seen) inv.same k.ensures.step.bits);
      queue = subst (λ (n : Net). IsQueue n) (sym e) (λ other. k.ensures.waits is other (λ apart marked.
          waits_taken c.loop-light.self.queue.lights c.take_at.new.self.lights light other c.in-Some.ensures.taken apart (inv.queue other (ap (λ marks. get_or marks other false) (sym (ap (λ (l : ListOfLights). l.marks) c.take_at.ensures.rest)) ∙ marked))));
      pending = λ slot letter pends. elim (k.ensures.pending is slot letter (sym (ap (λ (n : Net). pending_in n slot letter) e) ∙ pends)) [ inl before ↦ inv.pending slot letter before | inr at ↦ inr at ];
      holding = λ dictionary setting holding.
          subst (λ (n : Net). IsHolding c.args.board.now dictionary (marks_of n)) (sym e) (k.ensures.holding is dictionary (move dictionary setting) (inv.holding dictionary setting holding));
      ready = λ dictionary setting ready.
          subst (λ (n : Net). IsReady c.args.board.now dictionary (marks_of n)) (sym e)
          (c.in_ok-is_dead.ensures.ready dictionary (move dictionary setting)
          (subst (λ (q : ListOfLights). IsReady c.args.board.now dictionary (marks_of (record c.loop-light.self { queue = q }))) (sym c.take_at.ensures.rest) (inv.ready dictionary setting ready)));
      alive = λ other watched emptied.
          let empty : IsEmptied seen other = λ choice. sym (ap (λ (n : Net). word_stands n other choice) e) ∙ emptied choice in
          elim (cases_eq other light) [
            | inl same ↦ absurd (k.ensures.alive is (ap (λ n. get_or c.args.search.watched.now n false) (sym same) ∙ watched) (subst (IsEmptied seen) same empty))
            | inr apart ↦ inv.alive other watched (λ choice. sym (k.ensures.others is other choice apart) ∙ empty choice)
          ];
    }

pub returns-clause-alive : goal.returns-clause-alive
unfolding word_stands
returns-clause-alive g c _ light watched emptied = c.loop-light.invariant.alive light watched emptied

pub returns-then-is_dead-clause-dies : goal.returns-then-is_dead-clause-dies
unfolding word_stands letter_stands held_in restart_in pending_in queued_in
returns-then-is_dead-clause-dies g c dictionary setting ready =
    let inv = c.loop-light.invariant in
    let seen = c.try_light.new.self in
    let is : c.try_light.result ≡ Ok true = c.in_ok-is_dead.was ∙ ap (λ b. Ok b) c.if-is_dead.true in
    let sound = (c.in_ok-is_dead.ensures.ready dictionary (subst (λ e. IsSetting c.args.board.now e dictionary) (sym inv.same) setting)
    (subst (λ (q : ListOfLights). IsReady c.args.board.now dictionary (marks_of (record c.loop-light.self { queue = q }))) (sym c.take_at.ensures.rest) (inv.ready dictionary setting ready))).sound in
    covered_dead c.args.board.now dictionary (word_stands seen) (letter_stands seen) c.in-Some.light sound.covers (c.try_light.ensures.emptied is)

pub returns-clause-filled : goal.returns-clause-filled
unfolding word_stands letter_stands held_in restart_in pending_in queued_in
returns-clause-filled g c _ dictionary setting from =
    let board = c.args.board.now in
    let last = c.loop-light.self in
    let inv = c.loop-light.invariant in
    subst (IsFilled board dictionary) (sym (taken_none last c.take_at.new.self c.in_default.ensures.none c.in_default.ensures.left c.take_at.ensures.rest))
    (stripped_filled board (g.R.Rows.entries c.args.rows.now) dictionary setting c.args.self.now last from (record { shaped = inv.shaped; bits = inv.bits; rest = inv.rest }) (inv.ready dictionary setting from.ready) inv.queue c.in_default.ensures.none
    (inv.holding dictionary setting from.holding)
    (λ slot letter pends. elim (inv.pending slot letter pends) [ inl before ↦ absurd (both_ways (pending_in c.args.self.now slot letter) (from.pending slot letter) before) | inr at ↦ at ]))

pub returns-in_err-is_dead-clause-back : goal.returns-in_err-is_dead-clause-back
returns-in_err-is_dead-clause-back g c before way =
    c.try_light.ensures.back before (way_queue c.loop-light.level c.loop-light.self (record c.loop-light.self { queue = c.take_at.new.self }) before refl (c.loop-light.invariant.back before way))

pub returns-then-is_dead-clause-back : goal.returns-then-is_dead-clause-back
returns-then-is_dead-clause-back g c before way =
    way_noted c.try_light.new.level c.try_light.new.self c.note_dead.new.self before c.note_dead.ensures
    (c.try_light.ensures.back before (way_queue c.loop-light.level c.loop-light.self (record c.loop-light.self { queue = c.take_at.new.self }) before refl (c.loop-light.invariant.back before way)))
