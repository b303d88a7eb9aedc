use Rattle.std.proofs.Common.{◌≡◌, ◌≢◌, ◌<◌, ℕ, ◌+◌, ◌-◌, ◌*◌, false, not, ◌&&◌, eqb, length, get_or, sym, ap, ◌∙◌, subst, inl, inr, arith}
use Rattle.std.proofs.lemmas.Bool.{cases_Bool, both_ways, and_parts, eq-eqb, not-true}
use Rattle.xw_net.specs.Marks.{IsSetting}
use Rattle.xw_net.specs.Nets.{marks_of, word_stands, letter_stands, held_in, restart_in, pending_in, queued_in}
use Rattle.xw_net.specs.Worklist.{ListOfLights, is_waiting}
use Rattle.xw_net.specs.declared.net.Net.{Net}
use Rattle.xw_net.proofs.Lists.QueuedLights.{marked_less}
use Rattle.xw_net.proofs.Stripping.EndOfStripping.{taken_under, kept_all}
use Rattle.xw_net.proofs.Stripping.HeldWords.{same_holding}
use Rattle.xw_net.proofs.net.Net.see_to.Goals as goal

pub returns-clause-kept : goal.returns-clause-kept
unfolding word_stands letter_stands held_in restart_in pending_in queued_in
returns-clause-kept g c dictionary measure setting under =
    let board = c.args.board.now in
    let light = c.args.light in
    let old = c.args.self.now in
    let struck = c.strike_light.new.self in
    let ticks = g.R.Rows.ticks c.strike_light.new.rows in
    let within' : light < length struck.queue.marks = omega (arith, c.requires.light, c.strike_light.ensures.step.shaped.queue) in
    let queued = c.requires.queued in
    let in_set = under.paid.queued light c.requires.light queued in
    let after = c.strike_light.ensures.kept dictionary measure setting queued in_set under in
    let mid : Net = record struck { queue = c.release.new.self } in
    let is : (j : ℕ) → get_or mid.queue.marks j false ≡ (get_or struck.queue.marks j false && not (eqb j light)) = λ j. ap (λ (list : ListOfLights). get_or list.marks j false) c.release.ensures ∙ marked_less struck.queue.marks light j within' in
    let taken = taken_under board dictionary (marks_of struck) (queued_in mid) light is measure ticks (λ position letter here. c.strike_light.ensures.cleared position letter here) after in
    let setting' = subst (λ e. IsSetting c.args.board.now e dictionary) (sym c.strike_light.ensures.entries) setting in
    kept_all board dictionary measure (marks_of c.keep_light.new.self) light (g.R.Rows.ticks c.keep_light.new.rows) (c.keep_light.ensures.held dictionary setting')
    (c.keep_light.ensures.kept dictionary measure setting' in_set taken)

pub returns-clause-holding : goal.returns-clause-holding
unfolding word_stands letter_stands held_in restart_in pending_in queued_in
returns-clause-holding g c dictionary setting holding =
    let struck = c.strike_light.new.self in
    let mid : Net = record struck { queue = c.release.new.self } in
    let setting' = subst (λ e. IsSetting c.args.board.now e dictionary) (sym c.strike_light.ensures.entries) setting in
    c.keep_light.ensures.check.holding dictionary setting'
    (same_holding c.args.board.now dictionary (marks_of c.args.self.now) (marks_of mid) (λ s d. ap (λ v. get_or v.items (26 * s + (d - 65)) 0) c.strike_light.ensures.struck.held) holding)

pub returns-clause-pending : goal.returns-clause-pending
unfolding pending_in
returns-clause-pending g c slot other pends =
    elim (c.keep_light.ensures.check.pending slot other pends) [
      | inl before ↦ elim (cases_Bool (pending_in c.args.self.now slot other)) [
        | inl was ↦ inl was
        | inr gone ↦ absurd (both_ways (pending_in c.strike_light.new.self slot other) (c.strike_light.ensures.less slot other gone) before)
      ]
      | inr at ↦ inr at
    ]

pub returns-clause-waits : goal.returns-clause-waits
unfolding queued_in
returns-clause-waits g c other waits =
    let light = c.args.light in
    let struck = c.strike_light.new.self in
    let within' : light < length struck.queue.marks = omega (arith, c.requires.light, c.strike_light.ensures.step.shaped.queue) in
    c.keep_light.ensures.check.waits other (λ h.
    let parts = and_parts (get_or struck.queue.marks other false) (not (eqb other light))
    (sym (ap (λ (list : ListOfLights). get_or list.marks other false) c.release.ensures ∙ marked_less struck.queue.marks light other within') ∙ h) in
    let apart : other ≢ light = λ e. both_ways (eqb other light) (not-true (eqb other light) parts.1) (eq-eqb other light e) in
    ap (λ (list : ListOfLights). is_waiting list.lights other) c.release.ensures ∙ ap (λ list. is_waiting list.lights other) c.strike_light.ensures.struck.queue
    ∙ waits apart (sym (ap (λ list. get_or list.marks other false) c.strike_light.ensures.struck.queue) ∙ parts.0))
