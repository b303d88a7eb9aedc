use Rattle.std.proofs.Common.{◌≡◌, ◌≢◌, ◌<◌, ℕ, ◌+◌, ◌-◌, ◌*◌, false, not, ◌&&◌, eqb, length, get_or, refl, sym, ap, ◌∙◌, subst, inl, inr, arith}
use Rattle.std.proofs.lemmas.Bool.{cases_Bool, both_ways, and_parts, eq-eqb, not-true}
use Rattle.xw_bits.specs.Bits.{RowOfBits}
use Rattle.xw_net.specs.Marks.{IsSetting}
use Rattle.xw_net.specs.Nets.{marks_of, word_stands, letter_stands, held_in, restart_in, pending_in, queued_in}
use Rattle.xw_net.specs.Worklist.{ListOfLights, is_waiting}
use Rattle.xw_net.specs.declared.level.Level.{Level}
use Rattle.xw_net.specs.declared.net.Net.{Net}
use Rattle.xw_net.proofs.BaseRows.WrittenRows.{bits_read}
use Rattle.xw_net.proofs.Stripping.ReadyNets.{whole_measure, ready_underway}
use Rattle.xw_net.proofs.Levels.WaysBack.{way_struck, way_dropped, way_queue, words_elsewhere}
use Rattle.xw_net.proofs.Lists.QueuedLights.{marked_less}
use Rattle.xw_net.proofs.Stripping.DroppedLetters.{words_struck}
use Rattle.xw_net.proofs.Stripping.EndOfStripping.{taken_under, kept_all}
use Rattle.xw_net.proofs.Stripping.HeldWords.{same_holding}
use Rattle.xw_net.proofs.net.Net.try_light.Goals as goal

mid_words : (net : Net) (queue : ListOfLights) (light choice : ℕ) → word_stands (record net { queue = queue }) light choice ≡ word_stands net light choice
unfolding word_stands
mid_words net queue light choice = refl

pub returns-then-is_dead-clause-back : goal.returns-then-is_dead-clause-back
returns-then-is_dead-clause-back g c before way =
    let old = c.args.self.now in
    let struck = c.strike_light.new.self in
    let light = c.args.light in
    let k = c.strike_light.ensures in
    let level : Level = record c.args.level.now { rows = c.keep_row.new.kept } in
    let within : light < length old.rows.items = omega (arith, c.requires.light, c.requires.net.shaped.rows, old.rows.ok.0) in
    let read = ap (λ (r : RowOfBits). r.bits) c.index.ensures ∙ bits_read old.rows.items light within c.index.result.now in
    way_struck c.args.level.now level old struck before light refl c.in_ok-keep_row.ensures.has (c.keep_row.ensures.back old.rows.items before.rows.items within read way.rows) k.only
    k.step.rest.long (omega (arith, k.only.many, struck.entered.ok.0, old.entered.ok.0)) (k.step.bits light c.requires.light ∙ sym (c.requires.net.bits light c.requires.light)) way

pub returns-clause-back : goal.returns-clause-back
returns-clause-back g c before way =
    let old = c.args.self.now in
    let struck = c.strike_light.new.self in
    let light = c.args.light in
    let k = c.strike_light.ensures in
    let mid : Net = record struck { queue = c.release.new.self } in
    let new = c.check_found.new.self in
    let level : Level = record c.args.level.now { rows = c.keep_row.new.kept } in
    let within : light < length old.rows.items = omega (arith, c.requires.light, c.requires.net.shaped.rows, old.rows.ok.0) in
    let read = ap (λ (r : RowOfBits). r.bits) c.index.ensures ∙ bits_read old.rows.items light within c.index.result.now in
    let struck_way = way_struck c.args.level.now level old struck before light refl c.in_ok-keep_row.ensures.has (c.keep_row.ensures.back old.rows.items before.rows.items within read way.rows) k.only
    k.step.rest.long (omega (arith, k.only.many, struck.entered.ok.0, old.entered.ok.0)) (k.step.bits light c.requires.light ∙ sym (c.requires.net.bits light c.requires.light)) way in
    way_dropped level mid new before c.check_found.ensures.same (c.check_found.ensures.step.shaped.letters ∙ sym k.step.shaped.letters) (way_queue level struck mid before refl struck_way)

pub returns-then-is_dead-clause-ready : goal.returns-then-is_dead-clause-ready
returns-then-is_dead-clause-ready g c dictionary setting ready =
    (c.strike_light.ensures.kept dictionary (whole_measure c.args.board.now dictionary (marks_of c.args.self.now) (g.R.Rows.ticks c.args.rows.now)) setting c.requires.queued refl
    (ready_underway c.args.board.now dictionary (marks_of c.args.self.now) (g.R.Rows.ticks c.args.rows.now) ready)).kept

pub returns-clause-ready : goal.returns-clause-ready
unfolding word_stands letter_stands held_in restart_in pending_in queued_in
returns-clause-ready g c dictionary setting ready =
    let board = c.args.board.now in
    let light = c.args.light in
    let struck = c.strike_light.new.self in
    let measure = whole_measure board dictionary (marks_of c.args.self.now) (g.R.Rows.ticks c.args.rows.now) in
    let ticks = g.R.Rows.ticks c.strike_light.new.rows in
    let within' : light < length struck.queue.marks = omega (arith, c.requires.light, c.strike_light.ensures.step.shaped.queue) in
    let after = c.strike_light.ensures.kept dictionary measure setting c.requires.queued refl (ready_underway board dictionary (marks_of c.args.self.now) (g.R.Rows.ticks c.args.rows.now) ready) in
    let mid : Net = record struck { queue = c.release.new.self } in
    let is : (j : ℕ) → get_or mid.queue.marks j false ≡ (get_or struck.queue.marks j false && not (eqb j light)) = λ j. ap (λ (list : ListOfLights). get_or list.marks j false) c.release.ensures ∙ marked_less struck.queue.marks light j within' in
    let taken = taken_under board dictionary (marks_of struck) (queued_in mid) light is measure ticks (λ position letter here. c.strike_light.ensures.cleared position letter here) after in
    let setting' = subst (λ e. IsSetting c.args.board.now e dictionary) (sym c.strike_light.ensures.entries) setting in
    (kept_all board dictionary measure (marks_of c.check_found.new.self) light ticks (c.check_found.ensures.held dictionary setting') (c.check_found.ensures.kept ticks dictionary measure setting' refl taken)).kept

pub returns-clause-holding : goal.returns-clause-holding
unfolding word_stands letter_stands held_in restart_in pending_in queued_in
returns-clause-holding g c _ dictionary setting holding =
    let struck = c.strike_light.new.self in
    let mid : Net = record struck { queue = c.release.new.self } in
    let setting' = subst (λ e. IsSetting c.args.board.now e dictionary) (sym c.strike_light.ensures.entries) setting in
    c.check_found.ensures.check.holding dictionary setting'
    (same_holding c.args.board.now dictionary (marks_of c.args.self.now) (marks_of mid) (λ s d. ap (λ v. get_or v.items (26 * s + (d - 65)) 0) c.strike_light.ensures.struck.held) holding)

pub returns-clause-pending : goal.returns-clause-pending
unfolding pending_in
returns-clause-pending g c _ slot other pends =
    elim (c.check_found.ensures.check.pending slot other pends) [
      | inl before ↦ elim (cases_Bool (pending_in c.args.self.now slot other)) [
        | inl was ↦ inl was
        | inr gone ↦ absurd (both_ways (pending_in c.strike_light.new.self slot other) (c.strike_light.ensures.less slot other gone) before)
      ]
      | inr at ↦ inr at
    ]

pub returns-clause-waits : goal.returns-clause-waits
unfolding queued_in
returns-clause-waits g c _ other waits =
    let light = c.args.light in
    let struck = c.strike_light.new.self in
    let within' : light < length struck.queue.marks = omega (arith, c.requires.light, c.strike_light.ensures.step.shaped.queue) in
    c.check_found.ensures.check.waits other (λ h.
    let parts = and_parts (get_or struck.queue.marks other false) (not (eqb other light))
    (sym (ap (λ (list : ListOfLights). get_or list.marks other false) c.release.ensures ∙ marked_less struck.queue.marks light other within') ∙ h) in
    let apart : other ≢ light = λ e. both_ways (eqb other light) (not-true (eqb other light) parts.1) (eq-eqb other light e) in
    ap (λ (list : ListOfLights). is_waiting list.lights other) c.release.ensures ∙ ap (λ list. is_waiting list.lights other) c.strike_light.ensures.struck.queue
    ∙ waits apart (sym (ap (λ list. get_or list.marks other false) c.strike_light.ensures.struck.queue) ∙ parts.0))

pub returns-clause-alive : goal.returns-clause-alive
returns-clause-alive g c _ watched emptied =
    let struck = c.strike_light.new.self in
    let mid : Net = record struck { queue = c.release.new.self } in
    c.is_dead.ensures.alive c.if-is_dead.false watched (λ choice. sym (mid_words struck c.release.new.self c.args.light choice) ∙ sym (words_struck mid c.check_found.new.self c.check_found.ensures.same c.args.light choice) ∙ emptied choice)

pub returns-clause-others : goal.returns-clause-others
returns-clause-others g c _ other choice apart =
    let struck = c.strike_light.new.self in
    let mid : Net = record struck { queue = c.release.new.self } in
    words_struck mid c.check_found.new.self c.check_found.ensures.same other choice ∙ mid_words struck c.release.new.self other choice ∙ words_elsewhere c.args.self.now struck c.args.light other choice c.strike_light.ensures.only apart
