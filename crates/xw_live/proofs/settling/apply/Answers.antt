use Rattle.std.proofs.Common.{◌≡◌, ℕ, ◌≤◌, List, length, refl, sym, ◌∙◌, ap, subst}
use Rattle.std.specs.Prelude.{Ok, Some, ◌+◌, if◌then◌else◌}
use Rattle.std.proofs.lemmas.Bool.{false≢true}
use Rattle.xw_words.specs.Dictionary.{Dictionary, known_words}
use Rattle.xw_grid.specs.declared.lights.Light.{Light}
use Rattle.xw_grid.specs.Grid.{Grid}
use Rattle.xw_feas.specs.declared.effect.Effect.{Effect}
use Rattle.xw_feas.specs.Pending.{in_place_action, shape_action}
use Rattle.xw_feas.specs.EngineState.{state_of}
use Rattle.xw_feas.specs.Rows.{grows}
use Rattle.xw_feas.specs.Shape.{GrowsAt}
use Rattle.xw_feas.specs.State.{State, after, word_added}
use Rattle.xw_feas.specs.Effect.{fields_of, is_idle_by, word_by, IsTold}
use Rattle.xw_net.specs.Fit.{lacking, HasRoomBetween}
use Rattle.xw_net.specs.Net.{known_counts}
use Rattle.xw_net.specs.Room.{HasRoom}
use Rattle.xw_live.proofs.Following.{alike_itself, something_told, can_follow, can_follow_same}
use Rattle.xw_live.proofs.Keeping.{kept_stands, settled_alike, near_same, near_grown, room_of_lights, room_waiting, room_without, room_in_place, room_for_none}
use Rattle.xw_live.proofs.settling.apply.Goals as goal

-- ---- in its place

pub returns-in-InPlace-clause-follow : goal.returns-in-InPlace-clause-follow
returns-in-InPlace-clause-follow c = λ some.
    let was = c.args.position.now in
    let now = c.commit.new.self in
    let action = in_place_action (state_of was) c.in-InPlace.edit in
    can_follow_same was now action c.args.net.now c.requires.kept c.commit.ensures.made (fields_of now.lights now.notes) (something_told (state_of was) (state_of now) now.lights now.notes action now.notes.effect some c.commit.ensures.told) c.commit.ensures.lights c.commit.ensures.shape.cells c.commit.ensures.counts

pub returns-in-InPlace-clause-alike : goal.returns-in-InPlace-clause-alike
returns-in-InPlace-clause-alike c = alike_itself c.args.net.now

-- ---- another grid

pub returns-in_ok-reserve-in-Shape-clause-follow : goal.returns-in_ok-reserve-in-Shape-clause-follow
returns-in_ok-reserve-in-Shape-clause-follow c = λ some.
    let was = c.args.position.now in
    let net = c.reserve.new.self in
    let now = c.reshape.new.self in
    let action = shape_action c.in-Shape.edit in
    let ready = settled_alike (state_of was) c.args.net.now net c.reserve.ensures.same c.requires.kept.settled in
    can_follow was now action c.args.net.now c.requires.kept c.reshape.ensures.made (fields_of now.lights now.notes) net (something_told (state_of was) (state_of now) now.lights now.notes action now.notes.effect some c.reshape.ensures.told) c.reserve.ensures.same
    (ap (λ (s : State). length s.grid.squares) c.reshape.ensures.state ∙ c.in_ok-grid-in-Shape.ensures.cells)
    (near_same was.bank.words now.bank.words _ (λ len. ap (λ (s : State). length (known_words s.words len)) c.reshape.ensures.state))
    (subst (λ (s : State). HasRoomBetween c.args.position.now.lights c.reshape.new.self.lights (known_counts s.words) c.reserve.new.self c.reserve.new.self.spare) (sym c.reshape.ensures.state)
    (subst (λ (lights : List Light). HasRoomBetween c.args.position.now.lights lights (known_counts c.args.position.now.bank.words) c.reserve.new.self c.reserve.new.self.spare) (sym c.reshape.ensures.lights)
    (room_waiting was.lights c.in_ok-grid-in-Shape.lights (known_counts was.bank.words) net net.spare (c.in_ok-reserve-in-Shape.ensures.waits refl) (room_of_lights (state_of was) net was.lights was.light_list ready)
    (room_for_none c.in_ok-grid-in-Shape.lights was.bank.words net net.spare c.in_ok-reserve-in-Shape.ensures.room))))

pub returns-in_ok-reserve-in-Shape-clause-waits : goal.returns-in_ok-reserve-in-Shape-clause-waits
returns-in_ok-reserve-in-Shape-clause-waits c = λ idle. absurd (false≢true (ap is_idle_by (sym c.reshape.ensures.effect) ∙ idle))

-- ---- a new word

pub reserve-requires-in-New-2 : goal.reserve-requires-in-New-2
reserve-requires-in-New-2 c =
    let was = c.args.position.now in
    kept_stands (state_of was) c.args.net.now c.reserve-in-New.new.self.lights (c.reserve-in-New.ensures.lights ∙ was.light_list) c.requires.kept

pub returns-in_ok-reserve-in-New-2-clause-follow : goal.returns-in_ok-reserve-in-New-2-clause-follow
returns-in_ok-reserve-in-New-2-clause-follow c = λ some.
    let was = c.args.position.now in
    let net = c.reserve-in-New-2.new.self in
    let now = c.append.new.self in
    let action = word_added c.in-New.word.now c.in-New.grade in
    let state : state_of c.reserve-in-New.new.self ≡ state_of c.args.position.now = λ i. record { grid = c.reserve-in-New.ensures.grid i; words = c.reserve-in-New.ensures.words i } in
    let made : after (state_of c.args.position.now) (word_added c.in-New.word.now c.in-New.grade) ≡ Ok (state_of c.append.new.self) = ap (λ (s : State). after s (word_added c.in-New.word.now c.in-New.grade)) (sym state) ∙ c.append.ensures.made in
    let told : IsTold (state_of c.args.position.now) c.append.new.self (word_added c.in-New.word.now c.in-New.grade) = subst (λ (s : State). IsTold s c.append.new.self (word_added c.in-New.word.now c.in-New.grade)) state c.append.ensures.told in
    let waits = c.in_ok-reserve-in-New-2.ensures.none_waits (length c.in-New.word.now) refl in
    let grown : GrowsAt c.args.position.now.bank.words c.append.new.self.bank.words (length c.in-New.word.now) =
    subst (λ (words : Dictionary). GrowsAt words c.append.new.self.bank.words (length c.in-New.word.now)) c.reserve-in-New.ensures.words c.append.ensures.counts in
    let room : HasRoom c.append.new.self.lights (λ len. known_counts c.args.position.now.bank.words len + (if grows (Some (length c.in-New.word.now)) len then 1 else 0)) c.reserve-in-New-2.new.self =
    subst (λ (words : Dictionary). HasRoom c.append.new.self.lights (λ len. known_counts words len + (if grows (Some (length c.in-New.word.now)) len then 1 else 0)) c.reserve-in-New-2.new.self) c.reserve-in-New.ensures.words
    (subst (λ (lights : List Light). HasRoom lights (λ len. known_counts c.reserve-in-New.new.self.bank.words len + (if grows (Some (length c.in-New.word.now)) len then 1 else 0)) c.reserve-in-New-2.new.self) (sym c.append.ensures.lights)
    (room_in_place c.reserve-in-New.new.self.lights _ net net.spare waits c.in_ok-reserve-in-New-2.ensures.room)) in
    can_follow was now action c.args.net.now c.requires.kept made (fields_of now.lights now.notes) net (something_told (state_of was) (state_of now) now.lights now.notes action now.notes.effect some told) c.reserve-in-New-2.ensures.same
    (ap (λ (grid : Grid). length grid.squares) (c.append.ensures.grid ∙ c.reserve-in-New.ensures.grid))
    (subst (λ (effect : Effect). (len : ℕ) → (known_counts c.args.position.now.bank.words len ≤ known_counts c.append.new.self.bank.words len) × (known_counts c.append.new.self.bank.words len ≤ known_counts c.args.position.now.bank.words len + lacking (word_by effect) len)) (sym c.append.ensures.effect)
    (near_grown was.bank.words now.bank.words (length c.in-New.word.now) (length (known_words c.reserve-in-New.new.self.bank.words (length c.in-New.word.now))) grown))
    (room_without was.lights now.lights (known_counts now.bank.words) net net.spare waits (c.append.ensures.lights ∙ c.reserve-in-New.ensures.lights)
    (subst (λ counts. HasRoom c.append.new.self.lights counts c.reserve-in-New-2.new.self) (λ i len. sym (grown len) i) room))

pub returns-in_ok-reserve-in-New-2-clause-waits : goal.returns-in_ok-reserve-in-New-2-clause-waits
returns-in_ok-reserve-in-New-2-clause-waits c = λ idle. absurd (false≢true (ap is_idle_by (sym c.append.ensures.effect) ∙ idle))
