use Rattle.std.proofs.Common.{◌≡◌, ◌++◌, [], ◌∷◌, ℕ, ◌<◌, true, false, cond, length, is_ok, set, refl, sym, subst, ap, ◌∙◌, arith}
use Rattle.std.specs.Prelude.{List, vec_capacity}
use Rattle.std.proofs.lemmas.Bool.{cond-true, cond-false}
use Rattle.std.proofs.lemmas.List.{get_or_default, length-set}
use Rattle.xw_net.specs.Worklist.{ListOfLights, is_marked, IsKeptList, Grows}
use Rattle.xw_net.proofs.Lists.ListsOfLights.{kept_inserted, room_for, grows_none, grows_insert}
use Rattle.xw_net.proofs.worklist.Worklist.insert.Goals as goal

lt_in : (g : goal.After-push) → g.args.light < length g.self.inside.marks.items
lt_in c = subst (λ (l : ListOfLights). c.args.light < length l.marks) (sym c.self.view_is) c.requires

new_in : (g : goal.After-push) → is_marked g.self.inside.marks.items g.args.light ≡ false
unfolding is_marked
new_in c = sym (get_or_default c.self.inside.marks.items c.args.light c.index.result.now false (lt_in c)) ∙ sym c.index.ensures ∙ c.if-not-index.true

pushed : (g : goal.After-push) → g.push.new.self.items ≡ g.self.inside.lights.items ++ g.args.light ∷ []
pushed c =
    let lights = c.self.inside.lights in
    let room = room_for c.self.inside.marks.items lights.items _ c.args.light c.self.invariant.list (lt_in c) (new_in c) in
    c.push.ensures.items ∙ cond-true (is_ok c.push.result) (lights.items ++ c.args.light ∷ []) lights.items (c.push.ensures.succeeds (omega (arith, room, lights.ok.0, c.self.invariant.held)))

pub put-requires : goal.put-requires
put-requires c = omega (arith, c.self.invariant.list.roomy, c.requires, ap (λ (l : ListOfLights). length l.marks) c.self.view_is)

pub invariant_of-self : goal.invariant_of-self
invariant_of-self c =
    let marks = c.self.inside.marks.items in
    let lights = c.self.inside.lights in
    let long : c.len.result ≡ length lights.items = omega (arith, c.len.ensures, lights.ok.0) in
    let P : List ℕ → List ℕ → Type 0 = λ l places. IsKeptList (set c.self.inside.marks.items c.args.light true) l places (vec_capacity c.push.new.self) in
    subst (λ l. P l c.put.new.self) (sym (pushed c)) (subst (P (lights.items ++ c.args.light ∷ [])) (sym (c.put.ensures ∙ ap (set c.self.inside.urgent c.args.light) long))
    (kept_inserted marks lights.items c.self.inside.urgent (vec_capacity lights) c.self.invariant c.args.light (vec_capacity c.push.new.self) (lt_in c) (new_in c) c.push.ensures.capacity))

pub returns-then-not-index-clause-lights : goal.returns-then-not-index-clause-lights
returns-then-not-index-clause-lights c =
    let light = c.args.light in
    subst (λ (l : ListOfLights). c.push.new.self.items ≡ cond (is_marked l.marks c.args.light) l.lights (l.lights ++ c.args.light ∷ [])) c.self.view_is
    (pushed c ∙ sym (cond-false (is_marked c.self.inside.marks.items light) c.self.inside.lights.items (c.self.inside.lights.items ++ light ∷ []) (new_in c)))

pub returns-then-not-index-clause-room : goal.returns-then-not-index-clause-room
returns-then-not-index-clause-room c = omega (arith, ap length c.put.ensures, length-set c.self.inside.urgent c.args.light c.len.result, ap (λ (l : ListOfLights). l.room) c.self.view_is)

pub returns-then-not-index-clause-grows : goal.returns-then-not-index-clause-grows
returns-then-not-index-clause-grows c =
    let light = c.args.light in
    let old : ListOfLights = record { marks = c.self.inside.marks.items; lights = c.self.inside.lights.items; room = length c.self.inside.urgent } in
    let new : ListOfLights = record { marks = set c.self.inside.marks.items c.args.light true; lights = c.push.new.self.items; room = length c.put.new.self } in
    let is : c.push.new.self.items ≡ cond (is_marked c.self.inside.marks.items c.args.light) c.self.inside.lights.items (c.self.inside.lights.items ++ c.args.light ∷ []) =
    pushed c ∙ sym (cond-false (is_marked c.self.inside.marks.items light) c.self.inside.lights.items (c.self.inside.lights.items ++ light ∷ []) (new_in c)) in
    subst (λ (l : ListOfLights). Grows l new) c.self.view_is (grows_insert old new light (lt_in c) refl is)

pub returns-else-not-index-clause-lights : goal.returns-else-not-index-clause-lights
unfolding is_marked
returns-else-not-index-clause-lights c =
    let light = c.args.light in
    let lt : c.args.light < length c.self.inside.marks.items = subst (λ (l : ListOfLights). c.args.light < length l.marks) (sym c.self.view_is) c.requires in
    let was : is_marked c.self.inside.marks.items c.args.light ≡ true = sym (get_or_default c.self.inside.marks.items light c.index.result.now false lt) ∙ sym c.index.ensures ∙ c.if-not-index.false in
    subst (λ (l : ListOfLights). l.lights ≡ cond (is_marked l.marks c.args.light) l.lights (l.lights ++ c.args.light ∷ [])) c.self.view_is
    (sym (cond-true (is_marked c.self.inside.marks.items light) c.self.inside.lights.items (c.self.inside.lights.items ++ light ∷ []) was))

pub returns-else-not-index-clause-grows : goal.returns-else-not-index-clause-grows
returns-else-not-index-clause-grows c = grows_none c.args.self.now
