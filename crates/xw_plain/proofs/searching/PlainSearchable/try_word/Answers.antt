use Rattle.std.proofs.Common.{◌≡◌, sym, ap, ◌∙◌, subst, ◌<◌, length}
use Rattle.std.specs.Prelude.{Ok}
use Rattle.std.proofs.lemmas.Option.{IfSome_then}
use Rattle.xw_grid.specs.Light.{lights_of}
use Rattle.xw_feas.specs.State.{State, after, known_placed, known_count}
use Rattle.xw_plain.specs.Plain.{state_of, levels_of}
use Rattle.xw_plain.proofs.Levels.{none_then, tried_level}
use Rattle.xw_plain.proofs.searching.PlainSearchable.try_word.Goals as goal

pub enter_word-requires-clause-light : goal.enter_word-requires-clause-light
enter_word-requires-clause-light c = subst (λ (state : State). c.args.light < length (lights_of state.grid)) (sym c.keep_level.ensures.state) c.requires.within

pub enter_word-requires-clause-index : goal.enter_word-requires-clause-index
enter_word-requires-clause-index c = subst (λ (state : State). c.args.index < known_count state c.args.light) (sym c.keep_level.ensures.state) c.requires.known

pub returns-clause-tried : goal.returns-clause-tried
returns-clause-tried c =
    let before = state_of c.args.self.now in
    let there = state_of c.enter_word.new.self in
    let now = c.go_back_if_dead.new.self in
    let back = c.go_back_if_dead.ensures in
    let made = subst (λ (state : State). after state (known_placed state c.args.light c.args.index) ≡ Ok there) c.keep_level.ensures.state c.enter_word.ensures.made in
    let levels = sym (c.enter_word.ensures.levels ∙ c.in_ok-keep_level.ensures.levels) in
    tried_level before there (state_of now) (known_placed before c.args.light c.args.index) c.args.watched.now c.go_back_if_dead.result (levels_of c.args.self.now) (levels_of now) made back.watched back.dead
    (IfSome_then c.go_back_if_dead.result back.back (λ light is. levels ∙ is)) back.alive (none_then c.go_back_if_dead.result back.same (ap state_of))
