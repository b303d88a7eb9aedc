use Rattle.std.proofs.Common.{◌≡◌, sym, ap, ◌∙◌, subst}
use Rattle.std.specs.Prelude.{Ok}
use Rattle.std.proofs.lemmas.Option.{IfSome_then}
use Rattle.xw_feas.specs.State.{State, after, letter_set}
use Rattle.xw_feas.specs.Trying.{MayTryLetter}
use Rattle.xw_plain.specs.Plain.{state_of, levels_of}
use Rattle.xw_plain.proofs.Levels.{none_then, tried_level}
use Rattle.xw_plain.proofs.searching.PlainSearchable.try_letter.Goals as goal

pub enter_letter-requires : goal.enter_letter-requires
enter_letter-requires c = subst (λ (state : State). MayTryLetter state c.args.cell c.args.letter) (sym c.keep_level.ensures.state) c.requires

pub returns-clause-tried : goal.returns-clause-tried
returns-clause-tried c =
    let before = state_of c.args.self.now in
    let there = state_of c.enter_letter.new.self in
    let now = c.go_back_if_dead.new.self in
    let back = c.go_back_if_dead.ensures in
    let made = subst (λ (state : State). after state (letter_set c.args.cell c.args.letter) ≡ Ok there) c.keep_level.ensures.state c.enter_letter.ensures.made in
    let levels = sym (c.enter_letter.ensures.levels ∙ c.in_ok-keep_level.ensures.levels) in
    tried_level before there (state_of now) (letter_set c.args.cell c.args.letter) c.args.watched.now c.go_back_if_dead.result (levels_of c.args.self.now) (levels_of now) made back.watched back.dead
    (IfSome_then c.go_back_if_dead.result back.back (λ light is. levels ∙ is)) back.alive (none_then c.go_back_if_dead.result back.same (ap state_of))
