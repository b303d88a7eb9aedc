use Rattle.std.proofs.Common.{ℕ, List, None, sym, ap, ◌∙◌, subst}
use Rattle.std.specs.Prelude.{Option, is_some}
use Rattle.xw_grid.specs.declared.lights.Light.{Light}
use Rattle.xw_net.specs.Change.{before_of, word_of}
use Rattle.xw_net.specs.Room.{counts_of}
use Rattle.xw_net.specs.Fit.{CanFollow, Follows}
use Rattle.xw_net.proofs.Edits.ShapeNotes.{shape_without_word, some_gives, none_gives}
use Rattle.xw_net.proofs.Nets.TurnedNets.{follows_kept}
use Rattle.xw_net.proofs.net.Net.follow.Goals as goal

pub turn_to-requires : goal.turn_to-requires
turn_to-requires g c =
    let a = c.args in
    let counts = counts_of (g.R.Rows.entries a.words.now) in
    subst (λ (before : List Light). CanFollow before a.lights.now counts None a.self.now) (some_gives _ c.before-2.result c.in-Some.before c.in-Some.is c.before-2.ensures.some a.lights.now)
    (subst (λ (word : Option (ℕ × ℕ)). CanFollow (before_of a.lights.now a.change.now) a.lights.now counts word a.self.now) (shape_without_word a.change.now (ap is_some (sym c.in-Some.is) ∙ c.before-2.ensures.shape)) c.requires)

pub returns-in-Some : goal.returns-in-Some
returns-in-Some g c =
    let a = c.args in
    let counts = counts_of (g.R.Rows.entries a.words.now) in
    subst (λ (before : List Light). Follows before a.lights.now counts (word_of a.change.now) a.self.now c.turn_to.new.self) (sym (some_gives _ c.before-2.result c.in-Some.before c.in-Some.is c.before-2.ensures.some a.lights.now))
    (subst (λ (word : Option (ℕ × ℕ)). Follows c.in-Some.before.now a.lights.now counts word a.self.now c.turn_to.new.self) (sym (shape_without_word a.change.now (ap is_some (sym c.in-Some.is) ∙ c.before-2.ensures.shape))) c.turn_to.ensures)

pub returns-in-None : goal.returns-in-None
returns-in-None g c =
    follows_kept (before_of c.args.lights.now c.args.change.now) c.args.lights.now (counts_of (g.R.Rows.entries c.args.words.now)) (word_of c.args.change.now) c.args.self.now
    (sym (none_gives c.before-2.result c.in-None.is c.before-2.ensures.none c.args.lights.now)) c.requires.lights c.requires.rest c.requires.rows c.requires.base c.requires.room
