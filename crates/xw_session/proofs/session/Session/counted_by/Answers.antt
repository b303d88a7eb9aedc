use Rattle.std.proofs.Common.{ℕ, ◌≡◌, length, Some, subst}
use Rattle.xw_grid.specs.Light.{lights_of, index_named}
use Rattle.xw_search.specs.Position.{position_of}
use Rattle.xw_search.specs.FeasibleWords.{feasible_words}
use Rattle.xw_session.specs.State.{SessionState}
use Rattle.xw_session.proofs.Engine.{counted}
use Rattle.xw_session.proofs.session.Session.counted_by.Goals as goal

pub returns-in-Ok-Ok-clause-some : goal.returns-in-Ok-Ok-clause-some
returns-in-Ok-Ok-clause-some g c =
    subst (λ (s : SessionState). (light : ℕ) × (index_named (lights_of s.engine.grid) c.args.name ≡ Some light)
    × (c.in-Ok-Ok.count ≡ length (feasible_words (position_of s.engine) light)) × (c.in-Ok-Ok.found ≡ feasible_words (position_of s.engine) light)) c.self.view_is
    (counted (g.E.Feasible.state c.self.inside.engine) (g.E.Feasible.answers c.self.inside.engine) _ c.in-Ok-Ok.count c.in-Ok-Ok.found (g.met.E.Feasible.exact c.self.inside.engine) c.in-Ok-Ok.ensures c.in-Ok-Ok.ensures')
