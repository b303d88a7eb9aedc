use Rattle.std.proofs.Common.{ap}
use Rattle.xw_feas.specs.State.{known_placed}
use Rattle.xw_search.specs.Position.{Position}
use Rattle.xw_search.specs.Lights.{light_count}
use Rattle.xw_fill.specs.Inner.Tries.{IsMade}
use Rattle.xw_search.proofs.LetterSearch.{position_at}
use Rattle.xw_search.proofs.TryingLemmas.{tried_ok}
use Rattle.xw_fill.proofs.TryingLemmas.{word_may, word_makes}
use Rattle.xw_fill.proofs.tries.TryPlacement.try_place.Goals as goal

pub try_word-requires : goal.try_word-requires
try_word-requires g c = word_may (g.E.Feasible.state c.args.engine.now) c.args.self.now c.requires

pub returns-clause-led : goal.returns-clause-led
returns-clause-led g c =
    let before = g.E.Feasible.state c.args.engine.now in
    let tried = c.args.self.now in
    tried_ok before (g.E.Feasible.state c.try_word.new.self) (known_placed before tried.light tried.index) c.args.watched.now (IsMade tried before)
    (λ there. word_makes tried before there (g.met.E.Feasible.well_formed c.args.engine.now) c.requires)
    (λ there made. ap (λ (p : Position). light_count p) (position_at before there made.entries)) c.try_word.result c.try_word.ensures.tried
