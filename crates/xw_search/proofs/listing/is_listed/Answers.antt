use Rattle.std.proofs.Common.{ap, sym, ◌∙◌}
use Rattle.xw_words.specs.Dictionary.{Dictionary, known_words, entry_at}
use Rattle.xw_search.specs.Position.{position_of}
use Rattle.xw_search.specs.Lights.{spelling}
use Rattle.xw_search.proofs.Shaped.{distinct_words}
use Rattle.xw_search.proofs.ListingLemmas.{listed-none, listed-some}
use Rattle.xw_search.proofs.listing.is_listed.Goals as goal

pub returns-in-None : goal.returns-in-None
returns-in-None g c =
    let state = g.E.Feasible.state c.args.engine.now in
    sym (listed-none (position_of state) (spelling (position_of state) c.args.light) (sym c.word_index.ensures ∙ c.in-None.is))

pub returns-in-Some : goal.returns-in-Some
returns-in-Some g c =
    let state = g.E.Feasible.state c.args.engine.now in
    let word = spelling (position_of state) c.args.light in
    c.is_active.ensures ∙ ap (λ (words : Dictionary). (entry_at (known_words words c.size_of.result) c.in-Some.index).active) c.bank.ensures ∙ ap (λ n. (entry_at (known_words state.words n) c.in-Some.index).active) c.size_of.ensures
    ∙ sym (listed-some (position_of state) word c.in-Some.index (distinct_words state.words (g.met.E.Feasible.well_formed c.args.engine.now).dictionary) (sym c.word_index.ensures ∙ c.in-Some.is))
