use Rattle.std.proofs.Common.{ap, ◌∙◌}
use Rattle.xw_words.specs.Dictionary.{Dictionary}
use Rattle.xw_feas.proofs.SnapshotLemmas.{saved_again}
use Rattle.xw_plain.proofs.searching.PlainSearchable.exchange.Goals as goal

pub returns-clause-now : goal.returns-clause-now
returns-clause-now c =
    let snapshot = c.args.snapshot.now in
    let engine = c.args.self.now in
    c.take_state.ensures.now
    ∙ ap (λ (words : Dictionary). record { grid = snapshot.grid; words = words })
    (saved_again (record { grid = snapshot.grid; words = snapshot.bank.value.words }) (record { grid = engine.position.grid; words = engine.position.bank.words }) snapshot.least snapshot.formed snapshot.same_least c.requires)
