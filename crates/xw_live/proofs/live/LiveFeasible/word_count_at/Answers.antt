use Rattle.std.proofs.Common.{◌∙◌}
use Rattle.xw_live.specs.Live.{state_of}
use Rattle.xw_live.proofs.Keeping.{kept_stands, kept_count}
use Rattle.xw_live.proofs.live.LiveFeasible.word_count_at.Goals as goal

pub word_count-requires-clause-settled : goal.word_count-requires-clause-settled
word_count-requires-clause-settled c =
    let live = c.args.self.now in
    kept_stands (state_of live) live.net live.position.lights live.position.light_list live.kept

pub returns : goal.returns
returns c =
    let live = c.args.self.now in
    c.word_count.ensures ∙ kept_count (state_of live) live.net live.position.lights live.position.light_list live.kept c.args.light c.requires
