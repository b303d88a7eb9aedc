use Rattle.std.proofs.Common.{◌∙◌}
use Rattle.xw_live.specs.Live.{state_of}
use Rattle.xw_live.proofs.Saving.{tally_is}
use Rattle.xw_live.proofs.searching.LiveSearchable.tally.Goals as goal

pub returns : goal.returns
returns c =
    let live = c.args.self.now in
    c.tally.ensures ∙ tally_is (state_of live) live.net c.args.light c.args.position c.args.letter c.requires.light
