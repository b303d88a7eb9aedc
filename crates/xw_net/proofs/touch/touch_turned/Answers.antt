use Rattle.std.proofs.Common.{◌≡◌, false, true}
use Rattle.std.specs.Prelude.{slice_index_or}
use Rattle.xw_net.specs.Opened.{HasTurnedWords}
use Rattle.xw_net.proofs.Lists.ListsOfLights.{adds_as}
use Rattle.xw_net.proofs.touch.touch_turned.Goals as goal

pub returns-then-back-clause-chain : goal.returns-then-back-clause-chain
returns-then-back-clause-chain c =
    adds_as (HasTurnedWords c.args.board.now (λ len. slice_index_or c.args.turned.now len false)) (λ light. (c.args.back ≡ true) × HasTurnedWords c.args.board.now (λ len. slice_index_or c.args.turned.now len false) light) c.args.chain.now c.mark_turned-then-back.new.list
    (λ light is. (c.if-back.true, is)) (λ light is. is.1) c.mark_turned-then-back.ensures
