use Rattle.std.proofs.Common.{sym, ap, subst, arith}
use Rattle.std.specs.Prelude.{is_some}
use Rattle.std.specs.Coded.{le_prop}
use Rattle.std.proofs.Math.Logic.{∥∥₁_elim}
use mathlib.Core.Logic.{∥∥₁_prop}
use Rattle.xw_words.specs.Dictionary.{Dictionary, known_words}
use Rattle.xw_feas.specs.State.{State}
use Rattle.xw_net.specs.Change.{before_of, word_of}
use Rattle.xw_net.specs.Net.{StoodFor, known_counts, sets_of}
use Rattle.xw_net.specs.Fit.{HasRoomBetween}
use Rattle.xw_live.proofs.Keeping.{kept_from}
use Rattle.xw_live.proofs.settling.settle.Goals as goal

pub settle-requires-clause-cells : goal.settle-requires-clause-cells
unfolding sets_of
settle-requires-clause-cells c = omega (arith, c.requires.cells)

pub settle-requires-clause-stood : goal.settle-requires-clause-stood
settle-requires-clause-stood c = subst (λ (words : Dictionary). StoodFor (before_of c.args.position.now.lights c.args.position.now.notes) (word_of c.args.position.now.notes) (known_counts words) c.args.net.now) (sym c.new-rows.ensures.words) c.requires.stood

pub settle-requires-clause-room : goal.settle-requires-clause-room
settle-requires-clause-room c = subst (λ (words : Dictionary). HasRoomBetween (before_of c.args.position.now.lights c.args.position.now.notes) c.args.position.now.lights (known_counts words) c.args.net.now c.args.net.now.spare) (sym c.new-rows.ensures.words) c.requires.room

pub returns-clause-kept : goal.returns-clause-kept
returns-clause-kept c before action change known =
    let now : State = record { grid = c.args.position.now.grid; words = c.args.position.now.bank.words } in
    let net = c.settle.new.self in
    kept_from now net
    (∥∥₁_elim known ∥∥₁_prop (λ settled. ∣ c.settle.ensures.settled before now.words action (λ len. ap (λ (words : Dictionary). known_words words len) c.new-rows.ensures.words) change settled ∣₁))
    (ap is_some c.settle.ensures.spare)

pub returns-clause-cost : goal.returns-clause-cost
returns-clause-cost c before action change known member region =
    let now : State = record { grid = c.args.position.now.grid; words = c.args.position.now.bank.words } in
    ∥∥₁_elim known le_prop (λ settled.
    let rise = c.settle.ensures.cost before now.words action member (λ len. ap (λ (words : Dictionary). known_words words len) c.new-rows.ensures.words) change settled region in
    omega (arith, rise, c.spent.ensures, c.new-rows.ensures.spent))
