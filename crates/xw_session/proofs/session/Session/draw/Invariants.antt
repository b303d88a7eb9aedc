use Rattle.std.proofs.Common.{◌≡◌, length}
use Rattle.xw_session.specs.State.{drawn}
use Rattle.xw_session.specs.Drafting.{IsRedrawn}
use Rattle.xw_session.proofs.session.Session.draw.Given as goal

abbrev pub invariant-loop-line : goal.invariant-loop-line
invariant-loop-line g l = record {
  done : IsRedrawn l.file l.before l.text (drawn l.initial.self l.initial.draft) l.taken l.refused l.reports.items l.rest (drawn l.self l.draft);
  engine : l.self.engine ≡ l.initial.self.engine;
  begun : l.self.begun ≡ l.initial.self.begun;
}

abbrev pub decreases-loop-line : goal.decreases-loop-line
decreases-loop-line g l = length l.rest
