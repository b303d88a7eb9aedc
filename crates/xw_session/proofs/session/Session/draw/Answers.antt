use Rattle.std.proofs.Common.{◌∙◌, refl}
use Rattle.xw_session.specs.State.{drawn}
use Rattle.xw_session.proofs.Resumed.{first_of_both}
use Rattle.xw_session.proofs.DrawnLines.{redrawn-begun, redrawn-on}
use Rattle.xw_session.proofs.session.Session.draw.Goals as goal

pub loop-line-init : goal.loop-line-init
loop-line-init g c = record { done = rw c.new-reports.ensures.items (redrawn-begun c.args.file.now c.args.before c.args.text.now (drawn c.args.self.now c.args.draft.now)); engine = refl; begun = refl }

pub loop-line-preserved : goal.loop-line-preserved
loop-line-preserved g c = record {
  done = redrawn-on c.args.file.now c.args.before c.args.text.now c.loop-line.rest.now c.first_line.result.1.now c.first_line.result.0.now c.loop-line.reports.items _ (drawn c.args.self.now c.args.draft.now) (drawn c.loop-line.self c.loop-line.draft) (drawn c.draft_line.new.self c.draft_line.new.draft) c.loop-line.taken c.loop-line.refused _
      (first_of_both c.loop-line.rest.now c.first_line.result.0.now c.first_line.result.1.now c.first_line.ensures.lines) c.first_line.ensures.rest c.in-Some.ensures.some c.loop-line.invariant.done;
  engine = c.draft_line.ensures.engine ∙ c.loop-line.invariant.engine;
  begun = c.draft_line.ensures.begun ∙ c.loop-line.invariant.begun;
}
