use Rattle.std.proofs.Common.{◌≡◌, true, false, ap, ◌∙◌, subst}
use Rattle.std.specs.Prelude.{Ok, Err}
use Rattle.std.proofs.lemmas.Result.{err_from_is_err_and}
use Rattle.xw_answers.specs.declared.refusal.CommandRefusal.TheVariants as refusals
use Rattle.xw_commands.specs.declared.change.Change.TheVariants as changes
use Rattle.xw_feas.specs.declared.edit.Refusal.TheVariants as edits
use Rattle.xw_grid.specs.declared.fault.GridFault.{GridFault}
use Rattle.xw_grid.specs.Grid.{Grid as SpecsGrid}
use Rattle.xw_session.specs.Put.{CanPut}
use Rattle.xw_session.specs.Reply.{grid_memory}
use Rattle.xw_session.specs.State.{grid_seen}
use Rattle.xw_session.proofs.DrawnLines.{edits-seen, put-accepted, put-memory, text-same}
use Rattle.xw_session.proofs.session.Session.put.Goals as goal

pub returns-in_err-put_text-clause-done : goal.returns-in_err-put_text-clause-done
returns-in_err-put_text-clause-done g c =
    let state = c.args.self.now in
    let e = err_from_is_err_and c.from_residual-in_err-put_text.result c.from_residual-in_err-put_text.ensures.1 in
    let can = subst (λ (grid : SpecsGrid). CanPut grid c.args.field c.args.spelling.now c.in_ok-target.target) c.grid_of.ensures c.in_ok-target.ensures.ok in
    let is : c.from_residual-in_err-put_text.result ≡ Err grid_memory = e.1 ∙ ap Err (e.2 ∙ ap (λ (fault : GridFault). refusals.Engine (edits.Grid fault)) c.in_err-put_text.ensures.memory) in
    rw is (edits-seen state c.put_text.new.self c.args.draft (changes.Put c.args.putting c.args.field c.args.spelling.now) (Err grid_memory)
    (text-same state c.put_text.new.self c.args.putting c.in_ok-target.target c.args.spelling.now c.put_text.result can.whole c.put_text.ensures.ok c.put_text.ensures.err).0
    (put-memory state c.put_text.new.self (grid_seen state.engine.grid c.args.draft) c.args.putting c.args.field c.args.spelling.now c.in_ok-target.target can
    (λ none. let bad : false ≡ true = c.in_err-put_text.ensures.freed none in cc) c.in_err-put_text.ensures.err))

pub returns-clause-done : goal.returns-clause-done
returns-clause-done g c =
    let state = c.args.self.now in
    let can = subst (λ (grid : SpecsGrid). CanPut grid c.args.field c.args.spelling.now c.in_ok-target.target) c.grid_of.ensures c.in_ok-target.ensures.ok in
    edits-seen state c.put_text.new.self c.args.draft (changes.Put c.args.putting c.args.field c.args.spelling.now) (Ok tt)
    (text-same state c.put_text.new.self c.args.putting c.in_ok-target.target c.args.spelling.now c.put_text.result can.whole c.put_text.ensures.ok c.put_text.ensures.err).0
    (put-accepted state c.put_text.new.self (grid_seen state.engine.grid c.args.draft) c.args.putting c.args.field c.args.spelling.now c.in_ok-target.target can tt c.in_ok-put_text.ensures.ok)

pub returns-clause-engine : goal.returns-clause-engine
returns-clause-engine g c =
    let can = subst (λ (grid : SpecsGrid). CanPut grid c.args.field c.args.spelling.now c.in_ok-target.target) c.grid_of.ensures c.in_ok-target.ensures.ok in
    (text-same c.args.self.now c.put_text.new.self c.args.putting c.in_ok-target.target c.args.spelling.now c.put_text.result can.whole c.put_text.ensures.ok c.put_text.ensures.err).0

pub returns-clause-begun : goal.returns-clause-begun
returns-clause-begun g c =
    let can = subst (λ (grid : SpecsGrid). CanPut grid c.args.field c.args.spelling.now c.in_ok-target.target) c.grid_of.ensures c.in_ok-target.ensures.ok in
    (text-same c.args.self.now c.put_text.new.self c.args.putting c.in_ok-target.target c.args.spelling.now c.put_text.result can.whole c.put_text.ensures.ok c.put_text.ensures.err).1
