use Rattle.std.proofs.Common.{subst}
use Rattle.std.specs.Prelude.{Result}
use Rattle.xw_feas.specs.State.{action_of}
use Rattle.xw_feas.specs.declared.edit.Refusal.{Refusal}
use Rattle.xw_session.specs.Drafting.{IsMade}
use Rattle.xw_session.proofs.DrawnLines.{made-executed, unmade-executed}
use Rattle.xw_session.proofs.session.drafting.Draft.edit.Goals as goal

pub returns-in-Ok-clause-some : goal.returns-in-Ok-clause-some
returns-in-Ok-clause-some c = λ state command asks.
    let made = subst (λ (made : Result (Unit {0}) Refusal). IsMade c.args.self.now (action_of c.args.edit.now) made c.make.new.self) c.in-Ok.is c.in_ok-make.ensures.some in
    made-executed state c.args.self.now c.make.new.self command c.args.edit.now asks c.in-Ok.field-0 made

pub returns-in-Err-clause-some : goal.returns-in-Err-clause-some
returns-in-Err-clause-some c = λ state command asks.
    let made = subst (λ (made : Result (Unit {0}) Refusal). IsMade c.args.self.now (action_of c.args.edit.now) made c.make.new.self) c.in-Err.is c.in_ok-make.ensures.some in
    unmade-executed state c.args.self.now c.make.new.self command c.args.edit.now asks c.in-Err.refusal made
