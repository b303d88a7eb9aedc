use Rattle.std.proofs.Common.{Bool, append_assoc, subst}
use Rattle.xw_desk.specs.Explained.{IsReason}
use Rattle.xw_desk.proofs.Writing.{messaged}
use Rattle.xw_desk.proofs.explaining.message.Goals as goal

pub returns : goal.returns
returns c =
    let reason = c.in_ok-reason.reason.bytes.items in
    let due = subst (λ (d : Bool). IsReason d reason) c.is_reason_due.ensures c.in_ok-reason.ensures in
    messaged (λ text. text.bytes.items) c.format.result c.args.explain c.args.failure.now reason c.in_ok-sentence.sentence.bytes.items _ due c.in_ok-sentence.ensures (simp append_assoc) c.format.ensures.ok
