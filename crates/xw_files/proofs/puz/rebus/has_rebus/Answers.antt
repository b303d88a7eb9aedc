use Rattle.std.proofs.Common.{arith}
use Rattle.std.proofs.lemmas.Result.{err_from_is_err_and}
use Rattle.xw_files.proofs.PuzLemmas.RebusLemmas.{only-memory, rebus-told, sections-of}
use Rattle.xw_files.proofs.puz.rebus.has_rebus.Goals as goal

pub returns-in_err-fields-clause-only : goal.returns-in_err-fields-clause-only
returns-in_err-fields-clause-only c = λ sections has.
    let e = err_from_is_err_and c.from_residual.result c.from_residual.ensures.1 in
    rw (e.1, e.2) (only-memory _ _ _ has c.in_err-fields.ensures)

pub returns-clause-found : goal.returns-clause-found
returns-clause-found c = λ sections has. rebus-told _ _ _ _ has c.in_ok-fields.ensures c.is_among.ensures

pub returns-clause-fields : goal.returns-clause-fields
returns-clause-fields c = sections-of c.args.bytes.now _ (λ i. omega (arith, c.type_inv.bytes i)) c.in_ok-fields.ensures
