use Rattle.std.proofs.Common.{arith}
use Rattle.xw_files.proofs.PuzLemmas.Related.{gives-unturned, gives-found, gives-part}
use Rattle.xw_files.proofs.PuzLemmas.FirstFaults.{gives-first, gives-none}
use Rattle.xw_files.proofs.puz.read.read_puz.Goals as goal

pub returns-clause-symmetry : goal.returns-clause-symmetry
returns-clause-symmetry c = gives-unturned c.args.bytes.now c.read_fields.result c.read_fields.ensures.exact

pub returns-clause-found : goal.returns-clause-found
returns-clause-found c = gives-found c.args.bytes.now c.read_fields.result (λ i. omega (arith, c.type_inv.bytes i)) c.read_fields.ensures.exact

pub returns-clause-only : goal.returns-clause-only
returns-clause-only c = λ puzzle is. gives-part c.args.bytes.now c.read_fields.result puzzle (λ i. omega (arith, c.type_inv.bytes i)) c.read_fields.ensures.exact is

pub returns-clause-first : goal.returns-clause-first
returns-clause-first c = gives-first c.args.bytes.now c.read_fields.result (λ i. omega (arith, c.type_inv.bytes i)) c.read_fields.ensures.exact

pub returns-clause-faultless : goal.returns-clause-faultless
returns-clause-faultless c = gives-none c.args.bytes.now c.read_fields.result (λ i. omega (arith, c.type_inv.bytes i)) c.read_fields.ensures.exact
