use Rattle.std.proofs.Common.{arith}
use Rattle.xw_files.proofs.PuzLemmas.Taken.{fields_at-takes}
use Rattle.xw_files.proofs.puz.read.read_fields.Goals as goal

pub puzzle_of-requires-clause-wide : goal.puzzle_of-requires-clause-wide
puzzle_of-requires-clause-wide c = (fields_at-takes c.args.bytes.now _ (λ i. omega (arith, c.type_inv.bytes i)) c.in_ok-fields.ensures).fits.header.width

pub puzzle_of-requires-clause-high : goal.puzzle_of-requires-clause-high
puzzle_of-requires-clause-high c = (fields_at-takes c.args.bytes.now _ (λ i. omega (arith, c.type_inv.bytes i)) c.in_ok-fields.ensures).fits.header.height
