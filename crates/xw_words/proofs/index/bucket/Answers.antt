use Rattle.std.proofs.Common.{◌*◌, ◌/◌, ap}
use Rattle.xw_words.specs.Index.{bucket_of}
use Rattle.xw_words.proofs.index.bucket.Goals as goal

pub returns-clause-value : goal.returns-clause-value
unfolding bucket_of
returns-clause-value c = ap (λ hash. hash / 4294967296 * c.args.buckets / 4294967296) c.hash.ensures
