use Rattle.iom_cache.specs.Buckets.{bucket_of}
use Rattle.std.proofs.Common.{rules}
use Rattle.iom_cache.proofs.index.bucket_of.Goals as goal

pub returns-clause-bucket : goal.returns-clause-bucket
unfolding bucket_of
returns-clause-bucket c = search rules
