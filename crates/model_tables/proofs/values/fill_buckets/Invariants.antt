-- `model_tables::values::fill_buckets` meets its contract: the nodes passed are in their buckets, by `buckets_more`.
-- Assumes nothing.
use Rattle.model_tables.specs.Buckets.{InBuckets}
use Rattle.model_tables.proofs.values.fill_buckets.Given as goal

abbrev pub invariant-loop-u : goal.invariant-loop-u
invariant-loop-u l = InBuckets l.d l.e l.u l.buckets
