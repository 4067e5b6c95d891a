-- `model_tables::values::fill_buckets` meets its contract: the nodes passed are in their buckets, by `buckets_more`.
-- Assumes nothing.
use Rattle.std.proofs.Common.{rules, arith, ℕ, subst}
use Rattle.model_tables.specs.Buckets.{InBuckets, buckets_none, buckets_more}
use Rattle.model_tables.proofs.values.fill_buckets.Goals as goal

pub loop-u-init : goal.loop-u-init
loop-u-init c =
    buckets_none c.args.d.now c.args.e c.args.buckets.now c.requires.by_index

pub loop-u-preserved : goal.loop-u-preserved
loop-u-preserved c =
    rw (
      c.store.ensures,
      c.insert.ensures,
      c.load.ensures,
      c.bucket_of-i.ensures,
      c.value_on.ensures,
    ) (buckets_more c.args.d.now c.args.e c.loop-u.u c.loop-u.buckets
    (omega (arith, c.requires.valid_model.header.narrow, c.loop-u-test.true, c.node_count-u-end.ensures))
    (search rules) c.loop-u.invariant)

pub returns : goal.returns
returns c =
    let a = c.args in
    subst (λ (k : ℕ). InBuckets a.d.now a.e k c.loop-u.buckets) (omega (arith, c.node_count-u-end.ensures)) c.loop-u.invariant
