-- The loop's invariant: the first i buckets are looked up, and k keys stand up to the last one's record.
use Rattle.reader.specs.ListedKeys.{keys_listed}
use Rattle.gens.proofs.LookingLaws.{Looking}
use Rattle.gens.proofs.joint.bucket_gens.Given as goal

abbrev pub invariant-loop-i : goal.invariant-loop-i
invariant-loop-i g l = Looking (keys_listed l.fn.gens) (g.N.BucketNumber.buckets_in l.buckets) l.fn.out l.out l.k l.i
