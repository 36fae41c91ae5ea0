-- The joint lookup, key by key.
use Rattle.std.specs.Prelude.{ℕ, suc, ◌≡◌, cond, List, [], ◌∷◌, ◌++◌, length, drop, map, refl}
use Rattle.wire.specs.Keys.{Key}
use Rattle.wire.specs.Kinds.{bucket_is, buckets_in}
use Rattle.wire.specs.Order.{pos_less}
use Rattle.wire.specs.declared.bpos.Bpos.{Bpos}
use Rattle.wire.specs.declared.kinds.Bucket.{Bucket}
use Rattle.calls.specs.JointLookup.{joint_lookup}

-- how many keys, from the first on, are not past a position
unfoldable pub keys_up_to : Bpos → List Key → ℕ
keys_up_to p [] = 0
keys_up_to p (k ∷ ks) = cond (pos_less p k.pos) 0 (suc (keys_up_to p ks))

-- what a joint lookup leaves: the generations before the rest of the output, and how many keys it visited
pub record Looked (gens : List Key) (bs : List Bucket) (before after : List ℕ) (visited : ℕ) : Type 0 where
  pub output : after ≡ (joint_lookup gens bs).generations ++ drop (length bs) before
  pub count : visited ≡ (joint_lookup gens bs).visited

-- the buckets in a table are those that its numbers name
pub each_named : (ns : List ℕ) → buckets_in ns ≡ map bucket_is ns
unfolding buckets_in
each_named ns = refl

-- a bucket names itself
pub each_itself : (bs : List Bucket) → bs ≡ map (λ b. b) bs
each_itself [] = refl
each_itself (b ∷ bs) = λ i. b ∷ each_itself bs i
