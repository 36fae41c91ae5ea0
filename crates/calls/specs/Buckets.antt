-- Lists of buckets, each once and ascending.
use Rattle.std.specs.Prelude.{List, [], ◌∷◌, not, cond}
use Rattle.wire.specs.Kinds.{same_bucket, bucket_below}
use Rattle.wire.specs.declared.kinds.Bucket.{Bucket}
use Rattle.calls.specs.Lists.{those}

-- a bucket put in order, unless it is there
unfoldable pub insert_bucket : Bucket → List Bucket → List Bucket
insert_bucket b [] = b ∷ []
insert_bucket b (c ∷ cs) = cond (bucket_below b c) (b ∷ c ∷ cs) (cond (same_bucket b c) (c ∷ cs) (c ∷ insert_bucket b cs))

unfoldable pub insert_buckets : List Bucket → List Bucket → List Bucket
insert_buckets [] l = l
insert_buckets (b ∷ bs) l = insert_buckets bs (insert_bucket b l)

-- a bucket taken out
unfoldable pub remove_bucket : Bucket → List Bucket → List Bucket
remove_bucket b l = those (λ c. not (same_bucket c b)) l

unfoldable pub remove_buckets : List Bucket → List Bucket → List Bucket
remove_buckets [] l = l
remove_buckets (b ∷ bs) l = remove_buckets bs (remove_bucket b l)
