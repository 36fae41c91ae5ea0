-- FORMAT.md, "Limits": refusal 3.
use Rattle.std.specs.Prelude.{List, Bool, not, ◌&&◌, ◌||◌, length, leb, eqb}
use Rattle.wire.specs.Keys.{Key}
use Rattle.wire.specs.Kinds.{bucket_in_range, run_end_in_range, base_in_range}
use Rattle.wire.specs.Positions.{bucket_in}
use Rattle.wire.specs.declared.kinds.Bucket.{Bucket}
use Rattle.calls.specs.Lists.{all_of}
use Rattle.calls.specs.CallList.{Trees, all_trees, Volume, CallList}

-- a key that stands for a bucket: of type 25, and at inode 0
abbrev pub is_set : Key → Bool
is_set k = eqb k.type 25

abbrev pub at_inode0 : Key → Bool
at_inode0 k = eqb k.pos.inode 0

abbrev pub is_run : Key → Bool
is_run k = is_set k && at_inode0 k

-- 4,096 keys a tree
unfoldable pub few_keys : List Key → Bool
few_keys ks = leb (length ks) 4096

unfoldable pub counts_ok : Trees → Bool
counts_ok t = all_trees few_keys t

-- bucket numbers are below 65,536: alloc keys at inode 0, need-discard keys of type 25; a type 25 freespace key at inode 0 ends at most at 65,536
unfoldable pub buckets_ok : Trees → Bool
buckets_ok t =
    all_of (λ k. not (at_inode0 k) || bucket_in_range (bucket_in k.pos)) t.alloc
    && (all_of (λ k. not (is_set k) || bucket_in_range (bucket_in k.pos)) t.need_discard
    && all_of (λ k. not (is_run k) || run_end_in_range (bucket_in k.pos)) t.freespace)

-- 4,096 reserved, the journal reserve at most 65,536, the base below 2^40
unfoldable pub volume_within : Volume → Bool
volume_within v =
    counts_ok v.trees
    && (buckets_ok v.trees
    && (leb (length v.reserved) 4096
    && (all_of bucket_in_range v.reserved && (leb v.head.reserve 65536 && base_in_range v.head.base))))

-- 1,024 requests
unfoldable pub list_within : CallList → Bool
list_within c = volume_within c.volume && (leb (length c.pieces) 1024 && leb (length c.releases) 1024)

-- 1,024 buckets looked up together
unfoldable pub buckets_within : List Bucket → Bool
buckets_within bs = leb (length bs) 1024 && all_of bucket_in_range bs
