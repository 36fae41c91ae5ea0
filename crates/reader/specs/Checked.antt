-- What refusals 2, 22 and 3 show of a list.
use Rattle.std.specs.Prelude.{ℕ, ◌≡◌, Bool, true, not, ◌||◌, List}
use Rattle.wire.specs.Keys.{Key}
use Rattle.wire.specs.Kinds.{bucket_below, bucket_in_range, run_end_in_range}
use Rattle.wire.specs.Positions.{bucket_in}
use Rattle.wire.specs.declared.kinds.Bucket.{Bucket}
use Rattle.calls.specs.Lists.{in_order, all_of}
use Rattle.calls.specs.CallList.{keys_ok, trees_ok}
use Rattle.calls.specs.Limits.{is_run, at_inode0, volume_within}
use Rattle.calls.specs.Answers.{read_volume}

pub record Checked (s : List ℕ) : Type 0 where
  -- keys of a tree ascend, and their snapshots are 0
  pub trees : trees_ok (read_volume s).trees ≡ true
  -- reserved buckets ascend
  pub reserved : in_order bucket_below (read_volume s).reserved ≡ true
  -- every limit is kept
  pub limits : volume_within (read_volume s) ≡ true

-- FORMAT.md, "Limits": bucket numbers are below 65,536, in alloc keys at inode 0
abbrev pub in_range : Key → Bool
in_range k = not (at_inode0 k) || bucket_in_range (bucket_in k.pos)

-- and a run ends at most at 65,536
abbrev pub end_in_range : Key → Bool
end_in_range k = not (is_run k) || run_end_in_range (bucket_in k.pos)

-- alloc keys that ascend, with snapshot 0, and name buckets in range
pub record AllocChecked (ks : List Key) : Type 0 where
  pub order : keys_ok ks ≡ true
  pub range : all_of in_range ks ≡ true

-- freespace keys that ascend, with snapshot 0, and whose runs end in range
pub record RunsChecked (ks : List Key) : Type 0 where
  pub order : keys_ok ks ≡ true
  pub range : all_of end_in_range ks ≡ true

-- reserved buckets that ascend and are in range
pub record ReservedChecked (bs : List Bucket) : Type 0 where
  pub order : in_order bucket_below bs ≡ true
  pub range : all_of bucket_in_range bs ≡ true
