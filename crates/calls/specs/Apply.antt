-- Apply: the next volume.
use Rattle.std.specs.Prelude.{ℕ, ◌+◌, ◌-◌, ◌/◌, ◌^◌, List, [], ◌∷◌, cond}
use Rattle.calls.specs.CallList.{Head, Trees, Volume}
use Rattle.calls.specs.Buckets.{insert_buckets, remove_buckets}
use Rattle.calls.specs.ChangeList.{Batch}
use Rattle.calls.specs.Trees.{apply_queue}
use Rattle.calls.specs.Place.{root_missing}

-- keys carried over in order, tree by tree
unfoldable pub apply_trees : Trees → Trees → Trees
apply_trees q t =
    record {
      alloc = apply_queue q.alloc t.alloc;
      lru = apply_queue q.lru t.lru;
      freespace = apply_queue q.freespace t.freespace;
      need_discard = apply_queue q.need_discard t.need_discard;
      backpointers = apply_queue q.backpointers t.backpointers;
      gens = apply_queue q.gens t.gens;
    }

-- the bit of a root: 10 is bit 0, 12 bit 1, 14 bit 2
abbrev pub root_bit : ℕ → ℕ
root_bit id = (id - 10) / 2

-- 70 sets its bit
unfoldable pub set_roots : List ℕ → ℕ → ℕ
set_roots [] roots = roots
set_roots (id ∷ ids) roots = set_roots ids (cond (root_missing roots (root_bit id)) (roots + 2 ^ root_bit id) roots)

-- the call byte and the rest of field 1 are kept
unfoldable pub with_roots : Head → ℕ → Head
with_roots h roots =
    record {
      call = h.call;
      bucket_sectors = h.bucket_sectors;
      block_sectors = h.block_sectors;
      option = h.option;
      roots = roots;
      reserve = h.reserve;
      batch = h.batch;
      journal = h.journal;
      inode = h.inode;
      base = h.base;
    }

-- one batch: 71 reserves, 75 unreserves
unfoldable pub apply_batch : Batch → Volume → Volume
apply_batch b v =
    record {
      head = with_roots v.head (set_roots b.roots v.head.roots);
      trees = apply_trees b.trees v.trees;
      reserved = remove_buckets b.discarded (insert_buckets b.taken v.reserved);
    }

-- all batches, in their order
unfoldable pub apply_batches : List Batch → Volume → Volume
apply_batches [] v = v
apply_batches (b ∷ bs) v = apply_batches bs (apply_batch b v)
