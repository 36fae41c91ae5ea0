-- What the invariant sees of a volume and its live pieces: plain numbers for buckets and sectors.
use mathlib.Core.Bool.{Bool, ◌&&◌, cond}
use mathlib.Core.List.{List}
use mathlib.Core.Option.{Option, none, some}
use mathlib.Core.Path.{◌≡◌}
use Prim.Native.Nat.{ℕ, ◌-◌}
use lib.Dec.{leb, ltb}
use Rattle.wire.specs.Keys.{Key}
use Rattle.wire.specs.Kinds.{same_bucket}
use Rattle.wire.specs.Positions.{alloc_at, bucket_in}
use Rattle.wire.specs.declared.kinds.Bucket.{Bucket}
use Rattle.format.specs.Packing.{get}
use Rattle.format.specs.AllocV4.{gen, data_type, dirty_sectors}
use Rattle.calls.specs.Lists.{any_of, total, one}
use Rattle.calls.specs.CallList.{Volume}
use Rattle.calls.specs.Limits.{is_set, is_run}
use Rattle.calls.specs.Trees.{lookup}
use Rattle.calls.specs.Freespace.{is_in}
use Rattle.calls.specs.Generations.{gen_of}
use Rattle.calls.specs.History.{Live}
use Rattle.calls.proofs.history.Phases.{Seen, Alloc}

abbrev pub bucket : ℕ → Bucket
bucket n = record { 0 = n }

-- the members of an alloc value that the invariant is about
abbrev pub read_alloc : Option Key → Option Alloc
read_alloc none = none
read_alloc (some k) =
    some (record { gen = get gen k.value; dirty = get dirty_sectors k.value; kind = get data_type k.value })

-- 1 where b lies from s up to e
abbrev pub in_r : ℕ → ℕ → ℕ → ℕ
in_r s e b = one (leb s b && ltb b e)

-- 1 where a run covers b
abbrev pub covers : ℕ → Key → ℕ
covers b k = cond (is_run k) (in_r (k.pos.offset - k.size) k.pos.offset b) 0

-- how many runs cover b
abbrev pub cover_of : List Key → ℕ → ℕ
cover_of l b = total (covers b) l

-- a need-discard key names b
abbrev pub named : List Key → ℕ → Bool
named l b = any_of (λ k. is_set k && same_bucket (bucket_in k.pos) (bucket b)) l

abbrev pub view : Volume → List Live → Seen
view v live =
    record {
      alloc = λ b. read_alloc (lookup (alloc_at (bucket b)) v.trees.alloc);
      waits = named v.trees.need_discard;
      cover = cover_of v.trees.freespace;
      kept = λ b. is_in v.reserved (bucket b);
      live = live;
    }

-- the generation that tree 14 gives is the alloc key's
abbrev pub GensHeld : Volume → Type 0
GensHeld v = (b : Bucket) (k : Key) → lookup (alloc_at b) v.trees.alloc ≡ some k → gen_of v.trees.gens b ≡ get gen k.value
