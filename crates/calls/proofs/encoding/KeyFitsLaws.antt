-- What a call may queue: keys, values, rows and roots whose numbers fit their bytes, and what the limits tell.
use mathlib.Core.Path.{◌≡◌, refl}
use mathlib.Core.Bool.{Bool, true, false, not, ◌||◌, cond}
use mathlib.Core.List.{List, [], ◌∷◌, map}
use Prim.Native.Nat.{ℕ, zero, suc, ◌-◌, ◌*◌, ◌^◌, ◌<◌, ◌≤◌}
use native.Mathlib.Omega.{arith}
use native.Mathlib.Nat.{div-le_self}
use lib.IntN.{ℤ, pos, negsuc, neg_ℤ, ◌+ℤ◌}
use lib.Dec.{leb, ltb, eqb}
use lib.ListN.{length, set}
use mir.Syntax.{w64}
use mir.Val.{SFits}
use borrow.Author.Tests.{ltb-true, leb-true, eqb-true}
use Rattle.wire.specs.Output.{put}
use Rattle.wire.specs.Fields.{fields}
use Rattle.wire.specs.Keys.{Key}
use Rattle.wire.specs.Kinds.{bucket_in_range}
use Rattle.wire.specs.Positions.{lru_at, bucket_in}
use Rattle.wire.specs.declared.bpos.Bpos.{Bpos}
use Rattle.wire.specs.declared.kinds.Bucket.{Bucket}
use Rattle.wire.specs.Bytes.{All, Bytes}
use Rattle.wire.specs.Numbers.{le_bytes, each, words_bytes}
use Rattle.wire.proofs.NumberLaws.{all_append, bytes_le, le-length}
use Rattle.wire.proofs.OutputLaws.{put-length, each-length}
use Rattle.wire.proofs.RowLaws.{RowFits, three}
use Rattle.wire.proofs.SignedLaws.{minus-fits}
use Rattle.format.specs.Packing.{Member, struct_bytes, store}
use Rattle.format.specs.Lru.{fragmentation}
use Rattle.format.proofs.StructLaws as Struct
use Rattle.calls.specs.Lists.{all_of}
use Rattle.calls.specs.CallList.{Trees, Volume, bodies, keys_ok, CallList}
use Rattle.calls.specs.Limits.{is_set, at_inode0, few_keys, counts_ok, buckets_ok, volume_within, list_within}
use Rattle.calls.specs.Trees.{new_key, deletion, with_value}
use Rattle.calls.specs.Lru.{lru_keys, lru_deletions}
use Rattle.calls.specs.Accounting.{buckets_row}
use Rattle.calls.specs.Place.{roots_if}
use Rattle.calls.proofs.lists.AllLaws.{all-imp, all_join, test-all}
use Rattle.calls.proofs.encoding.Blocks.{bodies-all}
use Rattle.calls.proofs.lists.BoolLaws.{parts, or-then}
use Rattle.calls.proofs.freespace.CoverLaws.{ends_within}
use Rattle.calls.proofs.encoding.FieldBytes.{Storable, fields-bytes}
use Rattle.calls.proofs.trees.SixTrees.{trees-each, EachTree, each-join}
use Rattle.calls.proofs.trees.SortedLaws.{keys-order}
use Rattle.calls.proofs.encoding.TreeFields.{TreesFit}
use Rattle.calls.proofs.encoding.VolumeTrip.{VolumeFits, VolumeOk}

-- the bodies of a list of bytes

pub bodies-bytes : (t : ℕ) {s : List ℕ} → Bytes s → All Bytes (bodies t (fields s))
bodies-bytes t r = bodies-all t (fields-bytes 0 r)

-- values

pub record ValueFits (v : List ℕ) : Type 0 where
  pub short : length v ≤ 256
  pub bytes : Bytes v

pub no_value : ValueFits []
no_value = record { short = omega arith; bytes = All.none }

set-bytes : (i x : ℕ) {v : List ℕ} → x < 256 → Bytes v → Bytes (set v i x)
set-bytes i x h All.none = All.none
set-bytes zero x h (All.more g r) = All.more h r
set-bytes (suc i) x h (All.more g r) = All.more g (set-bytes i x h r)

put-bytes : (at : ℕ) {bs v : List ℕ} → Bytes bs → Bytes v → Bytes (put v at bs)
unfolding put
put-bytes at All.none r = r
put-bytes at (All.more {a = b} h q) r = put-bytes (suc at) q (set-bytes at b h r)

pub put-fits : (at : ℕ) {bs v : List ℕ} → Bytes bs → ValueFits v → ValueFits (put v at bs)
put-fits at {bs} {v} q h = record { short = omega (arith, put-length v at bs, h.short); bytes = put-bytes at q h.bytes }

pub store-fits : (m : Member) (x : ℕ) {v : List ℕ} → ValueFits v → ValueFits (store m x v)
unfolding store
store-fits m x h = put-fits m.at (bytes_le m.size x) h

struct-bytes : (ms : List (ℕ × ℕ)) → Bytes (struct_bytes ms)
unfolding struct_bytes
struct-bytes [] = All.none
struct-bytes ((n, x) ∷ ms) = all_append (bytes_le n x) (struct-bytes ms)

pub struct-fits : (ms : List (ℕ × ℕ)) → Struct.total (map (λ m. m.0) ms) ≤ 256 → ValueFits (struct_bytes ms)
struct-fits ms h = record { short = omega (arith, Struct.struct-length ms); bytes = struct-bytes ms }

words-bytes : (ws : List ℕ) → Bytes (each (le_bytes 8) ws)
unfolding each
words-bytes [] = All.none
words-bytes (w ∷ ws) = all_append (bytes_le 8 w) (words-bytes ws)

pub words-fit : (ws : List ℕ) → length ws ≤ 32 → ValueFits (words_bytes ws)
unfolding words_bytes
words-fit ws h = record { short = omega (arith, each-length 8 (le_bytes 8) (le-length 8) ws); bytes = words-bytes ws }

-- keys

pub record PosFits (p : Bpos) : Type 0 where
  pub inode : p.inode < 2 ^ 64
  pub offset : p.offset < 2 ^ 64
  pub zero : p.snapshot ≡ 0

-- a key of one of the six trees
pub record Queued (k : Key) : Type 0 where
  pub stored : Storable k
  pub zero : k.pos.snapshot ≡ 0

pub queued-pos : {k : Key} → Queued k → PosFits k.pos
queued-pos q = record { inode = q.stored.fits.inode; offset = q.stored.fits.offset; zero = q.zero }

pub queued-value : {k : Key} → Queued k → ValueFits k.value
queued-value q = record { short = q.stored.short; bytes = q.stored.bytes }

pub new-queued : (type size : ℕ) {p : Bpos} {v : List ℕ} → type < 2 ^ 8 → size < 2 ^ 32 → PosFits p → ValueFits v → Queued (new_key type size p v)
new-queued type size t n p v =
    record {
      stored =
          record {
            fits =
                record {
                  type = t;
                  size = n;
                  version_hi = omega arith;
                  version_lo = omega arith;
                  inode = p.inode;
                  offset = p.offset;
                  snapshot = omega (arith, p.zero);
                };
            short = v.short;
            bytes = v.bytes;
          };
      zero = p.zero;
    }

pub deletion-queued : {p : Bpos} → PosFits p → Queued (deletion p)
deletion-queued p = new-queued 0 0 (omega arith) (omega arith) p no_value

-- a key with another size and value
pub changed-queued :
    {k : Key} {size : ℕ} {v : List ℕ} → Queued k → size < 2 ^ 32 → ValueFits v
    → Queued (record { type = k.type; size = size; version_hi = k.version_hi; version_lo = k.version_lo; pos = k.pos; value = v })
changed-queued q n v =
    let f = q.stored.fits in
    record {
      stored =
          record {
            fits =
                record {
                  type = f.type;
                  size = n;
                  version_hi = f.version_hi;
                  version_lo = f.version_lo;
                  inode = f.inode;
                  offset = f.offset;
                  snapshot = f.snapshot;
                };
            short = v.short;
            bytes = v.bytes;
          };
      zero = q.zero;
    }

pub with-queued : {k : Key} {v : List ℕ} → Queued k → ValueFits v → Queued (with_value k v)
with-queued q v = changed-queued q q.stored.fits.size v

-- a position of a bucket
pub bucket-pos : {n m : ℕ} → n < 2 ^ 64 → m < 2 ^ 64 → PosFits (record { inode = n; offset = m; snapshot = 0 })
bucket-pos h g = record { inode = h; offset = g; zero = refl }

-- the six trees

pub trees-fit : {t : Trees} → EachTree (All Queued) t → TreesFit t
trees-fit h = each-join (λ ks a b. all-imp (λ k q. q.stored) a) h h

pub trees-zero : {t : Trees} → EachTree (All Queued) t → EachTree (All (λ k. k.pos.snapshot ≡ 0)) t
trees-zero h = each-join (λ ks a b. all-imp (λ k q. q.zero) a) h h

keys-queued : {l : List Key} → All Storable l → keys_ok l ≡ true → All Queued l
keys-queued {l} h e =
    all_join (λ k s z. record { stored = s; zero = eqb-true k.pos.snapshot 0 z }) h
    (test-all (λ k. eqb k.pos.snapshot 0) l (keys-order l e).1)

-- the keys of a volume that fits
pub volume-queued : {v : Volume} → VolumeFits v → VolumeOk v → EachTree (All Queued) v.trees
volume-queued {v} f ok = each-join (λ ks a e. keys-queued a e) f.trees (trees-each v.trees ok.trees)

-- LRU keys

module _ (sectors : ℕ) (b : Bucket) (dirty : ℕ) (small : sectors < 2 ^ 16) (below : b.0 < 65536) where
  lru-pos : dirty < sectors → PosFits (lru_at (fragmentation dirty sectors) b)
  unfolding fragmentation
  lru-pos h = bucket-pos (omega (arith, div-le_self (dirty * 2 ^ 31) sectors)) (omega arith)

  lru-one : {k : Key} → (dirty < sectors → Queued k) → All Queued (cond (ltb dirty sectors) (k ∷ []) [])
  lru-one {k} f = go (ltb dirty sectors) refl
    where
      go : (t : Bool) → ltb dirty sectors ≡ t → All Queued (cond t (k ∷ []) [])
      go true e = All.more (f (ltb-true dirty sectors e)) All.none
      go false e = All.none

  pub lru-keys : All Queued (lru_keys sectors b dirty)
  unfolding lru_keys
  lru-keys = lru-one (λ h. new-queued 25 0 (omega arith) (omega arith) (lru-pos h) no_value)

  pub lru-deletions : All Queued (lru_deletions sectors b dirty)
  unfolding lru_deletions
  lru-deletions = lru-one (λ h. deletion-queued (lru-pos h))

-- roots

pub roots-if : {P : ℕ → Type 0} (t : Bool) (id : ℕ) → P id → All P (roots_if t id)
roots-if true id h = All.more h All.none
roots-if false id h = All.none

-- rows

pub plus-fits : (n : ℕ) → n < 2 ^ 62 → SFits w64 (pos n)
plus-fits n h = record { sfits = omega arith }

pub less-fits : (n : ℕ) → n < 2 ^ 62 → SFits w64 (neg_ℤ (pos n))
less-fits n h = minus-fits n (omega arith)

pub differ-fits : (a b : ℕ) → a < 2 ^ 62 → b < 2 ^ 62 → SFits w64 (pos a +ℤ neg_ℤ (pos b))
differ-fits a zero h g = record { sfits = omega arith }
differ-fits a (suc b) h g = go (ltb a (suc b))
  where
    go : (t : Bool) → SFits w64 (cond t (negsuc (suc b - suc a)) (pos (a - suc b)))
    go true = record { sfits = omega arith }
    go false = record { sfits = omega arith }

pub buckets-row : (type : ℕ) {x y z : ℤ} → type < 10 → SFits w64 x → SFits w64 y → SFits w64 z → RowFits (buckets_row type x y z)
buckets-row type h a b c = record { inode = omega arith; offset = omega arith; numbers = three a b c }

-- limits

pub record VolumeLimits (v : Volume) : Type 0 where
  pub few : length v.trees.alloc ≤ 4096
  pub alloc : All (λ k. at_inode0 k ≡ true → k.pos.offset < 65536) v.trees.alloc
  pub ends : ends_within v.trees.freespace ≡ true
  pub base : v.head.base.0 < 2 ^ 40

pub within : {v : Volume} → volume_within v ≡ true → VolumeLimits v
unfolding volume_within counts_ok few_keys buckets_ok
within {v} h =
    let t = v.trees in
    let a = parts (counts_ok t) _ h in
    let b = parts (buckets_ok t) _ a.1 in
    let c = parts (all_of (λ k. not (at_inode0 k) || bucket_in_range (bucket_in k.pos)) t.alloc) _ b.0 in
    let d = parts (leb (length v.reserved) 4096) _ b.1 in
    let e = parts (all_of bucket_in_range v.reserved) _ d.1 in
    let f = parts (leb v.head.reserve 65536) (ltb v.head.base.0 (2 ^ 40)) e.1 in
    record {
      few = leb-true (length t.alloc) 4096 (parts (few_keys t.alloc) _ a.0).0;
      alloc =
          all-imp (λ k q i. ltb-true k.pos.offset 65536 (or-then (at_inode0 k) (bucket_in_range (bucket_in k.pos)) q i))
          (test-all (λ k. not (at_inode0 k) || bucket_in_range (bucket_in k.pos)) t.alloc c.0);
      ends =
          (parts (all_of (λ k. not (is_set k) || bucket_in_range (bucket_in k.pos)) t.need_discard) (ends_within t.freespace)
          c.1).1;
      base = ltb-true v.head.base.0 (2 ^ 40) f.1;
    }

-- a list's volume and requests
pub list-within : (c : CallList) → list_within c ≡ true → (volume_within c.volume ≡ true) × (length c.pieces ≤ 1024) × (length c.releases ≤ 1024)
unfolding list_within
list-within c h =
    let a = parts (volume_within c.volume) _ h in
    let b = parts (leb (length c.pieces) 1024) (leb (length c.releases) 1024) a.1 in
    (a.0, leb-true (length c.pieces) 1024 b.0, leb-true (length c.releases) 1024 b.1)
