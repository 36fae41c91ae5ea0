-- What is read of a list of bytes fits: generations and bucket sectors.
use mathlib.Core.Path.{◌≡◌, refl}
use mathlib.Core.Bool.{Bool, true, false, cond}
use mathlib.Core.List.{List}
use mathlib.Core.Option.{Option, none, some}
use Prim.Native.Nat.{ℕ, ◌<◌}
use native.Mathlib.Omega.{arith}
use lib.Dec.{ltb, eqb}
use lib.ListN.{length, get_or}
use Rattle.wire.specs.Keys.{Key, key_of}
use Rattle.wire.specs.Positions.{gens_at, gens_byte}
use Rattle.wire.specs.declared.kinds.Bucket.{Bucket}
use Rattle.wire.specs.Bytes.{All, Bytes}
use Rattle.wire.proofs.NumberLaws.{all_drop, bytes-at, le-bound}
use Rattle.format.specs.Gens.{gen_in}
use Rattle.calls.specs.Lists.{from_option}
use Rattle.calls.specs.CallList.{head_of, keys_of, key_below, sorted_trees, first_body, call_list_of}
use Rattle.calls.specs.Trees.{lookup}
use Rattle.calls.specs.Generations.{found, too_short, of_type30, gen_record, found_in, gen_lookup, or_zero, gen_of}
use Rattle.calls.specs.Answers.{read_call}
use Rattle.calls.proofs.lists.AllLaws.{all-imp, all_map}
use Rattle.calls.proofs.lists.SortLaws.{all-sorted}
use Rattle.calls.proofs.encoding.KeyFitsLaws.{bodies-bytes}
use Rattle.calls.proofs.trees.TreeLaws.{lookup-all}

record-small : (b : Bucket) (o : Option Key) → ((k : Key) → o ≡ some k → Bytes k.value) → or_zero (found_in b (of_type30 o)) < 256
unfolding gen_in
record-small b none h = omega arith
record-small b (some k) h = typed (eqb k.type 30)
  where
    byte : (t : Bool) → or_zero (from_option too_short found (cond t (some (get_or k.value (gens_byte b) 0)) none)) < 256
    byte true = bytes-at (h k refl) (gens_byte b)
    byte false = omega arith

    typed : (t : Bool) → or_zero (found_in b (cond t (some k) none)) < 256
    typed true = byte (ltb (gens_byte b) (length k.value))
    typed false = omega arith

first-bytes : {bs : List (List ℕ)} → All Bytes bs → Bytes (first_body bs)
first-bytes All.none = All.none
first-bytes (All.more h r) = h

module _ {s : List ℕ} (r : Bytes s) where
  gens-bytes : All (λ k. Bytes k.value) (read_call s).volume.trees.gens
  unfolding call_list_of keys_of sorted_trees
  gens-bytes = all-sorted key_below (all_map key_of (all-imp (λ b k. all_drop 37 k) (bodies-bytes 14 r)))

  pub gens-small : (b : Bucket) → gen_of (read_call s).volume.trees.gens b < 256
  unfolding gen_of gen_lookup gen_record
  gens-small b = record-small b (lookup (gens_at b) (read_call s).volume.trees.gens) (λ k e. lookup-all (gens_at b) k gens-bytes e)

  pub sectors-small : (read_call s).volume.head.bucket_sectors < 65536
  unfolding call_list_of head_of
  sectors-small = le-bound 2 (all_drop 1 (first-bytes (bodies-bytes 1 r)))
