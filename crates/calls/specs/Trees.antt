-- The keys of a tree, by position: what stands there, and what a queue makes of it.
use Prim.Native.Nat.{ℕ, Ordering}
use Rattle.std.specs.Prelude.{List, [], ◌∷◌, cond, eqb}
use Rattle.std.proofs.Math.Option.{Option, none, some}
use Rattle.wire.specs.Keys.{Key}
use Rattle.wire.specs.Order.{cmp}
use Rattle.wire.specs.declared.bpos.Bpos.{Bpos}

-- a where two positions are equal, else b
abbrev pub on_eq : {A : Type 0} → Ordering → A → A → A
on_eq Ordering.lt a b = b
on_eq Ordering.eq a b = a
on_eq Ordering.gt a b = b

-- the key at a position
unfoldable pub lookup : Bpos → List Key → Option Key
lookup p [] = none
lookup p (x ∷ xs) = on_eq (cmp p x.pos) (some x) (lookup p xs)

-- k before x, in place of x, or after it
abbrev pub insert_at : Ordering → Key → Key → List Key → List Key → List Key
insert_at Ordering.lt k x xs r = k ∷ x ∷ xs
insert_at Ordering.eq k x xs r = k ∷ xs
insert_at Ordering.gt k x xs r = x ∷ r

-- a key put in order, in place of the whole key at its position
unfoldable pub upsert : Key → List Key → List Key
upsert k [] = k ∷ []
upsert k (x ∷ xs) = insert_at (cmp k.pos x.pos) k x xs (upsert k xs)

-- what stands at a position taken out
unfoldable pub remove : Bpos → List Key → List Key
remove p [] = []
remove p (x ∷ xs) = on_eq (cmp p x.pos) (remove p xs) (x ∷ remove p xs)

-- one queued key: type 0 deletes, any other replaces
unfoldable pub step : Key → List Key → List Key
step k l = cond (eqb k.type 0) (remove k.pos l) (upsert k l)

-- a queue, in its order
unfoldable pub apply_queue : List Key → List Key → List Key
apply_queue [] l = l
apply_queue (k ∷ ks) l = apply_queue ks (step k l)

-- a new key: versions 0, and size 0 but for an extent and a run
abbrev pub new_key : ℕ → ℕ → Bpos → List ℕ → Key
new_key type size p value = record { type = type; size = size; version_hi = 0; version_lo = 0; pos = p; value = value }

-- a deletion: type, size and versions 0, no value
abbrev pub deletion : Bpos → Key
deletion p = new_key 0 0 p []

-- a key with another value: its type, size and versions are kept
abbrev pub with_value : Key → List ℕ → Key
with_value k value =
    record {
      type = k.type;
      size = k.size;
      version_hi = k.version_hi;
      version_lo = k.version_lo;
      pos = k.pos;
      value = value;
    }
