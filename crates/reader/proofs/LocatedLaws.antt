-- The places of a list that was read find, one for one, the keys of a tree, the reserved buckets and the requests of a list that was read.
use Prim.Native.Nat.{ℕ, ◌+◌, ◌-◌, ◌≤◌, ◌<◌}
use native.Mathlib.Omega.{arith}
use mathlib.Core.Path.{◌≡◌, refl, sym, ap, ◌∙◌}
use mathlib.Core.Bool.{Bool}
use mathlib.Core.List.{List, [], map}
use lib.ListN.{length, take, drop, get_or, length-map, get_or-map}
use Rattle.wire.specs.Numbers.{le}
use Rattle.wire.specs.Fields.{fields}
use Rattle.wire.specs.Keys.{key_of}
use Rattle.wire.specs.Kinds.{bucket_read, no_bucket}
use Rattle.calls.specs.CallList.{bodies, piece_of, freed_of}
use Rattle.reader.specs.Table.{sorted_bodies, FieldHere}
use Rattle.reader.specs.Collected.{PlacesOf}
use Rattle.reader.specs.Readings.{list_refusal}
use Rattle.reader.specs.KeyHere.{key_here}
use Rattle.reader.specs.Located.{no_key, KeysAt, BucketsAt, no_piece, PiecesAt, no_freed, FreedsAt}
use Rattle.reader.proofs.PlacedLaws.{places-length, place_at}
use Rattle.reader.proofs.OfferedLaws.{body-listed, sorted-listed, here-length, key-ready, reserved-size, piece-size, freed-size}

-- what an element read from a body is, read from its place
read_at : {A : Type 0} (f : List ℕ → A) (d : A) → f [] ≡ d → (bs : List (List ℕ)) (i : ℕ) (body : List ℕ) → get_or bs i [] ≡ body → f body ≡ get_or (map f bs) i d
read_at f d e bs i body h = ap f (sym h) ∙ sym (get_or-map f bs i []) ∙ ap (get_or (map f bs) i) e

no_key_lem : key_of [] ≡ no_key
unfolding le
no_key_lem = refl

no-bucket : bucket_read [] ≡ no_bucket
unfolding le
no-bucket = refl

no-piece : piece_of [] ≡ no_piece
unfolding le piece_of
no-piece = refl

no-freed : freed_of [] ≡ no_freed
unfolding le freed_of
no-freed = refl

module _ (call : ℕ) (any : Bool) (s : List ℕ) (h : 0 ≡ list_refusal call any s) where
  -- the keys of a tree
  pub keys-located : {t : ℕ} {os : List ℕ} → 1 < t → t ≤ 14 → PlacesOf s t os (sorted_bodies t (fields s)) → KeysAt s os (map key_of (sorted_bodies t (fields s)))
  unfolding key_here
  keys-located {t} l m p =
      let bs = sorted_bodies t (fields s) in
      record {
        count = places-length p ∙ sym (length-map bs key_of);
        at = λ i q.
            let k : i < length bs = omega (arith, places-length p) in
            let f = place_at p i q in
            let r = key-ready m f (sorted-listed call any s h t i l k) in
            record {
              whole = record { after = f.after; long = r.long; short = r.short; within = r.within };
              is = read_at key_of no_key no_key_lem bs i _ f.here;
            };
      }

  -- a body of a fixed length at its place
  record Fixed (n o i : ℕ) (bs : List (List ℕ)) : Type 0 where
    within : o + n ≤ length s
    here : get_or bs i [] ≡ take n (drop o s)

  fixed : (t n o : ℕ) (bs : List (List ℕ)) (i : ℕ) → FieldHere s o t (get_or bs i []) → length (get_or bs i []) ≡ n → Fixed n o i bs
  fixed t n o bs i f e =
      let q : le 2 (drop (o - 2) s) ≡ n = sym (here-length f) ∙ e in
      record { within = omega (arith, f.within, q); here = f.here ∙ ap (λ (k : ℕ). take k (drop o s)) q }

  -- the reserved buckets
  pub buckets-located : {os : List ℕ} → PlacesOf s 64 os (sorted_bodies 64 (fields s)) → BucketsAt s os (map bucket_read (sorted_bodies 64 (fields s)))
  buckets-located {os} p =
      let bs = sorted_bodies 64 (fields s) in
      record {
        count = places-length p ∙ sym (length-map bs bucket_read);
        at = λ i q.
            let k : i < length bs = omega (arith, places-length p) in
            let f = fixed 64 4 (get_or os i 0) bs i (place_at p i q) (reserved-size (sorted-listed call any s h 64 i (omega arith) k)) in
            record { within = f.within; is = read_at bucket_read no_bucket no-bucket bs i _ f.here };
      }

  -- the pieces of a placement
  pub pieces-located : {os : List ℕ} → PlacesOf s 65 os (bodies 65 (fields s)) → PiecesAt s os (map piece_of (bodies 65 (fields s)))
  pieces-located {os} p =
      let bs = bodies 65 (fields s) in
      record {
        count = places-length p ∙ sym (length-map bs piece_of);
        at = λ i q.
            let k : i < length bs = omega (arith, places-length p) in
            let f = fixed 65 13 (get_or os i 0) bs i (place_at p i q) (piece-size (body-listed call any s h 65 i (omega arith) k)) in
            record { within = f.within; is = read_at piece_of no_piece no-piece bs i _ f.here };
      }

  -- the requests of a release
  pub freeds-located : {os : List ℕ} → PlacesOf s 66 os (bodies 66 (fields s)) → FreedsAt s os (map freed_of (bodies 66 (fields s)))
  freeds-located {os} p =
      let bs = bodies 66 (fields s) in
      record {
        count = places-length p ∙ sym (length-map bs freed_of);
        at = λ i q.
            let k : i < length bs = omega (arith, places-length p) in
            let f = fixed 66 10 (get_or os i 0) bs i (place_at p i q) (freed-size (body-listed call any s h 66 i (omega arith) k)) in
            record { within = f.within; is = read_at freed_of no_freed no-freed bs i _ f.here };
      }
