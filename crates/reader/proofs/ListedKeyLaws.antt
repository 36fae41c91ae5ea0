-- The keys and the bodies of a fixed length at places of a list: a step along them, and the same facts place by place.
use mathlib.Core.Path.{◌≡◌, refl, sym, ap, ◌∙◌}
use mathlib.Core.List.{List, [], ◌∷◌}
use Prim.Native.Nat.{ℕ, suc, ◌+◌, ◌≤◌, ◌<◌}
use native.Mathlib.Omega.{arith}
use Rattle.std.proofs.lemmas.List.{get_or-map}
use lib.ListN.{length, take, drop, get_or, length-map}
use Rattle.wire.specs.Bytes.{All}
use Rattle.wire.specs.Keys.{Key}
use Rattle.wire.specs.Kinds.{bucket_read, no_bucket}
use Rattle.wire.specs.declared.kinds.Bucket.{Bucket}
use Rattle.wire.proofs.NumberLaws.{le-take}
use Rattle.reader.specs.KeyHere.{key_here, Whole, WholeKeys, keys_here}
use Rattle.reader.specs.Listed.{WholeBodies}
use Rattle.reader.specs.BucketHere.{bucket_here, buckets_here}
use Rattle.reader.specs.ListedKeys.{key_listed, keys_listed, KeyOf}
use Rattle.reader.specs.declared.key.ListedKey.{ListedKey}
use Rattle.reader.specs.declared.listed_keys.Keys.{Keys}
use Rattle.reader.specs.Located.{no_key, KeysAt, BucketsAt}
use Rattle.reader.proofs.SkipLaws.{all-indexed}

-- a whole key stands at each place
pub whole-each : {s places : List ℕ} → WholeKeys s places → All (Whole s) places
whole-each w = all-indexed 0 _ w.at

-- and at each of those after the first
pub whole-rest : {s rest places : List ℕ} {at : ℕ} → places ≡ at ∷ rest → WholeKeys s places → WholeKeys s rest
whole-rest e w = let v = rw e at w in record { at = λ i h. v.at (suc i) (omega arith) }

-- each of some bodies is within the list, and so is each after the first
pub bodies-each : {width : ℕ} {s places : List ℕ} → WholeBodies width s places → All (λ at. at + width ≤ length s) places
bodies-each w = all-indexed 0 _ w.at

pub bodies-rest : {width : ℕ} {s rest places : List ℕ} {at : ℕ} → places ≡ at ∷ rest → WholeBodies width s places → WholeBodies width s rest
bodies-rest e w = let v = rw e at w in record { at = λ i h. v.at (suc i) (omega arith) }

-- the key with an index
pub key-of : {ks : Keys} {i : ℕ} {k : ListedKey} → i < length ks.places.now → KeyOf ks i k → key_listed k ≡ get_or (keys_listed ks) i no_key
key-of {ks} {i} {k} h q =
    ap (λ s. key_here s k.at) q.list ∙ ap (key_here ks.list.now) q.at ∙ sym (get_or-map (key_here ks.list.now) ks.places.now i 0 no_key h)

-- the places of some keys find them, one for one
pub keys-at : {s places : List ℕ} → WholeKeys s places → KeysAt s places (keys_here s places)
keys-at {s} {places} w =
    record {
      count = sym (length-map places (key_here s));
      at = λ i h. record { whole = w.at i h; is = sym (get_or-map (key_here s) places i 0 no_key h) };
    }

-- places that find keys are those of whole keys
pub whole-located : {s places : List ℕ} {ks : List Key} → KeysAt s places ks → WholeKeys s places
whole-located q = record { at = λ i h. (q.at i h).whole }

-- the same of reserved buckets
pub bucket-front : (s : List ℕ) → bucket_read (take 4 s) ≡ bucket_read s
bucket-front s = ap (λ n. record { 0 = n }) (le-take 4 4 s (omega arith))

pub buckets-at : {s places : List ℕ} → WholeBodies 4 s places → BucketsAt s places (buckets_here s places)
buckets-at {s} {places} w =
    record {
      count = sym (length-map places (bucket_here s));
      at = λ i h. record { within = w.at i h; is = bucket-front (drop (get_or places i 0) s) ∙ sym (get_or-map (bucket_here s) places i 0 no_bucket h) };
    }

pub buckets-located-whole : {s places : List ℕ} {bs : List Bucket} → BucketsAt s places bs → WholeBodies 4 s places
buckets-located-whole q = record { at = λ i h. (q.at i h).within }

-- the buckets are those at the places
buckets-tail : {s places : List ℕ} {bs : List Bucket} {at : ℕ} {b : Bucket} → BucketsAt s (at ∷ places) (b ∷ bs) → BucketsAt s places bs
buckets-tail q = record { count = omega (arith, q.count); at = λ i h. q.at (suc i) (omega arith) }

pub buckets-here : {s places : List ℕ} {bs : List Bucket} → BucketsAt s places bs → buckets_here s places ≡ bs
buckets-here {places = []} {bs = []} q = refl
buckets-here {places = []} {bs = b ∷ bs} q = absurd (omega (arith, q.count))
buckets-here {places = at ∷ places} {bs = []} q = absurd (omega (arith, q.count))
buckets-here {s} {places = at ∷ places} {bs = b ∷ bs} q =
    let e = sym (bucket-front (drop at s)) ∙ (q.at 0 (omega arith)).is in
    let r = buckets-here (buckets-tail q) in
    λ i. e i ∷ r i
