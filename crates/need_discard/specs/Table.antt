-- The last of the need-discard keys that names a bucket, and the table by bucket of their places.
use Rattle.std.specs.Prelude.{ℕ, ◌+◌, ◌-◌, ◌<◌, ◌≡◌, List, Bool, true, ◌&&◌, cond, eqb, length, get_or, set, Some, None, Option as Maybe}
use Rattle.std.proofs.Math.Option.{Option, none, some}
use Rattle.wire.specs.Keys.{Key}
use Rattle.wire.specs.Kinds.{same_bucket, bucket_in_range}
use Rattle.wire.specs.Positions.{bucket_in}
use Rattle.wire.specs.declared.bpos.Bpos.{Bpos}
use Rattle.wire.specs.declared.kinds.Bucket.{Bucket}
use Rattle.calls.specs.Limits.{is_set}
use Rattle.calls.specs.Discard.{waiting_key}
use Rattle.reader.specs.ListedKeys.{key_listed}
use Rattle.reader.specs.Located.{no_key}
use Rattle.reader.specs.declared.key.ListedKey.{ListedKey}

-- where the need-discard key of a bucket stands, if it has one
abbrev pub waits_of : Option Key → Maybe Bpos
waits_of none = None
waits_of (some k) = Some k.pos

-- a key names a bucket
abbrev pub is_of_bucket : Key → Bucket → Bool
is_of_bucket k b = is_set k && same_bucket (bucket_in k.pos) b

-- a key that was found, as the definitions have it
abbrev pub found : Maybe ListedKey → Option Key
found None = none
found (Some k) = some (key_listed k)

-- The last of some keys that names a bucket stands at a place among all, or none does.
abbrev pub Entry : List Key → List Key → Bucket → Maybe ℕ → Type 0
Entry all ks b None = waiting_key ks b ≡ none
Entry all ks b (Some i) = (i < length all) × (waiting_key ks b ≡ some (get_or all i no_key))

-- the place that an entry of the table names: none where it is 0, else it is counted from 1
abbrev pub need_place : ℕ → Maybe ℕ
need_place e = cond (eqb e 0) None (Some (e - 1))

-- each bucket within the limit has the entry that some of all keys give it
abbrev pub TableEntries : List Key → List Key → List ℕ → Type 0
TableEntries all ks table = (b : Bucket) → bucket_in_range b ≡ true → Entry all ks b (need_place (get_or table b.0 0))

-- the table after a need-discard key, the one at place i: a key of another type than 25 names no bucket
unfoldable pub wait_noted : List ℕ → Key → ℕ → List ℕ
wait_noted table k i = cond (is_set k) (set table (bucket_in k.pos).0 (i + 1)) table
