-- The table of the generation records.
use Rattle.std.specs.Prelude.{ℕ, ◌/◌, ◌<◌, ◌≡◌, true, ◌&&◌, cond, List, ltb, eqb, length, get_or, set, Some, None, Option as Maybe}
use Rattle.std.proofs.Math.Option.{Option, none, some}
use Rattle.wire.specs.Keys.{Key}
use Rattle.wire.specs.Kinds.{bucket_in_range}
use Rattle.wire.specs.declared.kinds.Bucket.{Bucket}
use Rattle.calls.specs.Generations.{gen_record}
use Rattle.reader.specs.KeyHere.{key_here, Whole}
use Rattle.reader.specs.ListedKeys.{key_listed}
use Rattle.reader.specs.declared.key.ListedKey.{ListedKey}

-- the table after the key at an offset: a record is noted, another key at a record's place takes it out
unfoldable pub record_noted : ℕ → Key → List ℕ → List ℕ
record_noted at k table =
    cond (eqb k.pos.inode 0 && (eqb k.pos.snapshot 0 && ltb k.pos.offset 256))
    (set table k.pos.offset (cond (eqb k.type 30) at 0)) table

-- the place that an entry names, or none where it is 0
abbrev pub record_place : ℕ → Maybe ℕ
record_place at = cond (eqb at 0) None (Some at)

-- the key at a place, or none
abbrev pub record_at : List ℕ → Maybe ℕ → Option Key
record_at s None = none
record_at s (Some at) = some (key_here s at)

-- the key that was found, or none
abbrev pub record_listed : Maybe ListedKey → Option Key
record_listed None = none
record_listed (Some k) = some (key_listed k)

-- each entry of a table is the place of a whole key, or 0
pub record RecordsStand (s table : List ℕ) : Type 0 where
  pub count : length table ≡ 256
  pub whole : (o : ℕ) → o < 256 → 0 < get_or table o 0 → Whole s (get_or table o 0)

-- the place of a bucket's record
abbrev pub record_entry : List ℕ → Bucket → Maybe ℕ
record_entry table b = record_place (get_or table (b.0 / 256) 0)

-- the table finds the record that holds a bucket's generation
pub record RecordsFound (s : List ℕ) (gens : List Key) (table : List ℕ) : Type 0 where
  pub stand : RecordsStand s table
  pub is : (b : Bucket) → bucket_in_range b ≡ true → record_at s (record_entry table b) ≡ gen_record gens b
