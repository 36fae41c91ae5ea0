-- A section of a volume is the keys of one tree (4, 10, 11, 12, 13, 14) or the reserved buckets (64). A bucket is a key at inode 0 and its number, so
-- that 71 queues it and 75 queues its deletion.
use Rattle.std.specs.Prelude.{ℕ, Bool, ◌&&◌, ◌||◌, cond, List, [], ◌∷◌, length, leb, eqb}
use Rattle.wire.specs.Numbers.{each}
use Rattle.wire.specs.Fields.{Field}
use Rattle.wire.specs.Keys.{Key, key_of}
use Rattle.wire.specs.Encode.{encode_field, key_field}
use Rattle.wire.specs.Kinds.{bucket_read}
use Rattle.wire.specs.Positions.{alloc_at, bucket_in}
use Rattle.wire.specs.declared.kinds.Bucket.{Bucket}
use Rattle.calls.specs.CallList.{reserved_field}
use Rattle.calls.specs.Trees.{new_key}

-- the sections of a volume, in order
abbrev pub sections : List ℕ
sections = 4 ∷ 10 ∷ 11 ∷ 12 ∷ 13 ∷ 14 ∷ 64 ∷ []

-- a bucket as a key; type 0 unreserves it
abbrev pub bucket_key : ℕ → Bucket → Key
bucket_key type b = new_key type 0 (alloc_at b) []

-- a field of the reserved buckets: 64 in a volume, 71 and 75 in a change list
unfoldable pub is_bucket : ℕ → ℕ → Bool
is_bucket tag n = eqb n 4 && (eqb tag 64 || (eqb tag 71 || eqb tag 75))

-- a body of a key of section t may be so long
abbrev pub is_sized : ℕ → ℕ → Bool
is_sized t n = cond (eqb t 64) (eqb n 4) (leb 37 n && leb n 293)

-- a field with a tag and a length is of section t
unfoldable pub is_entry : ℕ → ℕ → ℕ → Bool
is_entry t tag n = cond (eqb t 64) (is_bucket tag n) (eqb tag t && (leb 37 n && leb n 293))

-- the key in a field of section t
unfoldable pub entry_of : ℕ → Field → Key
entry_of t f = cond (eqb t 64) (bucket_key (cond (eqb f.tag 75) 0 1) (bucket_read f.body)) (key_of f.body)

-- the keys of section t among some fields
unfoldable pub entries : ℕ → List Field → List Key
entries t [] = []
entries t (f ∷ fs) = cond (is_entry t f.tag (length f.body)) (entry_of t f ∷ entries t fs) (entries t fs)

-- a key as a volume's field
unfoldable pub field_for : ℕ → Key → Field
field_for t k = cond (eqb t 64) (reserved_field (bucket_in k.pos)) (key_field t k)

unfoldable pub section_bytes : ℕ → List Key → List ℕ
section_bytes t ks = each (λ k. encode_field (field_for t k)) ks
