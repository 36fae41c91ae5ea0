-- The answers of the readers: refusals 2, 22 and 3, or the list that was read, with the places of its fields.
use Rattle.std.specs.Prelude.{ℕ, ◌<◌, ◌≤◌, ◌≡◌, List, [], ◌∷◌, ◌++◌, Bool, ◌&&◌, ◌||◌, eqb, Option, Some, None, unwrap_or, Result, Ok, Err, length}
use Rattle.wire.specs.Bytes.{Bytes}
use Rattle.wire.specs.Fields.{fields}
use Rattle.calls.specs.CallList.{laid_out, volume_shapes, request_shapes, call_laid_out, volume_laid_out, none_twice}
use Rattle.calls.specs.Limits.{volume_within, list_within}
use Rattle.calls.specs.Refusals.{test, verdict}
use Rattle.calls.specs.Answers.{read_call, read_volume}
use Rattle.reader.specs.Heads.{head_in}
use Rattle.wire.specs.Keys.{Key}
use Rattle.reader.specs.KeyHere.{WholeKeys}
use Rattle.reader.specs.ListedKeys.{keys_listed}
use Rattle.reader.specs.ListedBuckets.{ReservedBuckets, buckets_listed}
use Rattle.reader.specs.Table.{Indexed, Ended, between, sorted_bodies, request_bodies, request_tag}
use Rattle.reader.specs.Collected.{PlacesOf}
use Rattle.reader.specs.declared.head.Head.{Head}
use Rattle.reader.specs.declared.table.Ends.{Ends}
use Rattle.reader.specs.declared.read_list.ReadList.{ReadList}
use Rattle.reader.specs.declared.listed_keys.Keys.{Keys}
use Rattle.reader.specs.declared.refusal.Refusal.{Refusal}
use Rattle.reader.specs.Refusals.{number_of}

-- refusals 2, 22 and 3 of a call, in their order
unfoldable pub call_refusal : ℕ → List ℕ → ℕ
call_refusal call s =
    verdict
    (test 2 (call_laid_out call s) ∷ test 22 (none_twice (read_volume s)) ∷ test 3 (list_within (read_call s)) ∷ [])

unfoldable pub volume_refusal : List ℕ → ℕ
volume_refusal s =
    verdict (test 2 (volume_laid_out s) ∷ test 22 (none_twice (read_volume s)) ∷ test 3 (volume_within (read_volume s)) ∷ [])

-- the layout of a list of this call, or with `any` of whatever call its head names
unfoldable pub laid_as : ℕ → Bool → List ℕ → Bool
laid_as call any s = laid_out (volume_shapes ++ request_shapes call) s && (any || eqb (read_volume s).head.call call)

unfoldable pub list_refusal : ℕ → Bool → List ℕ → ℕ
list_refusal call any s =
    verdict (test 2 (laid_as call any s) ∷ test 22 (none_twice (read_volume s)) ∷ test 3 (list_within (read_call s)) ∷ [])

-- a list that was read: its head and its table
pub record TableRead (call : ℕ) (s index : List ℕ) (h : Head) (e : Ends) : Type 0 where
  pub head : head_in h ≡ (read_volume s).head
  pub ends : Ended call s index e
  pub table : Indexed call s index e

-- a table that was read of a list, of whatever call, which meets none of 2, 22 and 3
pub record TableKnown (s index : List ℕ) (h : Head) (e : Ends) : Type 0 where
  pub call : ℕ
  pub any : Bool
  pub kept : 0 ≡ list_refusal call any s
  pub read : TableRead call s index h e

-- the entries of a table from one end to the next are places of whole keys
pub record KeysBetween (s index : List ℕ) (from to : ℕ) : Type 0 where
  pub up : from ≤ to
  pub within : to ≤ length index
  pub whole : WholeKeys s (between from to index)

-- the refusal's number, or 0 and the table
abbrev pub TableAnswered : ℕ → ℕ → List ℕ → List ℕ → Result (Head × Ends) Refusal → Type 0
TableAnswered number call s index (Err r) = (number_of r ≡ number) × (0 < number)
TableAnswered number call s index (Ok l) = (0 ≡ number) × TableRead call s index l.0 l.1

-- the keys of a tree of a list that was read: those at the places of the fields with a tag, in their order
pub record KeysRead (s : List ℕ) (t : ℕ) (ks : List Key) (r : Keys) : Type 0 where
  pub list : r.list.now ≡ s
  pub places : PlacesOf s t r.places.now (sorted_bodies t (fields s))
  pub are : keys_listed r ≡ ks

-- its reserved buckets
pub record BucketsRead (s : List ℕ) (r : ReservedBuckets) : Type 0 where
  pub list : r.list.now ≡ s
  pub places : PlacesOf s 64 r.places.now (sorted_bodies 64 (fields s))
  pub are : buckets_listed r ≡ (read_volume s).reserved

-- the head of a list that was read, its keys and reserved buckets, and its fields' places: those of a tag in the order of keys and buckets, requests in the order of the list, and all in turn
pub record Read (call : ℕ) (r : ReadList) : Type 0 where
  pub bytes : Bytes r.list.now
  pub head : head_in r.head ≡ (read_volume r.list.now).head
  pub alloc : KeysRead r.list.now 4 (read_volume r.list.now).trees.alloc r.alloc
  pub lru : KeysRead r.list.now 10 (read_volume r.list.now).trees.lru r.lru
  pub freespace : KeysRead r.list.now 11 (read_volume r.list.now).trees.freespace r.freespace
  pub need_discard : KeysRead r.list.now 12 (read_volume r.list.now).trees.need_discard r.need_discard
  pub backpointers : KeysRead r.list.now 13 (read_volume r.list.now).trees.backpointers r.backpointers
  pub gens : KeysRead r.list.now 14 (read_volume r.list.now).trees.gens r.gens
  pub reserved : BucketsRead r.list.now r.reserved
  pub requests : PlacesOf r.list.now (request_tag call) r.requests.now (request_bodies call (fields r.list.now))
  pub places :
      r.places.now
      ≡ r.alloc.places.now
      ++ (r.lru.places.now
      ++ (r.freespace.places.now
      ++ (r.need_discard.places.now ++ (r.backpointers.places.now ++ (r.gens.places.now ++ (r.reserved.places.now ++ r.requests.now))))))

-- the refusal of a list of the call that is asked for, or of a volume
abbrev pub refusal_of : Option ℕ → List ℕ → ℕ
refusal_of (Some call) s = call_refusal call s
refusal_of None s = volume_refusal s

-- a list that was read as it was asked for: no refusal of the reader stops it
pub record ReadAs (asked : Option ℕ) (r : ReadList) : Type 0 where
  pub passed : 0 ≡ refusal_of asked r.list.now
  pub read : Read (unwrap_or asked 0) r

-- the refusal, or the list that was read
abbrev pub ReadAnswered : Option ℕ → List ℕ → Result ReadList Refusal → Type 0
ReadAnswered asked s (Err r) = (number_of r ≡ refusal_of asked s) × (0 < refusal_of asked s)
ReadAnswered asked s (Ok r) = (r.list.now ≡ s) × ReadAs asked r
