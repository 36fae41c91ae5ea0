-- FORMAT.md, "Clean volumes and histories": histories, live pieces, and what is claimed of them.
use Rattle.std.specs.Prelude.{ℕ, ◌+◌, ◌≤◌, ◌≡◌, Bool, true, false, not, ◌&&◌, ◌||◌, cond, ltb, eqb}
use mathlib.Core.List.{List, [], ◌∷◌, ◌++◌, zip_with, flat_map}
use Rattle.std.proofs.Math.Option.{Option, none, some}
use Rattle.wire.specs.Fields.{Field, fields}
use Rattle.wire.specs.Encode.{encode}
use Rattle.wire.specs.Kinds.{same_bucket, bucket_of, offset_in, sector_within, same_sector, began_before}
use Rattle.wire.specs.Positions.{alloc_at, bucket_in}
use Rattle.wire.specs.declared.kinds.Bucket.{Bucket}
use Rattle.wire.specs.declared.kinds.DeviceSector.{DeviceSector}
use Rattle.wire.specs.Bytes.{All, Bytes}
use Rattle.format.specs.Packing.{get}
use Rattle.format.specs.AllocV4.{gen, data_type, dirty_sectors, need_discard_type}
use Rattle.calls.specs.Lists.{all_of, any_of, those, total, one, from_option}
use Rattle.calls.specs.CallList.{Piece, Freed, volume_laid_out}
use Rattle.calls.specs.SameFields.{AsOften}
use Rattle.calls.specs.Limits.{is_set, is_run}
use Rattle.calls.specs.Freespace.{is_in, runs_of, end_of, buckets_of, overlaps}
use Rattle.calls.specs.Generations.{gen_of}
use Rattle.calls.specs.ChangeList.{changes_of}
use Rattle.calls.specs.Trees.{lookup}
use Rattle.calls.specs.Answers.{Answer, read_call, read_volume, place, release, discard, apply}

-- nonempty disjoint runs from bucket 0 or later, any reserved list, no other keys
pub record Clean (s : List ℕ) : Type 0 where
  pub bytes : Bytes s
  pub laid_out : volume_laid_out s ≡ true
  pub alloc : (read_volume s).trees.alloc ≡ []
  pub lru : (read_volume s).trees.lru ≡ []
  pub need_discard : (read_volume s).trees.need_discard ≡ []
  pub backpointers : (read_volume s).trees.backpointers ≡ []
  pub gens : (read_volume s).trees.gens ≡ []
  pub runs :
      all_of (λ k. is_run k && (ltb 0 k.size && not (began_before (end_of k) k.size))) (read_volume s).trees.freespace ≡ true
  pub disjoint : overlaps (read_volume s).trees.freespace ≡ false

-- a live piece: its first device sector, its generation and its length
pub record Live : Type 0 where
  pub first : DeviceSector
  pub generation : ℕ
  pub length : ℕ

-- the volume last reached, and the pieces live on it
pub record State : Type 0 where
  pub volume : List ℕ
  pub live : List Live

pub data Call : Type 0 where
  placing : Call
  releasing : Call
  discarding : Call

-- a call with its list, the lengths of its scratch and its output, and the length of apply's output
pub record Step : Type 0 where
  pub call : Call
  pub list : List ℕ
  pub scratch : ℕ
  pub room : ℕ
  pub apply_room : ℕ

-- the call's answer
abbrev pub answer_by : Call → Step → Answer
answer_by placing s = place s.list s.room
answer_by releasing s = release s.list s.scratch s.room
answer_by discarding s = discard s.list s.room

unfoldable pub answer_to : Step → Answer
answer_to s = answer_by s.call s

abbrev pub is_request : Field → Bool
is_request f = eqb f.tag 65 || eqb f.tag 66

-- a list without its requests
unfoldable pub without_requests : List ℕ → List ℕ
without_requests s = encode (those (λ f. not (is_request f)) (fields s))

-- what apply makes of an accepted call
unfoldable pub applied_to : Step → Answer
applied_to s = apply (without_requests s.list) (answer_to s).written s.apply_room

-- the pieces of an answer: first sector and generation from its fields 72, length the stored sectors asked
unfoldable pub placed_pieces : List ℕ → List Piece → List Live
placed_pieces written asked =
    zip_with (λ t p. record { first = t.first; generation = t.generation; length = p.stored })
    (flat_map (λ b. b.spots) (changes_of written)) asked

-- a request names a live piece by first sector and length
abbrev pub names : Freed → Live → Bool
names r p = same_sector r.first p.first && eqb r.sectors p.length

abbrev pub with_first : Live → Option (List Live) → Option (List Live)
with_first p none = none
with_first p (some l) = some (p ∷ l)

-- the list without the first piece that a request names, or none where there is no such piece
unfoldable pub take_out : Freed → List Live → Option (List Live)
take_out r [] = none
take_out r (p ∷ ps) = cond (names r p) (some ps) (with_first p (take_out r ps))

abbrev pub and_then : {A B : Type 0} → Option A → (A → Option B) → Option B
and_then none f = none
and_then (some a) f = f a

-- the list without the pieces that all requests name, none of them twice
unfoldable pub take_all : List Freed → List Live → Option (List Live)
take_all [] l = some l
take_all (r ∷ rs) l = and_then (take_out r l) (take_all rs)

-- an applied placement adds one for each request, an applied release takes out those it names, all else changes none
abbrev pub live_by : Call → Step → List Live → List Live
live_by placing s live = live ++ placed_pieces (answer_to s).written (read_call s.list).pieces
live_by releasing s live = from_option live (λ l. l) (take_all (read_call s.list).releases live)
live_by discarding s live = live

-- a refused call or apply drops its step
unfoldable pub advance : State → Step → State
advance st s =
    cond (eqb (answer_to s).number 0 && eqb (applied_to s).number 0)
    (record { volume = (applied_to s).written; live = live_by s.call s st.live })
    st

-- a list of calls
unfoldable pub after : State → List Step → State
after st [] = st
after st (s ∷ ss) = after (advance st s) ss

-- the fields that no call changes: not field 1, and no request
unfoldable pub carried : List ℕ → List Field
carried s = those (λ f. not (eqb f.tag 1 || is_request f)) (fields s)

-- what a history asks of a step: bytes, of which only field 1, its bucket sectors excepted, and requests differ from the volume last reached, up to
-- the order of fields; and a release that is accepted names live pieces, none twice
pub record Allowed (st : State) (s : Step) : Type 0 where
  pub bytes : Bytes s.list
  pub same : AsOften (carried s.list) (carried st.volume)
  pub sectors : (read_call s.list).volume.head.bucket_sectors ≡ (read_volume st.volume).head.bucket_sectors
  pub named :
      s.call ≡ releasing → (answer_to s).number ≡ 0 → (l : List Live) × (take_all (read_call s.list).releases st.live ≡ some l)

abbrev pub History : State → List Step → Type 0
History st [] = Unit {0}
History st (s ∷ ss) = Allowed st s × History (advance st s) ss

-- no piece is live at first
abbrev pub start : List ℕ → State
start s = record { volume = s; live = [] }

-- ---- what is claimed

abbrev pub sectors_of : State → ℕ
sectors_of st = (read_volume st.volume).head.bucket_sectors

-- the alloc value of a bucket, at inode 0
unfoldable pub alloc_of : State → Bucket → Option (List ℕ)
alloc_of st b = from_option none (λ k. some k.value) (lookup (alloc_at b) (read_volume st.volume).trees.alloc)

-- a bucket's generation and dirty count; without an alloc key the count is 0 and no generation agrees
unfoldable pub generation_of : State → Bucket → Option ℕ
generation_of st b = from_option none (λ v. some (get gen v)) (alloc_of st b)

unfoldable pub dirty_of : State → Bucket → ℕ
dirty_of st b = from_option 0 (get dirty_sectors) (alloc_of st b)

-- free: in a run, unreserved
unfoldable pub is_free : State → Bucket → Bool
is_free st b =
    let v = read_volume st.volume in
    any_of (λ k. is_in (buckets_of k) b) (runs_of v.trees.freespace) && not (is_in v.reserved b)

-- in use: a live piece's bucket
unfoldable pub is_in_use : State → Bucket → Bool
is_in_use st b = any_of (λ p. same_bucket (bucket_of p.first (sectors_of st)) b) st.live

-- waiting: byte 14 is 9 and a need-discard key names it
unfoldable pub is_waiting : State → Bucket → Bool
is_waiting st b =
    from_option false (λ v. eqb (get data_type v) need_discard_type) (alloc_of st b)
    && any_of (λ k. is_set k && same_bucket (bucket_in k.pos) b) (read_volume st.volume).trees.need_discard

-- a piece lies inside its bucket and carries its bucket's generation
pub record Inside (st : State) (p : Live) : Type 0 where
  pub within : offset_in p.first (sectors_of st) + p.length ≤ sectors_of st
  pub generation : generation_of st (bucket_of p.first (sectors_of st)) ≡ some p.generation

-- Demand 3, of a state that a history from a clean volume reaches.
pub record Claim (clean : List ℕ) (st : State) : Type 0 where
  -- no sector is occupied by two live pieces
  pub once : (d : DeviceSector) → total (λ p. one (sector_within p.first p.length d)) st.live ≤ 1
  pub inside : All (Inside st) st.live
  -- each dirty count is the sum of its live pieces' sectors
  pub dirty : (b : Bucket) → dirty_of st b ≡ total (λ p. cond (same_bucket (bucket_of p.first (sectors_of st)) b) p.length 0) st.live
  -- each offered bucket is in exactly one of free, in use, waiting
  pub phase : (b : Bucket) → is_free (start clean) b ≡ true → one (is_free st b) + one (is_in_use st b) + one (is_waiting st b) ≡ 1

-- Beside it: the generation that the lookup in tree 14 gives is the alloc key's, where there is one.
abbrev pub GensAgree : State → Type 0
GensAgree st =
    (b : Bucket) (g : ℕ) → generation_of st b ≡ some g → gen_of (read_volume st.volume).trees.gens b ≡ g
