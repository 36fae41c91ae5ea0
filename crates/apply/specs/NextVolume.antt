-- What is asked before the next volume is written, and what is promised of each of its sections and of the whole.
use Rattle.std.specs.Prelude.{◌≡◌, Bool, true, ℕ, None, IfSome, List, [], ◌∷◌, map, length, Result}
use Rattle.wire.specs.Bytes.{All}
use Rattle.wire.specs.Fields.{fields}
use Rattle.wire.specs.Keys.{Key}
use Rattle.wire.specs.Output.{with_bytes}
use Rattle.wire.specs.declared.output.Output.{Output}
use Rattle.calls.specs.CallList.{volume_bytes}
use Rattle.calls.specs.ChangeList.{change_laid_out}
use Rattle.calls.specs.Trees.{apply_queue}
use Rattle.calls.specs.Refusals.{test}
use Rattle.calls.specs.Answers.{answer, next_volume, apply, outcome}
use Rattle.reader.specs.Readings.{ReadAs}
use Rattle.reader.specs.Refusals.{made_by}
use Rattle.reader.specs.declared.refusal.Refusal.{Refusal}
use Rattle.reader.specs.Table.{sorted_bodies}
use Rattle.reader.specs.declared.read_list.ReadList.{ReadList}
use Rattle.sorting.specs.Entries.{sections, entries, entry_of}
use Rattle.sorting.specs.EntryPlaces.{entries_at}
use Rattle.merge.specs.Queues.{ascending}
use Rattle.merge.specs.QueueTable.{QueuePart}
use Rattle.merge.specs.Counts.{StandsWithin}
use Rattle.apply.specs.declared.lists.Section.{Section}

-- a volume and a change list
pub record Lists : Type 0 where
  pub volume : List ℕ
  pub change : List ℕ

-- the bytes of the volume that the change list makes of the volume
abbrev pub bytes_after : Lists → List ℕ
bytes_after n = volume_bytes (next_volume n.volume n.change)

-- refusals 2, 22 and 3 of the volume and 2 of the change list were tested, and the volume was read
pub record Ready (r : ReadList) (list : List ℕ) : Type 0 where
  pub read : ReadAs None r
  pub change : change_laid_out list ≡ true

-- the keys of section t of a volume, in order
unfoldable pub section_keys : List ℕ → ℕ → List Key
section_keys vol t = map (λ b. entry_of t (record { tag = t; body = b })) (sorted_bodies t (fields vol))

-- the keys of section t of the next volume
unfoldable pub next_of : List ℕ → List ℕ → ℕ → List Key
next_of vol list t = apply_queue (entries t (fields list)) (section_keys vol t)

-- these places of a volume are of the keys of section t, which ascend and are within their limits
pub record SectionReady (t : ℕ) (vol keys : List ℕ) : Type 0 where
  pub stands : All (StandsWithin t vol) keys
  pub up : ascending (entries_at t vol keys) ≡ true
  pub all : entries_at t vol keys ≡ section_keys vol t

-- the places of a section are of its keys in the volume, and of its queued keys in the change list, where those are known
pub record SectionListed (n : Lists) (p : Section) : Type 0 where
  pub keys : SectionReady p.tag n.volume p.keys.now
  pub queue : IfSome p.queue (λ q. QueuePart p.tag n.change q.now)

-- the sections of a volume, in order
pub record SectionsReady (n : Lists) (ps : List Section) : Type 0 where
  pub tags : map (λ p. p.tag) ps ≡ sections
  pub listed : All (SectionListed n) ps

-- the next volume was written, and whether its sections are within the limits tells the refusals that are left: 3, and 21 where there is too little room
pub record VolumeDone (n : Lists) (o o' : Output) (r : Bool) : Type 0 where
  pub wrote : o' ≡ with_bytes o (bytes_after n)
  pub answers : (room : ℕ) → apply n.volume n.change room ≡ answer (test 3 r ∷ []) (bytes_after n) room

-- a result, and the output that it leaves, are the answer that the definition of apply gives
abbrev pub ApplyAnswered : List ℕ → List ℕ → Result ℕ Refusal → List ℕ → List ℕ → Type 0
ApplyAnswered vol list r out out' = made_by r out' ≡ outcome (apply vol list (length out)) out
