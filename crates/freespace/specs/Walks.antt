-- The walk over the runs, as the code makes it.
use Rattle.std.specs.Prelude.{ℕ, zero, suc, ◌+◌, ◌≤◌, ◌<◌, ◌^◌, ◌≡◌, Bool, true, cond, List, [], ◌∷◌, ◌++◌, length, take, Result, IfOk}
use Rattle.wire.specs.Keys.{Key}
use Rattle.wire.specs.Kinds.{began_before}
use Rattle.wire.specs.declared.kinds.Bucket.{Bucket}
use Rattle.calls.specs.Limits.{is_run}
use Rattle.calls.specs.Freespace as calls
use Rattle.calls.specs.Freespace.{end_of, buckets_of, pass, shortened}
use Rattle.reader.specs.Checked.{end_in_range}
use Rattle.reader.specs.Refusals.{number_in}
use Rattle.reader.specs.declared.refusal.Refusal.{Refusal}
use Rattle.freespace.specs.declared.take.Walked.{Walked}

-- before the first key
abbrev pub unwalked : Walked
unwalked = record { count = 0; passed = 0; left = 0 }

-- one key more is passed, and all its buckets
abbrev pub past_key : Walked → Walked
past_key w = record { count = w.count; passed = w.passed + 1; left = 0 }

-- What the walk of a key asks: a key within the limits, and room for the buckets.
pub record Walkable (k : Key) (n : ℕ) (from : Walked) (table : List Bucket) : Type 0 where
  pub end : end_in_range k ≡ true
  pub most : from.count ≤ n
  pub room : n ≤ length table
  pub few : from.passed < 2 ^ 63

-- refusal 13 where a used bucket was met, else another number
abbrev pub thirteen : Bool → ℕ → ℕ
thirteen used other = cond used 13 other

-- what the walk of a run's buckets leaves where it met no used one
pub record RunTook (p : calls.Passed) (from : Walked) (before after : List Bucket) (r : Walked) : Type 0 where
  pub taken : take r.count after ≡ take from.count before ++ p.taken
  pub many : r.count ≡ from.count + length p.taken
  pub passed : r.passed ≡ from.passed + 1
  pub rest : r.left ≡ p.left

-- what the walk of a run's buckets gives
pub record WalkEnded (p : calls.Passed) (from : Walked) (before after : List Bucket) (r : Result Walked Refusal) : Type 0 where
  pub used : number_in r ≡ thirteen p.used 0
  pub took : IfOk r (RunTook p from before after)

-- what the walk makes of one key: nothing where it is no run
unfoldable pub key_walk : (Bucket → Bool) → (Bucket → Bool) → ℕ → Key → calls.Walked
key_walk reserved used need k =
    let p = pass reserved used need (buckets_of k) in
    cond (is_run k)
    (record {
      taken = p.taken;
      queue = shortened k p.left ∷ [];
      refusal = cond (began_before (end_of k) k.size) 12 (cond p.used 13 0);
    })
    (record { taken = []; queue = []; refusal = 0 })

-- what the last of the keys passed has left; those before it are walked to their end
abbrev pub left_of : ℕ → ℕ → ℕ
left_of zero left = left
left_of (suc after) left = 0

-- what a key that the walk passed queues, with so many buckets left: nothing where it is no run
abbrev pub key_queue : Key → ℕ → List Key
key_queue k left = cond (is_run k) (shortened k left ∷ []) []

-- the keys queued by a walk that passed so many keys of the tree, the last of them with `left` buckets left
unfoldable pub queue_of : ℕ → ℕ → List Key → List Key
queue_of zero left ks = []
queue_of (suc passed) left [] = []
queue_of (suc passed) left (k ∷ ks) =
    cond (is_run k) (shortened k (left_of passed left) ∷ queue_of passed left ks) (queue_of passed left ks)

-- What an accepted walk that passed some keys leaves, from where it was: the buckets taken, in the table, and the keys queued.
pub record WalkTook (n : ℕ) (ks : List Key) (w : calls.Walked) (from : Walked) (before after : List Bucket) (r : Walked) : Type 0 where
  pub taken : take r.count after ≡ take from.count before ++ w.taken
  pub count : r.count ≡ from.count + length w.taken
  pub passed : r.passed ≡ from.passed + length ks
  pub queue : w.queue ≡ queue_of (length ks) r.left ks
  -- where it is short of n buckets, it is at a key's end
  pub short : r.count < n → r.left ≡ 0

-- the walk's refusal, or what it leaves; `keys` gives the keys that it passed
pub record WalkIs (n : ℕ) (keys : Walked → List Key) (w : calls.Walked) (from : Walked) (before after : List Bucket) (r : Result Walked Refusal) : Type 0 where
  pub refusal : number_in r ≡ w.refusal
  pub took : IfOk r (λ x. WalkTook n (keys x) w from before after x)
