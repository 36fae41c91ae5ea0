-- Runs as they are made, bucket by bucket, are those of the definition.
use Prim.Native.Nat.{suc, ◌+◌, ◌≤◌, ◌<◌}
use mathlib.Core.Path.{◌≡◌, refl, sym, ap, ◌∙◌}
use mathlib.Core.Bool.{Bool, true, false, cond}
use mathlib.Core.List.{List, [], ◌∷◌, ◌++◌, map}
use native.Mathlib.Omega.{arith}
use borrow.Author.Tests.{ltb-true}
use Rattle.need_discard.specs.Kept.{DiscardedKept}
use Rattle.wire.specs.Encode.{encode_field, key_field}
use Rattle.wire.specs.Output.{with_bytes}
use Rattle.wire.specs.declared.output.Output.{Output}
use Rattle.wire.proofs.AppendLaws.{with-with}
use Rattle.wire.proofs.EncodeLaws.{encode-none, encode_one}
use Rattle.change_fields.specs.FieldBytes.{keys_bytes}
use Rattle.change_fields.proofs.FieldLists.{fields-append}
use Rattle.wire.specs.Keys.{Key}
use Rattle.wire.specs.Kinds.{same_bucket, next_bucket}
use Rattle.wire.specs.Positions.{bucket_in}
use Rattle.wire.specs.declared.kinds.Bucket.{Bucket}
use Rattle.calls.specs.Discard.{join_run, joined_runs, run_key}
use Rattle.calls.specs.Discard as calls
use Rattle.discard.specs.Emitted.{buckets_of, freed_key, ended_run, with_bucket}
use Rattle.discard.specs.declared.runs.FreedRun.{FreedRun}

-- the runs of some buckets after a run that is not ended
unfoldable pub open_runs : FreedRun → List Bucket → List Key
open_runs r [] = freed_key r ∷ []
open_runs r (b ∷ bs) = ended_run r b ++ open_runs (with_bucket r b) bs

-- a run before some runs: joined to the first where it stands next to it
glue : calls.Run → List calls.Run → List calls.Run
glue q [] = q ∷ []
glue q (r ∷ rs) =
    cond (same_bucket q.end r.first) (record { first = q.first; end = r.end; size = q.size + r.size } ∷ rs) (q ∷ r ∷ rs)

abbrev single : Bucket → calls.Run
single b = record { first = b; end = next_bucket b; size = 1 }

join_is : (b : Bucket) (rs : List calls.Run) → join_run b rs ≡ glue (single b) rs
unfolding join_run glue
join_is b [] = refl
join_is b (r ∷ rs) =
    let e : suc r.size ≡ 1 + r.size = omega arith in
    rw e

abbrev longer : calls.Run → Bucket → calls.Run
longer q b = record { first = q.first; end = next_bucket b; size = q.size + 1 }

module _ (q : calls.Run) (b : Bucket) where
  glue-joined : same_bucket q.end b ≡ true → (rs : List calls.Run) → glue q (glue (single b) rs) ≡ glue (longer q b) rs
  unfolding glue
  glue-joined e [] = rw e
  glue-joined e (r ∷ rs) = go (same_bucket (next_bucket b) r.first)
    where
      go : (t : Bool)
          → glue q (cond t (record { first = b; end = r.end; size = 1 + r.size } ∷ rs) (single b ∷ r ∷ rs))
          ≡ cond t (record { first = q.first; end = r.end; size = q.size + 1 + r.size } ∷ rs) (longer q b ∷ r ∷ rs)
      go true = let a : q.size + (1 + r.size) ≡ q.size + 1 + r.size = omega arith in rw (e, a)
      go false = rw e

  glue-apart : same_bucket q.end b ≡ false → (rs : List calls.Run) → glue q (glue (single b) rs) ≡ q ∷ glue (single b) rs
  unfolding glue
  glue-apart e [] = rw e
  glue-apart e (r ∷ rs) = go (same_bucket (next_bucket b) r.first)
    where
      go : (t : Bool)
          → glue q (cond t (record { first = b; end = r.end; size = 1 + r.size } ∷ rs) (single b ∷ r ∷ rs))
          ≡ q ∷ cond t (record { first = b; end = r.end; size = 1 + r.size } ∷ rs) (single b ∷ r ∷ rs)
      go true = rw e
      go false = rw e

-- as the code has it
abbrev opened : calls.Run → FreedRun
opened q = record { end = q.end; size = q.size }

open-glued : (bs : List Bucket) (q : calls.Run) → open_runs (opened q) bs ≡ map run_key (glue q (joined_runs bs))
unfolding open_runs joined_runs glue
open-glued [] q = refl
open-glued (b ∷ bs) q =
    rw (join_is b (joined_runs bs)) (go (same_bucket q.end b) refl (open-glued bs (longer q b)) (open-glued bs (single b)))
  where
    go : (t : Bool) → same_bucket q.end b ≡ t → open_runs (opened (longer q b)) bs ≡ map run_key (glue (longer q b) (joined_runs bs))
        → open_runs (opened (single b)) bs ≡ map run_key (glue (single b) (joined_runs bs))
        → cond t [] (freed_key (opened q) ∷ []) ++ open_runs (record { end = next_bucket b; size = cond t (q.size + 1) 1 }) bs
        ≡ map run_key (glue q (glue (single b) (joined_runs bs)))
    go true e f g = f ∙ ap (map run_key) (sym (glue-joined q b e (joined_runs bs)))
    go false e f g = rw g (ap (map run_key) (sym (glue-apart q b e (joined_runs bs))))

-- from the first key on
pub runs-start : {ks rest : List Key} {k : Key} {x : Bucket} → ks ≡ k ∷ rest → x ≡ next_bucket (bucket_in k.pos)
    → open_runs (record { end = x; size = 1 }) (buckets_of rest) ≡ map run_key (joined_runs (buckets_of ks))
unfolding joined_runs
runs-start {rest = rest} {k = k} e p =
    let b = bucket_in k.pos in
    let bs = buckets_of rest in
    rw (e, p) (open-glued bs (single b) ∙ ap (map run_key) (sym (join_is b (joined_runs bs))))

pub with_size : (r : FreedRun) (b : Bucket) → (with_bucket r b).size ≤ r.size + 1
with_size r b = go (same_bucket r.end b)
  where
    go : (t : Bool) → cond t (r.size + 1) 1 ≤ r.size + 1
    go true = omega arith
    go false = omega arith

-- a turn of the loop over keys: of the runs that are left after a run that is not ended, what the next bucket ends is put
pub run-turn :
    {ks rest : List Key} {k : Key} (r : FreedRun) (o q : Output) → ks ≡ k ∷ rest → q ≡ with_bytes o (keys_bytes 11 (ended_run r (bucket_in k.pos)))
    → with_bytes q (keys_bytes 11 (open_runs (with_bucket r (bucket_in k.pos)) (buckets_of rest))) ≡ with_bytes o (keys_bytes 11 (open_runs r (buckets_of ks)))
unfolding open_runs
run-turn {rest = rest} {k = k} r o q s w =
    let b = bucket_in k.pos in
    let later = open_runs (with_bucket r b) (buckets_of rest) in
    rw (w, s, with-with o (keys_bytes 11 (ended_run r b)) (keys_bytes 11 later), fields-append (key_field 11) (ended_run r b) later) refl

-- the end: the last run is put
pub run-end :
    {ks : List Key} (r : FreedRun) (o q : Output) → ks ≡ [] → q ≡ with_bytes o (encode_field (key_field 11 (freed_key r)))
    → q ≡ with_bytes o (keys_bytes 11 (open_runs r (buckets_of ks)))
unfolding open_runs
run-end r o q s w = rw (s, encode_one) w

-- a run that a bucket joins is not put, and another is
pub joined-run : (r : FreedRun) (b : Bucket) → same_bucket r.end b ≡ true → keys_bytes 11 (ended_run r b) ≡ []
joined-run r b e = rw e encode-none

pub ended-alone : (r : FreedRun) (b : Bucket) → same_bucket r.end b ≡ false → encode_field (key_field 11 (freed_key r)) ≡ keys_bytes 11 (ended_run r b)
ended-alone r b e = rw e (sym (encode_one _))

-- of no key there is no run
pub runs-none : {ks : List Key} → ks ≡ [] → keys_bytes 11 (map run_key (joined_runs (buckets_of ks))) ≡ []
unfolding joined_runs
runs-none e = rw e encode-none

-- the next bucket's number fits, where the bucket of a key is within the limit
pub bucket-fits : {k : Key} {b : Bucket} → DiscardedKept k → b ≡ bucket_in k.pos → b.0 < 4294967296
bucket-fits {k} h e = rw e (omega (arith, ltb-true (bucket_in k.pos).0 65536 h.below))
