-- In every history the lookup of generations tells, of a bucket in use, the generation that its live pieces carry.
use mathlib.Core.Path.{◌≡◌, ap, ◌∙◌}
use mathlib.Core.List.{List}
use Prim.Native.Nat.{ℕ, ◌<◌}
use lib.ListN.{length, get_or}
use Rattle.wire.specs.Bytes.{All}
use Rattle.wire.specs.Kinds.{no_bucket, bucket_of}
use Rattle.wire.specs.declared.kinds.Bucket.{Bucket}
use Rattle.calls.specs.Generations.{gen_of}
use Rattle.calls.specs.Answers.{read_volume, generations}
use Rattle.calls.specs.History.{Clean, Live, State, Step, after, History, start, sectors_of}
use Rattle.calls.proofs.lists.AllLaws.{all-imp}
use Rattle.calls.proofs.lists.MapLaws.{map-got}
use Rattle.calls.proofs.answers.SingleLookups.{generations-single}
use Rattle.calls.proofs.history.Demand3.{demand3}

-- the byte at the index of a piece's bucket is the piece's generation
abbrev pub Told : State → List Bucket → List ℕ → Live → Type 0
Told st buckets bytes p =
    (i : ℕ) → i < length buckets → get_or buckets i no_bucket ≡ bucket_of p.first (sectors_of st) → get_or bytes i 0 ≡ p.generation

pub live-generations : (clean : List ℕ) → Clean clean → (steps : List Step) → History (start clean) steps → (buckets : List Bucket) (room : ℕ)
    → let st : State = after (start clean) steps in
    (generations st.volume buckets room).number ≡ 0
    → All (Told st buckets (generations st.volume buckets room).written) st.live
live-generations clean c steps h buckets room a =
    let st : State = after (start clean) steps in
    let gens = (read_volume st.volume).trees.gens in
    let d = demand3 clean c steps h in
    all-imp
    (λ p inside i l e.
    ap (λ (bytes : List ℕ). get_or bytes i 0) (generations-single st.volume buckets room a)
    ∙ map-got (gen_of gens) buckets i no_bucket l
    ∙ ap (gen_of gens) e
    ∙ d.1 (bucket_of p.first (sectors_of st)) p.generation inside.generation)
    d.0.inside
