use Rattle.std.proofs.Common.{arith, sym, subst, ◌∙◌, List}
use Rattle.wire.specs.Keys.{Key}
use Rattle.wire.specs.Kinds.{buckets_in}
use Rattle.wire.proofs.BucketTables.{table-length}
use Rattle.calls.proofs.answers.SingleLookups.{gens-ascend}
use Rattle.reader.proofs.PartsLaws.{volume-passed}
use Rattle.gens.specs.Joint.{Looked}
use Rattle.generations.proofs.OutcomeLaws.{too-many-asked, no-room-left, all-looked-up}
use Rattle.generations.proofs.generations.look_up.Goals as goal

pub returns-then-not-within : goal.returns-then-not-within
returns-then-not-within c =
    too-many-asked c.args.read.now.list.now _ c.args.out.now c.requires.1 c.requires.0.passed (sym c.within.ensures ∙ c.if-not-within.true)

pub returns-then-out-buckets : goal.returns-then-out-buckets
returns-then-out-buckets c =
    no-room-left c.args.read.now.list.now _ c.args.out.now c.requires.1 c.requires.0.passed (sym c.within.ensures ∙ c.if-not-within.false)
    (omega (arith, table-length c.args.buckets.now))

pub bucket_gens-requires-clause-keys_value : goal.bucket_gens-requires-clause-keys_value
bucket_gens-requires-clause-keys_value c =
    rw c.requires.0.read.gens.are (gens-ascend _ (volume-passed _ c.requires.0.passed).once)

pub returns : goal.returns
returns c =
    let ns = c.args.buckets.now in
    all-looked-up c.args.read.now.list.now (buckets_in ns) c.args.out.now c.requires.1 c.requires.0.passed (sym c.within.ensures ∙ c.if-not-within.false)
    (omega (arith, table-length ns))
    (subst (λ (ks : List Key). Looked ks (buckets_in ns) c.args.out.now c.bucket_gens.new.out c.bucket_gens.result) c.requires.0.read.gens.are c.bucket_gens.ensures)
