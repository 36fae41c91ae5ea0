use Rattle.std.proofs.Common.{rules, ◌≡◌, arith, length, ◌≤◌}
use Rattle.std.proofs.lemmas.List.{length-map}
use Rattle.wire.specs.Positions.{gens_at}
use Rattle.wire.specs.declared.kinds.Bucket.{Bucket}
use Prim.Native.Nat.{ℕ}
use Rattle.reader.specs.KeyHere.{key_here}
use Rattle.reader.specs.ListedKeys.{keys_listed}
use Rattle.reader.specs.Located.{no_key}
use Rattle.reader.specs.declared.listed_keys.Keys.{Keys}
use Rattle.gens.specs.Joint.{keys_up_to}
use Rattle.gens.proofs.JointLaws.{up-to-within, record-kept}
use Rattle.gens.proofs.joint.record_up_to.Goals as goal

-- no more stand up to a position than there are keys
inside : (gens : Keys) (b : Bucket) {k : ℕ} → k ≡ keys_up_to (gens_at b) (keys_listed gens) → k ≤ length gens.places.now
inside gens b e =
    omega (arith, up-to-within (gens_at b) no_key (keys_listed gens), length-map gens.places.now (key_here gens.list.now))

pub up_to-requires : goal.up_to-requires
up_to-requires c = inside c.args.gens c.args.b c.requires.1

pub returns : goal.returns
returns c =
    record-kept c.args.gens c.requires.0 c.args.b c.up_to.result c.requires.1 (inside c.args.gens c.args.b c.requires.1) c.up_to.ensures c.last.result c.filter.result c.last.ensures
    (λ e. rw e at c.filter.ensures)
    (λ x e. let p = rw e at c.filter.ensures in search rules)
