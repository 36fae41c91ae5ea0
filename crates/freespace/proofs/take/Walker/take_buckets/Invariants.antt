use Rattle.std.proofs.Common.{◌≡◌, drop}
use Rattle.calls.specs.Freespace.{is_in, is_used, runs_of, walk}
use Rattle.reader.specs.ListedKeys.{keys_listed, keys_left}
use Rattle.reader.specs.ListedBuckets.{buckets_listed}
use Rattle.freespace.proofs.TakeLaws.{RunWalking}
use Rattle.freespace.proofs.take.Walker.take_buckets.Given as goal

abbrev pub invariant-loop-key : goal.invariant-loop-key
invariant-loop-key l =
    let r = l.self.read.now in
    let reserved = is_in (buckets_listed r.reserved) in
    let used = is_used (keys_listed r.alloc) in
    let ks = keys_listed r.freespace in
    record {
      walking : RunWalking reserved used ks (walk reserved used l.self.wanted (runs_of ks)) l.self.wanted l.fn.taken l.taken l.w;
      rest : drop l.w.passed ks ≡ keys_left l.key-iterator;
    }
