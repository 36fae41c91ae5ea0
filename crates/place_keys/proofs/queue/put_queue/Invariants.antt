-- The loop's invariant: what is left are the keys from here on, and the last one.
use Rattle.std.proofs.Common.{◌≡◌}
use Rattle.wire.specs.Output.{with_bytes}
use Rattle.reader.specs.ListedKeys.{key_listed, keys_listed, keys_left}
use Rattle.freespace.specs.Walks.{queue_of}
use Rattle.place_keys.proofs.QueueLaws.{queue_bytes, queue_with}
use Rattle.place_keys.proofs.queue.put_queue.Given as goal

abbrev pub invariant-loop-key : goal.invariant-loop-key
invariant-loop-key l =
    with_bytes l.out (queue_bytes (queue_with (keys_left l.key-iterator) (key_listed l.last) l.walked.left))
    ≡ with_bytes l.fn.out (queue_bytes (queue_of l.walked.passed l.walked.left (keys_listed l.runs)))
