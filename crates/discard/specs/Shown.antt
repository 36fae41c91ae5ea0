-- What is shown of alloc keys that are discarded: the bucket and the value of each, and how many they are at most.
use Rattle.std.specs.Prelude.{ℕ, ◌≤◌, ◌<◌, List, length, get_or}
use Rattle.wire.specs.Keys.{Key}
use Rattle.reader.specs.Located.{no_key}
use Rattle.need_discard.specs.Kept.{DiscardedKept}

pub record DiscardShown (ks : List Key) : Type 0 where
  pub at : (i : ℕ) → i < length ks → DiscardedKept (get_or ks i no_key)
  pub few : length ks ≤ 4096
