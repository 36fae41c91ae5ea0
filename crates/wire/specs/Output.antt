-- What an emitter leaves. A byte past the end of the output is left out and counted all the same, so that a run into no room tells the length of what it would write.
use Rattle.std.specs.Prelude.{◌≡◌, ℕ, ◌+◌, ◌-◌, ◌≤◌, min, max, List, length, take}
use Rattle.std.proofs.lemmas.List.Edits.{sets}
use Rattle.wire.specs.declared.output.Output.{Output}

-- xs with the bytes of bs stored from index at on, those past its end left out
unfoldable pub put : List ℕ → ℕ → List ℕ → List ℕ
put xs at bs = sets xs at bs

-- The last place that an output counts to; no slice is as long.
abbrev pub cap : ℕ
cap = 0xffff_ffff_ffff_ffff

-- o after these bytes were put into it from its place on
unfoldable pub with_bytes : Output → List ℕ → Output
with_bytes o bs =
    record {
      bytes = record o.bytes { now = put o.bytes.now o.at (take (cap - o.at) bs) };
      at = max o.at (min (o.at + length bs) cap);
    }

-- No slice is as long as this: what C is told of a place counts up to it, and all past it are alike.
abbrev pub top : ℕ
top = 0x8000_0000_0000_0000

-- what C is told: the n bytes bs were put into xs at index at, which left ys, and r is the place after them
pub record Wrote (xs : List ℕ) (at n : ℕ) (bs ys : List ℕ) (r : ℕ) : Type 0 where
  pub room : length xs ≤ top
  pub next : min r top ≡ min (at + n) top
  pub size : length bs ≡ n
  pub left : ys ≡ put xs at bs
