-- A key at a place of a list: each part at its own place, and the keys at the places that the reader gives.
use mathlib.Core.Path.{◌≡◌, ap, sym, ◌∙◌}
use mathlib.Core.List.{List, ◌∷◌}
use Prim.Native.Nat.{ℕ, ◌+◌, ◌-◌, ◌<◌}
use native.Mathlib.Omega.{arith}
use lib.ListN.{length, drop, get_or}
use Rattle.wire.specs.Keys.{Key, pos_of}
use Rattle.wire.proofs.KeyLaws.{key_at, key-at, value-length}
use Rattle.wire.proofs.OutputLaws.{drop-next}
use Rattle.reader.specs.KeyHere.{body_len, key_here, Whole}
use Rattle.reader.specs.Located.{no_key, KeysAt}

module _ (s : List ℕ) (at : ℕ) (w : Whole s at) where
  -- each part read at its own place
  pub here-at : key_here s at ≡ key_at s at (body_len s at)
  unfolding key_here
  here-at = key-at s at (body_len s at) w.long

  pub pos-here : pos_of (drop (at + 17) s) ≡ (key_here s at).pos
  pos-here = sym (ap (λ (k : Key). k.pos) here-at)

  pub value-length-here : length (key_here s at).value ≡ body_len s at - 37
  unfolding key_here
  value-length-here = value-length s at (body_len s at) w.within

-- a key's parts, each at its own place
pub ruleset key_parts = (here-at, pos-here, value-length-here)

-- the key at the place with an index, and those after it
module _ {s places : List ℕ} {ks : List Key} (f : KeysAt s places ks) (i : ℕ) (h : i < length places) where
  pub keys-next : drop i ks ≡ key_here s (get_or places i 0) ∷ drop (i + 1) ks
  keys-next =
      drop-next no_key ks i (omega (arith, f.count)) ∙ ap (λ (k : Key). k ∷ drop (i + 1) ks) (sym (f.at i h).is)
