-- A value of the right length is read, changed and put back; any other is left. The words of a struct are put at the front of a slice.
use mathlib.Core.Path.{◌≡◌, refl, ap}
use Prim.Native.Nat.{ℕ, ◌-◌, ◌*◌, ◌≤◌}
use native.Mathlib.Omega.{arith}
use mathlib.Core.Bool.{Bool, true, false, ◌&&◌, cond}
use mathlib.Core.List.{List}
use Rattle.std.proofs.Common.{Some, None}
use lib.Dec.{leb}
use lib.ListN.{length, take}
use Rattle.std.proofs.lemmas.List.{take_all}
use Rattle.wire.specs.Numbers.{words_bytes}
use Rattle.wire.specs.Output.{cap, top, Wrote, with_bytes}
use Rattle.wire.specs.declared.output.Output.{Output}
use Rattle.wire.proofs.EncodeLaws.{words_count}
use Rattle.format_c.specs.Sized.{where_sized}

-- a value that is read is the whole slice
pub whole : (t : Bool) {v s : List ℕ} → Some v ≡ cond t (Some s) None → v ≡ s
whole true e = cc
whole false e = cc

module _ (lo hi : ℕ) (f : List ℕ → List ℕ) (s : List ℕ) where
  pub changed : (v : List ℕ) → Some v ≡ cond (leb lo (length s) && leb (length s) hi) (Some s) None → f v ≡ where_sized lo hi f s
  unfolding where_sized
  changed v = go (leb lo (length s) && leb (length s) hi)
    where
      go : (t : Bool) → Some v ≡ cond t (Some s) None → f v ≡ cond t (f s) s
      go true e = let h : v ≡ s = cc in ap f h
      go false e = cc

  pub left_alone : cond (leb lo (length s) && leb (length s) hi) (Some s) None ≡ None → s ≡ where_sized lo hi f s
  unfolding where_sized
  left_alone = go (leb lo (length s) && leb (length s) hi)
    where
      go : (t : Bool) → cond t (Some s) None ≡ None → s ≡ cond t (f s) s
      go true e = cc
      go false e = refl

-- what is put into an output from its front, as an emitter of a struct promises it
pub wrote_front :
    (o : Output) (ws : List ℕ) → o.at ≡ 0 → length o.bytes.now ≤ top → length ws ≤ 8
    → Wrote o.bytes.now 0 (8 * length ws) (words_bytes ws) (with_bytes o (words_bytes ws)).bytes.now (with_bytes o (words_bytes ws)).at
unfolding with_bytes
wrote_front o ws h r l =
    let n : length (words_bytes ws) ≡ 8 * length ws = omega (arith, words_count ws) in
    let t : take (cap - o.at) (words_bytes ws) ≡ words_bytes ws = take_all (cap - o.at) (words_bytes ws) (omega arith) in
    record { room = r; next = omega arith; size = n; left = rw (t, h) refl }

-- it is the slice that was lent
pub same-slice : (o : Output) (bs : List ℕ) → (with_bytes o bs).bytes.ghost_name ≡ o.bytes.ghost_name
unfolding with_bytes
same-slice o bs = refl
