-- The keys that a freed bucket leaves.
use mathlib.Core.Path.{◌≡◌, sym, ap, ◌∙◌}
use mathlib.Core.Bool.{Bool, true, false, cond}
use mathlib.Core.List.{List, [], ◌++◌, append-nil}
use Prim.Native.Nat.{ℕ, ◌^◌, ◌<◌}
use native.Mathlib.Nat.{div-lt_iff_lt-mul}
use native.Mathlib.Omega.{arith}
use Rattle.wire.specs.Keys.{Key}
use Rattle.wire.specs.Encode.{key_field}
use Rattle.wire.specs.Output.{with_bytes}
use Rattle.wire.specs.declared.output.Output.{Output}
use Rattle.wire.proofs.AppendLaws.{with-none, with-with}
use Rattle.wire.specs.Positions.{need_discard_at}
use Rattle.wire.specs.declared.bpos.Bpos.{Bpos}
use Rattle.wire.specs.declared.kinds.Bucket.{Bucket}
use Rattle.calls.specs.CallList.{Freed}
use Rattle.calls.specs.Lru.{need_discard_key}
use Rattle.calls.specs.Trees.{new_key}
use Rattle.release_sums.proofs.FreedLaws.{FreedWithin}
use Rattle.change_fields.specs.FieldBytes.{keys_bytes}
use Rattle.change_fields.proofs.FieldLists.{fields-append}

-- a sector of a piece that refusal 14 passed
pub sector-low : {sectors : ℕ} {r : Freed} → FreedWithin sectors r → 0 < sectors → sectors < 65536 → r.first.0 < 2 ^ 48
sector-low {sectors} {r} w h l = omega (arith, (div-lt_iff_lt-mul h).0 w.low)

-- ---- keys without a value
pub wait-is : (journal : ℕ) (b : Bucket) (pos : Bpos) → pos ≡ need_discard_at journal b → new_key 25 0 pos [] ≡ need_discard_key journal b
unfolding need_discard_key
wait-is journal b pos e = ap (λ (p : Bpos). new_key 25 0 p []) e

-- ---- LRU keys
module _ (ds ks : List Key) (t : Bool) where
  pub lru-emptied : t ≡ true → keys_bytes 10 (ds ++ cond t [] ks) ≡ keys_bytes 10 ds
  lru-emptied e = rw (e, append-nil ds)

  pub lru-left : t ≡ false → keys_bytes 10 (ds ++ cond t [] ks) ≡ keys_bytes 10 ds ++ keys_bytes 10 ks
  lru-left e = rw e (fields-append (key_field 10) ds ks)

-- ---- runs of bytes
-- the first of some runs is put, and the rest is left
pub run-put : (p : Output) {r : Output} {us : List ℕ} (bs rest : List ℕ) → us ≡ bs ++ rest → r ≡ with_bytes p bs → with_bytes r rest ≡ with_bytes p us
run-put p bs rest e w = ap (λ (q : Output). with_bytes q rest) w ∙ with-with p bs rest ∙ ap (with_bytes p) (sym e)

-- none is left
pub all-put : (p : Output) {rest : List ℕ} → rest ≡ [] → with_bytes p rest ≡ p
all-put p e = ap (with_bytes p) e ∙ with-none p
