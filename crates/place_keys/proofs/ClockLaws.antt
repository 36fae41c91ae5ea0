-- The largest clock of some keys.
use mathlib.Core.Path.{◌≡◌, refl, ap, ◌∙◌}
use mathlib.Core.Bool.{Bool, true, false, ◌&&◌, cond}
use mathlib.Core.List.{List, [], ◌∷◌, map}
use Prim.Native.Nat.{ℕ, max}
use native.Mathlib.Omega.{arith}
use lib.Dec.{eqb, leb}
use lib.ListN.{length}
use Rattle.std.proofs.Common.{Some, None}
use Rattle.std.specs.Option.{unwrap_or}
use Rattle.std.specs.List.{filter_map, cons_option, reduce, fold}
use Rattle.wire.specs.Keys.{Key}
use Rattle.format.specs.Packing.{get}
use Rattle.format.specs.AllocV4.{io_time_write}
use Rattle.calls.specs.Lists.{those, largest, is_empty}
use Rattle.calls.specs.Clock.{clocked, clock_of}
use Rattle.place_keys.specs.Times.{time_of}

-- the clocks of the keys that have one
abbrev times : List Key → List ℕ
times ks = map (λ k. get io_time_write k.value) (clocked ks)

times-are : (ks : List Key) → filter_map time_of ks ≡ times ks
unfolding time_of clocked those
times-are [] = refl
times-are (k ∷ ks) = go (eqb k.type 27 && leb 40 (length k.value)) (times-are ks)
  where
    go : (b : Bool) → filter_map time_of ks ≡ times ks → cons_option (cond b (Some (get io_time_write k.value)) None) (filter_map time_of ks) ≡ map (λ j. get io_time_write j.value) (cond b (k ∷ clocked ks) (clocked ks))
    go true ih = ap (λ (l : List ℕ). get io_time_write k.value ∷ l) ih
    go false ih = ih

fold-max : (x : ℕ) (xs : List ℕ) → fold max x xs ≡ max x (largest xs)
unfolding largest
fold-max x [] = omega arith
fold-max x (y ∷ ys) = omega (arith, fold-max (max x y) ys)

-- the largest of them, or 1
pub clock-is : (ks : List Key) → unwrap_or (reduce max (filter_map time_of ks)) 1 ≡ clock_of ks
unfolding clock_of largest
clock-is ks = ap (λ (l : List ℕ). unwrap_or (reduce max l) 1) (times-are ks) ∙ go (clocked ks)
  where
    go : (cs : List Key) → unwrap_or (reduce max (map (λ k. get io_time_write k.value) cs)) 1 ≡ cond (is_empty cs) 1 (largest (map (λ k. get io_time_write k.value) cs))
    go [] = refl
    go (c ∷ cs) = fold-max (get io_time_write c.value) (map (λ k. get io_time_write k.value) cs)
