-- Laws of a list in an array that is longer.
use mathlib.Core.Path.{◌≡◌, refl, sym, ap, ◌∙◌}
use Prim.Native.Nat.{ℕ, suc, ◌+◌, ◌-◌, ◌≤◌}
use native.Mathlib.Omega.{arith}
use mathlib.Core.List.{List, [], ◌∷◌, ◌++◌}
use lib.ListN.{length, length-append, length-set, set, take, drop, replicate}
use lib.Seq.{sets, take-append_seam}
use Rattle.std.proofs.lemmas.List.{length-take-le, drop-replicate, set-append_left}
use Rattle.wire.specs.Filled.{filled, Filled}
use Rattle.wire.specs.Output.{put}
use Rattle.wire.proofs.OutputLaws.{put-take, put-length}

-- a list at the front of zeros
pub filled-front : (n : ℕ) (xs : List ℕ) → length xs ≤ n → Filled n (length xs) (xs ++ drop (length xs) (replicate n 0))
filled-front n xs most =
    record {
      most = most;
      within = omega (arith, length-append xs (drop (length xs) (replicate n 0)));
      is =
          ap (filled n) (take-append_seam xs (drop (length xs) (replicate n 0)))
          ∙ ap (λ (l : List ℕ). xs ++ l) (sym (drop-replicate (length xs) n 0));
    }

-- what is put into the first of two lists is not put into the second
put-front : (xs ys : List ℕ) (at : ℕ) (bs : List ℕ) → at + length bs ≤ length xs → put (xs ++ ys) at bs ≡ put xs at bs ++ ys
unfolding put
put-front xs ys at [] h = refl
put-front xs ys at (b ∷ bs) h =
    ap (λ (l : List ℕ). sets l (suc at) bs) (set-append_left xs ys at b (omega arith))
    ∙ put-front (set xs at b) ys (suc at) bs (omega (arith, length-set xs at b))

-- what is put into the list that an array holds
pub filled-put : {n k : ℕ} {xs : List ℕ} (at : ℕ) (bs : List ℕ) → at + length bs ≤ k → Filled n k xs → Filled n k (put xs at bs)
filled-put {n = n} {k = k} {xs = xs} at bs h f =
    let t : length (take k xs) ≡ k = length-take-le k xs f.within in
    let p : put xs at bs ≡ put (take k xs) at bs ++ replicate (n - length (take k xs)) 0 =
    ap (λ (l : List ℕ). put l at bs) (sym f.is) ∙ put-front (take k xs) (replicate (n - length (take k xs)) 0) at bs (omega arith) in
    let m : length (put (take k xs) at bs) ≡ length (take k xs) = put-length (take k xs) at bs in
    record {
      most = f.most;
      within = omega (arith, f.within, put-length xs at bs);
      is = rw (put-take k xs at bs, m) (sym p);
    }
