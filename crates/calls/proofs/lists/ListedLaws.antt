-- What an iterator over a list gives: an element at its place, and what `all` and `any` answer beside `all_of` and `any_of`.
use mathlib.Core.Path.{◌≡◌, refl, ap, sym, subst}
use mathlib.Core.Bool.{Bool, ◌&&◌, ◌||◌}
use mathlib.Core.List.{List, [], ◌∷◌}
use Prim.Native.Nat.{ℕ, ◌<◌}
use lib.ListN.{length, get_or}
use Rattle.std.specs.List.{list_all, list_any}
use Rattle.wire.specs.Bytes.{All}
use Rattle.calls.specs.Lists.{all_of, any_of}
use Rattle.calls.proofs.lists.AllLaws.{all-nth}

module _ {A : Type 0} (t : A → Bool) where
  pub all-listed : (l : List A) → list_all t l ≡ all_of t l
  unfolding all_of
  all-listed [] = refl
  all-listed (x ∷ l) = ap (λ (b : Bool). t x && b) (all-listed l)

  pub any-listed : (l : List A) → list_any t l ≡ any_of t l
  unfolding any_of
  any-listed [] = refl
  any-listed (x ∷ l) = ap (λ (b : Bool). t x || b) (any-listed l)

-- what holds of each element holds of the one at a place
pub all-place : {A : Type 0} {P : A → Type 0} {l : List A} → All P l → (k : ℕ) (x : A) → k < length l → x ≡ get_or l k x → P x
all-place {P = P} h k x i e = subst P (sym e) (all-nth x h k i)
