-- A member of a struct that stands at a place of a list, or in its front.
use Rattle.std.proofs.Common.{◌≡◌, ℕ, ◌+◌, ◌≤◌, List, take, drop, drop-drop}
use Rattle.wire.specs.Numbers.{le}
use Rattle.wire.proofs.NumberLaws.{le-drop-take}
use Rattle.format.specs.Packing.{Member, get}

-- at a place, as the readers have it
pub get_at : (m : Member) (s : List ℕ) (at : ℕ) → get m (drop at s) ≡ le m.size (drop (at + m.at) s)
unfolding get
get_at m s at = rw drop-drop

-- a member within the first n bytes
pub get_take : (m : Member) (n : ℕ) (s : List ℕ) → m.at + m.size ≤ n → get m (take n s) ≡ le m.size (drop m.at s)
unfolding get
get_take m n s h = le-drop-take m.size m.at n s h
