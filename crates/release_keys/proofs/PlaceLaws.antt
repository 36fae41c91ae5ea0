-- Keys at their places.
use mathlib.Core.Path.{◌≡◌, refl, sym, ap, ◌∙◌, subst}
use Prim.Native.Nat.{ℕ}
use mathlib.Core.List.{List, []}
use mathlib.Core.Option.{Option, none, some, none-ne-some, some-injective}
use Rattle.std.proofs.Common.{Some, None, IsSome, rules}
use Rattle.std.proofs.Common as std
use Rattle.wire.specs.Keys.{Key}
use Rattle.calls.specs.Lists.{from_option}
use Rattle.reader.specs.KeyHere.{key_here, Whole}
use Rattle.release_keys.specs.Places.{PlaceOf, key_found, key_placed}

-- a key at a place, or none
pub missing : {s : List ℕ} {o : Option Key} → o ≡ none → PlaceOf s None o
missing e = record { is = sym e; whole = λ at f. absurd (cc) }

pub found : {s : List ℕ} {at : ℕ} {o : Option Key} → Whole s at → o ≡ some (key_here s at) → PlaceOf s (Some at) o
found {s} {at} w e = record { is = sym e; whole = λ b f. let d : at ≡ b = cc in subst (λ (n : ℕ). Whole s n) d w }

pub place-some : {s : List ℕ} {p : std.Option ℕ} {o : Option Key} {at : ℕ} → PlaceOf s p o → p ≡ Some at → o ≡ some (key_here s at)
place-some {s} q e = sym q.is ∙ ap (key_found s) e

pub place_none : {s : List ℕ} {p : std.Option ℕ} {o : Option Key} → PlaceOf s p o → p ≡ None → o ≡ none
place_none {s} q e = sym q.is ∙ ap (key_found s) e

-- a key that is not missing
pub found-key : (s : List ℕ) (p : std.Option ℕ) {k : Key} → key_found s p ≡ some k → (p ≡ None → ⊥) × (key_placed s p ≡ k)
found-key s None {k} e = absurd (none-ne-some k e)
found-key s (Some at) {k} e = (λ z. absurd (cc), some-injective (key_here s at) k e)

pub found-some : (s : List ℕ) (p : std.Option ℕ) → (p ≡ None → ⊥) → key_found s p ≡ some (key_placed s p)
found-some s None h = absurd (h refl)
found-some s (Some at) h = refl

-- its value, or no bytes
pub placed-value : {s : List ℕ} (p : std.Option ℕ) {o : Option Key} → PlaceOf s p o → (key_placed s p).value ≡ from_option [] (λ k. k.value) o
placed-value None q = ap (from_option [] (λ (k : Key). k.value)) q.is
placed-value (Some at) q = ap (from_option [] (λ (k : Key). k.value)) q.is

-- there is a place
pub some-place : (p : std.Option ℕ) → (p ≡ None → ⊥) → IsSome p
some-place None h = absurd (h refl)
some-place (Some at) h = search rules
