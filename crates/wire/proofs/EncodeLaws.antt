-- Lists of bytes and encoded fields, one after the other.
use mathlib.Core.Path.{◌≡◌, refl, sym, ap, ◌∙◌}
use mathlib.Core.List.{List, [], ◌∷◌, ◌++◌, append_assoc, append-nil}
use Prim.Native.Nat.{ℕ, ◌*◌}
use lib.ListN.{length}
use Rattle.wire.specs.Numbers.{each, le_bytes, words_bytes}
use Rattle.wire.specs.Fields.{Field}
use Rattle.wire.specs.Encode.{encode, encode_field}
use Rattle.wire.proofs.NumberLaws.{le-length}
use Rattle.wire.proofs.OutputLaws.{each-length}

pub each_append : {A : Type 0} (f : A → List ℕ) (xs ys : List A) → each f (xs ++ ys) ≡ each f xs ++ each f ys
unfolding each
each_append f [] ys = refl
each_append f (x ∷ xs) ys = ap (λ (l : List ℕ). f x ++ l) (each_append f xs ys) ∙ sym (append_assoc (f x) (each f xs) (each f ys))

pub encode-none : encode [] ≡ []
unfolding encode each
encode-none = refl

pub encode-next : (f : Field) (fs : List Field) → encode (f ∷ fs) ≡ encode_field f ++ encode fs
unfolding encode each
encode-next f fs = refl

pub encode-append : (fs gs : List Field) → encode (fs ++ gs) ≡ encode fs ++ encode gs
unfolding encode
encode-append fs gs = each_append encode_field fs gs

pub encode_one : (f : Field) → encode (f ∷ []) ≡ encode_field f
encode_one f = encode-next f [] ∙ ap (λ (l : List ℕ). encode_field f ++ l) encode-none ∙ append-nil (encode_field f)

pub words_count : (w : List ℕ) → length (words_bytes w) ≡ length w * 8
unfolding words_bytes
words_count w = each-length 8 (le_bytes 8) (le-length 8) w
