-- The fields of a list, one after the other.
use mathlib.Core.Path.{◌≡◌, ap, ◌∙◌}
use mathlib.Core.List.{List, [], ◌∷◌, ◌++◌, map, flat_map, map-append}
use Rattle.wire.specs.Fields.{Field}
use Rattle.wire.specs.Encode.{encode, encode_field}
use Rattle.wire.proofs.EncodeLaws.{encode-none, encode-next, encode-append}

module _ {A : Type 0} (f : A → Field) where
  -- the fields of a list from an element on
  pub fields-next : {l : List A} {x : A} {rest : List A} → l ≡ x ∷ rest → encode (map f l) ≡ encode_field (f x) ++ encode (map f rest)
  fields-next {x = x} {rest = rest} e = ap (λ l. encode (map f l)) e ∙ encode-next (f x) (map f rest)

  pub fields-none : {l : List A} → l ≡ [] → encode (map f l) ≡ []
  fields-none e = ap (λ l. encode (map f l)) e ∙ encode-none

  pub fields-append : (a b : List A) → encode (map f (a ++ b)) ≡ encode (map f a) ++ encode (map f b)
  fields-append a b = ap encode (map-append f a b) ∙ encode-append (map f a) (map f b)

  -- those of a list for each element
  pub flat-next : {B : Type 0} (g : B → List A) {l : List B} {x : B} {rest : List B} → l ≡ x ∷ rest
      → encode (map f (flat_map g l)) ≡ encode (map f (g x)) ++ encode (map f (flat_map g rest))
  unfolding flat_map
  flat-next g {x = x} {rest = rest} e = ap (λ l. encode (map f (flat_map g l))) e ∙ fields-append (g x) (flat_map g rest)

  pub flat-none : {B : Type 0} (g : B → List A) {l : List B} → l ≡ [] → encode (map f (flat_map g l)) ≡ []
  unfolding flat_map
  flat-none g e = fields-none (ap (flat_map g) e)
