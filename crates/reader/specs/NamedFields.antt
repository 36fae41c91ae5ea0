-- A field by the name of its tag.
use Rattle.std.specs.Prelude.{ℕ, ◌≡◌, Option, Some, None}
use Rattle.wire.specs.Tags.{tag_number}
use Rattle.wire.specs.declared.tags.Tag.{Tag}

-- the tag with a number, or none has it
pub record TagOf (n : ℕ) (tag : Option Tag) : Type 0 where
  pub is : (t : Tag) → tag ≡ Some t → n ≡ tag_number t
  pub none : tag ≡ None → (t : Tag) → n ≡ tag_number t → ⊥
