-- FORMAT.md, "Fields": what a field is, by its tag.
use Rattle.std.specs.Prelude.{◌≡◌, ℕ, Result, Ok, Err}
use Rattle.wire.specs.TreeTags.{tree_tag}
use Rattle.wire.specs.declared.trees.Tree.{Tree}
use Rattle.wire.specs.declared.trees.UnknownTree.{UnknownTree}
use Rattle.wire.specs.declared.tags.Tag.{Tag}
use Rattle.wire.specs.declared.tags.UnknownTag.{UnknownTag}
use Rattle.wire.specs.declared.tags.Tag.TheVariants.{Head, Key, Reserved, Piece, Freed, Root, Taken, Spot, Row, Sectors, Unreserved, End}

-- the number of a tag
abbrev pub tag_number : Tag → ℕ
tag_number Head = 1
tag_number (Key t) = tree_tag t
tag_number Reserved = 64
tag_number Piece = 65
tag_number Freed = 66
tag_number Root = 70
tag_number Taken = 71
tag_number Spot = 72
tag_number Row = 73
tag_number Sectors = 74
tag_number Unreserved = 75
tag_number End = 76

-- the tree whose keys have this tag, or none has it
abbrev pub TreeNamed : ℕ → Result Tree UnknownTree → Type 0
TreeNamed n (Ok t) = n ≡ tree_tag t
TreeNamed n (Err e) = (e.0 ≡ n) × ((t : Tree) → n ≡ tree_tag t → ⊥)

-- the tag with this number, or none has it
abbrev pub TagNamed : ℕ → Result Tag UnknownTag → Type 0
TagNamed n (Ok t) = n ≡ tag_number t
TagNamed n (Err e) = (e.0 ≡ n) × ((t : Tag) → n ≡ tag_number t → ⊥)
