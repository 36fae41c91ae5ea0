-- FORMAT.md, "Keys": the types of the keys that the calls write.
use Rattle.std.specs.Prelude.{ℕ}
use Rattle.wire.specs.declared.key_types.KeyType.{KeyType}
use Rattle.wire.specs.declared.key_types.KeyType.TheVariants.{Deleted, Extent, Set, AllocV4, Backpointer, BucketGens}

-- the number of a key's type
abbrev pub key_type_number : KeyType → ℕ
key_type_number Deleted = 0
key_type_number Extent = 6
key_type_number Set = 25
key_type_number AllocV4 = 27
key_type_number Backpointer = 28
key_type_number BucketGens = 30
