-- The keys that stand at places of a list, as clauses see them, and a step along them.
use Rattle.std.specs.Prelude.{ℕ, ◌-◌, ◌≡◌, ◌≤◌, ◌<◌, List, [], ◌∷◌, ◌++◌, Option, Some, None, length, get_or}
use Rattle.wire.specs.Keys.{Key}
use Rattle.reader.specs.KeyHere.{key_here, keys_here}
use Rattle.reader.specs.declared.key.ListedKey.{ListedKey}
use Rattle.reader.specs.declared.listed_keys.Keys.{Keys}
use Rattle.reader.specs.declared.listed_keys.KeysLeft.{KeysLeft}

-- a key at its place
abbrev pub key_listed : ListedKey → Key
key_listed k = key_here k.list.now k.at

-- the keys at their places
abbrev pub keys_listed : Keys → List Key
keys_listed ks = keys_here ks.list.now ks.places.now

-- those that are left
abbrev pub keys_left : KeysLeft → List Key
keys_left l = keys_listed l.keys

-- a key is that with an index, at a place of four bytes
pub record KeyOf (ks : Keys) (i : ℕ) (k : ListedKey) : Type 0 where
  pub list : k.list.now ≡ ks.list.now
  pub at : k.at ≡ get_or ks.places.now i 0
  pub fits : k.at ≤ 0xffff_ffff

-- the key with an index, or none where there are not so many
abbrev pub KeyGot : Keys → ℕ → Option ListedKey → Type 0
KeyGot ks i (Some k) = (i < length ks.places.now) × KeyOf ks i k
KeyGot ks i None = length ks.places.now ≤ i

-- the last key, or none where there is none
abbrev pub KeyLast : Keys → Option ListedKey → Type 0
KeyLast ks (Some k) = (0 < length ks.places.now) × KeyOf ks (length ks.places.now - 1) k
KeyLast ks None = ks.places.now ≡ []

-- a key is the first of those that are left, at the first of their places, of four bytes, and the others are left after it
pub record KeyTaken (before : KeysLeft) (k : ListedKey) (after : KeysLeft) : Type 0 where
  pub keys : keys_left before ≡ key_listed k ∷ keys_left after
  pub places : before.keys.places.now ≡ k.at ∷ after.keys.places.now
  pub fits : k.at ≤ 0xffff_ffff
  pub list : k.list.now ≡ before.keys.list.now
  pub same : after.keys.list.now ≡ before.keys.list.now

-- a step: the first key, or none is left
abbrev pub KeyStepped : KeysLeft → Option ListedKey → KeysLeft → Type 0
KeyStepped before (Some k) after = KeyTaken before k after
KeyStepped before None after = keys_left before ≡ []

-- a key is the last of those that are left, at a place of four bytes, and the others are left before it
pub record KeyTakenBack (before : KeysLeft) (k : ListedKey) (after : KeysLeft) : Type 0 where
  pub places : before.keys.places.now ≡ after.keys.places.now ++ (k.at ∷ [])
  pub fits : k.at ≤ 0xffff_ffff
  pub list : k.list.now ≡ before.keys.list.now
  pub same : after.keys.list.now ≡ before.keys.list.now

-- a step from the back: the last key, or none is left
abbrev pub KeySteppedBack : KeysLeft → Option ListedKey → KeysLeft → Type 0
KeySteppedBack before (Some k) after = KeyTakenBack before k after
KeySteppedBack before None after = before.keys.places.now ≡ []
