-- A walk past the keys that stand before a position.
use Rattle.std.specs.Prelude.{◌≡◌, false, ℕ, ◌<◌, length, get_or, drop}
use Rattle.wire.specs.Order.{pos_less}
use Rattle.wire.specs.declared.bpos.Bpos.{Bpos}
use Rattle.calls.specs.Trees.{lookup}
use Rattle.reader.specs.ListedKeys.{keys_listed}
use Rattle.reader.specs.Located.{no_key}
use Rattle.reader.specs.declared.listed_keys.Keys.{Keys}

-- the rest of some keys: none at p or after it was passed, and the next does not stand before p
pub record KeysSkipped (keys : Keys) (p : Bpos) (rest : Keys) : Type 0 where
  pub list : rest.list.now ≡ keys.list.now
  pub passed : ℕ
  pub is : keys_listed rest ≡ drop passed (keys_listed keys)
  pub same : (q : Bpos) → pos_less q p ≡ false → lookup q (keys_listed rest) ≡ lookup q (keys_listed keys)
  pub stops : 0 < length rest.places.now → pos_less (get_or (keys_listed rest) 0 no_key).pos p ≡ false
