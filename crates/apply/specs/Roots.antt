-- FORMAT.md, "Apply": 70 sets the bit of a root, and the rest of field 1 is kept.
use Rattle.std.specs.Prelude.{◌≡◌, true, cond, ℕ, List, map, length, eqb}
use Rattle.wire.specs.Numbers.{le}
use Rattle.wire.specs.Fields.{Field, fields}
use Rattle.wire.specs.Encode.{encode_field}
use Rattle.calls.specs.CallList.{Head, head_body, bodies}
use Rattle.calls.specs.Apply.{set_roots, with_roots}
use Rattle.reader.specs.Roots.{is_root, with_root}

-- the roots that fields 70 name
unfoldable pub roots_in : List Field → List ℕ
roots_in fs = map (le 1) (bodies 70 fs)

-- the root bits after a change list
abbrev pub roots_after : List ℕ → ℕ → ℕ
roots_after list roots = set_roots (roots_in (fields list)) roots

-- a field 70 has one byte, which names a root
abbrev pub NamesRoot : Field → Type 0
NamesRoot f = f.tag ≡ 70 → (length f.body ≡ 1) × (is_root (le 1 f.body) ≡ true)

unfoldable pub after_field : ℕ → Field → ℕ
after_field roots f = cond (eqb f.tag 70) (with_root roots (le 1 f.body)) roots

-- field 1 of a volume with other root bits
unfoldable pub front_bytes : Head → ℕ → List ℕ
front_bytes h roots = encode_field (record { tag = 1; body = head_body (with_roots h roots) })
