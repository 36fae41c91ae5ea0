-- Fields and keys of bytes: what is written is bytes, and what is read of bytes fits.
use mathlib.Core.Path.{◌≡◌, ap, sym, ◌∙◌}
use mathlib.Core.Bool.{Bool, true, false, cond}
use mathlib.Core.List.{List, [], ◌∷◌, append-nil}
use Prim.Native.Nat.{ℕ, zero, suc, ◌+◌, ◌^◌, ◌<◌, ◌≤◌}
use native.Mathlib.Omega.{arith}
use lib.Dec.{leb}
use lib.ListN.{length, take, length-drop}
use Rattle.wire.specs.Numbers.{le, le_bytes, each}
use Rattle.wire.specs.Fields.{Field, fields_after}
use Rattle.wire.specs.Keys.{Key, key_of}
use Rattle.wire.specs.Encode.{head_bytes, encode_field, encode, pos_bytes, key_start, key_body}
use Rattle.wire.specs.Bytes.{All, none, more, Bytes}
use Rattle.wire.proofs.NumberLaws.{all_append, all_take, all_drop, bytes_le, le-bound, le-le_bytes}
use Rattle.wire.proofs.RoundTrip.{KeyFits}

-- a number of n bytes is read back
pub number-back : (n x : ℕ) → x < 256 ^ n → le n (le_bytes n x) ≡ x
number-back n x h = ap (le n) (sym (append-nil (le_bytes n x))) ∙ le-le_bytes n x [] h

-- fields

pub encode-bytes : {fs : List Field} → All (λ f. Bytes f.body) fs → Bytes (encode fs)
unfolding encode each encode_field head_bytes
encode-bytes none = none
encode-bytes (more {a = f} h r) =
    all_append (all_append (all_append (bytes_le 1 f.tag) (bytes_le 2 (length f.body))) h) (encode-bytes r)

pub fields-bytes : (k : ℕ) {s : List ℕ} → Bytes s → All (λ f. Bytes f.body) (fields_after k s)
unfolding fields_after
fields-bytes zero none = none
fields-bytes zero (more h none) = none
fields-bytes zero (more h (more i none)) = none
fields-bytes zero (more {a = t} h (more {a = lo} i (more {a = hi} {s} j r))) = go (leb n (length s)) (fields-bytes n r)
  where
    n : ℕ
    n = le 2 (lo ∷ hi ∷ s)

    go : (q : Bool) → All (λ f. Bytes f.body) (fields_after n s)
        → All (λ f. Bytes f.body) (cond q (record { tag = t; body = take n s } ∷ fields_after n s) [])
    go true u = more (all_take n r) u
    go false u = none
fields-bytes (suc k) none = none
fields-bytes (suc k) (more h r) = fields-bytes k r

-- keys

-- a key that a field holds whole: its numbers fit their bytes, and its value is up to 256 bytes
pub record Storable (k : Key) : Type 0 where
  pub fits : KeyFits k
  pub short : length k.value ≤ 256
  pub bytes : Bytes k.value

pub key-length : (k : Key) → length (key_body k) ≡ 37 + length k.value
unfolding key_body key_start pos_bytes le_bytes
key-length k = omega arith

pub key-bytes : (k : Key) → Bytes k.value → Bytes (key_body k)
unfolding key_body key_start pos_bytes
key-bytes k h =
    all_append
    (all_append
    (all_append
    (all_append (all_append (bytes_le 1 k.type) (bytes_le 4 k.size)) (bytes_le 4 k.version_hi))
    (bytes_le 8 k.version_lo))
    (all_append (all_append (bytes_le 8 k.pos.inode) (bytes_le 8 k.pos.offset)) (bytes_le 4 k.pos.snapshot))) h

pub key-storable : {b : List ℕ} → Bytes b → length b ≤ 293 → Storable (key_of b)
key-storable {b} r l =
    record {
      fits =
          record {
            type = le-bound 1 r;
            size = le-bound 4 (all_drop 1 r);
            version_hi = le-bound 4 (all_drop 5 r);
            version_lo = le-bound 8 (all_drop 9 r);
            inode = le-bound 8 (all_drop 17 r);
            offset = le-bound 8 (all_drop 8 (all_drop 17 r));
            snapshot = le-bound 4 (all_drop 16 (all_drop 17 r));
          };
      short = rw length-drop (omega arith);
      bytes = all_drop 37 r;
    }
