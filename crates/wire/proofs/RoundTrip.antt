-- What is written is read back, and what is read is written again: fields and keys.
use Prim.Native.Nat.{ℕ, zero, suc, ◌+◌, ◌-◌, ◌^◌, ◌%◌, ◌/◌, ◌<◌, ◌≤◌}
use mathlib.Core.Path.{◌≡◌, refl, sym, ap, ◌∙◌}
use mathlib.Core.List.{List, [], ◌∷◌, ◌++◌}
use mathlib.Core.Bool.{Bool, true, false, cond}
use lib.ListN.{length, take, drop, replicate, length-append, length-drop, take-append-drop}
use lib.Seq.{take-append_seam, drop-append_seam, take-add, length-take-le}
use lib.Dec.{leb}
use borrow.Author.Tests.{le-leb, leb-true, eq-eqb, eqb-true}
use native.Mathlib.Omega.{arith}
use Rattle.wire.specs.Numbers.{le, le_bytes, each}
use Rattle.wire.specs.Fields.{Field, fields_after, fields, size, whole}
use Rattle.wire.specs.Keys.{Key, pos_of, key_of, key_sized, is_key, keys}
use Rattle.wire.specs.Encode.{head_bytes, encode_field, encode, pos_bytes, key_start, key_body, key_field}
use Rattle.wire.specs.Bytes.{All, none, more, Bytes}
use Rattle.wire.proofs.NumberLaws.{all_drop, le-le_bytes, le_bytes-le, le-length}
use Rattle.wire.proofs.FieldLaws.{skip}
use Rattle.wire.proofs.KeyLaws.{key-equal}
use Rattle.wire.proofs.OrderLaws.{pos-equal}

-- fields

-- a field that a tag of one byte and a length of two can tell
pub record FieldFits (f : Field) : Type 0 where
  pub tag : f.tag < 256
  pub short : length f.body < 65536

-- a field that was written is read, and the rest after it
pub field_back : (f : Field) (s : List ℕ) → FieldFits f → fields (encode_field f ++ s) ≡ f ∷ fields s
unfolding fields_after encode_field head_bytes le_bytes
field_back f s h =
    let n : ℕ = length f.body in
    let t : f.tag % 256 ≡ f.tag = omega (arith, h.tag) in
    let e : le 2 (n % 256 ∷ n / 256 % 256 ∷ f.body ++ s) ≡ n = le-le_bytes 2 n (f.body ++ s) h.short in
    simp (
      t,
      e,
      le-leb n (length (f.body ++ s)) (omega (arith, length-append f.body s)),
      skip n (f.body ++ s),
      drop-append_seam f.body s,
      take-append_seam f.body s,
    )

pub fields_back : {fs : List Field} → All FieldFits fs → fields (encode fs) ≡ fs
unfolding encode each fields_after
fields_back none = refl
fields_back (more {a = f} {s = fs} h r) = field_back f (encode fs) h ∙ ap (λ (l : List Field). f ∷ l) (fields_back r)

pub encode-size : (fs : List Field) → length (encode fs) ≡ size fs
unfolding encode each encode_field head_bytes size
encode-size [] = refl
encode-size (f ∷ fs) = simp (length-append, le-length, encode-size fs)

pub whole_back : {fs : List Field} → All FieldFits fs → whole (encode fs) ≡ true
unfolding whole
whole_back {fs} r = eq-eqb _ _ (ap size (fields_back r) ∙ sym (encode-size fs))

head-again : {t lo hi : ℕ} {s : List ℕ} → Bytes (t ∷ lo ∷ hi ∷ s) → head_bytes t (le 2 (lo ∷ hi ∷ s)) ≡ t ∷ lo ∷ hi ∷ []
unfolding head_bytes le_bytes
head-again {t} (more h r) =
    let e : t % 256 ≡ t = omega arith in
    rw e (ap (λ (l : List ℕ). t ∷ l) (le_bytes-le 2 r (omega arith)))

-- the fields after the first k bytes of a list are written again, the way `fields_after` goes
again-after : (k : ℕ) {s : List ℕ} → Bytes s → k + size (fields_after k s) ≡ length s → encode (fields_after k s) ≡ drop k s
unfolding encode each encode_field fields_after size
again-after zero none e = refl
again-after zero (more h none) e = absurd (omega arith)
again-after zero (more h (more i none)) e = absurd (omega arith)
again-after zero (more {a = t} h (more {a = lo} i (more {a = hi} {s} j r))) e = go (leb n (length s)) refl e (again-after n r)
  where
    n : ℕ
    n = le 2 (lo ∷ hi ∷ s)

    go :
        (q : Bool) → leb n (length s) ≡ q
        → 0 + size (cond q (record { tag = t; body = take n s } ∷ fields_after n s) []) ≡ length (t ∷ lo ∷ hi ∷ s)
        → (n + size (fields_after n s) ≡ length s → encode (fields_after n s) ≡ drop n s)
        → encode (cond q (record { tag = t; body = take n s } ∷ fields_after n s) []) ≡ t ∷ lo ∷ hi ∷ s
    go false q e f = absurd (omega arith)
    go true q e f =
        let m : length (take n s) ≡ n = length-take-le n s (leb-true n (length s) q) in
        simp (m, head-again (more h (more i (more j r))), f (omega (arith, m)), take-append-drop n s)
again-after (suc k) none e = absurd (omega arith)
again-after (suc k) (more h r) e = again-after k r (omega arith)

-- a whole list is the fields that were read of it
pub bytes-again : {s : List ℕ} → Bytes s → whole s ≡ true → encode (fields s) ≡ s
unfolding whole
bytes-again {s} r w = again-after 0 r (omega (arith, eqb-true (size (fields s)) (length s) w))

-- keys

-- a key whose numbers fit their bytes
pub record KeyFits (k : Key) : Type 0 where
  pub type : k.type < 2 ^ 8
  pub size : k.size < 2 ^ 32
  pub version_hi : k.version_hi < 2 ^ 32
  pub version_lo : k.version_lo < 2 ^ 64
  pub inode : k.pos.inode < 2 ^ 64
  pub offset : k.pos.offset < 2 ^ 64
  pub snapshot : k.pos.snapshot < 2 ^ 32

-- a key that was written is read
pub key_back : (k : Key) → KeyFits k → key_of (key_body k) ≡ k
unfolding key_body key_start pos_bytes le_bytes
key_back k h =
    key-equal
    (key_of (key_body k))
    k
    (le-le_bytes 1 k.type _ h.type)
    (le-le_bytes 4 k.size _ h.size)
    (le-le_bytes 4 k.version_hi _ h.version_hi)
    (le-le_bytes 8 k.version_lo _ h.version_lo)
    (pos-equal
    (pos_of (drop 17 (key_body k)))
    k.pos
    (le-le_bytes 8 k.pos.inode _ h.inode)
    (le-le_bytes 8 k.pos.offset _ h.offset)
    (le-le_bytes 4 k.pos.snapshot _ h.snapshot))
    refl

-- the n bytes after the first k, read and written again
pub next-again : {b : List ℕ} → Bytes b → (k n : ℕ) → k + n ≤ length b → take k b ++ le_bytes n (le n (drop k b)) ≡ take (k + n) b
next-again {b} r k n l = rw (le_bytes-le n (all_drop k r) (simp length-drop (omega arith)), take-add k n b)

pos-again : {b : List ℕ} → Bytes b → 20 ≤ length b → pos_bytes (pos_of b) ≡ take 20 b
unfolding pos_bytes
pos-again r l = rw (next-again r 0 8 (omega arith), next-again r 8 8 (omega arith), next-again r 16 4 l)

-- a body is the key that was read of it
pub body-again : {b : List ℕ} → Bytes b → 37 ≤ length b → key_body (key_of b) ≡ b
unfolding key_body key_start
body-again {b} r l =
    rw (
      next-again r 0 1 (omega arith),
      next-again r 1 4 (omega arith),
      next-again r 5 4 (omega arith),
      next-again r 9 8 (omega arith),
      pos-again (all_drop 17 r) (simp length-drop (omega arith)),
      ← take-add 17 20 b,
      take-append-drop,
    )

-- examples: the shortest body and the longest

example-key : List ℕ → Key
example-key v =
    record {
      type = 27;
      size = 8;
      version_hi = 1;
      version_lo = 2 ^ 40;
      pos = record { inode = 4096; offset = 2 ^ 63; snapshot = 2 ^ 32 - 1 };
      value = v;
    }

bytes_of : List ℕ → List ℕ
bytes_of v = encode_field (key_field 4 (example-key v))

empty-length : length (bytes_of []) ≡ 3 + 37
unfolding bytes_of example-key encode_field head_bytes le_bytes key_body key_start pos_bytes
empty-length = refl

empty-field : fields (bytes_of []) ≡ key_field 4 (example-key []) ∷ []
unfolding bytes_of example-key encode_field head_bytes le_bytes key_body key_start pos_bytes fields_after le
empty-field = refl

empty-key : keys 4 (fields (bytes_of [])) ≡ example-key [] ∷ []
unfolding bytes_of example-key encode_field head_bytes le_bytes key_body key_start pos_bytes fields_after le keys is_key key_sized
empty-key = refl

longest-length : length (bytes_of (replicate 256 7)) ≡ 3 + 293
unfolding bytes_of example-key encode_field head_bytes le_bytes key_body key_start pos_bytes
longest-length = refl

longest-field : fields (bytes_of (replicate 256 7)) ≡ key_field 4 (example-key (replicate 256 7)) ∷ []
unfolding bytes_of example-key encode_field head_bytes le_bytes key_body key_start pos_bytes fields_after le
longest-field = refl

longest-key : keys 4 (fields (bytes_of (replicate 256 7))) ≡ example-key (replicate 256 7) ∷ []
unfolding bytes_of example-key encode_field head_bytes le_bytes key_body key_start pos_bytes fields_after le keys is_key key_sized
longest-key = refl
