-- Laws of `with_bytes`, each with no bound: nothing put is nothing changed, and one run after another is one run.
use mathlib.Core.Path.{◌≡◌, refl, sym, ap, ◌∙◌}
use Prim.Native.Nat.{ℕ, ◌+◌, ◌-◌, ◌*◌, ◌/◌, ◌%◌, ◌≤◌, ◌<◌, min, max}
use mathlib.Core.Logic.{inl, inr, ⊎_elim}
use native.Mathlib.Omega.{arith}
use native.Mathlib.Numerals.{add-one}
use borrow.Rule.Slice.PartMut.{put_mid}
use mathlib.Core.List.{List, [], ◌∷◌, ◌++◌, append_assoc}
use Rattle.std.proofs.lemmas.Slice.{take-put_mid, drop-put_mid}
use lib.ListN.{length, length-append, get_or, set, take, drop, drop_of_length-le}
use lib.Seq.{take-append-add, take-suc}
use Rattle.std.proofs.lemmas.List.{take-append-le, take_all, length-take-le, take-append-drop}
use Rattle.wire.specs.declared.output.Output.{Output}
use Rattle.std.specs.Int.{w32, w64, to_le_bytes}
use mir.Val.{of_z}
use lib.IntN.{ℤ}
use Rattle.wire.specs.Numbers.{le_bytes, each}
use Rattle.wire.specs.Rows.{row_body, signed_bytes}
use Rattle.wire.proofs.NumberLaws.{le-length}
use Rattle.wire.specs.Keys.{Key}
use Rattle.wire.specs.Held.{key_with}
use Rattle.wire.specs.declared.keys.KeyHead.{KeyHead}
use Rattle.wire.specs.Encode.{head_bytes, encode_field, pos_bytes, key_start, key_body, key_field}
use Rattle.wire.specs.Output.{put, cap, with_bytes}
use Rattle.std.proofs.lemmas.Bool.{cases_lt}
use Rattle.wire.proofs.OutputLaws.{put-put, put-nil, put-out, put-eq, put-length, drop-next, each-length}

-- an output whose slice holds these bytes, and whose place is this one
abbrev moved : Output → List ℕ → ℕ → Output
moved o xs at = record { bytes = record o.bytes { now = xs }; at = at }

pub with-none : (o : Output) → with_bytes o [] ≡ o
unfolding with_bytes put
with-none o =
    let e : max o.at (min (o.at + 0) cap) ≡ o.at = omega arith in
    ap (λ (bs : List ℕ). moved o (put o.bytes.now o.at bs) (max o.at (min (o.at + 0) cap))) (take_all (cap - o.at) [] (omega arith))
    ∙ ap (moved o o.bytes.now) e

-- what is put past the end of the slice may as well be cut off
pub put-room : (k : ℕ) (xs : List ℕ) (at : ℕ) (bs : List ℕ) → min (length bs) (length xs - at) ≤ k → put xs at (take k bs) ≡ put xs at bs
put-room k xs at bs h =
    ⊎_elim
    (λ (short : length bs ≤ k). ap (put xs at) (take_all k bs short))
    (λ (long : k < length bs).
    let n : length (take k bs) ≡ k = length-take-le k bs (omega arith) in
    sym (put-out (drop k bs) (put xs at (take k bs)) (at + length (take k bs)) (omega (arith, put-length xs at (take k bs))))
    ∙ put-put xs at (take k bs) (drop k bs)
    ∙ ap (put xs at) (take-append-drop k bs))
    (⊎_elim inr inl (cases_lt k (length bs)))

-- one byte more of a list is stored
pub put-next : (xs : List ℕ) (at i : ℕ) (bs : List ℕ) → i < length bs → set (put xs at (take i bs)) (at + i) (get_or bs i 0) ≡ put xs at (take (i + 1) bs)
unfolding put
put-next xs at i bs h =
    let n : length (take i bs) ≡ i = length-take-le i bs (omega arith) in
    rw (add-one, take-suc bs i 0 h)
    (ap (λ (k : ℕ). set (put xs at (take i bs)) (at + k) (get_or bs i 0)) (sym n) ∙ put-put xs at (take i bs) (get_or bs i 0 ∷ []))

-- a part of the slice that is replaced
pub put-mid : (at k : ℕ) (xs ys : List ℕ) → at + k ≤ length xs → length ys ≡ k → put_mid at k xs ys ≡ put xs at ys
put-mid at k xs ys h n =
    let t : take (at + k) (put_mid at k xs ys) ≡ take at xs ++ ys = take-put_mid at k xs ys (at + k) (omega arith) (omega arith) in
    let d : drop (at + k) (put_mid at k xs ys) ≡ drop (at + k) xs = drop-put_mid at k xs ys (at + k) (omega arith) (omega arith) n in
    let p : put xs at ys ≡ take at xs ++ ys ++ drop (at + k) xs = rw (← n) (put-eq ys xs at (omega arith)) in
    sym (take-append-drop (at + k) (put_mid at k xs ys)) ∙ rw (t, d) (sym p)

-- what is stored of one run after another, where the first ends before the cap
stored_within :
    (xs us bs : List ℕ) (at : ℕ) → at + length us ≤ cap
    → put (put xs at (take (cap - at) us)) (max at (min (at + length us) cap)) (take (cap - max at (min (at + length us) cap)) bs)
    ≡ put xs at (take (cap - at) (us ++ bs))
stored_within xs us bs at h =
    let m : max at (min (at + length us) cap) ≡ at + length us = omega arith in
    let k : take (cap - at) us ≡ us = take_all (cap - at) us (omega arith) in
    let n : cap - at ≡ length us + (cap - (at + length us)) = omega arith in
    let t : take (cap - at) (us ++ bs) ≡ us ++ take (cap - (at + length us)) bs =
    ap (λ (i : ℕ). take i (us ++ bs)) n ∙ take-append-add us bs (cap - (at + length us)) in
    rw (m, k, t) (put-put xs at us (take (cap - (at + length us)) bs))

stored_past :
    (xs us bs : List ℕ) (at : ℕ) → cap < at + length us
    → put (put xs at (take (cap - at) us)) (max at (min (at + length us) cap)) (take (cap - max at (min (at + length us) cap)) bs)
    ≡ put xs at (take (cap - at) (us ++ bs))
stored_past xs us bs at h =
    let z : cap - max at (min (at + length us) cap) ≡ 0 = omega arith in
    let t : take (cap - at) (us ++ bs) ≡ take (cap - at) us = take-append-le (cap - at) us bs (omega arith) in
    rw (z, t) (put-nil (put xs at (take (cap - at) us)) (max at (min (at + length us) cap)))

pub with-with : (o : Output) (us bs : List ℕ) → with_bytes (with_bytes o us) bs ≡ with_bytes o (us ++ bs)
unfolding with_bytes
with-with o us bs =
    let s : put (put o.bytes.now o.at (take (cap - o.at) us)) (max o.at (min (o.at + length us) cap)) (take (cap - max o.at (min (o.at + length us) cap)) bs) ≡ put o.bytes.now o.at (take (cap - o.at) (us ++ bs)) =
    ⊎_elim (stored_past o.bytes.now us bs o.at) (stored_within o.bytes.now us bs o.at) (cases_lt cap (o.at + length us)) in
    let n : max (max o.at (min (o.at + length us) cap)) (min (max o.at (min (o.at + length us) cap) + length bs) cap) ≡ max o.at (min (o.at + length (us ++ bs)) cap) =
    simp length-append (omega arith) in
    ap (λ (xs : List ℕ). moved o xs (max (max o.at (min (o.at + length us) cap)) (min (max o.at (min (o.at + length us) cap) + length bs) cap))) s
    ∙ ap (moved o (put o.bytes.now o.at (take (cap - o.at) (us ++ bs)))) n

-- what is put after what was put
pub then : (o : Output) (us bs : List ℕ) {p q : Output} → p ≡ with_bytes o us → q ≡ with_bytes p bs → q ≡ with_bytes o (us ++ bs)
then o us bs e f = rw (f, e) (with-with o us bs)

-- the low two bytes of a number
pub low_16 : (n : ℕ) → le_bytes 2 (n % 65536) ≡ le_bytes 2 n
unfolding le_bytes
low_16 n = let a : n % 65536 % 256 ≡ n % 256 = omega arith in let b : n % 65536 / 256 % 256 ≡ n / 256 % 256 = omega arith in rw (a, b) refl

-- the low four
pub low_32 : (n : ℕ) → le_bytes 4 (n % 4294967296) ≡ le_bytes 4 n
unfolding le_bytes
low_32 n =
    let a : n % 4294967296 % 256 ≡ n % 256 = omega arith in
    let b : n % 4294967296 / 256 % 256 ≡ n / 256 % 256 = omega arith in
    let d : n % 4294967296 / 256 / 256 % 256 ≡ n / 256 / 256 % 256 = omega arith in
    let e : n % 4294967296 / 256 / 256 / 256 % 256 ≡ n / 256 / 256 / 256 % 256 = omega arith in
    rw (a, b, d, e) refl

-- a byte is its low byte
pub low_8 : (n : ℕ) → n < 256 → le_bytes 1 n ≡ n ∷ []
unfolding le_bytes
low_8 n h = let a : n % 256 ≡ n = omega arith in rw a refl

-- the bytes of a number as `to_le_bytes` has them
pub bytes_32 : (n : ℕ) → to_le_bytes w32 n ≡ le_bytes 4 n
unfolding le_bytes
bytes_32 n =
    let a : n / 256 / 256 ≡ n / 65536 = omega arith in
    let b : n / 65536 / 256 ≡ n / 16777216 = omega arith in
    rw (a, b) refl

pub bytes_64 : (n : ℕ) → to_le_bytes w64 n ≡ le_bytes 8 n
unfolding le_bytes
bytes_64 n =
    let a : n / 256 / 256 ≡ n / 65536 = omega arith in
    let b : n / 65536 / 256 ≡ n / 16777216 = omega arith in
    let d : n / 16777216 / 256 ≡ n / 4294967296 = omega arith in
    let e : n / 4294967296 / 256 ≡ n / 1099511627776 = omega arith in
    let f : n / 1099511627776 / 256 ≡ n / 281474976710656 = omega arith in
    let g : n / 281474976710656 / 256 ≡ n / 72057594037927936 = omega arith in
    rw (a, b, d, e, f, g) refl

-- A loop that puts the bytes B of a list, an element at a time. A turn: of what is left, an element's bytes are put.
pub loop-turn :
    {A : Type 0} (B : List A → List ℕ) (xs : List A) (i : ℕ) (d : A) (bs : List ℕ) (p r : Output) → i < length xs
    → B (get_or xs i d ∷ drop (i + 1) xs) ≡ bs ++ B (drop (i + 1) xs) → r ≡ with_bytes p bs
    → with_bytes r (B (drop (i + 1) xs)) ≡ with_bytes p (B (drop i xs))
loop-turn B xs i d bs p r h e w =
    ap (λ (q : Output). with_bytes q (B (drop (i + 1) xs))) w ∙ with-with p bs (B (drop (i + 1) xs))
    ∙ ap (with_bytes p) (sym e) ∙ ap (λ l. with_bytes p (B l)) (sym (drop-next d xs i h))

-- the end: nothing is left
pub loop-end :
    {A : Type 0} (B : List A → List ℕ) (xs : List A) (i : ℕ) (p : Output) → length xs ≤ i → B [] ≡ []
    → with_bytes p (B (drop i xs)) ≡ p
loop-end B xs i p h e = ap (λ l. with_bytes p (B l)) (drop_of_length-le xs h) ∙ ap (with_bytes p) e ∙ with-none p

-- the bytes before a key's value
pub start-length : (k : Key) → length (key_start k) ≡ 37
unfolding key_start pos_bytes le_bytes
start-length k = refl

-- a field by its parts
pub field-is : (tag : ℕ) (body : List ℕ) → encode_field (record { tag = tag; body = body }) ≡ head_bytes tag (length body) ++ body
unfolding encode_field
field-is tag body = refl

-- what stands before a value does not depend on it
start-same : (h : KeyHead) (v : List ℕ) → key_start (key_with h v) ≡ key_start (key_with h [])
unfolding key_start
start-same h v = refl

-- a key as a field by its parts
pub key-parts :
    (tree : ℕ) (h : KeyHead) (v : List ℕ)
    → encode_field (key_field tree (key_with h v)) ≡ head_bytes tree (37 + length v) ++ (key_start (key_with h []) ++ v)
unfolding encode_field key_body
key-parts tree h v =
    let n : length (key_start (key_with h v) ++ v) ≡ 37 + length v = length-append (key_start (key_with h v)) v ∙ ap (λ (k : ℕ). k + length v) (start-length (key_with h v)) in
    rw (n, start-same h v) refl

-- how long the body of a row is
pub row-size : (inode offset : ℕ) (ns : List ℤ) → 16 + 8 * length ns ≡ length (row_body (record { inode = inode; offset = offset; numbers = ns }))
unfolding row_body signed_bytes
row-size inode offset ns =
    omega (
      arith,
      length-append (le_bytes 8 inode ++ le_bytes 8 offset) (each signed_bytes ns),
      length-append (le_bytes 8 inode) (le_bytes 8 offset),
      le-length 8 inode,
      le-length 8 offset,
      each-length 8 signed_bytes (λ z. le-length 8 (of_z w64 z)) ns,
    )

-- what an emitter of one part after another puts, and the bytes of a number
pub ruleset emitted = (with-with, append_assoc, low_8, low_16, low_32, bytes_32, bytes_64)
