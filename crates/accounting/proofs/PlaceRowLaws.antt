-- Laws of the rows of a placement.
use mathlib.Core.Path.{◌≡◌, sym, ap, ◌∙◌}
use mathlib.Core.List.{List, [], ◌∷◌, ◌++◌, map}
use Prim.Native.Nat.{ℕ, ◌≤◌, ◌<◌, ◌+◌, ◌*◌}
use native.Mathlib.Omega.{arith}
use lib.IntN.{pos, neg_ℤ, ◌+ℤ◌}
use lib.ListN.{length, length-map, get_or, drop, drop_of_length-le}
use lib.Dec.{eqb}
use Rattle.wire.specs.Keys.{Key}
use Rattle.wire.specs.declared.kinds.Bucket.{Bucket}
use Rattle.format.specs.Entries.{pointer, extent_words}
use Rattle.calls.specs.Lists.{those, total}
use Rattle.calls.specs.CallList.{Head, Piece}
use Rattle.calls.specs.Extents.{Placed, extent_key}
use Rattle.calls.specs.Place.{place_rows}
use Rattle.calls.specs.Accounting.{counted_rows, sectors_row, buckets_row, kind_row, extents_row, owner_row, swapped}
use Rattle.calls.proofs.lists.ThoseLaws.{those-map}
use Rattle.calls.proofs.lists.TotalLaws.{total-map, total-constant}
use Rattle.accounting.specs.Tally.{tally_of, of_kind, kinds_of, tallies_of, counts_row, kind_counts, kind_rows, owner_counts}
use Rattle.accounting.specs.declared.tally.Tally.{Tally}
use Rattle.accounting.specs.declared.tally.Tallies.{Tallies}
use Rattle.std.specs.Int.{w64, swap_bytes, from_be_bytes}
use Rattle.wire.specs.Numbers.{le_bytes}
use Rattle.wire.specs.Output.{with_bytes}
use Rattle.wire.specs.declared.output.Output.{Output}
use Rattle.wire.proofs.AppendLaws.{with-none, bytes_64}
use Rattle.wire.proofs.OutputLaws.{drop-next}
use Rattle.wire.proofs.EncodeLaws.{words_count, encode-none}
use Rattle.accounting.specs.RowBytes.{rows_bytes}
use Rattle.accounting.proofs.RowLaws.{rows-then}
use Rattle.accounting.proofs.TallyLaws.{tally-equal}

-- the extents' row: each key has 40 bytes and its value's
pub extents-row :
    (h : Head) (n stored : ℕ) (ps : List Placed)
    → ((kind stored file checksum word : ℕ) → length (extent_words h.option kind stored file checksum word) ≡ n)
    → extents_row (map (extent_key h) ps) stored
    ≡ counts_row 0x05ffffffff000000 0 (record { count = length ps; file = length ps * (40 + 8 * n); stored = stored })
unfolding extent_key
extents-row h n stored ps e =
    let one : (p : Placed) → 40 + length (extent_key h p).value ≡ 40 + 8 * n =
    λ p. let k = words_count (extent_words h.option p.piece.kind p.piece.stored p.piece.file p.piece.checksum (pointer p.first p.generation)) in
    omega (arith, k, e p.piece.kind p.piece.stored p.piece.file p.piece.checksum (pointer p.first p.generation)) in
    let sums : total (λ k. 40 + length k.value) (map (extent_key h) ps) ≡ length ps * (40 + 8 * n) =
    total-map (λ k. 40 + length k.value) (extent_key h) ps ∙ total-constant (λ p. 40 + length (extent_key h p).value) (40 + 8 * n) one ps in
    rw (length-map ps (extent_key h), sums)

-- the bytes of a number read from the other end, in std's word
pub swapped-is : (x : ℕ) → swap_bytes w64 x ≡ swapped 8 x
unfolding swapped le_bytes
swapped-is x = ap (from_be_bytes w64) (bytes_64 x) ∙ omega arith

-- the rows of pieces that are placed are those of the pieces

pub kind_row_lem : (kind : ℕ) (ps : List Placed) → kind_row kind ps ≡ kind_counts kind (tally_of (of_kind kind (map (λ p. p.piece) ps)))
unfolding of_kind
kind_row_lem kind ps =
    let e = sym (those-map (λ (p : Piece). eqb p.kind kind) (λ (p : Placed). p.piece) ps) in
    let qs = those (λ (p : Placed). eqb p.piece.kind kind) ps in
    let t : ◌≡◌ {A = Tally} (record { count = length qs; file = total (λ p. p.piece.file) qs; stored = total (λ p. p.piece.stored) qs }) (tally_of (those (λ p. eqb p.kind kind) (map (λ p. p.piece) ps))) =
    tally-equal _ _ (sym (length-map qs (λ p. p.piece)) ∙ ap length e)
    (sym (total-map (λ p. p.file) (λ p. p.piece) qs) ∙ ap (total (λ p. p.file)) e)
    (sym (total-map (λ p. p.stored) (λ p. p.piece) qs) ∙ ap (total (λ p. p.stored)) e) in
    ap (kind_counts kind) t

pub all-tally : (ps : List Placed)
    → ◌≡◌ {A = Tally} (record { count = length ps; file = total (λ p. p.piece.file) ps; stored = total (λ p. p.piece.stored) ps }) (tally_of (map (λ p. p.piece) ps))
all-tally ps =
    tally-equal _ _ (sym (length-map ps (λ p. p.piece))) (sym (total-map (λ p. p.file) (λ p. p.piece) ps)) (sym (total-map (λ p. p.stored) (λ p. p.piece) ps))

-- a turn of the loop over the tallies of the kinds: of the rows that are left, the first is put
pub kind-turn :
    (o r : Output) (ts : List Tally) (i : ℕ) (d : Tally) → i < length ts
    → r ≡ with_bytes o (rows_bytes (kind_counts (i + 2) (get_or ts i d) ∷ []))
    → with_bytes r (rows_bytes (kind_rows (i + 1 + 2) (drop (i + 1) ts))) ≡ with_bytes o (rows_bytes (kind_rows (i + 2) (drop i ts)))
kind-turn o r ts i d h e =
    let k : i + 1 + 2 ≡ i + 2 + 1 = omega arith in
    rw (e, rows-then o (kind_counts (i + 2) (get_or ts i d) ∷ []) (kind_rows (i + 1 + 2) (drop (i + 1) ts)), k, drop-next d ts i h)

-- the end
pub kind-end : (o : Output) (ts : List Tally) (i : ℕ) → length ts ≤ i → with_bytes o (rows_bytes (kind_rows (i + 2) (drop i ts))) ≡ o
unfolding counted_rows those
kind-end o ts i h = rw (drop_of_length-le ts h, encode-none) (with-none o)

-- all rows, by the tallies
pub place-rows : (h : Head) (bs : List Bucket) (ps : List Placed) (extents : List Key) (t : Tallies) → t ≡ tallies_of (map (λ p. p.piece) ps)
    → place_rows h bs ps extents
    ≡ counted_rows
    ((sectors_row (pos t.all.stored) ∷ buckets_row 0 (neg_ℤ (pos (length bs))) (pos 0) (pos 0)
    ∷ buckets_row 4 (pos (length bs)) (pos t.all.stored) (pos (length bs * h.bucket_sectors) +ℤ neg_ℤ (pos t.all.stored)) ∷ [])
    ++ kind_rows 2 t.kinds
    ++ (extents_row extents t.all.stored ∷ [])
    ++ (owner_counts h.inode t.all ∷ []))
unfolding place_rows
place-rows h bs ps extents t e =
    let d : total (λ p. p.piece.stored) ps ≡ t.all.stored = ap (λ (x : Tally). x.stored) (all-tally ps) ∙ ap (λ (x : Tallies). x.all.stored) (sym e) in
    let o : owner_row h.inode ps ≡ owner_counts h.inode t.all = ap (owner_counts h.inode) (all-tally ps ∙ ap (λ (x : Tallies). x.all) (sym e)) in
    let k : kind_rows 2 t.kinds ≡ kind_rows 2 (kinds_of (map (λ p. p.piece) ps)) = ap (λ (x : Tallies). kind_rows 2 x.kinds) e in
    rw (o, kind_row_lem 2 ps, kind_row_lem 3 ps, kind_row_lem 4 ps, kind_row_lem 5 ps, d, k)
