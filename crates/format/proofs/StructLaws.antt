-- Laws of a packed struct's members: one that is stored is read back and leaves the others, and a struct is read back whole.
use Rattle.std.proofs.Common.{◌≡◌, ℕ, zero, suc, ◌+◌, ◌^◌, ◌<◌, ◌≤◌, Bool, true, false, cond, ◌&&◌, ◌||◌, eqb, leb, List, [], ◌∷◌, ◌++◌, map, length, get_or, take, drop, set, sym, refl, ap, ◌∙◌, append_assoc, append-nil, arith, length-append, length-take-le, get_or-drop, get_or-set_other, drop-drop, drop_at, eqb-true, leb-true}
use mathlib.Core.Bool.{and-eq-true_iff}
use lib.ListN.{get_or-append}
use Rattle.wire.specs.Numbers.{le, le_bytes}
use Rattle.wire.specs.Output.{put}
use Rattle.wire.proofs.NumberLaws.{le-le_bytes, le-length, le_split, le-byte}
use Rattle.wire.proofs.OutputLaws.{put-eq, put-length}
use Rattle.format.specs.Packing.{struct_bytes, read_struct, Member, get, store}
use Rattle.format.specs.AllocV4.{alloc_v4}

-- a byte that is not one of a member's
abbrev pub Outside : Member → ℕ → Type 0
Outside m i = m.at ≤ i → i < m.at + m.size → ⊥

-- two members have no byte in common
abbrev pub apart : Member → Member → Bool
apart m k = leb (m.at + m.size) k.at || leb (k.at + k.size) m.at

abbrev pub same : Member → Member → Bool
same m k = eqb m.at k.at && eqb m.size k.size

-- a byte that no store reaches is as it was
pub put-kept : (bs xs : List ℕ) (at i : ℕ) → (at ≤ i → i < at + length bs → ⊥) → get_or (put xs at bs) i 0 ≡ get_or xs i 0
unfolding put
put-kept [] xs at i h = refl
put-kept (b ∷ bs) xs at i h =
    put-kept bs (set xs at b) (suc at) i (λ p q. h (omega arith) (omega arith))
    ∙ get_or-set_other xs at i b 0 (λ e. h (omega arith) (omega arith))

-- a number is what its bytes are
le_same : (n : ℕ) (s t : List ℕ) → ((i : ℕ) → i < n → get_or s i 0 ≡ get_or t i 0) → le n s ≡ le n t
unfolding le
le_same zero s t h = refl
le_same (suc n) s t h =
    let e : suc n ≡ 1 + n = omega arith in
    let r : le n (drop 1 s) ≡ le n (drop 1 t) = le_same n (drop 1 s) (drop 1 t) (λ i l. get_or-drop 1 s i 0 ∙ h (1 + i) (omega arith) ∙ sym (get_or-drop 1 t i 0)) in
    let b : le 1 s ≡ le 1 t = le-byte s 0 ∙ h 0 (omega arith) ∙ sym (le-byte t 0) in
    ap (λ k. le k s) e ∙ le_split 1 n s ∙ rw (b, r, ← le_split 1 n t, e)

-- A member k of a packed struct is stored.
module _ (k : Member) (x : ℕ) (v : List ℕ) where
  -- a struct keeps its length
  pub store_length : length (store k x v) ≡ length v
  unfolding store
  store_length = put-length v k.at (le_bytes k.size x)

  -- a byte outside the member is as it was
  pub store_kept : (i : ℕ) → Outside k i → get_or (store k x v) i 0 ≡ get_or v i 0
  unfolding store
  store_kept i h = put-kept (le_bytes k.size x) v k.at i (λ p q. h p (omega (arith, le-length k.size x)))

  -- a member that has no byte of it is as it was
  pub get_other : (m : Member) → apart m k ≡ true → get m (store k x v) ≡ get m v
  unfolding get
  get_other m a =
      le_same m.size _ _ (λ i l. get_or-drop m.at _ i 0 ∙ store_kept (m.at + i) (far i l) ∙ sym (get_or-drop m.at v i 0))
    where
      far : (i : ℕ) → i < m.size → Outside k (m.at + i)
      far i l p q = go (leb (m.at + m.size) k.at) refl a
        where
          go : (t : Bool) → leb (m.at + m.size) k.at ≡ t → (t || leb (k.at + k.size) m.at) ≡ true → ⊥
          go true e h = omega (arith, leb-true (m.at + m.size) k.at e)
          go false e h = omega (arith, leb-true (k.at + k.size) m.at h)

  module _ (room : k.at + k.size ≤ length v) where
    -- what stands from k's first byte on
    from-here : drop k.at (store k x v) ≡ le_bytes k.size x ++ drop (k.at + k.size) v
    unfolding store
    from-here =
        ap (drop k.at) (put-eq (le_bytes k.size x) v k.at (omega (arith, le-length k.size x)))
        ∙ rw (append_assoc, le-length)
        (drop_at (take k.at v) (le_bytes k.size x ++ drop (k.at + k.size) v) k.at (length-take-le k.at v (omega arith)))

    -- a member that is stored is read back
    pub get-store : x < 256 ^ k.size → get k (store k x v) ≡ x
    unfolding get
    get-store h = rw from-here (le-le_bytes k.size x _ h)

    -- each of its bytes is one of the number's, the lowest first
    pub store-here : (i : ℕ) → i < k.size → get_or (store k x v) (k.at + i) 0 ≡ get_or (le_bytes k.size x) i 0
    store-here i h =
        sym (get_or-drop k.at (store k x v) i 0)
        ∙ rw from-here (get_or-append (le_bytes k.size x) (drop (k.at + k.size) v) 0 i (omega (arith, le-length k.size x)))

-- Several stores, the first one first.
abbrev pub stores : List (Member × ℕ) → List ℕ → List ℕ
stores [] v = v
stores ((k, x) ∷ ws) v = stores ws (store k x v)

-- a member's value after them, where it was d
abbrev pub reads : Member → ℕ → List (Member × ℕ) → ℕ
reads m d [] = d
reads m d ((k, x) ∷ ws) = reads m (cond (same m k) x d) ws

-- each is of the member m, or of one apart from it
abbrev pub clear : Member → List (Member × ℕ) → Bool
clear m [] = true
clear m ((k, x) ∷ ws) = (same m k || apart m k) && clear m ws

abbrev pub all_clear : List Member → List (Member × ℕ) → Bool
all_clear [] ws = true
all_clear (m ∷ ms) ws = clear m ws && all_clear ms ws

-- each value fits its member, which lies within n bytes
abbrev pub Hold : List (Member × ℕ) → ℕ → Type 0
Hold [] n = Unit {0}
Hold ((k, x) ∷ ws) n = (x < 256 ^ k.size) × (k.at + k.size ≤ n) × Hold ws n

-- a byte of none of them
abbrev pub Beside : List (Member × ℕ) → ℕ → Type 0
Beside [] i = Unit {0}
Beside ((k, x) ∷ ws) i = Outside k i × Beside ws i

-- a struct keeps its length
pub stores-length : (ws : List (Member × ℕ)) (v : List ℕ) → length (stores ws v) ≡ length v
stores-length [] v = refl
stores-length ((k, x) ∷ ws) v = stores-length ws (store k x v) ∙ store_length k x v

-- a byte outside all the members is as it was
pub stores-kept : (ws : List (Member × ℕ)) (v : List ℕ) (i : ℕ) → Beside ws i → get_or (stores ws v) i 0 ≡ get_or v i 0
stores-kept [] v i h = refl
stores-kept ((k, x) ∷ ws) v i h = stores-kept ws (store k x v) i h.1 ∙ store_kept k x v i h.0

-- a member has what was stored there last, or what it had
pub get-stores : (ws : List (Member × ℕ)) (m : Member) (v : List ℕ) → clear m ws ≡ true → Hold ws (length v) → get m (stores ws v) ≡ reads m (get m v) ws
unfolding get
get-stores [] m v c h = refl
get-stores ((k, x) ∷ ws) m v c h =
    let b = (and-eq-true_iff (same m k || apart m k) (clear m ws)).0 c in
    get-stores ws m (store k x v) b.1 (rw store_length h.2) ∙ ap (λ d. reads m d ws) (go (same m k) refl b.0)
  where
    go : (t : Bool) → same m k ≡ t → (t || apart m k) ≡ true → get m (store k x v) ≡ cond t x (get m v)
    go true e a =
        let q = (and-eq-true_iff (eqb m.at k.at) (eqb m.size k.size)).0 e in
        ap (λ n. le n (drop m.at (store k x v))) (eqb-true m.size k.size q.1)
        ∙ ap (λ n. le k.size (drop n (store k x v))) (eqb-true m.at k.at q.0)
        ∙ get-store k x v h.1 h.0
    go false e a = get_other k x v m a

-- and so each member of a struct
pub members-after : (ms : List Member) (ws : List (Member × ℕ)) (v : List ℕ) → all_clear ms ws ≡ true → Hold ws (length v)
    → map (λ m. get m (stores ws v)) ms ≡ map (λ m. reads m (get m v) ws) ms
members-after [] ws v c h = refl
members-after (m ∷ ms) ws v c h =
    let b = (and-eq-true_iff (clear m ws) (all_clear ms ws)).0 c in
    rw (get-stores ws m v b.0 h, members-after ms ws v b.1 h)

-- each value fits its bytes
abbrev pub FitBytes : List (ℕ × ℕ) → Type 0
FitBytes [] = Unit {0}
FitBytes ((n, x) ∷ ms) = (x < 256 ^ n) × FitBytes ms

abbrev pub total : List ℕ → ℕ
total [] = 0
total (n ∷ ns) = n + total ns

-- a packed struct is read back
pub read-struct : (ms : List (ℕ × ℕ)) (s : List ℕ) → FitBytes ms → read_struct (map (λ m. m.0) ms) (struct_bytes ms ++ s) ≡ map (λ m. m.1) ms
unfolding struct_bytes
read-struct [] s h = refl
read-struct ((n, x) ∷ ms) s h =
    rw (
      append_assoc,
      le-le_bytes n x (struct_bytes ms ++ s) h.0,
      drop_at (le_bytes n x) (struct_bytes ms ++ s) n (le-length n x),
      read-struct ms s h.1,
    )

-- and so where nothing follows it
pub read_whole : (ms : List (ℕ × ℕ)) → FitBytes ms → read_struct (map (λ m. m.0) ms) (struct_bytes ms) ≡ map (λ m. m.1) ms
read_whole ms h = rw append-nil at (read-struct ms [] h)

-- and has the bytes of its members
pub struct-length : (ms : List (ℕ × ℕ)) → length (struct_bytes ms) ≡ total (map (λ m. m.0) ms)
unfolding struct_bytes
struct-length [] = refl
struct-length ((n, x) ∷ ms) = rw (length-append, le-length, struct-length ms)

-- Members of these sizes that stand one after the other from a place on, as a packed struct has them.
abbrev pub packed_from : ℕ → List ℕ → List Member
packed_from at [] = []
packed_from at (n ∷ ns) = record { at = at; size = n } ∷ packed_from (at + n) ns

-- the members of a packed struct are the numbers of their sizes, one after the other
pub read-packed : (ns : List ℕ) (at : ℕ) (v : List ℕ) → map (λ m. get m v) (packed_from at ns) ≡ read_struct ns (drop at v)
unfolding get
read-packed [] at v = refl
read-packed (n ∷ ns) at v = rw (drop-drop, read-packed ns (at + n) v)

-- the sizes of struct bch_alloc_v4's members
abbrev pub alloc_sizes : List ℕ
alloc_sizes = 8 ∷ 4 ∷ 1 ∷ 1 ∷ 1 ∷ 1 ∷ 4 ∷ 4 ∷ 8 ∷ 8 ∷ 4 ∷ 4 ∷ 8 ∷ 4 ∷ 4 ∷ []

-- struct bch_alloc_v4 is packed: each member begins where the one before ends, and the last ends at 64
pub members : (alloc_v4 ≡ packed_from 0 alloc_sizes) × (total alloc_sizes ≡ 64)
members = (refl, refl)

-- struct bch_alloc_v4 is read by the sizes of its members
pub read-alloc : (v : List ℕ) → map (λ m. get m v) alloc_v4 ≡ read_struct alloc_sizes v
read-alloc v = read-packed alloc_sizes 0 v
