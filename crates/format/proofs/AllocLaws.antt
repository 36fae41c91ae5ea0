-- FORMAT.md, "Alloc value", read member by member with struct bch_alloc_v4: what a new value holds, and what each change leaves.
use Rattle.std.proofs.Common.{◌≡◌, ℕ, ◌+◌, ◌-◌, ◌*◌, ◌/◌, ◌%◌, ◌^◌, ◌<◌, ◌≤◌, ◌⊎◌, List, [], ◌∷◌, map, length, get_or, refl, ap, ◌∙◌, ⊎_elim, arith}
use native.Mathlib.Nat.{mod-mod}
use Rattle.wire.specs.Numbers.{le_bytes}
use Rattle.wire.specs.Bytes.{Bytes}
use Rattle.wire.proofs.NumberLaws.{bytes-at, le-at, le-byte}
use Rattle.format.specs.Packing.{pack, unpack, Member, get, store}
use Rattle.format.specs.AllocV4.{alloc_v4, journal_seq, flags, gen, oldest_gen, data_type, stripe_redundancy, dirty_sectors, cached_sectors, io_time_read, io_time_write, stripe, nr_external_backpointers, journal_seq_empty, stripe_sectors, pad, flags_word, flags_of, user_flags, new_alloc, with_dirty, next_gen, emptied_flags, emptied, discarded_flags, discarded}
use Rattle.format.proofs.Decoded.{flags-decode, pack-below}
use Rattle.format.proofs.FlagLaws.{discard-sum}
use Rattle.format.proofs.StructLaws.{stores-length, stores-kept, members-after, store-here, store_kept, store_length, read-alloc, read_whole, struct-length}

-- "flags hexadecimal 23"
pub flags-23 : flags_word user_flags ≡ 0x23
unfolding flags_word pack
flags-23 = refl

-- "255 is followed by 0"
pub next-255 : next_gen 255 ≡ 0
unfolding next_gen
next-255 = refl

-- "the generation goes up by one"
pub next_up : (g : ℕ) → g < 255 → next_gen g ≡ g + 1
unfolding next_gen
next_up g h = omega arith

pub next_low : (g : ℕ) → next_gen g < 256
unfolding next_gen
next_low g = omega arith

-- "low flag byte without bit 1, bytes 9 to 11 .. cleared"
pub emptied-flags : (x : ℕ)
    → flags_of (emptied_flags x) ≡ record { need_discard = (flags_of x).need_discard; need_inc_gen = 0; backpointers_start = (flags_of x).backpointers_start; nr_backpointers = 0; unnamed = 0 }
unfolding emptied_flags flags_of unpack
emptied-flags x = flags-decode _ (omega arith)

pub emptied-low : (x : ℕ) → emptied_flags x < 256
unfolding emptied_flags flags_word flags_of pack unpack
emptied-low x = simp mod-mod (omega arith)

-- "Discard clears .. flag bit 0"
pub discarded-flags : (x : ℕ)
    → flags_of (discarded_flags x) ≡ record { need_discard = 0; need_inc_gen = (flags_of x).need_inc_gen; backpointers_start = (flags_of x).backpointers_start; nr_backpointers = (flags_of x).nr_backpointers; unnamed = (flags_of x).unnamed }
unfolding discarded_flags flags_of unpack
discarded-flags x = flags-decode _ (omega arith)

discarded-low : (x : ℕ) → discarded_flags x < 2 ^ 32
unfolding discarded_flags flags_word
discarded-low x = pack-below _

-- the bytes of the flags
flag-bytes : (v : List ℕ) → get flags v ≡ get_or v 8 0 + 256 * (get_or v 9 0 + 256 * (get_or v 10 0 + 256 * get_or v 11 0))
unfolding get
flag-bytes v =
    omega (
      arith,
      le-at 1 3 v 8,
      le-at 1 2 v 9,
      le-at 1 1 v 10,
      le-byte v 8,
      le-byte v 9,
      le-byte v 10,
      le-byte v 11,
    )

-- a number's lowest byte, and what is above it
digit : (x b c : ℕ) → b < 256 → x ≡ b + 256 * c → (x % 256 ≡ b) × (x / 256 ≡ c)
digit x b c h e = omega arith

redundancy-byte : (v : List ℕ) → get stripe_redundancy v ≡ get_or v 15 0
unfolding get
redundancy-byte v = le-byte v 15

module _ (journal generation dirty clock : ℕ) where
  -- struct bch_alloc_v4 has 64 bytes; "eight words built together"
  pub new-length : length (new_alloc journal generation dirty clock) ≡ 64
  unfolding new_alloc
  new-length = struct-length _

  -- "New: .. flags hexadecimal 23, type 4, both generations alike, dirty, 1, clock, 0, 0, 0"
  pub new-decodes : journal < 2 ^ 64 → generation < 256 → dirty < 2 ^ 32 → clock < 2 ^ 64
      → map (λ m. get m (new_alloc journal generation dirty clock)) alloc_v4 ≡ journal ∷ 0x23 ∷ generation ∷ generation ∷ 4 ∷ 0 ∷ dirty ∷ 0 ∷ 1 ∷ clock ∷ 0 ∷ 0 ∷ 0 ∷ 0 ∷ 0 ∷ []
  unfolding new_alloc
  new-decodes j g d c =
      read-alloc (new_alloc journal generation dirty clock)
      ∙ rw flags-23
      (read_whole
      ((8, journal) ∷ (4, 0x23) ∷ (1, generation) ∷ (1, generation) ∷ (1, 4) ∷ (1, 0) ∷ (4, dirty) ∷ (4, 0) ∷ (8, 1)
      ∷ (8, clock) ∷ (4, 0) ∷ (4, 0) ∷ (8, 0) ∷ (4, 0) ∷ (4, 0) ∷ [])
      (omega arith))

-- The stores of each change.
abbrev emptying : ℕ → List ℕ → List (Member × ℕ)
emptying journal v =
    (flags, emptied_flags (get flags v)) ∷ (gen, next_gen (get gen v)) ∷ (oldest_gen, next_gen (get gen v)) ∷ (data_type, 9)
    ∷ (stripe_redundancy, 0) ∷ (dirty_sectors, 0) ∷ (journal_seq_empty, journal) ∷ []

abbrev discarding : List ℕ → List (Member × ℕ)
discarding v = (journal_seq, 0) ∷ (flags, discarded_flags (get flags v)) ∷ (data_type, 0) ∷ (journal_seq_empty, 0) ∷ []

module _ (journal : ℕ) (v : List ℕ) where
  -- "Emptying: .." keeps the length
  pub emptied-length : length (emptied journal v) ≡ length v
  unfolding emptied
  emptied-length = stores-length (emptying journal v) v

  -- "Emptying: .." changes no byte but 8 to 19 and 48 to 55
  pub emptied-kept : (i : ℕ) → (i < 8) ⊎ (((20 ≤ i) × (i < 48)) ⊎ (56 ≤ i)) → get_or (emptied journal v) i 0 ≡ get_or v i 0
  unfolding emptied
  emptied-kept i h =
      stores-kept (emptying journal v) v i (⊎_elim (λ a. omega arith) (⊎_elim (λ a. omega arith) (λ a. omega arith)) h)

  module _ (long : 56 ≤ length v) (j : journal < 2 ^ 64) where
    -- "Emptying: dirty 0, the generation goes up by one .., oldest the same, type 9, low flag byte without bit 1, bytes 9 to 11 and 15 cleared, 48 set"
    pub emptied-decodes : map (λ m. get m (emptied journal v)) alloc_v4 ≡ get journal_seq v ∷ emptied_flags (get flags v) ∷ next_gen (get gen v) ∷ next_gen (get gen v) ∷ 9 ∷ 0 ∷ 0 ∷ get cached_sectors v ∷ get io_time_read v ∷ get io_time_write v ∷ get stripe v ∷ get nr_external_backpointers v ∷ journal ∷ get stripe_sectors v ∷ get pad v ∷ []
    unfolding emptied
    emptied-decodes =
        members-after alloc_v4 (emptying journal v) v refl (omega (arith, emptied-low (get flags v), next_low (get gen v)))

    -- "bytes 9 to 11 and 15 cleared"
    pub emptied-clear : (get_or (emptied journal v) 9 0 ≡ 0) × (get_or (emptied journal v) 10 0 ≡ 0) × (get_or (emptied journal v) 11 0 ≡ 0) × (get_or (emptied journal v) 15 0 ≡ 0)
    emptied-clear =
        let w = emptied journal v in
        let f : get flags w ≡ emptied_flags (get flags v) = ap (λ l. get_or l 1 0) emptied-decodes in
        let s : get stripe_redundancy w ≡ 0 = ap (λ l. get_or l 5 0) emptied-decodes in
        omega (arith, flag-bytes w, emptied-low (get flags v), redundancy-byte w)

module _ (v : List ℕ) where
  -- "Discard clears .." keeps the length
  pub discarded-length : length (discarded v) ≡ length v
  unfolding discarded
  discarded-length = stores-length (discarding v) v

  -- "Discard clears byte 14, flag bit 0 and the words at 0 and 48": it changes no byte but 0 to 11, 14 and 48 to 55
  pub discarded-kept : (i : ℕ) → ((12 ≤ i) × (i < 14)) ⊎ (((15 ≤ i) × (i < 48)) ⊎ (56 ≤ i)) → get_or (discarded v) i 0 ≡ get_or v i 0
  unfolding discarded
  discarded-kept i h =
      stores-kept (discarding v) v i (⊎_elim (λ a. omega arith) (⊎_elim (λ a. omega arith) (λ a. omega arith)) h)

  module _ (long : 56 ≤ length v) where
    -- "Discard clears byte 14, flag bit 0 and the words at 0 and 48"
    pub discarded-decodes : map (λ m. get m (discarded v)) alloc_v4 ≡ 0 ∷ discarded_flags (get flags v) ∷ get gen v ∷ get oldest_gen v ∷ 0 ∷ get stripe_redundancy v ∷ get dirty_sectors v ∷ get cached_sectors v ∷ get io_time_read v ∷ get io_time_write v ∷ get stripe v ∷ get nr_external_backpointers v ∷ 0 ∷ get stripe_sectors v ∷ get pad v ∷ []
    unfolding discarded
    discarded-decodes = members-after alloc_v4 (discarding v) v refl (omega (arith, discarded-low (get flags v)))

    -- the flags' bytes after it
    flags-after : (i : ℕ) → i < 4 → get_or (discarded v) (8 + i) 0 ≡ get_or (le_bytes 4 (discarded_flags (get flags v))) i 0
    unfolding discarded
    flags-after i h =
        let y = discarded_flags (get flags v) in
        let a = store journal_seq 0 v in
        stores-kept ((data_type, 0) ∷ (journal_seq_empty, 0) ∷ []) (store flags y a) (8 + i) (omega arith)
        ∙ store-here flags y a (omega (arith, store_length journal_seq 0 v)) i h

    -- "Discard clears .. flag bit 0": the byte 8 loses it, and the bytes 9 to 11 are as they were
    pub discarded-bytes : Bytes v
        → (get_or (discarded v) 8 0 ≡ get_or v 8 0 - get_or v 8 0 % 2)
        × (get_or (discarded v) 9 0 ≡ get_or v 9 0)
        × (get_or (discarded v) 10 0 ≡ get_or v 10 0)
        × (get_or (discarded v) 11 0 ≡ get_or v 11 0)
    unfolding le_bytes
    discarded-bytes r =
        let e = flag-bytes v in
        let b8 = bytes-at r 8 in
        let b9 = bytes-at r 9 in
        let b10 = bytes-at r 10 in
        let b11 = bytes-at r 11 in
        let y = discard-sum (get flags v) (omega arith) in
        let p : get flags v % 2 ≡ get_or v 8 0 % 2 = omega arith in
        let d0 = digit (discarded_flags (get flags v)) (get_or v 8 0 - get_or v 8 0 % 2) (get_or v 9 0 + 256 * (get_or v 10 0 + 256 * get_or v 11 0)) (omega arith) (omega arith) in
        let d1 = digit (discarded_flags (get flags v) / 256) (get_or v 9 0) (get_or v 10 0 + 256 * get_or v 11 0) b9 d0.1 in
        let d2 = digit (discarded_flags (get flags v) / 256 / 256) (get_or v 10 0) (get_or v 11 0) b10 d1.1 in (
          flags-after 0 (omega arith) ∙ d0.0,
          flags-after 1 (omega arith) ∙ d1.0,
          flags-after 2 (omega arith) ∙ d2.0,
          flags-after 3 (omega arith) ∙ omega (arith, d2.1),
        )

module _ (dirty : ℕ) (v : List ℕ) where
  -- "16 dirty sectors (4)": another count keeps the length
  pub dirty-length : length (with_dirty dirty v) ≡ length v
  unfolding with_dirty
  dirty-length = store_length dirty_sectors dirty v

  -- "16 dirty sectors (4)": it changes no byte but 16 to 19
  pub dirty-kept : (i : ℕ) → (i < 16) ⊎ (20 ≤ i) → get_or (with_dirty dirty v) i 0 ≡ get_or v i 0
  unfolding with_dirty
  dirty-kept i h = store_kept dirty_sectors dirty v i (⊎_elim (λ a. omega arith) (λ a. omega arith) h)

  -- "16 dirty sectors (4)": another dirty count, and every other member as it was
  pub dirty-decodes : 20 ≤ length v → dirty < 2 ^ 32
      → map (λ m. get m (with_dirty dirty v)) alloc_v4 ≡ get journal_seq v ∷ get flags v ∷ get gen v ∷ get oldest_gen v ∷ get data_type v ∷ get stripe_redundancy v ∷ dirty ∷ get cached_sectors v ∷ get io_time_read v ∷ get io_time_write v ∷ get stripe v ∷ get nr_external_backpointers v ∷ get journal_seq_empty v ∷ get stripe_sectors v ∷ get pad v ∷ []
  unfolding with_dirty
  dirty-decodes long d = members-after alloc_v4 ((dirty_sectors, dirty) ∷ []) v refl (omega arith)
