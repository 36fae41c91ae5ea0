-- struct bch_alloc_v4 (alloc_background_format.h), packed, 64 bytes; and what FORMAT.md, "Alloc value", makes of it.
use Rattle.std.specs.Prelude.{ℕ, ◌+◌, ◌%◌, List, [], ◌∷◌, slice_index}
use Rattle.format.specs.Packing.{pack, unpack, struct_bytes, Member, get, store}

-- The members, in the header's order.
abbrev pub journal_seq : Member
journal_seq = record { at = 0; size = 8 }

abbrev pub flags : Member
flags = record { at = 8; size = 4 }

abbrev pub gen : Member
gen = record { at = 12; size = 1 }

abbrev pub oldest_gen : Member
oldest_gen = record { at = 13; size = 1 }

abbrev pub data_type : Member
data_type = record { at = 14; size = 1 }

abbrev pub stripe_redundancy : Member
stripe_redundancy = record { at = 15; size = 1 }

abbrev pub dirty_sectors : Member
dirty_sectors = record { at = 16; size = 4 }

abbrev pub cached_sectors : Member
cached_sectors = record { at = 20; size = 4 }

abbrev pub io_time_read : Member
io_time_read = record { at = 24; size = 8 }

abbrev pub io_time_write : Member
io_time_write = record { at = 32; size = 8 }

abbrev pub stripe : Member
stripe = record { at = 40; size = 4 }

abbrev pub nr_external_backpointers : Member
nr_external_backpointers = record { at = 44; size = 4 }

-- _fragmentation_lru in 6.12, where it is obsolete; journal_seq_empty in later headers and in FORMAT.md
abbrev pub journal_seq_empty : Member
journal_seq_empty = record { at = 48; size = 8 }

abbrev pub stripe_sectors : Member
stripe_sectors = record { at = 56; size = 4 }

abbrev pub pad : Member
pad = record { at = 60; size = 4 }

abbrev pub alloc_v4 : List Member
alloc_v4 =
    journal_seq ∷ flags ∷ gen ∷ oldest_gen ∷ data_type ∷ stripe_redundancy ∷ dirty_sectors ∷ cached_sectors ∷ io_time_read
    ∷ io_time_write ∷ stripe ∷ nr_external_backpointers ∷ journal_seq_empty ∷ stripe_sectors ∷ pad ∷ []

-- The flag masks: NEED_DISCARD, NEED_INC_GEN, BACKPOINTERS_START, NR_BACKPOINTERS, and the bits that have no name.
pub record Flags : Type 0 where
  pub need_discard : ℕ
  pub need_inc_gen : ℕ
  pub backpointers_start : ℕ
  pub nr_backpointers : ℕ
  pub unnamed : ℕ

-- the flags' word, and the flags in a word
unfoldable pub flags_word : Flags → ℕ
flags_word f =
    pack ((1, f.need_discard) ∷ (1, f.need_inc_gen) ∷ (6, f.backpointers_start) ∷ (6, f.nr_backpointers) ∷ (18, f.unnamed) ∷ [])

unfoldable pub flags_of : ℕ → Flags
flags_of x =
    let bits = unpack (1 ∷ 1 ∷ 6 ∷ 6 ∷ 18 ∷ []) x in
    record {
      need_discard = slice_index bits 0;
      need_inc_gen = slice_index bits 1;
      backpointers_start = slice_index bits 2;
      nr_backpointers = slice_index bits 3;
      unnamed = slice_index bits 4;
    }

-- Data types: 0 free, 4 user, 9 need_discard.
abbrev pub free : ℕ
free = 0

abbrev pub user : ℕ
user = 4

abbrev pub need_discard_type : ℕ
need_discard_type = 9

-- the flags of a bucket that data fills: hexadecimal 23
abbrev pub user_flags : Flags
user_flags =
    record { need_discard = 1; need_inc_gen = 1; backpointers_start = 8; nr_backpointers = 0; unnamed = 0 }

-- a bucket that data is placed in
unfoldable pub new_alloc : ℕ → ℕ → ℕ → ℕ → List ℕ
new_alloc journal generation dirty clock =
    struct_bytes
    ((8, journal) ∷ (4, flags_word user_flags) ∷ (1, generation) ∷ (1, generation) ∷ (1, user) ∷ (1, 0) ∷ (4, dirty) ∷ (4, 0) ∷ (8, 1)
    ∷ (8, clock) ∷ (4, 0) ∷ (4, 0) ∷ (8, 0) ∷ (4, 0) ∷ (4, 0) ∷ [])

-- a part of a bucket is freed: another dirty count
unfoldable pub with_dirty : ℕ → List ℕ → List ℕ
with_dirty dirty v = store dirty_sectors dirty v

-- the generation goes up by one, and 255 is followed by 0
unfoldable pub next_gen : ℕ → ℕ
next_gen g = (g + 1) % 256

-- the low flag byte without bit 1, and the bytes 9 to 11 cleared
unfoldable pub emptied_flags : ℕ → ℕ
emptied_flags x =
    flags_word
    (record {
      need_discard = (flags_of x).need_discard;
      need_inc_gen = 0;
      backpointers_start = (flags_of x).backpointers_start;
      nr_backpointers = 0;
      unnamed = 0;
    })

-- a bucket is emptied, at a journal number
unfoldable pub emptied : ℕ → List ℕ → List ℕ
emptied journal v =
    store journal_seq_empty journal
    (store dirty_sectors 0
    (store stripe_redundancy 0
    (store data_type need_discard_type
    (store oldest_gen (next_gen (get gen v))
    (store gen (next_gen (get gen v))
    (store flags (emptied_flags (get flags v)) v))))))

-- flag bit 0 cleared
unfoldable pub discarded_flags : ℕ → ℕ
discarded_flags x =
    flags_word
    (record {
      need_discard = 0;
      need_inc_gen = (flags_of x).need_inc_gen;
      backpointers_start = (flags_of x).backpointers_start;
      nr_backpointers = (flags_of x).nr_backpointers;
      unnamed = (flags_of x).unnamed;
    })

-- a bucket is discarded: byte 14, flag bit 0 and the words at 0 and 48 cleared
unfoldable pub discarded : List ℕ → List ℕ
discarded v =
    store journal_seq_empty 0 (store data_type free (store flags (discarded_flags (get flags v)) (store journal_seq 0 v)))
