-- The keys of the six trees as blocks of fields: what is written is read back, and what is read is written again.
use mathlib.Core.Path.{◌≡◌, ap, ◌∙◌}
use mathlib.Core.Bool.{true}
use mathlib.Core.List.{List, [], ◌∷◌, ◌++◌, map, append-nil, map-map}
use Prim.Native.Nat.{ℕ}
use native.Mathlib.Omega.{arith}
use Rattle.wire.specs.Fields.{Field}
use Rattle.wire.specs.Keys.{Key, key_of}
use Rattle.wire.specs.Encode.{key_body}
use Rattle.wire.specs.Bytes.{All, none, more}
use Rattle.wire.proofs.RoundTrip.{key_back, body-again}
use Rattle.calls.specs.CallList.{Trees, Shape, bodies, keys_of}
use Rattle.calls.proofs.lists.AllLaws.{all-imp, all_map, map_back}
use Rattle.calls.proofs.encoding.Blocks.{Block, field, flat, InBlock, has_of, bodies-flat, bodies-all, FieldSound, takes, shaped_in, keeps, shaped_out}
use Rattle.calls.proofs.encoding.FieldBytes.{Storable, key-length, key-bytes, key-storable}
use Rattle.calls.proofs.trees.SixTrees.{EachTree}

abbrev pub TreesFit : Trees → Type 0
TreesFit t = EachTree (All Storable) t

abbrev pub tree_tags : List ℕ
tree_tags = 4 ∷ 10 ∷ 11 ∷ 12 ∷ 13 ∷ 14 ∷ []

abbrev pub keys_block : ℕ → List Key → Block
keys_block t ks = record { tag = t; has = map key_body ks }

abbrev pub tree_blocks : Trees → List Block
tree_blocks t =
    keys_block 4 t.alloc ∷ keys_block 10 t.lru ∷ keys_block 11 t.freespace ∷ keys_block 12 t.need_discard
    ∷ keys_block 13 t.backpointers
    ∷ keys_block 14 t.gens
    ∷ []

-- what a function makes of elements, as a block
pub map-block : {A : Type 0} (t : ℕ) (w : A → List ℕ) (xs : List A) → map (field t) (map w xs) ≡ map (λ x. field t (w x)) xs
map-block t w xs = map-map (field t) w xs

-- written

module _ {ss : List Shape} where
  pub keys-sound : (t : ℕ) {ks : List Key} → takes t 37 293 ss ≡ true → All Storable ks → InBlock (FieldSound ss) (keys_block t ks)
  keys-sound t e h =
      all_map key_body
      (all-imp
      (λ k s.
      record {
        shape = shaped_in t 37 293 ss (key_body k) e (omega (arith, key-length k)) (omega (arith, key-length k, s.short));
        bytes = key-bytes k s.bytes;
      }) h)

  pub trees-sound : {t : Trees} → All (λ n. takes n 37 293 ss ≡ true) tree_tags → TreesFit t → All (InBlock (FieldSound ss)) (tree_blocks t)
  trees-sound (more a (more b (more c (more d (more e (more f none)))))) h =
      more (keys-sound 4 a h.alloc)
      (more (keys-sound 10 b h.lru)
      (more (keys-sound 11 c h.freespace)
      (more (keys-sound 12 d h.need_discard) (more (keys-sound 13 e h.backpointers) (more (keys-sound 14 f h.gens) none)))))

-- the bodies of one block, read back
pub block_back : {A : Type 0} (w : A → List ℕ) (r : List ℕ → A) {xs : List A} → All (λ x. r (w x) ≡ x) xs → map r (map w xs ++ []) ≡ xs
block_back w r {xs} h = ap (map r) (append-nil (map w xs)) ∙ map_back w r h

pub part-back :
    {A : Type 0} (w : A → List ℕ) (r : List ℕ → A) (t : ℕ) (ks : List Block) {xs : List A} → has_of t ks ≡ map w xs ++ []
    → All (λ x. r (w x) ≡ x) xs → map r (bodies t (flat ks)) ≡ xs
part-back w r t ks e h = ap (map r) (bodies-flat t ks ∙ e) ∙ block_back w r h

pub keys-back : (t : ℕ) (ks : List Block) {xs : List Key} → has_of t ks ≡ map key_body xs ++ [] → All Storable xs → map key_of (bodies t (flat ks)) ≡ xs
keys-back t ks e h = part-back key_body key_of t ks e (all-imp (λ k s. key_back k s.fits) h)

pub trees-back :
    {t : Trees} (ks : List Block) → TreesFit t → has_of 4 ks ≡ map key_body t.alloc ++ [] → has_of 10 ks ≡ map key_body t.lru ++ []
    → has_of 11 ks ≡ map key_body t.freespace ++ []
    → has_of 12 ks ≡ map key_body t.need_discard ++ []
    → has_of 13 ks ≡ map key_body t.backpointers ++ []
    → has_of 14 ks ≡ map key_body t.gens ++ []
    → keys_of (flat ks) ≡ t
unfolding keys_of
trees-back ks h a b c d e f =
    λ i.
    record {
      alloc = keys-back 4 ks a h.alloc i;
      lru = keys-back 10 ks b h.lru i;
      freespace = keys-back 11 ks c h.freespace i;
      need_discard = keys-back 12 ks d h.need_discard i;
      backpointers = keys-back 13 ks e h.backpointers i;
      gens = keys-back 14 ks f h.gens i;
    }

-- read

module _ {ss : List Shape} {fs : List Field} (h : All (FieldSound ss) fs) where
  pub keys-read : (t : ℕ) → keeps t 37 293 ss ≡ true → All Storable (map key_of (bodies t fs))
  keys-read t e =
      all_map key_of (all-imp (λ b s. key-storable s.bytes (shaped_out t 37 293 ss b e s.shape).1) (bodies-all t h))

  pub keys-again : (t : ℕ) → keeps t 37 293 ss ≡ true → map key_body (map key_of (bodies t fs)) ≡ bodies t fs
  keys-again t e =
      map_back key_of key_body
      (all-imp (λ b s. body-again s.bytes (shaped_out t 37 293 ss b e s.shape).0) (bodies-all t h))

  pub trees-read : All (λ t. keeps t 37 293 ss ≡ true) tree_tags → TreesFit (keys_of fs)
  unfolding keys_of
  trees-read (more a (more b (more c (more d (more e (more f none)))))) =
      record {
        alloc = keys-read 4 a;
        lru = keys-read 10 b;
        freespace = keys-read 11 c;
        need_discard = keys-read 12 d;
        backpointers = keys-read 13 e;
        gens = keys-read 14 f;
      }
