-- The last key that names a bucket: by the table, where each need-discard key that is noted is the last so far of its bucket, and by a search.
use Prim.Native.Nat.{ℕ, ◌+◌, ◌-◌, ◌≤◌, ◌<◌}
use mathlib.Core.Path.{◌≡◌, refl, sym, ap, ◌∙◌}
use mathlib.Core.Bool.{Bool, true, false, cond}
use mathlib.Core.List.{List, [], ◌∷◌, ◌++◌, reverse}
use mathlib.Core.Option.{Option, none, some}
use Rattle.std.proofs.Common.{Option as Maybe, Some, None}
use native.Mathlib.Omega.{arith}
use native.Mathlib.Nat.{add-zero}
use native.Mathlib.Numerals.{add-one}
use lib.ListN.{length, get_or, set, take, drop, replicate, length-drop, get_or-replicate}
use lib.Seq.{get_or-set_same, get_or-set_other, take-suc, take_all, get_or-drop, drop-drop}
use borrow.Author.Tests.{eqb-true, eqb-false, ne_eqb, ltb-true}
use Rattle.wire.specs.Keys.{Key}
use Rattle.wire.specs.Kinds.{same_bucket, bucket_in_range}
use Rattle.wire.specs.Positions.{bucket_in}
use Rattle.wire.specs.declared.kinds.Bucket.{Bucket}
use Rattle.calls.specs.Limits.{is_set}
use Rattle.calls.specs.Lists.{is_none}
use Rattle.calls.specs.Discard.{waiting_key}
use Rattle.std.specs.List.{find}
use Rattle.std.specs.Option.{option_map}
use Rattle.std.specs.Iterator.Adapters.{rev_source, rev_steps}
use Rattle.std.specs.declared.iter.Rev.{Rev}
use Rattle.std.proofs.lemmas.Grind.{reverse_onto}
use Rattle.std.proofs.lemmas.List.{map-append, reverse-append, reverse-reverse}
use Rattle.std.proofs.lemmas.Iterator.{YieldsList}
use Rattle.std.proofs.lemmas.Iterator.Consumers.{YieldsList-from_shown}
use Rattle.reader.specs.KeyHere.{key_here, keys_here}
use Rattle.reader.specs.ListedKeys.{KeySteppedBack, key_listed, keys_left}
use Rattle.reader.specs.Located.{no_key}
use Rattle.reader.specs.declared.key.ListedKey.{ListedKey}
use Rattle.reader.specs.declared.listed_keys.KeysLeft.{KeysLeft}
use Rattle.need_discard.specs.Table.{is_of_bucket, found, Entry, need_place, TableEntries, wait_noted}

-- one key more: the last that names a bucket stands
pub waiting-more : (ks : List Key) (k : Key) (b : Bucket) → waiting_key (ks ++ k ∷ []) b ≡ cond (is_of_bucket k b) (some k) (waiting_key ks b)
unfolding waiting_key
waiting-more [] k b = refl
waiting-more (x ∷ ks) k b = rw (waiting-more ks k b) (go (is_of_bucket k b))
  where
    go : (t : Bool)
        → cond (is_none (cond t (some k) (waiting_key ks b))) (cond (is_of_bucket x b) (some x) none) (cond t (some k) (waiting_key ks b))
        ≡ cond t (some k) (cond (is_none (waiting_key ks b)) (cond (is_of_bucket x b) (some x) none) (waiting_key ks b))
    go true = refl
    go false = refl

-- an entry that stays
entry_kept : (all ks ls : List Key) (b : Bucket) (e : Maybe ℕ) → Entry all ks b e → waiting_key ls b ≡ waiting_key ks b → Entry all ls b e
entry_kept all ks ls b None n q = q ∙ n
entry_kept all ks ls b (Some i) n q = (n.0, q ∙ n.1)

-- the table's entry of the key at place i
entry_new : (all ls : List Key) (b : Bucket) {f : ℕ} (i : ℕ) → i < length all → f ≡ i + 1 → waiting_key ls b ≡ some (get_or all i no_key)
    → Entry all ls b (need_place f)
entry_new all ls b {f} i h p q =
    let e : f - 1 ≡ i = omega arith in
    rw (ne_eqb f 0 (λ z. omega arith), e) (h, q)

pub empty-entries : (all : List Key) → TableEntries all [] (replicate 65536 0)
unfolding waiting_key
empty-entries all b h =
    let e : ◌≡◌ {A = ℕ} (get_or (replicate 65536 0) b.0 0) 0 = get_or-replicate 65536 b.0 0 0 (ltb-true b.0 65536 h) in
    rw e refl

-- the key at place i is noted
module _ (all : List Key) (table : List ℕ) (ks : List Key) (i : ℕ) (h : i < length all) (l : length table ≡ 65536)
    (t : TableEntries all ks table) (b : Bucket) (m : bucket_in_range b ≡ true) where
  abbrev k : Key
  k = get_or all i no_key

  -- a key of another type names no bucket
  other : is_set k ≡ false → Entry all (ks ++ k ∷ []) b (need_place (get_or table b.0 0))
  other e = entry_kept all ks (ks ++ k ∷ []) b (need_place (get_or table b.0 0)) (t b m) (waiting-more ks k b ∙ rw e)

  -- a key of type 25 names its own bucket and no other
  this : is_set k ≡ true → Entry all (ks ++ k ∷ []) b (need_place (get_or (set table (bucket_in k.pos).0 (i + 1)) b.0 0))
  this e = go (same_bucket (bucket_in k.pos) b) refl
    where
      go : (q : Bool) → same_bucket (bucket_in k.pos) b ≡ q → Entry all (ks ++ k ∷ []) b (need_place (get_or (set table (bucket_in k.pos).0 (i + 1)) b.0 0))
      go true q =
          let p : (bucket_in k.pos).0 ≡ b.0 = eqb-true (bucket_in k.pos).0 b.0 q in
          entry_new all (ks ++ k ∷ []) b i h (rw p (get_or-set_same table b.0 (i + 1) 0 (omega (arith, ltb-true b.0 65536 m)))) (waiting-more ks k b ∙ rw (e, q))
      go false q =
          let p = eqb-false (bucket_in k.pos).0 b.0 q in
          rw (get_or-set_other table (bucket_in k.pos).0 b.0 (i + 1) 0 (λ z. p (sym z)))
          (entry_kept all ks (ks ++ k ∷ []) b (need_place (get_or table b.0 0)) (t b m) (waiting-more ks k b ∙ rw (e, q)))

  noted-entry : Entry all (ks ++ k ∷ []) b (need_place (get_or (wait_noted table k i) b.0 0))
  unfolding wait_noted
  noted-entry = go (is_set k) refl
    where
      go : (q : Bool) → is_set k ≡ q → Entry all (ks ++ k ∷ []) b (need_place (get_or (cond q (set table (bucket_in k.pos).0 (i + 1)) table) b.0 0))
      go true q = this q
      go false q = other q

pub noted-entries : (all : List Key) (table : List ℕ) (i : ℕ) → i < length all → length table ≡ 65536
    → TableEntries all (take i all) table → TableEntries all (take (i + 1) all) (wait_noted table (get_or all i no_key) i)
noted-entries all table i h l t b m = rw (add-one, take-suc all i no_key h) (noted-entry all table (take i all) i h l t b m)

pub all-entries : (all : List Key) (table : List ℕ) (i : ℕ) {ks : List Key} → ks ≡ drop i all → ks ≡ [] → TableEntries all (take i all) table
    → TableEntries all all table
all-entries all table i e n t =
    let l : length all ≤ i = omega (arith, length-drop i all, ap length e, ap length n) in
    rw (take_all i all l) at t

-- ---- a search from the last key on
-- the keys that are left, the last first
abbrev pub keys_back : Rev KeysLeft → List Key
keys_back s = reverse (keys_left (rev_source s))

-- steps from the back give them
pub back-shown : (s : Rev KeysLeft) → YieldsList (rev_steps KeySteppedBack) key_listed s (keys_back s)
back-shown s = YieldsList-from_shown (rev_steps KeySteppedBack) key_listed keys_back none_left one_more s
  where
    none_left : (s t : Rev KeysLeft) → rev_steps KeySteppedBack s None t → length (keys_back s) ≡ 0
    none_left s t h = ap (λ (p : List ℕ). length (reverse (keys_here (rev_source s).keys.list.now p))) h

    one_more : (s : Rev KeysLeft) (x : ListedKey) (t : Rev KeysLeft) → rev_steps KeySteppedBack s (Some x) t → keys_back s ≡ key_listed x ∷ keys_back t
    one_more s x t h =
        let l = (rev_source s).keys.list.now in
        let p = (rev_source t).keys.places.now in
        ap (λ (q : List ℕ). reverse (keys_here l q)) h.places
        ∙ ap (λ (q : List Key). reverse q) (map-append (key_here l) p (x.at ∷ []))
        ∙ reverse-append (keys_here l p) (key_here l x.at ∷ [])
        ∙ ap (λ (m : List ℕ). key_here m x.at ∷ reverse (keys_here l p)) (sym h.list)
        ∙ ap (λ (m : List ℕ). key_listed x ∷ reverse (keys_here m p)) (sym h.same)

-- a key that was found, of the library's option
abbrev held : Maybe Key → Option Key
held None = none
held (Some k) = some k

-- the first key of some that names a bucket is the last of them the other way round
first-found : (ks : List Key) (b : Bucket) → held (find (λ k. is_of_bucket k b) ks) ≡ waiting_key (reverse ks) b
unfolding waiting_key
first-found [] b = refl
first-found (k ∷ ks) b =
    rw (reverse_onto ks k [], waiting-more (reverse ks) k b, ← first-found ks b) (go (is_of_bucket k b) (find (λ x. is_of_bucket x b) ks))
  where
    go : (t : Bool) (o : Maybe Key) → held (cond t (Some k) o) ≡ cond t (some k) (held o)
    go true o = refl
    go false o = refl

pub last-found : (r : Maybe ListedKey) (ks : List Key) (b : Bucket) → option_map key_listed r ≡ find (λ k. is_of_bucket k b) (reverse ks) → found r ≡ waiting_key ks b
last-found r ks b e = same r ∙ ap held e ∙ first-found (reverse ks) b ∙ ap (λ (l : List Key). waiting_key l b) (reverse-reverse ks)
  where
    same : (r : Maybe ListedKey) → found r ≡ held (option_map key_listed r)
    same None = refl
    same (Some k) = refl

-- a step along the keys: the one at place i
module _ (all : List Key) (i : ℕ) {k : Key} {ks rest : List Key} (e : ks ≡ drop i all) (s : ks ≡ k ∷ rest) where
  pub step-within : i < length all
  step-within = omega (arith, length-drop i all, ap length e, ap length s)

  pub step-key : k ≡ get_or all i no_key
  step-key = ap (λ (l : List Key). get_or l 0 no_key) (sym s ∙ e) ∙ get_or-drop i all 0 no_key ∙ rw add-zero refl

  pub step-rest : rest ≡ drop (i + 1) all
  step-rest = ap (drop 1) (sym s ∙ e) ∙ drop-drop 1 i all
