-- What the emitters of a batch write, put together.
use Prim.Native.Nat.{ℕ}
use mathlib.Core.Path.{◌≡◌, refl, sym, ap, ◌∙◌, subst}
use mathlib.Core.List.{List, [], ◌∷◌, ◌++◌, map, flat_map, append-nil, append_assoc}
use mathlib.Core.Option.{Option, none, some}
use native.Mathlib.Omega.{arith}
use lib.IntN.{pos, neg_ℤ}
use lib.ListN.{length}
use Rattle.wire.specs.Bytes.{All}
use Rattle.wire.specs.Keys.{Key}
use Rattle.wire.specs.Output.{with_bytes}
use Rattle.wire.specs.declared.output.Output.{Output}
use Rattle.wire.specs.Encode.{encode_field, encode, key_field}
use Rattle.wire.specs.declared.bpos.Bpos.{Bpos}
use Rattle.wire.specs.declared.kinds.Bucket.{Bucket}
use Rattle.wire.proofs.AppendLaws.{with-none, with-with}
use Rattle.wire.proofs.EncodeLaws.{encode-append, encode_one}
use Rattle.calls.specs.Lists.{from_option}
use Rattle.calls.specs.CallList.{tree_fields}
use Rattle.calls.specs.Accounting.{buckets_row}
use Rattle.calls.specs.ChangeList.{batch_fields, discarded_field, end_field}
use Rattle.calls.specs.Discard.{joined_runs, run_key, waiting_key, waiting_deletions, discard_batch}
use Rattle.calls.specs.Trees.{deletion}
use Rattle.calls.proofs.lists.AllLaws.{first, all_tail}
use Rattle.reader.specs.ListedKeys.{keys_listed}
use Rattle.reader.specs.Located.{no_key}
use Rattle.reader.specs.declared.listed_keys.Keys.{Keys}
use Rattle.reader.proofs.SkipLaws.{all-indexed}
use Rattle.need_discard.specs.Kept.{DiscardedKept}
use Rattle.need_discard.specs.Table.{waits_of}
use Rattle.discard.specs.Emitted.{discarded_key, buckets_of, batch_bytes}
use Rattle.discard.specs.Shown.{DiscardShown}
use Rattle.accounting.specs.RowBytes.{rows_bytes}
use Rattle.change_fields.specs.FieldBytes.{keys_bytes}
use Rattle.change_fields.proofs.FieldLists.{fields-none}
use Rattle.std.specs.Prelude as std

-- the deletion of the key that stands for a bucket
module _ (needs : List Key) (b : Bucket) where
  pub none-waits : {r : std.Option Bpos} → r ≡ waits_of (waiting_key needs b) → r ≡ std.None → waiting_deletions needs b ≡ []
  unfolding waiting_deletions
  none-waits = go (waiting_key needs b)
    where
      go : {r : std.Option Bpos} (o : Option Key) → r ≡ waits_of o → r ≡ std.None → from_option [] (λ (k : Key). deletion k.pos ∷ []) o ≡ []
      go none p q = refl
      go (some k) p q = absurd (let z : ◌≡◌ {A = ℕ} 0 1 = cc in omega arith)

  pub one-waits : {r : std.Option Bpos} {x : Bpos} → r ≡ waits_of (waiting_key needs b) → r ≡ std.Some x → waiting_deletions needs b ≡ deletion x ∷ []
  unfolding waiting_deletions
  one-waits {x = x} = go (waiting_key needs b)
    where
      go : {r : std.Option Bpos} (o : Option Key) → r ≡ waits_of o → r ≡ std.Some x → from_option [] (λ (k : Key). deletion k.pos ∷ []) o ≡ deletion x ∷ []
      go none p q = absurd (let z : ◌≡◌ {A = ℕ} 0 1 = cc in omega arith)
      go (some k) p q = let e : k.pos ≡ x = cc in rw e

-- a batch, tree by tree
pub batch-is : (needs ks : List Key) {n : ℕ} → n ≡ length ks
    → keys_bytes 4 (map discarded_key ks)
    ++ (keys_bytes 11 (map run_key (joined_runs (buckets_of ks)))
    ++ (keys_bytes 12 (flat_map (waiting_deletions needs) (buckets_of ks))
    ++ (rows_bytes (buckets_row 0 (pos n) (pos 0) (pos 0) ∷ buckets_row 9 (neg_ℤ (pos n)) (pos 0) (pos 0) ∷ [])
    ++ (encode (map discarded_field (buckets_of ks)) ++ encode_field end_field))))
    ≡ batch_bytes needs ks
unfolding batch_fields discard_batch tree_fields
batch-is needs ks e = sym (simp (append-nil, append_assoc, encode-append, encode_one, e))

module _ (needs : List Key) (b : Bucket) where
  pub no-deletion : {r : std.Option Bpos} → r ≡ waits_of (waiting_key needs b) → r ≡ std.None → keys_bytes 12 (waiting_deletions needs b) ≡ []
  no-deletion p q = fields-none (key_field 12) (none-waits needs b p q)

  pub one-deletion : {r : std.Option Bpos} {x : Bpos} → r ≡ waits_of (waiting_key needs b) → r ≡ std.Some x
      → encode_field (key_field 12 (deletion x)) ≡ keys_bytes 12 (waiting_deletions needs b)
  one-deletion {x = x} p q = sym (ap (keys_bytes 12) (one-waits needs b p q) ∙ encode_one (key_field 12 (deletion x)))

-- a walk along the keys of a discard: what is put of each, and what is shown of those that are left
module _ (B : List Key → List ℕ) where
  pub walk-turn : {ks rest : List Key} {k : Key} (bs : List ℕ) (p r : Output) → ks ≡ k ∷ rest → B (k ∷ rest) ≡ bs ++ B rest → r ≡ with_bytes p bs
      → with_bytes r (B rest) ≡ with_bytes p (B ks)
  walk-turn {rest = rest} bs p r s e w = rw (w, with-with p bs (B rest), s, e)

  pub walk-end : {ks : List Key} (p : Output) → ks ≡ [] → B [] ≡ [] → p ≡ with_bytes p (B ks)
  walk-end p s e = rw (s, e) (sym (with-none p))

pub shown-all : {ks : List Key} → DiscardShown ks → All DiscardedKept ks
shown-all {ks} h = all-indexed no_key ks h.at

module _ {ks rest : List Key} {k : Key} (s : ks ≡ k ∷ rest) (h : All DiscardedKept ks) where
  pub shown-here : DiscardedKept k
  shown-here = first (subst (All DiscardedKept) s h)

  pub shown-left : All DiscardedKept rest
  shown-left = all_tail (subst (All DiscardedKept) s h)

-- what a walk begins with
pub first-of : {keys start : Keys} {ks : List Key} → start ≡ keys → keys_listed start ≡ ks → keys_listed keys ≡ ks
first-of e h = rw e at h
