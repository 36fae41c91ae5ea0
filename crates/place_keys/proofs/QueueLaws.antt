-- Laws of the keys that the walk passed.
use mathlib.Core.Path.{◌≡◌, refl, sym, ap, ◌∙◌}
use mathlib.Core.Bool.{Bool, true, false, cond}
use mathlib.Core.List.{List, [], ◌∷◌, ◌++◌, map, map-append, append-nil}
use Prim.Native.Nat.{ℕ, suc, ◌≤◌}
use native.Mathlib.Omega.{arith}
use lib.ListN.{length, take, drop, length-take, length-append, length-map}
use lib.Seq.{append_snoc}
use Rattle.std.proofs.lemmas.List.{take-append-drop}
use borrow.Author.Tests.{ne_eqb, eq-eqb}
use Rattle.wire.specs.Keys.{Key}
use Rattle.wire.specs.Encode.{encode, key_field}
use Rattle.wire.specs.Output.{with_bytes}
use Rattle.wire.specs.declared.output.Output.{Output}
use Rattle.wire.proofs.EncodeLaws.{encode-append}
use Rattle.reader.specs.KeyHere.{key_here, keys_here}
use Rattle.calls.specs.Trees.{deletion}
use Rattle.calls.specs.Limits.{is_run}
use Rattle.calls.specs.Freespace.{shortened}
use Rattle.freespace.specs.Walks.{left_of, key_queue, queue_of}
use Rattle.place_keys.proofs.WalkLaws.{run-put}

-- a run with some buckets left: its size is another, and the rest is as it was
pub kept : (k : Key) {left : ℕ} → (left ≡ 0 → ⊥) → record k { size = left } ≡ shortened k left
unfolding shortened
kept k {left = left} z = simp (ne_eqb left 0 z)

-- a run with none left
pub deleted : (k : Key) {left : ℕ} → left ≡ 0 → shortened k left ≡ deletion k.pos
unfolding shortened
deleted k {left} h = simp (eq-eqb left 0 h)

-- the fields of the keys passed from one on: what that one queues, and what those after it queue
abbrev pub queue_bytes : List Key → List ℕ
queue_bytes ks = encode (map (key_field 11) ks)

bytes-append : (a b : List Key) → queue_bytes (a ++ b) ≡ queue_bytes a ++ queue_bytes b
bytes-append a b = ap encode (map-append (key_field 11) a b) ∙ encode-append (map (key_field 11) a) (map (key_field 11) b)

queue-one : (n left : ℕ) (k : Key) (ks : List Key) → queue_of (suc n) left (k ∷ ks) ≡ key_queue k (left_of n left) ++ queue_of n left ks
unfolding queue_of
queue-one n left k ks = go (is_run k)
  where
    go : (t : Bool)
        → cond t (shortened k (left_of n left) ∷ queue_of n left ks) (queue_of n left ks)
        ≡ cond t (shortened k (left_of n left) ∷ []) [] ++ queue_of n left ks
    go true = refl
    go false = refl

-- what keys that are walked to their ends queue, and after them a last one with some buckets left
abbrev pub queue_with : List Key → Key → ℕ → List Key
queue_with [] last left = key_queue last left
queue_with (k ∷ ks) last left = key_queue k 0 ++ queue_with ks last left

-- the first of the keys before the last one is put
pub passed-turn : (o : Output) {r : Output} {ks rest : List Key} {k : Key} (last : Key) (left : ℕ) → ks ≡ k ∷ rest → r ≡ with_bytes o (queue_bytes (key_queue k 0))
    → with_bytes r (queue_bytes (queue_with rest last left)) ≡ with_bytes o (queue_bytes (queue_with ks last left))
passed-turn o {rest = rest} {k = k} last left e w =
    run-put o _ _ (ap (λ l. queue_bytes (queue_with l last left)) e ∙ bytes-append (key_queue k 0) (queue_with rest last left)) w

-- the keys passed are some, a last one, and those after them that the walk did not come to
queue-parts : (ks : List Key) (last : Key) (rest : List Key) (left : ℕ) → queue_of (suc (length ks)) left (ks ++ (last ∷ rest)) ≡ queue_with ks last left
unfolding queue_of
queue-parts [] last rest left = queue-one 0 left last rest ∙ append-nil (key_queue last left)
queue-parts (k ∷ ks) last rest left = queue-one (suc (length ks)) left k (ks ++ (last ∷ rest)) ∙ ap (λ l. key_queue k 0 ++ l) (queue-parts ks last rest left)

-- at their places in a list
pub queue-is : (s places before : List ℕ) (last n left : ℕ) → n ≤ length places → take n places ≡ before ++ (last ∷ [])
    → queue_of n left (keys_here s places) ≡ queue_with (keys_here s before) (key_here s last) left
queue-is s places before last n left few e =
    let m : n ≡ suc (length (keys_here s before)) = omega (arith, ap length e, length-take n places, length-append before (last ∷ []), length-map before (key_here s)) in
    let parts : places ≡ before ++ (last ∷ drop n places) = sym (take-append-drop n places) ∙ ap (λ (l : List ℕ). l ++ drop n places) e ∙ append_snoc before last (drop n places) in
    let keys : keys_here s places ≡ keys_here s before ++ (key_here s last ∷ keys_here s (drop n places)) = ap (keys_here s) parts ∙ map-append (key_here s) before (last ∷ drop n places) in
    ap (λ l. queue_of n left l) keys ∙ ap (λ k. queue_of k left (keys_here s before ++ (key_here s last ∷ keys_here s (drop n places)))) m
    ∙ queue-parts (keys_here s before) (key_here s last) (keys_here s (drop n places)) left

-- what a key queues
pub passed-run : (k : Key) (left : ℕ) → is_run k ≡ true → key_queue k left ≡ shortened k left ∷ []
passed-run k left e = rw e

pub passed-other : (k : Key) (left : ℕ) → is_run k ≡ false → key_queue k left ≡ []
passed-other k left e = rw e

-- no key passed, nothing queued
pub passed_none : (ks : List Key) (left : ℕ) {passed : ℕ} → passed ≡ 0 → queue_of passed left ks ≡ []
unfolding queue_of
passed_none ks left e = ap (λ (n : ℕ). queue_of n left ks) e
