-- Batches of a size: the next one, and what is left.
use Prim.Native.Nat.{ℕ, zero, suc, ◌+◌, ◌≤◌, ◌<◌, min}
use mathlib.Core.Path.{◌≡◌, refl, sym, ap, ◌∙◌, subst}
use mathlib.Core.Logic.{inl, inr}
use mathlib.Core.List.{List, [], ◌∷◌, ◌++◌, map, map-append, append-nil}
use native.Mathlib.Omega.{arith}
use lib.ListN.{length, get_or, take, drop, length-append, length-drop, drop_of_length-le, get_or-append, length-map}
use lib.Seq.{take_all, take-append_seam, drop-append_seam}
use Rattle.std.proofs.Common.{get_or-append-add}
use Rattle.std.proofs.lemmas.Bool.{cases_lt}
use Rattle.std.proofs.lemmas.List.{nil_from_length}
use Rattle.wire.specs.Keys.{Key}
use Rattle.wire.specs.Encode.{encode}
use Rattle.wire.specs.Output.{with_bytes}
use Rattle.wire.specs.declared.output.Output.{Output}
use Rattle.wire.proofs.AppendLaws.{with-none, with-with}
use Rattle.wire.proofs.EncodeLaws.{encode-none, encode-append}
use Rattle.calls.specs.ChangeList.{Batch, batch_fields, change_fields, change_bytes}
use Rattle.calls.specs.Discard.{chunks, discard_batch}
use Rattle.reader.specs.KeyHere.{key_here, keys_here, Whole, WholeKeys}
use Rattle.reader.specs.Located.{no_key}
use Rattle.need_discard.specs.Chosen.{need_trees}
use Rattle.need_discard.specs.Kept.{DiscardedKept}
use Rattle.discard.specs.Emitted.{batch_bytes, changes_from}
use Rattle.discard.specs.Shown.{DiscardShown}

-- chunks, however many are allowed
module _ {A : Type 0} (size : ℕ) (h : 0 < size) where
  chunks-enough : (m n : ℕ) (xs : List A) → length xs ≤ m → length xs ≤ n → chunks m size xs ≡ chunks n size xs
  unfolding chunks
  chunks-enough zero zero xs a b = refl
  chunks-enough zero (suc n) [] a b = refl
  chunks-enough zero (suc n) (x ∷ xs) a b = absurd (omega arith)
  chunks-enough (suc m) zero [] a b = refl
  chunks-enough (suc m) zero (x ∷ xs) a b = absurd (omega arith)
  chunks-enough (suc m) (suc n) [] a b = refl
  chunks-enough (suc m) (suc n) (x ∷ xs) a b =
      let l = length-drop size (x ∷ xs) in
      ap (λ (l : List (List A)). take size (x ∷ xs) ∷ l) (chunks-enough m n (drop size (x ∷ xs)) (omega arith) (omega arith))

  pub chunks-next : (xs : List A) → 0 < length xs → chunks (length xs) size xs ≡ take size xs ∷ chunks (length (drop size xs)) size (drop size xs)
  unfolding chunks
  chunks-next [] l = absurd (omega arith)
  chunks-next (x ∷ xs) l =
      let d = length-drop size (x ∷ xs) in
      ap (λ (l : List (List A)). take size (x ∷ xs) ∷ l)
      (chunks-enough (length xs) (length (drop size (x ∷ xs))) (drop size (x ∷ xs)) (omega arith) (omega arith))

-- the bytes of a batch, and of those after it
change-next : (b : Batch) (bs : List Batch) → change_bytes (b ∷ bs) ≡ encode (batch_fields b) ++ change_bytes bs
unfolding change_bytes change_fields
change-next b bs = encode-append (batch_fields b) (change_fields bs)

change-none : change_bytes [] ≡ []
unfolding change_bytes change_fields
change-none = encode-none

-- the batch that comes next, and what is left: the code's parts are those of `chunks`
module _ {A : Type 0} (size : ℕ) (all part rest : List A) (e : all ≡ part ++ rest) (n : length part ≡ min size (length all)) where
  cut : (take size all ≡ part) × (drop size all ≡ rest)
  cut =
      elim (cases_lt (length all) size) [
        | inl short ↦
            let none : rest ≡ [] = nil_from_length rest (omega (arith, ap length e, length-append part rest)) in
            (take_all size all (omega arith) ∙ e ∙ rw (none, append-nil), drop_of_length-le all {i = size} (omega arith) ∙ sym none)
        | inr long ↦
            let m : length part ≡ size = omega arith in (
              ap (take size) e ∙ ap (λ (k : ℕ). take k (part ++ rest)) (sym m) ∙ take-append_seam part rest,
              ap (drop size) e ∙ ap (λ (k : ℕ). drop k (part ++ rest)) (sym m) ∙ drop-append_seam part rest,
            )
      ]

-- of the keys at a part of some places, and at the rest of them, is shown what is shown of all
module _ (s : List ℕ) {all : List ℕ} (part rest : List ℕ) (e : all ≡ part ++ rest) where
  keys : keys_here s all ≡ keys_here s part ++ keys_here s rest
  keys = ap (keys_here s) e ∙ map-append (key_here s) part rest

  long : length (keys_here s all) ≡ length (keys_here s part) + length (keys_here s rest)
  long = ap length keys ∙ length-append (keys_here s part) (keys_here s rest)

  module _ (h : DiscardShown (keys_here s all)) where
    pub part-shown : DiscardShown (keys_here s part)
    part-shown =
        record {
          at = λ i l. subst DiscardedKept (ap (λ (ks : List Key). get_or ks i no_key) keys ∙ get_or-append (keys_here s part) (keys_here s rest) no_key i l) (h.at i (omega (arith, long)));
          few = omega (arith, long, h.few);
        }

    pub rest-shown : DiscardShown (keys_here s rest)
    rest-shown =
        record {
          at =
              λ i l.
              subst DiscardedKept (ap (λ (ks : List Key). get_or ks (length (keys_here s part) + i) no_key) keys ∙ get_or-append-add (keys_here s part) (keys_here s rest) i no_key)
              (h.at (length (keys_here s part) + i) (omega (arith, long)));
          few = omega (arith, long, h.few);
        }

  module _ (h : WholeKeys s all) where
    size_is : length all ≡ length part + length rest
    size_is = ap length e ∙ length-append part rest

    pub part-whole : WholeKeys s part
    part-whole = record { at = λ i l. subst (Whole s) (ap (λ (os : List ℕ). get_or os i 0) e ∙ get_or-append part rest 0 i l) (h.at i (omega (arith, size_is))) }

    pub rest-whole : WholeKeys s rest
    rest-whole =
        record {
          at = λ i l. subst (Whole s) (ap (λ (os : List ℕ). get_or os (length part + i) 0) e ∙ get_or-append-add part rest i 0) (h.at (length part + i) (omega (arith, size_is)));
        }

-- a turn of the loop over batches: of those that are left, the next one is put
pub batch-turn :
    (s : List ℕ) (needs : List Key) (size : ℕ) (all part rest : List ℕ) (o q : Output) → 0 < size → 0 < length part → all ≡ part ++ rest
    → length part ≡ min size (length all) → q ≡ with_bytes o (batch_bytes needs (keys_here s part))
    → with_bytes q (changes_from needs size (keys_here s rest)) ≡ with_bytes o (changes_from needs size (keys_here s all))
batch-turn s needs size all part rest o q h l e n w =
    let f = key_here s in
    let k = cut size (keys_here s all) (keys_here s part) (keys_here s rest) (keys s part rest e) (omega (arith, n, length-map part f, length-map all f)) in
    let c : changes_from needs size (keys_here s all) ≡ batch_bytes needs (take size (keys_here s all)) ++ changes_from needs size (drop size (keys_here s all)) =
    ap (λ (l : List (List Key)). change_bytes (map (discard_batch (need_trees needs)) l)) (chunks-next size h (keys_here s all) (omega (arith, length-map all f, ap length e, length-append part rest, l)))
    ∙ change-next _ _ in
    rw (w, with-with o (batch_bytes needs (keys_here s part)) (changes_from needs size (keys_here s rest)), c, k.0, k.1)

-- the end: none is left
pub batch-end : (s : List ℕ) (needs : List Key) (size : ℕ) (os : List ℕ) (o : Output) → length os ≡ 0 → with_bytes o (changes_from needs size (keys_here s os)) ≡ o
unfolding chunks
batch-end s needs size os o h = rw (nil_from_length os h, change-none) (with-none o)
