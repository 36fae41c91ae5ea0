-- Laws of tallies.
use mathlib.Core.Path.{◌≡◌, refl, sym, ap, ◌∙◌}
use mathlib.Core.Bool.{Bool, true, false, cond}
use mathlib.Core.List.{List, [], ◌∷◌, ◌++◌, append-nil}
use Prim.Native.Nat.{ℕ, zero, suc, ◌+◌, ◌≤◌, ◌<◌}
use native.Mathlib.Omega.{arith}
use lib.ListN.{length, length-append, get_or, set, replicate}
use lib.Seq.{append_snoc}
use Rattle.wire.specs.Bytes.{All, none, more}
use Rattle.calls.proofs.lists.AllLaws.{all-imp}
use lib.Dec.{eqb}
use borrow.Author.Tests.{eq-eqb, ne_eqb}
use Rattle.calls.specs.Lists.{those, total}
use Rattle.calls.specs.CallList.{Piece}
use Rattle.calls.proofs.lists.ThoseLaws.{those-append, those-one, those-other}
use Rattle.calls.proofs.lists.TotalLaws.{total-append}
use Rattle.accounting.specs.Tally.{tally_of, of_kind, kinds_of, tallies_of, sum, sums, both, Small, Smalls, Tallied}
use Rattle.accounting.specs.declared.tally.Tally.{Tally}
use Rattle.accounting.specs.declared.tally.Tallies.{Tallies}

-- tallies

pub tally-equal : (a b : Tally) → a.count ≡ b.count → a.file ≡ b.file → a.stored ≡ b.stored → a ≡ b
tally-equal a b c f s = λ x. record { count = c x; file = f x; stored = s x }

pub tally-append : (a b : List Piece) → tally_of (a ++ b) ≡ sum (tally_of a) (tally_of b)
tally-append a b = tally-equal _ _ (length-append a b) (total-append _ a b) (total-append _ a b)

pub sum-none : (a : Tally) → sum a (tally_of []) ≡ a
unfolding total
sum-none a = tally-equal _ _ (omega arith) (omega arith) (omega arith)

pub tally-one : (t : Tally) (p : Piece)
    → ◌≡◌ {A = Tally} (record { count = t.count + 1; file = t.file + p.file; stored = t.stored + p.stored }) (sum t (tally_of (p ∷ [])))
unfolding total
tally-one t p = tally-equal _ _ refl (omega arith) (omega arith)

pub kind-one : (kind : ℕ) (p : Piece) → p.kind ≡ kind → of_kind kind (p ∷ []) ≡ p ∷ []
unfolding of_kind
kind-one kind p e = those-one (λ p. eqb p.kind kind) p (eq-eqb p.kind kind e)

pub kind-other : (kind : ℕ) (p : Piece) → (p.kind ≡ kind → ⊥) → of_kind kind (p ∷ []) ≡ []
unfolding of_kind
kind-other kind p e = those-other (λ p. eqb p.kind kind) p (ne_eqb p.kind kind e)

kind-append : (kind : ℕ) (xs ys : List Piece) → of_kind kind (xs ++ ys) ≡ of_kind kind xs ++ of_kind kind ys
unfolding of_kind
kind-append kind xs ys = those-append (λ p. eqb p.kind kind) xs ys

tallies-equal : (a b : Tallies) → a.all ≡ b.all → a.kinds ≡ b.kinds → a ≡ b
tallies-equal a b p q = λ x. record { all = p x; kinds = q x }

-- the tallies of some pieces and of some more
both-append : (xs ys : List Piece) → both (tallies_of xs) (tallies_of ys) ≡ tallies_of (xs ++ ys)
both-append xs ys =
    let one : (kind : ℕ) → sum (tally_of (of_kind kind xs)) (tally_of (of_kind kind ys)) ≡ tally_of (of_kind kind (xs ++ ys)) =
    λ kind. sym (ap tally_of (kind-append kind xs ys) ∙ tally-append (of_kind kind xs) (of_kind kind ys)) in
    tallies-equal _ _ (sym (tally-append xs ys)) (λ x. one 2 x ∷ one 3 x ∷ one 4 x ∷ one 5 x ∷ [])

-- a piece counts for its kind alone

same-kind : (kind : ℕ) (p : Piece) (t : Tally) → p.kind ≡ kind → sum t (tally_of (p ∷ [])) ≡ sum t (tally_of (of_kind kind (p ∷ [])))
same-kind kind p t e = rw (kind-one kind p e)

other-kind : (kind : ℕ) (p : Piece) (t : Tally) → (p.kind ≡ kind → ⊥) → t ≡ sum t (tally_of (of_kind kind (p ∷ [])))
other-kind kind p t h = rw (kind-other kind p h) (sym (sum-none t))

pub kind-counts : (ts : List Tally) (k : ℕ) (p : Piece) (d : Tally) → length ts ≡ 4 → p.kind ≡ k + 2 → k < 4
    → set ts k (sum (get_or ts k d) (tally_of (p ∷ []))) ≡ sums ts (kinds_of (p ∷ []))
kind-counts (a ∷ b ∷ c ∷ e ∷ []) zero p d l h n =
    λ x. same-kind 2 p a h x ∷ other-kind 3 p b (λ z. omega arith) x ∷ other-kind 4 p c (λ z. omega arith) x ∷ other-kind 5 p e (λ z. omega arith) x ∷ []
kind-counts (a ∷ b ∷ c ∷ e ∷ []) (suc zero) p d l h n =
    λ x. other-kind 2 p a (λ z. omega arith) x ∷ same-kind 3 p b h x ∷ other-kind 4 p c (λ z. omega arith) x ∷ other-kind 5 p e (λ z. omega arith) x ∷ []
kind-counts (a ∷ b ∷ c ∷ e ∷ []) (suc (suc zero)) p d l h n =
    λ x. other-kind 2 p a (λ z. omega arith) x ∷ other-kind 3 p b (λ z. omega arith) x ∷ same-kind 4 p c h x ∷ other-kind 5 p e (λ z. omega arith) x ∷ []
kind-counts (a ∷ b ∷ c ∷ e ∷ []) (suc (suc (suc zero))) p d l h n =
    λ x. other-kind 2 p a (λ z. omega arith) x ∷ other-kind 3 p b (λ z. omega arith) x ∷ other-kind 4 p c (λ z. omega arith) x ∷ same-kind 5 p e h x ∷ []
kind-counts (a ∷ b ∷ c ∷ e ∷ []) (suc (suc (suc (suc k)))) p d l h n = absurd (omega arith)
kind-counts [] k p d l h n = absurd (omega arith)
kind-counts (a ∷ []) k p d l h n = absurd (omega arith)
kind-counts (a ∷ b ∷ []) k p d l h n = absurd (omega arith)
kind-counts (a ∷ b ∷ c ∷ []) k p d l h n = absurd (omega arith)
kind-counts (a ∷ b ∷ c ∷ e ∷ f ∷ ts) k p d l h n = absurd (omega arith)

pub no-kind-counts : (ts : List Tally) (p : Piece) → length ts ≡ 4 → (2 ≤ p.kind → p.kind ≤ 5 → ⊥) → ts ≡ sums ts (kinds_of (p ∷ []))
no-kind-counts (a ∷ b ∷ c ∷ e ∷ []) p l h =
    λ x. other-kind 2 p a (λ z. h (omega arith) (omega arith)) x ∷ other-kind 3 p b (λ z. h (omega arith) (omega arith)) x
    ∷ other-kind 4 p c (λ z. h (omega arith) (omega arith)) x
    ∷ other-kind 5 p e (λ z. h (omega arith) (omega arith)) x
    ∷ []
no-kind-counts [] p l h = absurd (omega arith)
no-kind-counts (a ∷ []) p l h = absurd (omega arith)
no-kind-counts (a ∷ b ∷ []) p l h = absurd (omega arith)
no-kind-counts (a ∷ b ∷ c ∷ []) p l h = absurd (omega arith)
no-kind-counts (a ∷ b ∷ c ∷ e ∷ f ∷ ts) p l h = absurd (omega arith)

-- few pieces have small tallies

small-none : Small 0 (tally_of [])
unfolding total
small-none = record { count = omega arith; file = omega arith; stored = omega arith }

small-one : (p : Piece) → p.file < 65536 → p.stored < 65536 → Small 1 (tally_of (p ∷ []))
unfolding total
small-one p f s = record { count = omega arith; file = omega arith; stored = omega arith }

small-more : {m n : ℕ} {t : Tally} → m ≤ n → Small m t → Small n t
small-more h s = record { count = omega (arith, s.count); file = omega (arith, s.file); stored = omega (arith, s.stored) }

small-sum : {m n : ℕ} {t u : Tally} → Small m t → Small n u → Small (m + n) (sum t u)
small-sum a b = record { count = omega (arith, a.count, b.count); file = omega (arith, a.file, b.file); stored = omega (arith, a.stored, b.stored) }

small-kind : (kind : ℕ) (p : Piece) → p.file < 65536 → p.stored < 65536 → Small 1 (tally_of (of_kind kind (p ∷ [])))
unfolding of_kind those
small-kind kind p f s = go (eqb p.kind kind)
  where
    go : (b : Bool) → Small 1 (tally_of (cond b (p ∷ []) []))
    go true = small-one p f s
    go false = small-more (omega arith) small-none

small-sums : {m n : ℕ} {ts us : List Tally} → All (Small m) ts → All (Small n) us → All (Small (m + n)) (sums ts us)
small-sums none b = none
small-sums (more p a) none = none
small-sums (more p a) (more q b) = more (small-sum p q) (small-sums a b)

pub smalls-none : Smalls 0 (tallies_of [])
unfolding of_kind those
smalls-none = record { all = small-none; kinds = more small-none (more small-none (more small-none (more small-none none))) }

pub smalls-more : {m n : ℕ} {t : Tallies} → m ≤ n → Smalls m t → Smalls n t
smalls-more h s = record { all = small-more h s.all; kinds = all-imp (λ t k. small-more h k) s.kinds }

pub smalls-next : {n : ℕ} {t r : Tallies} (p : Piece) → p.file < 65536 → p.stored < 65536 → Smalls n t → r ≡ both t (tallies_of (p ∷ []))
    → Smalls (n + 1) r
smalls-next p f s q e =
    rw e
    (record {
      all = small-sum q.all (small-one p f s);
      kinds = small-sums q.kinds (more (small-kind 2 p f s) (more (small-kind 3 p f s) (more (small-kind 4 p f s) (more (small-kind 5 p f s) none))));
    })

-- of some pieces, those passed are tallied, and the others are left
pub record TalliedUpTo (ps left : List Piece) (t : Tallies) : Type 0 where
  pub passed : List Piece
  pub parts : passed ++ left ≡ ps
  pub is : t ≡ tallies_of passed
  pub small : Smalls (length passed) t

-- tallies of zeros are those of no piece
abbrev Zeros : Tally → Type 0
Zeros t = (t.count ≡ 0) × ((t.file ≡ 0) × (t.stored ≡ 0))

four-zeros : (ts : List Tally) → length ts ≡ 4 → ((i : ℕ) → i < 4 → Zeros (get_or ts i (tally_of []))) → ts ≡ kinds_of []
unfolding of_kind those total
four-zeros (a ∷ b ∷ c ∷ e ∷ []) l z =
    let none : (t : Tally) → Zeros t → t ≡ tally_of [] = λ t h. tally-equal t _ h.0 h.1.0 h.1.1 in
    λ x. none a (z 0 (omega arith)) x ∷ none b (z 1 (omega arith)) x ∷ none c (z 2 (omega arith)) x ∷ none e (z 3 (omega arith)) x ∷ []
four-zeros [] l z = absurd (omega arith)
four-zeros (a ∷ []) l z = absurd (omega arith)
four-zeros (a ∷ b ∷ []) l z = absurd (omega arith)
four-zeros (a ∷ b ∷ c ∷ []) l z = absurd (omega arith)
four-zeros (a ∷ b ∷ c ∷ e ∷ f ∷ ts) l z = absurd (omega arith)

pub zero-tallies : {t : Tallies} → Zeros t.all → length t.kinds ≡ 4 → ((i : ℕ) → i < 4 → Zeros (get_or t.kinds i (tally_of []))) → t ≡ tallies_of []
unfolding total
zero-tallies a l k = tallies-equal _ _ (tally-equal _ _ a.0 a.1.0 a.1.1) (four-zeros _ l k)

-- four tallies of no piece are those of the kinds, as an array of them is filled
pub none-tallied : {a b : Tally} → a ≡ tally_of [] → b ≡ tally_of [] → ◌≡◌ {A = Tallies} (record { all = a; kinds = replicate 4 b }) (tallies_of [])
unfolding of_kind those
none-tallied e f = tallies-equal _ _ e (λ x. f x ∷ f x ∷ f x ∷ f x ∷ [])

pub tallied-first : {ps left : List Piece} {t : Tallies} → t ≡ tallies_of [] → left ≡ ps → TalliedUpTo ps left t
tallied-first e f = record { passed = []; parts = f; is = e; small = rw e smalls-none }

module _ {ps left : List Piece} {t : Tallies} (d : TalliedUpTo ps left t) where
  pub tallied-few : {p : Piece} {rest : List Piece} → left ≡ p ∷ rest → length ps ≤ 1024 → Smalls 1023 t
  tallied-few e h = smalls-more (omega (arith, ap length d.parts, length-append d.passed left, ap length e)) d.small

  pub tallied-next : {r : Tallies} (p : Piece) (rest : List Piece) → left ≡ p ∷ rest → p.file < 65536 → p.stored < 65536 → r ≡ both t (tallies_of (p ∷ [])) → TalliedUpTo ps rest r
  tallied-next {r} p rest e f s g =
      record {
        passed = d.passed ++ (p ∷ []);
        parts = append_snoc d.passed p rest ∙ ap (λ (l : List Piece). d.passed ++ l) (sym e) ∙ d.parts;
        is = rw (g, d.is) (both-append d.passed (p ∷ []));
        small = smalls-more (omega (arith, length-append d.passed (p ∷ []))) (smalls-next p f s d.small g);
      }

  pub tallied-end : left ≡ [] → length ps ≤ 1024 → Tallied ps t
  tallied-end e h =
      let whole : d.passed ≡ ps = sym (append-nil d.passed) ∙ ap (λ (l : List Piece). d.passed ++ l) (sym e) ∙ d.parts in
      record { is = d.is ∙ ap tallies_of whole; small = smalls-more (omega (arith, ap length whole)) d.small }
