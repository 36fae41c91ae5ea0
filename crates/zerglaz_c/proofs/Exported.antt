-- What each exported function says, in the words of its contract: it meets the contract in every model of memory (`statement`, which the toolchain makes of the
-- contract in src/lib.rt); the contract asks nothing of the arguments (`Asked`, what a caller must show); and what it says after the call (`Learnt`, what a caller learns).
-- There `a` are the arguments at entry, `e` the same at exit, `now` is what a reference refers to, and `r` is the number that the call answers.
use Prim.Native.Nat.{ℕ}
use mathlib.Core.Path.{◌≡◌, refl}
use mathlib.Core.List.{List}
use lib.ListN.{length}
use borrow.Fn.Kinds.{Dens, ended_of}
use contract.Lifetimes.{Lfts}
use denote.Triple.Clauses.{AtExit}
use Rattle.wire.specs.Kinds.{buckets_in}
use Rattle.calls.specs.Answers.{made, outcome, scratch_after, place, release, discard, apply, sort, generations, looked_up, generations_outcome}
use Rattle.zerglaz_c.proofs.zerglaz_place.Kinds as place_k
use Rattle.zerglaz_c.proofs.zerglaz_place.Met as place_m
use Rattle.zerglaz_c.proofs.zerglaz_place.Reads as place_r
use Rattle.zerglaz_c.proofs.zerglaz_place.Statement as place_s
use Rattle.zerglaz_c.proofs.zerglaz_release.Kinds as release_k
use Rattle.zerglaz_c.proofs.zerglaz_release.Met as release_m
use Rattle.zerglaz_c.proofs.zerglaz_release.Reads as release_r
use Rattle.zerglaz_c.proofs.zerglaz_release.Statement as release_s
use Rattle.zerglaz_c.proofs.zerglaz_discard.Kinds as discard_k
use Rattle.zerglaz_c.proofs.zerglaz_discard.Met as discard_m
use Rattle.zerglaz_c.proofs.zerglaz_discard.Reads as discard_r
use Rattle.zerglaz_c.proofs.zerglaz_discard.Statement as discard_s
use Rattle.zerglaz_c.proofs.zerglaz_apply.Kinds as apply_k
use Rattle.zerglaz_c.proofs.zerglaz_apply.Met as apply_m
use Rattle.zerglaz_c.proofs.zerglaz_apply.Reads as apply_r
use Rattle.zerglaz_c.proofs.zerglaz_apply.Statement as apply_s
use Rattle.zerglaz_c.proofs.zerglaz_sort.Kinds as sort_k
use Rattle.zerglaz_c.proofs.zerglaz_sort.Met as sort_m
use Rattle.zerglaz_c.proofs.zerglaz_sort.Reads as sort_r
use Rattle.zerglaz_c.proofs.zerglaz_sort.Statement as sort_s
use Rattle.zerglaz_c.proofs.zerglaz_generations.Kinds as generations_k
use Rattle.zerglaz_c.proofs.zerglaz_generations.Met as generations_m
use Rattle.zerglaz_c.proofs.zerglaz_generations.Reads as generations_r
use Rattle.zerglaz_c.proofs.zerglaz_generations.Statement as generations_s

pub zerglaz-place : {M : Type 1} → place_s.statement M
zerglaz-place = place_m.met

module _ (κs : Lfts 3) (a : Dens κs place_k.ps) (r : ℕ) (e : AtExit (ended_of 3 place_k.ps place_k.r) κs) where
  pub place-asks : place_r.Asked κs a ≡ Unit {0}
  place-asks = refl

  pub place-says :
      let list : List ℕ = a.0.now in
      let out : List ℕ = a.1.0.now in
      let out-after : List ℕ = e.1.0.now in
      let written_after : ℕ = e.1.1.0.now in
      place_r.Learnt κs a r e ≡ (made r written_after out-after ≡ outcome (place list (length out)) out)
  place-says = refl

pub zerglaz-release : {M : Type 1} → release_s.statement M
zerglaz-release = release_m.met

module _ (κs : Lfts 4) (a : Dens κs release_k.ps) (r : ℕ) (e : AtExit (ended_of 4 release_k.ps release_k.r) κs) where
  pub release-asks : release_r.Asked κs a ≡ Unit {0}
  release-asks = refl

  pub release-says :
      let list : List ℕ = a.0.now in
      let scratch : List ℕ = a.1.0.now in
      let scratch-left : List ℕ = e.1.0.now in
      let out : List ℕ = a.1.1.0.now in
      let out-after : List ℕ = e.1.1.0.now in
      let written_after : ℕ = e.1.1.1.0.now in
      release_r.Learnt κs a r e
      ≡ ((made r written_after out-after ≡ outcome (release list (length scratch) (length out)) out) × (scratch-left ≡ scratch_after scratch))
  release-says = refl

pub zerglaz-discard : {M : Type 1} → discard_s.statement M
zerglaz-discard = discard_m.met

module _ (κs : Lfts 3) (a : Dens κs discard_k.ps) (r : ℕ) (e : AtExit (ended_of 3 discard_k.ps discard_k.r) κs) where
  pub discard-asks : discard_r.Asked κs a ≡ Unit {0}
  discard-asks = refl

  pub discard-says :
      let list : List ℕ = a.0.now in
      let out : List ℕ = a.1.0.now in
      let out-after : List ℕ = e.1.0.now in
      let written_after : ℕ = e.1.1.0.now in
      discard_r.Learnt κs a r e ≡ (made r written_after out-after ≡ outcome (discard list (length out)) out)
  discard-says = refl

pub zerglaz-apply : {M : Type 1} → apply_s.statement M
zerglaz-apply = apply_m.met

module _ (κs : Lfts 4) (a : Dens κs apply_k.ps) (r : ℕ) (e : AtExit (ended_of 4 apply_k.ps apply_k.r) κs) where
  pub apply-asks : apply_r.Asked κs a ≡ Unit {0}
  apply-asks = refl

  pub apply-says :
      let volume : List ℕ = a.0.now in
      let change : List ℕ = a.1.0.now in
      let out : List ℕ = a.1.1.0.now in
      let out-after : List ℕ = e.1.1.0.now in
      let written_after : ℕ = e.1.1.1.0.now in
      apply_r.Learnt κs a r e ≡ (made r written_after out-after ≡ outcome (apply volume change (length out)) out)
  apply-says = refl

pub zerglaz-sort : {M : Type 1} → sort_s.statement M
zerglaz-sort = sort_m.met

module _ (κs : Lfts 3) (a : Dens κs sort_k.ps) (r : ℕ) (e : AtExit (ended_of 3 sort_k.ps sort_k.r) κs) where
  pub sort-asks : sort_r.Asked κs a ≡ Unit {0}
  sort-asks = refl

  pub sort-says :
      let list : List ℕ = a.0.now in
      let out : List ℕ = a.1.0.now in
      let out-after : List ℕ = e.1.0.now in
      let written_after : ℕ = e.1.1.0.now in
      sort_r.Learnt κs a r e ≡ (made r written_after out-after ≡ outcome (sort list (length out)) out)
  sort-says = refl

pub zerglaz-generations : {M : Type 1} → generations_s.statement M
zerglaz-generations = generations_m.met

module _ (κs : Lfts 4) (a : Dens κs generations_k.ps) (r : ℕ) (e : AtExit (ended_of 4 generations_k.ps generations_k.r) κs) where
  pub generations-asks : generations_r.Asked κs a ≡ Unit {0}
  generations-asks = refl

  pub generations-says :
      let volume : List ℕ = a.0.now in
      let buckets : List ℕ = a.1.0.now in
      let out : List ℕ = a.1.1.0.now in
      let out-after : List ℕ = e.1.1.0.now in
      let visited-after : ℕ = e.1.1.1.0.now in
      generations_r.Learnt κs a r e
      ≡ (looked_up r visited-after out-after ≡ generations_outcome (generations volume (buckets_in buckets) (length out)) out)
  generations-says = refl
