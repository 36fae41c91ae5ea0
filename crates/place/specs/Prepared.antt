-- What is prepared for the change list of a plan: the walk, the tallies and the clock.
use Rattle.std.specs.Prelude.{ℕ, ◌≤◌, ◌≡◌, List, [], ◌∷◌, length}
use Rattle.std.specs.Coded.{le_prop, Coded-set, codes}
use Rattle.wire.specs.Bytes.{All, none, more}
use Rattle.calls.specs.Clock.{clock_of}
use Rattle.calls.specs.Place.{walk_of}
use Rattle.calls.specs.Answers.{read_call, read_volume}
use Rattle.reader.specs.ListedKeys.{keys_listed}
use Rattle.reader.specs.declared.listed_keys.Keys.{Keys}
use Rattle.freespace.specs.Walks.{queue_of}
use Rattle.freespace.specs.declared.take.Walked.{Walked}
use Rattle.accounting.specs.Tally.{Small, Tallied}
use Rattle.accounting.specs.declared.tally.Tally.{Tally}
use Rattle.accounting.specs.declared.tally.Tallies.{Tallies}

pub record Prepared (s : List ℕ) (ks : Keys) (w : Walked) (t : Tallies) (time : ℕ) : Type 0 where
  pub few : w.passed ≤ length ks.places.now
  pub queue : queue_of w.passed w.left (keys_listed ks) ≡ (walk_of (read_call s)).queue
  pub tallied : Tallied (read_call s).pieces t
  pub clock : time ≡ clock_of (read_volume s).trees.alloc

-- it has one proof at most
all-prop : {A : Type 0} {P : A → Type 0} → ((a : A) → IsProp (P a)) → (s : List A) (x y : All P s) → x ≡ y
all-prop h [] none none = λ i. none
all-prop h (a ∷ s) (more p q) (more u v) = λ i. more (h a p u i) (all-prop h s q v i)

small-prop : (ts : List Tally) → IsProp (All (Small 1024) ts)
small-prop ts = all-prop (λ t. hlevel le_prop) ts

pub prepared-prop : (s : List ℕ) (ks : Keys) (w : Walked) (t : Tallies) (time : ℕ) → IsProp (Prepared s ks w t time)
prepared-prop s ks w t time = hlevel (small-prop, le_prop, Coded-set, codes)
