-- The loop over the sections, and the answer.
use mathlib.Core.Path.{◌≡◌, refl, ap, sym, ◌∙◌}
use mathlib.Core.Bool.{Bool, true, false, ◌&&◌, and-true, and_assoc}
use mathlib.Core.List.{List, [], ◌∷◌, map}
use Prim.Native.Nat.{ℕ, ◌+◌, ◌<◌, min}
use native.Mathlib.Omega.{arith}
use lib.Dec.{leb}
use lib.ListN.{length, drop, get_or, get_or-map}
use Rattle.std.specs.Borrow.{Bor}
use Rattle.std.proofs.Common.{Some}
use Rattle.merge.specs.QueueTable.{QueuePart}
use Rattle.merge.specs.QueueParts.{InParts}
use Rattle.merge.specs.declared.queue.Queue.{Queue}
use Rattle.reader.specs.Heads.{head_in}
use Rattle.reader.specs.declared.read_list.ReadList.{ReadList}
use Rattle.reader.proofs.PartsLaws.{volume-passed}
use Rattle.wire.specs.Numbers.{each}
use Rattle.wire.specs.Output.{cap, with_bytes}
use Rattle.wire.specs.declared.output.Output.{Output}
use Rattle.wire.proofs.AppendLaws.{with-none, with-with}
use Rattle.wire.proofs.OutputLaws.{drop-next, each_next, each_none}
use Rattle.calls.specs.Lists.{all_of}
use Rattle.calls.specs.CallList.{volume_laid_out, none_twice}
use Rattle.calls.specs.Limits.{volume_within}
use Rattle.calls.specs.ChangeList.{change_laid_out}
use Rattle.calls.specs.Refusals.{test}
use Rattle.calls.specs.Answers.{Outcome, answer, read_volume, next_volume, apply, made, outcome}
use Rattle.calls.proofs.answers.AnswerLaws.{apply-is}
use Rattle.calls.proofs.answers.OutcomeLaws.{answer-next, answer-stops, refused}
use Rattle.reader.proofs.AnswerLaws.{counted}
use Rattle.wire.specs.Fields.{fields}
use Rattle.calls.specs.Trees.{apply_queue}
use Rattle.sorting.specs.Entries.{sections, entries}
use Rattle.sorting.specs.EntryPlaces.{entries_at}
use Rattle.merge.specs.Merging.{Done}
use Rattle.merge.proofs.CountLaws.{within_is}
use Rattle.apply.specs.Roots.{roots_after, front_bytes}
use Rattle.apply.specs.NextVolume.{Lists, bytes_after, Ready, section_keys, next_of, VolumeDone}
use Rattle.apply.proofs.NextLaws.{next_bytes, next_within, next-bytes, next-within}

-- the keys of a section that are put are those of the next volume
pub done-next :
    {t : ℕ} (vol list keys : List ℕ) {o o' : Output} {r : ℕ} → entries_at t vol keys ≡ section_keys vol t
    → Done t o (apply_queue (entries t (fields list)) (entries_at t vol keys)) o' r → Done t o (next_of vol list t) o' r
unfolding next_of
done-next vol list keys e d = rw e at d

-- the loop on its way: what is left of the next volume goes to o', and the limits so far and those of what is left tell those of the whole
pub record Sectioning (n : Lists) (o o' : Output) (within : Bool) (i : ℕ) : Type 0 where
  pub wrote : with_bytes o' (each (next_bytes n.volume n.change) (drop i sections)) ≡ with_bytes o (bytes_after n)
  pub fits : (within && all_of (next_within n.volume n.change) (drop i sections)) ≡ volume_within (next_volume n.volume n.change)

-- the part of a queue at an index
pub queue-ready : {list : List ℕ} (q : Queue) → InParts list (Some q) → (i : ℕ) → i < 7 → (d : Bor (List ℕ)) → d.now ≡ []
    → QueuePart (get_or sections i 0) list (get_or q.parts i d).now
queue-ready {list} q p i h d e =
    let x = p i h in
    let z : get_or (map (λ (x : Bor (List ℕ)). x.now) q.parts) i [] ≡ (get_or q.parts i d).now =
    ap (get_or (map (λ (x : Bor (List ℕ)). x.now) q.parts) i) (sym e) ∙ get_or-map (λ (x : Bor (List ℕ)). x.now) q.parts i d in
    record { kept = rw (← z) x.kept; keys = rw (← z) x.keys }

module _ {r : ReadList} {list : List ℕ} {roots : ℕ} (q : Ready r list) (b : roots ≡ roots_after list r.head.roots) where
  abbrev lists : Lists
  lists = record { volume = r.list.now; change = list }

  pub sections-start : {o o' : Output} → o' ≡ with_bytes o (front_bytes (head_in r.head) roots) → Sectioning lists o o' true 0
  sections-start {o} f =
      let vol = r.list.now in
      let g : roots ≡ roots_after list (read_volume vol).head.roots = b ∙ ap (λ x. roots_after list x.roots) q.read.read.head in
      record {
        wrote =
            ap (λ (x : Output). with_bytes x (each (next_bytes vol list) sections)) (rw (g, q.read.read.head) at f)
            ∙ with-with o _ _
            ∙ ap (with_bytes o) (sym (next-bytes vol list q.change));
        fits = sym (next-within vol list q.change (volume-passed vol q.read.passed).within);
      }

module _ {n : Lists} {o o' : Output} {within : Bool} {i : ℕ} (c : Sectioning n o o' within i) where
  pub sections-on :
      {o'' : Output} {t count : ℕ} → i < 7 → t ≡ get_or sections i 0 → Done t o' (next_of n.volume n.change t) o'' count
      → Sectioning n o o'' (within && leb count 4096) (i + 1)
  unfolding next_bytes next_within all_of
  sections-on {o''} {t} {count} l e d =
      let ts : List ℕ = drop (i + 1) sections in
      let split : drop i sections ≡ t ∷ ts = rw e (drop-next 0 sections i l) in
      record {
        wrote =
            ap (λ (x : Output). with_bytes x (each (next_bytes n.volume n.change) ts)) d.wrote
            ∙ with-with o' _ _
            ∙ ap (with_bytes o') (sym (each_next (next_bytes n.volume n.change) split))
            ∙ c.wrote;
        fits =
            ap (λ (b : Bool). b && all_of (next_within n.volume n.change) ts) (ap (λ (b : Bool). within && b) (within_is t _ count d.counted))
            ∙ and_assoc within (next_within n.volume n.change t) (all_of (next_within n.volume n.change) ts)
            ∙ ap (λ (us : List ℕ). within && all_of (next_within n.volume n.change) us) (sym split)
            ∙ c.fits;
      }

  -- no section is left
  end-wrote : i ≡ 7 → o' ≡ with_bytes o (bytes_after n)
  end-wrote e =
      let z : drop i sections ≡ [] = ap (λ (k : ℕ). drop k sections) e in
      sym (with-none o') ∙ ap (with_bytes o') (sym (each_none (next_bytes n.volume n.change) z)) ∙ c.wrote

  end-fits : i ≡ 7 → volume_within (next_volume n.volume n.change) ≡ within
  unfolding all_of
  end-fits e =
      let z : drop i sections ≡ [] = ap (λ (k : ℕ). drop k sections) e in
      sym c.fits
      ∙ ap (λ (us : List ℕ). within && all_of (next_within n.volume n.change) us) z
      ∙ and-true within

  pub sections-end : {r : ReadList} {list : List ℕ} → Ready r list → r.list.now ≡ n.volume → list ≡ n.change → i ≡ 7 → VolumeDone n o o' within
  sections-end {r} {list} q e f z =
      let bytes = bytes_after n in
      let p = volume-passed r.list.now q.read.passed in
      let laid : volume_laid_out n.volume ≡ true = rw (← e) p.laid in
      let change : change_laid_out n.change ≡ true = rw (← f) q.change in
      let once : none_twice (read_volume n.volume) ≡ true = rw (← e) p.once in
      let kept : volume_within (read_volume n.volume) ≡ true = rw (← e) p.within in
      record {
        wrote = end-wrote z;
        answers =
            λ room.
            apply-is n.volume n.change room
            ∙ answer-next _ _ bytes room (rw (laid, change))
            ∙ answer-next _ _ bytes room (rw once)
            ∙ answer-next _ _ bytes room (rw kept)
            ∙ ap (λ (b : Bool). answer (test 3 b ∷ []) bytes room) (end-fits z);
      }

-- the answers

module _ {n : Lists} {o o' : Output} {within : Bool} (dry : VolumeDone n o o' within) (xs : List ℕ) where
  abbrev whole : Outcome
  whole = outcome (apply n.volume n.change (length xs)) xs

  pub gives-3 : within ≡ false → made 3 0 xs ≡ whole
  gives-3 h =
      refused 3 xs (dry.answers (length xs) ∙ rw h (answer-stops 3 [] (bytes_after n) (length xs) (λ e. omega arith))) refl

  -- where no test is left but 21
  pub gives-rest : within ≡ true → outcome (answer [] (bytes_after n) (length xs)) xs ≡ whole
  gives-rest h =
      ap (λ x. outcome x xs) (sym (dry.answers (length xs) ∙ rw h (answer-next 0 [] (bytes_after n) (length xs) refl)))

  -- the length that the run tells
  pub run-length : o.at ≡ 0 → o'.at ≡ min (length (bytes_after n)) cap
  run-length z = ap (λ (x : Output). x.at) dry.wrote ∙ counted o (bytes_after n) z
