-- What a read puts after the first bytes follows, in the reader, on what stood there before.
use Rattle.std.proofs.Common.{◌≡◌, ℕ, ◌+◌, ◌≤◌, List, ◌++◌, rules, length, take, drop, sym, subst, drop_at, length-take-le}
use Rattle.std.proofs.KnownBytes.{Consumes-trans}
use Rattle.std.specs.Io.KnownBytes.{Consumes}
use borrow.Rule.Slice.PartMut.{put_mid, post_of, take_put}
use lib.Seq.{take-add, take-append-le}
use Rattle.bucketlines.proofs.read_list.Goals as goal

take-read : (a k n : ℕ) (xs ys : List ℕ) → a ≤ length xs → n ≤ length ys → take a xs ++ take n ys ≡ take (a + n) (put_mid a k xs ys)
take-read a k n xs ys within fits =
    let after = post_of a k xs in
    let front : take a (put_mid a k xs ys) ≡ take a xs = take_put a k xs ys within in
    let part : drop a (put_mid a k xs ys) ≡ ys ++ after = drop_at (take a xs) (ys ++ after) a (length-take-le a xs within) in
    sym (rw (take-add a n (put_mid a k xs ys), front, part, take-append-le n ys after fits))

pub loop-done-preserved : goal.loop-done-preserved
loop-done-preserved g c = record {
  within = search rules;
  bytes =
      subst
      (Consumes _ _)
      (take-read _ _ _ _ _ c.loop-done.invariant.within c.in_ok-more.ensures.bound.0)
      (Consumes-trans _ _ _ _ _ c.loop-done.invariant.bytes c.in_ok-more.ensures.bytes.0);
}
