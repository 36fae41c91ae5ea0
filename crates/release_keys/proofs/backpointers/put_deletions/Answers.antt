use Rattle.std.proofs.Common.{arith, ◌∙◌, ap, sym, map}
use Rattle.wire.specs.Encode.{key_field}
use Rattle.wire.specs.Output.{with_bytes}
use Rattle.wire.specs.Positions.{backpointer_at}
use Rattle.wire.proofs.AppendLaws.{with-none, with-with}
use Rattle.calls.specs.CallList.{Freed}
use Rattle.calls.specs.Lists.{all_of}
use Rattle.calls.specs.Release.{freed_ok}
use Rattle.calls.specs.Trees.{deletion}
use Rattle.change_fields.specs.FieldBytes.{keys_bytes}
use Rattle.change_fields.proofs.FieldLists.{fields-next, fields-none}
use Rattle.release_sums.specs.FreedsOf.{freeds_left}
use Rattle.release_sums.proofs.FreedLaws.{first-within, rest-ok}
use Rattle.release_keys.proofs.KeyLaws.{sector-low}
use Rattle.release_keys.proofs.backpointers.put_deletions.Goals as goal

pub loop-r-init : goal.loop-r-init
loop-r-init c =
    let t = c.args.table.now in
    let e = ap freeds_left c.into_iter-r-iterator.ensures.into_iter_gives ∙ c.iter-r-items.ensures ∙ c.freeds.ensures in
    (ap (all_of (freed_ok t.read.head.bucket_sectors)) e ∙ t.checked.checked, ap (λ l. with_bytes c.args.out.now (keys_bytes 13 (map (λ (x : Freed). deletion (backpointer_at x.first)) l))) e)

pub backpointer_at-requires : goal.backpointer_at-requires
backpointer_at-requires c =
    let n = c.args.table.now.read.head.bucket_sectors in
    sector-low (first-within n c.loop-r.invariant.0 c.in-Some.ensures.steps) (omega (arith, c.args.table.now.bucket_sectors.ok, c.args.table.now.same_sectors)) c.args.table.now.checked.small

pub loop-r-preserved : goal.loop-r-preserved
loop-r-preserved c =
    let s = c.in-Some.ensures.steps in (
      rest-ok c.args.table.now.read.head.bucket_sectors c.loop-r.invariant.0 s,
      rw (c.put_deletion.ensures, c.tag.ensures, c.backpointer_at.ensures, with-with)
          (ap (with_bytes c.loop-r.out) (sym (fields-next (key_field 13) (ap (map (λ (x : Freed). deletion (backpointer_at x.first))) s)))
          ∙ c.loop-r.invariant.1),
    )

pub returns : goal.returns
returns c =
    sym (with-none c.loop-r.out)
    ∙ ap (with_bytes c.loop-r.out) (sym (fields-none (key_field 13) (ap (map (λ (x : Freed). deletion (backpointer_at x.first))) c.in-None.ensures.steps.0)))
    ∙ c.loop-r.invariant.1
