use Rattle.std.proofs.Common.{Bool, arith, sym, ap, ◌≡◌, ◌∙◌}
use Rattle.std.proofs.lemmas.Result.{err_from_is_err_and}
use Rattle.calls.specs.Answers.{read_call, read_volume}
use Rattle.calls.specs.Freespace.{runs_of, overlaps}
use Rattle.calls.specs.Pieces.{buckets_needed}
use Rattle.calls.specs.Place.{slots_of}
use Rattle.calls.specs.CallList.{Head}
use Rattle.reader.specs.declared.refusal.Refusal.TheVariants.{RunsOverlap, TooFewFree}
use Rattle.reader.specs.ListedKeys.{keys_listed}
use Rattle.reader.specs.declared.read_list.ReadList.{ReadList}
use Rattle.reader.specs.PieceLists.{Pieces}
use Rattle.reader.proofs.CheckedLaws.{alloc-checked, runs-checked, reserved-checked}
use Rattle.place_tests.specs.Called.{Called}
use Rattle.place_tests.proofs.ChoiceLaws.{choice-stopped, chosen-walk, enough-is}
use Rattle.place_tests.proofs.RefusalLaws.{asked, asked-stops, overlap-stops, shortage-stops, walk-decides}
use Rattle.place_tests.proofs.SizedLaws.{slots-are, needed-short}
use Rattle.place_tests.proofs.asked.Placement.choose_buckets.Goals as goal

-- what is found of the runs is found of the volume's
found :
    {r : ReadList} {ps : Pieces} {t : Bool} (q : Called r ps) → t ≡ overlaps (runs_of (keys_listed r.freespace))
    → t ≡ overlaps (runs_of (read_volume r.list.now).trees.freespace)
found q e = rw q.runs_are at e

pub overlaps-requires : goal.overlaps-requires
overlaps-requires c = let q = c.args.self.now.called in rw q.runs_are (runs-checked q.checked)

pub returns-in_err-sectors : goal.returns-in_err-sectors
returns-in_err-sectors c =
    let p = err_from_is_err_and c.from_residual.result c.from_residual.ensures.1 in
    let e = c.in_err-sectors.field-0.0 in
    rw (p.1, p.2) (choice-stopped e (asked-stops (read_call c.args.self.now.read.now.list.now) e c.in_err-sectors.ensures.refusal))

pub returns-then-overlaps : goal.returns-then-overlaps
returns-then-overlaps c =
    choice-stopped RunsOverlap (overlap-stops (read_call c.args.self.now.read.now.list.now) (sym c.in_ok-sectors.ensures.refusal) (sym (found c.args.self.now.called c.if-overlaps.ensures)))

pub enough_free-requires : goal.enough_free-requires
enough_free-requires c =
    let r = c.args.self.now.read.now in
    let q = c.args.self.now.called in
    let needed : c.lay_out-n.result ≡ buckets_needed (slots_of (read_call r.list.now)) = c.lay_out-n.ensures.0 ∙ ap buckets_needed (slots-are q) in
    let few = needed-short q (asked (read_call r.list.now) r.head q.head (sym c.in_ok-sectors.ensures.refusal)) in
    (sym (found c.args.self.now.called c.if-overlaps.ensures), omega arith)

pub returns-then-not-enough_free : goal.returns-then-not-enough_free
returns-then-not-enough_free c =
    let r = c.args.self.now.read.now in
    let q = c.args.self.now.called in
    let needed = c.lay_out-n.ensures.0 ∙ ap buckets_needed (slots-are q) in
    choice-stopped TooFewFree
    (shortage-stops (read_call r.list.now) (sym c.in_ok-sectors.ensures.refusal) (sym (found c.args.self.now.called c.if-overlaps.ensures))
    (enough-is r.list.now needed r.head q.head c.if-not-enough_free.ensures))

pub walk_runs-requires : goal.walk_runs-requires
walk_runs-requires c =
    let r = c.args.self.now.read.now in
    let q = c.args.self.now.called in
    let needed : c.lay_out-n.result ≡ buckets_needed (slots_of (read_call r.list.now)) = c.lay_out-n.ensures.0 ∙ ap buckets_needed (slots-are q) in
    let few = needed-short q (asked (read_call r.list.now) r.head q.head (sym c.in_ok-sectors.ensures.refusal)) in
    (rw q.alloc_are (alloc-checked q.checked), rw q.runs_are (runs-checked q.checked), rw q.reserved_are (reserved-checked q.checked), omega arith)

pub returns-in_err-walked : goal.returns-in_err-walked
returns-in_err-walked c =
    let r = c.args.self.now.read.now in
    let q = c.args.self.now.called in
    let needed = c.lay_out-n.ensures.0 ∙ ap buckets_needed (slots-are q) in
    let p = err_from_is_err_and c.from_residual-in_err-walked.result c.from_residual-in_err-walked.ensures.1 in
    let e = c.in_err-walked.field-0.0 in
    rw (p.1, p.2)
    (choice-stopped e
    ((chosen-walk r.list.now needed (rw (q.alloc_are, q.runs_are, q.reserved_are) at c.in_err-walked.ensures)).refusal
    ∙ walk-decides (read_call r.list.now) (sym c.in_ok-sectors.ensures.refusal) (sym (found c.args.self.now.called c.if-overlaps.ensures))
    (enough-is r.list.now needed r.head q.head c.if-not-enough_free.ensures)))

pub returns : goal.returns
returns c =
    let r = c.args.self.now.read.now in
    let q = c.args.self.now.called in
    let needed = c.lay_out-n.ensures.0 ∙ ap buckets_needed (slots-are q) in
    let w = chosen-walk r.list.now needed (rw (q.alloc_are, q.runs_are, q.reserved_are) at c.in_ok-walked.ensures) in
    record {
      refusal =
          w.refusal
          ∙ walk-decides (read_call r.list.now) (sym c.in_ok-sectors.ensures.refusal) (sym (found c.args.self.now.called c.if-overlaps.ensures))
          (enough-is r.list.now needed r.head q.head c.if-not-enough_free.ensures);
      chosen =
          record {
            sectors = c.in_ok-sectors.ensures.head.0 ∙ ap (λ (h : Head). h.bucket_sectors) q.head;
            option = c.in_ok-sectors.ensures.head.1 ∙ ap (λ (h : Head). h.option) q.head;
            took = w.took;
            laid = c.lay_out-n.ensures.1 ∙ slots-are q;
          };
    }
