use Rattle.std.proofs.Common.{refl, arith, ap, ◌∙◌}
use Rattle.std.proofs.lemmas.List.{length-map}
use Rattle.std.proofs.lemmas.Result.{err_from_is_err_and}
use lib.ListN.{length, drop, length-drop}
use Rattle.calls.proofs.lists.AllOfLaws.{all-of-drop, all-of-first}
use Rattle.reader.specs.Checked.{end_in_range}
use Rattle.reader.specs.KeyHere.{key_here}
use Rattle.reader.specs.ListedKeys.{keys_listed}
use Rattle.reader.specs.declared.listed_keys.Keys.{Keys}
use Rattle.freespace.proofs.TakeLaws.{walking_start, walking-full, walking-end, walking-refused, walking_on, drop-after, drop-rest}
use Rattle.freespace.proofs.take.Walker.take_buckets.Goals as goal

pub loop-key-init : goal.loop-key-init
loop-key-init c =
    record {
      walking = walking_start _ _ _ _ _;
      rest = rw (c.into_iter-key-iterator.ensures.into_iter_gives, c.iter-key-items.ensures) refl;
    }

pub returns-then-w-self : goal.returns-then-w-self
returns-then-w-self c = walking-full c.loop-key.invariant.walking c.if-w-self.true

pub walk_key-requires : goal.walk_key-requires
walk_key-requires c =
    let v = c.loop-key.invariant in
    let ks = c.args.self.now.read.now.freespace in
    let f = drop-rest c.loop-key.w.passed _ v.rest c.in-Some.ensures.steps.keys in
    record {
      end = all-of-first end_in_range (all-of-drop end_in_range _ c.loop-key.w.passed c.args.self.now.checked.range) f;
      most = v.walking.most;
      room = omega (arith, v.walking.size);
      few = omega (arith, ap length f, length-drop c.loop-key.w.passed (keys_listed ks), length-map ks.places.now (key_here ks.list.now), ap (λ (r : Keys). length r.places.now) c.iter-key-items.ensures, c.iter-key-items.type_inv);
    }

pub returns-in_err-w : goal.returns-in_err-w
returns-in_err-w c =
    let v = c.loop-key.invariant in
    let f = drop-rest c.loop-key.w.passed _ v.rest c.in-Some.ensures.steps.keys in
    let p = err_from_is_err_and c.from_residual.result c.from_residual.ensures.1 in
    rw (p.1, p.2) (walking-refused v.walking f (omega (arith, v.walking.most, c.if-w-self.false)) c.in_err-w.ensures)

pub loop-key-preserved : goal.loop-key-preserved
loop-key-preserved c =
    let v = c.loop-key.invariant in
    let f = drop-rest c.loop-key.w.passed _ v.rest c.in-Some.ensures.steps.keys in
    let o = c.in_ok-w.ensures in
    record {
      walking = walking_on v.walking f (omega (arith, v.walking.most, c.if-w-self.false)) o c.walk_key.auto.taken;
      rest = ap (λ m. drop m (keys_listed c.args.self.now.read.now.freespace)) o.took.passed ∙ drop-after c.loop-key.w.passed _ v.rest c.in-Some.ensures.steps.keys;
    }

pub returns : goal.returns
returns c = walking-end c.loop-key.invariant.walking (c.loop-key.invariant.rest ∙ c.in-None.ensures.steps)
