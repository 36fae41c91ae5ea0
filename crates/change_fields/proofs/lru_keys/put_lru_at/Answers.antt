use Rattle.std.proofs.Common.{arith, sym}
use borrow.Author.Tests.{lt-ltb}
use Rattle.wire.proofs.EncodeLaws.{encode_one}
use Rattle.wire.proofs.AppendLaws.{with-none}
use Rattle.change_fields.proofs.LruLaws.{lru-none, index-low}
use Rattle.change_fields.proofs.lru_keys.put_lru_at.Goals as goal

pub lru_at-pos-requires : goal.lru_at-pos-requires
lru_at-pos-requires c = omega (arith, index-low c.args.dirty c.args.sectors.value (rw c.get.ensures.value at c.if-dirty-get.true))

pub returns-then-dirty-get : goal.returns-then-dirty-get
returns-then-dirty-get c =
    simp (lt-ltb c.args.dirty c.args.sectors.value (rw c.get.ensures.value at c.if-dirty-get.true), encode_one, c.put_new_key.ensures, c.tag.ensures, c.number.ensures, c.lru_at-pos.ensures, c.fragmentation.ensures)

pub returns-else-dirty-get : goal.returns-else-dirty-get
returns-else-dirty-get c = rw (lru-none c.args.dirty c.args.sectors.value _ (rw c.get.ensures.value at c.if-dirty-get.false)) (sym (with-none c.args.out.now))
