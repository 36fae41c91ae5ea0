use Rattle.std.proofs.Common.{refl, arith, ap}
use Rattle.wire.proofs.NumberLaws.{bytes-from}
use Rattle.reader.proofs.CutLaws.{sections-whole, cut-read}
use Rattle.reader.proofs.read_list.cut.Goals as goal

pub keys_between-requires : goal.keys_between-requires
keys_between-requires c = (sections-whole c.requires).alloc

pub keys_between-requires-2 : goal.keys_between-requires-2
keys_between-requires-2 c = (sections-whole c.requires).lru

pub keys_between-requires-3 : goal.keys_between-requires-3
keys_between-requires-3 c = (sections-whole c.requires).freespace

pub keys_between-requires-4 : goal.keys_between-requires-4
keys_between-requires-4 c = (sections-whole c.requires).need_discard

pub keys_between-requires-5 : goal.keys_between-requires-5
keys_between-requires-5 c = (sections-whole c.requires).backpointers

pub keys_between-requires-6 : goal.keys_between-requires-6
keys_between-requires-6 c = (sections-whole c.requires).gens

pub new-requires : goal.new-requires
new-requires c = (sections-whole c.requires).reserved

pub returns-clause-read : goal.returns-clause-read
returns-clause-read c call q =
    cut-read c.requires call q (bytes-from _ (λ i. omega (arith, c.type_inv.list i))) _
    record {
      list = refl;
      head = refl;
      places = refl;
      alloc = c.keys_between.ensures;
      lru = c.keys_between-2.ensures;
      freespace = c.keys_between-3.ensures;
      need_discard = c.keys_between-4.ensures;
      backpointers = c.keys_between-5.ensures;
      gens = c.keys_between-6.ensures;
      reserved = (ap (λ l. l.now) c.new.ensures.0, ap (λ l. l.now) c.new.ensures.1);
      requests = refl;
    }
