use Rattle.std.proofs.Common.{rules, tests}
use Rattle.reader.proofs.HeadLaws.{call-found, called-by, first-byte}
use Rattle.reader.proofs.head.call_byte.Goals as goal

pub returns : goal.returns
returns c =
    called-by c.args.s.now c.find.result c.map_or.result
    (call-found c.args.s.now _ (λ x b q k. search (rules, tests)) c.of.ensures.0 c.of.ensures.1 c.find.ensures.ran)
    (λ e. rw e at c.map_or.ensures)
    (λ f e. let p = rw e at c.map_or.ensures in search (rules, first-byte))
