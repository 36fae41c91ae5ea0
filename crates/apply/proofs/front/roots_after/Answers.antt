-- What all fields make of the bits, one by one.
use Rattle.std.proofs.Common.{rules}
use Rattle.apply.proofs.RootLaws.{roots-low, fold-start, fold-callable, fold-roots}
use Rattle.apply.proofs.front.roots_after.Goals as goal

pub fold-requires-clause-callable : goal.fold-requires-clause-callable
fold-requires-clause-callable c = fold-callable _ _ _ (λ a x b q k. search rules) (fold-start c.requires c.of.ensures.0 c.of.ensures.1) (λ a x n. search rules)

pub returns : goal.returns
returns c =
    let e = fold-roots _ _ _ (λ a x b q k. search rules) (fold-start c.requires c.of.ensures.0 c.of.ensures.1) c.fold.ensures.ran in
    record { same = e; low = λ l. rw e (roots-low c.args.change.now c.args.roots c.requires l) }
