use Rattle.std.proofs.Common.{rules, ap, subst, ◌∙◌}
use mathlib.Core.List.{reverse}
use Rattle.std.specs.Iterator.Adapters.{rev_steps}
use Rattle.std.proofs.lemmas.Iterator.{YieldsList}
use Rattle.std.proofs.lemmas.Iterator.Search.{find_from_yields_List}
use Rattle.reader.specs.ListedKeys.{KeySteppedBack, key_listed, keys_listed, keys_left}
use Rattle.need_discard.specs.Table.{is_of_bucket}
use Rattle.need_discard.proofs.TableLaws.{back-shown, last-found}
use Rattle.need_discard.proofs.waiting.search_key.Goals as goal

pub returns : goal.returns
returns c =
    let ks = keys_listed c.args.keys.now in
    let road : YieldsList (rev_steps KeySteppedBack) key_listed c.rev.result (reverse ks) =
    subst (YieldsList (rev_steps KeySteppedBack) key_listed c.rev.result) (ap (λ s. reverse (keys_left s)) c.rev.ensures.source ∙ ap (λ k. reverse (keys_listed k)) c.iter.ensures)
    (back-shown c.rev.result) in
    last-found c.find.result ks c.args.b
    (find_from_yields_List (λ k. is_of_bucket k c.args.b) _ _ c.find.result c.find.ensures.ran road (λ x t q k. search rules))
