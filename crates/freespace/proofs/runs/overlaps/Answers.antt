use Rattle.std.proofs.Common.{rules, of_calls, ap, sym, subst, not, ◌∙◌}
use Rattle.std.proofs.lemmas.Iterator.{YieldsList}
use Rattle.std.proofs.lemmas.Iterator.Consumers.{YieldsList-from_shown, YieldsList-from_filter_map}
use Rattle.std.specs.Iterator.Adapters.{filter_map_source}
use Rattle.std.specs.List.{filter_map}
use lib.ListN.{length}
use Rattle.calls.proofs.trees.SortedLaws.{keys-order}
use Rattle.reader.specs.ListedKeys.{KeyStepped, key_listed, keys_listed, keys_left}
use Rattle.freespace.specs.Runs.{covering_in}
use Rattle.freespace.proofs.NeighbourLaws.{neighbours-checked}
use Rattle.freespace.proofs.RunLaws.{apart, apart-overlaps, starts-after}
use Rattle.freespace.proofs.runs.overlaps.Goals as goal

pub returns : goal.returns
returns c =
    let ks = keys_listed c.args.runs in
    let o = keys-order ks c.requires.order in
    let first : YieldsList KeyStepped key_listed c.iter.result ks =
    subst (YieldsList KeyStepped key_listed c.iter.result) (ap keys_listed c.iter.ensures)
    (YieldsList-from_shown KeyStepped key_listed keys_left (λ t u h. ap length h) (λ t x u h. h.keys) c.iter.result) in
    let keys : YieldsList KeyStepped key_listed (filter_map_source c.filter_map.result) ks =
    subst (λ s. YieldsList KeyStepped key_listed s ks) (sym c.filter_map.ensures.source) first in
    ap not (neighbours-checked _ _ apart _ (λ x y b q k. search (rules, starts-after)) (filter_map covering_in ks) c.is_sorted_by.ensures.ran
    (YieldsList-from_filter_map _ covering_in keys c.filter_map.ensures.closure (λ x r q k. search (rules, of_calls))))
    ∙ apart-overlaps ks o.0 o.1
