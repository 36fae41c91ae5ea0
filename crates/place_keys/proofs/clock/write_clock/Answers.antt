use Rattle.std.proofs.Common.{rules, of_calls, arith, ap, sym, subst, ◌∙◌, length}
use Rattle.std.specs.Option.{unwrap_or}
use Rattle.std.specs.Iterator.Adapters.{filter_map_source}
use Rattle.std.proofs.lemmas.Iterator.{YieldsList}
use Rattle.std.proofs.lemmas.Iterator.Adapters.{option_map_id}
use Rattle.std.proofs.lemmas.Iterator.Consumers.{YieldsList-from_shown, YieldsList-from_filter_map, max_from_yields_List}
use Rattle.reader.specs.ListedKeys.{KeyStepped, key_listed, keys_listed, keys_left}
use Rattle.place_keys.specs.Times.{time_of}
use Rattle.place_keys.proofs.ClockLaws.{clock-is}
use Rattle.place_keys.proofs.clock.write_clock.Goals as goal

pub returns : goal.returns
returns c =
    let ks = keys_listed c.args.alloc.now in
    let first : YieldsList KeyStepped key_listed c.iter.result ks =
    subst (YieldsList KeyStepped key_listed c.iter.result) (ap keys_listed c.iter.ensures)
    (YieldsList-from_shown KeyStepped key_listed keys_left (λ t u h. ap length h) (λ t x u h. h.keys) c.iter.result) in
    let keys : YieldsList KeyStepped key_listed (filter_map_source c.filter_map-clocks.result) ks =
    subst (λ s. YieldsList KeyStepped key_listed s ks) (sym c.filter_map-clocks.ensures.source) first in
    let latest =
    c.unwrap_or.ensures
    ∙ ap (λ o. unwrap_or o 1) (sym (option_map_id c.max.result) ∙ max_from_yields_List _ _ c.max.ensures.ran (YieldsList-from_filter_map _ time_of keys c.filter_map-clocks.ensures.closure (λ x r q k. search (rules, of_calls))))
    ∙ clock-is ks
    in
    omega (arith, latest)
