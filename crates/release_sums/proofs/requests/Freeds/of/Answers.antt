use Rattle.release_sums.proofs.requests.Freeds.of.Goals as goal

pub new-requires : goal.new-requires
new-requires c = record { at = λ i h. (c.requires.at i h).within }
