use Rattle.release_keys.proofs.table.HeldBucket.key.Goals as goal

pub key-requires : goal.key-requires
key-requires c = c.args.self.now.held.whole
