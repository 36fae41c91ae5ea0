use Rattle.std.proofs.Common.{refl}
use Rattle.place_keys.proofs.allocs.put_alloc.Goals as goal

pub returns : goal.returns
returns c = rw (c.put_words_key.ensures, c.tag.ensures, c.new-head.ensures, c.number.ensures, c.new_alloc.ensures, c.alloc_at.ensures) refl
