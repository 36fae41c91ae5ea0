use Rattle.std.proofs.Common.{refl}
use Rattle.calls.specs.Extents.{backpointer_key}
use Rattle.place_keys.proofs.backpointers.put_backpointer.Goals as goal

pub returns : goal.returns
unfolding backpointer_key
returns c = rw (c.put_words_key.ensures, c.tag.ensures, c.new-head.ensures, c.number.ensures, c.backpointer-w.ensures, c.backpointer_at.ensures, c.extent_at-extent.ensures) refl
