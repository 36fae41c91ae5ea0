use Rattle.calls.specs.Extents.{extent_key}
use Rattle.std.proofs.Common.{refl}
use Rattle.place_keys.proofs.extents.put_extent.Goals as goal

pub returns : goal.returns
unfolding extent_key
returns c =
    rw (c.put_words_key.ensures, c.tag.ensures, c.new-head.ensures, c.number.ensures, c.as_slice.ensures.gives, c.extent_words-v.ensures, c.requires.0, c.pointer.ensures, c.extent_at.ensures) refl
