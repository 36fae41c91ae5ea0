use Rattle.std.proofs.Common.{refl}
use Rattle.reader.proofs.call.answer_by.Goals as goal

pub returns : goal.returns
returns g c = (
  rw (c.in_ok-read.ensures.0) at c.in_ok-read.ensures.1.passed,
  record {
    list = _;
    is_of = c.in_ok-read.ensures.0;
    is_read = c.in_ok-read.ensures.1;
    scratch-shown = _;
    scratch-shows = refl;
    out-shown = _;
    out-shows = refl;
    scratch-left = _;
    scratch-leaves = refl;
    out-left = _;
    out-leaves = refl;
    met = c.answer.ensures;
  },
)
