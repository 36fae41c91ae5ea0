use Rattle.std.proofs.Common.{◌∙◌}
use Rattle.sorting.proofs.EntryLaws.{body-within, body-pos}
use Rattle.sorting.proofs.entries.Entry.pos.Goals as goal

pub body_pos-requires : goal.body_pos-requires
body_pos-requires c = body-within c.args.self.now.stands

pub returns : goal.returns
returns c = c.body_pos.ensures ∙ body-pos c.args.self.now.stands
