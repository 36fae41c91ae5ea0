use Rattle.reader.proofs.FieldRankLaws.{rank_below}
use Rattle.reader.proofs.survey.note_field.Goals as goal

pub try_note-requires : goal.try_note-requires
try_note-requires c = rw c.rank.ensures (rank_below _, c.requires.1)
