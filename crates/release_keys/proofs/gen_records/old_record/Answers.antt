-- `gen_records::old_record` meets its contract.
use Rattle.std.proofs.Common.{◌∙◌, sym}
use Rattle.release_keys.proofs.GenRecordLaws.{key-new, key-old}
use Rattle.release_keys.proofs.gen_records.old_record.Goals as goal

pub returns-in-None : goal.returns-in-None
returns-in-None c = c.new_record.ensures ∙ sym (key-new _ c.args.b c.record_of.ensures.record c.in-None.is)

pub returns-in-Some : goal.returns-in-Some
returns-in-Some c = c.key.ensures ∙ sym (key-old _ c.args.b c.record_of.ensures.record c.in-Some.is)
