-- A refusal leaves the target as it is, and an accepted record fits its four bytes.
use Rattle.words.proofs.RecordLaws.{record_fits}
use Rattle.words.proofs.record.PlanRecord.write.Goals as goal

pub packed-requires : goal.packed-requires
packed-requires c = record_fits c.args.self.now c.in_ok-field_and_plan.ensures.accepted
