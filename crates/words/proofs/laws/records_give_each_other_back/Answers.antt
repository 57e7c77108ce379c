use Rattle.words.proofs.RecordLaws.{read_back as reads_back, write_back as writes_back}
use Rattle.words.proofs.laws.records_give_each_other_back.Goals as goal

pub returns : goal.returns
returns c = record { read_back = reads_back; write_back = writes_back }
