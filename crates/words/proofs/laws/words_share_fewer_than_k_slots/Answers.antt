use Rattle.words.proofs.Shared.{words_share}
use Rattle.words.proofs.laws.words_share_fewer_than_k_slots.Goals as goal

pub returns : goal.returns
returns c = words_share
