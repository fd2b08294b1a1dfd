-- `strip::judge_pair` meets its contract: two judgements that are "fit" make a pair. Assumes nothing.
use Rattle.strip.proofs.PairLaws.{both_fit}
use Rattle.strip.proofs.judge_pair.Goals as goal

pub returns : goal.returns
returns c = both_fit c.judge-judged.ensures c.in-Ok.is c.judge-judged-2.ensures c.in-Ok-judged.is
