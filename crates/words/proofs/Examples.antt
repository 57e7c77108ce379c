-- The worked examples compute. Assumes nothing.
use Rattle.std.proofs.Common.{refl}
use Rattle.fields.specs.Kinds.{prime}
use Rattle.fields.specs.Polynomials.{product, remainder, all_below}
use Rattle.words.specs.Examples.{WorkedExamples}
use Rattle.words.specs.Words.{power, value}

pub worked_examples : WorkedExamples
unfolding prime product remainder all_below power value
worked_examples = record {
  two_times_three = refl;
  three_times_three = refl;
  record_of_plan_a = refl;
  word_0_of_a = refl;
  symbols_of_7_of_a = refl;
  word_7_of_a = refl;
  symbols_of_9_of_b = refl;
  word_9_of_b = refl;
}
