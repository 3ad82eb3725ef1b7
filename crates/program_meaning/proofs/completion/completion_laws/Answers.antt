-- Answers of completion_laws: two lemmas, on whatever completes the world, and on least numbers time after time.
use Rattle.program_meaning.proofs.Outcomes.{each_completion, least_numbers}
use Rattle.program_meaning.proofs.completion.completion_laws.Goals as goal

pub returns : goal.returns
returns c = record {
  each = λ s well fuel o h n m ns v legal ms w done. each_completion s well fuel o h n m ns v legal ms w done;
  least = λ s well fuel o h n m ns v legal. least_numbers s well fuel o h n m ns v legal;
}
