-- Answers of birth_laws: four lemmas on a lawful machine, of which three use that its steps count the forks.
use Rattle.code_memos.proofs.Births.{one_birth, born_stand}
use Rattle.code_memos.proofs.Leaves.{leaves_end}
use Rattle.code_memos.proofs.News.{new_is_born}
use Rattle.code_memos.proofs.birth.birth_laws.Goals as goal

pub returns : goal.returns
returns g c = record {
  one = λ s main. let l = g.R.LawfulMachine.lawful s in one_birth l.machine main l.counts;
  stand = λ s main. let l = g.R.LawfulMachine.lawful s in born_stand l.machine main l.counts;
  leaves = λ s main. let l = g.R.LawfulMachine.lawful s in leaves_end l.machine main l.counts;
  new = λ s main. new_is_born (g.R.LawfulMachine.lawful s).machine main;
}
