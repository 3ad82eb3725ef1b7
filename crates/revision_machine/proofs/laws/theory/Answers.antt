-- Answers of theory: each clause is a lemma on a machine, by the rules that make it lawful.
use Rattle.revision_machine.proofs.Ends.{reached_forked, diamond_law, unique_end, twice_final, twice_in_all}
use Rattle.revision_machine.proofs.Standing.{standing_law}
use Rattle.revision_machine.proofs.Blocked.{handle_law, no_blocked_end}
use Rattle.revision_machine.proofs.Census.{bound_law, count_law}
use Rattle.revision_machine.proofs.Completion.{completion_law}
use Rattle.revision_machine.proofs.laws.theory.Goals as goal

pub returns : goal.returns
returns g c = record {
  diamond = λ s main. let l = g.R.LawfulMachine.lawful s in diamond_law l.machine main l.counts;
  unique = λ s main. let l = g.R.LawfulMachine.lawful s in unique_end l.machine main l.counts;
  twice = λ s main. let l = g.R.LawfulMachine.lawful s in twice_in_all l.machine main l.counts;
  twice_final = λ s. twice_final (g.R.LawfulMachine.lawful s).machine;
  forkers = λ s main. let l = g.R.LawfulMachine.lawful s in reached_forked l.machine main l.counts;
  standing = λ s main. standing_law (g.R.LawfulMachine.lawful s).machine main;
  handles = λ s main none.
      let l = g.R.LawfulMachine.lawful s in handle_law l.machine main l.holds l.counts l.handles none;
  unblocked = λ s main none.
      let l = g.R.LawfulMachine.lawful s in no_blocked_end l.machine main l.holds l.counts l.handles none;
  bound = λ s main. let l = g.R.LawfulMachine.lawful s in bound_law l.machine main l.weight l.counts l.spends;
  count = λ s main. let l = g.R.LawfulMachine.lawful s in count_law l.machine main l.fuel l.counts l.pays;
  completes = λ s main. let l = g.R.LawfulMachine.lawful s in completion_law l.machine main l.weight l.counts l.spends;
}
