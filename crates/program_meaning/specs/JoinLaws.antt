-- A joiner agrees with its code behind a join.
use Rattle.std.specs.Prelude.{◌≡◌, ◌≢◌, is_some, Option}
use Rattle.rev_num.specs.Path.{Path}
use Rattle.name_tables.specs.Names.{Name}
use Rattle.revision_calculus.specs.Program.{Setting}
use Rattle.revision_calculus.specs.State.{joining, Local}
use Rattle.revision_calculus.specs.Join.{join}
use Rattle.revision_calculus.specs.Kinded.{IsAccepted, IsKinded}
use Rattle.rev_code.specs.State.{State}
use Rattle.expression_meaning.specs.States.{AtJoin}
use Rattle.program_meaning.specs.StatementLaws.{tables}
use Rattle.code_machine.specs.Local as code
use Rattle.code_machine.specs.Local.{running, end_of}
use Rattle.code_machine.specs.Joining.{join_in}
use Rattle.program_meaning.specs.Related.{run_of, IsSame}

-- Let the code of the joiner at r stand at its join of the revision at q, and let that have ended,
-- on both sides alike. Then the joiner is the same on both sides behind the join: with the writes,
-- the text and the fuel of a revision that is done, or with the least location whose merge faults;
-- at a `tryjoin` of one that trapped without them, and else with its trap.
abbrev pub JoinsAgree : Type 0
JoinsAgree =
    (s : Setting) → IsAccepted s.program
    → (r q : Path) (l : Local) (left : Option Name) (c : State Path)
    → AtJoin s (tables s) l left q c → l.phase ≡ joining q left → IsKinded s r l
    → (j : Local) (k : code.Local Path) → IsSame s q j k → k.phase ≢ running → IsKinded s q j
    → IsSame s r (join s r l q j) (join_in (run_of s) c (is_some left) q (end_of k) k.phase)
