-- Where no number has a leg, each revision is done or has trapped; and the laws of all machines, for this one.
use Rattle.std.proofs.Common.{ℕ}
use Rattle.revision_machine.specs.Laws.{local_of}
use Rattle.revision_machine.specs.Numbered.{World, Both, Listing, AllStop}
use Rattle.revision_machine.specs.Schedules.{MatchesEnd}
use Rattle.revision_machine.proofs.Schedules.{complete_schedule_agrees}
use Rattle.code_machine.specs.Local.{Local}
use Rattle.code_machine.specs.Machines.{machine, numbered, Holds, start_in}
use Rattle.code_machine.specs.Renamed.{IsNumbered}
use Rattle.code_machine.specs.Proper.{IsProper, EachEntry, IsOver, NoneIsBlocked}
use Rattle.code_machine.proofs.Holding.{holding}
use Rattle.code_machine.proofs.MachineConditions.{counts, named_counts}
use Rattle.code_machine.proofs.Numbering.{simulates, first_none, first_numbered}
use Rattle.code_machine.proofs.Typing.{worlds_proper, stops_over}

pub none_blocked : NoneIsBlocked
none_blocked g ok n m fuel ns w h over = by w (worlds_proper g ok n m fuel ns w h) ended.stopped
  where
    ended : MatchesEnd (machine g) (numbered g) IsNumbered (start_in g n m.body fuel) (start_in g n m.body fuel) w
    ended =
        complete_schedule_agrees (machine g) (numbered g) IsNumbered (start_in g n m.body fuel)
        (start_in g n m.body fuel) (named_counts g ok) (simulates g ok)
        (λ t i. first_numbered g n m.body fuel t) Holds (counts g ok) (holding g) (first_none g n m.body fuel) ns w h
        over

    by : (w : World (Local ℕ)) → EachEntry (λ l. IsProper g l) w → AllStop (numbered g) (start_in g n m.body fuel) w
        → EachEntry (λ l. IsOver l) w
    by Both p s = tt
    by (Listing v) p s = λ k r e there. stops_over g ok (local_of e) (p k r e there) (s k r e there)
