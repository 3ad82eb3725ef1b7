-- The entry that a leg adds to its revision's list of forks and joins.
--   HasMeeting     of a leg that comes to this, where a child gets this number
--   MeetingOf      of the leg of this revision
--   HasNoted       by the answer: none where there is no leg, and in Twice
--   join_meeting   where the leg came to a join of this revision in this line
use Rattle.std.specs.Prelude.{ℕ, ◌≡◌, length, Option, Some, None}
use Rattle.rev_num.specs.Path.{Path}
use Rattle.rev_code.specs.Step.{Comes, goes, traps, forks, joins, ends, stuck}
use Rattle.leg_run.specs.declared.revision.Meeting.{Meeting}
use Rattle.leg_run.specs.declared.revision.Meeting.TheVariants as meeting
use Rattle.revision_machine.specs.Machine.{Plain}
use Rattle.revision_machine.specs.Numbered.{Entries, at_number}
use Rattle.code_machine.specs.Leg.{leg}
use Rattle.code_machine.specs.Local.{CodeRun, Local}
use Rattle.code_world.specs.declared.answer.LegAnswer.{LegAnswer}
use Rattle.code_world.specs.declared.answer.LegAnswer.TheVariants as answer

abbrev pub HasMeeting : (child : ℕ) → Comes ℕ → Option Meeting → Type 0
HasMeeting child (forks c block args) m = m ≡ Some (meeting.Forked child c.line)
HasMeeting child (joins c try on) m = m ≡ Some (meeting.Joined on c.line)
HasMeeting child (traps c cause) m = m ≡ None
HasMeeting child (ends c result') m = m ≡ None
HasMeeting child (goes c) m = ⊥
HasMeeting child stuck m = ⊥

-- a child gets the next number
abbrev pub MeetingOf : CodeRun → Entries (Local ℕ) → ℕ → Option Meeting → Type 0
MeetingOf g w n m =
    (r : Path) × (l : Local ℕ) × (at_number w n ≡ Some (r, Plain l))
    × HasMeeting (length w) (leg g l.state) m

abbrev pub HasNoted : CodeRun → Entries (Local ℕ) → ℕ → LegAnswer → Option Meeting → Type 0
HasNoted g w n (answer.Waits on) m = m ≡ None
HasNoted g w n answer.Twice m = m ≡ None
HasNoted g w n answer.NoSuch m = m ≡ None
HasNoted g w n answer.Over m = m ≡ None
HasNoted g w n _ m = MeetingOf g w n m

abbrev pub join_meeting : LegAnswer → (on line : ℕ) → Option Meeting
join_meeting (answer.Waits m) on line = None
join_meeting answer.Twice on line = None
join_meeting answer.NoSuch on line = None
join_meeting answer.Over on line = None
join_meeting _ on line = Some (meeting.Joined on line)
