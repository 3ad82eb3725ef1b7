-- What a leg adds to its revision's list of forks and joins.
use Rattle.std.proofs.Common.{◌≡◌, ℕ, List, Bool, length, Option, Some, None, refl, sym, subst}
use Rattle.std.specs.Prelude.{slice_get}
use Rattle.rev_num.specs.Path.{Path}
use Rattle.rev_code.specs.declared.code.CodeBlock.{CodeBlock}
use Rattle.rev_code.specs.State.{State}
use Rattle.rev_code.specs.Step.{Comes, goes, traps, forks, joins, ends, stuck}
use Rattle.rev_code.specs.Words.{Word}
use Rattle.version_map.specs.declared.end.Finish.{Finish}
use Rattle.version_map.specs.declared.end.Finish.TheVariants as finish
use Rattle.leg_run.specs.declared.revision.Meeting.{Meeting}
use Rattle.leg_run.specs.declared.revision.Meeting.TheVariants as meeting
use Rattle.revision_machine.specs.Machine.{Plain}
use Rattle.revision_machine.specs.Numbered.{Goes, Wants, Stops, Entries, Wish, at_number}
use Rattle.code_machine.specs.Leg.{leg}
use Rattle.code_machine.specs.Local.{CodeRun, Local, at_work}
use Rattle.code_machine.specs.Machines.{fork, act_of, wish_of, numbered}
use Rattle.code_world.specs.declared.answer.LegAnswer.{LegAnswer}
use Rattle.code_world.specs.declared.answer.LegAnswer.TheVariants as answer
use Rattle.code_world.specs.LegOutcomes.{ForksInLine}
use Rattle.code_world.specs.Meetings.{HasMeeting, MeetingOf, HasNoted, join_meeting}
use Rattle.code_world.specs.Turns.{ends_with}

module _ (g : CodeRun) (w : Entries (Local ℕ)) (n : ℕ) where
  -- of the same answer and entry
  pub noted_so : (a b : LegAnswer) (m k : Option Meeting) → b ≡ a → k ≡ m → HasNoted g w n a m → HasNoted g w n b k
  noted_so a b m k e f h = subst (λ x. HasNoted g w n x k) (sym e) (subst (λ x. HasNoted g w n a x) (sym f) h)

  module _ (p : Path) (c : State ℕ) (there : at_number w n ≡ Some (p, Plain (at_work c))) where
    by_leg : (o : Comes ℕ) (m : Option Meeting) → leg g c ≡ o → HasMeeting (length w) o m → MeetingOf g w n m
    by_leg o m is h = (p, at_work c, there, subst (λ x. HasMeeting (length w) x m) (sym is) h)

    pub fork_noted : (child line : ℕ) → child ≡ length w → ForksInLine g c line
        → MeetingOf g w n (Some (meeting.Forked child line))
    fork_noted child line is f =
        let number = is in
        let same = f.is in
        by_leg (forks f.at f.block f.args) (Some (meeting.Forked child line)) f.comes
        (λ i. Some (meeting.Forked (number i) (same i)))

    pub join_noted : (c' : State ℕ) (try : Bool) (on line : ℕ) → leg g c ≡ joins c' try on → line ≡ c'.line
        → MeetingOf g w n (Some (meeting.Joined on line))
    join_noted c' try on line is same =
        by_leg (joins c' try on) (Some (meeting.Joined on line)) is (λ i. Some (meeting.Joined on (same i)))

    no_fork : {A : Type 0} (d : State ℕ) (block : ℕ) (args : List (Word ℕ)) (o : Option CodeBlock) (l : Local ℕ)
        → wish_of (fork g d block args o) ≡ Goes l → A
    no_fork d block args None l e = absurd (let z : ◌≡◌ {A = Wish (Local ℕ)} Stops (Goes l) = e in cc)
    no_fork d block args (Some b) l e = absurd (let z = e in cc)

    pub end_noted : (l : Local ℕ) → (numbered g).next (at_work c) ≡ Goes l → MeetingOf g w n None
    end_noted l next = by_leg (leg g c) None refl (by (leg g c) next)
      where
        by : (o : Comes ℕ) → wish_of (act_of g o) ≡ Goes l → HasMeeting (length w) o None
        by (traps d e) q = refl
        by (ends d x) q = refl
        by (forks d block args) q = no_fork d block args (slice_get g.code.blocks block) l q
        by (joins d try m) q = absurd (let z : ◌≡◌ {A = Wish (Local ℕ)} (Wants m) (Goes l) = q in cc)
        by (goes d) q = absurd (let z : ◌≡◌ {A = Wish (Local ℕ)} Stops (Goes l) = q in cc)
        by stuck q = absurd (let z : ◌≡◌ {A = Wish (Local ℕ)} Stops (Goes l) = q in cc)

  pub ends_noted : (f : Finish) → MeetingOf g w n None → HasNoted g w n (ends_with f) None
  ends_noted finish.Done h = h
  ends_noted (finish.Trapped t) h = h

  pub joins_noted : (a : LegAnswer) (on line : ℕ) → MeetingOf g w n (Some (meeting.Joined on line))
      → HasNoted g w n a (join_meeting a on line)
  joins_noted (answer.Forked m) on line h = h
  joins_noted (answer.Joined m) on line h = h
  joins_noted answer.Ended on line h = h
  joins_noted answer.Trapped on line h = h
  joins_noted (answer.Waits m) on line h = refl
  joins_noted answer.Twice on line h = refl
  joins_noted answer.NoSuch on line h = refl
  joins_noted answer.Over on line h = refl
