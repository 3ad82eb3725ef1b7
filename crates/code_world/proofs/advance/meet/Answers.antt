-- Answers of meet: a joined end is done or has trapped, and each way has a function of its own.
use Rattle.code_world.proofs.advance.meet.Goals as goal

pub meet_done-requires-clause-meeting : goal.meet_done-requires-clause-meeting
meet_done-requires-clause-meeting g c = c.requires

pub meet_done-requires-clause-done : goal.meet_done-requires-clause-done
meet_done-requires-clause-done g c = c.in-Done.is

pub returns-in-Done-clause-met : goal.returns-in-Done-clause-met
returns-in-Done-clause-met g c = c.meet_done.ensures.met

pub returns-in-Trapped-clause-met : goal.returns-in-Trapped-clause-met
returns-in-Trapped-clause-met g c = λ r s j m are.
    c.meet_trapped.ensures r s j c.args.end m.joiner m.joinee c.in-Trapped.is

pub returns-in-Done-clause-size : goal.returns-in-Done-clause-size
returns-in-Done-clause-size g c = c.meet_done.ensures.size

pub returns-in-Done-clause-same : goal.returns-in-Done-clause-same
returns-in-Done-clause-same g c = c.meet_done.ensures.same
