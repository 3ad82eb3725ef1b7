-- When each answer of a step comes.
use Rattle.std.proofs.Common.{◌≡◌, refl, sym, subst}
use Rattle.rev_num.specs.Path.{Path}
use Rattle.revision_machine.specs.Machine as machine
use Rattle.revision_calculus.specs.Program.{Setting}
use Rattle.revision_calculus.specs.State.{Phase, running, joining, done, trapped, Local}
use Rattle.revision_calculus.specs.Step.{next, by_phase}
use Rattle.revision_calculus.proofs.Events.{IsOwn, running_own}
use Rattle.rev_audit.specs.declared.alone.Alone.{Alone}
use Rattle.rev_audit.specs.declared.alone.Alone.TheVariants.{Moved, Forked, Wants, Ended}
use Rattle.rev_audit.specs.Alone.{alone_event, FitsPhase}

pub fits : (s : Setting) (r : Path) (l new : Local) (a : Alone) → alone_event a new ≡ next s r l → FitsPhase l.phase a
fits s r l new a e = go l.phase refl a e
  where
    go : (p : Phase) → l.phase ≡ p → (a : Alone) → alone_event a new ≡ by_phase s r l p → FitsPhase p a
    go running is Moved e = tt
    go running is (Forked c) e = tt
    go running is (Wants q) e = absurd (subst IsOwn (sym e) (running_own s r l is))
    go running is Ended e = absurd (subst IsOwn (sym e) (running_own s r l is))
    go (joining q left) is (Wants p) e = let f : machine.Joins p ≡ machine.Joins q = e in cc
    go (joining q left) is Moved e = absurd (let f : machine.Moves new ≡ machine.Joins q = e in cc)
    go (joining q left) is (Forked c) e = absurd (let f : machine.Forks new c.local ≡ machine.Joins q = e in cc)
    go (joining q left) is Ended e = absurd (let f : machine.Ended ≡ machine.Joins q = e in cc)
    go done is Ended e = tt
    go done is Moved e = absurd (let f : machine.Moves new ≡ machine.Ended = e in cc)
    go done is (Forked c) e = absurd (let f : machine.Forks new c.local ≡ machine.Ended = e in cc)
    go done is (Wants q) e = absurd (let f : machine.Joins q ≡ machine.Ended = e in cc)
    go (trapped t) is Ended e = tt
    go (trapped t) is Moved e = absurd (let f : machine.Moves new ≡ machine.Ended = e in cc)
    go (trapped t) is (Forked c) e = absurd (let f : machine.Forks new c.local ≡ machine.Ended = e in cc)
    go (trapped t) is (Wants q) e = absurd (let f : machine.Joins q ≡ machine.Ended = e in cc)
