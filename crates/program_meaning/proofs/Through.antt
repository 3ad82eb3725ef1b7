-- A machine that does what a second does, which does what a third does, does what the third does.
use Rattle.std.proofs.Common.{◌≡◌, ◌∙◌, subst}
use Rattle.rev_num.specs.Path.{Path, child}
use Rattle.revision_machine.specs.Machine.{Moves, Forks, Joins, Machine}
use Rattle.revision_machine.specs.Simulation.{Quiet, stay, more, DoesMove, DoesFork, DoesJoin, Simulates}

module _ (M : Machine) where
  pub quiet_on : (r : Path) (a b c : M.Local) → Quiet M r a b → Quiet M r b c → Quiet M r a c
  quiet_on r a b c stay q = q
  quiet_on r a b c (more {l' = m} e p) q = more e (quiet_on r m b c p q)

module _ (A B C : Machine) (R : Path → A.Local → B.Local → Type 0) (S : Path → B.Local → C.Local → Type 0)
    (Known : Path → Type 0) (one : Simulates A B R (λ p. Unit {0})) (two : Simulates B C S Known) where
  abbrev Both : Path → A.Local → C.Local → Type 0
  Both r a c = (b : B.Local) × R r a b × S r b c

  -- what local steps of the second lead to, those of the first lead to
  record Lifts (r : Path) (a : A.Local) (b : B.Local) : Type 0 where
    after : A.Local
    quiet : Quiet A r a after
    related : R r after b

  lifts : (r : Path) (a : A.Local) (b b' : B.Local) → R r a b → Quiet B r b b' → Lifts r a b'
  lifts r a b b' rel stay = record { after = a; quiet = stay; related = rel }
  lifts r a b b' rel (more {l' = m} e q) =
      let d = one.moves r a b m rel e in
      let l = lifts r d.after m b' d.related q in
      record { after = l.after; quiet = quiet_on A r a d.after l.after d.quiet l.quiet; related = l.related }

  moves : (r : Path) (a : A.Local) (c c' : C.Local) → Both r a c → C.next r c ≡ Moves c' → DoesMove A C Both r a c'
  moves r a c c' rel e =
      let d = two.moves r rel.0 c c' rel.2 e in
      let l = lifts r a rel.0 d.after rel.1 d.quiet in
      record { after = l.after; quiet = l.quiet; related = (d.after, l.related, d.related) }

  forks : (r : Path) (a : A.Local) (c c' k : C.Local) → Both r a c → C.next r c ≡ Forks c' k
      → Known (child r (C.forks c)) → DoesFork A C Both r a c c' k
  forks r a c c' k rel e known =
      let d = two.forks r rel.0 c c' k rel.2 e known in
      let l = lifts r a rel.0 d.before rel.1 d.quiet in
      let f = one.forks r l.after d.before d.after d.child_state l.related d.forks tt in
      record {
        before = f.before;
        quiet = quiet_on A r a l.after f.before l.quiet f.quiet;
        after = f.after;
        child_state = f.child_state;
        forks = f.forks;
        number = f.number ∙ d.number;
        related = (d.after, f.related, d.related);
        related_child = (
          d.child_state,
          subst (λ n. R (child r n) f.child_state d.child_state) d.number f.related_child,
          d.related_child,
        );
      }

  joins : (r q : Path) (a : A.Local) (c : C.Local) → Both r a c → C.next r c ≡ Joins q → DoesJoin A C Both r q a c
  joins r q a c rel e =
      let d = two.joins r q rel.0 c rel.2 e in
      let l = lifts r a rel.0 d.before rel.1 d.quiet in
      let j = one.joins r q l.after d.before l.related d.joins in
      record {
        before = j.before;
        quiet = quiet_on A r a l.after j.before l.quiet j.quiet;
        joins = j.joins;
        related = λ x z other ended. (
          B.join r d.before q other.0,
          j.related x other.0 other.1 (two.ends q other.0 z other.2 ended),
          d.related other.0 z other.2 ended,
        );
      }

  pub simulates_through : Simulates A C (λ r a c. (b : B.Local) × R r a b × S r b c) Known
  simulates_through = record {
    moves = moves;
    forks = forks;
    joins = joins;
    ends = λ r a c rel e. one.ends r a rel.0 rel.1 (two.ends r rel.0 c rel.2 e);
  }
