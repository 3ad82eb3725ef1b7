-- The calculus does what the machine of the code does, by paths and by numbers.
use Rattle.std.proofs.Common.{◌≡◌, ◌∙◌, ℕ, List, Some, None, refl, sym, ap, subst}
use Rattle.std.specs.Prelude.{is_some, slice_get}
use Rattle.rev_num.specs.Path.{Path, child}
use Rattle.revision_machine.specs.Machine.{Moves, Forks, Joins, Ended, Machine}
use Rattle.revision_machine.specs.Laws.{IsIn}
use Rattle.revision_machine.specs.Simulation.{Quiet, stay, more, DoesMove, DoesFork, DoesJoin, Simulates}
use Rattle.revision_machine.specs.Numbered.{machine_by}
use Rattle.revision_calculus.specs.Program.{Setting}
use Rattle.revision_calculus.specs.State as source
use Rattle.revision_calculus.specs.State.{Local}
use Rattle.revision_calculus.specs.Step.{next, by_phase}
use Rattle.revision_calculus.specs.Join as calculus_join
use Rattle.revision_calculus.specs.Calculus.{calculus}
use Rattle.revision_calculus.specs.Kinded.{IsAccepted, IsKinded}
use Rattle.revision_calculus.proofs.Meets.{counts}
use Rattle.revision_calculus.proofs.StepKinds.{kind_kept}
use Rattle.rev_code.specs.declared.code.CodeBlock.{CodeBlock}
use Rattle.rev_code.specs.State.{State}
use Rattle.rev_code.specs.Step.{Comes, goes, traps, forks, joins, ends, stuck}
use Rattle.rev_code.specs.Events as events
use Rattle.program_meaning.specs.StatementLaws.{tables}
use Rattle.code_machine.specs.Local as code
use Rattle.code_machine.specs.Local.{IsVerified, running, done, trapped, at_work, has_ended, end_of}
use Rattle.code_machine.specs.Leg.{leg}
use Rattle.code_machine.specs.Joining.{join_end}
use Rattle.code_machine.specs.Machines as acts
use Rattle.code_machine.specs.Machines.{Act, Bears, Stops, act_of, act_in, act, event_of, machine, numbered}
use Rattle.code_machine.specs.Renamed.{IsNumbered}
use Rattle.code_machine.proofs.Numbering.{simulates}
use Rattle.program_meaning.specs.Related.{run_of, IsAtWork, IsSame, works, is_done, is_trapped}
use Rattle.program_meaning.proofs.Takes.{few_forks}
use Rattle.program_meaning.proofs.Joins.{joins_same}
use Rattle.program_meaning.specs.Legs.{ComesAlike}
use Rattle.program_meaning.specs.Relation.{IsRelated, IsRelatedBy}
use Rattle.program_meaning.proofs.Legs.{legs_alike}
use Rattle.program_meaning.proofs.Through.{simulates_through}

module _ (s : Setting) (well : IsAccepted s.program) (ok : IsVerified (run_of s)) where
  abbrev A : Machine
  A = calculus s

  abbrev B : Machine
  B = machine (run_of s)

  -- ---- what the calculus keeps

  kinded_on : (r : Path) (l m : Local) → Quiet (calculus s) r l m → IsKinded s r l → IsKinded s r m
  kinded_on r l m stay k = k
  kinded_on r l m (more {l' = n} e q) k = kinded_on r n m q ((kind_kept s well).moves r l n k e)

  forks_on : (r : Path) (l m : Local) → Quiet (calculus s) r l m → m.forks ≡ l.forks
  forks_on r l m stay = refl
  forks_on r l m (more {l' = n} e q) = forks_on r n m q ∙ (counts s).moves r l n e

  work_forks : (l : Local) (c : State Path) → IsAtWork s l c → l.forks ≡ c.forks
  work_forks l c h = sym h.stands.2.shared.2 ∙ few_forks (tables s) c h.on h.few

  -- ---- what the code does

  works_act : (k : code.Local Path) → k.phase ≡ running → act (run_of s) k ≡ act_of (run_of s) (leg (run_of s) k.state)
  works_act k e = ap (act_in (run_of s) k.state) e

  done_act : (k : code.Local Path) → k.phase ≡ done → act (run_of s) k ≡ Stops
  done_act k e = ap (act_in (run_of s) k.state) e

  trapped_act : (k : code.Local Path) (u : code.Trap Path) → k.phase ≡ trapped u → act (run_of s) k ≡ Stops
  trapped_act k u e = ap (act_in (run_of s) k.state) e

  fork_act : (c : State Path) (n : ℕ) (args : List (Rattle.rev_code.specs.Words.Word Path)) (b : CodeBlock)
      → slice_get (run_of s).code.blocks n ≡ Some b
      → act_of (run_of s) (forks c n args)
      ≡ Bears (λ h. at_work (events.parent s.share c args h)) (at_work (events.child s.share c n b args))
  fork_act c n args b e = ap (acts.fork (run_of s) c n args) e

  -- ---- moves

  moves_at : (r : Path) (l : Local) (k' : code.Local Path) (n : ℕ) → IsKinded s r l → (o : Comes Path)
      → ComesAlike s r l o → event_of r n (act_of (run_of s) o) ≡ Moves k'
      → DoesMove (calculus s) (machine (run_of s)) (IsRelated s) r l k'
  moves_at r l k' n kinded (ends c w) h e =
      let same : has_ended c done ≡ k' = (let q : Moves (has_ended c done) ≡ Moves k' = e in cc) in
      record {
        after = h.after;
        quiet = h.quiet;
        related = (
          subst (IsSame s r h.after) same (is_done refl h.phase h.shared),
          kinded_on r l h.after h.quiet kinded,
        );
      }
  moves_at r l k' n kinded (traps c x) h e =
      let u : code.Trap Path = record { cause = x; line = c.line; origin = None } in
      let same : has_ended c (trapped u) ≡ k' = (let q : Moves (has_ended c (trapped u)) ≡ Moves k' = e in cc) in
      record {
        after = h.after;
        quiet = h.quiet;
        related = (
          subst (IsSame s r h.after) same (is_trapped h.trap u refl h.phase h.is h.shared),
          kinded_on r l h.after h.quiet kinded,
        );
      }
  moves_at r l k' n kinded (forks c m args) h e =
      absurd (let q : event_of r n
      (Bears (λ x. at_work (events.parent s.share c args x)) (at_work (events.child s.share c m h.block args)))
      ≡ Moves k' = sym (ap (event_of r n) (fork_act c m args h.block h.is)) ∙ e in
      cc)
  moves_at r l k' n kinded (joins c try q) h e = absurd (let z : Joins q ≡ Moves k' = e in cc)
  moves_at r l k' n kinded (goes c) h e = absurd h
  moves_at r l k' n kinded stuck h e = absurd h

  not_moved : (r : Path) (n : ℕ) (a : Act Path) (k' : code.Local Path) → a ≡ Stops → event_of r n a ≡ Moves k' → ⊥
  not_moved r n a k' e f = (let q : Ended ≡ Moves k' = sym (ap (event_of r n) e) ∙ f in cc)

  moves : (r : Path) (l : Local) (k k' : code.Local Path) → IsRelated s r l k → B.next r k ≡ Moves k'
      → DoesMove (calculus s) (machine (run_of s)) (IsRelated s) r l k'
  moves r l k k' (works ph h, kinded) e =
      moves_at r l k' k.state.forks kinded (leg (run_of s) k.state) (legs_alike s well ok r l k.state h kinded)
      (sym (ap (event_of r k.state.forks) (works_act k ph)) ∙ e)
  moves r l k k' (is_done ph f sh, kinded) e =
      absurd (not_moved r k.state.forks (act (run_of s) k) k' (done_act k ph) e)
  moves r l k k' (is_trapped t u ph f is sh, kinded) e =
      absurd (not_moved r k.state.forks (act (run_of s) k) k' (trapped_act k u ph) e)

  -- ---- forks

  forks_at : (r : Path) (l : Local) (k k' kid : code.Local Path) → IsKinded s r l → l.forks ≡ k.state.forks
      → (o : Comes Path) → ComesAlike s r l o → event_of r k.state.forks (act_of (run_of s) o) ≡ Forks k' kid
      → DoesFork (calculus s) (machine (run_of s)) (IsRelated s) r l k k' kid
  forks_at r l k k' kid kinded same (forks c m args) h e =
      let q : Forks (at_work (events.parent s.share c args (child r k.state.forks)))
      (at_work (events.child s.share c m h.block args))
      ≡ Forks k' kid = sym (ap (event_of r k.state.forks) (fork_act c m args h.block h.is)) ∙ e in
      let first : at_work (events.parent s.share c args (child r k.state.forks)) ≡ k' = cc in
      let second : at_work (events.child s.share c m h.block args) ≡ kid = cc in
      let number : h.before.forks ≡ k.state.forks = forks_on r l h.before h.quiet ∙ same in
      let made : c.forks ≡ k.state.forks = sym h.counted ∙ number in
      let kinded_there : IsKinded s r h.before = kinded_on r l h.before h.quiet kinded in
      record {
        before = h.before;
        quiet = h.quiet;
        after = h.forker;
        child_state = h.kid;
        forks = h.forks;
        number = number;
        related = (
          subst (IsSame s r h.forker) first
              (works refl (subst (λ n. IsAtWork s h.forker (events.parent s.share c args (child r n))) made h.works)),
          (kind_kept s well).forker r h.before h.forker h.kid kinded_there h.forks,
        );
        related_child = (
          subst (IsSame s (child r k.state.forks) h.kid) second (works refl h.kid_works),
          subst (λ n. IsKinded s (child r n) h.kid) number
              ((kind_kept s well).forked r h.before h.forker h.kid kinded_there h.forks),
        );
      }
  forks_at r l k k' kid kinded same (ends c w) h e = absurd (let q : Moves (has_ended c done) ≡ Forks k' kid = e in cc)
  forks_at r l k k' kid kinded same (traps c x) h e =
      absurd (let q :
      Moves (has_ended c (trapped (record { cause = x; line = c.line; origin = None }))) ≡ Forks k' kid = e in
      cc)
  forks_at r l k k' kid kinded same (joins c try p) h e = absurd (let q : Joins p ≡ Forks k' kid = e in cc)
  forks_at r l k k' kid kinded same (goes c) h e = absurd h
  forks_at r l k k' kid kinded same stuck h e = absurd h

  not_forked : (r : Path) (n : ℕ) (a : Act Path) (k' kid : code.Local Path) → a ≡ Stops → event_of r n a ≡ Forks k' kid
      → ⊥
  not_forked r n a k' kid e f = (let q : Ended ≡ Forks k' kid = sym (ap (event_of r n) e) ∙ f in cc)

  forks_alike : (r : Path) (l : Local) (k k' kid : code.Local Path) → IsRelated s r l k → B.next r k ≡ Forks k' kid
      → Unit {0} → DoesFork (calculus s) (machine (run_of s)) (IsRelated s) r l k k' kid
  forks_alike r l k k' kid (works ph h, kinded) e known =
      forks_at r l k k' kid kinded (work_forks l k.state h) (leg (run_of s) k.state)
      (legs_alike s well ok r l k.state h kinded) (sym (ap (event_of r k.state.forks) (works_act k ph)) ∙ e)
  forks_alike r l k k' kid (is_done ph f sh, kinded) e known =
      absurd (not_forked r k.state.forks (act (run_of s) k) k' kid (done_act k ph) e)
  forks_alike r l k k' kid (is_trapped t u ph f is sh, kinded) e known =
      absurd (not_forked r k.state.forks (act (run_of s) k) k' kid (trapped_act k u ph) e)

  -- ---- ends

  -- a leg leads to an event
  not_stopped : (r : Path) (l : Local) (n : ℕ) (o : Comes Path) → ComesAlike s r l o
      → event_of r n (act_of (run_of s) o) ≡ Ended → ⊥
  not_stopped r l n (ends c w) h e = (let q : Moves (has_ended c done) ≡ Ended = e in cc)
  not_stopped r l n (traps c x) h e =
      (let q : Moves (has_ended c (trapped (record { cause = x; line = c.line; origin = None }))) ≡ Ended = e in cc)
  not_stopped r l n (forks c m args) h e =
      (let q : Forks (at_work (events.parent s.share c args (child r n)))
      (at_work (events.child s.share c m h.block args))
      ≡ Ended = sym (ap (event_of r n) (fork_act c m args h.block h.is)) ∙ e in
      cc)
  not_stopped r l n (joins c try p) h e = (let q : Joins p ≡ Ended = e in cc)
  not_stopped r l n (goes c) h e = absurd h
  not_stopped r l n stuck h e = absurd h

  at_work_on : (r : Path) (l : Local) (k : code.Local Path) → IsRelated s r l k → B.next r k ≡ Ended → k.phase ≡ running
      → ⊥
  at_work_on r l k (works ph h, kinded) e is =
      not_stopped r l k.state.forks (leg (run_of s) k.state) (legs_alike s well ok r l k.state h kinded)
      (sym (ap (event_of r k.state.forks) (works_act k ph)) ∙ e)
  at_work_on r l k (is_done ph f sh, kinded) e is = (let z : done ≡ running = sym ph ∙ is in cc)
  at_work_on r l k (is_trapped t u ph f x sh, kinded) e is = (let z : trapped u ≡ running = sym ph ∙ is in cc)

  ends_alike : (r : Path) (l : Local) (k : code.Local Path) → IsRelated s r l k → B.next r k ≡ Ended
      → next s r l ≡ Ended
  ends_alike r l k (works ph h, kinded) e = absurd (at_work_on r l k (works ph h, kinded) e ph)
  ends_alike r l k (is_done ph f sh, kinded) e = ap (by_phase s r l) f
  ends_alike r l k (is_trapped t u ph f is sh, kinded) e = ap (by_phase s r l) f

  -- ---- joins

  joins_at : (r q : Path) (l : Local) (k : code.Local Path) → IsKinded s r l → (o : Comes Path)
      → leg (run_of s) k.state ≡ o → ComesAlike s r l o → event_of r k.state.forks (act_of (run_of s) o) ≡ Joins q
      → DoesJoin (calculus s) (machine (run_of s)) (IsRelated s) r q l k
  joins_at r q l k kinded (joins c try p) is h e =
      let target : p ≡ q = (let z : Joins p ≡ Joins q = e in cc) in
      let phase : h.before.phase ≡ source.joining q h.left = h.phase ∙ ap (λ x. source.joining x h.left) target in
      let joining : next s r h.before ≡ Joins q = ap (by_phase s r h.before) phase in
      let kinded_there : IsKinded s r h.before = kinded_on r l h.before h.quiet kinded in
      let there : leg (run_of s) k.state ≡ joins c (is_some h.left) q =
      is ∙ (let x = h.tries in λ n. joins c (x n) (target n)) in
      record {
        before = h.before;
        quiet = h.quiet;
        joins = joining;
        related = λ x y same ended. (
          subst (λ z. IsSame s r (calculus_join.join s r h.before q x) (join_end (run_of s) k z (end_of y))) (sym there)
              (joins_same s well r q h.before h.left c
              (subst (λ z. Rattle.expression_meaning.specs.States.AtJoin s (tables s) h.before h.left z c) target h.at)
              phase kinded_there x y same.0 (at_work_on q x y same ended) same.1),
          (kind_kept s well).joins r q h.before x kinded_there same.1 joining (ends_alike q x y same ended),
        );
      }
  joins_at r q l k kinded (ends c w) is h e = absurd (let z : Moves (has_ended c done) ≡ Joins q = e in cc)
  joins_at r q l k kinded (traps c x) is h e =
      absurd (let z : Moves (has_ended c (trapped (record { cause = x; line = c.line; origin = None }))) ≡ Joins q =
      e in
      cc)
  joins_at r q l k kinded (forks c m args) is h e =
      absurd (let z : Forks (at_work (events.parent s.share c args (child r k.state.forks)))
      (at_work (events.child s.share c m h.block args))
      ≡ Joins q = sym (ap (event_of r k.state.forks) (fork_act c m args h.block h.is)) ∙ e in
      cc)
  joins_at r q l k kinded (goes c) is h e = absurd h
  joins_at r q l k kinded stuck is h e = absurd h

  not_joined : (r : Path) (n : ℕ) (a : Act Path) (q : Path) → a ≡ Stops → event_of r n a ≡ Joins q → ⊥
  not_joined r n a q e f = (let z : Ended ≡ Joins q = sym (ap (event_of r n) e) ∙ f in cc)

  joins_alike : (r q : Path) (l : Local) (k : code.Local Path) → IsRelated s r l k → B.next r k ≡ Joins q
      → DoesJoin (calculus s) (machine (run_of s)) (IsRelated s) r q l k
  joins_alike r q l k (works ph h, kinded) e =
      joins_at r q l k kinded (leg (run_of s) k.state) refl (legs_alike s well ok r l k.state h kinded)
      (sym (ap (event_of r k.state.forks) (works_act k ph)) ∙ e)
  joins_alike r q l k (is_done ph f sh, kinded) e =
      absurd (not_joined r k.state.forks (act (run_of s) k) q (done_act k ph) e)
  joins_alike r q l k (is_trapped t u ph f is sh, kinded) e =
      absurd (not_joined r k.state.forks (act (run_of s) k) q (trapped_act k u ph) e)

  pub code_simulated : Simulates (calculus s) (machine (run_of s)) (IsRelated s) (λ p. Unit {0})
  code_simulated = record { moves = moves; forks = forks_alike; joins = joins_alike; ends = ends_alike }

  pub numbers_simulated : (t : List Path)
      → Simulates (calculus s) (machine_by (numbered (run_of s)) t) (IsRelatedBy s t) (λ p. IsIn p t)
  numbers_simulated t =
      simulates_through (calculus s) (machine (run_of s)) (machine_by (numbered (run_of s)) t) (IsRelated s)
      (IsNumbered t) (λ p. IsIn p t) code_simulated (simulates (run_of s) ok t)
