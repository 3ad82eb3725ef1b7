-- A simulation of local states gives one of whole runs.
use Rattle.std.proofs.Common.{◌≡◌, ◌≢◌, inl, ℕ, suc, Bool, true, false, cond, List, [], ◌∷◌, ◌++◌, replicate, Option, Some, None, refl, sym, ap, ◌∙◌, subst}
use mathlib.Core.Path.{fun_ext}
use Rattle.rev_num.specs.Path.{Path, child, same}
use Rattle.revision_machine.specs.PathMap.{PathMap, with_at}
use Rattle.revision_machine.specs.Machine.{Joins, Ended, Machine, Entry, Plain, Joined, Global, Twice, Live, nowhere, Revisions, start, step, step_at, happens, join_at, join_ended, Runs, Final}
use Rattle.revision_machine.specs.Laws.{IsIn, AllEnded}
use Rattle.revision_machine.specs.Births.{offspring, RunsBearing, AllKnown}
use Rattle.revision_machine.specs.Simulation.{Quiet, stay, more, Simulates, EntryAgrees, Agrees, StepsTo, StepLaw, RunLaw}
use Rattle.revision_machine.proofs.Bearing.{offspring_child, known_front, known_back}
use Rattle.revision_machine.proofs.Paths.{overwrite, swap, child-apart, at_here, at_other}
use Rattle.rev_num.proofs.PostOrder.{same-eq}
use Rattle.rev_num.proofs.Options.{none_some}
use Rattle.revision_machine.proofs.Way.{put_two, Role, itself, forked, met, Way, writes, twice, way, ended_apart}

same_put : {A : Type 0} (m : PathMap A) (r : Path) (a : A) → m r ≡ Some a → m ≡ with_at m r a
same_put {A} m r a e = fun_ext λ p. go p (same r p) refl
  where
    go : (p : Path) (b : Bool) → same r p ≡ b → m p ≡ cond b (Some a) (m p)
    go p true f = ap m (sym (same-eq r p f)) ∙ e
    go p false f = refl

module _ (M : Machine) where
  -- one run after another
  pub runs_on : (rs ss : List Path) (g h k : Global M.Local) → Runs M g rs h → Runs M h ss k → Runs M g (rs ++ ss) k
  runs_on [] ss g h k one two = subst (λ v. Runs M v ss k) (sym one) two
  runs_on (r ∷ rs) ss g h k one two = (one.0, one.1, runs_on rs ss one.0 h k one.2 two)

  -- local steps, as steps of the state
  pub record Quietly (r : Path) (u : Revisions M) (l' : M.Local) : Type 0 where
    pub times : ℕ
    pub runs : (g : Global M.Local) → step M (Live (with_at u r (Plain l'))) r ≡ Some g
        → Runs M (Live u) (replicate (suc times) r) g
    pub alone : Runs M (Live u) (replicate times r) (Live (with_at u r (Plain l')))

  pub quietly : (r : Path) (l l' : M.Local) → Quiet M r l l' → (u : Revisions M) → u r ≡ Some (Plain l) → Quietly r u l'
  quietly r l l' stay u here =
      let is : Live u ≡ Live (with_at u r (Plain l)) = ap Live (same_put u r (Plain l) here) in
      record { times = 0; runs = λ g s. (g, ap (λ v. step M v r) is ∙ s, refl); alone = is }
  quietly r l l' (more {l' = k} does rest) u here =
      let later = quietly r k l' rest (with_at u r (Plain k)) (at_here u r (Plain k)) in
      let once : step M (Live u) r ≡ Some (Live (with_at u r (Plain k))) =
      ap (step_at M u r) here ∙ ap (happens M u r l) does in
      let is : with_at (with_at u r (Plain k)) r (Plain l') ≡ with_at u r (Plain l') =
      overwrite u r (Plain l') (Plain k) in
      record {
        times = suc later.times;
        runs = λ g s. (Live (with_at u r (Plain k)), once, later.runs g (ap (λ v. step M (Live v) r) is ∙ s));
        alone = (
          Live (with_at u r (Plain k)),
          once,
          subst (λ v. Runs M (Live (with_at u r (Plain k))) (replicate later.times r) (Live v)) is later.alone,
        );
      }

module _ (A B : Machine) (R : Path → A.Local → B.Local → Type 0) where
  pub agree_put : (u : Revisions A) (v : Revisions B) → ((p : Path) → EntryAgrees A B R p (u p) (v p))
      → (r : Path) (x : Entry A.Local) (y : Entry B.Local) → EntryAgrees A B R r (Some x) (Some y) → (p : Path)
      → EntryAgrees A B R p (with_at u r x p) (with_at v r y p)
  agree_put u v h r x y xy p = go (same r p) refl
    where
      go : (b : Bool) → same r p ≡ b → EntryAgrees A B R p (cond b (Some x) (u p)) (cond b (Some y) (v p))
      go true e = subst (λ t. EntryAgrees A B R t (Some x) (Some y)) (same-eq r p e) xy
      go false e = h p

  pub record IsPlain (r : Path) (e : Option (Entry A.Local)) (b : B.Local) : Type 0 where
    pub state : A.Local
    pub is : e ≡ Some (Plain state)
    pub related : R r state b

  pub plain_of : (r : Path) (e : Option (Entry A.Local)) (b : B.Local) → EntryAgrees A B R r e (Some (Plain b))
      → IsPlain r e b
  plain_of r None b h = absurd h
  plain_of r (Some (Joined a)) b h = absurd h
  plain_of r (Some (Plain a)) b h = record { state = a; is = refl; related = h }

  marked_of : (r : Path) (e : Option (Entry A.Local)) (b : B.Local) → EntryAgrees A B R r e (Some (Joined b))
      → (a : A.Local) × (e ≡ Some (Joined a))
  marked_of r None b h = absurd h
  marked_of r (Some (Joined a)) b h = (a, refl)
  marked_of r (Some (Plain a)) b h = absurd h

  live_step : (Known : Path → Type 0) → Simulates A B R Known → (u : Revisions A) (v : Revisions B)
      → ((p : Path) → EntryAgrees A B R p (u p) (v p)) → (r : Path) (w' : Global B.Local) → Way B v r w'
      → AllKnown Known (offspring B (Live v) r) → StepsTo A B R r (Live u) w'
  live_step Known sim u v h r w' (writes b b' o e here role) known = of_role b b' o e here role
    where
      of_role : (b b' : B.Local) (o : Path) (e : Entry B.Local) → v r ≡ Some (Plain b) → Role B v r b b' o e
          → StepsTo A B R r (Live u) (Live (put_two v r (Plain b') o e))
      of_role b b' o e here (itself _ does) =
          let x = plain_of r (u r) b (subst (λ t. EntryAgrees A B R r (u r) t) here (h r)) in
          let m = sim.moves r x.state b b' x.related does in
          let q = quietly A r x.state m.after m.quiet u x.is in
          let y : Entry A.Local = Plain m.after in
          record {
            times = q.times;
            end = Live (with_at (with_at u r y) r y);
            runs = subst (λ t. Runs A (Live u) (replicate q.times r) (Live t)) (sym (overwrite u r y y)) q.alone;
            agrees = agree_put (with_at u r y) (with_at v r (Plain b')) (agree_put u v h r y (Plain b') m.related) r y
                (Plain b') m.related;
          }
      of_role b b' o e here (forked _ c does) =
          let x = plain_of r (u r) b (subst (λ t. EntryAgrees A B R r (u r) t) here (h r)) in
          let m = sim.forks r x.state b b' c x.related does
          (known (child r (B.forks b))
          (subst (IsIn (child r (B.forks b))) (sym (offspring_child B v r b b' c here does)) (inl refl))) in
          let q = quietly A r x.state m.before m.quiet u x.is in
          let k : Path = child r (B.forks b) in
          let mid : Revisions A = with_at u r (Plain m.before) in
          let one : step A (Live mid) r
          ≡ Some (Live (with_at (with_at mid r (Plain m.after)) (child r (A.forks m.before)) (Plain m.child_state))) =
          ap (step_at A mid r) (at_here u r (Plain m.before)) ∙ ap (happens A mid r m.before) m.forks in
          let two : with_at (with_at mid r (Plain m.after)) (child r (A.forks m.before)) (Plain m.child_state)
          ≡ put_two u r (Plain m.after) k (Plain m.child_state) =
          ap (λ n. with_at (with_at mid r (Plain m.after)) (child r n) (Plain m.child_state)) m.number
          ∙ ap (λ t. with_at t k (Plain m.child_state)) (overwrite u r (Plain m.after) (Plain m.before))
          ∙ swap u r k (Plain m.after) (Plain m.child_state) (child-apart r (B.forks b)) in
          record {
            times = suc q.times;
            end = Live (put_two u r (Plain m.after) k (Plain m.child_state));
            runs = q.runs _ (one ∙ ap (λ t. Some (Live t)) two);
            agrees = agree_put (with_at u k (Plain m.child_state)) (with_at v k (Plain c))
                (agree_put u v h k (Plain m.child_state) (Plain c) m.related_child) r (Plain m.after) (Plain b')
                m.related;
          }
      of_role b b' o e here (met q y does was ended) =
          let x = plain_of r (u r) b (subst (λ t. EntryAgrees A B R r (u r) t) here (h r)) in
          let z = plain_of q (u q) y (subst (λ t. EntryAgrees A B R q (u q) t) was (h q)) in
          let m = sim.joins r q x.state b x.related does in
          let s = quietly A r x.state m.before m.quiet u x.is in
          let mid : Revisions A = with_at u r (Plain m.before) in
          let apart : r ≢ q =
          ended_apart B v r q b y here (λ t. let clash : Joins q ≡ Ended = sym does ∙ t in cc) was ended in
          let stops : A.next q z.state ≡ Ended = sim.ends q z.state y z.related ended in
          let new_state : Entry A.Local = Plain (A.join r m.before q z.state) in
          let one : step A (Live mid) r ≡ Some (Live (with_at (with_at mid r new_state) q (Joined z.state))) =
          ap (step_at A mid r) (at_here u r (Plain m.before)) ∙ ap (happens A mid r m.before) m.joins
          ∙ ap (join_at A mid r m.before q) (at_other u r (Plain m.before) q apart ∙ z.is)
          ∙ ap (join_ended A mid r m.before q z.state) stops in
          let two : with_at (with_at mid r new_state) q (Joined z.state) ≡ put_two u r new_state q (Joined z.state) =
          ap (λ t. with_at t q (Joined z.state)) (overwrite u r new_state (Plain m.before))
          ∙ swap u r q new_state (Joined z.state) apart in
          record {
            times = suc s.times;
            end = Live (put_two u r new_state q (Joined z.state));
            runs = s.runs _ (one ∙ ap (λ t. Some (Live t)) two);
            agrees = agree_put (with_at u q (Joined z.state)) (with_at v q (Joined y))
                (agree_put u v h q (Joined z.state) (Joined y) z.related) r new_state (Plain b')
                (m.related z.state y z.related ended);
          }
  live_step Known sim u v h r w' (twice b q y here does was) known =
      let x = plain_of r (u r) b (subst (λ t. EntryAgrees A B R r (u r) t) here (h r)) in
      let z = marked_of q (u q) y (subst (λ t. EntryAgrees A B R q (u q) t) was (h q)) in
      let m = sim.joins r q x.state b x.related does in
      let s = quietly A r x.state m.before m.quiet u x.is in
      let mid : Revisions A = with_at u r (Plain m.before) in
      let apart : r ≢ q = λ t. (let clash : Some (Plain b) ≡ Some (Joined y) = sym here ∙ ap v t ∙ was in cc) in
      let one : step A (Live mid) r ≡ Some Twice =
      ap (step_at A mid r) (at_here u r (Plain m.before)) ∙ ap (happens A mid r m.before) m.joins
      ∙ ap (join_at A mid r m.before q) (at_other u r (Plain m.before) q apart ∙ z.1) in
      record { times = suc s.times; end = Twice; runs = s.runs Twice one; agrees = tt }

  pub step_law : (Known : Path → Type 0) → Simulates A B R Known → StepLaw A B R Known
  step_law Known sim Twice Twice w' r h s known = none_some s
  step_law Known sim Twice (Live v) w' r h s known = absurd h
  step_law Known sim (Live u) Twice w' r h s known = absurd h
  step_law Known sim (Live u) (Live v) w' r h s known = live_step Known sim u v h r w' (way B v r w' s) known

  from : (Known : Path → Type 0) → Simulates A B R Known
      → (ws cs : List Path) (g : Global A.Local) (w w' : Global B.Local) → Agrees A B R g w → RunsBearing B w ws w' cs
      → AllKnown Known cs → (rs : List Path) × (g' : Global A.Local) × Runs A g rs g' × Agrees A B R g' w'
  from Known sim [] cs g w w' h runs known = ([], g, refl, subst (Agrees A B R g) runs.0 h)
  from Known sim (r ∷ ws) cs g w w' h runs known =
      let one = step_law Known sim g w runs.0 r h runs.1 (known_front Known cs (offspring B w r) runs.2 runs.3 known) in
      let rest =
      from Known sim ws runs.2 one.end runs.0 w' one.agrees runs.4
      (known_back Known cs (offspring B w r) runs.2 runs.3 known) in (
        replicate one.times r ++ rest.0,
        rest.1,
        runs_on A (replicate one.times r) rest.0 g one.end rest.1 one.runs rest.2,
        rest.3,
      )

  pub run_law : (Known : Path → Type 0) (a : A.Local) (b : B.Local) → Simulates A B R Known → R [] a b
      → RunLaw A B R Known a b
  run_law Known a b sim related ws cs w runs known =
      from Known sim ws cs (start A a) (start B b) w
      (agree_put nowhere nowhere (λ p. tt) [] (Plain a) (Plain b) related) runs known

  -- where every revision of B has ended, no revision of A can step
  pub final_of : (Known : Path → Type 0) → Simulates A B R Known → (g : Global A.Local) (w : Global B.Local)
      → Agrees A B R g w → AllEnded B w → Final A g
  final_of Known sim Twice w h ended r = refl
  final_of Known sim (Live u) Twice h ended r = absurd h
  final_of Known sim (Live u) (Live v) h ended r = by (u r) (v r) refl refl (h r)
    where
      by : (e : Option (Entry A.Local)) (f : Option (Entry B.Local)) → u r ≡ e → v r ≡ f → EntryAgrees A B R r e f
          → step_at A u r e ≡ None
      by None f x y z = refl
      by (Some (Joined a)) f x y z = refl
      by (Some (Plain a)) None x y z = absurd z
      by (Some (Plain a)) (Some (Joined b)) x y z = absurd z
      by (Some (Plain a)) (Some (Plain b)) x y z = ap (happens A u r a) (sim.ends r a b z (ended.each r (Plain b) y))
