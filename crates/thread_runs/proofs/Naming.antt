-- By the forkers of a world of code, births name the world's paths: along a schedule they do, and a world has one list
-- of forkers.
use Rattle.std.proofs.Common.{◌≡◌, ◌∙◌, ℕ, zero, suc, ◌+◌, ◌<◌, List, [], ◌∷◌, ◌++◌, append-nil, length, Some, refl, sym, ap, subst, arith}
use Rattle.rev_num.specs.Path.{Path, child}
use Rattle.revision_machine.specs.Machine.{Plain, Joined}
use Rattle.revision_machine.specs.Laws.{IsDistinct}
use Rattle.revision_machine.specs.Numbered as numbers
use Rattle.revision_machine.specs.Numbered.{Entries, World, Both, Listing, at_number, put_number, paths_of, event_by, begin, Replays}
use Rattle.revision_machine.proofs.Numbers.{number_at, at_paths, length-paths, paths_put, paths_more}
use Rattle.revision_machine.proofs.Paths.{child-same}
use Rattle.revision_machine.proofs.Schedules.{schedule_law}
use Rattle.hub_core.specs.Forkers.{ForkersAre}
use Rattle.code_machine.specs.Local.{CodeRun, IsVerified, Local}
use Rattle.code_machine.specs.Joining.{join}
use Rattle.code_machine.specs.Machines.{act, numbered, start_in}
use Rattle.code_machine.proofs.Changes.{LegOf, went, bore, took, twice, leg_ways, joinee_stays}
use Rattle.revision_machine.proofs.Replays.{replays_keep}
use Rattle.revision_machine.proofs.Lists.{at_front, at_below, below_at}
use Rattle.code_machine.proofs.MachineConditions.{named_counts}
use Rattle.code_machine.proofs.Paying.{BearOk, ActOk, act_ok, join_keeps_forks}
use Rattle.code_machine.proofs.Typing.{bears_act}
use Rattle.code_world.specs.declared.table.Birth.{Birth}
use Rattle.code_world.specs.Endings.{Names}
use Rattle.code_world.specs.Tables.{AreForks, HasPath, AreNamed}
use Rattle.code_world.specs.Turns.{born, forked_once}
use Rattle.code_world.proofs.Rows.{none_some, some_same, forks_at, births_many, forks_kept, forks_put, forks_more, named_born}
use Rattle.thread_runs.specs.Births.{AreBirths, AreEarlier}
use Rattle.thread_runs.specs.Laws.{BirthsNameTheirs}
use Rattle.thread_runs.proofs.Bearing.{births_more, earlier_more, births_one, earlier_one, one_birth}

-- births that name the paths of this world, and the forkers by which they do
record Named (w : Entries (Local ℕ)) : Type 0 where
  forkers : List ℕ
  births : List Birth
  first : at_number forkers 0 ≡ Some 0
  are : AreBirths forkers births
  earlier : AreEarlier forkers
  forks : AreForks births w
  named : AreNamed births (paths_of w)

abbrev AfterLeg : World (Local ℕ) → Type 0
AfterLeg Both = Unit {0}
AfterLeg (Listing w) = Named w

begun : (main : Local ℕ) → main.state.forks ≡ 0 → Named (([], Plain main) ∷ [])
begun main none = record {
  forkers = 0 ∷ [];
  births = record { forker = 0; place = 0; forks = 0 } ∷ [];
  first = refl;
  are = births_one;
  earlier = earlier_one;
  forks = (sym none, tt);
  named = by;
}
  where
    by : (n : ℕ) (b : Birth) → at_number (record { forker = 0; place = 0; forks = 0 } ∷ []) n ≡ Some b
        → HasPath ([] ∷ []) n b
    by zero b e = refl
    by (suc n) b e = none_some e

-- ---- legs

module _ (g : CodeRun) (ok : IsVerified g) (w : Entries (Local ℕ)) (s : Named w) (n : ℕ) (r : Path) (l : Local ℕ)
    (there : at_number w n ≡ Some (r, Plain l)) where
  -- a revision that goes on with as many forks
  goes_on : (l' : Local ℕ) → l'.state.forks ≡ l.state.forks → Named (put_number w n (r, Plain l'))
  goes_on l' same = record {
    forkers = s.forkers;
    births = s.births;
    first = s.first;
    are = s.are;
    earlier = s.earlier;
    forks = forks_kept s.births w s.forks n r r (Plain l) (Plain l') there same;
    named = subst (AreNamed s.births) (sym (paths_put w n r (Plain l) (Plain l') there)) s.named;
  }

  path_at : at_number (paths_of w) n ≡ Some r
  path_at = subst (λ ps. at_number ps n ≡ Some r) (append-nil (paths_of w)) (at_paths w [] n r (Plain l) there)

  many : length s.births ≡ length (paths_of w)
  many = births_many s.births w s.forks ∙ sym (length-paths w)

  birth : (b : Birth) × (at_number s.births n ≡ Some b)
  birth = below_at s.births n (let a = at_below (paths_of w) n r path_at in let m = many in omega (arith, a, m))

  bears : (f : ℕ → Local ℕ) (k : Local ℕ) → (numbered g).next l ≡ numbers.Bears f k
      → Named (put_number w n (r, Plain (f (length w))) ++ (child r l.state.forks, Plain k) ∷ [])
  bears f k is = by birth.0 birth.1
    where
      counts : BearOk g l f k
      counts = subst (ActOk g l) (bears_act g ok (act g l) f k is) (act_ok g ok l)

      by : (b : Birth) → at_number s.births n ≡ Some b
          → Named (put_number w n (r, Plain (f (length w))) ++ (child r l.state.forks, Plain k) ∷ [])
      by b at =
          let between : Entries (Local ℕ) = put_number w n (r, Plain (f (length w))) in
          let made : b.forks ≡ l.state.forks = forks_at s.births w s.forks n b at r (Plain l) there in
          let more : b.forks + 1 ≡ (f (length w)).state.forks =
          (let a = counts.forks (length w) in omega (arith, a, made)) in
          let paths : paths_of w ++ child r b.forks ∷ []
          ≡ paths_of (put_number w n (r, Plain (f (length w))) ++ (child r l.state.forks, Plain k) ∷ []) =
          ap (λ x. paths_of w ++ child r x ∷ []) made
          ∙ sym (paths_more between (child r l.state.forks) (Plain k)
          ∙ ap (λ ps. ps ++ child r l.state.forks ∷ []) (paths_put w n r (Plain l) (Plain (f (length w))) there)) in
          let few : n < length s.forkers =
          (let a = at_below s.births n b at in let e = s.are.all in omega (arith, a, e)) in
          record {
            forkers = s.forkers ++ n ∷ [];
            births = born s.births n b;
            first = at_front s.forkers (n ∷ []) 0 0 s.first;
            are = births_more s.forkers s.births s.are s.earlier n b at;
            earlier = earlier_more s.forkers n s.earlier few;
            forks =
                forks_more (put_number s.births n (forked_once b)) between
                (forks_put s.births w s.forks n (forked_once b) r (Plain (f (length w))) more)
                (record { forker = n; place = b.forks; forks = 0 }) (child r l.state.forks) (Plain k) (sym counts.none);
            named = subst (AreNamed (born s.births n b)) paths
                (named_born s.births (paths_of w) many s.named n b at r path_at);
          }

-- a revision with the mark
marked : (w : Entries (Local ℕ)) → Named w → (m : ℕ) (q : Path) (l : Local ℕ) → at_number w m ≡ Some (q, Plain l)
    → Named (put_number w m (q, Joined l))
marked w s m q l there = record {
  forkers = s.forkers;
  births = s.births;
  first = s.first;
  are = s.are;
  earlier = s.earlier;
  forks = forks_kept s.births w s.forks m q q (Plain l) (Joined l) there refl;
  named = subst (AreNamed s.births) (sym (paths_put w m q (Plain l) (Joined l) there)) s.named;
}

module _ (g : CodeRun) (ok : IsVerified g) where
  one_leg : (w : Entries (Local ℕ)) → Named w → (n : ℕ) (u : World (Local ℕ)) → LegOf (numbered g) w n u → AfterLeg u
  one_leg w s n u (went r l l' at is z) =
      subst AfterLeg (sym z)
      (goes_on g ok w s n r l at l' ((named_counts g ok []).moves r l l' (ap (event_by [] r l.state.forks) is)))
  one_leg w s n u (bore r l f k at is z) = subst AfterLeg (sym z) (bears g ok w s n r l at f k is)
  one_leg w s n u (took r l m q lq at is target stops z) =
      subst AfterLeg (sym z)
      (marked (put_number w n (r, Plain (join g l lq)))
      (goes_on g ok w s n r l at (join g l lq) (join_keeps_forks g l lq)) m q lq
      (joinee_stays (numbered g) w n m r q l lq (Plain (join g l lq)) at is target stops))
  one_leg w s n u (twice r l m at is z) = subst AfterLeg (sym z) tt

  along : (ns : List ℕ) (v w : World (Local ℕ)) → AfterLeg v → Replays (numbered g) v ns w → AfterLeg w
  along = replays_keep (numbered g) AfterLeg (λ x n u s e. one_leg x s n u (leg_ways (numbered g) x n u e))

-- ---- one list of forkers

one_place : (ps : List Path) → IsDistinct ps → (i j : ℕ) (p : Path) → at_number ps i ≡ Some p → at_number ps j ≡ Some p
    → i ≡ j
one_place ps d i j p a b = sym (number_at ps i p d a) ∙ number_at ps j p d b

module _ {A : Type 0} where
  same_list : (xs ys : List A) → length xs ≡ length ys
      → ((n : ℕ) (x y : A) → at_number xs n ≡ Some x → at_number ys n ≡ Some y → x ≡ y) → xs ≡ ys
  same_list [] [] long each = refl
  same_list [] (y ∷ ys) long each = absurd (omega (arith, long))
  same_list (x ∷ xs) [] long each = absurd (omega (arith, long))
  same_list (x ∷ xs) (y ∷ ys) long each =
      let first : x ≡ y = each 0 x y refl refl in
      let rest : xs ≡ ys = same_list xs ys (omega (arith, long)) (λ n a b. each (suc n) a b) in
      (λ i. first i ∷ rest i)

module _ (w : Entries (Local ℕ)) (distinct : IsDistinct (paths_of w)) (s : Named w) (fs : List ℕ)
    (theirs : ForkersAre (paths_of w) fs) where
  one_forker : (n x y : ℕ) → at_number fs n ≡ Some x → at_number s.forkers n ≡ Some y → x ≡ y
  one_forker zero x y a b = some_same (sym a ∙ (theirs.first ∙ (sym s.first ∙ b)))
  one_forker (suc n) x y a b =
      let t = theirs.each n
      (let less = at_below fs (suc n) x a in let long = theirs.long in omega (arith, less, long)) in
      let there =
      below_at s.births (suc n)
      (let less = at_below s.forkers (suc n) y b in let all = s.are.all in omega (arith, less, all)) in
      let path = s.named (suc n) there.0 there.1 in
      let own : there.0.forker ≡ y = some_same (sym (s.are.each (suc n) there.0 there.1).forked ∙ b) in
      let same = child-same t.2.path path.0 t.2.fork there.0.place (some_same (sym t.2.forked ∙ path.3)) in
      let theirs_is : t.0 ≡ x = some_same (sym t.1 ∙ a) in
      sym theirs_is
      ∙ (one_place (paths_of w) distinct t.0 there.0.forker t.2.path t.2.forker (path.2 ∙ ap Some (sym same.0)) ∙ own)

  same_forkers : s.forkers ≡ fs
  same_forkers =
      sym (same_list fs s.forkers
      (let a = theirs.long in
      let b = s.are.all in
      let c = births_many s.births w s.forks in
      let d = length-paths w in
      omega (arith, a, b, c, d))
      one_forker)

  name_theirs : (bs : List Birth) → AreBirths fs bs → Names bs (paths_of w)
  name_theirs bs are = record {
    named = λ n b e.
        by n b e (below_at s.births n
        (let less = at_below bs n b e in
        let all = are.all in
        let own = s.are.all in
        let same : length s.forkers ≡ length fs = ap length same_forkers in
        omega (arith, less, all, own, same)));
    all = let a = are.all in let b = theirs.long in omega (arith, a, b);
  }
    where
      by : (n : ℕ) (b : Birth) → at_number bs n ≡ Some b → (d : Birth) × (at_number s.births n ≡ Some d)
          → HasPath (paths_of w) n b
      by n b e (d, there) =
          subst (HasPath (paths_of w) n)
          (one_birth fs n d b ((subst (λ x. AreBirths x s.births) same_forkers s.are).each n d there) (are.each n b e))
          (s.named n d there)

pub names_theirs : BirthsNameTheirs
names_theirs g ok n m fuel ns w replays fs theirs =
    let law = schedule_law (numbered g) (start_in g n m.body fuel) (named_counts g ok) ns (Listing w) replays in
    let distinct : IsDistinct (paths_of w) = subst IsDistinct law.1 law.2.distinct in
    let s : Named w =
    along g ok ns (begin (numbered g) (start_in g n m.body fuel)) (Listing w) (begun (start_in g n m.body fuel) refl)
    replays in
    (subst AreEarlier (same_forkers w distinct s fs theirs) s.earlier, name_theirs w distinct s fs theirs)
