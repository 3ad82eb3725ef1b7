-- A revision in a state to which no event leads is in that with which it began.
use Rattle.std.proofs.Common.{◌≡◌, ◌≢◌, ◌∙◌, ◌⊎◌, inl, inr, Bool, true, false, [], ◌∷◌, ◌++◌, Some, refl, sym, ap, subst}
use Rattle.rev_num.specs.Path.{Path}
use Rattle.rev_num.proofs.Options.{none_some}
use Rattle.revision_machine.specs.Machine.{Moves, Forks, Joins, Ended, Machine, Entry, Plain, Joined, Global, Twice, Live, Revisions, start, step, Reached}
use Rattle.revision_machine.specs.Laws.{local_of, KeptLaw}
use Rattle.revision_machine.proofs.Ends.{along}
use Rattle.revision_machine.proofs.Paths.{some_inj, decide_same}
use Rattle.revision_machine.proofs.Way.{put_two, Role, Way, writes, twice, way, Place, own, new, marks, place}
use Rattle.revision_machine.proofs.Diamond.{two_here, two_there, two_other}
use Rattle.code_memos.specs.Births as births
use Rattle.code_memos.specs.Births.{Born, NewIsBorn}
use Rattle.code_memos.proofs.Births.{runs_then}

-- as IsNewAtBirth, where this holds of each revision of a reached state
pub record IsNew (M : Machine) (P : Path → M.Local → Type 0) (N : M.Local → Type 0) : Type 0 where
  pub moves : (r : Path) (l l' : M.Local) → P r l → M.next r l ≡ Moves l' → N l' → ⊥
  pub forker : (r : Path) (l l' c : M.Local) → P r l → M.next r l ≡ Forks l' c → N l' → ⊥
  pub joins : (r q : Path) (l lq : M.Local) → P r l → P q lq → M.next r l ≡ Joins q → M.next q lq ≡ Ended
      → N (M.join r l q lq) → ⊥

module _ (M : Machine) (main : M.Local) (P : Path → M.Local → Type 0) (holds : KeptLaw M main P) (N : M.Local → Type 0)
    (news : IsNew M P N) where
  abbrev AllBorn : Revisions M → Type 0
  AllBorn revs = (r : Path) (e : Entry M.Local) → revs r ≡ Some e → N (local_of e) → Born M main r (local_of e)

  abbrev In : Global M.Local → Type 0
  In Twice = Unit {0}
  In (Live revs) = AllBorn revs

  abbrev Good : Global M.Local → Type 0
  Good g = Reached M main g × In g

  by_step : (revs : Revisions M) → Reached M main (Live revs) → AllBorn revs
      → (s : Path) (l l' : M.Local) (o : Path) (e : Entry M.Local) → revs s ≡ Some (Plain l) → Role M revs s l l' o e
      → AllBorn (put_two revs s (Plain l') o e)
  by_step revs reached all s l l' o e here x r f there is = go (decide_same s r) (decide_same o r) (place M x)
    where
      here' : P s l
      here' = holds (Live revs) reached s (Plain l) here

      -- what stands there now
      same : (p : Path) (g : Entry M.Local) → p ≡ r → put_two revs s (Plain l') o e p ≡ Some g → g ≡ f
      same p g pr h = some_inj (sym h ∙ ap (put_two revs s (Plain l') o e) pr ∙ there)

      -- it is not new, which it was said to be
      no : (s ≡ r) → (N l' → ⊥) → Born M main r (local_of f)
      no sr not = absurd (not
          (subst (λ v. N (local_of v)) (sym (same s (Plain l') sr (two_here revs s o (Plain l') e))) is))

      go : (s ≡ r) ⊎ (s ≢ r) → (o ≡ r) ⊎ (o ≢ r) → Place M revs s l l' o e → Born M main r (local_of f)
      go (inl sr) z (own does _ _) = no sr (news.moves s l l' here' does)
      go (inl sr) z (new c does _ _) = no sr (news.forker s l l' c here' does)
      go (inl sr) z (marks lq does was ended jl _) =
          no sr (λ i. news.joins s o l lq here' (holds (Live revs) reached o (Plain lq) was) does ended (subst N jl i))
      go (inr sr) (inr or) p = all r f (sym (two_other revs s o (Plain l') e r sr or) ∙ there) is
      go (inr sr) (inl or) (own _ a _) = absurd (sr (sym a ∙ or))
      go (inr sr) (inl or) (new c does a ee) =
          let k = same o (Plain c) or (two_there revs s o (Plain l') e (λ v. sr (v ∙ or)) ∙ ap Some ee) in
          subst (λ v. Born M main r (local_of v)) k
          (births.forked (record {
            revs = revs;
            reached = reached;
            forker = s;
            before = l;
            after = l';
            there = here;
            forks = does;
            is = sym or ∙ a;
          }))
      go (inr sr) (inl or) (marks lq does was ended jl ee) =
          let k = same o (Joined lq) or (two_there revs s o (Plain l') e (λ v. sr (v ∙ or)) ∙ ap Some ee) in
          subst (λ v. Born M main r (local_of v)) k
          (subst (λ p. Born M main p lq) or (all o (Plain lq) was (subst (λ v. N (local_of v)) (sym k) is)))

  keeps : (g h : Global M.Local) (r : Path) → Good g → step M g r ≡ Some h → Good h
  keeps Twice h r good s = none_some s
  keeps (Live revs) h r good s = (
    record { by = good.0.by ++ r ∷ []; runs = runs_then M good.0.by (start M main) (Live revs) h r good.0.runs s },
    by h (way M revs r h s),
  )
    where
      by : (h : Global M.Local) → Way M revs r h → In h
      by h (writes l l' o e here x) = by_step revs good.0 good.1 r l l' o e here x
      by h (twice l q lq here does there) = tt

  begins : In (start M main)
  begins [] e there is = births.first refl (ap local_of (some_inj (sym there)))
  begins (x ∷ r) e there is = none_some there

  pub new_born : (revs : Revisions M) → Reached M main (Live revs) → AllBorn revs
  new_born revs reached =
      (along M Good keeps reached.by (start M main) (Live revs) (record { by = []; runs = refl }, begins)
      reached.runs).1

pub new_is_born : (M : Machine) (main : M.Local) → NewIsBorn M main
new_is_born M main class news revs reached =
    new_born M main (λ r l. Unit {0}) (λ g h. any g) (λ l. class l ≡ true) (record {
      moves = λ r l l' p does is. apart (class l') is (news.moves r l l' does);
      forker = λ r l l' c p does is. apart (class l') is (news.forker r l l' c does);
      joins = λ r q l lq p o does over is. apart (class (M.join r l q lq)) is (news.joins r q l lq does over);
    }) revs reached
  where
    apart : (b : Bool) → b ≡ true → b ≡ false → ⊥
    apart b h k = let z : true ≡ false = sym h ∙ k in cc

    any : (g : Global M.Local) → Rattle.revision_machine.specs.Laws.Everywhere M (λ r l. Unit {0}) g
    any Twice = tt
    any (Live revs) = λ r e there. tt
