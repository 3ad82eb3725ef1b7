-- Runs with the children that they fork.
use Rattle.std.proofs.Common.{◌≡◌, inl, inr, List, [], ◌∷◌, ◌++◌, Some, refl, sym, ap, ◌∙◌, subst, append_assoc, append-nil}
use Rattle.rev_num.specs.Path.{Path, child}
use Rattle.revision_machine.specs.Machine.{Forks, Machine, Plain, Global, Live, Revisions, step, Runs}
use Rattle.revision_machine.specs.Laws.{IsIn}
use Rattle.revision_machine.specs.Births.{offspring_of, offspring_at, offspring, RunsBearing, AllKnown}

pub in_front : (ps qs : List Path) (p : Path) → IsIn p ps → IsIn p (ps ++ qs)
in_front [] qs p none = absurd none
in_front (x ∷ ps) qs p (inl e) = inl e
in_front (x ∷ ps) qs p (inr h) = inr (in_front ps qs p h)

pub in_back : (ps qs : List Path) (p : Path) → IsIn p qs → IsIn p (ps ++ qs)
in_back [] qs p h = h
in_back (x ∷ ps) qs p h = inr (in_back ps qs p h)

module _ (Known : Path → Type 0) where
  pub known_front : (cs bs ds : List Path) → cs ≡ bs ++ ds → AllKnown Known cs → AllKnown Known bs
  known_front cs bs ds e known c i = known c (subst (IsIn c) (sym e) (in_front bs ds c i))

  pub known_back : (cs bs ds : List Path) → cs ≡ bs ++ ds → AllKnown Known cs → AllKnown Known ds
  known_back cs bs ds e known c i = known c (subst (IsIn c) (sym e) (in_back bs ds c i))

module _ (M : Machine) where
  pub offspring_child : (revs : Revisions M) (r : Path) (l l' c : M.Local) → revs r ≡ Some (Plain l)
      → M.next r l ≡ Forks l' c → offspring M (Live revs) r ≡ child r (M.forks l) ∷ []
  offspring_child revs r l l' c here does = ap (offspring_at M r) here ∙ ap (offspring_of M r l) does

  pub runs_of : (rs : List Path) (g h : Global M.Local) (cs : List Path) → RunsBearing M g rs h cs → Runs M g rs h
  runs_of [] g h cs run = run.0
  runs_of (r ∷ rs) g h cs run = (run.0, run.1, runs_of rs run.0 h run.2 run.4)

  -- each run has its children
  pub bearing : (rs : List Path) (g h : Global M.Local) → Runs M g rs h → (cs : List Path) × RunsBearing M g rs h cs
  bearing [] g h runs = ([], (runs, refl))
  bearing (r ∷ rs) g h runs =
      let rest = bearing rs runs.0 h runs.2 in (offspring M g r ++ rest.0, (runs.0, runs.1, rest.0, refl, rest.1))

  -- one run after another
  pub bearing_on : (rs ss : List Path) (g h k : Global M.Local) (cs ds : List Path) → RunsBearing M g rs h cs
      → RunsBearing M h ss k ds → RunsBearing M g (rs ++ ss) k (cs ++ ds)
  bearing_on [] ss g h k cs ds one two =
      subst (λ v. RunsBearing M v ss k (cs ++ ds)) (sym one.0)
      (subst (λ v. RunsBearing M h ss k (v ++ ds)) (sym one.1) two)
  bearing_on (r ∷ rs) ss g h k cs ds one two = (
    one.0,
    one.1,
    one.2 ++ ds,
    ap (λ v. v ++ ds) one.3 ∙ append_assoc (offspring M g r) one.2 ds,
    bearing_on rs ss one.0 h k one.2 ds one.4 two,
  )

  pub bears_once : (g h : Global M.Local) (r : Path) (cs : List Path) → step M g r ≡ Some h → offspring M g r ≡ cs
      → RunsBearing M g (r ∷ []) h cs
  bears_once g h r cs s e = (h, s, [], sym e ∙ sym (append-nil (offspring M g r)), (refl, refl))
