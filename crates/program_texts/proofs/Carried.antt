-- What an audit says of stated parts, it says of others that have the same texts.
use Rattle.std.proofs.Common.{◌≡◌, inl, inr, Option, Some, None, refl, sym, ◌∙◌, subst}
use Rattle.rev_num.specs.Path.{Path}
use Rattle.revision_machine.specs.PathMap.{PathMap}
use Rattle.revision_machine.specs.Machine.{Machine}
use Rattle.revision_machine.specs.Laws.{IsIn}
use Rattle.audit_rules.specs.Audited.{Telling, Computed, absent, made, joined_twice, missing, IsTwice, taken, Alone, by_move, by_fork, by_join, Passes, at_first, then_by, Computes, ends, at_twice, at_missing, goes, Begins, of_main, of_fork, IsComputed, of_none, of_run, IsSame, Justified, IsYes, IsNo}

-- two parts, or none, have one text
abbrev pub Alike : (M : Machine) (T : Telling M) → Option T.Part → Option T.Part → Type 0
Alike M T None None = Unit {0}
Alike M T None (Some q) = ⊥
Alike M T (Some p) None = ⊥
Alike M T (Some p) (Some q) = T.text p ≡ T.text q

alike_sym : (M : Machine) (T : Telling M) (o u : Option T.Part) → Alike M T o u → Alike M T u o
alike_sym M T None None h = tt
alike_sym M T None (Some q) h = h
alike_sym M T (Some p) None h = h
alike_sym M T (Some p) (Some q) h = sym h

abbrev pub AllAlike : (M : Machine) (T : Telling M) → PathMap T.Part → PathMap T.Part → Type 0
AllAlike M T a b = (r : Path) → Alike M T (a r) (b r)

-- parts with one text are taken alike, and list the same joins
pub record TellsByText (M : Machine) (T : Telling M) : Type 0 where
  pub takes : (r q : Path) (l : M.Local) (p p' : T.Part) → T.text p ≡ T.text p' → T.takes r l q p ≡ T.takes r l q p'
  pub joins : (p p' : T.Part) → T.text p ≡ T.text p' → T.joins p ≡ T.joins p'

module _ (M : Machine) (T : Telling M) (by_text : TellsByText M T) where
  -- the part that the other has of this text
  part_there : (b : PathMap T.Part) (r : Path) (p : T.Part) (o : Option T.Part) → b r ≡ o → Alike M T (Some p) o
      → (p' : T.Part) × (b r ≡ Some p') × (T.text p ≡ T.text p')
  part_there b r p None is h = absurd h
  part_there b r p (Some p') is h = (p', is, h)

  there : (a b : PathMap T.Part) → AllAlike M T a b → (r : Path) (p : T.Part) → a r ≡ Some p
      → (p' : T.Part) × (b r ≡ Some p') × (T.text p ≡ T.text p')
  there a b alike r p here = part_there b r p (b r) refl (subst (λ v. Alike M T v (b r)) here (alike r))

  twice : (a b : PathMap T.Part) → AllAlike M T a b → (r : Path) (l : M.Local) (q : Path) → IsTwice M T a r l q
      → IsTwice M T b r l q
  twice a b alike r l q (inl i) = inl i
  twice a b alike r l q (inr j) =
      let h = there a b alike j.joiner j.part j.states in
      inr (record {
        joiner = j.joiner;
        part = h.0;
        states = h.1;
        earlier = j.earlier;
        lists = subst (IsIn q) (by_text.joins j.part h.0 h.2) j.lists;
      })

  take : (a b : PathMap T.Part) (r : Path) (l : M.Local) (q : Path) (o u : Option T.Part) → Alike M T o u
      → taken M T a r l q o ≡ taken M T b r l q u
  take a b r l q None None h = refl
  take a b r l q None (Some p) h = absurd h
  take a b r l q (Some p) None h = absurd h
  take a b r l q (Some p) (Some p') h = by_text.takes r q l p p' h

  module _ (a b : PathMap T.Part) (alike : AllAlike M T a b) (back : AllAlike M T b a) where
    alone : (r : Path) (l l' : M.Local) → Alone M T a r l l' → Alone M T b r l l'
    alone r l l' (by_move e) = by_move e
    alone r l l' (by_fork c e) = by_fork c e
    alone r l l' (by_join q e n t) =
        by_join q e (λ h. n (twice b a back r l q h)) (sym (take a b r l q (a q) (b q) (alike q)) ∙ t)

    passes : (r : Path) (x l : M.Local) → Passes M T a r x l → Passes M T b r x l
    passes r x l at_first = at_first
    passes r x l (then_by k _ p s) = then_by k l (passes r x k p) (alone r k l s)

    computes : (r : Path) (l : M.Local) (c : Computed T.Part) → Computes M T a r l c → Computes M T b r l c
    computes r l c (ends _ e) = ends l e
    computes r l c (at_twice _ q e t) = at_twice l q e (twice a b alike r l q t)
    computes r l c (at_missing _ q e n t) =
        at_missing l q e (λ h. n (twice b a back r l q h)) (sym (take a b r l q (a q) (b q) (alike q)) ∙ t)
    computes r l c (goes _ l' _ s rest) = goes l l' c (alone r l l' s) (computes r l' c rest)

    module _ (main : M.Local) where
      begins : (r : Path) (x : M.Local) → Begins M T main a r x → Begins M T main b r x
      begins r x (of_main _ _ e f) = of_main r x e f
      begins r x (of_fork _ _ f first l l' p begun so way does at) =
          let h = there a b alike f p so in
          of_fork r x f first l l' h.0 (begins f first begun) h.1 (passes f first l way) does at

  module _ (a b : PathMap T.Part) (alike : AllAlike M T a b) (main : M.Local) where
    back : AllAlike M T b a
    back r = alike_sym M T (a r) (b r) (alike r)

    is_computed : (r : Path) (c : Computed T.Part) → IsComputed M T main a r c → IsComputed M T main b r c
    is_computed r c (of_none n e) = of_none (λ x h. n x (begins b a back alike main r x h)) e
    is_computed r c (of_run x h w) = of_run x (begins a b alike back main r x h) (computes a b alike back r x c w)

  same : (a b : PathMap T.Part) (main : M.Local) (o u : Option T.Part) (c : Computed T.Part) → Alike M T o u
      → IsSame M T main a o c → IsSame M T main b u c
  same a b main None None absent h is = tt
  same a b main None None (made c) h is = is
  same a b main None None joined_twice h is = is
  same a b main None None missing h is = is
  same a b main None (Some p) c h is = absurd h
  same a b main (Some p) None c h is = absurd h
  same a b main (Some p) (Some p') absent h is = is
  same a b main (Some p) (Some p') (made c) h is = sym h ∙ is
  same a b main (Some p) (Some p') joined_twice h is = is
  same a b main (Some p) (Some p') missing h is = is

  justified : (a b : PathMap T.Part) (main : M.Local) → AllAlike M T a b → (r : Path) → Justified M T main a r
      → Justified M T main b r
  justified a b main alike r h = record {
    computed = h.computed;
    is = is_computed a b alike main r h.computed h.is;
    same = same a b main (a r) (b r) h.computed (alike r) h.same;
  }

  pub yes_carried : (a b : PathMap T.Part) (main : M.Local) → AllAlike M T a b → IsYes M T main a → IsYes M T main b
  yes_carried a b main alike h r = justified a b main alike r (h r)

  pub no_carried : (a b : PathMap T.Part) (main : M.Local) → AllAlike M T a b
      → (r : Path) (o : Option T.Part) (c : Computed T.Part) → IsNo M T main a r o c → IsNo M T main b r (b r) c
  no_carried a b main alike r o c h = record {
    states = refl;
    is = is_computed a b alike main r c h.is;
    differs = λ k.
        h.differs
        (same b a main (b r) o c (alike_sym M T o (b r) (subst (λ v. Alike M T v (b r)) h.states (alike r))) k);
    first = λ q sooner. justified a b main alike q (h.first q sooner);
  }
