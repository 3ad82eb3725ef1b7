-- The first fault of a composition is that of the least location, where the locations ascend.
--   IsFirst          the entry at this place faults so, and none before it does
--   first_fault      so it is where the composition has a fault
--   no_fault         and where it has none, no entry faults
--   traps_at_least, none_faults   by locations
use Rattle.std.proofs.Common.{◌≡◌, ℕ, zero, suc, ◌<◌, ◌≤◌, Bool, true, false, List, [], ◌∷◌, Some, Result, Ok, Err, ap, sym, ◌∙◌, refl, subst, arith}
use Rattle.std.specs.Prelude.{slice_get, nat_lt}
use Rattle.std.proofs.lemmas.Bool.Decides.{nat_tests}
use Rattle.rev_num.specs.declared.value.NumFault.{NumFault}
use Rattle.rev_num.proofs.Options.{none_some, some_eq}
use Rattle.version_map.specs.declared.end.Written.{Written}
use Rattle.version_map.specs.Ascending.{IsAscending}
use Rattle.version_map.specs.Composing.{Merges, Composition, FaultsAt, before_later, and_later, composed, entries}

ok_err : {A B : Type 0} (x : A) (y : B) → Ok x ≡ Err y → ⊥
ok_err x y h = cc

err_eq : {A B : Type 0} (x y : B) → ◌≡◌ {A = Result A B} (Err x) (Err y) → x ≡ y
err_eq x y h = cc

module _ (merge : Merges ℕ) where
  abbrev Faults : (main : ℕ) → Written → NumFault → Type 0
  Faults main w f = merge w.location main w.value w.root ≡ Err f

  abbrev NoneBefore : (mains : List ℕ) → List Written → ℕ → Type 0
  NoneBefore mains ws at = (j main : ℕ) (w : Written) (f : NumFault)
      → j < at → slice_get mains j ≡ Some main → slice_get ws j ≡ Some w → Faults main w f → ⊥

  record IsFirst (mains : List ℕ) (ws : List Written) (l : ℕ) (f : NumFault) : Type 0 where
    at : ℕ
    main : ℕ
    entry : Written
    main_is : slice_get mains at ≡ Some main
    is : slice_get ws at ≡ Some entry
    location_is : entry.location ≡ l
    faults : Faults main entry f
    before : NoneBefore mains ws at

  abbrev AtNone : (mains : List ℕ) → List Written → Type 0
  AtNone mains ws = (j main : ℕ) (w : Written) (f : NumFault)
      → slice_get mains j ≡ Some main → slice_get ws j ≡ Some w → Faults main w f → ⊥

  at_head : (main : ℕ) (mains : List ℕ) (w : Written) (ws : List Written) (g : NumFault) (l : ℕ) (f : NumFault)
      → Faults main w g → ◌≡◌ {A = Composition ℕ} (Err (w.location, g)) (Err (l, f))
      → IsFirst (main ∷ mains) (w ∷ ws) l f
  at_head main mains w ws g l f is e =
      let same = err_eq (w.location, g) (l, f) e in
      record {
        at = zero;
        main = main;
        entry = w;
        main_is = refl;
        is = refl;
        location_is = ap (λ p. p.0) same;
        faults = is ∙ ap Err (ap (λ p. p.1) same);
        before = λ j main v h lt. absurd (omega (arith, lt));
      }

  behind : (main x : ℕ) (mains : List ℕ) (w : Written) (ws : List Written) (l : ℕ) (f : NumFault)
      → merge w.location main w.value w.root ≡ Ok x → IsFirst mains ws l f → IsFirst (main ∷ mains) (w ∷ ws) l f
  behind main x mains w ws l f is r = record {
    at = suc r.at;
    main = r.main;
    entry = r.entry;
    main_is = r.main_is;
    is = r.is;
    location_is = r.location_is;
    faults = r.faults;
    before = before;
  }
    where
      before : NoneBefore (main ∷ mains) (w ∷ ws) (suc r.at)
      before zero n v h lt em ev e =
          let a : main ≡ n = some_eq em in
          let b : w ≡ v = some_eq ev in
          let e' : Faults main w h = subst (λ k. Faults k w h) (sym a) (subst (λ u. Faults n u h) (sym b) e) in
          ok_err x h (sym is ∙ e')
      before (suc j) n v h lt em ev e = r.before j n v h (omega (arith, lt)) em ev e

  first_fault : (mains : List ℕ) (ws : List Written) (l : ℕ) (f : NumFault)
      → composed merge mains (entries ws) ≡ Err (l, f) → IsFirst mains ws l f
  first_fault [] [] l f e = absurd (ok_err [] (l, f) e)
  first_fault [] (w ∷ ws) l f e = absurd (ok_err [] (l, f) e)
  first_fault (main ∷ mains) [] l f e = absurd (ok_err [] (l, f) e)
  first_fault (main ∷ mains) (w ∷ ws) l f e =
      by (merge w.location main w.value w.root) refl (λ is. first_fault mains ws l f is) e
    where
      by : (r : Result ℕ NumFault) → merge w.location main w.value w.root ≡ r
          → (composed merge mains (entries ws) ≡ Err (l, f) → IsFirst mains ws l f)
          → and_later w.location r (composed merge mains (entries ws)) ≡ Err (l, f)
          → IsFirst (main ∷ mains) (w ∷ ws) l f
      by (Err g) is rec e = at_head main mains w ws g l f is e
      by (Ok x) is rec e = later (composed merge mains (entries ws)) rec e
        where
          later : (c : Composition ℕ) → (c ≡ Err (l, f) → IsFirst mains ws l f) → before_later x c ≡ Err (l, f)
              → IsFirst (main ∷ mains) (w ∷ ws) l f
          later (Ok xs) rec e = absurd (ok_err (x ∷ xs) (l, f) e)
          later (Err p) rec e = behind main x mains w ws l f is (rec e)

  no_fault : (mains : List ℕ) (ws : List Written) (values : List ℕ) → composed merge mains (entries ws) ≡ Ok values
      → AtNone mains ws
  no_fault [] ws values e j n v h em ev is = absurd (none_some em)
  no_fault (main ∷ mains) [] values e j n v h em ev is = absurd (none_some ev)
  no_fault (main ∷ mains) (w ∷ ws) values e j n v h em ev is =
      by (merge w.location main w.value w.root) refl (λ xs is. no_fault mains ws xs is) e j n v h em ev is
    where
      by : (r : Result ℕ NumFault) → merge w.location main w.value w.root ≡ r
          → ((xs : List ℕ) → composed merge mains (entries ws) ≡ Ok xs → AtNone mains ws)
          → and_later w.location r (composed merge mains (entries ws)) ≡ Ok values → AtNone (main ∷ mains) (w ∷ ws)
      by (Err g) is rec e = absurd (ok_err values (w.location, g) (sym e))
      by (Ok x) is rec e = later (composed merge mains (entries ws)) rec e
        where
          later : (c : Composition ℕ) → ((xs : List ℕ) → c ≡ Ok xs → AtNone mains ws) → before_later x c ≡ Ok values
              → AtNone (main ∷ mains) (w ∷ ws)
          later (Err p) rec e j n v h em ev e' = absurd (ok_err values p (sym e))
          later (Ok xs) rec e zero n v h em ev e' =
              let a : main ≡ n = some_eq em in
              let b : w ≡ v = some_eq ev in
              ok_err x h (sym is ∙ subst (λ k. Faults k w h) (sym a) (subst (λ u. Faults n u h) (sym b) e'))
          later (Ok xs) rec e (suc j) n v h em ev e' = rec xs refl j n v h em ev e'

  -- ---- by locations

  module _ (mains : List ℕ) (ws : List Written) where
    pub traps_at_least : IsAscending ws → (l : ℕ) (f : NumFault) → composed merge mains (entries ws) ≡ Err (l, f)
        → FaultsAt merge mains ws l f × ((k : ℕ) (g : NumFault) → FaultsAt merge mains ws k g → l ≤ k)
    traps_at_least ascend l f e =
        let r = first_fault mains ws l f e in (
          record {
            at = r.at;
            main = r.main;
            entry = r.entry;
            main_is = r.main_is;
            is = r.is;
            location_is = r.location_is;
            faults = r.faults;
          },
          λ k g h. by r k g h (nat_lt h.at r.at) refl (nat_lt r.at h.at) refl,
        )
      where
        by : (r : IsFirst mains ws l f) (k : ℕ) (g : NumFault) (h : FaultsAt merge mains ws k g)
            → (d : Bool) → nat_lt h.at r.at ≡ d → (b : Bool) → nat_lt r.at h.at ≡ b → l ≤ k
        by r k g h true d b u =
            absurd (r.before h.at h.main h.entry g (grind (arith, nat_tests, d)) h.main_is h.is h.faults)
        by r k g h false d true u =
            let z = ascend r.at h.at r.entry h.entry (grind (arith, nat_tests, u)) r.is h.is in
            let a = r.location_is in
            let b = h.location_is in
            omega (arith, z, a, b)
        by r k g h false d false u =
            let same : r.at ≡ h.at = grind (arith, nat_tests, d, u) in
            let z : r.entry ≡ h.entry = some_eq (sym r.is ∙ (ap (slice_get ws) same ∙ h.is)) in
            let a = r.location_is in
            let b = h.location_is in
            let y = ap (λ (w : Written). w.location) z in
            omega (arith, a, b, y)

    pub none_faults : (values : List ℕ) → composed merge mains (entries ws) ≡ Ok values → (l : ℕ) (f : NumFault)
        → FaultsAt merge mains ws l f → ⊥
    none_faults values e l f h = no_fault mains ws values e h.at h.main h.entry f h.main_is h.is h.faults
