-- Records and statuses change side by side: a new record, a child that is kept, one that is kept no more.
use Rattle.std.proofs.Common.{◌≡◌, ◌≢◌, ◌⊎◌, inl, inr, ℕ, zero, suc, ◌<◌, List, [], ◌∷◌, ◌++◌, length, refl, sym, ap, ◌∙◌, subst, arith, Option, Some, None}
use mathlib.Core.Logic.{dite}
use native.Mathlib.Decide.{ℕ_discrete}
use Rattle.revision_machine.specs.Numbered.{at_number, put_number}
use Rattle.revision_machine.proofs.Paths.{some_inj}
use Rattle.revision_machine.proofs.Numbers.{none_some}
use Rattle.revision_machine.proofs.Lists.{put_other, put_here, at_length, at_none}
use Rattle.hub_core.specs.declared.status.Status.{Status}
use Rattle.hub_core.specs.declared.status.Status.TheVariants.{Out, Waiting, Gone}
use Rattle.hub_core.specs.HubMachine.{HubMachine}
use Rattle.hub_core.specs.Counts.{is_at, times}
use Rattle.hub_core.specs.Passes.{without}
use Rattle.hub_core.specs.Recorded.{put_record}
use Rattle.hub_core.specs.Tally.{record_at, IsLone, Shadows, AreTracked}
use Rattle.hub_core.proofs.Lists.{is_at_same, is_at_other}
use Rattle.hub_core.proofs.Passes.{count_gone, count_other}
use Rattle.hub_core.proofs.Moves.{at_before}
use Rattle.hub_core.proofs.Lines.{AreListed, IsListed}
use Rattle.hub_core.proofs.Staying.{put_record_other}

module _ {R A E : Type 0} where
  abbrev Other : List (Status R A E) → List ℕ → ℕ → Type 0
  Other slots lone j = IsLone slots lone j ⊎ ((at_number slots j ≡ None) × (times j lone ≡ 0))

  pub record_within : (rs : List (Option (Status R A E))) (n : ℕ) (x : Status R A E) → record_at rs n ≡ Some x
      → n < length rs
  record_within [] n x e = none_some e
  record_within (y ∷ rs) zero x e = omega arith
  record_within (y ∷ rs) (suc n) x e = let r = record_within rs n x e in omega arith

  pub put_record_within : (rs : List (Option (Status R A E))) (n : ℕ) (x : Status R A E) → n < length rs
      → record_at (put_record rs n x) n ≡ Some x
  put_record_within [] n x h = absurd (omega arith)
  put_record_within (y ∷ rs) zero x h = refl
  put_record_within (y ∷ rs) (suc n) x h = put_record_within rs n x (omega arith)

  pub put_record_length : (rs : List (Option (Status R A E))) (n : ℕ) (x : Status R A E)
      → length (put_record rs n x) ≡ length rs
  put_record_length [] n x = refl
  put_record_length (y ∷ rs) zero x = refl
  put_record_length (y ∷ rs) (suc n) x = ap suc (put_record_length rs n x)

  -- where the status, and whether it is kept, are as before
  other_same : (slots slots' : List (Status R A E)) (lone lone' : List ℕ) (j : ℕ)
      → at_number slots' j ≡ at_number slots j → times j lone' ≡ times j lone → Other slots lone j
      → Other slots' lone' j
  other_same slots slots' lone lone' j e t (inl (inl h)) = inl (inl (e ∙ h.0, let a = h.1 in omega arith))
  other_same slots slots' lone lone' j e t (inl (inr h)) = inl (inr (e ∙ h.0, t ∙ h.1))
  other_same slots slots' lone lone' j e t (inr h) = inr (e ∙ h.0, t ∙ h.1)

  -- one more revision, with a record
  pub shadows_add : (rs : List (Option (Status R A E))) (slots : List (Status R A E)) (lone : List ℕ) (n : ℕ)
      (x : Status R A E)
      → Shadows rs slots lone → n ≡ length slots → n < length rs → times n lone ≡ 0
      → Shadows (put_record rs n x) (slots ++ x ∷ []) lone
  shadows_add rs slots lone n x sh is within none = record {
    recorded = λ j z h. dite (ℕ_discrete j n)
        (λ e.
        let got : Some x ≡ Some z =
        sym (put_record_within rs n x within) ∙ (ap (record_at (put_record rs n x)) (sym e) ∙ h) in (
          ap (at_number (slots ++ x ∷ [])) (e ∙ is) ∙ (at_length slots x [] ∙ got),
          ap (λ i. times i lone) e ∙ none,
        ))
        (λ ne.
        let was = sh.recorded j z (sym (put_record_other rs n j x ne) ∙ h) in
        (at_before slots x j (λ q. ne (q ∙ sym is)) ∙ was.0, was.1));
    others = λ j h. dite (ℕ_discrete j n)
        (λ e. none_some (sym h ∙ (ap (record_at (put_record rs n x)) e ∙ put_record_within rs n x within)))
        (λ ne. other_same slots (slots ++ x ∷ []) lone lone j (at_before slots x j (λ q. ne (q ∙ sym is))) refl
        (sh.others j (sym (put_record_other rs n j x ne) ∙ h)));
  }

  -- one more that a seat keeps, without a record
  pub shadows_keep : (rs : List (Option (Status R A E))) (slots : List (Status R A E)) (lone : List ℕ) (n : ℕ)
      → Shadows rs slots lone → n ≡ length slots → Shadows rs (slots ++ Out ∷ []) (n ∷ lone)
  shadows_keep rs slots lone n sh is = record {
    recorded = λ j z h.
        let was = sh.recorded j z h in
        let ne : j ≢ n = λ e.
        none_some (sym (at_none slots j (let q = e ∙ is in omega arith)) ∙ was.0) in
        let o = is_at_other j n (λ q. ne (sym q)) in
        let t = was.1 in
        (at_before slots Out j (λ q. ne (q ∙ sym is)) ∙ was.0, omega arith);
    others = λ j h. dite (ℕ_discrete j n)
        (λ e.
        let o : is_at j n ≡ 1 = ap (λ i. is_at i n) e ∙ is_at_same n in
        inl (inl (ap (at_number (slots ++ Out ∷ [])) (e ∙ is) ∙ at_length slots Out [], omega arith)))
        (λ ne.
        let o = is_at_other j n (λ q. ne (sym q)) in
        other_same slots (slots ++ Out ∷ []) lone (n ∷ lone) j (at_before slots Out j (λ q. ne (q ∙ sym is)))
        (omega arith) (sh.others j h));
  }

  -- a child that a seat keeps gets a record
  pub shadows_record : (rs : List (Option (Status R A E))) (slots : List (Status R A E)) (lone : List ℕ) (n : ℕ)
      → Shadows rs slots lone → n < length rs → at_number slots n ≡ Some Out
      → Shadows (put_record rs n Out) slots (without n lone)
  shadows_record rs slots lone n sh within out = record {
    recorded = λ j z h. dite (ℕ_discrete j n)
        (λ e.
        let got : Some Out ≡ Some z =
        sym (put_record_within rs n Out within) ∙ (ap (record_at (put_record rs n Out)) (sym e) ∙ h) in (
          ap (at_number slots) e ∙ (out ∙ got),
          ap (λ i. times i (without n lone)) e ∙ count_gone (λ (x : ℕ). x) n lone,
        ))
        (λ ne.
        let was = sh.recorded j z (sym (put_record_other rs n j Out ne) ∙ h) in
        (was.0, count_other (λ (x : ℕ). x) n j lone ne ∙ was.1));
    others = λ j h. dite (ℕ_discrete j n)
        (λ e. none_some (sym h ∙ (ap (record_at (put_record rs n Out)) e ∙ put_record_within rs n Out within)))
        (λ ne. other_same slots slots lone (without n lone) j refl (count_other (λ (x : ℕ). x) n j lone ne)
        (sh.others j (sym (put_record_other rs n j Out ne) ∙ h)));
  }

  -- a child that a seat kept was joined
  pub shadows_gone : (rs : List (Option (Status R A E))) (slots : List (Status R A E)) (lone : List ℕ) (i : ℕ)
      → Shadows rs slots lone → record_at rs i ≡ None → at_number slots i ≡ Some Out
      → Shadows rs (put_number slots i Gone) (without i lone)
  shadows_gone rs slots lone i sh none out = record {
    recorded = λ j z h.
        let was = sh.recorded j z h in
        let ne : j ≢ i = λ e. none_some (sym none ∙ (ap (record_at rs) (sym e) ∙ h)) in
        (put_other slots i j Gone ne ∙ was.0, count_other (λ (x : ℕ). x) i j lone ne ∙ was.1);
    others = λ j h. dite (ℕ_discrete j i)
        (λ e. inl (inr (
          ap (at_number (put_number slots i Gone)) e ∙ put_here slots i Out Gone out,
          ap (λ x. times x (without i lone)) e ∙ count_gone (λ (x : ℕ). x) i lone,
        )))
        (λ ne. other_same slots (put_number slots i Gone) lone (without i lone) j (put_other slots i j Gone ne)
        (count_other (λ (x : ℕ). x) i j lone ne) (sh.others j h));
  }

module _ {L R A E : Type 0} (d : HubMachine L R A E) where
  -- what can stand in a list has a record
  pub shadows_listed : (rs : List (Option (Status R A E))) (slots : List (Status R A E)) (lone : List ℕ)
      → Shadows rs slots lone → AreListed d (length rs) slots
  shadows_listed rs slots lone sh n x e listed = by (record_at rs n) refl
    where
      lone_not : IsLone slots lone n → n < length rs
      lone_not (inl h) = absurd (subst (IsListed d (length rs)) (some_inj (sym e ∙ h.0)) listed)
      lone_not (inr h) = absurd (subst (IsListed d (length rs)) (some_inj (sym e ∙ h.0)) listed)

      other_not : IsLone slots lone n ⊎ ((at_number slots n ≡ None) × (times n lone ≡ 0)) → n < length rs
      other_not (inl h) = lone_not h
      other_not (inr h) = none_some (sym h.0 ∙ e)

      by : (o : Option (Status R A E)) → record_at rs n ≡ o → n < length rs
      by None q = other_not (sh.others n q)
      by (Some y) q = record_within rs n y q

  -- a record more, or another status in it
  pub tracked_put : (rs : List (Option (Status R A E))) (slots slots' : List (Status R A E)) (n : ℕ)
      (x : Status R A E)
      → n < length rs → AreTracked d rs slots
      → ((j : ℕ) (a : A) → at_number slots' j ≡ Some (Waiting a)
      → (at_number slots j ≡ Some (Waiting a)) ⊎ ((y : Status R A E) × (record_at rs (d.on a) ≡ Some y)))
      → AreTracked d (put_record rs n x) slots'
  tracked_put rs slots slots' n x within tr was j a e = by (was j a e)
    where
      still : (y : Status R A E) × (record_at rs (d.on a) ≡ Some y)
          → (y : Status R A E) × (record_at (put_record rs n x) (d.on a) ≡ Some y)
      still h = dite (ℕ_discrete (d.on a) n)
          (λ q. (x, ap (record_at (put_record rs n x)) q ∙ put_record_within rs n x within))
          (λ ne. (h.0, put_record_other rs n (d.on a) x ne ∙ h.1))

      by : (at_number slots j ≡ Some (Waiting a)) ⊎ ((y : Status R A E) × (record_at rs (d.on a) ≡ Some y))
          → (y : Status R A E) × (record_at (put_record rs n x) (d.on a) ≡ Some y)
      by (inl h) = still (tr j a h)
      by (inr h) = still h
