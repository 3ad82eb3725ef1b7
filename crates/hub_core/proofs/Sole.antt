-- The value and what its seat knows determine the statuses: a recorded revision has the status of
-- its record, and another
-- is out where a seat keeps it, and else joined.
use Rattle.std.proofs.Common.{◌≡◌, ◌⊎◌, inl, inr, ℕ, suc, List, [], ◌∷◌, length, refl, sym, ap, ◌∙◌, arith, Option, Some, None}
use Rattle.revision_machine.specs.Numbered.{at_number}
use Rattle.revision_machine.proofs.Paths.{some_inj}
use Rattle.revision_machine.proofs.Numbers.{none_some}
use Rattle.revision_machine.proofs.Lists.{at_below, below_at}
use Rattle.hub_core.specs.declared.status.Status.{Status}
use Rattle.hub_core.specs.declared.status.Status.TheVariants.{Gone}
use Rattle.hub_core.specs.declared.state.HubState.{HubState}
use Rattle.hub_core.specs.declared.state.HubState.TheVariants.{All, Twice, NoMemory}
use Rattle.hub_core.specs.declared.desk.Desk.{Desk}
use Rattle.hub_core.specs.declared.sight.Sight.{Sight}
use Rattle.hub_core.specs.HubMachine.{HubMachine, numbered, values}
use Rattle.hub_core.specs.Counts.{times}
use Rattle.hub_core.specs.Rule.{SoundFrom}
use Rattle.hub_core.specs.Tally.{records_of, record_at, IsLone, Shadows, HasDesk}
use Rattle.hub_core.proofs.Loops.{forkers_long}

module _ {R A E : Type 0} where
  list_same : (xs ys : List (Status R A E)) → ((j : ℕ) → at_number xs j ≡ at_number ys j) → xs ≡ ys
  list_same [] [] same = refl
  list_same [] (y ∷ ys) same = none_some (same 0)
  list_same (x ∷ xs) [] same = none_some (sym (same 0))
  list_same (x ∷ xs) (y ∷ ys) same =
      ap (λ z. z ∷ xs) (some_inj (same 0)) ∙ ap (λ zs. y ∷ zs) (list_same xs ys (λ j. same (suc j)))

  abbrev Other : List (Status R A E) → List ℕ → ℕ → Type 0
  Other slots lone j = IsLone slots lone j ⊎ ((at_number slots j ≡ None) × (times j lone ≡ 0))

  -- two revisions of one number without a record
  other_same : (xs ys : List (Status R A E)) (lone : List ℕ) (j : ℕ) → length xs ≡ length ys → Other xs lone j
      → Other ys lone j
      → at_number xs j ≡ at_number ys j
  other_same xs ys lone j long (inl (inl a)) (inl (inl b)) = a.0 ∙ sym b.0
  other_same xs ys lone j long (inl (inl a)) (inl (inr b)) = let p = a.1 in let q = b.1 in absurd (omega arith)
  other_same xs ys lone j long (inl (inl a)) (inr b) = let p = a.1 in let q = b.1 in absurd (omega arith)
  other_same xs ys lone j long (inl (inr a)) (inl (inl b)) = let p = a.1 in let q = b.1 in absurd (omega arith)
  other_same xs ys lone j long (inl (inr a)) (inl (inr b)) = a.0 ∙ sym b.0
  other_same xs ys lone j long (inl (inr a)) (inr b) =
      let p = at_below xs j Gone a.0 in
      let q = below_at ys j (omega arith) in
      none_some (sym b.0 ∙ q.1)
  other_same xs ys lone j long (inr a) (inl (inl b)) = let p = a.1 in let q = b.1 in absurd (omega arith)
  other_same xs ys lone j long (inr a) (inl (inr b)) =
      let p = at_below ys j Gone b.0 in
      let q = below_at xs j (omega arith) in
      none_some (sym a.0 ∙ q.1)
  other_same xs ys lone j long (inr a) (inr b) = a.0 ∙ sym b.0

  pub shadows_same : (records : List (Option (Status R A E))) (xs ys : List (Status R A E)) (lone : List ℕ)
      → length xs ≡ length ys
      → Shadows records xs lone → Shadows records ys lone → xs ≡ ys
  shadows_same records xs ys lone long a b = list_same xs ys (λ j. by j (record_at records j) refl)
    where
      by : (j : ℕ) (o : Option (Status R A E)) → record_at records j ≡ o → at_number xs j ≡ at_number ys j
      by j None e = other_same xs ys lone j long (a.others j e) (b.others j e)
      by j (Some x) e = (a.recorded j x e).0 ∙ sym (b.recorded j x e).0

module _ {L R A E : Type 0} (d : HubMachine L R A E) (ends : E → L → Type 0) where
  long_by : (o : Option L) (h : HubState) (log fs : List ℕ) (slots : List (Status R A E))
      → SoundFrom d ends o h log slots fs → length fs ≡ length slots
  long_by None h log fs slots t = absurd t
  long_by (Some start) All log fs slots t = forkers_long (numbered d) (values d ends) start log slots fs t
  long_by (Some start) NoMemory log fs slots t = forkers_long (numbered d) (values d ends) start log slots fs t
  long_by (Some start) Twice log fs slots t = forkers_long (numbered d) (values d ends) start t.before slots fs t.tied

  pub one_hand : (v : Sight L) (desk : Desk R A E) (a b : HasDesk d ends v desk) → a.slots ≡ b.slots
  one_hand v desk a b =
      let p = long_by v.seat.start desk.state v.seat.log v.forkers a.slots a.sound in
      let q = long_by v.seat.start desk.state v.seat.log v.forkers b.slots b.sound in
      shadows_same (records_of desk) a.slots b.slots v.lone (omega arith) a.shadows b.shadows
