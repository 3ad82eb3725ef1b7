-- What `main` left, where it is over.
use Rattle.std.proofs.Common.{◌≡◌, ◌∙◌, ℕ, List, [], length, Option, Some, None, refl, sym, ap, subst, inl, inr}
use Rattle.rev_num.specs.Path.{Path}
use Rattle.revision_machine.specs.Laws.{local_of}
use Rattle.revision_machine.specs.Machine.{Entry, Plain, Joined}
use Rattle.revision_machine.specs.Numbered.{Entries, World, Listing, at_number, paths_of}
use Rattle.revision_machine.proofs.Numbers.{length-paths}
use Rattle.version_map.specs.declared.end.EndValue.{EndValue}
use Rattle.code_machine.specs.Local.{CodeRun, Local, running, done, trapped, at_work}
use Rattle.code_machine.specs.Proper.{IsOver}
use Rattle.code_world.specs.declared.ending.MainEnd.{MainEnd}
use Rattle.code_world.specs.declared.slot.WorldSlot.{WorldSlot}
use Rattle.code_world.specs.declared.slot.WorldSlot.TheVariants as slot
use Rattle.code_world.specs.declared.table.Birth.{Birth}
use Rattle.code_world.specs.declared.table.Table.{Table}
use Rattle.code_world.specs.declared.world.World as rust
use Rattle.code_world.specs.declared.world.World.TheVariants as world
use Rattle.code_world.specs.Endings.{HasLeft, IsEndAt, MainIsOver, Names, left_in}
use Rattle.code_world.specs.Tables.{AreNamed, IsTable, IsWorld}
use Rattle.code_world.proofs.Finding.{running_at, standing_at, ended_at, joined_at, never_taken}
use Rattle.code_world.proofs.Rows.{births_many, none_some, slot_none, some_same}
use Rattle.code_world.proofs.Worlds.{world_live, world_twice}

-- one at work is not over
pub at_work_still : (l : Local ℕ) → IsOver l → l.phase ≡ running → ⊥
at_work_still l (inl e) r = let z : running ≡ done = sym r ∙ e in cc
at_work_still l (inr (t, e)) r = let z : running ≡ trapped t = sym r ∙ e in cc

-- what stands at one number is one local state
pub plain_same : (o : Option (Path × Entry (Local ℕ))) (p q : Path) (l k : Local ℕ) → o ≡ Some (p, Plain l)
    → o ≡ Some (q, Plain k) → k ≡ l
plain_same o p q l k a b =
    let z : ◌≡◌ {A = Path × Entry (Local ℕ)} (q, Plain k) (p, Plain l) = some_same (sym b ∙ a) in
    let y : Plain k ≡ Plain l = ap (λ (x : Path × Entry (Local ℕ)). x.1) z in
    cc

module _ (g : CodeRun) (t : Table) (w : Entries (Local ℕ)) (is : IsTable g t w) (l : Local ℕ)
    (at : at_number w 0 ≡ Some ([], Plain l)) where
  pub has_ended : IsOver l → (v : EndValue) × (at_number t.slots.items 0 ≡ Some (slot.Ended v))
  has_ended over = by (at_number t.slots.items 0) refl
    where
      by : (o : Option WorldSlot) → at_number t.slots.items 0 ≡ o
          → (v : EndValue) × (at_number t.slots.items 0 ≡ Some (slot.Ended v))
      by None e = none_some (sym (slot_none g t.slots.items w is.slots 0 e) ∙ at)
      by (Some (slot.Ended v)) e = (v, e)
      by (Some (slot.Running r)) e =
          let x = running_at g t.slots.items w is.slots 0 r e in
          absurd (at_work_still l over
          (ap (λ (k : Local ℕ). k.phase) (sym (plain_same (at_number w 0) [] x.path l (at_work x.state) at x.there))))
      by (Some (slot.Standing a)) e =
          let x = standing_at g t.slots.items w is.slots 0 a e in
          absurd (at_work_still l over
          (ap (λ (k : Local ℕ). k.phase) (sym (plain_same (at_number w 0) [] x.path l (at_work x.state) at x.there))))
      by (Some (slot.Joined v)) e =
          let x = joined_at g t.slots.items w is.slots 0 v e in
          let z : ◌≡◌ {A = Path × Entry (Local ℕ)} ([], Plain l) (x.path, Joined x.local) =
          some_same (sym at ∙ x.there) in
          let y : Plain l ≡ Joined x.local = ap (λ (i : Path × Entry (Local ℕ)). i.1) z in
          absurd cc
      by (Some slot.Taken) e = absurd (never_taken g t.slots.items w is.slots 0 e)

  pub left : (m : MainEnd) → at_number t.slots.items 0 ≡ Some (slot.Ended m.end) → m.births ≡ t.births
      → HasLeft g (Listing w) (Some m)
  left m e same =
      let x = ended_at g t.slots.items w is.slots 0 m.end e in
      let bs = ap (λ v. v.items) same in (
        x.local,
        at ∙ ap (λ k. Some ([], Plain k)) (sym (plain_same (at_number w 0) [] x.path l x.local at x.there)),
        x.end,
        record {
          named = subst (λ b. AreNamed b (paths_of w)) (sym bs) is.named;
          all = length-paths w ∙ sym (births_many t.births.items w is.forks)
              ∙ ap (λ (b : List Birth). length b) (sym bs);
        },
      )

pub names : (g : CodeRun) (t : Table) (w : Entries (Local ℕ)) → IsTable g t w → Names t.births.items (paths_of w)
names g t w is = record { named = is.named; all = length-paths w ∙ sym (births_many t.births.items w is.forks) }

module _ (g : CodeRun) (v : rust.World) (w : World (Local ℕ)) (is : IsWorld g v w) (over : MainIsOver w) where
  pub main_ended : (t : Table) → v ≡ world.Live t → (e : EndValue) × (at_number t.slots.items 0 ≡ Some (slot.Ended e))
  main_ended t live =
      let x = world_live g v w t live is in
      let o : MainIsOver (Listing x.0) = subst MainIsOver x.1 over in
      has_ended g t x.0 x.2 o.0 o.1 o.2

  pub main_left : (t : Table) → v ≡ world.Live t → (m : MainEnd) → at_number t.slots.items 0 ≡ Some (slot.Ended m.end)
      → m.births ≡ t.births → HasLeft g w (Some m)
  main_left t live m e same =
      let x = world_live g v w t live is in
      let o : MainIsOver (Listing x.0) = subst MainIsOver x.1 over in
      subst (λ z. HasLeft g z (Some m)) (sym x.1) (left g t x.0 x.2 o.0 o.1 m e same)

  pub none_left : v ≡ world.Twice → HasLeft g w None
  none_left e = subst (λ z. HasLeft g z None) (sym (world_twice g v w e is)) tt

-- ---- what a revision left

module _ (g : CodeRun) (t : Table) (w : Entries (Local ℕ)) (is : IsTable g t w) (n : ℕ) where
  end_at : (o : Option WorldSlot) → at_number t.slots.items n ≡ o → IsEndAt g (Listing w) n (left_in o)
  end_at None e = λ r f there. none_some (sym (slot_none g t.slots.items w is.slots n e) ∙ there)
  end_at (Some (slot.Ended v)) e =
      let x = ended_at g t.slots.items w is.slots n v e in (x.path, Plain x.local, x.there, x.end)
  end_at (Some (slot.Joined v)) e =
      let x = joined_at g t.slots.items w is.slots n v e in (x.path, Joined x.local, x.there, x.end)
  end_at (Some (slot.Running r)) e = λ q f there.
      let x = running_at g t.slots.items w is.slots n r e in
      ap (λ (y : Path × Entry (Local ℕ)). (local_of y.1).phase) (some_same (sym there ∙ x.there))
  end_at (Some (slot.Standing a)) e = λ q f there.
      let x = standing_at g t.slots.items w is.slots n a e in
      ap (λ (y : Path × Entry (Local ℕ)). (local_of y.1).phase) (some_same (sym there ∙ x.there))
  end_at (Some slot.Taken) e = absurd (never_taken g t.slots.items w is.slots n e)

module _ (g : CodeRun) (v : rust.World) (w : World (Local ℕ)) (is : IsWorld g v w) (n : ℕ) where
  pub left_live : (t : Table) → v ≡ world.Live t → (o : Option EndValue) → o ≡ left_in (at_number t.slots.items n)
      → IsEndAt g w n o
  left_live t live o e =
      let x = world_live g v w t live is in
      subst (λ z. IsEndAt g z n o) (sym x.1)
      (subst (IsEndAt g (Listing x.0) n) (sym e) (end_at g t x.0 x.2 n (at_number t.slots.items n) refl))

  pub left_twice : v ≡ world.Twice → IsEndAt g w n None
  left_twice e = subst (λ z. IsEndAt g z n None) (sym (world_twice g v w e is)) refl
