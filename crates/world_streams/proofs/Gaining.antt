-- What a world has of the text of `main` grows in a leg.
use Rattle.std.proofs.Common.{◌≡◌, ◌≢◌, ◌⊎◌, inl, inr, ◌∙◌, ℕ, ◌≤◌, List, [], ◌++◌, length, drop, arith, Option, Some, None, refl, sym, ap, subst}
use Rattle.rev_num.specs.Path.{Path}
use Rattle.revision_machine.specs.Machine.{Entry, Plain, Joined}
use Rattle.revision_machine.specs.Laws.{local_of}
use Rattle.revision_machine.specs.Numbered as numbers
use Rattle.revision_machine.specs.Numbered.{Entries, World, Both, Listing, at_number}
use Rattle.code_machine.specs.Local.{CodeRun, IsVerified, Local, at_work}
use Rattle.code_machine.specs.Machines.{numbered}
use Rattle.code_machine.proofs.Changes.{decide}
use Rattle.code_world.specs.declared.answer.LegAnswer.{LegAnswer}
use Rattle.code_world.specs.declared.answer.LegAnswer.TheVariants as answer
use Rattle.code_world.specs.declared.slot.WorldSlot.{WorldSlot}
use Rattle.code_world.specs.declared.slot.WorldSlot.TheVariants as slot
use Rattle.code_world.specs.declared.table.Table.{Table}
use Rattle.code_world.specs.declared.world.World as rust
use Rattle.code_world.specs.declared.world.World.TheVariants as world
use Rattle.code_world.specs.Answers.{Answers, HasStopped, LegAnswers, Leaves}
use Rattle.code_world.specs.Said.{main_text, slot_text}
use Rattle.code_world.specs.Tables.{IsTable, IsWorld}
use Rattle.code_world.specs.Touches.{StaysOrIsJoined, OthersStay, TouchesIn}
use Rattle.code_world.specs.Turns.{StandsOn}
use Rattle.code_world.proofs.Finding.{running_at, standing_at, ended_at, joined_at, never_taken}
use Rattle.code_world.proofs.Rows.{none_some, slot_none, some_same}
use Rattle.code_world.proofs.Saying.{runs_text, stands_text}
use Rattle.code_world.proofs.Touching.{touches_stays}
use Rattle.code_machine_laws.specs.Reached.{IsReached}
use Rattle.code_machine_laws.proofs.Reaching.{legs_reached, main_stands}
use Rattle.world_runs.specs.LegOrNone.{HasMade, made_of}
use Rattle.world_runs.proofs.Making.{makes}
use Rattle.world_streams.proofs.Putting.{grows_by, grows_length}
use Rattle.code_machine_laws.specs.Forms.{Grows, Says}
use Rattle.code_machine_laws.proofs.StepTexts.{grows_same}
use Rattle.code_machine_laws.specs.Texts.{HasSaid, as_it_is, at_join, MainSays}
use Rattle.code_machine_laws.proofs.Growing.{legs_say, plain_same, said_running, said_stopped}

abbrev pub first_text : Table → List ℕ
first_text t = slot_text (at_number t.slots.items 0)

-- what a table has of `main` is what `main` has said in the world
module _ (g : CodeRun) (t : Table) (w : Entries (Local ℕ)) (is : IsTable g t w) (l : Local ℕ)
    (there : at_number w 0 ≡ Some ([], Plain l)) where
  has_said : (o : Option WorldSlot) → at_number t.slots.items 0 ≡ o → HasSaid g l (slot_text o)
  has_said None e = none_some (sym (slot_none g t.slots.items w is.slots 0 e) ∙ there)
  has_said (Some (slot.Running r)) e =
      let k = running_at g t.slots.items w is.slots 0 r e in
      let p = plain_same (at_number w 0) k.path [] (at_work k.state) l k.there there in
      as_it_is (sym (runs_text g r k.state k.runs) ∙ ap (λ (x : Local ℕ). x.state.text) p.1)
  has_said (Some (slot.Standing a)) e =
      let k = standing_at g t.slots.items w is.slots 0 a e in
      let p = plain_same (at_number w 0) k.path [] (at_work k.state) l k.there there in
      subst (λ x. HasSaid g x (slot_text (Some (slot.Standing a)))) p.1
      (at_join k.at a.is_try a.on refl k.comes (sym (stands_text g a k.at k.stands)))
  has_said (Some (slot.Ended v)) e =
      let k = ended_at g t.slots.items w is.slots 0 v e in
      let p = plain_same (at_number w 0) k.path [] k.local l k.there there in
      as_it_is (k.end.text ∙ ap (λ (x : Local ℕ). x.state.text) p.1)
  has_said (Some slot.Taken) e = absurd (never_taken g t.slots.items w is.slots 0 e)
  has_said (Some (slot.Joined v)) e =
      let k = joined_at g t.slots.items w is.slots 0 v e in
      let z : ◌≡◌ {A = Path × Entry (Local ℕ)} ([], Plain l) (k.path, Joined k.local) =
      some_same (sym there ∙ k.there) in
      let y : Plain l ≡ Joined k.local = ap (λ (x : Path × Entry (Local ℕ)). x.1) z in
      absurd cc

  pub table_says : HasSaid g l (first_text t)
  table_says = has_said (at_number t.slots.items 0) refl

  pub some_slot : (s : WorldSlot) × (at_number t.slots.items 0 ≡ Some s)
  some_slot = by (at_number t.slots.items 0) refl
    where
      by : (o : Option WorldSlot) → at_number t.slots.items 0 ≡ o → (s : WorldSlot)
          × (at_number t.slots.items 0 ≡ Some s)
      by None e = none_some (sym (slot_none g t.slots.items w is.slots 0 e) ∙ there)
      by (Some s) e = (s, e)

-- the text of `main` in every world that stands for a listing
pub world_says : (g : CodeRun) (v : rust.World) (w : Entries (Local ℕ)) → IsWorld g v (Listing w) → (l : Local ℕ)
    → at_number w 0 ≡ Some ([], Plain l) → MainSays g w (main_text v)
world_says g (world.Live t) w is l there = (l, there, table_says g t w is l there)
world_says g world.Twice w is l there = absurd is

module _ (g : CodeRun) (ok : IsVerified g) (w : Entries (Local ℕ)) (h : IsReached g (Listing w)) (t : Table)
    (is : IsTable g t w) where
  abbrev local : Local ℕ
  local = (main_stands g ok w h).0

  abbrev found : at_number w 0 ≡ Some ([], Plain local)
  found = (main_stands g ok w h).1

  old_says : HasSaid g local (first_text t)
  old_says = table_says g t w is local found

  -- the leg of another leaves it
  others_same : (n : ℕ) → n ≢ 0 → (t' : Table) → OthersStay t.slots.items n t'.slots.items
      → Grows (first_text t) (first_text t')
  others_same n apart t' stay = by (stay 0 slot_.0 (λ e. apart (sym e)) slot_.1)
    where
      slot_ : (s : WorldSlot) × (at_number t.slots.items 0 ≡ Some s)
      slot_ = some_slot g t w is local found

      by : StaysOrIsJoined slot_.0 (at_number t'.slots.items 0) → Grows (first_text t) (first_text t')
      by (inl z) = grows_same (first_text t) (first_text t') (ap slot_text slot_.1 ∙ ap slot_text (sym z))
      by (inr (v, e, z)) =
          grows_same (first_text t) (first_text t')
          (ap slot_text slot_.1 ∙ ap (λ (s : WorldSlot). slot_text (Some s)) e ∙ ap slot_text (sym z))

  -- the world after the leg
  leaves_grow : (n : ℕ) (t' : Table) → OthersStay t.slots.items n t'.slots.items → (u : Entries (Local ℕ))
      → Leaves g w n t' u → Grows (first_text t) (first_text t')
  leaves_grow n t' stay u l = by (decide n 0)
    where
      after : (k : Local ℕ) × (at_number u 0 ≡ Some ([], Plain k))
      after = let m = main_stands g ok u (legs_reached g (Listing w) (Listing u) n h l.leg) in (m.0, m.1)

      by : (n ≡ 0) ⊎ (n ≢ 0) → Grows (first_text t) (first_text t')
      by (inl z) = (legs_say g ok w u n h l.leg (first_text t) (local, found, old_says)).1 z (first_text t')
          (after.0, after.1, table_says g t' u l.table after.0 after.1)
      by (inr z) = others_same n z t' stay

  -- the same world
  stays_grow : (n : ℕ) (t' : Table) → OthersStay t.slots.items n t'.slots.items
      → (n ≡ 0 → Grows (first_text t) (first_text t')) → Grows (first_text t) (first_text t')
  stays_grow n t' stay own = by (decide n 0)
    where
      by : (n ≡ 0) ⊎ (n ≢ 0) → Grows (first_text t) (first_text t')
      by (inl z) = own z
      by (inr z) = others_same n z t' stay

  waits_grow : (t' : Table) (on : ℕ) → IsTable g t' w → StandsOn t' 0 on → Grows (first_text t) (first_text t')
  waits_grow t' on table (a, at, e) =
      let k = standing_at g t'.slots.items w table.slots 0 a at in
      let p = plain_same (at_number w 0) k.path [] (at_work k.state) local k.there found in
      let old : HasSaid g (at_work k.state) (first_text t) =
      subst (λ x. HasSaid g x (first_text t)) (sym p.1) old_says in
      let grows : Grows (first_text t) k.at.text =
      subst (λ o. Says (first_text t) o) k.comes (said_running g (at_work k.state) (first_text t) old refl) in
      subst (λ x. Grows (first_text t) x) (stands_text g a k.at k.stands ∙ ap slot_text (sym at)) grows

  over_grow : (t' : Table) → IsTable g t' w → HasStopped g w 0 → Grows (first_text t) (first_text t')
  over_grow t' table (r, e, there, stops) =
      let same : ◌≡◌ {A = Path × Entry (Local ℕ)} (r, e) ([], Plain local) = some_same (sym there ∙ found) in
      let stop : (numbered g).next local ≡ numbers.Stops =
      ap (λ (x : Path × Entry (Local ℕ)). (numbered g).next (local_of x.1)) (sym same) ∙ stops in
      grows_same (first_text t) (first_text t')
      (said_stopped g local (first_text t) old_says stop
      ∙ sym (said_stopped g local (first_text t') (table_says g t' w table local found) stop))

  table_grows : (n : ℕ) → numbers.leg (numbered g) (Listing w) n ≢ Some Both → (a : LegAnswer) (t' : Table)
      → OthersStay t.slots.items n t'.slots.items → Answers g w n a t' → Grows (first_text t) (first_text t')
  table_grows n never answer.Twice t' stay k = absurd (never k)
  table_grows n never (answer.Forked m) t' stay k = leaves_grow n t' stay k.0 k.1
  table_grows n never (answer.Joined m) t' stay k = leaves_grow n t' stay k.0 k.1
  table_grows n never answer.Ended t' stay k = leaves_grow n t' stay k.0 k.1
  table_grows n never answer.Trapped t' stay k = leaves_grow n t' stay k.0 k.1
  table_grows n never (answer.Waits m) t' stay k =
      stays_grow n t' stay (λ z. waits_grow t' m k.1 (subst (λ i. StandsOn t' i m) z k.2))
  table_grows n never answer.NoSuch t' stay k =
      stays_grow n t' stay (λ z. none_some (sym (ap (at_number w) (sym z) ∙ k.0) ∙ found))
  table_grows n never answer.Over t' stay k =
      stays_grow n t' stay (λ z. over_grow t' k.1 (subst (λ i. HasStopped g w i) z k.0))

  answers_live : (n : ℕ) → numbers.leg (numbered g) (Listing w) n ≢ Some Both → (a : LegAnswer) (v' : rust.World)
      → LegAnswers g (Listing w) n a v' → (t' : Table) × (v' ≡ world.Live t') × Answers g w n a t'
  answers_live n never answer.Twice v' k = absurd (never k.0)
  answers_live n never (answer.Forked m) v' k = k
  answers_live n never (answer.Joined m) v' k = k
  answers_live n never answer.Ended v' k = k
  answers_live n never answer.Trapped v' k = k
  answers_live n never (answer.Waits m) v' k = k
  answers_live n never answer.NoSuch v' k = k
  answers_live n never answer.Over v' k = k

  live_grows : (n : ℕ) → numbers.leg (numbered g) (Listing w) n ≢ Some Both → (a : LegAnswer) (v' : rust.World)
      → LegAnswers g (Listing w) n a v' → TouchesIn (world.Live t) n a v' → Grows (first_text t) (main_text v')
  live_grows n never a v' k stay =
      let x = answers_live n never a v' k in
      subst (λ z. Grows (first_text t) (main_text z)) (sym x.1)
      (table_grows n never a x.0 (touches_stays t x.0 n a (subst (λ z. TouchesIn (world.Live t) n a z) x.1 stay)) x.2)

pub gains : (g : CodeRun) → IsVerified g → (v : rust.World) (w : World (Local ℕ)) → IsReached g w → IsWorld g v w
    → (n : ℕ) → w ≢ Both → numbers.leg (numbered g) w n ≢ Some Both
    → (a : LegAnswer) (v' : rust.World) → LegAnswers g w n a v' → TouchesIn v n a v'
    → Grows (main_text v) (main_text v')
gains g ok world.Twice Both h is n live never a v' k stay = absurd (live refl)
gains g ok (world.Live t) (Listing w) h is n live never a v' k stay = live_grows g ok w h t is n never a v' k stay
gains g ok world.Twice (Listing w) h is n live never a v' k stay = absurd is
gains g ok (world.Live t) Both h is n live never a v' k stay = absurd is

-- the world that is answered stands for some world
pub after_stands : (g : CodeRun) (w : World (Local ℕ)) → IsReached g w → w ≢ Both
    → (n : ℕ) (a : LegAnswer) (v' : rust.World) → LegAnswers g w n a v' → (u : World (Local ℕ)) × IsWorld g v' u
after_stands g Both h live n a v' k = absurd (live refl)
after_stands g (Listing w) h live n a v' k = by a (makes g w n h a v' k)
  where
    by : (a : LegAnswer) → HasMade g (Listing w) n (made_of v' a) → (u : World (Local ℕ)) × IsWorld g v' u
    by answer.Twice (u, leg, reached, is) = (u, is)
    by (answer.Forked m) (u, leg, reached, is) = (u, is)
    by (answer.Joined m) (u, leg, reached, is) = (u, is)
    by answer.Ended (u, leg, reached, is) = (u, is)
    by answer.Trapped (u, leg, reached, is) = (u, is)
    by (answer.Waits m) (none, is) = (Listing w, is)
    by answer.NoSuch (none, is) = (Listing w, is)
    by answer.Over (none, is) = (Listing w, is)

-- what is put of a leg, where these are the texts before and behind it
module _ (g : CodeRun) (ok : IsVerified g) (v : rust.World) (w : World (Local ℕ)) (h : IsReached g w)
    (is : IsWorld g v w) (n : ℕ) (live : w ≢ Both) (never : numbers.leg (numbered g) w n ≢ Some Both)
    (a : LegAnswer) (v' : rust.World) (k : LegAnswers g w n a v') (stay : TouchesIn v n a v') (x y : List ℕ)
    (e : x ≡ main_text v) (f : y ≡ main_text v') where
  grows : Grows (main_text v) (main_text v')
  grows = gains g ok v w h is n live never a v' k stay

  pub gain_fits : length x ≤ length y
  gain_fits =
      let a = grows_length (main_text v) (main_text v') grows in
      let b = ap (λ (z : List ℕ). length z) e in
      let d = ap (λ (z : List ℕ). length z) f in omega (arith, a, b, d)

  pub gain_is : main_text v' ≡ main_text v ++ drop (length x) y
  gain_is =
      grows_by (main_text v) (main_text v') grows
      ∙ ap (λ (z : List ℕ). main_text v ++ z)
      (ap (λ (z : List ℕ). drop (length z) (main_text v')) (sym e) ∙ ap (λ (z : List ℕ). drop (length x) z) (sym f))
