-- A leg of a table is a leg of its world.
use Rattle.std.proofs.Common.{◌≡◌, ◌≢◌, ◌∙◌, ℕ, suc, ◌+◌, ◌<◌, ◌≤◌, ◌^◌, Bool, true, false, List, [], ◌∷◌, ◌++◌, length, Option, Some, None, refl, sym, ap, subst, arith}
use Rattle.rev_num.specs.Path.{Path, child}
use Rattle.rev_code.specs.State.{State}
use Rattle.rev_code.specs.Words.{Word}
use Rattle.version_map.specs.Composing.{Composition, composed}
use Rattle.version_map.specs.declared.end.EndValue.{EndValue}
use Rattle.version_map.specs.declared.end.Finish.{Finish}
use Rattle.version_map.specs.declared.end.Finish.TheVariants as finish
use Rattle.revision_machine.specs.Machine.{Plain, Joined}
use Rattle.revision_machine.specs.Numbered.{Goes, Bears, Wants, Stops, Entries, at_number, put_number, paths_of, leg_of, leg_at, join_number, join_stopped, event_by}
use Rattle.revision_machine.proofs.Numbers.{length-paths, at_paths, paths_put, paths_more}
use Rattle.code_machine.specs.Local.{CodeRun, IsVerified, Phase, running, done, trapped, Trap, Local, at_work, End, end_of}
use Rattle.code_machine.specs.Joining.{merges, mains, absorb, join_in, join_end, join}
use Rattle.code_machine.specs.Machines.{act, numbered}
use Rattle.code_machine.specs.Worlds.{Joins, WaitsOn}
use Rattle.revision_machine.proofs.Lists.{put_other, put_here, put_twice, put_length, put_both, at_below, at_front, put_same}
use Rattle.code_machine.proofs.MachineConditions.{named_counts}
use Rattle.code_machine.proofs.Paying.{BearOk, ActOk, act_ok, join_keeps_forks}
use Rattle.code_machine.proofs.Typing.{bears_act}
use Rattle.rev_vm.specs.Meaning.{IsEnd, IsPhase}
use Rattle.code_machine_laws.specs.Reached.{most_fuel}
use Rattle.code_machine_laws.proofs.Reaching.{joins_fit, small}
use Rattle.code_world.specs.declared.answer.LegAnswer.{LegAnswer}
use Rattle.code_world.specs.declared.answer.LegAnswer.TheVariants as answer
use Rattle.code_world.specs.declared.slot.WorldSlot.{WorldSlot}
use Rattle.code_world.specs.declared.slot.WorldSlot.TheVariants as slot
use Rattle.code_world.specs.declared.table.Birth.{Birth}
use Rattle.code_world.specs.declared.table.Table.{Table}
use Rattle.code_world.specs.Answers.{Leaves, Answers}
use Rattle.code_world.specs.LegOutcomes.{HasForked, HasEnded, IsMeeting, meets, HasMet}
use Rattle.code_world.specs.Slots.{WholeRunner, WholeJoin, IsSlot}
use Rattle.code_world.specs.Tables.{AreSlots, AreForks, AreNamed, forks_of, IsTable}
use Rattle.code_world.specs.Turns.{IsGood, born, forked_once, behind, ends_with, Settles}
use Rattle.code_world.proofs.Finding.{StandsThere, standing_at, EndedThere, ended_at, joined_at, RunsAt, running_at, end_stops, stands_wants, works_on, joinee_number}
use Rattle.code_world.proofs.Rows.{none_some, some_same, slots_put, slots_more, slots_many, births_many, forks_at, forks_kept, forks_put, forks_more, sum_put, sum_more, sum_one, named_born, more_length}

module _ (g : CodeRun) (ok : IsVerified g) (t : Table) (w : Entries (Local ℕ)) (h : IsTable g t w) (n : ℕ) (p : Path)
    (l : Local ℕ) (there : at_number w n ≡ Some (p, Plain l)) where
  -- a revision that goes on or ends by itself
  pub goes_leaves : (l' : Local ℕ) → (numbered g).next l ≡ Goes l' → (s : WorldSlot) → IsSlot g s l' → (t' : Table)
      → t'.slots.items ≡ put_number t.slots.items n s → t'.births ≡ t.births
      → Leaves g w n t' (put_number w n (p, Plain l'))
  goes_leaves l' goes s is t' slots births = record {
    leg = ap (leg_at (numbered g) w n) there ∙ ap (leg_of (numbered g) w n p l) goes;
    table = record {
      slots = subst (λ ss. AreSlots g ss (put_number w n (p, Plain l'))) (sym slots)
          (slots_put g t.slots.items w h.slots n s p (Plain l') is);
      forks = subst (λ bs. AreForks bs (put_number w n (p, Plain l'))) (sym items)
          (forks_kept t.births.items w h.forks n p p (Plain l) (Plain l') there
          ((named_counts g ok []).moves p l l' (ap (event_by [] p l.state.forks) goes)));
      named = subst (λ bs. AreNamed bs (paths_of (put_number w n (p, Plain l')))) (sym items)
          (subst (AreNamed t.births.items) (sym (paths_put w n p (Plain l) (Plain l') there)) h.named);
      counted = subst (λ bs. forks_of bs + 1 ≡ length bs) (sym items) h.counted;
    };
  }
    where
      items : t'.births.items ≡ t.births.items
      items = ap (λ b. b.items) births

  -- a forker and its child
  pub bears_leaves : (f : ℕ → Local ℕ) (k : Local ℕ) → (numbered g).next l ≡ Bears f k → (forker kid : WholeRunner)
      → IsSlot g (slot.Running forker) (f (length w)) → IsSlot g (slot.Running kid) k
      → (b : Birth) → at_number t.births.items n ≡ Some b → (t' : Table)
      → t'.slots.items ≡ put_number t.slots.items n (slot.Running forker) ++ slot.Running kid ∷ []
      → t'.births.items ≡ born t.births.items n b
      → Leaves g w n t' (put_number w n (p, Plain (f (length w))) ++ (child p l.state.forks, Plain k) ∷ [])
  bears_leaves f k bears forker kid f_is k_is b at t' slots births = record {
    leg = ap (leg_at (numbered g) w n) there ∙ ap (leg_of (numbered g) w n p l) bears;
    table = record {
      slots = subst (λ ss. AreSlots g ss after) (sym slots)
          (slots_more g (put_number t.slots.items n (slot.Running forker)) between
          (slots_put g t.slots.items w h.slots n (slot.Running forker) p (Plain (f (length w))) f_is) (slot.Running kid)
          (child p l.state.forks) (Plain k) k_is);
      forks = subst (λ bs. AreForks bs after) (sym births)
          (forks_more (put_number t.births.items n (forked_once b)) between
          (forks_put t.births.items w h.forks n (forked_once b) p (Plain (f (length w))) one_more)
          (record { forker = n; place = b.forks; forks = 0 }) (child p l.state.forks) (Plain k) (sym counts.none));
      named = subst (λ bs. AreNamed bs (paths_of after)) (sym births)
          (subst (AreNamed (born t.births.items n b)) paths
          (named_born t.births.items (paths_of w) many h.named n b at p (path_at)));
      counted = subst (λ bs. forks_of bs + 1 ≡ length bs) (sym births) sums;
    };
  }
    where
      between : Entries (Local ℕ)
      between = put_number w n (p, Plain (f (length w)))

      after : Entries (Local ℕ)
      after = put_number w n (p, Plain (f (length w))) ++ (child p l.state.forks, Plain k) ∷ []

      counts : BearOk g l f k
      counts = subst (ActOk g l) (bears_act g ok (act g l) f k bears) (act_ok g ok l)

      made : b.forks ≡ l.state.forks
      made = forks_at t.births.items w h.forks n b at p (Plain l) there

      one_more : b.forks + 1 ≡ (f (length w)).state.forks
      one_more = let a = counts.forks (length w) in let m = made in omega (arith, a, m)

      many : length t.births.items ≡ length (paths_of w)
      many = births_many t.births.items w h.forks ∙ sym (length-paths w)

      path_at : at_number (paths_of w) n ≡ Some p
      path_at = subst (λ ps. at_number ps n ≡ Some p) (Rattle.std.proofs.Common.append-nil (paths_of w))
          (at_paths w [] n p (Plain l) there)

      paths : paths_of w ++ child p b.forks ∷ [] ≡ paths_of after
      paths = ap (λ x. paths_of w ++ child p x ∷ []) made
          ∙ sym (paths_more between (child p l.state.forks) (Plain k)
          ∙ ap (λ ps. ps ++ child p l.state.forks ∷ []) (paths_put w n p (Plain l) (Plain (f (length w))) there))

      sums : forks_of (born t.births.items n b) + 1 ≡ length (born t.births.items n b)
      sums =
          let a = sum_put t.births.items n b (forked_once b) at in
          let c = sum_more (put_number t.births.items n (forked_once b))
          (record { forker = n; place = b.forks; forks = 0 }) in
          let d = more_length (put_number t.births.items n (forked_once b))
          (record { forker = n; place = b.forks; forks = 0 }) in
          let e = put_length t.births.items n (forked_once b) in
          let k = h.counted in omega (arith, a, c, d, e, k)

  -- a joiner behind its join, and the revision that it joined
  pub took_leaves : (m : ℕ) (q : Path) (lq : Local ℕ) → n ≢ m → (numbered g).next l ≡ Wants m
      → at_number w m ≡ Some (q, Plain lq) → (v : EndValue) → IsEnd g (end_of lq) v → (s : WorldSlot)
      → IsSlot g s (join g l lq)
      → (t' : Table)
      → t'.slots.items ≡ put_number (put_number (put_number t.slots.items m (slot.Joined v)) n slot.Taken) n s
      → t'.births ≡ t.births
      → Leaves g w n t' (put_number (put_number w n (p, Plain (join g l lq))) m (q, Joined lq))
  took_leaves m q lq apart wants at v end s is t' slots births = record {
    leg = ap (leg_at (numbered g) w n) there ∙ ap (leg_of (numbered g) w n p l) wants
        ∙ ap (join_number (numbered g) w n p l m) at
        ∙ ap (join_stopped (numbered g) w n p l m q lq) (end_stops g lq v end);
    table = record {
      slots = subst (λ ss. AreSlots g ss after) (sym (slots ∙ order))
          (slots_put g (put_number t.slots.items n s) between
          (slots_put g t.slots.items w h.slots n s p (Plain (join g l lq)) is) m (slot.Joined v) q (Joined lq) end);
      forks = subst (λ bs. AreForks bs after) (sym items)
          (forks_kept t.births.items between
          (forks_kept t.births.items w h.forks n p p (Plain l) (Plain (join g l lq)) there (join_keeps_forks g l lq)) m
          q q (Plain lq) (Joined lq) other refl);
      named = subst (λ bs. AreNamed bs (paths_of after)) (sym items)
          (subst (AreNamed t.births.items)
          (sym (paths_put between m q (Plain lq) (Joined lq) other
          ∙ paths_put w n p (Plain l) (Plain (join g l lq)) there))
          h.named);
      counted = subst (λ bs. forks_of bs + 1 ≡ length bs) (sym items) h.counted;
    };
  }
    where
      between : Entries (Local ℕ)
      between = put_number w n (p, Plain (join g l lq))

      after : Entries (Local ℕ)
      after = put_number (put_number w n (p, Plain (join g l lq))) m (q, Joined lq)

      items : t'.births.items ≡ t.births.items
      items = ap (λ b. b.items) births

      other : at_number (put_number w n (p, Plain (join g l lq))) m ≡ Some (q, Plain lq)
      other = put_other w n m (p, Plain (join g l lq)) (λ e. apart (sym e)) ∙ at

      order : put_number (put_number (put_number t.slots.items m (slot.Joined v)) n slot.Taken) n s
          ≡ put_number (put_number t.slots.items n s) m (slot.Joined v)
      order = put_twice (put_number t.slots.items m (slot.Joined v)) n slot.Taken s
          ∙ put_both t.slots.items m n (slot.Joined v) s (λ e. apart (sym e))

-- ---- joins

no_done : {A : Type 0} → ◌≡◌ {A = Phase ℕ} running done → A
no_done e = absurd cc

no_end : {A : Type 0} (t : Trap ℕ) → ◌≡◌ {A = Phase ℕ} (trapped t) done → A
no_end t e = absurd cc

-- a joiner behind its join is not done
never_done : (g : CodeRun) (c : State ℕ) (try : Bool) (h : ℕ) (j : End ℕ) (p : Phase ℕ)
    → (join_in g c try h j p).phase ≢ done
never_done g c try h j done e = by (composed (merges g) (mains c.locations j.written) j.written) e
  where
    by : (o : Composition (Word ℕ)) → (absorb c try h j o).phase ≡ done → ⊥
    by (Rattle.std.proofs.Common.Ok ws) i = no_done i
    by (Rattle.std.proofs.Common.Err f) i = no_end _ i
never_done g c true h j (trapped t) e = no_done e
never_done g c false h j (trapped t) e = no_end _ e
never_done g c try h j running e = no_done e

over_trapped : (g : CodeRun) (l : Local ℕ) (v : EndValue) → IsEnd g (end_of l) v → l.phase ≢ done
    → (t : Trap ℕ) × (l.phase ≡ trapped t)
over_trapped g l v e other = by l.phase refl (e.phase)
  where
    by : (p : Phase ℕ) → l.phase ≡ p → IsPhase p v.finish → (t : Trap ℕ) × (l.phase ≡ trapped t)
    by (trapped t) is i = (t, is)
    by done is i = absurd (other is)
    by running is i = absurd i

module _ (g : CodeRun) (t : Table) (w : Entries (Local ℕ)) (h : IsGood g t w) (n : ℕ) (a : WholeJoin)
    (at : at_number t.slots.items n ≡ Some (slot.Standing a)) where
  abbrev pub joiner : StandsThere g t.slots.items w h.table.slots n a
  joiner = standing_at g t.slots.items w h.table.slots n a at

  -- the revision that is joined is one of the table
  pub joinee_known : at_number t.slots.items a.on ≡ None → ⊥
  joinee_known e =
      let has =
      (joinee_number g h.verified w h.reached n joiner.path joiner.state joiner.at a.is_try a.on joiner.there
      joiner.comes).0 in
      none_some (sym (Rattle.code_world.proofs.Rows.slot_none g t.slots.items w h.table.slots a.on e) ∙ has.2)

  module _ (v : EndValue) (end : at_number t.slots.items a.on ≡ Some (slot.Ended v)) where
    abbrev pub joinee : EndedThere g t.slots.items w h.table.slots a.on v
    joinee = ended_at g t.slots.items w h.table.slots a.on v end

    pub apart : n ≢ a.on
    apart e = (let z : ◌≡◌ {A = Option WorldSlot} (Some (slot.Standing a)) (Some (slot.Ended v)) =
        sym at ∙ ap (at_number t.slots.items) e ∙ end in
        let y : slot.Standing a ≡ slot.Ended v = some_same z in
        cc)

    pub meeting : IsMeeting g a v joiner.at (end_of joinee.local)
    meeting = record {
      joiner = joiner.stands;
      joinee = joinee.end;
      fuel = (let k =
          joins_fit g h.verified w h.reached n joiner.path joiner.state joiner.at joiner.there a.is_try a.on
          joiner.comes joinee.path joinee.local joinee.there (end_stops g joinee.local v joinee.end) in
          omega (arith, k));
    }

    join_is : join g (at_work joiner.state) joinee.local ≡ meets g a joiner.at (end_of joinee.local)
    join_is = ap (λ o. join_end g (at_work joiner.state) o (end_of joinee.local)) joiner.comes

    abbrev after : Entries (Local ℕ)
    after = put_number (put_number w n (joiner.path, Plain (join g (at_work joiner.state) joinee.local))) a.on
        (joinee.path, Joined joinee.local)

    leaves : (s : WorldSlot) → IsSlot g s (meets g a joiner.at (end_of joinee.local)) → (t' : Table)
        → t'.slots.items ≡ put_number (put_number (put_number t.slots.items a.on (slot.Joined v)) n slot.Taken) n s
        → t'.births ≡ t.births → Leaves g w n t' after
    leaves s is t' slots births =
        took_leaves g h.verified t w h.table n joiner.path (at_work joiner.state) joiner.there a.on joinee.path
        joinee.local apart
        (stands_wants g joiner.state joiner.at a.is_try a.on joiner.comes) joinee.there v joinee.end s
        (subst (IsSlot g s) (sym join_is) is) t' slots births

    joins_it : Joins (numbered g) w n a.on
    joins_it = (
      joiner.path,
      at_work joiner.state,
      joiner.there,
      stands_wants g joiner.state joiner.at a.is_try a.on joiner.comes,
    )

    after_at : at_number after n ≡ Some (joiner.path, Plain (join g (at_work joiner.state) joinee.local))
    after_at =
        put_other (put_number w n (joiner.path, Plain (join g (at_work joiner.state) joinee.local))) a.on n
        (joinee.path, Joined joinee.local) apart
        ∙ put_here w n (joiner.path, Plain (at_work joiner.state))
        (joiner.path, Plain (join g (at_work joiner.state) joinee.local)) joiner.there

    after_length : length after ≡ length w
    after_length =
        put_length (put_number w n (joiner.path, Plain (join g (at_work joiner.state) joinee.local))) a.on
        (joinee.path, Joined joinee.local)
        ∙ put_length w n (joiner.path, Plain (join g (at_work joiner.state) joinee.local))

    pub settled : (s : WorldSlot) → HasMet g s (meets g a joiner.at (end_of joinee.local)) → (t' : Table)
        → t'.slots.items ≡ put_number (put_number (put_number t.slots.items a.on (slot.Joined v)) n slot.Taken) n s
        → t'.births ≡ t.births
        → Answers g w n (behind s a.on) t'
    settled (slot.Running r) is t' slots births = (
      after,
      leaves (slot.Running r) is t' slots births,
      joins_it,
      (joiner.path, join g (at_work joiner.state) joinee.local, after_at, ap (λ k. k.phase) (join_is ∙ is.1)),
      after_length,
    )
    settled (slot.Ended v') is t' slots births =
        let o = over_trapped g (meets g a joiner.at (end_of joinee.local)) v' is
        (never_done g joiner.at a.is_try a.on (end_of joinee.local) (end_of joinee.local).phase) in (
          after,
          leaves (slot.Ended v') is t' slots births,
          o.0,
          (joiner.path, join g (at_work joiner.state) joinee.local, after_at, ap (λ k. k.phase) join_is ∙ o.1),
          after_length,
        )
    settled (slot.Standing b) is t' slots births = absurd is
    settled (slot.Joined v') is t' slots births = absurd is
    settled slot.Taken is t' slots births = absurd is

  -- the revision that is joined has not ended
  waiting : (q : Path) (c : State ℕ) → at_number w a.on ≡ Some (q, Plain (at_work c))
      → (numbered g).next (at_work c) ≢ Stops → WaitsOn g w n a.on
  waiting q c there on = record {
    path = joiner.path;
    joiner = at_work joiner.state;
    there = joiner.there;
    wants = stands_wants g joiner.state joiner.at a.is_try a.on joiner.comes;
    other = q;
    joinee = at_work c;
    stands = there;
    on = on;
  }

  pub waits_running : (r : WholeRunner) → at_number t.slots.items a.on ≡ Some (slot.Running r)
      → Answers g w n (answer.Waits a.on) t
  waits_running r e =
      let k = running_at g t.slots.items w h.table.slots a.on r e in (
        waiting k.path k.state k.there (works_on g h.verified w h.reached a.on k.path k.state k.there),
        h.table,
        (a, at, refl),
      )

  pub waits_standing : (b : WholeJoin) → at_number t.slots.items a.on ≡ Some (slot.Standing b)
      → Answers g w n (answer.Waits a.on) t
  waits_standing b e =
      let k = standing_at g t.slots.items w h.table.slots a.on b e in (
        waiting k.path k.state k.there (works_on g h.verified w h.reached a.on k.path k.state k.there),
        h.table,
        (a, at, refl),
      )

  pub joins_twice : (v : EndValue) → at_number t.slots.items a.on ≡ Some (slot.Joined v) → Answers g w n answer.Twice t
  joins_twice v e =
      let k = joined_at g t.slots.items w h.table.slots a.on v e in
      ap (leg_at (numbered g) w n) joiner.there
      ∙ ap (leg_of (numbered g) w n joiner.path (at_work joiner.state))
      (stands_wants g joiner.state joiner.at a.is_try a.on joiner.comes)
      ∙ ap (join_number (numbered g) w n joiner.path (at_work joiner.state) a.on) k.there

-- ---- what is taken out of a table

slots_apart : (ss : List WorldSlot) (n m : ℕ) (a : WholeJoin) (v : EndValue) → at_number ss n ≡ Some (slot.Standing a)
    → at_number ss m ≡ Some (slot.Ended v) → n ≢ m
slots_apart ss n m a v at end e =
    (let z : ◌≡◌ {A = Option WorldSlot} (Some (slot.Standing a)) (Some (slot.Ended v)) =
    sym at ∙ ap (at_number ss) e ∙ end in
    let y : slot.Standing a ≡ slot.Ended v = some_same z in
    cc)

pub joiner_still : (t : Table) (n on : ℕ) → Settles t n on → (v : EndValue) (ss : List WorldSlot)
    → ss ≡ put_number t.slots.items on (slot.Joined v) → at_number ss n ≡ at_number t.slots.items n
joiner_still t n on q v ss e =
    ap (λ z. at_number z n) e
    ∙ put_other t.slots.items on n (slot.Joined v) (slots_apart t.slots.items n on q.0.0 q.1 q.0.1 q.2)

-- the joiner and the end that were taken
pub record Taken (t : Table) (n on : ℕ) (a : WholeJoin) (v : EndValue) : Type 0 where
  pub number : a.on ≡ on
  pub at : at_number t.slots.items n ≡ Some (slot.Standing a)
  pub end : at_number t.slots.items a.on ≡ Some (slot.Ended v)

pub taken : (t : Table) (n on : ℕ) → Settles t n on → (v : EndValue) → at_number t.slots.items on ≡ Some (slot.Ended v)
    → (ss : List WorldSlot) → ss ≡ put_number t.slots.items on (slot.Joined v)
    → (a : WholeJoin) → at_number ss n ≡ Some (slot.Standing a) → Taken t n on a v
taken t n on q v end ss e a was = record { number = is; at = at; end = ap (at_number t.slots.items) is ∙ end }
  where
    at : at_number t.slots.items n ≡ Some (slot.Standing a)
    at = sym (joiner_still t n on q v ss e) ∙ was

    is : a.on ≡ on
    is = (let z : slot.Standing a ≡ slot.Standing q.0.0 = some_same (sym at ∙ q.0.1) in
        let y : a ≡ q.0.0 = cc in
        ap (λ k. k.on) y)
        ∙ q.0.2

module _ (g : CodeRun) (t : Table) (w : Entries (Local ℕ)) (h : IsGood g t w) (n on : ℕ) (a : WholeJoin) (v : EndValue)
    (k : Taken t n on a v) where
  pub joiner_state : State ℕ
  joiner_state = (joiner g t w h n a k.at).at

  pub joinee_end : End ℕ
  joinee_end = end_of (joinee g t w h n a k.at v k.end).local

  pub takes : IsMeeting g a v joiner_state joinee_end
  unfolding joiner_state joinee_end
  takes = meeting g t w h n a k.at v k.end

  -- the joiner behind its join is put back
  pub settles : (s : WorldSlot) → HasMet g s (meets g a joiner_state joinee_end) → (z : LegAnswer) → z ≡ behind s on
      → (t' : Table)
      → t'.slots.items ≡ put_number (put_number (put_number t.slots.items on (slot.Joined v)) n slot.Taken) n s
      → t'.births ≡ t.births → Answers g w n z t'
  unfolding joiner_state joinee_end
  settles s met z is t' slots births =
      subst (λ y. Answers g w n y t') (ap (behind s) k.number ∙ sym is)
      (settled g t w h n a k.at v k.end s met t'
      (slots
      ∙ ap (λ m. put_number (put_number (put_number t.slots.items m (slot.Joined v)) n slot.Taken) n s) (sym k.number))
      births)

-- ---- a revision that is put at its join

module _ (g : CodeRun) (t : Table) (w : Entries (Local ℕ)) (h : IsGood g t w) (n : ℕ) where
  pub many_slots : length t.slots.items ≤ 1 + most_fuel
  many_slots =
      let a = slots_many g t.slots.items w h.table.slots in
      let b = small g h.verified w h.reached in omega (arith, a, b)

  pub world_length : length w ≡ length t.slots.items
  world_length = sym (slots_many g t.slots.items w h.table.slots)

  module _ (r : WholeRunner) (at : at_number t.slots.items n ≡ Some (slot.Running r)) where
    abbrev pub runner : RunsAt g t.slots.items w h.table.slots n r
    runner = running_at g t.slots.items w h.table.slots n r at

    pub births_below : n < length t.births.items
    births_below =
        let a = at_below w n (runner.path, Plain (at_work runner.state)) runner.there in
        let b = births_many t.births.items w h.table.forks in omega (arith, a, b)

    pub few_forks : (b : Birth) → at_number t.births.items n ≡ Some b → b.forks + 1 < 2 ^ 32
    few_forks b e =
        let x = sum_one t.births.items n b e in
        let y = h.table.counted in
        let z = births_many t.births.items w h.table.forks in
        let k = small g h.verified w h.reached in omega (arith, x, y, z, k)

    -- behind the instructions of its leg
    pub at_its_join : (a : WholeJoin) → IsSlot g (slot.Standing a) (at_work runner.state) → (t' : Table)
        → t'.slots.items ≡ put_number (put_number t.slots.items n slot.Taken) n (slot.Standing a) → t'.births ≡ t.births
        → IsGood g t' w
    at_its_join a is t' slots births = record {
      verified = h.verified;
      reached = h.reached;
      table = record {
        slots = subst (λ ss. AreSlots g ss w) (sym (slots ∙ put_twice t.slots.items n slot.Taken (slot.Standing a)))
            (subst (AreSlots g (put_number t.slots.items n (slot.Standing a)))
            (put_same w n (runner.path, Plain (at_work runner.state)) runner.there)
            (slots_put g t.slots.items w h.table.slots n (slot.Standing a) runner.path (Plain (at_work runner.state))
            is));
        forks = subst (λ bs. AreForks bs w) (ap (λ b. b.items) (sym births)) h.table.forks;
        named = subst (λ bs. AreNamed bs (paths_of w)) (ap (λ b. b.items) (sym births)) h.table.named;
        counted = subst (λ bs. forks_of bs + 1 ≡ length bs) (ap (λ b. b.items) (sym births)) h.table.counted;
      };
    }

    pub still_standing : (a : WholeJoin) (ss : List WorldSlot)
        → ss ≡ put_number (put_number t.slots.items n slot.Taken) n (slot.Standing a)
        → at_number ss n ≡ Some (slot.Standing a)
    still_standing a ss e =
        ap (λ z. at_number z n) (e ∙ put_twice t.slots.items n slot.Taken (slot.Standing a))
        ∙ put_here t.slots.items n (slot.Running r) (slot.Standing a) at

    pub forks_off : (child : ℕ) → child ≡ length t.slots.items → (forker kid : WholeRunner)
        → HasForked g child runner.state forker kid → (t' : Table)
        → t'.slots.items
        ≡ put_number (put_number t.slots.items n slot.Taken) n (slot.Running forker) ++ slot.Running kid ∷ []
        → (b : Birth) → at_number t.births.items n ≡ Some b → t'.births.items ≡ born t.births.items n b
        → Answers g w n (answer.Forked child) t'
    forks_off child is forker kid f t' slots b e births =
        let number : child ≡ length w = is ∙ sym world_length in (
          _,
          bears_leaves g h.verified t w h.table n runner.path (at_work runner.state) runner.there f.goes_on f.born
              f.bears forker kid
              (subst (λ k. IsSlot g (slot.Running forker) (f.goes_on k)) number f.forker_is) f.kid_is b e t'
              (slots
              ∙ ap (λ ss. ss ++ slot.Running kid ∷ []) (put_twice t.slots.items n slot.Taken (slot.Running forker)))
              births,
          (runner.path, at_work runner.state, f.goes_on, f.born, runner.there, f.bears),
          number,
          (
            runner.path,
            f.goes_on (length w),
            at_front (put_number w n (runner.path, Plain (f.goes_on (length w)))) _ n _
                (put_here w n (runner.path, Plain (at_work runner.state)) (runner.path, Plain (f.goes_on (length w)))
                runner.there),
            ap (λ k. (f.goes_on k).phase) (sym number) ∙ ap (λ k. k.phase) f.forker_is.1,
          ),
          more_length (put_number w n (runner.path, Plain (f.goes_on (length w)))) _
              ∙ ap suc (put_length w n (runner.path, Plain (f.goes_on (length w)))),
        )

    ended_in : (v : EndValue) (f : HasEnded g runner.state v) (t' : Table)
        → t'.slots.items ≡ put_number (put_number t.slots.items n slot.Taken) n (slot.Ended v) → t'.births ≡ t.births
        → Leaves g w n t' (put_number w n (runner.path, Plain f.after))
    ended_in v f t' slots births =
        goes_leaves g h.verified t w h.table n runner.path (at_work runner.state) runner.there f.after f.goes
        (slot.Ended v) f.end t' (slots ∙ put_twice t.slots.items n slot.Taken (slot.Ended v)) births

    pub ends_so : (v : EndValue) → HasEnded g runner.state v → (t' : Table)
        → t'.slots.items ≡ put_number (put_number t.slots.items n slot.Taken) n (slot.Ended v) → t'.births ≡ t.births
        → Answers g w n (ends_with v.finish) t'
    ends_so v f t' slots births = by f.after.phase v.finish refl f.end.phase
      where
        after_at : at_number (put_number w n (runner.path, Plain f.after)) n ≡ Some (runner.path, Plain f.after)
        after_at = put_here w n (runner.path, Plain (at_work runner.state)) (runner.path, Plain f.after) runner.there

        by : (p : Phase ℕ) (x : Finish) → f.after.phase ≡ p → IsPhase p x → Answers g w n (ends_with x) t'
        by done finish.Done e i = (
          put_number w n (runner.path, Plain f.after),
          ended_in v f t' slots births,
          (runner.path, f.after, after_at, e),
          put_length w n (runner.path, Plain f.after),
        )
        by (trapped u) (finish.Trapped x) e i = (
          put_number w n (runner.path, Plain f.after),
          ended_in v f t' slots births,
          u,
          (runner.path, f.after, after_at, e),
          put_length w n (runner.path, Plain f.after),
        )
        by done (finish.Trapped x) e i = absurd i
        by (trapped u) finish.Done e i = absurd i
        by running x e i = absurd i

-- ---- none, or over

module _ (g : CodeRun) (t : Table) (w : Entries (Local ℕ)) (h : IsGood g t w) (n : ℕ) where
  pub no_such : at_number t.slots.items n ≡ None → Answers g w n answer.NoSuch t
  no_such e = (Rattle.code_world.proofs.Rows.slot_none g t.slots.items w h.table.slots n e, h.table)

  pub over_ended : (v : EndValue) → at_number t.slots.items n ≡ Some (slot.Ended v) → Answers g w n answer.Over t
  over_ended v e =
      let k = ended_at g t.slots.items w h.table.slots n v e in
      ((k.path, Plain k.local, k.there, end_stops g k.local v k.end), h.table)

  pub over_joined : (v : EndValue) → at_number t.slots.items n ≡ Some (slot.Joined v) → Answers g w n answer.Over t
  over_joined v e =
      let k = joined_at g t.slots.items w h.table.slots n v e in
      ((k.path, Joined k.local, k.there, end_stops g k.local v k.end), h.table)
