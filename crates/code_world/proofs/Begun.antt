-- A running revision that has listed nothing, and with what it began.
use Rattle.std.proofs.Common.{◌≡◌, ◌≢◌, ◌∙◌, ℕ, zero, suc, ◌<◌, true, false, List, [], ◌∷◌, length, Option, Some, None, refl, sym, ap, subst, arith}
use Rattle.std.proofs.lemmas.Bool.Decides.{nat_tests}
use Rattle.std.specs.Prelude.{◌==◌, slice_get, slice_index}
use Rattle.rev_num.proofs.Options.{none_some, some_eq}
use Rattle.rev_code.specs.Words.{Word}
use Rattle.rev_code.specs.State.{State}
use Rattle.block_run.specs.Agreement.{IsWord, AreWords}
use Rattle.block_run.specs.Area.{count}
use Rattle.block_run.specs.Standing.{IsSeen}
use Rattle.version_map.specs.declared.delta.Delta.{Delta}
use Rattle.version_map.specs.Deltas.{locations}
use Rattle.version_map.specs.Overlay.{under, Agree}
use Rattle.revision_machine.specs.Numbered.{Entries, World, Both, Listing, at_number}
use Rattle.code_machine.specs.Local.{CodeRun, IsVerified, Local, at_work}
use Rattle.code_memos.specs.Leaf.{Fresh, IsFresh, unwritten}
use Rattle.code_memos.proofs.Numbers.{unlisted_by_number}
use Rattle.code_machine_laws.specs.Reached.{IsReached}
use Rattle.rev_vm.specs.Values.{runner_delta, runner_snapshot}
use Rattle.rev_vm.proofs.Born.{delta_size, over, runner_many, runner_seen, runner_size}
use Rattle.code_world.specs.declared.freshness.FreshStart.{FreshStart}
use Rattle.code_world.specs.declared.slot.WorldSlot.{WorldSlot}
use Rattle.code_world.specs.declared.slot.WorldSlot.TheVariants as slot
use Rattle.code_world.specs.declared.table.Table.{Table}
use Rattle.code_world.specs.declared.world.World as rust_world
use Rattle.code_world.specs.declared.world.World.TheVariants as world
use Rattle.code_world.specs.Beginnings.{FreshAt, FreshIn, IsBegun, running_in}
use Rattle.code_world.specs.Slots.{WholeRunner, WholeJoin, IsSlot, Runs, words}
use Rattle.code_world.specs.Tables.{IsWorld}
use Rattle.code_world.specs.Turns.{IsGood}
use Rattle.code_world.proofs.AdoptedEnds.{slot_of}
use Rattle.code_world.proofs.Ended.{plain_same}
use Rattle.code_world.proofs.Turning.{runner}
use Rattle.code_world.proofs.Worlds.{world_live}

-- ---- words

words_by_place : (xs : List (Word ℕ)) (ws : List ℕ) → length ws ≡ length xs
    → ((l : ℕ) (x : Word ℕ) → slice_get xs l ≡ Some x → IsWord x (slice_index ws l)) → AreWords xs ws
words_by_place [] [] e h = tt
words_by_place [] (w ∷ ws) e h = absurd (omega (arith, e))
words_by_place (x ∷ xs) [] e h = absurd (omega (arith, e))
words_by_place (x ∷ xs) (w ∷ ws) e h =
    (h 0 x refl, words_by_place xs ws (omega (arith, e)) (λ l y there. h (suc l) y there))

unwritten_at : (xs : List (Word ℕ)) (l : ℕ) (x : Word ℕ) → slice_get xs l ≡ Some x
    → slice_get (unwritten xs) l ≡ Some (record { snapshot = x; written = None })
unwritten_at [] l x e = none_some e
unwritten_at (y ∷ xs) zero x e =
    ap (λ z. Some (record { snapshot = z; written = None })) (let z : Some y ≡ Some x = e in cc)
unwritten_at (y ∷ xs) (suc l) x e = unwritten_at xs l x e

unwritten_length : (xs : List (Word ℕ)) → length (unwritten xs) ≡ length xs
unwritten_length [] = refl
unwritten_length (x ∷ xs) = ap suc (unwritten_length xs)

in_length : {A : Type 0} (xs : List A) (l : ℕ) (x : A) → slice_get xs l ≡ Some x → l < length xs
in_length [] l x e = none_some e
in_length (y ∷ xs) zero x e = omega arith
in_length (y ∷ xs) (suc l) x e = let h = in_length xs l x e in omega (arith, h)

-- a location that is not written is seen as its snapshot's word
seen_word : (x : Word ℕ) (w : ℕ) (root : Option ℕ) → IsSeen (record { snapshot = x; written = None }) w root
    → IsWord x w
seen_word x w None h = h.1
seen_word x w (Some r) h = none_some h.1

-- ---- fresh runners

module _ (g : CodeRun) (r : WholeRunner) (c : State ℕ) (runs : Runs g r c) (f : Fresh ℕ)
    (fresh : IsFresh g.code f c) where
  many : length f.snapshot ≡ count g.code.vars
  many =
      sym (unwritten_length f.snapshot) ∙ ap length (sym (ap (λ (z : State ℕ). z.locations) fresh.state))
      ∙ runner_many g r c runs

  -- as many words as locations, which are those that it sees
  seen_here : (ws : List ℕ) → length ws ≡ count g.code.vars
      → Agree (count g.code.vars) (slice_index ws) (over (runner_delta r) (words (runner_snapshot r)))
      → AreWords f.snapshot ws
  seen_here ws long agree =
      let seen = runner_seen g r c runs in
      words_by_place f.snapshot ws (long ∙ sym many) (λ l x there.
      let small : l < count g.code.vars =
      (let a = in_length f.snapshot l x there in let b = many in omega (arith, a, b)) in
      let located : slice_get c.locations l ≡ Some (record { snapshot = x; written = None }) =
      ap (λ (z : State ℕ). slice_get z.locations l) fresh.state ∙ unwritten_at f.snapshot l x there in
      subst (IsWord x) (sym (agree l small)) (seen_word x _ _ (seen.1 l _ located)))

  -- with what lies over its snapshot, or where nothing does
  pub seen_over : (ws : List ℕ) (d : Delta) (base : List ℕ) → Some d ≡ runner_delta r
      → base ≡ (runner_snapshot r).words.items → length ws ≡ locations d
      → Agree (locations d) (slice_index ws) (under d (slice_index base)) → AreWords f.snapshot ws
  seen_over ws d base e b long agree =
      let size = delta_size r d e ∙ runner_size g r c runs in
      seen_here ws (long ∙ size)
      (subst (λ o. Agree (count g.code.vars) (slice_index ws) (over o (words (runner_snapshot r)))) e
      (subst (λ z. Agree (count g.code.vars) (slice_index ws) (under d (slice_index z))) b
      (subst (λ k. Agree k (slice_index ws) (under d (slice_index base))) size agree)))

  pub seen_alone : (ws : List ℕ) → None ≡ runner_delta r → ws ≡ (runner_snapshot r).words.items
      → AreWords f.snapshot ws
  seen_alone ws e b =
      seen_here ws (ap length b ∙ sym (runner_snapshot r).words.ok.0 ∙ runner_size g r c runs)
      (subst (λ o. Agree (count g.code.vars) (slice_index ws) (over o (words (runner_snapshot r)))) e
      (λ l i. ap (λ z. slice_index z l) b))

-- a snapshot has a word for each location of its memory
pub base_of : (r : WholeRunner) (d : Delta) (base : List ℕ) → Some d ≡ runner_delta r
    → base ≡ (runner_snapshot r).words.items → locations d ≡ length base
base_of r d base e b = delta_size r d e ∙ (runner_snapshot r).words.ok.0 ∙ sym (ap length b)

-- ---- revisions of a table

module _ (g : CodeRun) (t : Table) (w : Entries (Local ℕ)) (h : IsGood g t w) (n : ℕ) (r : WholeRunner)
    (at : at_number t.slots.items n ≡ Some (slot.Running r)) where
  pub unlisted_fresh : (runner g t w h n r at).state.listed ≡ []
      → (f : Fresh ℕ) × IsFresh g.code f (runner g t w h n r at).state
  unlisted_fresh none =
      let k = runner g t w h n r at in
      let e = h.reached in
      let x = unlisted_by_number g h.verified e.number e.main e.fuel e.schedule w e.replays n k.path (at_work k.state)
      k.there (refl, none) in
      (x.here, x.fresh_here)

  pub fresh_in : (f : Fresh ℕ) → IsFresh g.code f (runner g t w h n r at).state → (x : FreshStart) → IsBegun f x
      → FreshIn g t w n (Some x)
  fresh_in f fresh x begun = let k = runner g t w h n r at in (k.path, k.state, f, k.there, fresh, begun, (r, at))

  -- one that has listed something is not fresh
  pub listed_not : ((runner g t w h n r at).state.listed ≢ []) → FreshIn g t w n None
  listed_not some p c f there fresh =
      let k = runner g t w h n r at in
      let same : at_work c ≡ at_work k.state =
      plain_same (at_number w n) k.path p (at_work k.state) (at_work c) k.there there in
      absurd (some (sym (ap (λ (l : Local ℕ). l.state.listed) same) ∙ ap (λ (z : State ℕ). z.listed) fresh.state))

-- one that is not running is not fresh, or stands at a join
pub other_not : (g : CodeRun) (t : Table) (w : Entries (Local ℕ)) → IsGood g t w → (n : ℕ)
    → ((r : WholeRunner) → at_number t.slots.items n ≢ Some (slot.Running r)) → FreshIn g t w n None
other_not g t w h n other p c f there fresh =
    let x = slot_of g t.slots.items w h.table.slots n p (at_work c) there in by x.slot x.there x.is
  where
    by : (s : WorldSlot) → at_number t.slots.items n ≡ Some s → IsSlot g s (at_work c)
        → (a : WholeJoin) × (at_number t.slots.items n ≡ Some (slot.Standing a))
    by (slot.Running r) e is = absurd (other r e)
    by (slot.Standing a) e is = (a, e)
    by (slot.Ended v) e is = absurd is.phase
    by (slot.Joined v) e is = absurd is
    by slot.Taken e is = absurd is

-- ---- places of a table

pub running_there : (o : Option WorldSlot) (r : WholeRunner) → Some r ≡ running_in o → o ≡ Some (slot.Running r)
running_there (Some (slot.Running q)) r e = ap (λ z. Some (slot.Running z)) (sym (some_eq e))
running_there (Some (slot.Standing a)) r e = none_some (sym e)
running_there (Some (slot.Ended v)) r e = none_some (sym e)
running_there (Some (slot.Joined v)) r e = none_some (sym e)
running_there (Some slot.Taken) r e = none_some (sym e)
running_there None r e = none_some (sym e)

pub not_running : (o : Option WorldSlot) → None ≡ running_in o → (r : WholeRunner) → o ≢ Some (slot.Running r)
not_running o e r is = none_some (e ∙ ap running_in is)

-- ---- worlds

pub live_good : (g : CodeRun) (v : rust_world.World) (w : World (Local ℕ)) (t : Table) → v ≡ world.Live t
    → IsReached g w → IsWorld g v w → IsVerified g
    → (x : Entries (Local ℕ)) × (w ≡ Listing x) × IsGood g t x
live_good g v w t e reached is ok =
    let k = world_live g v w t e is in
    (k.0, k.1, record { verified = ok; reached = subst (IsReached g) k.1 reached; table = k.2 })

pub fresh_live : (g : CodeRun) (v : rust_world.World) (w : World (Local ℕ)) (t : Table) → v ≡ world.Live t
    → (x : Entries (Local ℕ)) → w ≡ Listing x → (n : ℕ) (o : Option FreshStart)
    → FreshIn g t x n o → FreshAt g v w n o
fresh_live g v w t e x is n o h =
    subst (λ z. FreshAt g z w n o) (sym e) (subst (λ z. FreshAt g (world.Live t) z n o) (sym is) h)

pub fresh_twice : (g : CodeRun) (v : rust_world.World) (w : World (Local ℕ)) → v ≡ world.Twice → (n : ℕ)
    → FreshAt g v w n None
fresh_twice g v w e n = subst (λ z. FreshAt g z w n None) (sym e) (by w)
  where
    by : (w : World (Local ℕ)) → FreshAt g world.Twice w n None
    by Both = refl
    by (Listing x) = refl

-- a list is empty by its length
pub none_by_length : {A : Type 0} (xs : List A) → (length xs == 0) ≡ true → xs ≡ []
none_by_length [] e = refl
none_by_length (x ∷ xs) e = absurd (grind (arith, nat_tests))

pub some_by_length : {A : Type 0} (xs : List A) → (length xs == 0) ≡ false → xs ≢ []
some_by_length [] e h = cc
some_by_length (x ∷ xs) e h = cc
