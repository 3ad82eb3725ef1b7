-- A leg of a world that is recorded or repeated: where it leads, and a revision that is not fresh.
use Rattle.std.proofs.Common.{◌≡◌, ◌∙◌, ℕ, suc, List, [], ◌∷◌, ◌++◌, length, Some, None, refl, sym, ap, subst}
use Rattle.rev_num.specs.Path.{Path}
use Rattle.rev_num.specs.declared.value.ValueKind.{ValueKind}
use Rattle.rev_code.specs.Words.{Word}
use Rattle.block_run.specs.Area.{count}
use Rattle.code_soundness.specs.Typed.{location_kinds}
use Rattle.rev_vm.proofs.Firsts.{kinds_many}
use Rattle.rev_record.specs.Begins.{AreWordsAt, BeginsAt}
use Rattle.rev_record.proofs.Beginning.{fresh_begins}
use Rattle.rev_num.proofs.Options.{none_some, some_eq}
use Rattle.rev_code.specs.State.{State}
use Rattle.rev_code.specs.Step.{joins}
use Rattle.revision_machine.specs.Machine.{Entry, Plain}
use Rattle.revision_machine.specs.Numbered as numbers
use Rattle.revision_machine.specs.Numbered.{Entries, World, Both, Listing, at_number, paths_of, begin}
use Rattle.revision_machine.proofs.Replays.{replays_on}
use Rattle.code_machine.specs.Local.{CodeRun, IsVerified, Local, at_work}
use Rattle.code_machine.specs.Leg.{leg}
use Rattle.code_machine.specs.Machines.{numbered, start_in}
use Rattle.code_memos.specs.Leaf.{Fresh, IsFresh, ended_by}
use Rattle.code_memos.specs.Freshness.{FreshByNumber}
use Rattle.code_memos.proofs.Numbers.{unlisted_by_number}
use Rattle.code_world.specs.declared.answer.LegAnswer.{LegAnswer}
use Rattle.code_world.specs.declared.answer.LegAnswer.TheVariants as answer
use Rattle.code_world.specs.declared.freshness.FreshStart.{FreshStart}
use Rattle.code_world.specs.declared.slot.WorldSlot.TheVariants as slot
use Rattle.code_world.specs.declared.world.World as rust_world
use Rattle.code_world.specs.declared.world.World.TheVariants as world
use Rattle.code_world.specs.Beginnings.{FreshAt}
use Rattle.code_world.specs.Slots.{WholeJoin, IsSlot, IsEntry}
use Rattle.code_world.specs.Tables.{IsWorld}
use Rattle.code_world.proofs.Rows.{slot_at}
use Rattle.code_machine_laws.specs.Reached.{IsReached}
use Rattle.world_runs.specs.KeptByLegs.{KeepsOn}
use Rattle.rev_record.specs.SoFar.{LeafLeg}
use Rattle.rev_record.specs.Legs.{IsFrom, StandsFresh}

pub reached_from : (g : CodeRun) (fuel : ℕ) (w : World (Local ℕ)) → IsFrom g fuel w → IsReached g w
reached_from g fuel w f =
    record { number = f.number; main = f.main; fuel = fuel; few = f.few; schedule = f.schedule; replays = f.replays }

-- one leg more
unfoldable pub from_on : (g : CodeRun) (fuel : ℕ) (w u : World (Local ℕ)) (n : ℕ) → IsFrom g fuel w
    → numbers.leg (numbered g) w n ≡ Some u → IsFrom g fuel u
from_on g fuel w u n f e = record {
  few = f.few;
  number = f.number;
  main = f.main;
  schedule = f.schedule ++ n ∷ [];
  replays = replays_on (numbered g) f.schedule (n ∷ []) (begin (numbered g) (start_in g f.number f.main.body fuel)) w u
      f.replays (u, e, refl);
}

-- what is kept where there is no leg, and after each
pub keeps_on : (K : World (Local ℕ) → Type 0) (g : CodeRun) (w : World (Local ℕ)) (n : ℕ) (a : LegAnswer) → K w
    → ((u : World (Local ℕ)) → numbers.leg (numbered g) w n ≡ Some u → K u) → KeepsOn K g w n a
keeps_on K g w n (answer.Waits on) same after = same
keeps_on K g w n answer.NoSuch same after = same
keeps_on K g w n answer.Over same after = same
keeps_on K g w n (answer.Forked k) same after = after
keeps_on K g w n (answer.Joined k) same after = after
keeps_on K g w n answer.Ended same after = after
keeps_on K g w n answer.Trapped same after = after
keeps_on K g w n answer.Twice same after = after

pub no_leg_in_twice : {A : Type 0} (g : CodeRun) (n : ℕ) (u : World (Local ℕ))
    → numbers.leg (numbered g) Both n ≡ Some u → A
no_leg_in_twice g n u e = none_some e

-- ---- fresh or not

pub fresh_unlisted : {H : Type 0} (code : _) (f : Fresh H) (c : State H) → IsFresh code f c → c.listed ≡ []
fresh_unlisted code f c fresh = ap (λ z. z.listed) fresh.state

-- a leaf is fresh before its leg: it does not stand at a join
pub leaf_not : (g : CodeRun) → IsVerified g → (fuel : ℕ) (v : rust_world.World) (w : Entries (Local ℕ))
    → IsFrom g fuel (Listing w) → IsWorld g v (Listing w) → (n : ℕ) → FreshAt g v (Listing w) n None
    → (r : Path) (l : Local ℕ) → LeafLeg g w n r l → ⊥
leaf_not g ok fuel world.Twice w f is n none r l leaf = is
leaf_not g ok fuel (world.Live t) w f is n none r l leaf =
    let y = unlisted_by_number g ok f.number f.main fuel f.schedule w f.replays n r (at_work leaf.state) leaf.there
    (refl, leaf.unlisted) in
    let stands = none r leaf.state y.here leaf.there y.fresh_here in
    joins_not stands.0 (slot_there stands.0 stands.1)
  where
    slot_there : (a : WholeJoin) → at_number t.slots.items n ≡ Some (slot.Standing a)
        → IsSlot g (slot.Standing a) (at_work leaf.state)
    slot_there a there =
        let x = slot_at g t.slots.items w is.slots n (slot.Standing a) there in
        let row : ◌≡◌ {A = Path × Entry (Local ℕ)} (x.0, x.1) (r, Plain (at_work leaf.state)) =
        some_eq (sym x.2 ∙ leaf.there) in
        subst (IsEntry g (slot.Standing a)) (ap (λ (z : Path × Entry (Local ℕ)). z.1) row) x.3

    same_state : (c d : State ℕ) → at_work c ≡ at_work d → c ≡ d
    same_state c d e = ap (λ (z : Local ℕ). z.state) e

    joins_not : (a : WholeJoin) → IsSlot g (slot.Standing a) (at_work leaf.state) → ⊥
    joins_not a (c, same, c', comes, at) =
        let there : leg g leaf.state ≡ joins c' a.is_try a.on = ap (leg g) (same_state leaf.state c same) ∙ comes in
        none_some (ap ended_by (sym there) ∙ leaf.ends)

-- a fresh one
pub record IsLive (g : CodeRun) (v : rust_world.World) (w : World (Local ℕ)) (n : ℕ) (x : FreshStart) : Type 0 where
  pub entries : Entries (Local ℕ)
  pub is : w ≡ Listing entries
  pub stands : StandsFresh g entries n x

pub fresh_live : (g : CodeRun) (v : rust_world.World) (w : World (Local ℕ)) (n : ℕ) (x : FreshStart)
    → FreshAt g v w n (Some x) → IsLive g v w n x
fresh_live g (world.Live t) (Listing w) n x h = record {
  entries = w;
  is = refl;
  stands = record { path = h.0; state = h.1; here = h.2; there = h.3; fresh = h.4; begun = h.5 };
}
fresh_live g (world.Live t) Both n x h = none_some (sym h)
fresh_live g world.Twice (Listing w) n x h = none_some (sym h)
fresh_live g world.Twice Both n x h = none_some (sym h)

-- ---- words

-- as many words as locations
pub words_many : (t : List Path) (kinds : List ValueKind) (ws : List (Word Path)) (xs : List ℕ)
    → AreWordsAt t kinds ws xs → length xs ≡ length kinds
words_many t [] [] [] h = refl
words_many t (k ∷ kinds) (w ∷ ws) (x ∷ xs) h = ap suc (words_many t kinds ws xs h.1)
words_many t [] [] (x ∷ xs) h = absurd h
words_many t [] (w ∷ ws) xs h = absurd h
words_many t (k ∷ kinds) [] xs h = absurd h
words_many t (k ∷ kinds) (w ∷ ws) [] h = absurd h

module _ (g : CodeRun) (ok : IsVerified g) (fuel : ℕ) (w : Entries (Local ℕ)) (from : IsFrom g fuel (Listing w)) (n : ℕ)
    (x : FreshStart) (h : StandsFresh g w n x) where
  pub start_unlisted : h.state.listed ≡ []
  start_unlisted = fresh_unlisted g.code h.here h.state h.fresh

  abbrev pub ByPath : Type 0
  ByPath = FreshByNumber g from.number from.main fuel (paths_of w) h.path (at_work h.state)

  pub by_path : ByPath
  by_path = unlisted_by_number g ok from.number from.main fuel from.schedule w from.replays n h.path (at_work h.state)
      h.there (refl, start_unlisted)

  pub begins_at : BeginsAt g.code (paths_of w) by_path.begins.begins x
  begins_at = fresh_begins g ok from.number from.main fuel from.schedule w from.replays n h.path h.state h.there
      start_unlisted by_path h.here h.fresh x h.begun

  pub base_many : length x.base.items ≡ count g.code.vars
  base_many = words_many (paths_of w) (location_kinds g.code.vars) by_path.begins.begins.snapshot x.base.items
      begins_at.base
      ∙ kinds_many g.code.vars
