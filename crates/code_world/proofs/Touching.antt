-- What a leg leaves as it was.
use Rattle.std.proofs.Common.{◌≡◌, ◌≢◌, ◌⊎◌, inl, inr, ◌∙◌, ℕ, List, [], ◌∷◌, ◌++◌, Some, refl, sym, ap, subst}
use Rattle.version_map.specs.declared.end.EndValue.{EndValue}
use Rattle.version_map.specs.declared.end.Finish.{Finish}
use Rattle.version_map.specs.declared.end.Finish.TheVariants as finish
use Rattle.revision_machine.specs.Numbered.{at_number, put_number}
use Rattle.revision_machine.proofs.Lists.{at_front, put_other, put_here}
use Rattle.code_machine.proofs.Changes.{decide}
use Rattle.code_world.specs.declared.answer.LegAnswer.{LegAnswer}
use Rattle.code_world.specs.declared.answer.LegAnswer.TheVariants as answer
use Rattle.code_world.specs.declared.slot.WorldSlot.{WorldSlot}
use Rattle.code_world.specs.declared.slot.WorldSlot.TheVariants as slot
use Rattle.code_world.specs.declared.table.Table.{Table}
use Rattle.code_world.specs.declared.world.World as rust
use Rattle.code_world.specs.declared.world.World.TheVariants as world
use Rattle.code_world.specs.Answers.{world_after}
use Rattle.code_world.specs.Touches.{StaysOrIsJoined, OthersStay, IsSame, IsSameBut, Touches, TouchesJoining, TouchesIn}
use Rattle.code_world.specs.Turns.{behind, ends_with}
use Rattle.code_world.proofs.Rows.{some_same}

-- ---- tables

pub same : (t : Table) → IsSame t t
same t = (refl, refl)

pub same_but : (t : Table) (n : ℕ) → IsSameBut t n t
same_but t n = (λ m apart. refl, refl)

pub same_stays : (t t' : Table) (n : ℕ) → IsSame t t' → OthersStay t.slots.items n t'.slots.items
same_stays t t' n e m s apart there = inl (ap (λ z. at_number z m) e.0 ∙ there)

pub but_stays : (t t' : Table) (n : ℕ) → IsSameBut t n t' → OthersStay t.slots.items n t'.slots.items
but_stays t t' n e m s apart there = inl (e.0 m apart ∙ there)

-- the revision is taken out and put back
pub put_stays : (ss ss' : List WorldSlot) (n : ℕ) (a b : WorldSlot) → ss' ≡ put_number (put_number ss n a) n b → (m : ℕ)
    → m ≢ n
    → at_number ss' m ≡ at_number ss m
put_stays ss ss' n a b e m apart =
    ap (λ z. at_number z m) e ∙ put_other (put_number ss n a) n m b apart ∙ put_other ss n m a apart

pub others_put : (ss ss' : List WorldSlot) (n : ℕ) (a b : WorldSlot) → ss' ≡ put_number (put_number ss n a) n b
    → OthersStay ss n ss'
others_put ss ss' n a b e m s apart there = inl (put_stays ss ss' n a b e m apart ∙ there)

pub fork_stays : (ss ss' : List WorldSlot) (n : ℕ) (a b kid : WorldSlot)
    → ss' ≡ put_number (put_number ss n a) n b ++ kid ∷ []
    → OthersStay ss n ss'
fork_stays ss ss' n a b kid e m s apart there =
    inl (ap (λ z. at_number z m) e
    ∙ at_front (put_number (put_number ss n a) n b) (kid ∷ []) m s
    (put_other (put_number ss n a) n m b apart ∙ put_other ss n m a apart ∙ there))

pub settle_stays : (ss ss' : List WorldSlot) (n on : ℕ) (v : EndValue) (a b : WorldSlot)
    → at_number ss on ≡ Some (slot.Ended v)
    → ss' ≡ put_number (put_number (put_number ss on (slot.Joined v)) n a) n b → OthersStay ss n ss'
settle_stays ss ss' n on v a b end e m s apart there = by (decide m on)
  where
    last : at_number ss' m ≡ at_number (put_number ss on (slot.Joined v)) m
    last = put_stays (put_number ss on (slot.Joined v)) ss' n a b e m apart

    by : (m ≡ on) ⊎ (m ≢ on) → StaysOrIsJoined s (at_number ss' m)
    by (inl z) = inr (
      v,
      some_same (sym there ∙ ap (at_number ss) z ∙ end),
      last ∙ ap (at_number (put_number ss on (slot.Joined v))) z ∙ put_here ss on (slot.Ended v) (slot.Joined v) end,
    )
    by (inr z) = inl (last ∙ put_other ss on m (slot.Joined v) z ∙ there)

pub then_stays : (a b c : List WorldSlot) (n : ℕ) → ((m : ℕ) → m ≢ n → at_number b m ≡ at_number a m) → OthersStay b n c
    → OthersStay a n c
then_stays a b c n first second m s apart there = second m s apart (first m apart ∙ there)

-- ---- joins

-- whatever comes of it
pub settle_touches : (t t' : Table) (n on : ℕ) (s : WorldSlot) → OthersStay t.slots.items n t'.slots.items
    → (a : LegAnswer)
    → a ≡ behind s on → TouchesJoining t n a t'
settle_touches t t' n on s h a e = subst (λ z. TouchesJoining t n z t') (sym e) (by s)
  where
    by : (s : WorldSlot) → TouchesJoining t n (behind s on) t'
    by (slot.Running r) = h
    by (slot.Standing k) = h
    by (slot.Ended v) = h
    by (slot.Joined v) = h
    by slot.Taken = h

pub joining_touches : (t t' : Table) (n : ℕ) (a b : LegAnswer) → b ≡ a → TouchesJoining t n a t' → Touches t n b t'
joining_touches t t' n a b e h = subst (λ z. Touches t n z t') (sym e) (by a h)
  where
    by : (a : LegAnswer) → TouchesJoining t n a t' → Touches t n a t'
    by (answer.Joined on) h = h
    by answer.Trapped h = h
    by (answer.Waits on) h = h
    by answer.Twice h = h
    by (answer.Forked k) h = absurd h
    by answer.Ended h = absurd h
    by answer.NoSuch h = absurd h
    by answer.Over h = absurd h

-- behind the instructions of its leg
pub then_joining : (t u t' : Table) (n : ℕ) (a : LegAnswer) → IsSameBut t n u → TouchesJoining u n a t'
    → TouchesJoining t n a t'
then_joining t u t' n (answer.Joined on) h k = then_stays t.slots.items u.slots.items t'.slots.items n h.0 k
then_joining t u t' n answer.Trapped h k = then_stays t.slots.items u.slots.items t'.slots.items n h.0 k
then_joining t u t' n answer.Twice h k = then_stays t.slots.items u.slots.items t'.slots.items n h.0 k
then_joining t u t' n (answer.Waits on) h k = (λ m apart. k.0 m apart ∙ h.0 m apart, k.1 ∙ h.1)
then_joining t u t' n (answer.Forked k') h k = absurd k
then_joining t u t' n answer.Ended h k = absurd k
then_joining t u t' n answer.NoSuch h k = absurd k
then_joining t u t' n answer.Over h k = absurd k

pub ends_touch : (t t' : Table) (n : ℕ) (f : Finish) → OthersStay t.slots.items n t'.slots.items
    → Touches t n (ends_with f) t'
ends_touch t t' n finish.Done h = h
ends_touch t t' n (finish.Trapped x) h = h

-- ---- all answers

pub touches_so : (t t' : Table) (n : ℕ) (a b : LegAnswer) → b ≡ a → Touches t n a t' → Touches t n b t'
touches_so t t' n a b e h = subst (λ z. Touches t n z t') (sym e) h

pub touches_stays : (t t' : Table) (n : ℕ) (a : LegAnswer) → Touches t n a t'
    → OthersStay t.slots.items n t'.slots.items
touches_stays t t' n (answer.Forked k) h = h
touches_stays t t' n (answer.Joined k) h = h
touches_stays t t' n answer.Ended h = h
touches_stays t t' n answer.Trapped h = h
touches_stays t t' n answer.Twice h = h
touches_stays t t' n (answer.Waits k) h = but_stays t t' n h
touches_stays t t' n answer.NoSuch h = same_stays t t' n h
touches_stays t t' n answer.Over h = same_stays t t' n h

-- ---- worlds

in_live : (t t' : Table) (n : ℕ) (a : LegAnswer) → Touches t n a t' → TouchesIn (world.Live t) n a (world_after t' a)
in_live t t' n answer.Twice h = tt
in_live t t' n (answer.Forked k) h = h
in_live t t' n (answer.Joined k) h = h
in_live t t' n answer.Ended h = h
in_live t t' n answer.Trapped h = h
in_live t t' n (answer.Waits k) h = h
in_live t t' n answer.NoSuch h = h
in_live t t' n answer.Over h = h

pub touches_in : (v v' : rust.World) (t t' : Table) (n : ℕ) (a : LegAnswer) → v ≡ world.Live t → v' ≡ world_after t' a
    → Touches t n a t' → TouchesIn v n a v'
touches_in v v' t t' n a e is h =
    subst (λ z. TouchesIn z n a v') (sym e) (subst (λ z. TouchesIn (world.Live t) n a z) (sym is) (in_live t t' n a h))

pub touches_twice : (v v' : rust.World) (n : ℕ) (a : LegAnswer) → v ≡ world.Twice → TouchesIn v n a v'
touches_twice v v' n a e = subst (λ z. TouchesIn z n a v') (sym e) tt
