-- Lists of seats of one hub, and what they leave.
use Rattle.std.proofs.Common.{◌≡◌, ◌≢◌, ◌⊎◌, inl, inr, ⊎_elim, ℕ, ◌+◌, Bool, cond, List, [], ◌∷◌, ◌++◌, map, length, append_assoc, append-nil, arith, Option, Vec, sym, ap, ◌∙◌, refl, eq-eqb, ne_eqb}
use mathlib.Core.Logic.{dite}
use native.Mathlib.Decide.{ℕ_discrete}
use Rattle.std.specs.Global.{Global}
use Rattle.atomic_table.specs.Seated.{TableId}
use Rattle.atomic_table.specs.declared.shared.Seat.{Seat}
use Rattle.hub_core.specs.declared.state.HubState.{HubState}
use Rattle.hub_core.specs.declared.state.HubState.TheVariants.{All, Twice, NoMemory}
use Rattle.hub_core.specs.declared.closing.Round.{Round}
use Rattle.hub_core.specs.Rounds as pure
use Rattle.hub_core.specs.Woven.{triples}
use Rattle.hub_core.specs.Ordered.{all_rounds}
use Rattle.hub_core.specs.Counts.{is_at}
use Rattle.hub_core.proofs.Lists.{total_snoc, total_append}
use Rattle.hub_core.specs.declared.sight.Sight.{Sight}
use Rattle.hub_core.specs.Passes.{named, Pass, AreStartsOf}
use Rattle.hub_core.specs.Views.{either_saw, either_halt}
use Rattle.turn_hub.specs.Seats.{AreOf, AreNew, AreBehind}
use Rattle.turn_hub.specs.Closing.{saw_of, halt_known, held_by}

pub map_more : {B C : Type 0} → (f : B → C) (xs : List B) (y : B) → map f (xs ++ y ∷ []) ≡ map f xs ++ f y ∷ []
map_more f [] y = refl
map_more f (x ∷ xs) y = ap (λ l. f x ∷ l) (map_more f xs y)

pub map_items : {B C : Type 0} → (all front : List B) (x : B) → all ≡ front ++ x ∷ [] → (f : B → C)
    → map f all ≡ map f front ++ f x ∷ []
map_items all front x e f = ap (λ l. map f l) e ∙ map_more f front x

pub no_more_seats : {B : Type 0} → (xs : List B) → length xs ≡ 0 → xs ≡ []
no_more_seats [] e = refl
no_more_seats (x ∷ xs) e = absurd (omega (arith, e))

either_here : (a b : ℕ) → a ≡ 1 → either_saw a b ≡ 1
either_here a b e = ap (λ (c : Bool). cond c 1 b) (eq-eqb a 1 e)

either_there : (a b : ℕ) → a ≢ 1 → either_saw a b ≡ b
either_there a b n = ap (λ (c : Bool). cond c 1 b) (ne_eqb a 1 n)

one_of : (a b : ℕ) → either_saw a b ≡ 1 → (a ≡ 1) ⊎ (b ≡ 1)
one_of a b h = dite (ℕ_discrete a 1) (λ e. inl e) (λ n. inr (sym (either_there a b n) ∙ h))

either_right : (a b : ℕ) → b ≡ 1 → either_saw a b ≡ 1
either_right a b e = dite (ℕ_discrete a 1) (λ h. either_here a b h) (λ n. either_there a b n ∙ e)

either_all : (a : HubState) → either_halt a All ≡ a
either_all All = refl
either_all Twice = refl
either_all NoMemory = refl

either_thrice : (a b c : HubState) → either_halt (either_halt a b) c ≡ either_halt a (either_halt b c)
either_thrice All b c = refl
either_thrice Twice b c = refl
either_thrice NoMemory b c = refl

module _ {S L : Type 0} where
  pub are_more : (id : TableId) (ss : List (Seat S (Sight L))) (s : Seat S (Sight L)) → AreOf id ss → s.table_id ≡ id
      → AreOf id (ss ++ s ∷ [])
  are_more id [] s all one = (one, tt)
  are_more id (x ∷ ss) s all one = (all.0, are_more id ss s all.1 one)

  pub are_front : (id : TableId) (ss : List (Seat S (Sight L))) (s : Seat S (Sight L)) → AreOf id (ss ++ s ∷ [])
      → AreOf id ss × (s.table_id ≡ id)
  are_front id [] s all = (tt, all.0)
  are_front id (x ∷ ss) s all = let r = are_front id ss s all.1 in ((all.0, r.0), r.1)

  pub new_more : (start : Option L) (group : List ℕ) (ss : List (Seat S (Sight L))) (s : Seat S (Sight L))
      → AreNew start group ss
      → (s.me.0.seat.start ≡ start) × (s.me.0.seat.group ≡ group) × (s.me.0.seat.passes ≡ []) × (s.me.0.seat.saw ≡ 0)
      × (s.me.0.seat.halt ≡ All)
      → AreNew start group (ss ++ s ∷ [])
  new_more start group [] s all one = (one.0, one.1, one.2, one.3, one.4, tt)
  new_more start group (x ∷ ss) s all one = (all.0, all.1, all.2, all.3, all.4, new_more start group ss s all.5 one)

  -- and the schedule begins with what one seat more left
  pub behind_more : (log : List ℕ) (ss : List (Seat S (Sight L))) (s : Seat S (Sight L)) → AreBehind log ss
      → AreStartsOf log s.me.0.seat.turns → AreBehind log (ss ++ s ∷ [])
  behind_more log [] s all one = (one, tt)
  behind_more log (x ∷ ss) s all one = (all.0, behind_more log ss s all.1 one)

  saw_split : (ss : List (Seat S (Sight L))) (s : Seat S (Sight L)) → saw_of (ss ++ s ∷ []) ≡ 1
      → (saw_of ss ≡ 1) ⊎ (s.me.0.seat.saw ≡ 1)
  saw_split [] s h = ⊎_elim (λ e. inr e) (λ e. inl e) (one_of s.me.0.seat.saw 0 h)
  saw_split (x ∷ ss) s h =
      ⊎_elim (λ e. inl (either_here x.me.0.seat.saw (saw_of ss) e))
      (λ e. ⊎_elim (λ q. inl (either_right x.me.0.seat.saw (saw_of ss) q)) (λ q. inr q) (saw_split ss s e))
      (one_of x.me.0.seat.saw (saw_of (ss ++ s ∷ [])) h)

  pub saw_last : (a : ℕ) (ss : List (Seat S (Sight L))) (s : Seat S (Sight L))
      → either_saw a (saw_of (ss ++ s ∷ [])) ≡ 1
      → either_saw (either_saw a s.me.0.seat.saw) (saw_of ss) ≡ 1
  saw_last a ss s h =
      ⊎_elim (λ e. either_here (either_saw a s.me.0.seat.saw) (saw_of ss) (either_here a s.me.0.seat.saw e))
      (λ e. ⊎_elim (λ q. either_right (either_saw a s.me.0.seat.saw) (saw_of ss) q)
      (λ q. either_here (either_saw a s.me.0.seat.saw) (saw_of ss) (either_right a s.me.0.seat.saw q))
      (saw_split ss s e))
      (one_of a (saw_of (ss ++ s ∷ [])) h)

  pub saw_first : (ss : List (Seat S (Sight L))) (s : Seat S (Sight L)) → saw_of (ss ++ s ∷ []) ≡ 1
      → either_saw s.me.0.seat.saw (saw_of ss) ≡ 1
  saw_first ss s h =
      ⊎_elim (λ e. either_right s.me.0.seat.saw (saw_of ss) e) (λ e. either_here s.me.0.seat.saw (saw_of ss) e)
      (saw_split ss s h)

  pub halt_last : (ss : List (Seat S (Sight L))) (s : Seat S (Sight L))
      → halt_known (ss ++ s ∷ []) ≡ either_halt s.me.0.seat.halt (halt_known ss)
  halt_last [] s = sym (either_all s.me.0.seat.halt)
  halt_last (x ∷ ss) s =
      ap (λ h. either_halt h x.me.0.seat.halt) (halt_last ss s)
      ∙ either_thrice s.me.0.seat.halt (halt_known ss) x.me.0.seat.halt

  pub halt_next : (a : HubState) (ss : List (Seat S (Sight L))) (s : Seat S (Sight L))
      → either_halt (either_halt a s.me.0.seat.halt) (halt_known ss) ≡ either_halt a (halt_known (ss ++ s ∷ []))
  halt_next a ss s =
      either_thrice a s.me.0.seat.halt (halt_known ss) ∙ ap (either_halt a) (sym (halt_last ss s))

  pub held_more : (n : ℕ) (ss : List (Seat S (Sight L))) (s : Seat S (Sight L))
      → held_by n (ss ++ s ∷ []) ≡ held_by n ss + named n s.me.0.seat.passes
  held_more n ss s = total_snoc (λ (x : Seat S (Sight L)). named n x.me.0.seat.passes) ss s

pub named_both : (n : ℕ) (ps qs : List Pass) → named n (ps ++ qs) ≡ named n ps + named n qs
named_both n ps qs = total_append (λ (p : Pass). is_at n p.0) ps qs

-- the rounds of one list more
pub rounds_more : (lists : List (List pure.Round)) (rs : List pure.Round)
    → all_rounds (lists ++ rs ∷ []) ≡ all_rounds lists ++ rs
rounds_more [] rs = append-nil rs
rounds_more (x ∷ lists) rs =
    ap (λ l. x ++ l) (rounds_more lists rs) ∙ sym (append_assoc x (all_rounds lists) rs)

pub lists_more : (before after : List (Vec Round Global)) (list : Vec Round Global) → after ≡ before ++ list ∷ []
    → all_rounds (map (λ l. triples l.items) after)
    ≡ all_rounds (map (λ l. triples l.items) before) ++ triples list.items
lists_more before after list e =
    ap all_rounds (map_items after before list e (λ l. triples l.items))
    ∙ rounds_more (map (λ l. triples l.items) before) (triples list.items)
