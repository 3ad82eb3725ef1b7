-- What a value stands for is the state or the end that is a function of it.
use Rattle.std.proofs.Common.{◌≡◌, refl, ℕ, Bool, List, [], ◌∷◌, ◌++◌, sym, ap, ◌∙◌, subst}
use Rattle.rev_code.specs.Words.{Word}
use Rattle.rev_code.specs.State.{State, Listed}
use Rattle.rev_code.specs.State as listed
use Rattle.rev_code.specs.Events as events
use Rattle.version_map.specs.declared.delta.Delta.{Delta}
use Rattle.version_map.specs.declared.end.EndValue.{EndValue}
use Rattle.code_machine.specs.Local.{CodeRun, End}
use Rattle.leg_run.specs.declared.revision.Run.{Run}
use Rattle.rev_vm.specs.Meaning.{IsAtFork, IsAtJoin, IsEnd}
use Rattle.rev_vm.specs.States.{state_at, before_join, end_for}
use Rattle.rev_vm.proofs.Values.{one_state, one_joining, one_end}
use Rattle.run_revision.specs.Forking.{arguments_of, arguments_at, last_named, renamed}
use Rattle.hub_workers.specs.Legs.{IsSameHand}
use Rattle.run_revision.specs.Hands.{HandValue, begins}

module _ (g : CodeRun) (run : Run) (delta : Delta) (base : ℕ → ℕ) (first : Delta) where
  abbrev pub own_state : State ℕ
  own_state = state_at g run delta base first

  pub own_args : (n : ℕ) (c : State ℕ) (args : List (Word ℕ)) → IsAtFork g run delta base first n c args
      → args ≡ arguments_at g own_state
  own_args n c args h =
      sym (ap arguments_of h.forks) ∙ ap (arguments_at g) (one_state g run delta base first c h.stands)

  pub fork_own : (n : ℕ) (c : State ℕ) (args : List (Word ℕ)) → IsAtFork g run delta base first n c args
      → IsAtFork g run delta base first n own_state (arguments_at g own_state)
  fork_own n c args h =
      subst (λ z. IsAtFork g run delta base first n own_state z) (own_args n c args h)
      (subst (λ z. IsAtFork g run delta base first n z args) (one_state g run delta base first c h.stands) h)

  pub join_own : (try : Bool) (on : ℕ) (c : State ℕ) → IsAtJoin g run delta base first try on c
      → IsAtJoin g run delta base first try on (before_join g run delta base first)
  join_own try on c h =
      subst (λ z. IsAtJoin g run delta base first try on z) (one_joining g run delta base first try on c h) h

pub end_own : (g : CodeRun) (j : End ℕ) (v : EndValue) → IsEnd g j v → IsEnd g (end_for g v) v
end_own g j v h = subst (λ z. IsEnd g z v) (one_end g j v h) h

-- ---- a forker and its child's number

last_fork : (n line : ℕ) (xs : List (Listed ℕ))
    → last_named n (xs ++ listed.forked 0 line ∷ []) ≡ xs ++ listed.forked n line ∷ []
last_fork n line [] = refl
last_fork n line (x ∷ []) = refl
last_fork n line (x ∷ y ∷ ys) = ap (λ l. x ∷ l) (last_fork n line (y ∷ ys))

pub renamed_parent : (share : ℕ) (c : State ℕ) (args : List (Word ℕ)) (n : ℕ)
    → renamed (events.parent share c args 0) n ≡ events.parent share c args n
renamed_parent share c args n =
    ap (λ ls. record (events.parent share c args n) { listed = ls }) (last_fork n c.line c.listed)

-- ---- a hand whose spare tables changed

pub same_hand : (a b c : HandValue) → a ≡ b → IsSameHand begins (λ (h : HandValue). h.group) a c
    → IsSameHand begins (λ (h : HandValue). h.group) b c
same_hand a b c is = subst (λ (x : HandValue). IsSameHand begins (λ (h : HandValue). h.group) x c) is
