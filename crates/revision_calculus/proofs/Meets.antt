-- The calculus keeps the conditions of the theory of revisions.
use Rattle.std.proofs.Common.{◌≡◌, inl, inr, ℕ, zero, suc, ◌+◌, ◌*◌, List, [], ◌∷◌, ◌++◌, replicate, Option, Some, None, subst, arith}
use Rattle.rev_num.specs.declared.value.ValueKind.{ValueKind}
use Rattle.rev_num.specs.declared.value.ValueKind.TheVariants as kind
use Rattle.rev_num.specs.Path.{Path}
use Rattle.rev_num.specs.declared.value.Value.{Value}
use Rattle.rev_num.specs.declared.value.Value.TheVariants as v
use Rattle.rev_syntax.specs.Trees.{Constant, Declaration, fun, merge, shared, proc}
use Rattle.revision_machine.specs.Machine.{Event, Joins, Ended}
use Rattle.revision_machine.specs.Conditions.{Counts, Handles, HoldsNone, Spends, PaysForks}
use Rattle.typed_programs.specs.Scopes.{cells_of}
use Rattle.typed_programs.specs.Layout.{variables_behind, variables}
use Rattle.revision_calculus.specs.Program.{zero_value, constant_value, first_value, Setting}
use Rattle.revision_calculus.specs.State.{running, joining, fresh, Local}
use Rattle.revision_calculus.specs.Step.{next}
use Rattle.revision_calculus.specs.Join.{join}
use Rattle.revision_calculus.specs.Calculus.{start_values, main, calculus}
use Rattle.revision_calculus.specs.HandlesHeld.{IsHandle, LocationsHold, Holds, in_locations, in_frames, in_phase, weight}
use Rattle.revision_calculus.proofs.Moves.{Moved}
use Rattle.revision_calculus.proofs.Events.{ForkOk, WantOk, EventOk, event_ok, joins_phase, ended_phase}
use Rattle.revision_calculus.proofs.Joining.{JoinOk, join_ok, join_forks}

module _ (s : Setting) where
  pub event : (r : Path) (l : Local) {e : Event Local} → next s r l ≡ e → EventOk r l e
  event r l is = subst (EventOk r l) is (event_ok s r l)

  pub joins_ok : (r q : Path) (l j : Local) → next s r l ≡ Joins q → next s q j ≡ Ended → JoinOk l j (join s r l q j)
  joins_ok r q l j e f =
      let waits = joins_phase s r l q e in
      join_ok s r l q waits.0 waits.1 j (ended_phase s q j f q None).0 (λ k to. (ended_phase s q j f k to).1)

  pub counts : Counts (calculus s)
  counts = record {
    moves = λ r l l' e. let h : Moved l l' = event r l e in h.forks;
    forker = λ r l l' c e. let h : ForkOk r l l' c = event r l e in h.forks;
    forked = λ r l l' c e. let h : ForkOk r l l' c = event r l e in h.none;
    joins = λ r q l j e. join_forks s r l q j;
  }

  pub handles : Handles (calculus s) Holds
  handles = record {
    moves = λ r q l l' e. let h : Moved l l' = event r l e in h.held q;
    forker = λ r q l l' c e. let h : ForkOk r l l' c = event r l e in h.held q;
    forked = λ r q l l' c e. let h : ForkOk r l l' c = event r l e in h.given q;
    wants = λ r q l e. let h : WantOk l q = event r l e in h.held;
    joins = λ r t q l j e f. let h : JoinOk l j (join s r l t j) = joins_ok r t l j e f in h.held q;
  }

  pub spends_fuel : Spends (calculus s) 0 (λ l. l.fuel)
  spends_fuel = record {
    moves = λ r l l' e. let h : Moved l l' = event r l e in let k = h.fuel in omega arith;
    forks = λ r l l' c e. let h : ForkOk r l l' c = event r l e in let k = h.fuel in omega arith;
    wants = λ r q l e. omega arith;
    joins = λ r q l j e f. let h : JoinOk l j (join s r l q j) = joins_ok r q l j e f in let k = h.fuel in omega arith;
  }

  -- a fork is paid with fuel
  pub spends_forks : Spends (calculus s) 0 (λ l. l.fuel + l.forks)
  spends_forks = record {
    moves = λ r l l' e. let h : Moved l l' = event r l e in let k = h.fuel in let n = h.forks in omega arith;
    forks = λ r l l' c e.
        let h : ForkOk r l l' c = event r l e in let k = h.fuel in let n = h.forks in let z = h.none in omega arith;
    wants = λ r q l e. omega arith;
    joins = λ r q l j e f.
        let h : JoinOk l j (join s r l q j) = joins_ok r q l j e f in let k = h.fuel in let n = h.forks in omega arith;
  }

  -- a fork is paid with fuel, whatever the count of forks
  pub pays_forks : PaysForks (calculus s) (λ l. l.fuel)
  pays_forks = record {
    moves = λ r l l' e. let h : Moved l l' = event r l e in h.fuel;
    forks = λ r l l' c e. let h : ForkOk r l l' c = event r l e in h.fuel;
    joins = λ r q l j e f. let h : JoinOk l j (join s r l q j) = joins_ok r q l j e f in h.fuel;
  }

  pub spends_weight : Spends (calculus s) 1 weight
  spends_weight = record {
    moves = λ r l l' e. let h : Moved l l' = event r l e in h.weight;
    forks = λ r l l' c e. let h : ForkOk r l l' c = event r l e in h.weight;
    wants = λ r q l e. let h : WantOk l q = event r l e in h.weight;
    joins = λ r q l j e f. let h : JoinOk l j (join s r l q j) = joins_ok r q l j e f in h.weight;
  }

-- ---- the start holds no handle

-- none of these values is a handle of a revision
abbrev NoHandle : List Value → Type 0
NoHandle [] = Unit {0}
NoHandle (x ∷ xs) = ((q : Path) → IsHandle x q → ⊥) × NoHandle xs

both_none : (xs ys : List Value) → NoHandle xs → NoHandle ys → NoHandle (xs ++ ys)
both_none [] ys p q = q
both_none (x ∷ xs) ys p q = (p.0, both_none xs ys p.1 q)

replicate_none : (n : ℕ) (x : Value) → ((q : Path) → IsHandle x q → ⊥) → NoHandle (replicate n x)
replicate_none zero x no_handle = tt
replicate_none (suc n) x no_handle = (no_handle, replicate_none n x no_handle)

written_none : (x : Value) (q : Path) → IsHandle (constant_value x) q → ⊥
written_none (v.Int n) q e = cc
written_none (v.Bool b) q e = cc
written_none (v.Rev h) q e = cc

zero_none : (k : ValueKind) (q : Path) → IsHandle (zero_value k) q → ⊥
zero_none kind.Int q e = cc
zero_none kind.Bool q e = cc
zero_none kind.Rev q e = cc

first_none : (k : ValueKind) (c : Option Constant) (q : Path) → IsHandle (first_value k c) q → ⊥
first_none k None q e = zero_none k q e
first_none k (Some c) q e = written_none c.value q e

start_none : (before es : List Declaration) → NoHandle (start_values (variables_behind before es))
start_none before [] = tt
start_none before (fun name params result body ∷ es) = start_none (before ++ fun name params result body ∷ []) es
start_none before (merge name m j r body ∷ es) = start_none (before ++ merge name m j r body ∷ []) es
start_none before (proc name params result body ∷ es) = start_none (before ++ proc name params result body ∷ []) es
start_none before (shared x ∷ es) =
    both_none (replicate (cells_of x.size) (first_value x.holds x.first))
    (start_values (variables_behind (before ++ shared x ∷ []) es))
    (replicate_none (cells_of x.size) (first_value x.holds x.first) (first_none x.holds x.first))
    (start_none (before ++ shared x ∷ []) es)

fresh_none : (xs : List Value) (q : Path) → NoHandle xs → LocationsHold (fresh xs) q → ⊥
fresh_none [] q p none = none
fresh_none (x ∷ xs) q p (inl (inl e)) = p.0 q e
fresh_none (x ∷ xs) q p (inl (inr e)) = cc
fresh_none (x ∷ xs) q p (inr h) = fresh_none xs q p.1 h

pub main_holds_none : (s : Setting) (fuel : ℕ) → HoldsNone (calculus s) Holds (main s fuel)
main_holds_none s fuel q (in_locations h) =
    fresh_none (start_values (variables s.program)) q (start_none [] s.program.declarations) h
main_holds_none s fuel q (in_frames (inl none)) = none
main_holds_none s fuel q (in_frames (inr none)) = none
main_holds_none s fuel q (in_phase left e) = let clash : running ≡ joining q left = e in cc

pub main_weight : (s : Setting) (fuel : ℕ) → weight (main s fuel) ≡ 2 * fuel + 1
main_weight s fuel = omega arith
