-- Instructions, legs and joins keep the snapshot of a revision, and no instruction gives it fuel.
use Rattle.std.proofs.Common.{◌≡◌, ◌∙◌, ℕ, zero, suc, ◌≤◌, Bool, true, false, List, [], ◌∷◌, Ok, Err, refl, ap, arith}
use Rattle.rev_code.specs.Words.{Word}
use Rattle.rev_code.specs.State.{Location, State, Setting, written_at}
use Rattle.rev_code.specs.Step.{Comes, goes, traps, forks, joins, ends, stuck}
use Rattle.code_machine_laws.specs.Forms.{ComesTo, to_next, to_write, to_payment, to_trap, to_fork, to_join, to_end, to_nothing}
use Rattle.code_machine_laws.proofs.Forms.{holds_of_reach}
use Rattle.version_map.specs.Composing.{Entry, Composition, composed}
pub use Rattle.code_machine.proofs.Legs.{accepted, no_longer}
use Rattle.code_machine.specs.Local.{CodeRun, Phase, running, done, trapped, Trap, Local, End, end_of}
pub use Rattle.code_machine.specs.Local.{under}
use Rattle.code_machine.specs.Leg.{leg}
pub use Rattle.code_machine.specs.Leg.{clock}
use Rattle.code_machine.specs.Joining.{merges, mains, written_all, absorb, inherit, join_in, join_end, join}
use Rattle.code_machine_laws.specs.Reached.{snapshots}

-- the second has the snapshot of the first, and no more fuel
abbrev pub IsKept : {H : Type 0} → State H → State H → Type 0
IsKept c d = (snapshots d.locations ≡ snapshots c.locations) × (d.fuel ≤ c.fuel)

abbrev pub Keeps : {H : Type 0} → State H → Comes H → Type 0
Keeps c (goes d) = IsKept c d
Keeps c (traps d e) = IsKept c d
Keeps c (forks d n args) = IsKept c d
Keeps c (joins d try h) = IsKept c d
Keeps c (ends d w) = IsKept c d
Keeps c stuck = Unit {0}

written_keeps : {H : Type 0} (ls : List (Location H)) (n : ℕ) (w : Word H)
    → snapshots (written_at ls n w) ≡ snapshots ls
written_keeps [] n w = refl
written_keeps (l ∷ ls) zero w = refl
written_keeps (l ∷ ls) (suc n) w = ap (λ xs. l.snapshot ∷ xs) (written_keeps ls n w)

-- ---- instructions and legs

then_kept : {H : Type 0} (a b c : State H) → IsKept a b → IsKept b c → IsKept a c
then_kept a b c h k = let x = h.1 in let y = k.1 in (k.0 ∙ h.0, omega (arith, x, y))

module _ {H : Type 0} (s : Setting H) where
  form_keeps : (c : State H) (o : Comes H) → ComesTo s c o → Keeps c o
  form_keeps c o (to_next block at locals stack below text grows) = (refl, omega arith)
  form_keeps c o (to_write rest l w) = (written_keeps c.locations l w, omega arith)
  form_keeps c o (to_payment line fuel e) = (refl, omega (arith, e))
  form_keeps c o (to_trap line e) = (refl, omega arith)
  form_keeps c o (to_fork n body args is e) = (refl, omega arith)
  form_keeps c o (to_join try h rest e) = (refl, omega arith)
  form_keeps c o (to_end w) = (refl, omega arith)
  form_keeps c o to_nothing = tt

  later : (c d : State H) (o : Comes H) → IsKept c d → Keeps d o → Keeps c o
  later c d (goes e) h k = then_kept c d e h k
  later c d (traps e x) h k = then_kept c d e h k
  later c d (forks e n args) h k = then_kept c d e h k
  later c d (joins e try m) h k = then_kept c d e h k
  later c d (ends e w) h k = then_kept c d e h k
  later c d stuck h k = tt

pub leg_keeps : {H : Type 0} (g : CodeRun) (c : State H) → Keeps c (leg g c)
leg_keeps g c = holds_of_reach (under g) Keeps (form_keeps (under g)) (later (under g)) (clock g c) c

-- ---- joins

module _ {H : Type 0} where
  all_keep : (ls : List (Location H)) (es : List (Entry (Word H))) (ws : List (Word H))
      → snapshots (written_all ls es ws) ≡ snapshots ls
  all_keep ls [] ws = refl
  all_keep ls (e ∷ es) [] = refl
  all_keep ls (e ∷ es) (w ∷ ws) = all_keep (written_at ls e.location w) es ws ∙ written_keeps ls e.location w

  abbrev Same : State H → Local H → Type 0
  Same c l = snapshots l.state.locations ≡ snapshots c.locations

  absorb_same : (c : State H) (try : Bool) (h : H) (j : End H) (o : Composition (Word H)) → Same c (absorb c try h j o)
  absorb_same c try h j (Ok ws) = all_keep c.locations j.written ws
  absorb_same c try h j (Err f) = refl

  inherit_same : (c : State H) (try : Bool) (h : H) (t : Trap H) → Same c (inherit c try h t)
  inherit_same c true h t = refl
  inherit_same c false h t = refl

  in_same : (g : CodeRun) (c : State H) (try : Bool) (h : H) (j : End H) (p : Phase H) → Same c (join_in g c try h j p)
  in_same g c try h j done = absorb_same c try h j (composed (merges g) (mains c.locations j.written) j.written)
  in_same g c try h j (trapped t) = inherit_same c try h t
  in_same g c try h j running = refl

  end_same : (g : CodeRun) (l : Local H) (o : Comes H) (j : End H) → Keeps l.state o → Same l.state (join_end g l o j)
  end_same g l (joins c try h) j k = in_same g c try h j j.phase ∙ k.0
  end_same g l (goes c) j k = refl
  end_same g l (traps c e) j k = refl
  end_same g l (forks c n args) j k = refl
  end_same g l (ends c w) j k = refl
  end_same g l stuck j k = refl

pub join_keeps : {H : Type 0} (g : CodeRun) (l j : Local H)
    → snapshots (join g l j).state.locations ≡ snapshots l.state.locations
join_keeps g l j = end_same g l (leg g l.state) (end_of j) (leg_keeps g l.state)
