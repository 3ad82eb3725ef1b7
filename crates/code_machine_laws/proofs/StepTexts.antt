-- Texts grow, wherever steps lead.
use Rattle.std.proofs.Common.{◌≡◌, ◌∙◌, ℕ, List, [], ◌++◌, sym, ap, append-nil, append_assoc}
use Rattle.rev_code.specs.State.{State, Setting}
use Rattle.rev_code.specs.Step.{Comes, goes, traps, forks, joins, ends, stuck, reach}
use Rattle.code_machine_laws.specs.Forms.{Grows, Says, ComesTo, to_next, to_write, to_payment, to_trap, to_fork, to_join, to_end, to_nothing}
use Rattle.code_machine_laws.proofs.Forms.{holds_of_reach}

pub grows_none : (a : List ℕ) → Grows a a
grows_none a = ([], sym (append-nil a))

pub grows_same : (a b : List ℕ) → a ≡ b → Grows a b
grows_same a b e = ([], sym e ∙ sym (append-nil a))

pub grows_on : (a b c : List ℕ) → Grows a b → Grows b c → Grows a c
grows_on a b c (x, e) (y, f) = (x ++ y, f ∙ ap (λ z. z ++ y) e ∙ append_assoc a x y)

module _ {H : Type 0} where
  pub later : (a b : List ℕ) (o : Comes H) → Grows a b → Says b o → Says a o
  later a b (goes e) h k = grows_on a b e.text h k
  later a b (traps e x) h k = grows_on a b e.text h k
  later a b (forks e n args) h k = grows_on a b e.text h k
  later a b (joins e try m) h k = grows_on a b e.text h k
  later a b (ends e w) h k = grows_on a b e.text h k
  later a b stuck h k = tt

module _ {H : Type 0} (s : Setting H) where
  form_says : (c : State H) (o : Comes H) → ComesTo s c o → Says c.text o
  form_says c o (to_next block at locals stack below text grows) = grows
  form_says c o (to_write rest l w) = grows_none c.text
  form_says c o (to_payment line fuel e) = grows_none c.text
  form_says c o (to_trap line e) = grows_none c.text
  form_says c o (to_fork n body args is e) = grows_none c.text
  form_says c o (to_join try h rest e) = grows_none c.text
  form_says c o (to_end w) = grows_none c.text
  form_says c o to_nothing = tt

  pub reach_says : (k : ℕ) (c : State H) → Says c.text (reach s k c)
  reach_says = holds_of_reach s (λ c o. Says c.text o) form_says (λ c d o h k. later c.text d.text o h k)
