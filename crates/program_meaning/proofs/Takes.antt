-- What an instruction that takes a word changes.
--   few_empty       there is none where the stack is empty
--   few_forks       it keeps the number of forks
--   few_kept        if it does not store to a location, it keeps all but place, stack and locals
use Rattle.std.proofs.Common.{◌≡◌, ◌∙◌, ℕ, Bool, true, false, cond, List, [], ◌∷◌, Option, Some, None, refl, sym, ap, subst, true≢false}
use Rattle.std.specs.Prelude.{slice_get}
use Rattle.rev_num.specs.Path.{Path}
use Rattle.rev_num.specs.declared.value.ValueKind.{ValueKind}
use Rattle.rev_num.specs.Value.{same_kind}
use Rattle.rev_code.specs.declared.code.Instr.{Instr}
use Rattle.rev_code.specs.declared.code.Instr.TheVariants as i
use Rattle.rev_code.specs.declared.code.CodeBlock.{CodeBlock}
use Rattle.rev_code.specs.Words.{Word, kind_of}
use Rattle.rev_code.specs.State.{State}
use Rattle.rev_code.specs.Variables.{Place, scalar}
use Rattle.rev_code.specs.Step.{goes, stuck, into_local, into_scalar, pop, act, act_at, act_in, step}
use Rattle.expression_meaning.specs.Places.{Tables}
use Rattle.program_meaning.specs.Steps.{Takes, Few, nowhere, takes}

-- all but place, stack and locals
abbrev pub Keeps : State Path → State Path → Type 0
Keeps a c =
    (c.locations ≡ a.locations) × (c.fuel ≡ a.fuel) × (c.forks ≡ a.forks) × (c.listed ≡ a.listed)
    × (c.text ≡ a.text) × (c.line ≡ a.line)

-- it stores to no location
abbrev pub is_plain : Instr → Bool
is_plain (i.StoreShared v) = false
is_plain _ = true

same_state : (a c : State Path) → goes a ≡ goes c → a ≡ c
same_state a c e = cc

module _ (a c : State Path) where
  no_step : stuck ≡ goes c → ⊥
  no_step e = cc

  -- ---- with an empty stack

  local_stuck : (n : ℕ) (o : Option ValueKind) → into_local a n o [] ≡ goes c → ⊥
  local_stuck n None e = no_step e
  local_stuck n (Some k) e = no_step e

  scalar_stuck : (o : Option Place) → into_scalar a o [] ≡ goes c → ⊥
  scalar_stuck None e = no_step e
  scalar_stuck (Some p) e = no_step e

  -- ---- what is kept

  kept : (d : State Path) → Keeps a d → goes d ≡ goes c → Keeps a c
  kept d h e = subst (Keeps a) (same_state d c e) h

  local_if : (d : Bool) (x : State Path) → Keeps a x → cond d (goes x) stuck ≡ goes c → Keeps a c
  local_if true x h e = kept x h e
  local_if false x h e = absurd (no_step e)

  local_kept : (n : ℕ) (o : Option ValueKind) (ws : List (Word Path)) → into_local a n o ws ≡ goes c → Keeps a c
  local_kept n None [] e = absurd (no_step e)
  local_kept n None (w ∷ ws) e = absurd (no_step e)
  local_kept n (Some k) [] e = absurd (no_step e)
  local_kept n (Some k) (w ∷ ws) e = local_if (same_kind k (kind_of w)) _ (refl, refl, refl, refl, refl, refl) e

  pop_kept : (ws : List (Word Path)) → pop a ws ≡ goes c → Keeps a c
  pop_kept [] e = absurd (no_step e)
  pop_kept (w ∷ ws) e = kept _ (refl, refl, refl, refl, refl, refl) e

  forks_if : (d : Bool) (x : State Path) → x.forks ≡ a.forks → cond d (goes x) stuck ≡ goes c → c.forks ≡ a.forks
  forks_if true x h e = subst (λ z. z.forks ≡ a.forks) (same_state x c e) h
  forks_if false x h e = absurd (no_step e)

  scalar_forks : (o : Option Place) (ws : List (Word Path)) → into_scalar a o ws ≡ goes c → c.forks ≡ a.forks
  scalar_forks None [] e = absurd (no_step e)
  scalar_forks None (w ∷ ws) e = absurd (no_step e)
  scalar_forks (Some p) [] e = absurd (no_step e)
  scalar_forks (Some p) (w ∷ ws) e = forks_if (same_kind p.var.kind (kind_of w)) _ refl e

module _ (g : Tables) (a c : State Path) where
  -- what the instruction at the place of `a` comes to
  acts : (b : CodeBlock) (x : Instr) → slice_get g.setting.code.blocks a.block ≡ Some b
      → slice_get b.instrs a.at ≡ Some x → step g.setting a ≡ goes c → act g.setting b a x ≡ goes c
  acts b x is here e = sym (ap (act_in g.setting a) is ∙ ap (act_at g.setting b a) here) ∙ e

  empty_stuck : (b : CodeBlock) (x : Instr) → a.stack ≡ [] → Takes x → act g.setting b a x ≡ goes c → ⊥
  empty_stuck b (i.StoreLocal n) empty t e =
      local_stuck a c n (slice_get b.locals n) (sym (ap (into_local a n (slice_get b.locals n)) empty) ∙ e)
  empty_stuck b (i.StoreShared v) empty t e =
      scalar_stuck a c (scalar g.setting.code.vars v)
      (sym (ap (into_scalar a (scalar g.setting.code.vars v)) empty) ∙ e)
  empty_stuck b i.Pop empty t e = no_step a c (sym (ap (pop a) empty) ∙ e)
  empty_stuck b _ empty t e = absurd t

  pub few_empty : a.stack ≡ [] → Few g a c → a ≡ c
  few_empty empty (nowhere e) = e
  few_empty empty (takes b x is here t e) = absurd (empty_stuck b x empty t (acts b x is here e))

  taken_forks : (b : CodeBlock) (x : Instr) → Takes x → act g.setting b a x ≡ goes c → c.forks ≡ a.forks
  taken_forks b (i.StoreLocal n) t e = (local_kept a c n (slice_get b.locals n) a.stack e).2
  taken_forks b (i.StoreShared v) t e = scalar_forks a c (scalar g.setting.code.vars v) a.stack e
  taken_forks b i.Pop t e = (pop_kept a c a.stack e).2
  taken_forks b _ t e = absurd t

  pub few_forks : Few g a c → c.forks ≡ a.forks
  few_forks (nowhere e) = ap (λ z. z.forks) (sym e)
  few_forks (takes b x is here t e) = taken_forks b x t (acts b x is here e)

  taken_kept : (b : CodeBlock) (x : Instr) → is_plain x ≡ true → Takes x → act g.setting b a x ≡ goes c → Keeps a c
  taken_kept b (i.StoreLocal n) plain t e = local_kept a c n (slice_get b.locals n) a.stack e
  taken_kept b (i.StoreShared v) plain t e = absurd (true≢false (sym plain))
  taken_kept b i.Pop plain t e = pop_kept a c a.stack e
  taken_kept b _ plain t e = absurd t

  -- but for locations
  pub few_kept : (b : CodeBlock) (x : Instr) → is_plain x ≡ true → slice_get g.setting.code.blocks a.block ≡ Some b
      → slice_get b.instrs a.at ≡ Some x → Takes x → step g.setting a ≡ goes c → Keeps a c
  few_kept b x plain is here t e = taken_kept b x plain t (acts b x is here e)
