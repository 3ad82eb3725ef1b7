-- `main` at the start stands for the definition's, alone in its world.
use Rattle.std.proofs.Common.{◌≡◌, ◌∙◌, ℕ, zero, suc, ◌+◌, ◌-◌, ◌≤◌, true, not, ◌&&◌, List, [], ◌∷◌, length, Some, refl, sym, ap, subst, arith, true≢false}
use Rattle.std.specs.Prelude.{slice_get}
use Rattle.std.specs.List.{list_all}
use Rattle.rev_code.specs.declared.code.CodeBlock.{CodeBlock}
use Rattle.code_rules.specs.Tables as rules
use Rattle.code_rules.specs.Tables.{is_main, ends_in_main, is_block}
use Rattle.code_soundness.proofs.Lists.{and_parts}
use Rattle.revision_machine.specs.Machine.{Plain}
use Rattle.revision_machine.specs.Numbered.{at_number}
use Rattle.code_machine.specs.Local.{CodeRun, IsVerified}
use Rattle.code_machine.specs.Machines.{IsMain, start_in}
use Rattle.code_machine.proofs.Legs.{accepted}
use Rattle.code_world.specs.declared.table.Birth.{Birth}
use Rattle.code_world.specs.declared.table.Table.{Table}
use Rattle.code_world.specs.Starts.{IsFirst, IsAlone}
use Rattle.code_world.specs.Slots.{WholeRunner}
use Rattle.code_world.specs.Tables.{AreSlots, AreForks, AreNamed, HasPath, forks_of, IsTable}
use Rattle.code_world.proofs.Rows.{none_some}

-- ---- the block of `main`

pub record IsLast (bs : List CodeBlock) : Type 0 where
  pub some : 1 ≤ length bs
  pub body : CodeBlock
  pub is : slice_get bs (length bs - 1) ≡ Some body
  pub class : is_main body.class ≡ true

last_block : (bs : List CodeBlock) → ends_in_main bs ≡ true → IsLast bs
last_block [] e = absurd (true≢false (sym e))
last_block (b ∷ []) e = record { some = omega arith; body = b; is = refl; class = e }
last_block (b ∷ c ∷ bs) e = by (last_block (c ∷ bs) (and_parts (not (is_main b.class)) (ends_in_main (c ∷ bs)) e).1)
  where
    by : IsLast (c ∷ bs) → IsLast (b ∷ c ∷ bs)
    by l = record {
      some = omega arith;
      body = l.body;
      is = (let z : length (b ∷ c ∷ bs) - 1 ≡ suc (length (c ∷ bs) - 1) = omega arith in
          ap (slice_get (b ∷ c ∷ bs)) z ∙ l.is);
      class = l.class;
    }

module _ (g : CodeRun) (ok : IsVerified g) where
  ends : ends_in_main g.code.blocks ≡ true
  ends =
      let p = and_parts (rules.blocks_well g.code && list_all (rules.is_var g.code) g.code.vars)
      (rules.lines_well g.code) (accepted g ok).named in
      let q = and_parts (rules.blocks_well g.code) (list_all (rules.is_var g.code) g.code.vars) p.0 in
      (and_parts (ends_in_main g.code.blocks) (list_all is_block g.code.blocks) q.0).0

  pub last : IsLast g.code.blocks
  last = last_block g.code.blocks ends

  abbrev pub main_number : ℕ
  main_number = length g.code.blocks - 1

  pub main : IsMain g (length g.code.blocks - 1)
  main = record { body = last.body; is = last.is; class = last.class }

-- ---- the world at the start

pub alone : (g : CodeRun) (fuel : ℕ) (r : WholeRunner) (f : IsFirst g fuel r) (t : Table) → IsAlone r t
    → IsTable g t (([], Plain (start_in g f.number f.main.body fuel)) ∷ [])
alone g fuel r f t a = record {
  slots = subst (λ ss. AreSlots g ss (([], Plain (start_in g f.number f.main.body fuel)) ∷ [])) (sym a.slots)
      ((_, refl, f.runs), tt);
  forks = subst (λ bs. AreForks bs (([], Plain (start_in g f.number f.main.body fuel)) ∷ [])) (sym a.births) (refl, tt);
  named = subst (λ bs. AreNamed bs ([] ∷ [])) (sym a.births) named;
  counted = subst (λ bs. forks_of bs + 1 ≡ length bs) (sym a.births) (omega arith);
}
  where
    named : (n : ℕ) (b : Birth) → at_number (record { forker = 0; place = 0; forks = 0 } ∷ []) n ≡ Some b
        → HasPath ([] ∷ []) n b
    named zero b e = refl
    named (suc n) b e = none_some e
