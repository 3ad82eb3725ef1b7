-- What the limits on code say of its tables.
--   small_parts   each limit, where all are kept
--   small_block   the limits of one block
use Rattle.std.proofs.Common.{◌≡◌, ◌≤◌, ℕ, true, length, arith}
use Rattle.std.specs.Prelude.{nat_le}
use Rattle.std.specs.List.{list_all}
use Rattle.std.proofs.lemmas.Bool.Decides.{nat_tests}
use Rattle.rev_num.proofs.Lists.{and_left, and_right}
use Rattle.rev_code.specs.declared.code.Code.{Code}
use Rattle.rev_code.specs.declared.code.CodeBlock.{CodeBlock}
use Rattle.code_rules.specs.Tables as tables

pub record Limits (code : Code) : Type 0 where
  pub locations : tables.locations code.vars ≤ 4096
  pub blocks : length code.blocks ≤ 65535
  pub each_block : list_all tables.is_small_block code.blocks ≡ true
  pub each_layout : list_all tables.is_small_layout code.layouts ≡ true
  pub vars : length code.vars ≤ 65535
  pub names : list_all tables.has_small_name code.vars ≡ true
  pub texts : length code.texts ≤ 4294967295
  pub each_text : list_all tables.is_small_text code.texts ≡ true
  pub layouts : length code.layouts ≤ 4294967295

within : (n m : ℕ) → nat_le n m ≡ true → n ≤ m
within n m h = grind (arith, nat_tests)

pub small_parts : (code : Code) → tables.is_small code ≡ true → Limits code
small_parts code h =
    let a = and_left _ (nat_le (length code.layouts) 4294967295) h in
    let b = and_left _ (list_all tables.is_small_text code.texts) a in
    let c = and_left _ (nat_le (length code.texts) 4294967295) b in
    let d = and_left _ (list_all tables.has_small_name code.vars) c in
    let e = and_left _ (nat_le (length code.vars) 65535) d in
    let f = and_left _ (list_all tables.is_small_layout code.layouts) e in
    let g = and_left _ (list_all tables.is_small_block code.blocks) f in
    let i = and_left _ (nat_le (length code.blocks) 65535) g in
    let j = and_left _ _ i in
    let k = and_left _ _ j in
    record {
      locations = within (tables.locations code.vars) 4096 k;
      blocks = within (length code.blocks) 65535 (and_right _ (nat_le (length code.blocks) 65535) g);
      each_block = and_right _ (list_all tables.is_small_block code.blocks) f;
      each_layout = and_right _ (list_all tables.is_small_layout code.layouts) e;
      vars = within (length code.vars) 65535 (and_right _ (nat_le (length code.vars) 65535) d);
      names = and_right _ (list_all tables.has_small_name code.vars) c;
      texts = within (length code.texts) 4294967295 (and_right _ (nat_le (length code.texts) 4294967295) b);
      each_text = and_right _ (list_all tables.is_small_text code.texts) a;
      layouts = within (length code.layouts) 4294967295 (and_right _ (nat_le (length code.layouts) 4294967295) h);
    }

pub small_block : (b : CodeBlock) → tables.is_small_block b ≡ true
    → (length b.locals ≤ 64) × (length b.instrs ≤ 4294967295)
small_block b h =
    let i = and_right _ (nat_le (length b.instrs) 4294967295) h in
    let l = and_right (nat_le b.params 8) (nat_le (length b.locals) 64)
    (and_left _ (nat_le (length b.instrs) 4294967295) h) in
    (within (length b.locals) 64 l, within (length b.instrs) 4294967295 i)
