-- What the limits on tables say of blocks.
use Rattle.std.proofs.Common.{◌≡◌, ◌^◌, ◌<◌, ◌≤◌, true, length, arith}
use Rattle.rev_code.specs.declared.code.Code.{Code}
use Rattle.code_rules.specs.Tables as tables
use Rattle.code_rules.proofs.Limits.{small_block, small_parts}
use Rattle.code_soundness.proofs.Lists.{all_at}
use Rattle.code_verifier.specs.Verdicts.{AllSmall}

pub all_small : (code : Code) → tables.is_small code ≡ true → AllSmall code.blocks
all_small code h n b e =
    let s = small_block b (all_at tables.is_small_block code.blocks n b (small_parts code h).each_block e) in
    let i : length b.instrs ≤ 4294967295 = s.1 in
    (s.0, omega (arith, i))

pub few_blocks : (code : Code) → tables.is_small code ≡ true → length code.blocks < 2 ^ 32
few_blocks code h = let n : length code.blocks ≤ 65535 = (small_parts code h).blocks in omega (arith, n)
