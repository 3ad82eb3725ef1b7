-- Answers of generate: the emitted code is that of an accepted program.
use Rattle.std.proofs.Common.{◌∙◌, ap}
use Rattle.code_rules.specs.Verdict.{first_fault}
use Rattle.codegen.proofs.Accepted.{accepted}
use Rattle.codegen.proofs.generate.Goals as goal

pub proved-requires : goal.proved-requires
proved-requires c = ap first_fault c.in_ok-code.ensures ∙ accepted c.args.typed.now
