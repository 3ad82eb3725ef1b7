-- What a `VerifiedRun` runs.
use Rattle.code_machine.specs.Local.{CodeRun}
use Rattle.code_machine_laws.specs.declared.run.VerifiedRun.{VerifiedRun}

abbrev pub run_of : VerifiedRun → CodeRun
run_of v = record { code = v.code; inputs = v.inputs; share = v.share }
