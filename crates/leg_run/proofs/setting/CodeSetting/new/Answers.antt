-- Answers of CodeSetting::new: code without a fault is accepted, so its table can be made.
use Rattle.code_soundness.proofs.Accepting.{no_fault_accepted}
use Rattle.leg_run.proofs.setting.CodeSetting.new.Goals as goal

pub table_of-requires : goal.table_of-requires
table_of-requires c = no_fault_accepted c.args.code c.requires.faultless
