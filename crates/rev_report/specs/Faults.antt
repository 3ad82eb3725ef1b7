-- How messages name what is wrong with a text, with a code file, and with an instruction of code.
use Rattle.std.specs.Prelude.{ℕ, List, codes}
use Rattle.rev_report.specs.declared.fault.TextFault.{TextFault}
use Rattle.rev_report.specs.declared.fault.TextFault.TheVariants as f
use Rattle.rev_report.specs.declared.code_fault.FileFault.{FileFault}
use Rattle.rev_report.specs.declared.code_fault.FileFault.TheVariants as file
use Rattle.rev_report.specs.declared.code_fault.InstructionFault.{InstructionFault}
use Rattle.rev_report.specs.declared.code_fault.InstructionFault.TheVariants as instruction

abbrev pub name_of_fault : TextFault → List ℕ
name_of_fault f.BadByte = codes "bad byte"
name_of_fault f.BadNumber = codes "bad number"
name_of_fault f.OpenText = codes "open text"
name_of_fault f.UnexpectedToken = codes "unexpected token"
name_of_fault f.UnexpectedEnd = codes "unexpected end"
name_of_fault f.TooDeep = codes "nested too deep"
name_of_fault f.UnknownFun = codes "unknown fun"
name_of_fault f.LaterFun = codes "fun declared later"
name_of_fault f.ArgumentCount = codes "wrong number of arguments"
name_of_fault f.UnknownName = codes "unknown name"
name_of_fault f.Redeclared = codes "redeclared name"
name_of_fault f.WrongType = codes "wrong type"
name_of_fault f.WrongCount = codes "wrong count"
name_of_fault f.NoReturn = codes "missing return"
name_of_fault f.Copied = codes "handle copied"
name_of_fault f.Stored = codes "handle stored"
name_of_fault f.UsedTwice = codes "handle used twice"
name_of_fault f.InLoop = codes "handle used in a loop"

abbrev pub name_of_file_fault : FileFault → List ℕ
name_of_file_fault file.Truncated = codes "truncated"
name_of_file_fault file.BadField = codes "bad field"
name_of_file_fault file.Trailing = codes "trailing bytes"

abbrev pub name_of_instruction_fault : InstructionFault → List ℕ
name_of_instruction_fault instruction.BadJump = codes "bad jump"
name_of_instruction_fault instruction.BadOperand = codes "bad operand"
name_of_instruction_fault instruction.StackShape = codes "stack shape"
name_of_instruction_fault instruction.WrongKind = codes "wrong kind"
name_of_instruction_fault instruction.BadLocal = codes "bad local"
name_of_instruction_fault instruction.FallsOff = codes "falls off"
name_of_instruction_fault instruction.OverLimit = codes "over a limit"
