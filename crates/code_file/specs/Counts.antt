-- What the counts and lengths of a file can hold.
use Rattle.std.specs.Prelude.{ℕ, ◌<◌, List, length, All}
use Rattle.rev_code.specs.declared.code.Code.{Code}
use Rattle.rev_code.specs.declared.code.CodeVar.{CodeVar}
use Rattle.rev_code.specs.declared.code.CodeBlock.{CodeBlock}
use Rattle.rev_code.specs.declared.code.LayoutItem.{LayoutItem}
use Rattle.code_rules.specs.Tables.{locations}
use Rattle.code_file.specs.Parts.{tries}

abbrev pub IsShort : List ℕ → Type 0
IsShort text = length text < 4294967296

abbrev pub HasShortName : CodeVar → Type 0
HasShortName v = length v.name < 4294967296

abbrev pub IsShortLayout : List LayoutItem → Type 0
IsShortLayout items = length items < 256

pub record IsShortBlock (b : CodeBlock) : Type 0 where
  pub locals : length b.locals < 256
  pub instrs : length b.instrs < 4294967296

pub record Counted (code : Code) : Type 0 where
  pub vars : length code.vars < 65536
  pub names : All HasShortName code.vars
  pub locations : locations code.vars < 4294967296
  pub texts : length code.texts < 4294967296
  pub each_text : All IsShort code.texts
  pub layouts : length code.layouts < 4294967296
  pub each_layout : All IsShortLayout code.layouts
  pub blocks : length code.blocks < 65536
  pub each_block : All IsShortBlock code.blocks
  pub tries : tries code.blocks < 4294967296
