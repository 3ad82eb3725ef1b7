-- How a contract sees a setting.
use Rattle.rev_syntax.specs.View.{program as whole}
use Rattle.revision_calculus.specs.Program as calculus
use Rattle.revision_state.specs.declared.setting.Setting.{Setting}

-- the calculus' setting
abbrev pub given : Setting → calculus.Setting
given s = record { program = whole s.typed.now.expanded.program; inputs = s.input.now; share = s.share }
