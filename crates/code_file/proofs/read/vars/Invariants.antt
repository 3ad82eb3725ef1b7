-- Loops of vars: reading the variables left is reading all; the locations of those read are counted and bounded.
use Rattle.std.proofs.Common.{◌≡◌, ◌-◌, ◌*◌, ◌≤◌, []}
use Rattle.code_rules.specs.Tables.{locations}
use Rattle.code_file.specs.Fields.{more}
use Rattle.code_file.specs.Reads.{var}
use Rattle.code_file.proofs.read.vars.Given as goal

abbrev pub invariant-loop-turn : goal.invariant-loop-turn
invariant-loop-turn l = record {
  rest : more l.count (λ done. var l.wide (locations done)) [] l.fn.cursor.whole l.initial.cursor.rest.now
      ≡ more (l.count - l._turn) (λ done. var l.wide (locations done)) l.parts.items l.cursor.whole l.cursor.rest.now;
  whole : l.cursor.whole ≡ l.fn.cursor.whole;
  before : l.before ≡ locations l.parts.items;
  bound : l.before ≤ l._turn * 4294967295;
}
