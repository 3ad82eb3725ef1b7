-- Loops of check_block: what is known fits the place, and scanning the instructions left is scanning the whole block.
use Rattle.std.proofs.Common.{◌≡◌, drop, []}
use Rattle.code_rules.specs.Pass.{before, scan}
use Rattle.code_verifier.specs.Passing.{IsReady}
use Rattle.code_verifier.proofs.pass.check_block.Given as goal

abbrev pub invariant-loop-at : goal.invariant-loop-at
invariant-loop-at l = record {
  ready : IsReady l.scope l.at l.known;
  rest : scan l.scope.code.now l.scope.costs.now l.scope.number l.scope.block.now [] l.scope.block.now.instrs
      ≡ scan l.scope.code.now l.scope.costs.now l.scope.number l.scope.block.now
      (before l.scope.code.now l.scope.block.now l.at) (drop l.at l.scope.block.now.instrs);
}
