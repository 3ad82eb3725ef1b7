-- The program of a setting is accepted, and has few locations.
use Rattle.std.proofs.Common.{◌<◌, ◌^◌, length, arith}
use Rattle.typed_programs.proofs.DeclsWithin.{program_within}
use Rattle.revision_calculus.specs.Kinded.{IsAccepted}
use Rattle.revision_state.specs.Views.{given}
use Rattle.revision_state.specs.declared.setting.Setting.{Setting}
use Rattle.audit_rules.specs.Parts.{places}
use Rattle.audit_rules.proofs.CalculusMeets.{places_length}

pub accepted : (t : Setting) → IsAccepted (given t).program
accepted t = record {
  small = t.typed.now.expanded.small;
  funs = t.typed.now.expanded.keeps_rules;
  rules = t.typed.now.well_typed;
}

pub few_places : (t : Setting) → length (places (given t)) < 2 ^ 32
few_places t =
    let few = (program_within (given t).program (accepted t).rules).locations in
    let count = places_length (given t) in
    omega arith
