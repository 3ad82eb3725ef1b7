-- A small program that keeps the rules on funs is accepted exactly where it is well typed.
use Rattle.std.proofs.Common.{◌≡◌, []}
use Rattle.rev_syntax.specs.Trees.{ProgramTree}
use Rattle.rev_syntax.specs.Small.{IsSmall}
use Rattle.typed_programs.specs.FunRules.{fun_faults}
use Rattle.typed_programs.specs.Accepted.{IsWellTyped}
use Rattle.typed_programs.specs.Laws.{Typed, Accepts}
use Rattle.typed_programs.specs.Program.{faults}
use Rattle.typed_programs.proofs.DeclsSound.{program_typed}
use Rattle.typed_programs.proofs.DeclsWithin.{program_within, program_accepts}

pub well_typed : Typed
well_typed p small u h = record { typed = program_typed p small u h; within = program_within p h }

pub accepts : Accepts
accepts p h = program_accepts p h.typed h.within

-- what is accepted is well typed, if it is small
pub kept_typed : (p : ProgramTree) → fun_faults p ≡ [] → faults p ≡ [] → IsSmall p → IsWellTyped p
kept_typed p u h small = well_typed p small u h
