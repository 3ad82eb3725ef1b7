-- Answers of world_laws: three lemmas, that each world has a trace, that main ends it, and that two agree.
use Rattle.code_traces.proofs.Last.{ends_in_main}
use Rattle.code_traces.proofs.Worlds.{has_trace, one_trace}
use Rattle.code_traces.proofs.laws.world_laws.Goals as goal

pub returns-clause-each : goal.returns-clause-each
returns-clause-each c = λ g ok n m fuel. has_trace g ok n m fuel

pub returns-clause-main : goal.returns-clause-main
returns-clause-main c = ends_in_main

pub returns-clause-same : goal.returns-clause-same
returns-clause-same c = λ g ok n m fuel. one_trace g ok n m fuel
