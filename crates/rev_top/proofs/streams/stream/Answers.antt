-- Answers of stream: what was read is a program that keeps the affine rule, or a refusal, which is delivered.
use Rattle.rev_syntax.specs.View.{program as whole}
use Rattle.typed_programs.specs.declared.typed.Typed.{Typed}
use Rattle.rev_top.proofs.StreamAnswers.{read_affine, refused, streamed}
use Rattle.rev_top.proofs.streams.stream.Goals as goal

pub returns-in-Ok-clause-happened : goal.returns-in-Ok-clause-happened
returns-in-Ok-clause-happened g c =
    streamed c.args.words.now c.requires.mode _ _ (whole c.in-Ok.typed.expanded.program) c.in-Ok.ensures.meets
    c.stream_program.ensures

pub returns-in-Err-clause-happened : goal.returns-in-Err-clause-happened
returns-in-Err-clause-happened g c =
    refused c.args.words.now c.requires.mode _ _ (λ (t : Typed). whole t.expanded.program) c.in-Err.stop
    c.in-Err.ensures.meets c.refuse.ensures

pub stream_program-requires-clause-affine : goal.stream_program-requires-clause-affine
stream_program-requires-clause-affine g c = read_affine _ _ (whole c.in-Ok.typed.expanded.program) c.in-Ok.ensures.meets
