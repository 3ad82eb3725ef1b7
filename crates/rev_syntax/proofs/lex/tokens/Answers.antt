-- Answers of tokens: each piece that is cut goes behind those before, and one that cannot be is the first fault.
use Rattle.std.proofs.Common.{◌-◌, length, take, drop, inl}
use Rattle.std.proofs.lemmas.Result.{err_from_is_err_and}
use Rattle.rev_syntax.specs.Tokens.{IsFirstFault}
use Rattle.rev_syntax.proofs.Reading.{cut-drop, cut-whole, slice-rest}
use Rattle.rev_syntax.proofs.Unique.{one-list, no-fault, one-fault, first-fault}
use Rattle.rev_syntax.proofs.Spans.{tokens-ascend, tokens-kinds}
use Rattle.rev_syntax.proofs.lex.tokens.Goals as goal

pub loop-at-preserved : goal.loop-at-preserved
loop-at-preserved c =
    let kept = c.in_ok-keep.ensures.ok in
    rw kept (cut-drop c.args.bytes.now c.loop-at.at c.in_ok-cut.cut.length c.in_ok-cut.cut.kind c.loop-at.tokens.items
    c.loop-at.invariant
    (take (length c.args.bytes.now - c.loop-at.at) (drop c.loop-at.at c.args.bytes.now))
    (slice-rest c.args.bytes.now c.loop-at.at)
    c.in_ok-cut.ensures.0 c.in_ok-cut.ensures.2)

pub returns-clause-tokens : goal.returns-clause-tokens
returns-clause-tokens c =
    cut-whole c.args.bytes.now c.loop-at.at c.loop-at.tokens.items c.loop-at-test.false c.loop-at.invariant

pub returns-clause-ascend : goal.returns-clause-ascend
returns-clause-ascend c =
    tokens-ascend c.args.bytes.now c.loop-at.tokens.items
    (cut-whole c.args.bytes.now c.loop-at.at c.loop-at.tokens.items c.loop-at-test.false c.loop-at.invariant)

pub returns-clause-slices : goal.returns-clause-slices
returns-clause-slices c =
    tokens-kinds c.args.bytes.now c.loop-at.tokens.items
    (cut-whole c.args.bytes.now c.loop-at.at c.loop-at.tokens.items c.loop-at-test.false c.loop-at.invariant)

pub returns-clause-only_list : goal.returns-clause-only_list
returns-clause-only_list c = λ us h. one-list c.args.bytes.now c.loop-at.tokens.items us (returns-clause-tokens c) h

pub returns-clause-only_fault : goal.returns-clause-only_fault
returns-clause-only_fault c = λ g h. no-fault c.args.bytes.now c.loop-at.tokens.items g (returns-clause-tokens c) h

stopped : (c : goal.After-drop-tokens) → IsFirstFault c.args.bytes.now c.in_err-cut.field-0.0
stopped c =
    first-fault c.args.bytes.now c.loop-at.at
    (take (length c.args.bytes.now - c.loop-at.at) (drop c.loop-at.at c.args.bytes.now))
    c.loop-at.tokens.items c.in_err-cut.field-0.0 c.loop-at.invariant
    (slice-rest c.args.bytes.now c.loop-at.at) c.in_err-cut.ensures

pub returns-in_err-cut-clause-only_list : goal.returns-in_err-cut-clause-only_list
returns-in_err-cut-clause-only_list c =
    let p = err_from_is_err_and c.from_residual.result c.from_residual.ensures.1 in
    rw (p.1, p.2) (λ us h. absurd (no-fault c.args.bytes.now us c.in_err-cut.field-0.0 h (stopped c)))

pub returns-in_err-cut-clause-only_fault : goal.returns-in_err-cut-clause-only_fault
returns-in_err-cut-clause-only_fault c =
    let p = err_from_is_err_and c.from_residual.result c.from_residual.ensures.1 in
    rw (p.1, p.2) (λ g h. inl (one-fault c.args.bytes.now c.in_err-cut.field-0.0 g (stopped c) h))
