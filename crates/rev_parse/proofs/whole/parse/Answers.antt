-- Answers of parse: a program with no token left is the text's, and tokens left or a refusal are its fault.
use Rattle.std.proofs.Common.{◌≡◌, Err, arith, rules}
use Rattle.rev_expressions.specs.declared.cursor.TreeFault.TheVariants as f
use Rattle.rev_parse.proofs.Naturals.{natural_tokens}
use Rattle.rev_parse.proofs.OfAnswer.{ok_only, ok_more, err_unexpected, err_too_deep}
use Rattle.rev_parse.proofs.whole.parse.Goals as goal

pub program-found-requires : goal.program-found-requires
program-found-requires c = natural_tokens c.args.bytes.now c.args.tokens.now c.requires.tokens

pub returns-then-left-eq0 : goal.returns-then-left-eq0
returns-then-left-eq0 c =
    let same : c.in_ok-source.source.bytes.now ≡ c.args.bytes.now = search rules in
    ok_only c.args.bytes.now c.in_ok-source.source.bytes.now c.args.tokens.now same c.program-found.result
    c.program-found.new.cursor.rest.now c.program-found.ensures c.in-Ok.program c.in-Ok.is (omega arith)

pub returns-in-Ok : goal.returns-in-Ok
returns-in-Ok c =
    let same : c.in_ok-source.source.bytes.now ≡ c.args.bytes.now = search rules in
    ok_more c.args.bytes.now c.in_ok-source.source.bytes.now c.args.tokens.now same c.program-found.result
    c.program-found.new.cursor.rest.now c.program-found.ensures c.in-Ok.program _ c.in-Ok.is (omega arith)
    c.place-at.ensures

pub returns-in-Err-Unexpected : goal.returns-in-Err-Unexpected
returns-in-Err-Unexpected c =
    let same : c.in_ok-source.source.bytes.now ≡ c.args.bytes.now = search rules in
    let is : c.program-found.result ≡ Err f.Unexpected = search rules in
    err_unexpected c.args.bytes.now c.in_ok-source.source.bytes.now c.args.tokens.now same c.program-found.result
    c.program-found.new.cursor.rest.now c.program-found.ensures _ is c.place-at.ensures

pub returns-in-Err-TooDeep : goal.returns-in-Err-TooDeep
returns-in-Err-TooDeep c =
    let same : c.in_ok-source.source.bytes.now ≡ c.args.bytes.now = search rules in
    let is : c.program-found.result ≡ Err f.TooDeep = search rules in
    err_too_deep c.args.bytes.now c.in_ok-source.source.bytes.now c.args.tokens.now same c.program-found.result
    c.program-found.new.cursor.rest.now c.program-found.ensures _ is c.place-at.ensures
