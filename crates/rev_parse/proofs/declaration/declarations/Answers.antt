-- Answers of declarations: a token that begins a declaration adds one, and its refusal refuses the list.
use Rattle.std.proofs.Common.{◌≡◌, ◌+◌, ◌-◌, true, map, arith, rules}
use Rattle.std.proofs.lemmas.Grind.{common_steps}
use Rattle.std.proofs.lemmas.List.{map-append}
use Rattle.rev_expressions.specs.Declarations as spec
use Rattle.rev_parse.specs.Pieces.{declaration_begins}
use Rattle.rev_syntax.specs.View as view
use Rattle.rev_parse.proofs.DeclarationRules.{declarations_are, declarations_go}
use Rattle.rev_parse.proofs.Naturals.{natural_rest}
use Rattle.rev_parse.proofs.declaration.declarations.Goals as goal

pub returns-in_err-decl : goal.returns-in_err-decl
returns-in_err-decl c =
    let e : declaration_begins c.loop-turn.cursor.rest.now ≡ true = search rules in
    let h = declarations_go c.args.source.now.bytes.now c.args.levels (c.left-turn-end.result - c.loop-turn._turn)
    (c.left-turn-end.result - (c.loop-turn._turn + 1)) (map view.declaration c.loop-turn.found.items)
    c.loop-turn.cursor.rest.now (omega arith) e in
    let start = declarations_are c.args.source.now.bytes.now c.args.levels c.args.cursor.now.rest.now in
    grind (arith, common_steps, h, start)

pub loop-turn-preserved : goal.loop-turn-preserved
loop-turn-preserved c = record {
  natural = natural_rest c.args.source.now.bytes.now c.args.levels (spec.declaration c.args.source.now.bytes.now)
      c.loop-turn.cursor.rest.now c.declaration.new.cursor.rest.now (view.declaration c.in_ok-decl.decl)
      c.in_ok-decl.ensures c.loop-turn.invariant.natural;
  same =
      let e : declaration_begins c.loop-turn.cursor.rest.now ≡ true = search rules in
      let h = declarations_go c.args.source.now.bytes.now c.args.levels (c.left-turn-end.result - c.loop-turn._turn)
      (c.left-turn-end.result - (c.loop-turn._turn + 1)) (map view.declaration c.loop-turn.found.items)
      c.loop-turn.cursor.rest.now (omega arith) e in
      grind (arith, common_steps, map-append, h);
}
