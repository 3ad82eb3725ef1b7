-- Answers of declaration: the first token decides which declaration it is, and behind it no number is negative.
use Rattle.std.proofs.Common.{◌≡◌, Some, None, sym, subst, arith, rules}
use Rattle.std.proofs.lemmas.Grind.{common_steps}
use Rattle.rev_expressions.specs.Outcome.{next}
use Rattle.rev_parse.specs.Pieces.{AreNatural}
use Rattle.rev_parse.proofs.DeclarationRules.{declaration_fun, declaration_merge, declaration_versioned, declaration_cumulative, declaration_proc, declaration_else, declaration_end}
use Rattle.rev_parse.proofs.Naturals.{natural_after}
use Rattle.rev_parse.proofs.declaration.declaration.Goals.{in_default-kind-via-in-Fixed+in_default, in_default-kind-via-in_default}
use Rattle.rev_syntax.specs.declared.token.TokenKind.TheVariants as k
use Rattle.rev_syntax.specs.declared.token.Fixed.TheVariants as s
use Rattle.rev_parse.proofs.declaration.declaration.Goals as goal

pub returns-in_default : goal.returns-in_default
returns-in_default c =
    let e : next c.args.cursor.now.rest.now ≡ None = search rules in
    let h = declaration_end c.args.source.now.bytes.now c.args.levels c.args.cursor.now.rest.now e in
    grind (arith, common_steps, h)

pub versioned-requires : goal.versioned-requires
versioned-requires c =
    subst (λ ts. AreNatural ts) (sym c.advance-in-Fixed-Versioned.ensures)
    (natural_after c.args.cursor.now.rest.now c.requires)

pub cumulative-requires : goal.cumulative-requires
cumulative-requires c =
    subst (λ ts. AreNatural ts) (sym c.advance-in-Fixed-Cumulative.ensures)
    (natural_after c.args.cursor.now.rest.now c.requires)

pub returns-in_default-kind : goal.returns-in_default-kind
returns-in_default-kind c =
    let e : next c.args.cursor.now.rest.now ≡ Some c.in-Some.token = cc in
    elim c.in_default-kind.branch [
      | in_default-kind-via-in-Fixed+in_default w ↦ grind (
        arith,
        common_steps,
        declaration_else c.args.source.now.bytes.now c.args.levels c.in-Some.token c.args.cursor.now.rest.now e
            (λ z. search rules) (λ z. search rules) (λ z. search rules) (λ z. search rules) (λ z. search rules),
      )
      | in_default-kind-via-in_default w ↦ grind (
        arith,
        common_steps,
        declaration_else c.args.source.now.bytes.now c.args.levels c.in-Some.token c.args.cursor.now.rest.now e
            (λ z. search rules) (λ z. search rules) (λ z. search rules) (λ z. search rules) (λ z. search rules),
      )
    ]

pub returns-in-Fixed-Fun : goal.returns-in-Fixed-Fun
returns-in-Fixed-Fun c =
    let e : next c.args.cursor.now.rest.now ≡ Some c.in-Some.token = cc in
    let h = declaration_fun c.args.source.now.bytes.now c.args.levels c.in-Some.token c.args.cursor.now.rest.now e
    (let z : c.in-Some.token.kind ≡ k.Fixed s.Fun = search rules in z) in
    grind (arith, common_steps, h)

pub returns-in-Fixed-Merge : goal.returns-in-Fixed-Merge
returns-in-Fixed-Merge c =
    let e : next c.args.cursor.now.rest.now ≡ Some c.in-Some.token = cc in
    let h = declaration_merge c.args.source.now.bytes.now c.args.levels c.in-Some.token c.args.cursor.now.rest.now e
    (let z : c.in-Some.token.kind ≡ k.Fixed s.Merge = search rules in z) in
    grind (arith, common_steps, h)

pub returns-in-Fixed-Versioned : goal.returns-in-Fixed-Versioned
returns-in-Fixed-Versioned c =
    let e : next c.args.cursor.now.rest.now ≡ Some c.in-Some.token = cc in
    let h = declaration_versioned c.args.source.now.bytes.now c.args.levels c.in-Some.token c.args.cursor.now.rest.now e
    (let z : c.in-Some.token.kind ≡ k.Fixed s.Versioned = search rules in z) in
    grind (arith, common_steps, h)

pub returns-in-Fixed-Cumulative : goal.returns-in-Fixed-Cumulative
returns-in-Fixed-Cumulative c =
    let e : next c.args.cursor.now.rest.now ≡ Some c.in-Some.token = cc in
    let h = declaration_cumulative c.args.source.now.bytes.now c.args.levels c.in-Some.token c.args.cursor.now.rest.now
    e (let z : c.in-Some.token.kind ≡ k.Fixed s.Cumulative = search rules in z) in
    grind (arith, common_steps, h)

pub returns-in-Fixed-Proc : goal.returns-in-Fixed-Proc
returns-in-Fixed-Proc c =
    let e : next c.args.cursor.now.rest.now ≡ Some c.in-Some.token = cc in
    let h = declaration_proc c.args.source.now.bytes.now c.args.levels c.in-Some.token c.args.cursor.now.rest.now e
    (let z : c.in-Some.token.kind ≡ k.Fixed s.Proc = search rules in z) in
    grind (arith, common_steps, h)
