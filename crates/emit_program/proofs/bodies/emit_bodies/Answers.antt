-- Answers of emit_bodies: each procedure's block, texts and layouts are the first of those left, and main's are last.
use Rattle.std.proofs.Common.{◌≡◌, ◌∙◌, ◌<◌, ◌^◌, ◌+◌, ◌∷◌, ◌++◌, [], drop, map, length, ap, sym, subst, arith}
use Rattle.std.proofs.lemmas.List.{drop_more, drop_all}
use Rattle.rev_syntax.specs.View.{block, declaration}
use Rattle.rev_kinds.specs.Walk.{names_of}
use Rattle.code_generation.specs.Generated.{body_blocks, texts_of, layouts_of}
use Rattle.emit_code.specs.Naming.{numbers_of}
use Rattle.emit_program.specs.Fitting.{DeclarationsFit}
use Rattle.emit_program.proofs.Joined.{bodies_behind, texts_behind, layouts_behind, layouts_grown, texts_room, layouts_room, main_texts_room, main_layouts_room}
use Rattle.emit_program.proofs.bodies.emit_bodies.Goals as goal

pub loop-d-preserved : goal.loop-d-preserved
loop-d-preserved c =
    let n = numbers_of c.args.numbers.now in
    let k = names_of c.args.checker.now in
    let main = block c.args.program.now.main in
    let at = c.loop-d.d-index in
    let d = c.d-item.result in
    let all = c.deref-d-items.result.now in
    let rest = drop (at + 1) all in
    let here : drop at all ≡ d ∷ rest = drop_more all at d (omega arith) ∙ ap (λ y. y ∷ rest) (sym c.d-item.is) in
    let e = declaration d in let es = map declaration rest in
    let b0 = c.loop-d.blocks.items in let t0 = c.loop-d.listed.texts.items in let y0 = c.loop-d.listed.layouts.items in
    let b1 = c.enter_body.new.blocks.items in
    let t1 = c.enter_body.new.listed.texts.items in
    let y1 = c.enter_body.new.listed.layouts.items in
    let done = c.in_ok-enter_body.ensures in
    record {
      blocks =
          bodies_behind n k main e es b0 b1 (length y0) (length y1) done.blocks
          (layouts_grown k main e (length t0) y0 y1 done.layouts)
          ∙ ap (λ l. b0 ++ body_blocks n k (map declaration l) main (length y0)) (sym here)
          ∙ c.loop-d.invariant.blocks;
      texts =
          texts_behind k main e es t0 t1 done.texts
          ∙ ap (λ l. t0 ++ texts_of (map declaration l) main) (sym here)
          ∙ c.loop-d.invariant.texts;
      layouts =
          layouts_behind k main e es t0 t1 y0 y1 done.texts done.layouts
          ∙ ap (λ l. y0 ++ layouts_of k (length t0) (map declaration l) main) (sym here)
          ∙ c.loop-d.invariant.layouts;
      fits = (subst (λ l. DeclarationsFit n (map declaration l)) here c.loop-d.invariant.fits).1;
    }

pub loop-d-init : goal.loop-d-init
loop-d-init c =
    let n = numbers_of c.args.numbers.now in
    let k = names_of c.args.checker.now in
    let main = block c.args.program.now.main in
    let items = c.deref-d-items.result.now in let es = map declaration items in
    let v : items ≡ c.args.program.now.decls.items = c.deref-d-items.ensures.value in
    let no_texts = c.new-3.ensures.items in let no_layouts = c.new-4.ensures.items in
    record {
      blocks = ap (λ y. c.args.blocks.now.items ++ body_blocks n k es main (length y)) no_layouts;
      texts = ap (λ t. t ++ texts_of es main) no_texts;
      layouts = (λ j. no_layouts j ++ layouts_of k (length (no_texts j)) es main);
      fits = subst (λ l. DeclarationsFit n (map declaration l)) (sym v) c.requires.declarations;
    }

pub enter_body-requires-clause-fits : goal.enter_body-requires-clause-fits
enter_body-requires-clause-fits c =
    let n = numbers_of c.args.numbers.now in
    let at = c.loop-d.d-index in
    let d = c.d-item.result in
    let all = c.deref-d-items.result.now in
    let rest = drop (at + 1) all in
    let here : drop at all ≡ d ∷ rest = drop_more all at d (omega arith) ∙ ap (λ y. y ∷ rest) (sym c.d-item.is) in
    (subst (λ l. DeclarationsFit n (map declaration l)) here c.loop-d.invariant.fits).0

pub enter_body-requires-clause-texts : goal.enter_body-requires-clause-texts
enter_body-requires-clause-texts c =
    let k = names_of c.args.checker.now in let main = block c.args.program.now.main in
    let at = c.loop-d.d-index in
    let d = c.d-item.result in
    let all = c.deref-d-items.result.now in
    let rest = drop (at + 1) all in
    let here : drop at all ≡ d ∷ rest = drop_more all at d (omega arith) ∙ ap (λ y. y ∷ rest) (sym c.d-item.is) in
    let t0 = c.loop-d.listed.texts.items in
    texts_room k main (declaration d) (map declaration rest) t0 (texts_of (map declaration all) main)
    (sym (ap (λ l. t0 ++ texts_of (map declaration l) main) here) ∙ c.loop-d.invariant.texts)
    (subst (λ l. length (texts_of (map declaration l) main) < 2 ^ 32) (sym c.deref-d-items.ensures.value)
    c.requires.texts)

pub enter_body-requires-clause-layouts : goal.enter_body-requires-clause-layouts
enter_body-requires-clause-layouts c =
    let k = names_of c.args.checker.now in let main = block c.args.program.now.main in
    let at = c.loop-d.d-index in
    let d = c.d-item.result in
    let all = c.deref-d-items.result.now in
    let rest = drop (at + 1) all in
    let here : drop at all ≡ d ∷ rest = drop_more all at d (omega arith) ∙ ap (λ y. y ∷ rest) (sym c.d-item.is) in
    let t0 = c.loop-d.listed.texts.items in let y0 = c.loop-d.listed.layouts.items in
    layouts_room k main (declaration d) (map declaration rest) (length t0) y0
    (layouts_of k 0 (map declaration all) main)
    (sym (ap (λ l. y0 ++ layouts_of k (length t0) (map declaration l) main) here) ∙ c.loop-d.invariant.layouts)
    (subst (λ l. length (layouts_of k 0 (map declaration l) main) < 2 ^ 32) (sym c.deref-d-items.ensures.value)
    c.requires.layouts)

pub main_block-requires-clause-fits : goal.main_block-requires-clause-fits
main_block-requires-clause-fits c = c.requires.main

pub main_block-requires-clause-texts : goal.main_block-requires-clause-texts
main_block-requires-clause-texts c =
    let k = names_of c.args.checker.now in let main = block c.args.program.now.main in
    let all = c.deref-d-items.result.now in let t0 = c.loop-d.listed.texts.items in
    let none = drop_all c.loop-d.d-index all c.loop-d-test.false in
    main_texts_room k main t0 (texts_of (map declaration all) main)
    (sym (ap (λ l. t0 ++ texts_of (map declaration l) main) none) ∙ c.loop-d.invariant.texts)
    (subst (λ l. length (texts_of (map declaration l) main) < 2 ^ 32) (sym c.deref-d-items.ensures.value)
    c.requires.texts)

pub main_block-requires-clause-layouts : goal.main_block-requires-clause-layouts
main_block-requires-clause-layouts c =
    let k = names_of c.args.checker.now in let main = block c.args.program.now.main in
    let all = c.deref-d-items.result.now in
    let t0 = c.loop-d.listed.texts.items in
    let y0 = c.loop-d.listed.layouts.items in
    let none = drop_all c.loop-d.d-index all c.loop-d-test.false in
    main_layouts_room k main (length t0) y0 (layouts_of k 0 (map declaration all) main)
    (sym (ap (λ l. y0 ++ layouts_of k (length t0) (map declaration l) main) none) ∙ c.loop-d.invariant.layouts)
    (subst (λ l. length (layouts_of k 0 (map declaration l) main) < 2 ^ 32) (sym c.deref-d-items.ensures.value)
    c.requires.layouts)

pub returns-clause-blocks : goal.returns-clause-blocks
returns-clause-blocks c =
    let n = numbers_of c.args.numbers.now in
    let k = names_of c.args.checker.now in
    let main = block c.args.program.now.main in
    let all = c.deref-d-items.result.now in let b0 = c.loop-d.blocks.items in let y0 = c.loop-d.listed.layouts.items in
    let none = drop_all c.loop-d.d-index all c.loop-d-test.false in
    c.in_ok-push.ensures.items
    ∙ ap (λ x. b0 ++ x ∷ []) c.in_ok-main_block.ensures.block
    ∙ ap (λ l. b0 ++ body_blocks n k (map declaration l) main (length y0)) (sym none)
    ∙ c.loop-d.invariant.blocks
    ∙ ap (λ l. c.args.blocks.now.items ++ body_blocks n k (map declaration l) main 0) c.deref-d-items.ensures.value

pub returns-clause-texts : goal.returns-clause-texts
returns-clause-texts c =
    let main = block c.args.program.now.main in
    let all = c.deref-d-items.result.now in let t0 = c.loop-d.listed.texts.items in
    let none = drop_all c.loop-d.d-index all c.loop-d-test.false in
    c.in_ok-main_block.ensures.texts
    ∙ ap (λ l. t0 ++ texts_of (map declaration l) main) (sym none)
    ∙ c.loop-d.invariant.texts
    ∙ ap (λ l. texts_of (map declaration l) main) c.deref-d-items.ensures.value

pub returns-clause-layouts : goal.returns-clause-layouts
returns-clause-layouts c =
    let k = names_of c.args.checker.now in let main = block c.args.program.now.main in
    let all = c.deref-d-items.result.now in
    let t0 = c.loop-d.listed.texts.items in
    let y0 = c.loop-d.listed.layouts.items in
    let none = drop_all c.loop-d.d-index all c.loop-d-test.false in
    c.in_ok-main_block.ensures.layouts
    ∙ ap (λ l. y0 ++ layouts_of k (length t0) (map declaration l) main) (sym none)
    ∙ c.loop-d.invariant.layouts
    ∙ ap (λ l. layouts_of k 0 (map declaration l) main) c.deref-d-items.ensures.value
