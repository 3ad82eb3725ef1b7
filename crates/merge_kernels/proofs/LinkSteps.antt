-- The links of a chain, one by one.
use Rattle.std.proofs.Common.{◌≡◌, ◌∙◌, ap, sym, ℕ, ◌+◌, ◌<◌, ◌≤◌, length, List, [], ◌∷◌, ◌++◌, drop, get_or, Option, Some, None}
use Rattle.std.proofs.lemmas.List.{drop_more, drop_all}
use Rattle.rev_syntax.specs.Trees.{Expression, Links}
use Rattle.rev_syntax.specs.View.{expression, links}
use Rattle.rev_syntax.specs.declared.tree.BinaryOp.{BinaryOp}
use Rattle.rev_syntax.specs.declared.tree.Link.{Link}
use Rattle.typed_programs.proofs.Shapes.{links-first}
use Rattle.rev_syntax.specs.View.{links_of}
use Rattle.merge_kernels.specs.Closing.{Names, with_link, renamed, renamed_links}
use Rattle.merge_kernels.proofs.Listed.{before_links, before_more, before_none, before_all}

module _ (n : Names) (rest : List Link) (i : ℕ) (acc : List (BinaryOp × Expression))
    (so : renamed_links n (links rest) ≡ before_links acc (renamed_links n (links (drop i rest)))) where
  module _ (x : Link) (h : i < length rest) (e : x ≡ get_or rest i x) where
    abbrev later : Option Links
    later = renamed_links n (links (drop (i + 1) rest))

    here : renamed_links n (links (drop i rest)) ≡ with_link x.op (renamed n (expression x.part)) later
    here =
        ap (λ ls. renamed_links n (links ls)) (drop_more rest i x h ∙ ap (λ y. y ∷ drop (i + 1) rest) (sym e))
        ∙ ap (renamed_links n) (links-first x (drop (i + 1) rest))

    pub stops : (o : Option Expression) → o ≡ renamed n (expression x.part) → o ≡ None
        → None ≡ renamed_links n (links rest)
    stops o is none =
        sym (so ∙ (ap (before_links acc) (here ∙ ap (λ p. with_link x.op p later) (sym is ∙ none)) ∙ before_none acc))

    pub goes_on : (o : Option Expression) (t : Expression) (more : List (BinaryOp × Expression))
        → o ≡ renamed n (expression x.part) → o ≡ Some t
        → more ≡ acc ++ (x.op, t) ∷ [] → renamed_links n (links rest) ≡ before_links more later
    goes_on o t more is some pushed =
        so ∙ (ap (before_links acc) (here ∙ ap (λ p. with_link x.op p later) (sym is ∙ some))
        ∙ (sym (before_more acc x.op t later) ∙ ap (λ l. before_links l later) (sym pushed)))

  pub ends : length rest ≤ i → Some (links_of acc) ≡ renamed_links n (links rest)
  ends h = sym (so ∙ (ap (λ ls. before_links acc (renamed_links n (links ls))) (drop_all i rest h) ∙ before_all acc))
