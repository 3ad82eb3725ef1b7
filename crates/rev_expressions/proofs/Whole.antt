-- What the parser's answer says of the whole tokens.
use Rattle.std.proofs.Common.{◌≡◌, ℕ, suc, ◌≤◌, Bool, true, List, [], ◌∷◌, ◌++◌, length, take, drop, Some, None, refl, sym, ap, ◌∙◌, subst, arith, append-nil, length-append}
use Rattle.std.proofs.lemmas.List.{append_cancel_left}
use Rattle.std.proofs.Math.Seq.{take-append_seam, drop-append_seam}
use Rattle.rev_expressions.specs.Outcome.{Unexpected, TooDeep, Outcome, Read, Failed, next}
use Rattle.rev_expressions.specs.Form.{Alphabet, Form, Rules, Nested, AnyNested, Stands}
use Rattle.rev_expressions.specs.Reader.{parser}
use Rattle.rev_expressions.specs.Exact.{extends, is_decided, Decided}
use Rattle.rev_expressions.specs.Theorem.{Verdict}
use Rattle.rev_expressions.specs.First.{IsAny, Begins}
use Rattle.rev_expressions.proofs.Words.{derives_map, nested_any}
use Rattle.rev_expressions.proofs.Good.{Tokens, Reaches}
use Rattle.rev_expressions.proofs.Exact.{Exactly, exact, E}

module _ (G : Alphabet) (rules : Rules G) (Ext : G.Inner → G.Kind → Bool) (kinds : List G.Kind)
    (H : Decided G rules Ext kinds) {A : Type 0} (F : Form G A) (decided : is_decided G Ext kinds F ≡ true) (n : ℕ)
    (ts : Tokens G) where
  wide : (k : ℕ) (w : Tokens G) (x : A) → E G rules Ext kinds H n F k w x → Stands G rules F n k w x
  wide k w x h = derives_map G (Nested G rules (suc n)) (AnyNested G rules) (nested_any G rules (suc n)) F n k w x h

  ext : G.Kind → Bool
  ext k = extends G Ext F k

  seam : (used rest : Tokens G) → ts ≡ used ++ rest
      → (length used ≤ length ts) × (take (length used) ts ≡ used) × (drop (length used) ts ≡ rest)
  seam used rest split = (
    omega (arith, ap length split, length-append used rest),
    ap (take (length used)) split ∙ take-append_seam used rest,
    ap (drop (length used)) split ∙ drop-append_seam used rest,
  )

  reaches : (used rest more : Tokens G) → next more ≡ next rest
      → Reaches G (extends G Ext F) used rest (used ++ more) [] more
  reaches used rest more e = record { free = refl; same = append-nil (used ++ more); goes = e }

  begun : (used more : Tokens G) (x : A) → E G rules Ext kinds H n F (length used) (used ++ more) x
      → take (length used) ts ≡ used → Begins G rules F n (take (length used) ts)
  begun used more x h e = subst (Begins G rules F n) (sym e)
      (record { more = more; value = x; whole = wide (length used) (used ++ more) x h })

  of_answer : (o : Outcome G.Token A) → Exactly G rules Ext kinds H n F (extends G Ext F) ts o
      → Verdict G rules F n ts o
  of_answer (Read a []) g =
      let same : ts ≡ g.used = g.split ∙ append-nil g.used in
      record {
        whole = wide (length ts) ts a
            (subst (λ l. E G rules Ext kinds H n F (length ts) l a) (sym same) (g.word (length ts)));
        only = λ y any. (g.only ts [] [] y any (record { free = refl; same = append-nil ts ∙ g.split; goes = refl })).1;
      }
  of_answer (Read a (t ∷ rest)) g =
      let s = seam g.used (t ∷ rest) g.split in
      let goes : (more : Tokens G) → next more ≡ next (drop (length g.used) ts) → next more ≡ next (t ∷ rest) =
      λ more e. e ∙ ap next s.2 in (
        length g.used,
        record {
          inside = s.0;
          begins = begun g.used [] a
              (subst (λ l. E G rules Ext kinds H n F (length g.used) l a) (sym (append-nil g.used))
              (g.word (length g.used)))
              s.1;
          none = λ more x e any.
              let any2 = subst (λ l. IsAny G rules F (l ++ more) x) s.1 any in
              let o = g.only (g.used ++ more) [] more x any2 (reaches g.used (t ∷ rest) more (goes more e)) in
              let gone : more ≡ [] = append_cancel_left g.used more [] (o.0 ∙ sym (append-nil g.used)) in
              let clash : None ≡ Some t = sym (ap next gone) ∙ goes more e in
              cc;
        },
        s.2,
      )
  of_answer (Failed Unexpected rest) g =
      let s = seam g.used rest g.split in (
        length g.used,
        record {
          inside = s.0;
          begins = begun g.used g.begins.more g.begins.value g.begins.word s.1;
          none = λ more x e any.
              g.none (g.used ++ more) [] more x (subst (λ l. IsAny G rules F (l ++ more) x) s.1 any)
              (reaches g.used rest more (e ∙ ap next s.2));
        },
        s.2,
      )
  of_answer (Failed TooDeep rest) g =
      let s = seam g.used rest g.split in (
        length g.used,
        record {
          token = g.token;
          here = ap next s.2 ∙ g.here;
          begins = begun g.used g.begins.more g.begins.value g.begins.word s.1;
          more = g.goes_on.more;
          value = g.goes_on.value;
          goes_on = subst (λ l. Stands G rules F n (length g.used) (l ++ g.token ∷ g.goes_on.more) g.goes_on.value)
              (sym s.1) (wide (length g.used) (g.used ++ g.token ∷ g.goes_on.more) g.goes_on.value g.goes_on.word);
          none = λ more x h.
              g.none (g.used ++ g.token ∷ more) [] (g.token ∷ more) x
              (subst (λ l. Stands G rules F n (suc (length g.used)) (l ++ g.token ∷ more) x) s.1 h)
              (reaches g.used rest (g.token ∷ more) (sym g.here));
        },
        s.2,
      )

  pub verdict : Verdict G rules F n ts (parser G rules n F ts)
  verdict = of_answer (parser G rules n F ts) (exact G rules Ext kinds H n A F decided ts)
