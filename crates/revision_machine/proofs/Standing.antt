-- `main` stands in every state but Twice, and what is marked has ended.
use Rattle.std.proofs.Common.{◌≡◌, ◌≢◌, ◌⊎◌, inl, inr, [], Some, sym, ap, ◌∙◌}
use Rattle.rev_num.specs.Path.{Path}
use Rattle.rev_num.proofs.Options.{none_some as no_none}
use Rattle.revision_machine.specs.PathMap.{with_at}
use Rattle.revision_machine.specs.Machine.{Ended, Machine, Entry, Plain, Joined, Global, Twice, Live, nowhere, start, step}
use Rattle.revision_machine.specs.Laws.{Stands, StandingLaw}
use Rattle.revision_machine.proofs.Paths.{decide_same, at_here, at_other, some_inj}
use Rattle.revision_machine.proofs.Way.{put_two, Way, writes, twice, way, Place, own, new, marks, place}
use Rattle.revision_machine.proofs.Diamond.{two_here, two_there, two_other}
use Rattle.revision_machine.proofs.Ends.{along}

module _ (M : Machine) where
  joined_inj : {a b : M.Local} → Joined a ≡ Joined b → a ≡ b
  joined_inj e = cc

  plain_joined : {P : Type 0} {a b : M.Local} → Plain a ≡ Joined b → P
  plain_joined e = absurd cc

  keeps : (g h : Global M.Local) (r : Path) → Stands M g → step M g r ≡ Some h → Stands M h
  keeps Twice h r w s = no_none s
  keeps (Live revs) h r w s = by h (way M revs r h s)
    where
      by : (h : Global M.Local) → Way M revs r h → Stands M h
      by h (twice l q lq here does there) = tt
      by h (writes l l' o e here role) = record {
        main = of_main (decide_same r []) (decide_same o []);
        marked = λ p v. of_marked p v (decide_same r p) (decide_same o p) (place M role);
      }
        where
          of_main : (r ≡ []) ⊎ (r ≢ []) → (o ≡ []) ⊎ (o ≢ [])
              → (v : Entry M.Local) × (put_two revs r (Plain l') o e [] ≡ Some v)
          of_main (inl a) b = (Plain l', ap (put_two revs r (Plain l') o e) (sym a) ∙ two_here revs r o (Plain l') e)
          of_main (inr a) (inl b) =
              (e, ap (put_two revs r (Plain l') o e) (sym b) ∙ two_there revs r o (Plain l') e (λ c. a (c ∙ b)))
          of_main (inr a) (inr b) = let was = w.main in (was.0, two_other revs r o (Plain l') e [] a b ∙ was.1)

          of_marked : (p : Path) (v : M.Local) → (r ≡ p) ⊎ (r ≢ p) → (o ≡ p) ⊎ (o ≢ p) → Place M revs r l l' o e
              → put_two revs r (Plain l') o e p ≡ Some (Joined v) → M.next p v ≡ Ended
          of_marked p v (inl a) b x there =
              plain_joined
              (some_inj (sym (two_here revs r o (Plain l') e) ∙ ap (put_two revs r (Plain l') o e) a ∙ there))
          of_marked p v (inr a) (inr b) x there = w.marked p v (sym (two_other revs r o (Plain l') e p a b) ∙ there)
          of_marked p v (inr a) (inl b) x there = of_place x
            where
              at_o : e ≡ Joined v
              at_o = some_inj (sym (two_there revs r o (Plain l') e (λ c. a (c ∙ b)))
                  ∙ ap (put_two revs r (Plain l') o e) b ∙ there)

              of_place : Place M revs r l l' o e → M.next p v ≡ Ended
              of_place (own does is ee) = plain_joined (sym ee ∙ at_o)
              of_place (new c does is ee) = plain_joined (sym ee ∙ at_o)
              of_place (marks lq does there' ended jl ee) =
                  let same : lq ≡ v = joined_inj (sym ee ∙ at_o) in (λ i. M.next (sym b i) (sym same i)) ∙ ended

  begins : (main : M.Local) → Stands M (start M main)
  begins main = record {
    main = (Plain main, at_here nowhere [] (Plain main));
    marked = λ p l there. go p l (decide_same [] p) there;
  }
    where
      go : (p : Path) (l : M.Local) → ([] ≡ p) ⊎ ([] ≢ p) → with_at nowhere [] (Plain main) p ≡ Some (Joined l)
          → M.next p l ≡ Ended
      go p l (inl a) there =
          plain_joined
          (some_inj (sym (at_here nowhere [] (Plain main)) ∙ ap (with_at nowhere [] (Plain main)) a ∙ there))
      go p l (inr a) there = no_none (sym (at_other nowhere [] (Plain main) p a) ∙ there)

  pub standing_law : (main : M.Local) → StandingLaw M main
  standing_law main g reached = along M (Stands M) keeps reached.by (start M main) g (begins main) reached.runs
