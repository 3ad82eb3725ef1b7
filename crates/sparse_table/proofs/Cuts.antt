-- Changes of views alone: a view is cut in two, and two are joined.
use Rattle.std.proofs.Common.{◌≡◌, ◌≢◌, ℕ, inl, inr, ⊎_elim, Bool, List, [], ◌∷◌, ◌++◌, map, set, sym, refl, ap}
use Rattle.std.proofs.Common.{◌∙◌, subst, arith}
use mathlib.Core.Option.{some, some-injective}
use lib.ListN.{get_elem?}
use Rattle.atomic_table.specs.Table as table
use Rattle.atomic_table.proofs.Lists.{at_set, at_map, at_snoc, at_longer, set_else}
use Rattle.sparse_table.specs.Words as raw
use Rattle.sparse_table.specs.Words.{blank}
use Rattle.sparse_table.specs.declared.rule.Doing.{Doing}
use Rattle.sparse_table.specs.Parts.{IsPart, Stands, client, seen, Knows, Maker, State, Rules, resting}
use Rattle.sparse_table.specs.Plays.{settled}
use Rattle.sparse_table.proofs.Changes.{F, map_set, makers_stay, seats_stay}

map_snoc : {A B : Type 0} (f : A → B) (xs : List A) (x : A) → map f (xs ++ x ∷ []) ≡ map f xs ++ f x ∷ []
map_snoc f [] x = refl
map_snoc f (y ∷ ys) x = λ j. f y ∷ map_snoc f ys x j

module _ {V : Type 0} (holds : table.State (Unit {0}) V → Type 0) (makes : V → ℕ → Type 0) (needs : ℕ → ℕ → Bool)
    (words width shift : ℕ) where
  abbrev D : Type 0
  D = Doing V

  abbrev R : State V → Type 0
  R = Rules holds makes needs words width shift

  -- the same words under other views
  pub same_words : (s : State V) (r : R s) (us : List D) → holds (seen r.all (map (client {V = V}) us))
      → ((c : ℕ) → Maker s.views c → Maker us c)
      → ((j : ℕ) (x : D) → get_elem? us j ≡ some x → Knows makes words width shift s.words x)
      → R record { words = s.words; views = us }
  same_words s r us good makers seats = record {
    all = r.all;
    agreed = good;
    sizes = r.sizes;
    long = r.long;
    numbers = r.numbers;
    firsts = r.firsts;
    heads = r.heads;
    there = r.there;
    zeros = r.zeros;
    unmade = r.unmade;
    needed = r.needed;
    flags = λ k pk. ⊎_elim (λ f. inl f) (λ m. inr (⊎_elim (λ f. inl f) (λ f. inr (f.0, makers k f.1)) m))
        (r.flags k pk);
    seats = seats;
  }

  -- a seat that makes no part knows the same under another view
  resting_knows : (ns : List ℕ) (d : D) (w : V) → d.trail.stage ≡ 0 → Knows makes words width shift ns d
      → Knows makes words width shift ns (settled d w)
  resting_knows ns d w rest k = record {
    stands = subst (λ (n : ℕ). Stands (IsPart words width d.trail.part) (makes w d.trail.part)
        (F holds makes needs words width shift ns d.trail.part) n) (sym rest) tt;
    known = k.known;
  }

  pub splits : (id : ℕ) (d : D) (l r : V) → d.trail.stage ≡ 0 → table.Splits holds id d.client l r
      → raw.Splits R id d (settled d l) (settled d r)
  splits id d l r rest law s q at = let vs : List V = map (client {V = V}) s.views in let us : List D = set s.views
      id (settled d l) in
      let mid : get_elem? vs id ≡ some d.client = at_map (client {V = V}) s.views id d at in
      let k = q.seats id d at in (
        q.numbers 0 (inl refl),
        same_words s q (us ++ settled d r ∷ [])
            (subst (λ (z : List V). holds (seen q.all z)) (sym (map_snoc (client {V = V}) us (settled d r) ∙ ap
            (λ (z : List V). z ++ r ∷ []) (map_set (client {V = V}) s.views id (settled d l))))
            (law (seen q.all vs) q.agreed mid))
            (λ c m. let n = makers_stay holds makes needs words width shift s q id d at rest l c m in
            (n.0, n.1, at_longer us (settled d r ∷ []) n.0 n.1 n.2, n.3, n.4))
            (λ j x e. ⊎_elim (λ t. seats_stay holds makes needs words width shift s q id d at rest l s.words
            (λ c pc. refl) j x t)
            (λ t. subst (λ (y : D). Knows makes words width shift s.words y) t (resting_knows s.words d r rest k))
            (at_snoc us (settled d r) x j e)),
      )

  pub joins : (id : ℕ) (d : D) (other : ℕ) (e : D) (both spent : V) → d.trail.stage ≡ 0 → e.trail.stage ≡ 0
      → table.Joins holds id d.client other e.client both spent
      → raw.Joins R id d other e (settled d both) (resting 0 0 0 [] spent)
  joins id d other e both spent rest calm law = (
    (λ s q at. q.numbers 0 (inl refl)),
    (λ s q at ne at'. let vs : List V = map (client {V = V}) s.views in let us : List D = set s.views id
        (settled d both) in let z : D = resting 0 0 0 [] spent in
        let mid : get_elem? vs id ≡ some d.client = at_map (client {V = V}) s.views id d at in let named = map_set
        (client {V = V}) s.views id (settled d both) in
        let two : get_elem? (set vs id both) other ≡ some e.client = subst (λ (y : List V). get_elem? y other ≡ some
        e.client) named (at_map (client {V = V}) us other e at') in
        same_words s q (set us other z)
        (subst (λ (y : List V). holds (seen q.all y)) (sym (map_set (client {V = V}) us other z ∙ ap
        (λ (y : List V). set y other spent) named)) (law (seen q.all vs) q.agreed mid ne two))
        (λ c m. let n = makers_stay holds makes needs words width shift s q id d at rest both c m in
        let far : n.0 ≢ other = λ p. let s2 : e.trail.stage ≡ 2 = subst (λ (x : D). x.trail.stage ≡ 2)
        (some-injective n.1 e (sym n.2 ∙ (ap (get_elem? us) p ∙ at'))) n.3 in let k0 = calm in omega arith in
        (n.0, n.1, set_else us other n.0 z far ∙ n.2, n.3, n.4))
        (λ j x p. ⊎_elim (λ t. subst (λ (y : D). Knows makes words width shift s.words y) t.1 record {
          stands = tt;
          known = λ c h. absurd h;
        })
        (λ t. seats_stay holds makes needs words width shift s q id d at rest both s.words (λ c pc. refl) j x t.1)
        (at_set us other j z x p))),
  )
