-- The machine of code by paths does what the world by numbers does.
use Rattle.std.proofs.Common.{◌≡◌, ◌⊎◌, inl, inr, ◌∙◌, ℕ, zero, suc, List, [], ◌∷◌, ◌++◌, map, replicate, drop, None, refl, sym, ap, subst}
use Rattle.std.proofs.lemmas.List.{map-append}
use Rattle.rev_num.specs.Path.{Path, child}
use Rattle.rev_num.specs.declared.value.ValueKind.{ValueKind}
use Rattle.rev_num.specs.declared.value.ValueKind.TheVariants as k
use Rattle.rev_code.specs.declared.code.CodeBlock.{CodeBlock}
use Rattle.rev_code.specs.declared.code.CodeVar.{CodeVar}
use Rattle.rev_code.specs.Words.{zero_word, start_word}
use Rattle.rev_code.specs.State.{Location}
use Rattle.rev_code.specs.Variables.{start_locations}
use Rattle.revision_machine.specs.Machine as revisions
use Rattle.revision_machine.specs.Laws.{IsIn}
use Rattle.revision_machine.specs.Conditions.{HoldsNone}
use Rattle.revision_machine.specs.Simulation.{stay, more, DoesMove, DoesFork, DoesJoin, Simulates}
use Rattle.revision_machine.specs.Numbered.{at_number, number_of, or_path, machine_by, event_by}
use Rattle.revision_machine.proofs.Numbers.{number_back}
use Rattle.code_machine.specs.Local.{CodeRun, IsVerified, Local, at_work, of_words, of_locations, handles}
use Rattle.code_machine.specs.Joining.{join}
use Rattle.code_machine.specs.Machines.{Act, Goes, Bears, Wants, Stops, act, event_of, wish_of, machine, numbered, Holds, start_in}
use Rattle.code_machine.specs.Renamed.{renamed_word, renamed_location, renamed, IsNumbered}
use Rattle.code_machine.proofs.Renaming.{first_locals_same}
use Rattle.code_machine.proofs.Acts.{SameAct, both_go, both_bear, both_want, both_stop, act_same, join_same}
use Rattle.code_machine.proofs.Holding.{goes_held, forker_held, forked_held, want_held, join_held}
use Rattle.code_machine.proofs.MachineConditions.{by_moves, by_forks}

module _ {H K : Type 0} (f : H → K) where
  from_go : (x : Act H) (y : Act K) → SameAct f x y → (m : Local K) → y ≡ Goes m
      → (l : Local H) × (x ≡ Goes l) × (m ≡ renamed f l)
  from_go x y (both_go l) m e =
      (l, refl, (let w : Goes (renamed f l) ≡ Goes m = e in let z : renamed f l ≡ m = cc in sym z))
  from_go x y (both_bear u v c h) m e = absurd (let w : Bears v (renamed f c) ≡ Goes m = e in cc)
  from_go x y (both_want q) m e = absurd (let w : Wants (f q) ≡ Goes m = e in cc)
  from_go x y both_stop m e = absurd (let w : Stops ≡ Goes m = e in cc)

  from_bear : (x : Act H) (y : Act K) → SameAct f x y → (v : K → Local K) (d : Local K) → y ≡ Bears v d
      → (u : H → Local H) × (c : Local H) × (x ≡ Bears u c) × (d ≡ renamed f c) × ((h : H) → v (f h) ≡ renamed f (u h))
  from_bear x y (both_bear u w c h) v d e =
      let a : w ≡ v = (let z : Bears w (renamed f c) ≡ Bears v d = e in cc) in
      let b : renamed f c ≡ d = (let z : Bears w (renamed f c) ≡ Bears v d = e in cc) in
      (u, c, refl, sym b, λ i. ap (λ z. z (f i)) (sym a) ∙ h i)
  from_bear x y (both_go l) v d e = absurd (let w : Goes (renamed f l) ≡ Bears v d = e in cc)
  from_bear x y (both_want q) v d e = absurd (let w : Wants (f q) ≡ Bears v d = e in cc)
  from_bear x y both_stop v d e = absurd (let w : Stops ≡ Bears v d = e in cc)

  from_want : (x : Act H) (y : Act K) → SameAct f x y → (m : K) → y ≡ Wants m → (q : H) × (x ≡ Wants q) × (m ≡ f q)
  from_want x y (both_want q) m e = (q, refl, (let w : Wants (f q) ≡ Wants m = e in let z : f q ≡ m = cc in sym z))
  from_want x y (both_go l) m e = absurd (let w : Goes (renamed f l) ≡ Wants m = e in cc)
  from_want x y (both_bear u v c h) m e = absurd (let w : Bears v (renamed f c) ≡ Wants m = e in cc)
  from_want x y both_stop m e = absurd (let w : Stops ≡ Wants m = e in cc)

  from_stop : (x : Act H) (y : Act K) → SameAct f x y → y ≡ Stops → x ≡ Stops
  from_stop x y both_stop e = refl
  from_stop x y (both_go l) e = absurd (let w : Goes (renamed f l) ≡ Stops = e in cc)
  from_stop x y (both_bear u v c h) e = absurd (let w : Bears v (renamed f c) ≡ Stops = e in cc)
  from_stop x y (both_want q) e = absurd (let w : Wants (f q) ≡ Stops = e in cc)

module _ (g : CodeRun) (ok : IsVerified g) (t : List Path) where
  by_wants : (r : Path) (n : ℕ) (a : Act ℕ) (q : Path) → event_by t r n (wish_of a) ≡ revisions.Joins q
      → (m : ℕ) × (a ≡ Wants m) × (q ≡ or_path (at_number t m) r)
  by_wants r n (Wants m) q e = (
    m,
    refl,
    (let w : revisions.Joins (or_path (at_number t m) r) ≡ revisions.Joins q = e in
        let z : or_path (at_number t m) r ≡ q = cc in
        sym z),
  )
  by_wants r n (Goes l) q e = absurd (let w : revisions.Moves l ≡ revisions.Joins q = e in cc)
  by_wants r n (Bears u c) q e =
      absurd (let w : revisions.Forks (u (number_of t (child r n))) c ≡ revisions.Joins q = e in cc)
  by_wants r n Stops q e = absurd (let w : revisions.Ended ≡ revisions.Joins q = e in cc)

  by_ended : (r : Path) (n : ℕ) (a : Act ℕ) → event_by t r n (wish_of a) ≡ revisions.Ended → a ≡ Stops
  by_ended r n Stops e = refl
  by_ended r n (Goes l) e = absurd (let w : revisions.Moves l ≡ revisions.Ended = e in cc)
  by_ended r n (Bears u c) e =
      absurd (let w : revisions.Forks (u (number_of t (child r n))) c ≡ revisions.Ended = e in cc)
  by_ended r n (Wants m) e = absurd (let w : revisions.Joins (or_path (at_number t m) r) ≡ revisions.Ended = e in cc)

  abbrev number : Path → ℕ
  number = number_of t

  same_acts : (a : Local Path) (b : Local ℕ) → b ≡ renamed (number_of t) a → SameAct (number_of t) (act g a) (act g b)
  same_acts a b is = subst (λ z. SameAct (number_of t) (act g a) (act g z)) (sym is) (act_same (number_of t) g a)

  moves : (r : Path) (a : Local Path) (b b' : Local ℕ) → IsNumbered t r a b
      → (machine_by (numbered g) t).next r b ≡ revisions.Moves b'
      → DoesMove (machine g) (machine_by (numbered g) t) (IsNumbered t) r a b'
  moves r a b b' rel does =
      let x = from_go (number_of t) (act g a) (act g b) (same_acts a b rel.is) b'
      (by_moves g ok t r b.state.forks (act g b) b' does) in
      record {
        after = x.0;
        quiet = more (ap (event_of r a.state.forks) x.1) stay;
        related = record { is = x.2; known = λ q i. rel.known q (goes_held q g a x.0 x.1 i) };
      }

  forks : (r : Path) (a : Local Path) (b b' c' : Local ℕ) → IsNumbered t r a b
      → (machine_by (numbered g) t).next r b ≡ revisions.Forks b' c' → IsIn (child r b.state.forks) t
      → DoesFork (machine g) (machine_by (numbered g) t) (IsNumbered t) r a b b' c'
  forks r a b b' c' rel does known =
      let y = by_forks g ok t r b.state.forks (act g b) b' c' does in
      let x = from_bear (number_of t) (act g a) (act g b) (same_acts a b rel.is) y.0 c' y.1 in
      let made : a.state.forks ≡ b.state.forks = sym (ap (λ z. z.state.forks) rel.is) in
      let kid : Path = child r a.state.forks in
      let kid_known : IsIn kid t = subst (λ n. IsIn (child r n) t) (sym made) known in
      let is : b' ≡ renamed (number_of t) (x.0 kid) =
      sym (ap (λ n. y.0 (number_of t (child r n))) made ∙ y.2) ∙ x.4 kid in
      record {
        before = a;
        quiet = stay;
        after = x.0 kid;
        child_state = x.1;
        forks = ap (event_of r a.state.forks) x.2;
        number = made;
        related = record {
          is = is;
          known = λ q i. of_forker a kid kid_known q (λ j. rel.known q j) (forker_held q g a x.0 x.1 kid x.2 i);
        };
        related_child = record { is = x.3; known = λ q i. rel.known q (forked_held q g a x.0 x.1 x.2 i) };
      }
    where
      of_forker : (a : Local Path) (kid : Path) → IsIn kid t → (q : Path) → (Holds a q → IsIn q t)
          → Holds a q ⊎ (q ≡ kid) → IsIn q t
      of_forker a kid known q known_of (inl i) = known_of i
      of_forker a kid known q known_of (inr e) = subst (λ z. IsIn z t) (sym e) known

  joins : (r q : Path) (a : Local Path) (b : Local ℕ) → IsNumbered t r a b
      → (machine_by (numbered g) t).next r b ≡ revisions.Joins q
      → DoesJoin (machine g) (machine_by (numbered g) t) (IsNumbered t) r q a b
  joins r q a b rel does =
      let y = by_wants r b.state.forks (act g b) q does in
      let x = from_want (number_of t) (act g a) (act g b) (same_acts a b rel.is) y.0 y.1 in
      let held : IsIn x.0 t = rel.known x.0 (want_held x.0 g a x.1) in
      let is : q ≡ x.0 =
      y.2 ∙ ap (λ m. or_path (at_number t m) r) x.2 ∙ ap (λ o. or_path o r) (number_back t x.0 held) in
      record {
        before = a;
        quiet = stay;
        joins = ap (event_of r a.state.forks) x.1 ∙ ap revisions.Joins (sym is);
        related = λ l m other ended. after l m other;
      }
    where
      after : (l : Local Path) (m : Local ℕ) → IsNumbered t q l m → IsNumbered t r (join g a l) (join g b m)
      after l m other = record {
        is = (λ i. join g (rel.is i) (other.is i)) ∙ join_same (number_of t) g a l;
        known = λ p i. of_either p (join_held p g a l i);
      }
        where
          of_either : (p : Path) → Holds a p ⊎ Holds l p → IsIn p t
          of_either p (inl i) = rel.known p i
          of_either p (inr i) = other.known p i

  pub simulates : Simulates (machine g) (machine_by (numbered g) t) (IsNumbered t) (λ p. IsIn p t)
  simulates = record {
    moves = moves;
    forks = forks;
    joins = joins;
    ends = λ r a b rel does.
        ap (event_of r a.state.forks)
        (from_stop (number_of t) (act g a) (act g b) (same_acts a b rel.is) (by_ended r b.state.forks (act g b) does));
  }

-- ---- the first state

zeros_none : {H : Type 0} (xs : List ValueKind) → of_words {H = H} (map zero_word xs) ≡ []
zeros_none [] = refl
zeros_none (k.Int ∷ xs) = zeros_none xs
zeros_none (k.Bool ∷ xs) = zeros_none xs
zeros_none (k.Rev ∷ xs) = zeros_none xs

start_none : {H : Type 0} (kind : ValueKind) (w n : ℕ) (ls : List (Location H)) → of_locations ls ≡ []
    → of_locations (replicate n (record { snapshot = start_word kind w; written = None }) ++ ls) ≡ []
start_none kind w zero ls e = e
start_none k.Int w (suc n) ls e = start_none k.Int w n ls e
start_none k.Bool w (suc n) ls e = start_none k.Bool w n ls e
start_none k.Rev w (suc n) ls e = start_none k.Rev w n ls e

starts_none : {H : Type 0} (vs : List CodeVar) → of_locations {H = H} (start_locations vs) ≡ []
starts_none [] = refl
starts_none (v ∷ vs) = start_none v.kind v.start v.cells (start_locations vs) (starts_none vs)

pub first_none : (g : CodeRun) (n : ℕ) (b : CodeBlock) (fuel : ℕ) → HoldsNone (machine g) Holds (start_in g n b fuel)
first_none g n b fuel q i = subst (IsIn q) none i
  where
    none : handles {H = Path} (start_in g n b fuel) ≡ []
    none =
        let a = zeros_none {H = Path} (drop 0 b.locals) in
        let e = starts_none {H = Path} g.code.vars in
        λ j. ([] ++ (a j ++ ([] ++ (e j ++ [])))) ++ []

module _ {H K : Type 0} (f : H → K) where
  start_same : (kind : ValueKind) (w : ℕ) → start_word kind w ≡ renamed_word f (start_word kind w)
  start_same k.Int w = refl
  start_same k.Bool w = refl
  start_same k.Rev w = refl

  cells_same : (n : ℕ) (kind : ValueKind) (w : ℕ)
      → replicate n (record { snapshot = start_word kind w; written = None })
      ≡ map (renamed_location f) (replicate n (record { snapshot = start_word kind w; written = None }))
  cells_same zero kind w = refl
  cells_same (suc n) kind w =
      let a = start_same kind w in let b = cells_same n kind w in λ j. record { snapshot = a j; written = None } ∷ b j

  starts_same : (vs : List CodeVar) → start_locations vs ≡ map (renamed_location f) (start_locations vs)
  starts_same [] = refl
  starts_same (v ∷ vs) =
      (let a = cells_same v.cells v.kind v.start in let b = starts_same vs in λ j. a j ++ b j)
      ∙ sym (map-append (renamed_location f)
      (replicate v.cells (record { snapshot = start_word v.kind v.start; written = None })) (start_locations vs))

  first_same : (g : CodeRun) (n : ℕ) (b : CodeBlock) (fuel : ℕ) → start_in g n b fuel ≡ renamed f (start_in g n b fuel)
  first_same g n b fuel =
      let a = first_locals_same f b [] in
      let e = starts_same g.code.vars in
      λ j. at_work (record {
        block = n;
        at = 0;
        locals = a j;
        stack = [];
        below = [];
        locations = e j;
        fuel = fuel;
        forks = 0;
        listed = [];
        text = [];
        line = 0;
      })

pub first_numbered : (g : CodeRun) (n : ℕ) (b : CodeBlock) (fuel : ℕ) (t : List Path)
    → IsNumbered t [] (start_in g n b fuel) (start_in g n b fuel)
first_numbered g n b fuel t =
    record { is = first_same (number_of t) g n b fuel; known = λ q i. absurd (first_none g n b fuel q i) }
