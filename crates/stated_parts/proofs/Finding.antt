-- Parts by their revisions, and the first part that lists a revision as joined.
use Rattle.std.proofs.Common.{◌≡◌, ◌⊎◌, inl, inr, ℕ, zero, suc, ◌+◌, ◌<◌, ◌≤◌, Bool, true, false, cond, List, [], ◌∷◌, ◌++◌, length, take, drop, get_or, length-take, MatchBool, Vec, Option, Some, None, is_some, refl, sym, ap, ◌∙◌, subst, arith}
use Rattle.std.proofs.lemmas.Bool.{true≢false, cases_order}
use Rattle.std.proofs.lemmas.List.{take_more, drop_more, drop_all}
use Rattle.std.proofs.lemmas.Option.{slice_get_within}
use Rattle.std.specs.List.{slice_get}
use Rattle.rev_num.specs.Path.{Path, same, before}
use Rattle.rev_num.proofs.PostOrder.{same_refl, same-eq}
use Rattle.rev_num.proofs.PostOrder.{before_trans, before_irrefl}
use Rattle.typed_programs.specs.Least.{Among}
use Rattle.revision_machine.specs.Laws.{IsIn}
use Rattle.revision_machine.specs.PathIndex.{place_by, IsEntered, IsPlace, IsIndexed}
use Rattle.revision_machine.proofs.PathIndex.{indexed_push}
use Rattle.std.specs.declared.alloc.Global.{Global}
use Rattle.std.specs.BTreeMap.{BTreeMap}
use Rattle.revision_machine.proofs.Paths.{some_inj, apart-same}
use Rattle.revision_calculus.specs.Program.{Setting}
use Rattle.revision_calculus.specs.Calculus.{calculus}
use Rattle.trace_diagram.specs.declared.diagram.Part.{Part}
use Rattle.trace_diagram.specs.declared.diagram.TraceEvent.{TraceEvent}
use Rattle.trace_diagram.specs.declared.diagram.TraceEvent.TheVariants as event
use Rattle.audit_rules.specs.Audited.{JoinedEarlier}
use Rattle.audit_rules.specs.Parts.{calculus_parts, joins_of}
use Rattle.audit_rules.specs.Traces.{InPostOrder, part_at, paths_of}
use Rattle.audit_rules.proofs.OneOwnRun.{in_front, in_last, in_one_more, none_some}
use Rattle.stated_parts.specs.Tables.{IsSetOf, Marks, lists, joiner_from}

-- ---- parts in post-order

pub among_at : (ps : List Part) (k : ℕ) (p : Part) → slice_get ps k ≡ Some p → Among ps p
among_at [] k p e = none_some e
among_at (x ∷ ps) zero p e = inl (some_inj e)
among_at (x ∷ ps) (suc k) p e = inr (among_at ps k p e)

pub ordered : (ps : List Part) (j k : ℕ) (p q : Part) → InPostOrder ps → slice_get ps j ≡ Some p
    → slice_get ps k ≡ Some q → j < k → before p.path q.path ≡ true
ordered [] j k p q order e f less = none_some e
ordered (x ∷ ps) j zero p q order e f less = absurd (omega arith)
ordered (x ∷ ps) zero (suc k) p q order e f less =
    subst (λ v. before v.path q.path ≡ true) (some_inj e) (order.0 q (among_at ps k q f))
ordered (x ∷ ps) (suc j) (suc k) p q order e f less = ordered ps j k p q order.1 e f (omega arith)

-- one before another has a lesser number
pub earlier_number : (ps : List Part) (j k : ℕ) (p q : Part) → InPostOrder ps → slice_get ps j ≡ Some p
    → slice_get ps k ≡ Some q → before p.path q.path ≡ true → j < k
earlier_number ps j k p q order e f sooner = go (cases_order j k)
  where
    go : (j ≡ k) ⊎ ((j < k) ⊎ (k < j)) → j < k
    go (inl is) =
        let one : p ≡ q = some_inj (sym e ∙ ap (slice_get ps) is ∙ f) in
        absurd (before_irrefl q.path (subst (λ v. before v.path q.path ≡ true) one sooner))
    go (inr (inl less)) = less
    go (inr (inr more)) =
        absurd (before_irrefl p.path (before_trans p.path q.path p.path sooner (ordered ps k j q p order f e more)))

-- a revision has one part
pub same_number : (ps : List Part) (j k : ℕ) (p q : Part) → InPostOrder ps → slice_get ps j ≡ Some p
    → slice_get ps k ≡ Some q → p.path ≡ q.path → j ≡ k
same_number ps j k p q order e f is = go (cases_order j k)
  where
    go : (j ≡ k) ⊎ ((j < k) ⊎ (k < j)) → j ≡ k
    go (inl one) = one
    go (inr (inl less)) =
        absurd (before_irrefl q.path (subst (λ v. before v q.path ≡ true) is (ordered ps j k p q order e f less)))
    go (inr (inr more)) =
        absurd (before_irrefl q.path (subst (λ v. before q.path v ≡ true) is (ordered ps k j q p order f e more)))

pub part_here : (ps : List Part) (k : ℕ) (p : Part) → InPostOrder ps → slice_get ps k ≡ Some p
    → part_at ps p.path ≡ Some p
part_here [] k p order e = none_some e
part_here (x ∷ ps) zero p order e =
    let is : x ≡ p = some_inj e in
    ap (λ b. cond b (Some x) (part_at ps p.path)) (ap (λ v. same v.path p.path) is ∙ same_refl p.path) ∙ ap Some is
part_here (x ∷ ps) (suc k) p order e =
    ap (λ b. cond b (Some x) (part_at ps p.path))
    (apart-same x.path p.path
    (λ is. before_irrefl p.path (subst (λ v. before v p.path ≡ true) is (order.0 p (among_at ps k p e)))))
    ∙ part_here ps k p order.1 e

-- ---- places of parts

pub record IsPartAt (ps : List Part) (k : ℕ) (r : Path) : Type 0 where
  pub part : Part
  pub stands : slice_get ps k ≡ Some part
  pub path : part.path ≡ r

pub part_of_place : (ps : List Part) (k : ℕ) (r : Path) → slice_get (paths_of ps) k ≡ Some r → IsPartAt ps k r
part_of_place [] k r e = none_some e
part_of_place (x ∷ ps) zero r e = record { part = x; stands = refl; path = some_inj e }
part_of_place (x ∷ ps) (suc k) r e =
    let h = part_of_place ps k r e in record { part = h.part; stands = h.stands; path = h.path }

pub no_part : (ps : List Part) (r : Path) → (IsIn r (paths_of ps) → ⊥) → part_at ps r ≡ None
no_part [] r none = refl
no_part (x ∷ ps) r none =
    ap (λ b. cond b (Some x) (part_at ps r)) (apart-same x.path r (λ is. none (inl (sym is))))
    ∙ no_part ps r (λ i. none (inr i))

pub record HasPlace (ps : List Part) (r : Path) (p : Part) : Type 0 where
  pub number : ℕ
  pub stands : slice_get ps number ≡ Some p
  pub path : p.path ≡ r

pub place_of_part : (ps : List Part) (r : Path) (p : Part) → part_at ps r ≡ Some p → HasPlace ps r p
place_of_part [] r p e = none_some e
place_of_part (x ∷ ps) r p e = go (same x.path r) refl e (place_of_part ps r p)
  where
    go : (b : Bool) → same x.path r ≡ b → cond b (Some x) (part_at ps r) ≡ Some p
        → (part_at ps r ≡ Some p → HasPlace ps r p) → HasPlace (x ∷ ps) r p
    go true is f later =
        let one : x ≡ p = some_inj f in
        record { number = zero; stands = f; path = sym (ap (λ v. v.path) one) ∙ same-eq x.path r is }
    go false is f later = let h = later f in record { number = suc h.number; stands = h.stands; path = h.path }

-- ---- which part lists a revision as joined

pub lists_in : (es : List TraceEvent) (q : Path) → lists es q ≡ true → IsIn q (joins_of es)
lists_in [] q e = absurd (true≢false (sym e))
lists_in (event.Forked r line ∷ es) q e = lists_in es q e
lists_in (event.Joined r line ∷ es) q e = go (same r q) refl e (lists_in es q)
  where
    go : (b : Bool) → same r q ≡ b → cond b true (lists es q) ≡ true → (lists es q ≡ true → IsIn q (joins_of es))
        → IsIn q (r ∷ joins_of es)
    go true is f later = inl (sym (same-eq r q is))
    go false is f later = inr (later f)

pub lists_out : (es : List TraceEvent) (q : Path) → lists es q ≡ false → IsIn q (joins_of es) → ⊥
lists_out [] q e i = i
lists_out (event.Forked r line ∷ es) q e i = lists_out es q e i
lists_out (event.Joined r line ∷ es) q e i = go (same r q) refl e (lists_out es q) i
  where
    go : (b : Bool) → same r q ≡ b → cond b true (lists es q) ≡ false → (lists es q ≡ false → IsIn q (joins_of es) → ⊥)
        → IsIn q (r ∷ joins_of es) → ⊥
    go true is f later i = true≢false f
    go false is f later (inl same_path) = true≢false (sym (subst (λ v. same v q ≡ true) same_path (same_refl q)) ∙ is)
    go false is f later (inr j) = later f j

pub no_joiner : (n : ℕ) (ps : List Part) (q : Path) → joiner_from n ps q ≡ None → (p : Part) → Among ps p
    → IsIn q (joins_of p.events) → ⊥
no_joiner n [] q e p i j = i
no_joiner n (x ∷ ps) q e p i j = go (lists x.events q) refl e (no_joiner (suc n) ps q) i
  where
    go : (b : Bool) → lists x.events q ≡ b → cond b (Some n) (joiner_from (suc n) ps q) ≡ None
        → (joiner_from (suc n) ps q ≡ None → (p : Part) → Among ps p → IsIn q (joins_of p.events) → ⊥)
        → Among (x ∷ ps) p → ⊥
    go true is f later at = none_some (sym f)
    go false is f later (inl one) = lists_out x.events q is (subst (λ v. IsIn q (joins_of v.events)) (sym one) j)
    go false is f later (inr at) = later f p at j

-- the part with this number lists it, and none before it does
pub record IsFirstJoiner (n k : ℕ) (ps : List Part) (q : Path) : Type 0 where
  pub number : ℕ
  pub is : k ≡ n + number
  pub part : Part
  pub stands : slice_get ps number ≡ Some part
  pub lists : IsIn q (joins_of part.events)
  pub first : (i : ℕ) (p : Part) → i < number → slice_get ps i ≡ Some p → IsIn q (joins_of p.events) → ⊥

pub first_joiner : (n k : ℕ) (ps : List Part) (q : Path) → joiner_from n ps q ≡ Some k → IsFirstJoiner n k ps q
first_joiner n k [] q e = none_some e
first_joiner n k (x ∷ ps) q e = go (lists x.events q) refl e (first_joiner (suc n) k ps q)
  where
    go : (b : Bool) → lists x.events q ≡ b → cond b (Some n) (joiner_from (suc n) ps q) ≡ Some k
        → (joiner_from (suc n) ps q ≡ Some k → IsFirstJoiner (suc n) k ps q) → IsFirstJoiner n k (x ∷ ps) q
    go true is f later =
        let one : n ≡ k = some_inj f in
        record {
          number = zero;
          is = omega arith;
          part = x;
          stands = refl;
          lists = lists_in x.events q is;
          first = λ i p less. absurd (omega arith);
        }
    go false is f later =
        let h = later f in
        let at = h.is in
        record {
          number = suc h.number;
          is = omega arith;
          part = h.part;
          stands = h.stands;
          lists = h.lists;
          first = first h;
        }
      where
        first : (h : IsFirstJoiner (suc n) k ps q) → (i : ℕ) (p : Part) → i < suc h.number
            → slice_get (x ∷ ps) i ≡ Some p → IsIn q (joins_of p.events) → ⊥
        first h zero p less g j = lists_out x.events q is (subst (λ v. IsIn q (joins_of v.events)) (sym (some_inj g)) j)
        first h (suc i) p less g j = h.first i p (omega arith) g j

-- ---- whether a part before r's lists q as joined

module _ (s : Setting) (fuel : ℕ) (ps : List Part) (order : InPostOrder ps) (r q : Path) where
  abbrev pub Earlier : Type 0
  Earlier = JoinedEarlier (calculus s) (calculus_parts s fuel) (part_at ps) r q

  pub none_earlier : joiner_from 0 ps q ≡ None → Earlier → ⊥
  none_earlier e j =
      let h = place_of_part ps j.joiner j.part j.states in
      no_joiner 0 ps q e j.part (among_at ps h.number j.part h.stands) j.lists

  pub one_earlier : (k : ℕ) (p : Part) → joiner_from 0 ps q ≡ Some k → slice_get ps k ≡ Some p → before p.path r ≡ true
      → Earlier
  one_earlier k p e at sooner =
      let h = first_joiner 0 k ps q e in
      let place = h.is in
      let same_place : k ≡ h.number = omega (arith, place) in
      let is : h.part ≡ p = some_inj (sym h.stands ∙ ap (slice_get ps) (sym same_place) ∙ at) in
      record {
        joiner = p.path;
        part = p;
        states = part_here ps k p order at;
        earlier = sooner;
        lists = subst (λ v. IsIn q (joins_of v.events)) is h.lists;
      }

  pub late_joiner : (k : ℕ) (p : Part) → joiner_from 0 ps q ≡ Some k → slice_get ps k ≡ Some p → before p.path r ≡ false
      → Earlier → ⊥
  late_joiner k p e at late j = go (cases_order x.number k)
    where
      x : HasPlace ps j.joiner j.part
      x = place_of_part ps j.joiner j.part j.states

      sooner : before j.part.path r ≡ true
      sooner = subst (λ v. before v r ≡ true) (sym x.path) j.earlier

      h : IsFirstJoiner 0 k ps q
      h = first_joiner 0 k ps q e

      go : (x.number ≡ k) ⊎ ((x.number < k) ⊎ (k < x.number)) → ⊥
      go (inl is) =
          let one : j.part ≡ p = some_inj (sym x.stands ∙ ap (slice_get ps) is ∙ at) in
          true≢false (sym (subst (λ v. before v.path r ≡ true) one sooner) ∙ late)
      go (inr (inl less)) =
          let place = h.is in
          h.first x.number j.part (omega arith) x.stands j.lists
      go (inr (inr more)) =
          true≢false (sym (before_trans p.path j.part.path r (ordered ps k x.number p j.part order at x.stands more)
          sooner)
          ∙ late)

-- ---- tables

pub lists_more : (es : List TraceEvent) (e : TraceEvent) (q : Path)
    → lists (es ++ e ∷ []) q ≡ cond (lists (e ∷ []) q) true (lists es q)
lists_more [] e q = go (lists (e ∷ []) q)
  where
    go : (b : Bool) → b ≡ cond b true false
    go true = refl
    go false = refl
lists_more (event.Forked r line ∷ es) e q = lists_more es e q
lists_more (event.Joined r line ∷ es) e q = go (same r q) (lists (e ∷ []) q) (lists_more es e q)
  where
    go : (b c : Bool) → lists (es ++ e ∷ []) q ≡ cond c true (lists es q)
        → cond b true (lists (es ++ e ∷ []) q) ≡ cond c true (cond b true (lists es q))
    go true true later = refl
    go true false later = refl
    go false c later = later

-- one event more of a table
pub entered_more : (es : List TraceEvent) (e : TraceEvent) (q : Path) (n : ℕ) (old mid new : Option ℕ)
    → mid ≡ cond (lists es q) (Some n) old → new ≡ cond (lists (e ∷ []) q) (Some n) mid
    → new ≡ cond (lists (es ++ e ∷ []) q) (Some n) old
entered_more es e q n old mid new so_far step =
    step ∙ go (lists (e ∷ []) q) (lists es q) so_far ∙ ap (λ b. cond b (Some n) old) (sym (lists_more es e q))
  where
    go : (c b : Bool) → mid ≡ cond b (Some n) old → cond c (Some n) mid ≡ cond (cond c true b) (Some n) old
    go true b h = refl
    go false b h = h

-- one part more of a list
pub paths_more : (ps : List Part) (p : Part) → paths_of (ps ++ p ∷ []) ≡ paths_of ps ++ p.path ∷ []
paths_more [] p = refl
paths_more (x ∷ ps) p = ap (λ l. x.path ∷ l) (paths_more ps p)

pub paths_length : (ps : List Part) → length (paths_of ps) ≡ length ps
paths_length [] = refl
paths_length (p ∷ ps) = ap suc (paths_length ps)

-- ---- what a table of the parts has

module _ (ps : List Part) (m : BTreeMap (Vec ℕ Global) ℕ) (indexed : IsIndexed m (paths_of ps)) (r : Path) where
  pub found_part : (k : ℕ) → Some k ≡ place_by m r → IsPartAt ps k r
  found_part k e = part_of_place ps k r (subst (IsPlace r (paths_of ps)) (sym e) (indexed r))

  pub lost_part : None ≡ place_by m r → part_at ps r ≡ None
  lost_part e = no_part ps r (subst (IsPlace r (paths_of ps)) (sym e) (indexed r))

-- ---- tables, one entry more

pub indexed_part : (m n : BTreeMap (Vec ℕ Global) ℕ) (ps : List Part) (i : ℕ) (p : Part) → i < length ps
    → p ≡ get_or ps i p → IsIndexed m (paths_of (take i ps)) → IsEntered m n p.path i
    → IsIndexed n (paths_of (take (i + 1) ps))
indexed_part m n ps i p less is indexed entered =
    let more : take (i + 1) ps ≡ take i ps ++ p ∷ [] = take_more ps i p less ∙ ap (λ v. take i ps ++ v ∷ []) (sym is) in
    let taken : length (take i ps) ≡ i = omega (arith, length-take i ps) in
    let count : length (paths_of (take i ps)) ≡ i = paths_length (take i ps) ∙ taken in
    subst (IsIndexed n) (sym (ap paths_of more ∙ paths_more (take i ps) p))
    (indexed_push m n (paths_of (take i ps)) p.path indexed (subst (IsEntered m n p.path) (sym count) entered))

pub entered_next : (es : List TraceEvent) (i : ℕ) (e : TraceEvent) (q : Path) (n : ℕ) (old mid new : Option ℕ)
    → i < length es → e ≡ get_or es i e
    → mid ≡ cond (lists (take i es) q) (Some n) old → new ≡ cond (lists (e ∷ []) q) (Some n) mid
    → new ≡ cond (lists (take (i + 1) es) q) (Some n) old
entered_next es i e q n old mid new less is so_far step =
    let more : take (i + 1) es ≡ take i es ++ e ∷ [] = take_more es i e less ∙ ap (λ v. take i es ++ v ∷ []) (sym is) in
    entered_more (take i es) e q n old mid new so_far step ∙ ap (λ l. cond (lists l q) (Some n) old) (sym more)

pub entered_none : (m : BTreeMap (Vec ℕ Global) ℕ) (e : TraceEvent) (r : Path) (line k : ℕ) → e ≡ event.Forked r line
    → (q : Path) → place_by m q ≡ cond (lists (e ∷ []) q) (Some k) (place_by m q)
entered_none m e r line k is q = ap (λ v. cond (lists (v ∷ []) q) (Some k) (place_by m q)) (sym is)

pub entered_one : (m n : BTreeMap (Vec ℕ Global) ℕ) (e : TraceEvent) (r : Path) (line k : ℕ) → e ≡ event.Joined r line
    → IsEntered m n r k → (q : Path) → place_by n q ≡ cond (lists (e ∷ []) q) (Some k) (place_by m q)
entered_one m n e r line k is entered q =
    ap (λ f. f q) entered ∙ go (same r q) ∙ ap (λ v. cond (lists (v ∷ []) q) (Some k) (place_by m q)) (sym is)
  where
    go : (b : Bool) → cond b (Some k) (place_by m q) ≡ cond (cond b true false) (Some k) (place_by m q)
    go true = refl
    go false = refl

pub joiner_more : (ps : List Part) (i j : ℕ) (p : Part) (q : Path) (old new : Option ℕ) → i ≡ j + 1 → j < length ps
    → p ≡ get_or ps j p
    → old ≡ joiner_from i (drop i ps) q → new ≡ cond (lists p.events q) (Some j) old → new ≡ joiner_from j (drop j ps) q
joiner_more ps i j p q old new step less is so_far entered =
    let next : i ≡ suc j = omega arith in
    let front : drop j ps ≡ p ∷ drop i ps = drop_more ps j p less ∙ (λ k. sym is k ∷ drop (sym step k) ps) in
    entered ∙ ap (cond (lists p.events q) (Some j)) (so_far ∙ ap (λ n. joiner_from n (drop i ps) q) next)
    ∙ ap (λ l. joiner_from j l q) (sym front)

pub joiner_first : (ps : List Part) (i : ℕ) (q : Path) (o : Option ℕ) → i ≤ 0 → o ≡ joiner_from i (drop i ps) q
    → o ≡ joiner_from 0 ps q
joiner_first ps zero q o least e = e
joiner_first ps (suc i) q o least e = absurd (omega arith)

pub nothing_in : (m : BTreeMap (Vec ℕ Global) ℕ) → IsIndexed m [] → (q : Path) → place_by m q ≡ None
nothing_in m indexed q = go (place_by m q) (indexed q)
  where
    go : (o : Option ℕ) → IsPlace q [] o → o ≡ None
    go None h = refl
    go (Some k) h = none_some h

pub no_joiners : (ps : List Part) (i : ℕ) (q : Path) (o : Option ℕ) → length ps ≤ i → o ≡ None
    → o ≡ joiner_from i (drop i ps) q
no_joiners ps i q o few e = e ∙ ap (λ l. joiner_from i l q) (sym (drop_all i ps few))

-- the part of a place is that of its revision
pub part_at_number : (ps : List Part) (k : ℕ) (r : Path) (x : Part) → IsPartAt ps k r → InPostOrder ps
    → slice_get ps k ≡ Some x → Some x ≡ part_at ps r
part_at_number ps k r x h order at =
    let one : x ≡ h.part = some_inj (sym at ∙ h.stands) in
    ap Some one ∙ sym (part_here ps k h.part order h.stands) ∙ ap (part_at ps) h.path

-- ---- whether one joined another before

pub joiner_within : (ps : List Part) (q : Path) (k : ℕ) → joiner_from 0 ps q ≡ Some k → k < length ps
joiner_within ps q k e =
    let h = first_joiner 0 k ps q e in
    let is = h.is in
    let less = slice_get_within ps h.number h.part h.stands in
    omega arith

module _ (s : Setting) (fuel : ℕ) (ps : List Part) (order : InPostOrder ps) (r q : Path) where
  pub which_joiner : (k : ℕ) (p : Part) (b : Bool) → joiner_from 0 ps q ≡ Some k → slice_get ps k ≡ Some p
      → b ≡ before p.path r → MatchBool b (Earlier s fuel ps order r q) (Earlier s fuel ps order r q → ⊥)
  which_joiner k p true e at is = one_earlier s fuel ps order r q k p e at (sym is)
  which_joiner k p false e at is = late_joiner s fuel ps order r q k p e at (sym is)

  pub joined_or : (js : List Path) (b : Bool) → (IsIn q js → ⊥)
      → MatchBool b (Earlier s fuel ps order r q) (Earlier s fuel ps order r q → ⊥)
      → MatchBool b (IsIn q js ⊎ Earlier s fuel ps order r q) (IsIn q js ⊎ Earlier s fuel ps order r q → ⊥)
  joined_or js true none h = inr h
  joined_or js false none h = go
    where
      go : IsIn q js ⊎ Earlier s fuel ps order r q → ⊥
      go (inl i) = none i
      go (inr j) = h j

-- what a set of paths tells of one
pub listed : (m : BTreeMap (Vec ℕ Global) ℕ) (js : List Path) (q : Path) (o : Option ℕ) → IsSetOf m js
    → o ≡ place_by m q → is_some o ≡ true → IsIn q js
listed m js q None all is some = absurd (true≢false (sym some))
listed m js q (Some k) all is some = subst (Marks js q) (sym is) (all q)

pub unlisted : (m : BTreeMap (Vec ℕ Global) ℕ) (js : List Path) (q : Path) (o : Option ℕ) → IsSetOf m js
    → o ≡ place_by m q → is_some o ≡ false → IsIn q js → ⊥
unlisted m js q (Some k) all is none = absurd (true≢false none)
unlisted m js q None all is none = subst (Marks js q) (sym is) (all q)

-- one path more of a set
pub set_more : (m n : BTreeMap (Vec ℕ Global) ℕ) (js : List Path) (q : Path) (k : ℕ) → IsSetOf m js → IsEntered m n q k
    → IsSetOf n (js ++ q ∷ [])
set_more m n js q k all entered p =
    subst (Marks (js ++ q ∷ []) p) (sym (ap (λ f. f p) entered)) (go (same q p) refl (place_by m p) (all p))
  where
    go : (b : Bool) → same q p ≡ b → (o : Option ℕ) → Marks js p o → Marks (js ++ q ∷ []) p (cond b (Some k) o)
    go true is o h = subst (λ v. IsIn v (js ++ q ∷ [])) (same-eq q p is) (in_last q js)
    go false is (Some n) h = in_front p js (q ∷ []) h
    go false is None h = λ i. neither (in_one_more p q js i)
      where
        neither : IsIn p js ⊎ (p ≡ q) → ⊥
        neither (inl i) = h i
        neither (inr e) = true≢false (sym (subst (λ v. same v p ≡ true) e (same_refl p)) ∙ is)

pub set_none : (m : BTreeMap (Vec ℕ Global) ℕ) → IsIndexed m [] → IsSetOf m []
set_none m indexed p = subst (Marks [] p) (sym (nothing_in m indexed p)) (λ i. i)
