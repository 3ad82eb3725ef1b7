-- What was noted of the revisions of a world gives their parts.
use Rattle.std.proofs.Common.{◌≡◌, inl, inr, ◌∙◌, ℕ, zero, suc, ◌≤◌, List, [], ◌∷◌, ◌++◌, length, map, take, Some, refl, sym, ap, subst, append-nil, arith}
use Rattle.std.proofs.lemmas.List.{take_all}
use Rattle.std.specs.List.Sorted.{IsPermutation, IsSortedBy}
use Rattle.std.proofs.lemmas.List.Sorted.{Contains-permutation, IsPermutation-pop_more, IsPermutation-refl, IsPermutation-sym, IsPermutation-to_front}
use Rattle.rev_num.specs.Path.{Path}
use Rattle.typed_programs.specs.Least.{Among}
use Rattle.trace_diagram.specs.declared.diagram.Part.{Part}
use Rattle.version_map.specs.declared.end.EndValue.{EndValue}
use Rattle.revision_machine.specs.Machine.{Entry}
use Rattle.revision_machine.specs.Laws.{local_of, IsDistinct}
use Rattle.revision_machine.specs.Numbered.{Entries, at_number, or_path, paths_of}
use Rattle.rev_vm.specs.Meaning.{IsEnd}
use Rattle.rev_vm.specs.States.{end_for}
use Rattle.rev_vm.proofs.Values.{one_end}
use Rattle.code_soundness.specs.Typed.{location_kinds}
use Rattle.code_machine.specs.Local.{CodeRun, Local, end_of}
use Rattle.code_machine.specs.Proper.{IsOver}
use Rattle.code_world.proofs.Rows.{none_some, some_same}
use Rattle.revision_machine.proofs.Numbers.{path_at}
use Rattle.revision_machine.proofs.Lists.{at_below, below_at}
use Rattle.audit_rules.specs.Traces as calculus_traces
use Rattle.trace_parts.specs.PartOfRevision.{is_sooner}
use Rattle.trace_parts.proofs.InOrder.{AreOnce, contains_among, among_contains, distinct_once, in_order, once_moved}
use Rattle.world_runs.specs.declared.noted.Noted.{Noted}
use Rattle.world_runs.specs.Notes.{IsNoted, AreNoted}
use Rattle.code_traces.specs.Parts.{change_of, end_at, event_of, part_in, path_in, places}
use Rattle.code_traces.specs.Traces.{IsListing, IsPartOf}
use Rattle.code_traces.specs.NotedParts.{AreOver, noted_part, parts_by, world_parts}

-- ---- one revision

module _ (g : CodeRun) (paths : List Path) where
  pub noted_is : (n : ℕ) (r : Path) (l : Local ℕ) (x : Noted) (v : EndValue) → path_in paths n ≡ r → IsNoted g l x
      → IsOver l → x.end ≡ Some v
      → noted_part (places g.code.vars) (location_kinds g.code.vars) paths n x.meetings.items v ≡ part_in g paths r l
  noted_is n r l x v path noted over is =
      let k = noted.left over in
      let same : k.0 ≡ v = some_same (sym k.1 ∙ is) in
      let end : end_for g v ≡ end_of l = sym (one_end g (end_of l) v (subst (IsEnd g (end_of l)) same k.2)) in
      let events = ap (map (event_of (path_in paths))) (sym noted.listed) in
      λ i. record {
        path = path i;
        events = events i;
        end = end_at (path_in paths) (places g.code.vars) (path i) (end i).phase;
        fuel = (end i).fuel;
        written = map (change_of (path_in paths) (places g.code.vars)) (end i).written;
        text = (end i).text;
      }

-- ---- the parts of a world

module _ (g : CodeRun) (paths : List Path) where
  parts_at : (w : Entries (Local ℕ)) (n : ℕ) (r : Path) (e : Entry (Local ℕ)) → at_number w n ≡ Some (r, e)
      → at_number (parts_by g paths w) n ≡ Some (part_in g paths r (local_of e))
  parts_at [] n r e h = none_some h
  parts_at (x ∷ w) zero r e h =
      let z : ◌≡◌ {A = Path × Entry (Local ℕ)} x (r, e) = some_same h in
      ap (λ (y : Path × Entry (Local ℕ)). Some (part_in g paths y.0 (local_of y.1))) z
  parts_at (x ∷ w) (suc n) r e h = parts_at w n r e h

  parts_many : (w : Entries (Local ℕ)) → length (parts_by g paths w) ≡ length w
  parts_many [] = refl
  parts_many (x ∷ w) = ap suc (parts_many w)

  parts_paths : (w : Entries (Local ℕ)) → calculus_traces.paths_of (parts_by g paths w) ≡ paths_of w
  parts_paths [] = refl
  parts_paths (x ∷ w) = ap (λ ps. x.0 ∷ ps) (parts_paths w)

  parts_all : (w : Entries (Local ℕ)) (n : ℕ) (r : Path) (e : Entry (Local ℕ)) → at_number w n ≡ Some (r, e)
      → Among (parts_by g paths w) (part_in g paths r (local_of e))
  parts_all [] n r e h = none_some h
  parts_all (x ∷ w) zero r e h =
      let z : ◌≡◌ {A = Path × Entry (Local ℕ)} x (r, e) = some_same h in
      inl (ap (λ (y : Path × Entry (Local ℕ)). part_in g paths y.0 (local_of y.1)) z)
  parts_all (x ∷ w) (suc n) r e h = inr (parts_all w n r e h)

  record IsOne (w : Entries (Local ℕ)) (p : Part) : Type 0 where
    number : ℕ
    path : Path
    entry : Entry (Local ℕ)
    stands : at_number w number ≡ Some (path, entry)
    is : p ≡ part_in g paths path (local_of entry)

  parts_only : (w : Entries (Local ℕ)) (p : Part) → Among (parts_by g paths w) p → IsOne w p
  parts_only [] p i = absurd i
  parts_only (x ∷ w) p (inl e) = record { number = 0; path = x.0; entry = x.1; stands = refl; is = sym e }
  parts_only (x ∷ w) p (inr i) =
      let o = parts_only w p i in
      record { number = suc o.number; path = o.path; entry = o.entry; stands = o.stands; is = o.is }

-- in post-order they are the trace of the world
pub in_order_listed : (g : CodeRun) (w : Entries (Local ℕ)) (ps qs : List Part) → IsDistinct (paths_of w)
    → IsPermutation (world_parts g w) ps → IsPermutation ps qs → IsSortedBy is_sooner qs → IsListing g w qs
in_order_listed g w ps qs distinct first moved up = record { order = in_order qs once up; all = all; only = only }
  where
    once : AreOnce qs
    once = once_moved ps qs moved
        (once_moved (world_parts g w) ps first
        (distinct_once (world_parts g w) (subst IsDistinct (sym (parts_paths g (paths_of w) w)) distinct)))

    all : (n : ℕ) (r : Path) (e : Entry (Local ℕ)) → at_number w n ≡ Some (r, e)
        → Among qs (part_in g (paths_of w) r (local_of e))
    all n r e there =
        let p = part_in g (paths_of w) r (local_of e) in
        contains_among qs p (Contains-permutation ps qs p moved
        (Contains-permutation (world_parts g w) ps p first
        (among_contains (world_parts g w) p (parts_all g (paths_of w) w n r e there))))

    only : (p : Part) → Among qs p → IsPartOf g w p
    only p i =
        let a = Contains-permutation qs ps p (IsPermutation-sym ps qs moved) (among_contains qs p i) in
        let b = Contains-permutation ps (world_parts g w) p (IsPermutation-sym (world_parts g w) ps first) a in
        let o = parts_only g (paths_of w) w p (contains_among (world_parts g w) p b) in
        record { number = o.number; path = o.path; entry = o.entry; stands = o.stands; is = o.is }

-- ---- one revision less to go

module _ {A : Type 0} where
  -- the last of a first part of a list
  pub last_of : (xs new : List A) (x : A) → new ++ x ∷ [] ≡ take (length (new ++ x ∷ [])) xs
      → (new ≡ take (length new) xs) × (at_number xs (length new) ≡ Some x)
  last_of [] [] x e = absurd cc
  last_of (y ∷ xs) [] x e = let z : x ≡ y = cc in (refl, ap (λ v. Some v) (sym z))
  last_of [] (z ∷ new) x e = absurd cc
  last_of (y ∷ xs) (z ∷ new) x e =
      let first : z ≡ y = cc in
      let rest : new ++ x ∷ [] ≡ take (length (new ++ x ∷ [])) xs = cc in
      let h = last_of xs new x rest in
      ((λ i. first i ∷ h.0 i), h.1)

  take_one : (xs : List A) (n : ℕ) (x : A) → at_number xs n ≡ Some x → take (suc n) xs ≡ take n xs ++ x ∷ []
  take_one [] n x e = none_some e
  take_one (y ∷ xs) zero x e = ap (λ v. v ∷ []) (some_same e)
  take_one (y ∷ xs) (suc n) x e = ap (λ v. y ∷ v) (take_one xs n x e)

module _ (g : CodeRun) (w : Entries (Local ℕ)) where
  pub none_yet : (out : List Part) (k : ℕ) → out ≡ [] → length w ≤ k
      → IsPermutation (world_parts g w) (out ++ take k (world_parts g w))
  none_yet out k empty few =
      let many = parts_many g (paths_of w) w in
      let whole : take k (world_parts g w) ≡ world_parts g w =
      take_all k (world_parts g w) (omega (arith, few, many)) in
      subst (IsPermutation (world_parts g w)) (sym ((λ i. empty i ++ whole i))) (IsPermutation-refl (world_parts g w))

  pub one_more : (out : List Part) (k : ℕ) (r : Path) (e : Entry (Local ℕ)) (p : Part) (new : List Part)
      → at_number w k ≡ Some (r, e) → p ≡ part_in g (paths_of w) r (local_of e) → new ≡ out ++ p ∷ []
      → IsPermutation (world_parts g w) (out ++ take (suc k) (world_parts g w))
      → IsPermutation (world_parts g w) (new ++ take k (world_parts g w))
  one_more out k r e p new there made pushed so_far =
      let all = world_parts g w in
      let q = part_in g (paths_of w) r (local_of e) in
      let split : take (suc k) all ≡ take k all ++ q ∷ [] = take_one all k q (parts_at g (paths_of w) w k r e there) in
      subst (λ l. IsPermutation all (l ++ take k all)) (sym (pushed ∙ ap (λ v. out ++ v ∷ []) made))
      (IsPermutation-pop_more all out (take (suc k) all) (take k all) q so_far
      (subst (λ l. IsPermutation l (q ∷ take k all)) (sym split) (IsPermutation-to_front (take k all) q)))

  pub none_left : (out : List Part) (k : ℕ) → k ≡ 0 → IsPermutation (world_parts g w) (out ++ take k (world_parts g w))
      → IsPermutation (world_parts g w) out
  none_left out k none h =
      subst (IsPermutation (world_parts g w)) (ap (λ n. out ++ take n (world_parts g w)) none ∙ append-nil out) h

-- ---- the part of the revision of this number

module _ (g : CodeRun) (w : Entries (Local ℕ)) (ns : List Noted) (noted : AreNoted g w ns) (over : AreOver w) where
  pub is_the_part : (n : ℕ) (x : Noted) (v : EndValue) → at_number ns n ≡ Some x → x.end ≡ Some v
      → (r : Path) × (e : Entry (Local ℕ)) × (at_number w n ≡ Some (r, e))
      × (noted_part (places g.code.vars) (location_kinds g.code.vars) (paths_of w) n x.meetings.items v
      ≡ part_in g (paths_of w) r (local_of e))
  is_the_part n x v there is =
      let few = at_below ns n x there in
      let many = noted.count in
      let b = below_at w n (omega (arith, few, many)) in
      let path : path_in (paths_of w) n ≡ b.0.0 = ap (λ o. or_path o []) (path_at w n b.0.0 b.0.1 b.1) in (
        b.0.0,
        b.0.1,
        b.1,
        noted_is g (paths_of w) n b.0.0 (local_of b.0.1) x v path (noted.each n b.0.0 b.0.1 x b.1 there)
            (over n b.0.0 b.0.1 b.1) is,
      )
