-- Listings of the parts of all revisions: of a world by number, and of a state by paths.
--   Lists          the parts of all revisions of a state, in post-order
--   the_listing    a world has such a listing, and one alone
--   world_lists    a listing of a world is one of a state that agrees with it
--   to_lists, of_lists
--                  those of a state of the calculus are its traces
use Rattle.std.proofs.Common.{◌≡◌, ℕ, List, Option, Some, None, refl, sym, ap, ◌∙◌, subst}
use Rattle.rev_num.specs.Path.{Path}
use Rattle.typed_programs.specs.Least.{Among}
use Rattle.trace_diagram.specs.declared.diagram.Part.{Part}
use Rattle.revision_machine.specs.PathMap.{PathMap}
use Rattle.revision_machine.specs.Machine.{Machine, Entry, Plain, Joined, Live}
use Rattle.revision_machine.specs.Laws.{local_of, IsDistinct}
use Rattle.revision_machine.specs.Simulation.{EntryAgrees}
use Rattle.revision_machine.specs.Numbered.{Entries, at_number, paths_of, globe_of, machine_by}
use Rattle.revision_machine.proofs.Paths.{some_inj}
use Rattle.revision_machine.proofs.Numbers.{none_some, globe_there}
use Rattle.revision_calculus.specs.Program.{Setting}
use Rattle.revision_calculus.specs.State as source
use Rattle.audit_rules.specs.Parts.{part_of}
use Rattle.audit_rules.specs.Traces as calculus_trace
use Rattle.audit_rules.specs.Traces.{part_at, InPostOrder, IsTrace}
use Rattle.code_machine.specs.Local.{CodeRun, Local}
use Rattle.code_machine.specs.Machines.{numbered}
use Rattle.code_traces.specs.Parts.{part_in}
use Rattle.code_traces.specs.Traces.{IsListing, IsTheOnly}
use Rattle.code_traces.proofs.Lists.{same_list, sorted, sorted_only, sorted_all, sorted_order}
use Rattle.audit_rules.proofs.TracesAsParts.{found}
use Rattle.audit_rules.proofs.FinalTraces.{at_own}
use Rattle.revision_machine.proofs.Schedules as schedules

-- ---- by paths

module _ {L : Type 0} (part : Path → L → Part) (revs : PathMap (Entry L)) where
  pub record IsShown (p : Part) : Type 0 where
    pub path : Path
    pub entry : Entry L
    pub stands : revs path ≡ Some entry
    pub is : p ≡ part path (local_of entry)

  pub record Lists (ps : List Part) : Type 0 where
    pub order : InPostOrder ps
    pub all : (r : Path) (e : Entry L) → revs r ≡ Some e → Among ps (part r (local_of e))
    pub only : (p : Part) → Among ps p → IsShown p

  within : (ps qs : List Part) → Lists ps → Lists qs → (p : Part) → Among ps p → Among qs p
  within ps qs a b p i = let h = a.only p i in subst (Among qs) (sym h.is) (b.all h.path h.entry h.stands)

  pub one_listing : (ps qs : List Part) → Lists ps → Lists qs → ps ≡ qs
  one_listing ps qs a b = same_list ps qs a.order b.order (within ps qs a b) (within qs ps b a)

-- ---- by number

module _ (g : CodeRun) (w : Entries (Local ℕ)) where
  abbrev pub entry_part : Path → Entry (Local ℕ) → Part
  entry_part r e = part_in g (paths_of w) r (local_of e)

  abbrev pub listing : List Part
  listing = sorted entry_part (λ r e. refl) w

  pub listed : IsDistinct (paths_of w) → IsListing g w listing
  listed d = record {
    order = sorted_order entry_part (λ r e. refl) w d;
    all = sorted_all entry_part (λ r e. refl) w;
    only = λ p i.
        (let h = sorted_only entry_part (λ r e. refl) w p i in
        record { number = h.number; path = h.path; entry = h.entry; stands = h.at; is = h.is });
  }

  inside : (ps qs : List Part) → IsListing g w ps → IsListing g w qs → (p : Part) → Among ps p → Among qs p
  inside ps qs a b p i = let h = a.only p i in subst (Among qs) (sym h.is) (b.all h.number h.path h.entry h.stands)

  pub the_listing : IsDistinct (paths_of w) → IsTheOnly (IsListing g w) listing
  the_listing d = record {
    is = listed d;
    only = λ ps a.
        same_list ps listing a.order (listed d).order (inside ps listing a (listed d)) (inside listing ps (listed d) a);
  }

-- ---- a world and a state that agree

module _ (A : Machine) (part : Path → A.Local → Part) (R : Path → A.Local → Local ℕ → Type 0) (g : CodeRun)
    (t : List Path) (w : Entries (Local ℕ)) (revs : PathMap (Entry A.Local)) where
  -- an entry of the world has one of the state
  record Has (r : Path) (x : Option (Entry A.Local)) (e : Entry (Local ℕ)) : Type 0 where
    entry : Entry A.Local
    is : x ≡ Some entry
    related : R r (local_of entry) (local_of e)

  has : (r : Path) (x : Option (Entry A.Local)) (e : Entry (Local ℕ))
      → EntryAgrees A (machine_by (numbered g) t) R r x (Some e) → Has r x e
  has r None e h = absurd h
  has r (Some (Plain a)) (Plain b) h = record { entry = Plain a; is = refl; related = h }
  has r (Some (Plain a)) (Joined b) h = absurd h
  has r (Some (Joined a)) (Plain b) h = absurd h
  has r (Some (Joined a)) (Joined b) h = record { entry = Joined a; is = refl; related = h }

  -- and an entry of the state has one of the world
  record Back (r : Path) (f : Entry A.Local) (y : Option (Entry (Local ℕ))) : Type 0 where
    entry : Entry (Local ℕ)
    is : y ≡ Some entry
    related : R r (local_of f) (local_of entry)

  back : (r : Path) (f : Entry A.Local) (y : Option (Entry (Local ℕ)))
      → EntryAgrees A (machine_by (numbered g) t) R r (Some f) y → Back r f y
  back r f None h = absurd h
  back r (Plain a) (Some (Plain b)) h = record { entry = Plain b; is = refl; related = h }
  back r (Plain a) (Some (Joined b)) h = absurd h
  back r (Joined a) (Some (Plain b)) h = absurd h
  back r (Joined a) (Some (Joined b)) h = record { entry = Joined b; is = refl; related = h }

  module _ (distinct : IsDistinct (paths_of w))
      (agrees : (p : Path) → EntryAgrees A (machine_by (numbered g) t) R p (revs p) (globe_of w p))
      (alike : (n : ℕ) (r : Path) (e : Entry (Local ℕ)) (f : Entry A.Local) → at_number w n ≡ Some (r, e)
      → revs r ≡ Some f → R r (local_of f) (local_of e)
      → part_in g (paths_of w) r (local_of e) ≡ part r (local_of f)) where
    all_shown : (ps : List Part) → IsListing g w ps → (r : Path) (f : Entry A.Local) → revs r ≡ Some f
        → Among ps (part r (local_of f))
    all_shown ps l r f stands =
        let b = back r f (globe_of w r)
        (subst (λ v. EntryAgrees A (machine_by (numbered g) t) R r v (globe_of w r)) stands (agrees r)) in
        let n = schedules.numbered w r b.entry b.is in
        subst (Among ps) (alike n.0 r b.entry f n.1 stands b.related) (l.all n.0 r b.entry n.1)

    only_shown : (ps : List Part) → IsListing g w ps → (p : Part) → Among ps p → IsShown part revs p
    only_shown ps l p i =
        let o = l.only p i in
        let there = globe_there w o.number o.path o.entry distinct o.stands in
        let h = has o.path (revs o.path) o.entry
        (subst (EntryAgrees A (machine_by (numbered g) t) R o.path (revs o.path)) there (agrees o.path)) in
        record {
          path = o.path;
          entry = h.entry;
          stands = h.is;
          is = o.is ∙ alike o.number o.path o.entry h.entry o.stands h.is h.related;
        }

    pub world_lists : (ps : List Part) → IsListing g w ps → Lists part revs ps
    world_lists ps l = record { order = l.order; all = all_shown ps l; only = only_shown ps l }

-- ---- traces of the calculus

module _ (s : Setting) (revs : PathMap (Entry source.Local)) where
  abbrev Is : Path → Option Part → Option (Entry source.Local) → Type 0
  Is = calculus_trace.IsPartOf s

  is_among : (ps : List Part) (r : Path) (e : Entry source.Local) (o : Option Part) → part_at ps r ≡ o → Is r o (Some e)
      → Among ps (part_of s r (local_of e))
  is_among ps r e None at h = absurd h
  is_among ps r e (Some p) at h = subst (Among ps) h (found ps r p at).0

  is_shown : (p : Part) (x : Option (Entry source.Local)) → revs p.path ≡ x → Is p.path (Some p) x
      → IsShown (part_of s) revs p
  is_shown p None at h = absurd h
  is_shown p (Some e) at h = record { path = p.path; entry = e; stands = at; is = h }

  pub to_lists : (ps : List Part) → IsTrace s (Live revs) ps → Lists (part_of s) revs ps
  to_lists ps t = record {
    order = t.0;
    all = λ r e stands. is_among ps r e (part_at ps r) refl (subst (Is r (part_at ps r)) stands (t.1 r));
    only = λ p i.
        is_shown p (revs p.path) refl (subst (λ o. Is p.path o (revs p.path)) (at_own ps t.0 p i) (t.1 p.path));
  }

  each_part : (ps : List Part) → Lists (part_of s) revs ps
      → (r : Path) (o : Option Part) (x : Option (Entry source.Local)) → part_at ps r ≡ o → revs r ≡ x → Is r o x
  each_part ps l r None None at stands = tt
  each_part ps l r None (Some e) at stands =
      none_some (sym at ∙ at_own ps l.order (part_of s r (local_of e)) (l.all r e stands))
  each_part ps l r (Some p) None at stands =
      let f = found ps r p at in
      let h = l.only p f.0 in
      let path : h.path ≡ r = sym (ap (λ v. v.path) h.is) ∙ f.1 in
      none_some (sym stands ∙ ap revs (sym path) ∙ h.stands)
  each_part ps l r (Some p) (Some e) at stands =
      let f = found ps r p at in
      let h = l.only p f.0 in
      let path : h.path ≡ r = sym (ap (λ v. v.path) h.is) ∙ f.1 in
      let entry : h.entry ≡ e = some_inj (sym h.stands ∙ ap revs path ∙ stands) in
      h.is ∙ (λ i. part_of s (path i) (local_of (entry i)))

  pub of_lists : (ps : List Part) → Lists (part_of s) revs ps → IsTrace s (Live revs) ps
  of_lists ps l = (l.order, λ r. each_part ps l r (part_at ps r) (revs r) refl refl)

  pub the_trace : (ps : List Part) → Lists (part_of s) revs ps → IsTheOnly (IsTrace s (Live revs)) ps
  the_trace ps l = record { is = of_lists ps l; only = λ qs t. one_listing (part_of s) revs qs ps (to_lists qs t) l }
