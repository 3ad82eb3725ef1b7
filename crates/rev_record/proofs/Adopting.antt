-- What an entry of this code has left fits the code, and is the end of a revision that is known to end so.
use Rattle.std.proofs.Common.{◌≡◌, ◌∙◌, ◌⊎◌, inl, inr, ℕ, [], ◌∷◌, ◌++◌, length, Option, Some, None, refl, sym, ap, subst, arith, length-append}
use Rattle.rev_num.specs.Path.{Path, child}
use Rattle.rev_num.proofs.Options.{none_some, some_eq}
use Rattle.revision_machine.specs.PathMap.{with_at}
use Rattle.revision_machine.specs.Machine.{Moves, nowhere, Entry, Plain, Joined, Global, Live, Revisions, Reached, start, step, step_at, happens}
use Rattle.revision_machine.specs.Numbered as numbers
use Rattle.revision_machine.specs.Numbered.{Numbered, Wish, Goes, Bears, Wants, Stops, Entries, World, Both, Listing, at_number, put_number, leg_at, leg_of, join_number, join_stopped}
use Rattle.revision_machine.proofs.Lists.{at_below, at_put, below_at, put_here, put_length}
use Rattle.revision_machine.proofs.Paths.{at_here}
use Rattle.code_memos.specs.Births as births
use Rattle.code_memos.specs.Births.{Born}
use Rattle.code_memos.proofs.Births.{runs_then}
use Rattle.code_machine.specs.Local.{CodeRun, IsVerified, Local, at_work}
use Rattle.code_machine.specs.Leg.{leg}
use Rattle.code_machine.specs.Machines.{event_of, machine, numbered, IsMain}
use Rattle.code_machine.specs.Proper.{IsProper}
use Rattle.code_machine.proofs.Showing.{ends_fit}
use Rattle.code_machine.proofs.Typing.{states_proper}
use Rattle.code_memos.specs.Leaf.{Known}
use Rattle.code_memos.specs.Memo.{first, IsEntry}
use Rattle.code_memos.proofs.Adopting.{goes_ended}
use Rattle.rev_vm.specs.Meaning.{IsEnd}
use Rattle.rev_record.specs.EntryLaws.{AdoptsSo, KnownFits}
use Rattle.rev_record.specs.Standing.{EndFits}

-- ---- what an entry has left

module _ (g : CodeRun) (ok : IsVerified g) (n : ℕ) (m : IsMain g n) (fuel : ℕ) where
  -- one that is born stands so in a state that a run reaches
  record IsBornIn (r : Path) (l : Local Path) : Type 0 where
    revs : Revisions (machine g)
    reached : Reached (machine g) (first g n m fuel) (Live revs)
    there : revs r ≡ Some (Plain l)

  born_reached : (r : Path) (l : Local Path) → Born (machine g) (first g n m fuel) r l → IsBornIn r l
  born_reached r l (births.first is same) =
      record {
        revs = with_at nowhere [] (Plain (first g n m fuel));
        reached = record { by = []; runs = refl };
        there = ap (with_at nowhere [] (Plain (first g n m fuel))) is ∙ at_here nowhere [] (Plain (first g n m fuel))
            ∙ ap (λ z. Some (Plain z)) (sym same);
      }
  born_reached r l (births.forked f) =
      let M = machine g in
      let kid = child f.forker f.before.state.forks in
      let revs = with_at f.revs f.forker (Plain f.after) in
      let next : Global (Local Path) = Live (with_at revs kid (Plain l)) in
      let s : step M (Live f.revs) f.forker ≡ Some next =
      ap (step_at M f.revs f.forker) f.there ∙ ap (happens M f.revs f.forker f.before) f.forks in
      record {
        revs = with_at revs kid (Plain l);
        reached = record {
          by = f.reached.by ++ f.forker ∷ [];
          runs = runs_then M f.reached.by (start M (first g n m fuel)) (Live f.revs) next f.forker f.reached.runs s;
        };
        there = ap (with_at revs kid (Plain l)) f.is ∙ at_here revs kid (Plain l);
      }

  entry_fits : (e : Known) → IsEntry g n m fuel e → EndFits g.code e.end
  entry_fits e x =
      let l = x.known.after in
      let M = machine g in
      let at = born_reached e.path (at_work x.state) x.born in
      let next : Global (Local Path) = Live (with_at at.revs e.path (Plain l)) in
      let moves : M.next e.path (at_work x.state) ≡ Moves l =
      ap (event_of e.path x.state.forks) (goes_ended g (leg g x.state) l x.known.ended) in
      let s : step M (Live at.revs) e.path ≡ Some next =
      ap (step_at M at.revs e.path) at.there ∙ ap (happens M at.revs e.path (at_work x.state)) moves in
      let runs = runs_then M at.reached.by (start M (first g n m fuel)) (Live at.revs) next e.path at.reached.runs s in
      let proper : IsProper g l =
      states_proper g ok n m fuel next (record { by = at.reached.by ++ e.path ∷ []; runs = runs }) e.path (Plain l)
      (at_here at.revs e.path (Plain l)) in
      let fit = ends_fit g ok l proper in
      subst (λ z. EndFits g.code z) (sym x.known.end_is) (record { fit = fit.0; ascend = fit.1 })

pub known_fits : KnownFits
known_fits code e x = subst (λ z. EndFits z e.end) x.1 (entry_fits x.0 x.2 x.3 x.4 x.5 e x.6)

-- ---- a leg that puts one end

module _ (N : Numbered) (w : Entries N.Local) (n : ℕ) (r : Path) (l after : N.Local)
    (there : at_number w n ≡ Some (r, Plain l)) where
  abbrev Puts : Option (World N.Local) → Type 0
  Puts o = o ≡ Some (Listing (put_number w n (r, Plain after)))

  lists : (v : Entries N.Local) → Puts (Some (Listing v)) → v ≡ put_number w n (r, Plain after)
  lists v e = let z : Listing v ≡ Listing (put_number w n (r, Plain after)) = some_eq e in cc

  plain_same : (a b : N.Local) → ◌≡◌ {A = Entry N.Local} (Plain a) (Plain b) → a ≡ b
  plain_same a b e = cc

  apart : (a b : N.Local) → ◌≡◌ {A = Entry N.Local} (Joined a) (Plain b) → ⊥
  apart a b e = cc

  plain_once : (q : Path) (a b : N.Local)
      → ◌≡◌ {A = Option (Path × Entry N.Local)} (Some (q, Plain a)) (Some (q, Plain b)) → a ≡ b
  plain_once q a b e = plain_same a b (ap (λ (p : Path × Entry N.Local). p.1) (some_eq e))

  not_both : (q p : Path) (a b : N.Local) → ◌≡◌ {A = Path × Entry N.Local} (q, Joined a) (p, Plain b) → ⊥
  not_both q p a b e = apart a b (ap (λ (z : Path × Entry N.Local). z.1) e)

  goes_to : (l' : N.Local) → Puts (leg_of N w n r l (Goes l')) → l' ≡ after
  goes_to l' e =
      plain_once r l' after
      (sym (put_here w n (r, Plain l) (r, Plain l') there)
      ∙ ap (λ v. at_number v n) (lists (put_number w n (r, Plain l')) e)
      ∙ put_here w n (r, Plain l) (r, Plain after) there)

  not_borne : (f : ℕ → N.Local) (c : N.Local) → Puts (leg_of N w n r l (Bears f c)) → ⊥
  not_borne f c e =
      let v = put_number w n (r, Plain (f (length w))) in
      let kid : Path × Entry N.Local = (child r (N.forks l), Plain c) in
      let same = ap length (lists (v ++ kid ∷ []) e) in
      let a = length-append v (kid ∷ []) in
      let b = put_length w n (r, Plain (f (length w))) in
      let d = put_length w n (r, Plain after) in
      omega (arith, same, a, b, d)

  not_joined : (m : ℕ) (q : Path) (lq : N.Local) → at_number w m ≡ Some (q, Plain lq) → (x : N.Local)
      → put_number (put_number w n (r, Plain x)) m (q, Joined lq) ≡ put_number w n (r, Plain after) → ⊥
  not_joined m q lq is x same =
      let v = put_number w n (r, Plain x) in
      let inside = at_below w m (q, Plain lq) is in
      let long = put_length w n (r, Plain x) in
      let some = below_at v m (omega (arith, inside, long)) in
      by (at_put w n (r, Plain after) m (q, Joined lq)
      (ap (λ z. at_number z m) (sym same) ∙ put_here v m some.0 (q, Joined lq) some.1))
    where
      by : (at_number w m ≡ Some (q, Joined lq))
          ⊎ ((m ≡ n) × (◌≡◌ {A = Path × Entry N.Local} (q, Joined lq) (r, Plain after)))
          → ⊥
      by (inl e) = not_both q q lq lq (some_eq (sym e ∙ is))
      by (inr e) = not_both q r lq after e.1

  not_wanted : (m : ℕ) → Puts (leg_of N w n r l (Wants m)) → ⊥
  not_wanted m e = by (at_number w m) refl e
    where
      stopped : (q : Path) (lq : N.Local) → at_number w m ≡ Some (q, Plain lq) → (x : Wish N.Local)
          → Puts (join_stopped N w n r l m q lq x) → ⊥
      stopped q lq is Stops e =
          not_joined m q lq is (N.join l m lq)
          (lists (put_number (put_number w n (r, Plain (N.join l m lq))) m (q, Joined lq)) e)
      stopped q lq is (Goes k) e = none_some e
      stopped q lq is (Bears f c) e = none_some e
      stopped q lq is (Wants k) e = none_some e

      by : (o : Option (Path × Entry N.Local)) → at_number w m ≡ o → Puts (join_number N w n r l m o) → ⊥
      by None is e = none_some e
      by (Some (q, Joined lq)) is e = let z : Both ≡ Listing (put_number w n (r, Plain after)) = some_eq e in cc
      by (Some (q, Plain lq)) is e = stopped q lq is (N.next lq) e

  wish_goes : (x : Wish N.Local) → Puts (leg_of N w n r l x) → x ≡ Goes after
  wish_goes (Goes l') e = ap Goes (goes_to l' e)
  wish_goes (Bears f c) e = absurd (not_borne f c e)
  wish_goes (Wants m) e = absurd (not_wanted m e)
  wish_goes Stops e = none_some e

  pub puts_goes : Puts (numbers.leg N (Listing w) n) → N.next l ≡ Goes after
  puts_goes e = wish_goes (N.next l) (ap (leg_at N w n) (sym there) ∙ e)

pub adopts_so : AdoptsSo
adopts_so g w n r c there end a v is = record {
  path = r;
  state = c;
  there = there;
  ends = record {
    after = a.after;
    goes = puts_goes (numbered g) w n r (at_work c) a.after there a.leg;
    end = subst (λ z. IsEnd g z v) (sym a.end_is) is;
  };
}
