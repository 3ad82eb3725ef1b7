-- Legs whose ends are taken over.
use Rattle.std.proofs.Common.{◌≡◌, ◌∙◌, ℕ, ◌+◌, ◌≤◌, List, [], ◌∷◌, ◌++◌, length, Some, None, sym, ap, subst, arith, length-append}
use Rattle.std.specs.List.{slice_get}
use Rattle.std.specs.Prelude.{slice_index_or}
use Rattle.rev_num.specs.Path.{Path}
use Rattle.rev_num.proofs.Options.{some_eq}
use Rattle.version_map.specs.declared.end.EndValue.{EndValue}
use Rattle.rev_vm.specs.Meaning.{IsEnd}
use Rattle.revision_machine.specs.Machine.{Plain}
use Rattle.revision_machine.specs.Laws.{IsDistinct}
use Rattle.revision_machine.specs.Numbered as numbers
use Rattle.revision_machine.specs.Numbered.{Entries, World, Both, Listing, at_number, number_of, path_in, or_path, paths_of}
use Rattle.revision_machine.specs.PathIndex.{IsPlace}
use Rattle.revision_machine.proofs.Numbers.{length-paths, path_at}
use Rattle.code_machine.specs.Local.{CodeRun, IsVerified, Local, at_work}
use Rattle.code_machine.specs.Machines.{numbered}
use Rattle.code_machine.proofs.Starting.{entry_bound}
use Rattle.code_memos.specs.Renaming.{renamed_end}
use Rattle.code_memos.specs.Leaf.{Known, IsValid, rerooted}
use Rattle.code_memos.specs.Memo.{IsAmong}
use Rattle.code_memos.specs.ByNumber.{Refused}
use Rattle.code_memos.specs.Freshness.{FreshByNumber}
use Rattle.code_memos.proofs.ByNumber.{adopt_by_number}
use Rattle.code_world.specs.declared.answer.LegAnswer.{LegAnswer}
use Rattle.code_world.specs.declared.freshness.FreshStart.{FreshStart}
use Rattle.code_world.specs.declared.world.World as rust_world
use Rattle.code_world.specs.Beginnings.{FreshAt}
use Rattle.code_world.specs.Endings.{Names}
use Rattle.code_world.specs.declared.table.Birth.{Birth}
use Rattle.code_machine_laws.proofs.Reaching.{small}
use Rattle.code_world.specs.Tables.{IsWorld}
use Rattle.world_runs.specs.KeptByLegs.{KeepsOn}
use Rattle.rev_record.specs.SoFar.{LeafLeg}
use Rattle.rev_record.proofs.Leaves.{one_row, adopted_is_leaf}
use Rattle.rev_record.proofs.Keeping.{counted_without, counted_with}
use Rattle.rev_record.specs.declared.entry.LeafEntry.{LeafEntry}
use Rattle.rev_record.proofs.Adopting.{adopts_so}
use Rattle.rev_record.specs.Entries.{paths, AreKnown}
use Rattle.rev_record.specs.Legs.{IsFrom, IsRepeated, StandsFresh, IsTaken}
use Rattle.rev_record.proofs.Known.{known_paths, KnownAt, path_place, known_at, path_among, one_known, found}
use Rattle.rev_record.proofs.Legs.{reached_from, from_on, keeps_on, no_leg_in_twice, start_unlisted, by_path, leaf_not}

-- ---- where nothing is added

module _ (g : CodeRun) (ok : IsVerified g) (fuel : ℕ) (es : List Known) (ks : List LeafEntry) (count : ℕ) where
  -- a leg of a revision that is refused, if it is a leaf
  pub repeated_on : (w : Entries (Local ℕ)) (n : ℕ) (rep : IsRepeated g fuel es (Listing w) ks count)
      → ((r : Path) (l : Local ℕ) → LeafLeg g w n r l → Refused g rep.from.number rep.from.main fuel es r)
      → (a : LegAnswer)
      → KeepsOn (λ u. IsRepeated g fuel es u ks count) g (Listing w) n a
  unfolding from_on
  repeated_on w n rep refused a =
      keeps_on (λ u. IsRepeated g fuel es u ks count) g (Listing w) n a rep (λ u e. next u e)
    where
      next : (u : World (Local ℕ)) → numbers.leg (numbered g) (Listing w) n ≡ Some u → IsRepeated g fuel es u ks count
      next u e = record {
        from = from_on g fuel (Listing w) u n rep.from e;
        stand = rep.stand;
        taken = rep.taken;
        many = rep.many;
        few = (let few = rep.few in let more = length-append rep.from.schedule (n ∷ []) in omega (arith, few, more));
        so_far = counted_without g ok rep.from.number rep.from.main fuel rep.from.few rep.from.schedule w
            rep.from.replays n u e es refused rep.taken rep.so_far;
      }

  -- of one that is not fresh
  pub repeated_old : (v : rust_world.World) (w : World (Local ℕ)) (n : ℕ) → IsWorld g v w → FreshAt g v w n None
      → IsRepeated g fuel es w ks count → (a : LegAnswer) → KeepsOn (λ u. IsRepeated g fuel es u ks count) g w n a
  repeated_old v Both n is none rep a =
      keeps_on (λ u. IsRepeated g fuel es u ks count) g Both n a rep (λ u e. no_leg_in_twice g n u e)
  repeated_old v (Listing w) n is none rep a =
      repeated_on w n rep (λ r l leaf. absurd (leaf_not g ok fuel v w rep.from is n none r l leaf)) a

  -- ---- where one is counted

  -- no more than there are legs
  pub few_taken : (w : World (Local ℕ)) → IsRepeated g fuel es w ks count → count ≤ 12000000002
  few_taken w rep =
      let b = entry_bound g ok rep.from.number rep.from.main fuel rep.from.schedule w rep.from.replays in
      let few = rep.few in
      let most = rep.from.few in
      omega (arith, b, few, most)

  pub repeated_more : (w : Entries (Local ℕ)) (n : ℕ) (rep : IsRepeated g fuel es (Listing w) ks count) (v : EndValue)
      → IsTaken g fuel es w n rep.from (Some v) → (u : World (Local ℕ))
      → numbers.leg (numbered g) (Listing w) n ≡ Some u
      → (count' : ℕ) → count' ≡ count + 1 → IsRepeated g fuel es u ks count'
  unfolding from_on
  repeated_more w n rep v (r, l, leaf, valid, so) u e count' is = record {
    from = from_on g fuel (Listing w) u n rep.from e;
    stand = rep.stand;
    taken = rep.taken ++ r ∷ [];
    many = (let many = rep.many in let more = length-append rep.taken (r ∷ []) in omega (arith, many, more, is));
    few = (let few = rep.few in let more = length-append rep.from.schedule (n ∷ []) in omega (arith, few, more, is));
    so_far = counted_with g ok rep.from.number rep.from.main fuel rep.from.few rep.from.schedule w rep.from.replays n u
        e r l leaf es valid rep.taken rep.so_far;
  }

-- ---- the entry of a fresh revision

module _ (g : CodeRun) (ok : IsVerified g) (fuel : ℕ) (es : List Known) (ks : List LeafEntry)
    (stand : AreKnown g.code ks es) (distinct : IsDistinct (paths ks)) (w : Entries (Local ℕ))
    (from : IsFrom g fuel (Listing w)) (n : ℕ) (x : FreshStart) (h : StandsFresh g w n x) where
  unlisted : h.state.listed ≡ []
  unlisted = start_unlisted g ok fuel w from n x h

  abbrev pub by_this : FreshByNumber g from.number from.main fuel (paths_of w) h.path (at_work h.state)
  by_this = by_path g ok fuel w from n x h

  pub own_path : (p : Path) → p ≡ path_in (paths_of w) n → p ≡ h.path
  own_path p is = is ∙ ap (λ o. or_path o []) (path_at w n h.path (Plain (at_work h.state)) h.there)

  abbrev IsValidHere : Known → Type 0
  IsValidHere e = IsValid e h.path by_this.begins.begins g.inputs

  -- where none of them is valid
  refuse : ((e : Known) → IsAmong g from.number from.main fuel e es → IsValidHere e → ⊥)
      → IsTaken g fuel es w n from None
  refuse none r l leaf =
      let row =
      one_row (at_number w n) h.path r (Plain (at_work h.state)) (Plain (at_work leaf.state)) h.there leaf.there in
      subst (Refused g from.number from.main fuel es) row.0
      (record {
        state = by_this.state;
        born = by_this.begins.born;
        begins = by_this.begins.begins;
        fresh = by_this.begins.fresh;
        none = none;
      })

  -- none has this path
  pub refuse_none : (p : Path) → p ≡ h.path → IsPlace p (paths ks) None → IsTaken g fuel es w n from None
  refuse_none p is none =
      refuse
      (λ e i valid. none (path_among g from.number from.main fuel g.code ks es stand e i p (valid.path_is ∙ sym is)))

  -- for what the entry of this path stands
  pub entry_here : (p : Path) (i : ℕ) → p ≡ h.path → IsPlace p (paths ks) (Some i) → (k : LeafEntry)
      → slice_get ks i ≡ Some k → KnownAt g from.number from.main fuel g.code k es
  entry_here p i is place k there = known_at g from.number from.main fuel g.code ks es stand i k there

  -- it is not valid, and it is the only one
  pub refuse_this : (p : Path) (i : ℕ) → p ≡ h.path → IsPlace p (paths ks) (Some i) → (k : LeafEntry)
      → slice_get ks i ≡ Some k → (y : KnownAt g from.number from.main fuel g.code k es) → (IsValidHere y.known → ⊥)
      → IsTaken g fuel es w n from None
  refuse_this p i is place k there y not = refuse (λ e among valid.
      (let own = path_place ks i p place in
      let same : own.0 ≡ k = some_eq (sym own.1 ∙ there) in
      let path : y.known.path ≡ h.path = sym y.stands.path ∙ sym (ap (λ (z : LeafEntry). z.path) same) ∙ own.2 ∙ is in
      let one : e ≡ y.known =
      one_known g from.number from.main fuel es
      (subst IsDistinct (known_paths g from.number from.main fuel g.code ks es stand) distinct) e y.known among y.among
      (valid.path_is ∙ sym path) in
      not (subst IsValidHere one valid)))

  -- it is valid, and this is its end
  pub take : (k : LeafEntry) (y : KnownAt g from.number from.main fuel g.code k es) → IsValidHere y.known
      → (v : EndValue)
      → IsEnd g (renamed_end (number_of (paths_of w)) (rerooted by_this.begins.begins.snapshot y.known.end)) v
      → IsTaken g fuel es w n from (Some v)
  take k y valid v end =
      let a = adopt_by_number g ok from.number from.main fuel from.schedule w from.replays n h.path h.state h.there
      unlisted by_this es y.known y.for valid in
      let leaf = adopted_is_leaf g w n h.path h.state _ h.there unlisted a.adopts in
      (h.path, a.adopts.after, leaf.0, a.valid y.among, adopts_so g w n h.path h.state h.there _ a.adopts v end)

  -- the entry at a place
  pub there_at : (p : Path) (i : ℕ) → p ≡ h.path → IsPlace p (paths ks) (Some i) → (k : LeafEntry)
      → k ≡ slice_index_or ks i k → slice_get ks i ≡ Some k
  there_at p i is place k same = let x = path_place ks i p place in x.1 ∙ ap Some (sym (same ∙ found ks i x.0 k x.1))

  pub births_few : (births : List Birth) → Names births (paths_of w) → length births ≤ 4294967296
  births_few births names =
      let all = names.all in
      let many = length-paths w in
      let few = small g ok w (reached_from g fuel (Listing w) from) in
      omega (arith, all, many, few)
