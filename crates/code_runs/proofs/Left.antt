-- What `main` left in a world without a leg.
use Rattle.std.proofs.Common.{◌≡◌, ◌∙◌, ℕ, [], Option, Some, None, refl, sym, ap}
use Rattle.rev_num.specs.Path.{Path}
use Rattle.rev_num.specs.declared.outcome.Outcome.TheVariants as o
use Rattle.version_map.specs.declared.end.EndValue.{EndValue}
use Rattle.revision_machine.specs.Laws.{local_of}
use Rattle.revision_machine.specs.Machine.{Entry, Plain}
use Rattle.revision_machine.specs.Numbered.{Entries, World, Both, Listing, at_number}
use Rattle.code_machine.specs.Local.{CodeRun, IsVerified, Local}
use Rattle.code_machine.specs.Outcome.{outcome}
use Rattle.code_machine.specs.Proper.{IsOver}
use Rattle.code_machine.proofs.Ending.{none_blocked}
use Rattle.code_machine_laws.specs.Reached.{IsReached, snapshots}
use Rattle.code_machine_laws.proofs.Reaching.{main_stands}
use Rattle.code_world.specs.Endings.{HasNoLeg, IsEndAt}
use Rattle.code_world.proofs.Ended.{at_work_still}
use Rattle.code_world.proofs.Rows.{some_same}
use Rattle.code_runs.specs.Ends.{IsEndOfMain}

-- the state that it ended in
pub record MainLeft (g : CodeRun) (w : World (Local ℕ)) (v : EndValue) : Type 0 where
  pub entries : Entries (Local ℕ)
  pub is : w ≡ Listing entries
  pub path : Path
  pub entry : Entry (Local ℕ)
  pub there : at_number entries 0 ≡ Some (path, entry)
  pub end : IsEndOfMain g (local_of entry) v

module _ (g : CodeRun) (ok : IsVerified g) where
  pub left_by : (w : World (Local ℕ)) → IsReached g w → (v : EndValue) → IsEndAt g w 0 (Some v) → MainLeft g w v
  left_by Both h v e = absurd (let z : ◌≡◌ {A = Option EndValue} (Some v) None = e in cc)
  left_by (Listing w) h v (r, e, at, end) =
      let m = main_stands g ok w h in
      let same : ◌≡◌ {A = Path × Entry (Local ℕ)} (r, e) ([], Plain m.0) = some_same (sym at ∙ m.1) in
      record {
        entries = w;
        is = refl;
        path = r;
        entry = e;
        there = at;
        end = record {
          end = end;
          starts = ap (λ (x : Path × Entry (Local ℕ)). snapshots (local_of x.1).state.locations) same ∙ m.2;
        };
      }

  -- only in Twice it left nothing
  pub none_left : (w : World (Local ℕ)) → IsReached g w → HasNoLeg g w → IsEndAt g w 0 None → outcome g w ≡ Some o.Twice
  none_left Both h over e = refl
  none_left (Listing w) h over e =
      let m = main_stands g ok w h in
      let is : IsOver m.0 =
      none_blocked g ok h.number h.main h.fuel h.schedule (Listing w) h.replays over 0 [] (Plain m.0) m.1 in
      absurd (at_work_still m.0 is (e [] (Plain m.0) m.1))
