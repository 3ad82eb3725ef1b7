-- The notes of a leg, and at the start.
--   noted_after    the notes after a leg are those of the world there
--   first_in, noted_there, finished_noting
--                  from notes to a reference that they stand behind, and back
--   first_noted    the notes at the start
use Rattle.std.proofs.Common.{◌≡◌, ◌∙◌, ℕ, List, [], ◌∷◌, length, Option, Some, refl, sym, ap, subst}
use Rattle.std.specs.Borrow.{MutBor}
use Rattle.std.specs.Global.{Global}
use Rattle.std.specs.Prelude.{Vec}
use Rattle.rev_num.specs.Path.{Path}
use Rattle.leg_run.specs.declared.revision.Meeting.{Meeting}
use Rattle.revision_machine.specs.Machine.{Entry, Plain}
use Rattle.revision_machine.specs.Laws.{local_of}
use Rattle.revision_machine.specs.Numbered.{Entries, World, Both, Listing, at_number, begin}
use Rattle.code_machine.specs.Local.{CodeRun, IsVerified, Local}
use Rattle.code_machine.specs.Machines.{IsMain, numbered, start_in}
use Rattle.code_world.specs.declared.answer.LegAnswer.{LegAnswer}
use Rattle.code_world.specs.declared.world.World as rust
use Rattle.code_world.specs.Answers.{LegAnswers}
use Rattle.code_world.specs.Meetings as told
use Rattle.code_world.specs.Tables.{IsWorld}
use Rattle.code_world.proofs.Rows.{none_some, some_same}
use Rattle.code_machine_laws.specs.Reached.{IsReached}
use Rattle.world_runs.specs.KeptByLegs.{KeepsOn, HasFinishedKeeping}
use Rattle.world_runs.specs.declared.noted.Noted.{Noted}
use Rattle.world_runs.specs.Changes.{HasNoted}
use Rattle.world_runs.specs.Notes.{IsNoted, NotesOf}
use Rattle.world_runs.specs.NotedRuns.{AreNotesIn, HasFinishedNoting}
use Rattle.world_runs.proofs.Noting.{notes_after, not_over}

pub noted_after : (g : CodeRun) → IsVerified g → (w : World (Local ℕ)) (v : rust.World) → IsReached g w → IsWorld g v w
    → (n : ℕ) (old new : List Noted) → NotesOf g w old → (a : LegAnswer) (m : Option Meeting) (v' : rust.World)
    → LegAnswers g w n a v'
    → ((x : Entries (Local ℕ)) → IsReached g (Listing x) → IsWorld g v (Listing x) → told.HasNoted g x n a m)
    → HasNoted v' n a m old new → KeepsOn (λ u. NotesOf g u new) g w n a
noted_after g ok Both v h is n old new noted a m v' (twice, gone) of changed =
    subst (KeepsOn (λ u. NotesOf g u new) g Both n) (sym twice) (λ u leg. none_some leg)
noted_after g ok (Listing w) v h is n old new noted a m v' l of changed =
    notes_after g ok w h n m v' old new noted a l (of w h is) changed

-- ---- notes behind a reference

module _ (g : CodeRun) (w : World (Local ℕ)) (place : MutBor (Vec Noted Global)) where
  pub first_in : (v : Vec Noted Global) → place.now ≡ v → NotesOf g w v.items → AreNotesIn g w place place
  first_in v is noted =
      record { same = refl; noted = subst (λ (x : Vec Noted Global). NotesOf g w x.items) (sym is) noted }

  pub noted_there : (notes : MutBor (Vec Noted Global)) → AreNotesIn g w place notes → (ns : List Noted)
      → ns ≡ notes.now.items → NotesOf g w ns
  noted_there notes k ns is = subst (NotesOf g w) (sym is) k.noted

pub finished_noting : (g : CodeRun) (w : World (Local ℕ)) (v : rust.World) (place notes : MutBor (Vec Noted Global))
    → HasFinishedKeeping (λ u x. AreNotesIn g u place notes) g w v → (ns : List Noted) → ns ≡ notes.now.items
    → HasFinishedNoting g w v ns
finished_noting g w v place notes f ns is =
    record { finished = f.finished; noted = noted_there g f.finished.end place notes f.kept ns is }

-- ---- the start

pub first_noted : (g : CodeRun) (fuel n : ℕ) (m : IsMain g n) (x : Noted) (ns : List Noted) → x.meetings.items ≡ []
    → ns ≡ x ∷ [] → NotesOf g (begin (numbered g) (start_in g n m.body fuel)) ns
first_noted g fuel n m x ns none is = record { count = ap length is; each = each }
  where
    each : (k : ℕ) (r : Path) (e : Entry (Local ℕ)) (y : Noted)
        → at_number {A = Path × Entry (Local ℕ)} (([], Plain (start_in g n m.body fuel)) ∷ []) k ≡ Some (r, e)
        → at_number ns k ≡ Some y → IsNoted g (local_of e) y
    each Rattle.std.proofs.Common.zero r e y at here =
        let z : ◌≡◌ {A = Path × Entry (Local ℕ)} ([], Plain (start_in g n m.body fuel)) (r, e) = some_same at in
        let it : Plain (start_in g n m.body fuel) ≡ e = ap (λ (p : Path × Entry (Local ℕ)). p.1) z in
        let same : x ≡ y = some_same (ap (λ z. at_number z 0) (sym is) ∙ here) in
        subst (λ (p : Entry (Local ℕ)). IsNoted g (local_of p) y) it
        (record {
          listed = ap (Rattle.std.specs.Prelude.map Rattle.leg_run.specs.Standing.listed_as)
              (sym none ∙ ap (λ (p : Noted). p.meetings.items) same);
          left = λ over. absurd (not_over (start_in g n m.body fuel) refl over);
        })
    each (Rattle.std.proofs.Common.suc k) r e y at here = none_some at
