-- A valid entry tells what the leg of a fresh revision of a world does.
--   Adopts      the revision of this number has a leg, which ends it; and this is what it leaves
--   ValidIsTheLeg   where its entry is valid
use Rattle.std.specs.Prelude.{◌≡◌, ℕ, ℤ, List, length, Some}
use Rattle.rev_num.specs.Path.{Path}
use Rattle.rev_code.specs.State.{State}
use Rattle.revision_machine.specs.Machine.{Plain}
use Rattle.revision_machine.specs.Numbered as numbers
use Rattle.revision_machine.specs.Numbered.{Entries, Listing, at_number, put_number, number_of}
use Rattle.code_machine.specs.Local.{CodeRun, under, Local, at_work, End, end_of}
use Rattle.code_machine.specs.Leg.{clock}
use Rattle.code_machine.specs.Machines.{numbered}
use Rattle.code_machine.specs.Renamed.{IsNumbered}
use Rattle.code_memos.specs.Renaming.{renamed_end}
use Rattle.code_memos.specs.Leaf.{Fresh, IsFresh, Known, IsKnown, IsValid, rerooted}

-- the same code under another input and share
abbrev pub other : CodeRun → List ℤ → (share : ℕ) → CodeRun
other g inputs share = record g { inputs = inputs; share = share }

pub record Adopts (g : CodeRun) (w : Entries (Local ℕ)) (n : ℕ) (r : Path) (end : End ℕ) : Type 0 where
  pub after : Local ℕ
  pub leg : numbers.leg (numbered g) (Listing w) n ≡ Some (Listing (put_number w n (r, Plain after)))
  pub end_is : end_of after ≡ end

-- the revision's state is that of a by the table, and a is fresh
abbrev pub ValidIsTheLeg : Type 0
ValidIsTheLeg =
    (g : CodeRun) (path : Path) (c : State Path) (e : Known) (known : IsKnown (under g) (clock g c) path c e)
    (inputs : List ℤ) (share : ℕ) (w : Entries (Local ℕ)) (n : ℕ) (r : Path) (t : List Path) (a : Local Path)
    (b : Local ℕ)
    → at_number w n ≡ Some (r, Plain b) → IsNumbered t r a b
    → (f : Fresh Path) (d : State Path) → a ≡ at_work d → IsFresh g.code f d
    → length f.snapshot ≡ length known.begins.snapshot → IsValid e r f inputs
    → Adopts (other g inputs share) w n r (renamed_end (number_of t) (rerooted f.snapshot e.end))
