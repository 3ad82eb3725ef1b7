-- From one computed complete run to every complete run.
use Rattle.std.proofs.Common.{◌≡◌, ℕ, Bool, List, [], Option, Some, refl, subst}
use Rattle.std.specs.Prelude.{option_map}
use Rattle.rev_num.specs.Path.{Path}
use Rattle.rev_report.specs.Report.{Output}
use Rattle.revision_machine.specs.Machine.{Global, Complete, Reached}
use Rattle.revision_machine.proofs.Ends.{unique_end}
use Rattle.revision_calculus.specs.Program.{Setting}
use Rattle.revision_calculus.specs.State.{Local}
use Rattle.revision_calculus.specs.Calculus.{main, calculus}
use Rattle.revision_calculus.specs.Complete.{start_of, Always, report_of, Reports, state_at, Tells}
use Rattle.revision_calculus.proofs.Meets.{counts}
use Rattle.revision_calculus.proofs.Played.{told, latest, Told, complete_of}

pub always : {X : Type 0} (s : Setting) (fuel : ℕ) (f : Global Local → Option X) (rs : List Path) (x : X)
    → told (calculus s) f (main s fuel) rs ≡ Some x → Always s fuel (λ g. f g ≡ Some x)
always {X} s fuel f rs x e = record { by = rs; end = one.end; complete = one.complete; each = each }
  where
    one : Told (calculus s) f (main s fuel) rs x
    one = complete_of (calculus s) f (main s fuel) rs x e

    here : Reached (calculus s) (main s fuel) (start_of s fuel)
    here = record { by = []; runs = refl }

    each : (ps : List Path) (g : Global Local) → Complete (calculus s) (start_of s fuel) ps g → f g ≡ Some x
    each ps g c =
        subst (λ h. f h ≡ Some x)
        (unique_end (calculus s) (main s fuel) (counts s) (start_of s fuel) one.end g rs ps here one.complete c)
        one.tells

-- at most this many steps, the latest revision first
abbrev pub run_latest : ℕ → Setting → ℕ → List Path
run_latest n s fuel = latest (calculus s) n (main s fuel)

pub reports : (s : Setting) (fuel : ℕ) (asked : Bool) (rs : List Path) (r : Output)
    → told (calculus s) (report_of s asked) (main s fuel) rs ≡ Some r → Reports s fuel asked r
reports s fuel asked rs r e = always s fuel (report_of s asked) rs r e

pub always_tells : {X : Type 0} (s : Setting) (fuel : ℕ) (r : Path) (f : Local → X) (rs : List Path) (x : X)
    → told (calculus s) (λ g. option_map f (state_at r g)) (main s fuel) rs ≡ Some x → Tells s fuel r f x
always_tells s fuel r f rs x e = always s fuel (λ g. option_map f (state_at r g)) rs x e
