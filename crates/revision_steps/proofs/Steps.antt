-- What a revision does next, where a statement was taken out of its frame.
use Rattle.std.proofs.Common.{◌≡◌, ℕ, zero, suc, ◌<◌, List, [], ◌∷◌, length, Option, Some, None, refl, sym, ap, subst, arith}
use Rattle.rev_num.specs.Path.{Path}
use Rattle.rev_syntax.specs.Trees.{PlacedName, Expression, Statement, statement, assign_cell, repeat, Statements}
use Rattle.revision_machine.specs.Machine.{Moves}
use Rattle.revision_calculus.specs.Program.{Setting}
use Rattle.revision_calculus.specs.State.{Frame, Local}
use Rattle.revision_calculus.specs.Step.{by_frames, does, end_frame}
use Rattle.revision_steps.specs.Forms as form
use Rattle.revision_state.specs.Remaining.{with_next}
use Rattle.revision_steps.specs.Owns.{begun}

-- the state before the statement was taken out
abbrev pub with_statement : Option Statement → Local → Local
with_statement found l = record l { frames = with_next found l.frames }

begins_by : (s : Setting) (r : Path) (l : Local) (x : Statement) (frames : List Frame) (fuel : ℕ)
    → 0 < length (with_next (Some x) frames)
    → by_frames s r (record l { frames = with_next (Some x) frames; fuel = fuel }) (with_next (Some x) frames)
    ≡ begun s r (record l { frames = frames; fuel = fuel }) x
begins_by s r l x [] fuel some = absurd (omega arith)
begins_by s r l (statement at line form) (f ∷ fs) zero some = refl
begins_by s r l (statement at line form) (f ∷ fs) (suc fuel) some = refl

pub begins : (s : Setting) (r : Path) (old new : Local) (x : Statement) → old ≡ with_statement (Some x) new
    → 0 < length old.frames → by_frames s r old old.frames ≡ begun s r new x
begins s r old new x e some =
    subst (λ (l : Local). 0 < length l.frames → by_frames s r l l.frames ≡ begun s r new x) (sym e)
    (begins_by s r new x new.frames new.fuel) some

ends_by : (s : Setting) (r : Path) (l : Local) (frames : List Frame) → 0 < length (with_next None frames)
    → by_frames s r (record l { frames = with_next None frames }) (with_next None frames)
    ≡ Moves (end_frame s (record l { frames = frames }) frames None)
ends_by s r l [] some = absurd (omega arith)
ends_by s r l (f ∷ []) some = refl
ends_by s r l (f ∷ g ∷ fs) some = refl

pub ends : (s : Setting) (r : Path) (old new : Local) → old ≡ with_statement None new → 0 < length old.frames
    → by_frames s r old old.frames ≡ Moves (end_frame s new new.frames None)
ends s r old new e some =
    subst (λ (l : Local). 0 < length l.frames → by_frames s r l l.frames ≡ Moves (end_frame s new new.frames None))
    (sym e) (ends_by s r new new.frames) some

-- ---- two forms of statements

pub cell_does : (s : Setting) (r : Path) (l : Local) (x : Statement) (at line : ℕ) (a : PlacedName)
    (index e : Expression)
    → x ≡ statement at line (assign_cell a index e) → form.assigns_cell s r l a.text index e ≡ does s r l x
cell_does s r l x at line a index e h = ap (does s r l) (sym h)

pub while_does : (s : Setting) (r : Path) (l : Local) (x : Statement) (at line : ℕ) (test : Expression)
    (block : Statements)
    → x ≡ statement at line (repeat test block) → form.repeats s r l x test block ≡ does s r l x
while_does s r l x at line test block h =
    subst (λ (y : Statement). form.repeats s r l y test block ≡ does s r l y) (sym h) refl
