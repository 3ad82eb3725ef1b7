-- A joiner goes on behind its join.
use Rattle.std.proofs.Common.{◌≡◌, ◌∙◌, suc, Bool, [], Option, Some, None, refl, sym, subst}
use Rattle.std.specs.Prelude.{is_some}
use Rattle.rev_num.specs.Path.{Path}
use Rattle.rev_num.specs.declared.value.Value.TheVariants as v
use Rattle.name_tables.specs.Names.{Name}
use Rattle.revision_calculus.specs.Program.{Setting}
use Rattle.revision_calculus.specs.State.{Local}
use Rattle.revision_calculus.specs.Evaluation.{give}
use Rattle.rev_code.specs.State.{State}
use Rattle.rev_code.specs.Events as events
use Rattle.expression_meaning.specs.Agrees.{at_with}
use Rattle.expression_meaning.specs.Places.{Tables}
use Rattle.expression_meaning.specs.States.{IsShared, Waits, Below, Behind, joined_kind, AtJoin}
use Rattle.program_meaning.specs.Steps.{Carries}
use Rattle.program_meaning.specs.StatementLaws.{IsPast}
use Rattle.program_meaning.proofs.Linked.{IsLinked}
use Rattle.program_meaning.proofs.Resume.{Resumed, resume}

module _ (s : Setting) (g : Tables) (lk : IsLinked s g) where
  carries : (left : Option Name) (done : Bool)
      → Carries (joined_kind s g left) (Some (v.Bool done)) (events.told (is_some left) done [])
  carries None done = refl
  carries (Some w) done = (refl, refl)

  pub goes_on_behind : (l : Local) (left : Option Name) (q : Path) (c : State Path) → AtJoin s g l left q c
      → (done : Bool) (joined : Local) (past : State Path) → joined.frames ≡ l.frames
      → IsPast c past (is_some left) done → IsShared joined past
      → Resumed s g (give s joined left (Some (v.Bool done))) past
  goes_on_behind l left q c at done joined past frames is shared =
      let b = at.behind in
      let frame : record { block = c.block; at = suc c.at; locals = c.locals }
      ≡ record { block = past.block; at = past.at; locals = past.locals } =
      (let x = is.block in
      let y = is.at in
      let z = is.locals in
      λ j. record { block = sym x j; at = sym y j; locals = sym z j }) in
      let waits : Waits s g b.block left (joined_kind s g left) at.top
      (record { block = past.block; at = past.at; locals = past.locals }) =
      subst (λ w. Waits s g b.block left (joined_kind s g left) at.top w) frame b.waits in
      let below : Below s g at.top.left b.block.result at.others past.below =
      subst (λ w. Below s g at.top.left b.block.result at.others w) (sym is.below) b.below in
      let behind : Behind s g joined left (joined_kind s g left) at.top at.others past =
      record { shared = shared; frames = frames ∙ b.frames; block = b.block; waits = waits; below = below } in
      let got =
      resume s g lk joined left (joined_kind s g left) (Some (v.Bool done)) at.top at.others past
      (events.told (is_some left) done []) behind (carries left done) in
      subst (λ w. Resumed s g (give s joined left (Some (v.Bool done))) (at_with past past.at w)) (sym is.stack) got
