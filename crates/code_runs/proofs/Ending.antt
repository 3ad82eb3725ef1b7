-- The outcome of `main` is made of what it left.
use Rattle.std.proofs.Common.{◌≡◌, ◌∙◌, ℕ, ◌+◌, List, Some, refl, sym, ap, arith}
use Rattle.rev_num.specs.Path.{Path}
use Rattle.rev_num.specs.declared.outcome.Outcome.{Outcome}
use Rattle.rev_num.specs.declared.outcome.Outcome.TheVariants as o
use Rattle.rev_num.specs.declared.outcome.Shown.{Shown}
use Rattle.rev_num.specs.declared.outcome.Trap.{Trap as PathTrap}
use Rattle.rev_code.specs.declared.code.CodeVar.{CodeVar}
use Rattle.revision_machine.specs.Laws.{local_of}
use Rattle.revision_machine.specs.Machine.{Entry}
use Rattle.revision_machine.specs.Numbered.{Entries, Listing, at_number, paths_of}
use Rattle.version_map.specs.declared.end.CodeTrap.{CodeTrap}
use Rattle.version_map.specs.declared.end.EndValue.{EndValue}
use Rattle.version_map.specs.declared.end.Finish.{Finish}
use Rattle.version_map.specs.declared.end.Finish.TheVariants as finish
use Rattle.version_map.specs.declared.end.Written.{Written}
use Rattle.code_machine.specs.Local.{CodeRun, IsVerified, Local, Phase, running, done, trapped}
use Rattle.code_machine.specs.Joining.{main_at}
use Rattle.rev_code.specs.State.{seen_at}
use Rattle.code_machine.specs.Outcome.{origin_path, end_as, main_outcome, outcome, outcome_with, show_all}
use Rattle.rev_vm.specs.Meaning.{IsPhase}
use Rattle.rev_vm.specs.Opening.{words_at_start}
use Rattle.rev_vm.proofs.Mains.{start_many}
use Rattle.code_runs.specs.Births.{path_in}
use Rattle.code_runs.specs.Ends.{IsEndOfMain}
use Rattle.code_runs.specs.Words.{written_over, variables_shown}
use Rattle.code_runs.proofs.Overlays.{length_over}
use Rattle.code_runs.proofs.Starting.{good, view_word}
use Rattle.code_runs.proofs.Shows.{all_same}

pub shown_as : (path : ℕ → Path) (vs vars : List CodeVar) (ws words : List ℕ) (written whole : List Written) → vs ≡ vars
    → ws ≡ words → words ≡ written_over (words_at_start vars) written → written ≡ whole
    → variables_shown path vs ws ≡ variables_shown path vars (written_over (words_at_start vars) whole)
shown_as path vs vars ws words written whole a b c d =
    (λ i. variables_shown path (a i) (b i)) ∙ ap (variables_shown path vars) c
    ∙ ap (λ x. variables_shown path vars (written_over (words_at_start vars) x)) d

module _ (g : CodeRun) (ok : IsVerified g) (path : ℕ → Path) (l : Local ℕ) (v : EndValue) (shown : List Shown)
    (is : IsEndOfMain g l v) where
  abbrev words : List ℕ
  words = written_over (words_at_start g.code.vars) v.written

  values_same : show_all path l.state.locations 0 g.code.vars
      ≡ variables_shown path g.code.vars (written_over (words_at_start g.code.vars) v.written)
  values_same =
      all_same path l.state.locations g.code.vars (good g.code ok) 0
      (written_over (words_at_start g.code.vars) v.written)
      (length_over (words_at_start g.code.vars) v.written ∙ start_many g.code.vars)
      (λ j kind at.
      ap (λ m. main_at (seen_at l.state.locations m)) (let e : 0 + j ≡ j = omega arith in e)
      ∙ view_word g.code.vars (good g.code ok) l.state.locations v.written is.starts is.end.written j kind at)

  abbrev outcome_as : Finish → List ℕ → List Shown → Outcome
  outcome_as finish.Done text values = o.Done text values
  outcome_as (finish.Trapped u) text values =
      o.Trapped text values (record { cause = u.cause; line = u.line; origin = origin_path path u.origin })

  by_phase : (p : Phase ℕ) (f : Finish) (text : List ℕ) (values : List Shown) → IsPhase p f
      → end_as path text values p ≡ Some (outcome_as f text values)
  by_phase running f text values h = absurd h
  by_phase done finish.Done text values h = refl
  by_phase done (finish.Trapped u) text values h = absurd h
  by_phase (trapped t) finish.Done text values h = absurd h
  by_phase (trapped t) (finish.Trapped u) text values h =
      let a = sym h.cause in
      let b = sym h.line in
      let c = sym h.origin in
      λ i. Some (o.Trapped text values (record { cause = a i; line = b i; origin = origin_path path (c i) }))

  of_end : shown ≡ variables_shown path g.code.vars (written_over (words_at_start g.code.vars) v.written)
      → main_outcome path g l ≡ Some (outcome_as v.finish v.text shown)
  of_end made =
      let text = sym is.end.text in
      let values = values_same ∙ sym made in
      by_phase l.phase v.finish l.state.text (show_all path l.state.locations 0 g.code.vars) is.end.phase
      ∙ (λ i. Some (outcome_as v.finish (text i) (values i)))

  pub done_outcome : v.finish ≡ finish.Done
      → shown ≡ variables_shown path g.code.vars (written_over (words_at_start g.code.vars) v.written)
      → main_outcome path g l ≡ Some (o.Done v.text shown)
  done_outcome ends made = of_end made ∙ ap (λ f. Some (outcome_as f v.text shown)) ends

module _ (g : CodeRun) (ok : IsVerified g) (path : ℕ → Path) (l : Local ℕ) (v : EndValue) (shown : List Shown) where
  pub trapped_outcome : (u : CodeTrap) (t : PathTrap) → IsEndOfMain g l v → v.finish ≡ finish.Trapped u
      → shown ≡ variables_shown path g.code.vars (written_over (words_at_start g.code.vars) v.written)
      → t ≡ record { cause = u.cause; line = u.line; origin = origin_path path u.origin }
      → main_outcome path g l ≡ Some (o.Trapped v.text shown t)
  trapped_outcome u t is ends made same =
      of_end g ok path l v shown is made ∙ ap (λ f. Some (outcome_as g ok path l v shown is f v.text shown)) ends
      ∙ ap (λ (x : PathTrap). Some (o.Trapped v.text shown x)) (sym same)

-- and that of its world is that of `main`, which stands first
pub of_world : (g : CodeRun) (w : Entries (Local ℕ)) (r : Path) (e : Entry (Local ℕ)) (result' : Outcome)
    → at_number w 0 ≡ Some (r, e) → main_outcome (path_in (paths_of w)) g (local_of e) ≡ Some result'
    → outcome g (Listing w) ≡ Some result'
of_world g w r e result' at is = ap (outcome_with g (paths_of w)) at ∙ is
