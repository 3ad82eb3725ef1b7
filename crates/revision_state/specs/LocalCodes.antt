-- How the logic tells local states apart, as `TreeCodes` does for trees: a code for each part of a local state.
use Rattle.std.specs.Prelude.{◌≡◌, ◌⊎◌, ℕ, List, Option, refl}
use Rattle.std.specs.Coded.{Coded, code_by, coded×, coded⊎, coded_ℕ, coded_list, coded_option}
use base.Stored.{coded_unit}
use mathlib.Core.Logic.{inl, inr}
use Rattle.rev_num.specs.Path.{Path}
use Rattle.rev_num.specs.declared.value.Value.{Value}
use Rattle.rev_num.specs.declared.outcome.Trap.{Trap}
use Rattle.rev_num.specs.contracts.value.Value as value
use Rattle.rev_num.specs.contracts.outcome.Trap as trap
use Rattle.rev_syntax.specs.Trees.{Statements}
use Rattle.name_tables.specs.Names.{Name}
use Rattle.name_tables.specs.Table.{Table}
use Rattle.revision_calculus.specs.State.{Location, Frame, Noted, forked, joined, Phase, running, joining, done, trapped, Local}
use Rattle.revision_data.specs.LocationCodes.{coded_location}
use Rattle.revision_state.specs.TreeCodes.{coded_name, coded_statements}

-- ---- frames

-- a local with its value
abbrev pub Bound : Type 0
Bound = Name × Value

abbrev pub coded_binding : Coded Bound
coded_binding = coded× coded_name value.the_row.coded

abbrev pub coded_frame : Coded Frame
coded_frame =
    code_by (Table Value × (Statements × Option Name))
    (coded× (coded_list coded_binding) (coded× coded_statements (coded_option coded_name)))
    (λ f. (f.locals, (f.rest, f.left)))
    (λ p. record { locals = p.0; rest = p.1.0; left = p.1.1 })
    (λ _. refl)

-- ---- the list of forks and joins, and phases

abbrev coded_path : Coded Path
coded_path = coded_list coded_ℕ

abbrev NotedCases : Type 0
NotedCases = (Path × ℕ) ⊎ (Path × ℕ)

abbrev noted_cases : Noted → NotedCases
noted_cases (forked q line) = inl (q, line)
noted_cases (joined q line) = inr (q, line)

abbrev noted_of : NotedCases → Noted
noted_of (inl p) = forked p.0 p.1
noted_of (inr p) = joined p.0 p.1

pub noted_again : (x : Noted) → noted_of (noted_cases x) ≡ x
noted_again (forked q line) = refl
noted_again (joined q line) = refl

abbrev coded_noted : Coded Noted
coded_noted = code_by NotedCases (coded⊎ (coded× coded_path coded_ℕ) (coded× coded_path coded_ℕ)) noted_cases noted_of
    noted_again

abbrev PhaseCases : Type 0
PhaseCases = (Unit {0} ⊎ Unit {0}) ⊎ ((Path × Option Name) ⊎ Trap)

abbrev phase_cases : Phase → PhaseCases
phase_cases running = inl (inl tt)
phase_cases done = inl (inr tt)
phase_cases (joining q left) = inr (inl (q, left))
phase_cases (trapped t) = inr (inr t)

abbrev phase_of : PhaseCases → Phase
phase_of (inl (inl x)) = running
phase_of (inl (inr x)) = done
phase_of (inr (inl p)) = joining p.0 p.1
phase_of (inr (inr t)) = trapped t

pub phase_again : (x : Phase) → phase_of (phase_cases x) ≡ x
phase_again running = refl
phase_again done = refl
phase_again (joining q left) = refl
phase_again (trapped t) = refl

abbrev coded_phase : Coded Phase
coded_phase =
    code_by PhaseCases (coded⊎ (coded⊎ coded_unit coded_unit)
    (coded⊎ (coded× coded_path (coded_option coded_name)) trap.the_row.coded)) phase_cases phase_of phase_again

-- ---- local states

abbrev pub coded_local : Coded Local
coded_local =
    code_by (List Location × (List Frame × (ℕ × (ℕ × (List Noted × (List ℕ × (ℕ × Phase)))))))
    (coded× (coded_list coded_location)
    (coded× (coded_list coded_frame)
    (coded× coded_ℕ (coded× coded_ℕ
    (coded× (coded_list coded_noted) (coded× (coded_list coded_ℕ) (coded× coded_ℕ coded_phase)))))))
    (λ l. (l.locations, (l.frames, (l.fuel, (l.forks, (l.noted, (l.text, (l.line, l.phase))))))))
    (λ p. record {
      locations = p.0;
      frames = p.1.0;
      fuel = p.1.1.0;
      forks = p.1.1.1.0;
      noted = p.1.1.1.1.0;
      text = p.1.1.1.1.1.0;
      line = p.1.1.1.1.1.1.0;
      phase = p.1.1.1.1.1.1.1;
    })
    (λ _. refl)
