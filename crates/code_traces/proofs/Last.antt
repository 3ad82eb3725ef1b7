-- In the trace of a world `main` is last.
use Rattle.std.proofs.Common.{◌≡◌, ◌∙◌, inl, inr, true, false, List, [], ◌∷◌, refl, sym, ap}
use Rattle.rev_num.specs.Path.{before}
use Rattle.typed_programs.specs.Least.{Among}
use Rattle.trace_diagram.specs.declared.diagram.Part.{Part}
use Rattle.trace_diagram.specs.Traces.{MainIsLast}
use Rattle.revision_machine.specs.Numbered.{Both, Listing, paths_of, ReadsAs}
use Rattle.revision_machine.specs.Laws.{local_of}
use Rattle.revision_machine.proofs.Numbers.{first_entry}
use Rattle.revision_machine.proofs.Schedules.{schedule_law}
use Rattle.audit_rules.specs.Traces.{InPostOrder}
use Rattle.code_machine.specs.Machines.{numbered, start_in}
use Rattle.code_machine.proofs.MachineConditions.{named_counts}
use Rattle.code_traces.specs.Parts.{part_in}
use Rattle.code_traces.specs.Traces.{EndsInMain}

-- nothing comes behind the empty path
main_last : (ps : List Part) → InPostOrder ps → (p : Part) → Among ps p → p.path ≡ [] → MainIsLast ps
main_last [] order p i e = absurd i
main_last (q ∷ []) order p (inl same) e = ap (λ v. v.path) same ∙ e
main_last (q ∷ []) order p (inr i) e = absurd i
main_last (q ∷ x ∷ ps) order p i e = (first, main_last (x ∷ ps) order.1 p (later i) e)
  where
    first : before q.path x.path ≡ true
    first = order.0 x (inl refl)

    later : Among (q ∷ x ∷ ps) p → Among (x ∷ ps) p
    later (inl same) =
        absurd (let z : false ≡ true = sym (ap (λ v. before v x.path) (ap (λ v. v.path) same ∙ e)) ∙ first in cc)
    later (inr j) = j

pub ends_in_main : EndsInMain
ends_in_main g ok n m fuel ns Both replays ps t = absurd t
ends_in_main g ok n m fuel ns (Listing w) replays ps t =
    let law = schedule_law (numbered g) (start_in g n m.body fuel) (named_counts g ok) ns (Listing w) replays in
    let reads : ReadsAs (numbered g) (start_in g n m.body fuel) ns (Listing w) law.0 = law.2 in
    let here = first_entry w [] reads.children (sym law.1 ∙ reads.are) in
    main_last ps t.order (part_in g (paths_of w) [] (local_of here.0)) (t.all 0 [] here.0 here.1) refl
