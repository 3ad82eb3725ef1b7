-- Answers of outcome_of: the words are the start's with main's writes over them, so the shown values are main's.
use Rattle.std.proofs.Common.{◌∙◌, length, ap, sym, subst}
use Rattle.revision_machine.specs.Laws.{local_of}
use Rattle.revision_machine.specs.Numbered.{paths_of}
use Rattle.rev_code.specs.declared.code.Code.{Code}
use Rattle.block_run.specs.Area.{count}
use Rattle.rev_vm.proofs.Mains.{start_many}
use Rattle.rev_vm.specs.Opening.{words_at_start}
use Rattle.rev_vm.specs.Starts.{run_under}
use Rattle.code_runs.specs.Births.{path_in}
use Rattle.code_runs.specs.Words.{AreInside, written_over}
use Rattle.code_runs.proofs.Overlays.{length_over, all_inside}
use Rattle.code_runs.proofs.Ending.{done_outcome, trapped_outcome, shown_as, of_world}
use Rattle.code_runs.proofs.outcomes.outcome_of.Goals as goal

pub view_words-requires : goal.view_words-requires
view_words-requires c =
    let vars = c.args.setting.now.code.vars in
    subst (λ (z : Code). AreInside (words_at_start z.vars) c.as_slice.result.now) (sym c.code.ensures.code)
    (subst (AreInside (words_at_start vars)) (sym c.as_slice.ensures)
    (all_inside vars _ c.args.end.written c.requires.ended.1.end.written))

pub shown_values-requires-clause-all : goal.shown_values-requires-clause-all
shown_values-requires-clause-all c =
    let vars = c.args.setting.now.code.vars in
    ap (λ ws. length ws) (c.as_slice-3.ensures.value
    ∙ (c.in_ok-words.ensures
    ∙ ap (λ (z : Code). written_over (words_at_start z.vars) c.as_slice.result.now) c.code.ensures.code))
    ∙ length_over (words_at_start vars) c.as_slice.result.now
    ∙ start_many vars
    ∙ sym (ap count (c.as_slice-2.ensures ∙ ap (λ (z : Code). z.vars) c.code-2.ensures.code))

pub returns-in-Done-clause-main : goal.returns-in-Done-clause-main
returns-in-Done-clause-main c = λ l paths ended names.
    done_outcome (run_under c.args.setting.now) c.args.setting.now.faultless (path_in paths) l c.args.end
    c.from_vec-values.result ended c.in-Done.is
    (c.from_vec-values.ensures ∙ c.in_ok-shown.ensures paths names
    ∙ shown_as (path_in paths) c.as_slice-2.result.now c.args.setting.now.code.vars c.as_slice-3.result.now
    c.in_ok-words.words.items c.as_slice.result.now c.args.end.written
    (c.as_slice-2.ensures ∙ ap (λ (z : Code). z.vars) c.code-2.ensures.code) c.as_slice-3.ensures.value
    (c.in_ok-words.ensures
    ∙ ap (λ (z : Code). written_over (words_at_start z.vars) c.as_slice.result.now) c.code.ensures.code)
    c.as_slice.ensures)

pub returns-in-Done-clause-world : goal.returns-in-Done-clause-world
returns-in-Done-clause-world c = λ w r e at ended names.
    of_world (run_under c.args.setting.now) w r e _ at
    (returns-in-Done-clause-main c (local_of e) (paths_of w) ended names)

pub returns-clause-main : goal.returns-clause-main
returns-clause-main c = λ l paths ended names.
    trapped_outcome (run_under c.args.setting.now) c.args.setting.now.faultless (path_in paths) l c.args.end
    c.from_vec-values.result c.in-Trapped.trap c.in_ok-trap-in-Trapped.trap ended c.in-Trapped.is
    (c.from_vec-values.ensures ∙ c.in_ok-shown.ensures paths names
    ∙ shown_as (path_in paths) c.as_slice-2.result.now c.args.setting.now.code.vars c.as_slice-3.result.now
    c.in_ok-words.words.items c.as_slice.result.now c.args.end.written
    (c.as_slice-2.ensures ∙ ap (λ (z : Code). z.vars) c.code-2.ensures.code) c.as_slice-3.ensures.value
    (c.in_ok-words.ensures
    ∙ ap (λ (z : Code). written_over (words_at_start z.vars) c.as_slice.result.now) c.code.ensures.code)
    c.as_slice.ensures)
    (c.in_ok-trap-in-Trapped.ensures paths names)

pub returns-clause-world : goal.returns-clause-world
returns-clause-world c = λ w r e at ended names.
    of_world (run_under c.args.setting.now) w r e _ at (returns-clause-main c (local_of e) (paths_of w) ended names)
