-- Answers of Starts::of_main: where nothing is kept main alone begins, and its start is that of the last part.
use Rattle.std.proofs.Common.{None, length, refl, subst, sym}
use Rattle.revision_state.specs.Views.{given}
use Rattle.audit_rules.specs.Audited.{of_main}
use Rattle.audit_rules.proofs.Verdicts.{in_post_order}
use Rattle.rev_audit.specs.Sweep.{IsStarts}
use Rattle.rev_audit.proofs.Sweeps.{main_kept, none_kept}
use Rattle.rev_audit.proofs.starts.Starts.of_main.Goals as goal

pub keep-requires : goal.keep-requires
keep-requires c =
    let t = c.args.stated.now in
    let first = c.in_ok-first.first in
    record {
      order = in_post_order t.parts.now c.requires;
      kept = subst (λ l. IsStarts (given t.setting) t.fuel t.parts.now l None) (sym c.in_ok-none.ensures)
          (none_kept (given t.setting) t.fuel t.parts.now (length t.parts.now) refl);
      begins = of_main first.path first.local c.in_ok-first.ensures.path c.in_ok-first.ensures.local;
    }

pub returns : goal.returns
returns c =
    let t = c.args.stated.now in
    main_kept (given t.setting) t.fuel t.parts.now c.keep.new.self.starts.items c.keep.new.self.unstated
    c.in_ok-first.first c.keep.ensures.kept c.keep.ensures.holds c.in_ok-first.ensures.path c.in_ok-first.ensures.local
