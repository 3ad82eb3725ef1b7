-- Answers of trace_of: the parts are those of the world in some order, and putting them in order lists them.
use Rattle.std.proofs.Common.{subst, sym}
use Rattle.rev_vm.specs.Starts.{run_under}
use Rattle.code_traces.specs.Traces.{IsListing}
use Rattle.code_traces.proofs.Making.{in_order_listed}
use Rattle.code_traces.proofs.listing.trace_of.Goals as goal

pub returns : goal.returns
returns c = λ w names noted over distinct.
    let g = run_under c.args.setting.now in
    subst (IsListing g w) (sym c.from_vec.ensures)
    (in_order_listed g w c.in_ok-parts.parts.items c.put_in_order.new.parts.items distinct
    (c.in_ok-parts.ensures w names noted over) c.put_in_order.ensures.moved c.put_in_order.ensures.sorted)
