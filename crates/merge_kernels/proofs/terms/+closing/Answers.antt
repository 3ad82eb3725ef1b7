-- Answers of closing: a link without a term ends the list with none, and one with a term goes behind those before it.
use Rattle.std.proofs.Common.{ap, map, option_map}
use Rattle.merge_kernels.specs.Named.{names_of}
use Rattle.merge_kernels.specs.Terms.{term, term_link}
use Rattle.merge_kernels.proofs.LinkSteps.{stops, goes_on, ends}
use Rattle.merge_kernels.proofs.terms.+closing.Goals as goal

pub close_links-returns-in_default : goal.close_links-returns-in_default
close_links-returns-in_default t c =
    stops (names_of c.args.names) c.args.rest.now c.loop-link.link-index (map term_link c.loop-link.list.items)
    c.loop-link.invariant
    c.link-item.result c.loop-link-test.true c.link-item.is _ c.in_ok-part.ensures
    (ap (option_map term) c.in_default.is)

pub close_links-loop-link-preserved : goal.close_links-loop-link-preserved
close_links-loop-link-preserved t c =
    goes_on (names_of c.args.names) c.args.rest.now c.loop-link.link-index (map term_link c.loop-link.list.items)
    c.loop-link.invariant
    c.link-item.result c.loop-link-test.true c.link-item.is _ (term c.in-Some.part) _ c.in_ok-part.ensures
    (ap (option_map term) c.in-Some.is) c.in_ok-push_link.ensures

pub close_links-returns : goal.close_links-returns
close_links-returns t c =
    ends (names_of c.args.names) c.args.rest.now c.loop-link.link-index (map term_link c.loop-link.list.items)
    c.loop-link.invariant c.loop-link-test.false
