-- Loops of closing: the renamed links of all are the links so far with the renamed ones of those left behind them.
use Rattle.std.proofs.Common.{◌≡◌, map, drop}
use Rattle.rev_syntax.specs.View.{links}
use Rattle.merge_kernels.specs.Closing.{renamed_links}
use Rattle.merge_kernels.specs.Named.{names_of}
use Rattle.merge_kernels.specs.Terms.{term_link}
use Rattle.merge_kernels.proofs.Listed.{before_links}
use Rattle.merge_kernels.proofs.terms.+closing.Given as goal

-- the links so far, and the others behind them
abbrev pub invariant-close_links-loop-link : goal.invariant-close_links-loop-link
invariant-close_links-loop-link l =
    renamed_links (names_of l.names) (links l.rest)
    ≡ before_links (map term_link l.list.items) (renamed_links (names_of l.names) (links (drop l.link-index l.rest)))
