-- Answers of append_cumulative: the three pieces that are appended in turn are the text of the kind and the merge.
use Rattle.std.proofs.Common.{◌∙◌, ◌++◌, ap}
use Rattle.code_listing.specs.Listing.{cumulative_text}
use Rattle.code_listing.proofs.listing.append_cumulative.Goals as goal
use Rattle.code_file.proofs.Joined.{three}

pub returns : goal.returns
unfolding cumulative_text
returns c =
    three c.args.out.now.items c.extend_from_slice.new.self.items c.extend_from_slice-2.new.self.items
    c.append_head.new.out.items _ _ _
    c.in_ok-extend_from_slice.ensures.items
    (c.in_ok-extend_from_slice-2.ensures.items
    ∙ ap (λ word. c.extend_from_slice.new.self.items ++ word) c.kind_word.ensures)
    c.in_ok-append_head.ensures
