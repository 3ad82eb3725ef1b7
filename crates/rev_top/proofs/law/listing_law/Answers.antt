-- Answers of listing_law: by the laws on files in both directions a file has one code, which is listed.
use Rattle.rev_top.proofs.Listings.{listing_law}
use Rattle.rev_top.proofs.law.listing_law.Goals as goal

pub returns : goal.returns
returns c = listing_law c.file_laws.ensures.exact c.file_laws.ensures.back
