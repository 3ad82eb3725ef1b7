-- Answers of place_at: a number inside of the list has its place, and one outside has nothing.
use Rattle.std.proofs.Common.{◌∙◌, sym}
use Rattle.trace_parts.proofs.Changes.{place_in, place_out}
use Rattle.trace_parts.proofs.parts.place_at.Goals as goal

pub returns-in_ok-from_slice-in-Some : goal.returns-in_ok-from_slice-in-Some
returns-in_ok-from_slice-in-Some c =
    let h = c.in-Some.ensures.lookup in
    c.from_vec.ensures ∙ c.in_ok-from_slice-in-Some.ensures.items ∙ c.as_slice.ensures
    ∙ place_in c.args.places.now c.args.number c.in-Some.place.now h.3.0 h.1

pub returns-in-None : goal.returns-in-None
returns-in-None c =
    c.from_vec-in-None.ensures ∙ c.new.ensures.items
    ∙ sym (place_out c.args.places.now c.args.number c.in-None.ensures.lookup.3)
