-- Answers of is_joined_earlier: the table has the first part that lists the other, and the order of paths decides.
use Rattle.std.proofs.Common.{◌∙◌, sym}
use Rattle.revision_state.specs.Views.{given}
use Rattle.stated_parts.proofs.Finding.{joiner_within, none_earlier, which_joiner}
use Rattle.rev_audit.proofs.joinee.is_joined_earlier.Goals as goal

pub nth_part-part-requires : goal.nth_part-part-requires
nth_part-part-requires c =
    let t = c.args.stated.now in
    joiner_within t.parts.now c.args.on.now c.in-Some.i
    (sym (t.joined c.args.on.now) ∙ sym c.find.ensures ∙ c.in-Some.is)

pub returns-in-Some : goal.returns-in-Some
returns-in-Some c =
    let t = c.args.stated.now in
    let e = sym (t.joined c.args.on.now) ∙ sym c.find.ensures ∙ c.in-Some.is in
    which_joiner (given t.setting) t.fuel t.parts.now c.requires c.args.path.now c.args.on.now c.in-Some.i
    c.nth_part-part.result.now c.after_in_post_order.result e c.nth_part-part.ensures c.after_in_post_order.ensures

pub returns-in-None : goal.returns-in-None
returns-in-None c =
    let t = c.args.stated.now in
    none_earlier (given t.setting) t.fuel t.parts.now c.requires c.args.path.now c.args.on.now
    (sym (t.joined c.args.on.now) ∙ sym c.find.ensures ∙ c.in-None.is)
