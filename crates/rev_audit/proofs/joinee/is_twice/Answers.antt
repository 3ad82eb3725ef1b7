-- Answers of is_twice: the revision's own joins are the set that is kept, and stated parts tell of the others.
use Rattle.std.proofs.Common.{inl, ◌∙◌, sym}
use Rattle.revision_state.specs.Views.{given}
use Rattle.audit_rules.specs.Parts.{joined_by}
use Rattle.stated_parts.proofs.Finding.{joined_or, listed, unlisted}
use Rattle.rev_audit.proofs.joinee.is_twice.Goals as goal

pub returns-then-is_some : goal.returns-then-is_some
returns-then-is_some c =
    inl (listed c.args.joined.now.map (joined_by c.args.state.now.local.noted) c.args.on.now c.find.result
    c.requires.joined c.find.ensures (sym c.is_some.ensures ∙ c.if-is_some.true))

pub returns : goal.returns
returns c =
    let t = c.args.stated.now in
    let js = joined_by c.args.state.now.local.noted in
    joined_or (given t.setting) t.fuel t.parts.now c.requires.order c.args.state.now.path c.args.on.now js
    c.is_joined_earlier.result
    (unlisted c.args.joined.now.map js c.args.on.now c.find.result c.requires.joined c.find.ensures
    (sym c.is_some.ensures ∙ c.if-is_some.false))
    c.is_joined_earlier.ensures
