-- Answers of join: the typed stack has a handle on top, so the join ends the leg by whether that handle is none.
use Rattle.std.proofs.Common.{◌∙◌, ◌-◌, length, get_or, sym, ap, subst, arith}
use Rattle.rev_code.specs.Funs.{setting}
use Rattle.leg_run.specs.Ends.{EndsAt, join_of}
use Rattle.leg_run.proofs.Frames.{top_inside}
use Rattle.leg_run.proofs.Joining.{some, join_ends}
use Rattle.leg_run.proofs.joins.join.Goals as goal

pub join_on_top-requires-clause-some : goal.join_on_top-requires-clause-some
join_on_top-requires-clause-some c =
    let q = c.requires.stands in
    let h = some c.args.setting.now.code c.args.setting.now.faultless c.args.setting.now.inputs.items
    c.args.setting.now.share c.args.run.now q.0 q.1 q.2 q.3 c.args.b.now c.requires.block c.args.is_try
    c.requires.instr in
    omega (arith, h)

pub join_on_top-requires-clause-within : goal.join_on_top-requires-clause-within
join_on_top-requires-clause-within c =
    let q = c.requires.stands in
    let h = top_inside c.args.setting.now.code c.args.setting.now.faultless c.args.setting.now.inputs.items
    c.args.setting.now.share c.args.run.now q.0 q.1 q.2 q.3 c.args.b.now c.requires.block in
    let e = ap length c.as_slice.ensures.value in
    omega (arith, h, e)

pub returns : goal.returns
returns c = λ seen root s st.
    subst (EndsAt (setting c.args.setting.now.code c.args.setting.now.inputs.items c.args.setting.now.share) s)
    (ap (λ ws. join_of c.args.is_try (get_or ws (c.args.run.now.registers.top - 1) 0)) (sym c.as_slice.ensures.value)
    ∙ sym c.join_on_top.ensures)
    (join_ends c.args.setting.now.code c.args.setting.now.faultless c.args.setting.now.inputs.items
    c.args.setting.now.share c.args.run.now seen root s st c.args.b.now c.requires.block c.args.is_try c.requires.instr)
