-- Answers of leave: with no frame below the revision ends, and else the frame below goes on behind the call.
use Rattle.std.proofs.Common.{◌∙◌, [], ◌++◌, ◌∷◌, sym, ap, arith}
use Rattle.leg_run.proofs.Frames.{leaves_it, top_inside}
use Rattle.leg_run.proofs.Returning.{over, last, returns_to}
use Rattle.leg_run.proofs.calls.leave.Goals as goal

pub go_back-requires-clause-base : goal.go_back-requires-clause-base
go_back-requires-clause-base c =
    let q = c.requires.stands in
    over c.args.setting.now.code c.args.setting.now.faultless c.args.setting.now.inputs.items c.args.setting.now.share
    c.args.run.now q.0 q.1 q.2 q.3 c.args.b.now c.requires.block c.requires.instr

pub go_back-requires-clause-top : goal.go_back-requires-clause-top
go_back-requires-clause-top c =
    let q = c.requires.stands in
    top_inside c.args.setting.now.code c.args.setting.now.faultless c.args.setting.now.inputs.items
    c.args.setting.now.share c.args.run.now q.0 q.1 q.2 q.3 c.args.b.now c.requires.block

pub returns-in-None : goal.returns-in-None
returns-in-None c = λ seen root s st.
    let k = c.args.run.now.below.ok.0 in
    let z = c.in-None.ensures.cases.0 in (
      last c.args.setting.now.code c.args.setting.now.faultless c.args.setting.now.inputs.items c.args.setting.now.share
          c.args.run.now seen root s st c.args.b.now c.requires.block c.requires.instr (omega (arith, k, z)),
      (let l = leaves_it c.args.setting.now.code c.args.setting.now.faultless c.args.setting.now.inputs.items
          c.args.setting.now.share c.args.run.now seen root s st c.args.b.now c.requires.block in
          record {
            locations = l.locations;
            kinds = l.kinds;
            fuel = l.fuel;
            line = l.line;
            forks = l.forks;
            listed = l.listed;
            text = l.text;
          }),
    )

pub returns-in-Some : goal.returns-in-Some
returns-in-Some c = λ seen root s st.
    let e = c.go_back.ensures in
    returns_to c.args.setting.now.code c.args.setting.now.faultless c.args.setting.now.inputs.items
    c.args.setting.now.share c.args.run.now seen root s st c.args.b.now c.requires.block c.requires.instr
    c.in-Some.w c.go_back.new.run (record {
      registers = e.registers;
      below = c.in-Some.ensures.items ∙ ap (λ xs. xs ++ c.in-Some.w ∷ []) (sym e.below);
      words = e.words;
      rest = record { text = e.rest.text; forks = e.rest.forks; meetings = e.rest.meetings };
    })
