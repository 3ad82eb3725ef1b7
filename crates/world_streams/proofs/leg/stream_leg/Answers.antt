-- Answers of stream_leg: a leg makes the text of main longer or leaves it, and what it gains is what the sink gets.
use Rattle.std.proofs.Common.{length, drop, inl, inr, refl}
use Rattle.rev_vm.specs.Starts.{run_under}
use Rattle.world_streams.proofs.Gaining.{after_stands, gain_fits, gain_is}
use Rattle.world_streams.proofs.leg.stream_leg.Goals as goal

pub leg-requires-clause-reached : goal.leg-requires-clause-reached
leg-requires-clause-reached g c = let q = c.requires.reached in (q.0, q.1, q.2)

pub leg-requires-clause-size : goal.leg-requires-clause-size
leg-requires-clause-size g c = c.requires.size

pub leg-requires-clause-merges : goal.leg-requires-clause-merges
leg-requires-clause-merges g c = c.requires.merges

pub put_behind-requires : goal.put_behind-requires
put_behind-requires g c =
    let q = c.requires.reached in
    let s = run_under c.args.setting.now in
    let k = c.in-Ok.ensures.answer q.0 q.1 q.2 in
    let u = after_stands s q.0 q.1 q.3.now c.args.revision c.in-Ok.made.1 c.in-Ok.made.0 k in
    gain_fits s c.args.setting.now.faultless c.args.world q.0 q.1 q.2 c.args.revision q.3.now q.3.after c.in-Ok.made.1
    c.in-Ok.made.0 k c.in-Ok.ensures.touches
    c.main_text-before.result.now c.main_text.result.now (c.main_text-before.ensures s q.0 q.2)
    (c.main_text.ensures s u.0 u.1)

pub returns-in-Err-clause-put : goal.returns-in-Err-clause-put
returns-in-Err-clause-put g c = λ w h is never. (refl, inr refl)

pub returns-in-Ok-put_behind-clause-put : goal.returns-in-Ok-put_behind-clause-put
returns-in-Ok-put_behind-clause-put g c = λ w h is never.
    let s = run_under c.args.setting.now in
    let k = c.in-Ok.ensures.answer w h is in
    let u = after_stands s w h never.now c.args.revision c.in-Ok.made.1 c.in-Ok.made.0 k in (
      drop (length c.main_text-before.result.now) c.main_text.result.now,
      gain_is s c.args.setting.now.faultless c.args.world w h is c.args.revision never.now never.after c.in-Ok.made.1
          c.in-Ok.made.0 k c.in-Ok.ensures.touches
          c.main_text-before.result.now c.main_text.result.now (c.main_text-before.ensures s w is)
          (c.main_text.ensures s u.0 u.1),
      c.in-Ok-put_behind.ensures,
    )

pub returns-in-Err-Failed-clause-put : goal.returns-in-Err-Failed-clause-put
returns-in-Err-Failed-clause-put g c = λ w h is never.
    let s = run_under c.args.setting.now in
    let k = c.in-Ok.ensures.answer w h is in
    let u = after_stands s w h never.now c.args.revision c.in-Ok.made.1 c.in-Ok.made.0 k in
    let wrote = rw c.in-Err-Failed.field-0-is at c.in-Err-Failed.ensures in (
      wrote.0,
      record {
        answer = c.in-Ok.made.1;
        after = c.in-Ok.made.0;
        answers = k;
        gain = drop (length c.main_text-before.result.now) c.main_text.result.now;
        gains = gain_is s c.args.setting.now.faultless c.args.world w h is c.args.revision never.now never.after
            c.in-Ok.made.1 c.in-Ok.made.0 k c.in-Ok.ensures.touches
            c.main_text-before.result.now c.main_text.result.now (c.main_text-before.ensures s w is)
            (c.main_text.ensures s u.0 u.1);
        part = wrote.1;
      },
    )

pub returns-in-Err-OutOfMemory-clause-put : goal.returns-in-Err-OutOfMemory-clause-put
returns-in-Err-OutOfMemory-clause-put g c = λ w h is never.
    let s = run_under c.args.setting.now in
    let k = c.in-Ok.ensures.answer w h is in
    let u = after_stands s w h never.now c.args.revision c.in-Ok.made.1 c.in-Ok.made.0 k in
    let wrote = rw c.in-Err-OutOfMemory.field-0-is at c.in-Err-OutOfMemory.ensures in (
      wrote.0,
      inl (record {
        answer = c.in-Ok.made.1;
        after = c.in-Ok.made.0;
        answers = k;
        gain = drop (length c.main_text-before.result.now) c.main_text.result.now;
        gains = gain_is s c.args.setting.now.faultless c.args.world w h is c.args.revision never.now never.after
            c.in-Ok.made.1 c.in-Ok.made.0 k c.in-Ok.ensures.touches
            c.main_text-before.result.now c.main_text.result.now (c.main_text-before.ensures s w is)
            (c.main_text.ensures s u.0 u.1);
        part = wrote.1;
      }),
    )
