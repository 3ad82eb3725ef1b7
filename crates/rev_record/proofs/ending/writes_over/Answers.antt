-- `writes_over`: one write after another.
use Rattle.std.proofs.Common.{length, refl}
use Rattle.std.proofs.lemmas.Option.{slice_get_read}
use Rattle.rev_record.proofs.Loops.{over_one}
use Rattle.rev_record.proofs.ending.writes_over.Goals as goal

pub write_over-write-requires-clause-inside : goal.write_over-write-requires-clause-inside
write_over-write-requires-clause-inside c =
    c.requires.inside c.one-item.result (
      c.loop-one.one-index,
      slice_get_read c.args.written.now (length c.args.written.now) c.loop-one.one-index c.one-item.result refl
          c.loop-one-test.true c.one-item.is,
    )

pub loop-one-preserved : goal.loop-one-preserved
loop-one-preserved c = λ paths names distinct.
    over_one paths c.args.base.now c.args.written.now c.loop-one.one-index c.one-item.result c.loop-one.all.items
    c.push.new.self.items c.write_over-write.result
    c.loop-one-test.true c.one-item.is (c.write_over-write.ensures paths names distinct) (c.in_ok-push.ensures).items
    (c.loop-one.invariant paths names distinct)
