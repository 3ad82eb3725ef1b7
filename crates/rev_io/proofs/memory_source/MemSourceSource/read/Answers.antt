-- Answers of MemSource::read: at most a step of the bytes left is copied, and with room none only at the end.
use Rattle.std.proofs.Common.{◌≡◌, arith, ap, sym, drop, length, length-drop}
use Rattle.std.proofs.lemmas.Grind.{common_steps}
use Rattle.std.proofs.lemmas.List.{nil_from_length}
use Rattle.rev_io.specs.Stepped.{Feed}
use Rattle.rev_io.proofs.Streams.{moved}
use Rattle.rev_io.proofs.memory_source.MemSourceSource.read.Goals as goal

pub returns-clause-told : goal.returns-clause-told
returns-clause-told c =
    let is : c.args.self.now.left ≡ drop c.self.inside.given c.self.inside.bytes.items =
    ap (λ (f : Feed). f.left) (sym c.self.view_is) in
    let left : length c.args.self.now.left ≡ length (drop c.self.inside.given c.self.inside.bytes.items) =
    ap length is in
    let step : c.args.self.now.step ≡ c.self.inside.step = ap (λ (f : Feed). f.step) (sym c.self.view_is) in
    let fits = length-drop c.self.inside.given c.self.inside.bytes.items in
    moved c.args.self.now.left _ c.args.buf.now _ c.min-count.result _ _ (omega (arith, c.min-count.ensures))
    (omega (arith, c.min-count.ensures, fits))
    (grind (arith, common_steps)) (grind (arith, common_steps)) (ap (λ (f : Feed). f.faults) c.self.view_is)
    (λ none room. nil_from_length c.args.self.now.left (omega (arith, c.min-count.ensures, fits)))
