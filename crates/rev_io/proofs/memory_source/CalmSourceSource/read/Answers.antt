-- Answers of CalmSource::read: what fits is copied from the front of what is left, with room none only at the end.
use Rattle.std.proofs.Common.{◌≡◌, arith, ap, sym, refl, drop, length, length-drop}
use Rattle.std.proofs.lemmas.Grind.{common_steps}
use Rattle.std.proofs.lemmas.List.{nil_from_length}
use Rattle.rev_io.proofs.Streams.{moved}
use Rattle.rev_io.proofs.memory_source.CalmSourceSource.read.Goals as goal

pub returns-clause-told : goal.returns-clause-told
returns-clause-told c =
    let left : length c.args.self.now ≡ length (drop c.self.inside.given c.self.inside.bytes.items) =
    ap length (sym c.self.view_is) in
    let fits = length-drop c.self.inside.given c.self.inside.bytes.items in
    moved c.args.self.now _ c.args.buf.now _ c.min-count.result 0 0 (omega (arith, c.min-count.ensures))
    (omega (arith, c.min-count.ensures, fits))
    (grind (arith, common_steps)) (grind (arith, common_steps)) refl
    (λ none room. nil_from_length c.args.self.now (omega (arith, c.min-count.ensures, fits)))
