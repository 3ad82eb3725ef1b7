-- Answers of Delta::next: the least bit of the location's row from there on, or else what comes behind the row.
use Rattle.std.proofs.Common.{arith, ◌+◌, ◌*◌, ◌/◌, refl}
use Rattle.version_map.proofs.Nexts.{next_here, next_later, rest_of_row}
use Rattle.version_map.proofs.delta.Delta.next.Goals as goal

pub returns-in-Some : goal.returns-in-Some
returns-in-Some c =
    let f = c.in-Some.ensures.found in
    next_here c.args.self.now c.args.from (c.args.from / 64) c.mask_row.result c.in-Some.k refl c.mask_row.ensures f.0
    f.1 f.2 c.in-Some.ensures.between

pub overflow_cast-result : goal.overflow_cast-result
overflow_cast-result c =
    let f = c.in-Some.ensures.found in
    let next =
    next_here c.args.self.now c.args.from (c.args.from / 64) c.mask_row.result c.in-Some.k refl c.mask_row.ensures f.0
    f.1 f.2 c.in-Some.ensures.between in
    let within = next.1 in let few = c.args.self.now.sized.1 in omega (arith, within, few)

pub returns-in-None : goal.returns-in-None
returns-in-None c =
    let d = c.args.self.now in let row = c.args.from / 64 in
    next_later d c.args.from (64 * (row + 1)) c.next_behind.result (omega arith)
    (rest_of_row d c.args.from row c.mask_row.result refl c.mask_row.ensures c.in-None.ensures.none)
    c.next_behind.ensures
