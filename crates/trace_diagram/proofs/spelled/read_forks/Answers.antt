-- Answers of read_forks: a number before a dot goes behind the others, and any other part spells no path.
use Rattle.std.proofs.Common.{◌≡◌, ◌++◌, ◌∷◌, [], sym, subst}
use Rattle.rev_num.specs.Text.{path_text}
use Rattle.trace_diagram.specs.Lines.{FitsPath}
use Rattle.trace_diagram.specs.Reading.{Forks}
use Rattle.trace_diagram.proofs.Forks.{AllBegin, begins_more, dotted, dotted_cut, fits_more, forks_more, no_last, no_number, spells_more}
use Rattle.trace_diagram.proofs.spelled.read_forks.Goals as goal

pub returns-in_default-read_small : goal.returns-in_default-read_small
returns-in_default-read_small c =
    let h = c.loop-front.invariant in
    no_number c.args.bytes.now c.loop-front.forks.items c.loop-front.rest.now _ _ c.in-Some.ensures
    c.in_default-read_small.ensures h.begin

pub loop-front-preserved : goal.loop-front-preserved
loop-front-preserved c =
    let h = c.loop-front.invariant in
    let n = c.in-Some-read_small.ensures in
    let is : c.push.new.self.items ≡ c.loop-front.forks.items ++ c.in-Some-read_small.fork ∷ [] =
    c.in_ok-push.ensures.items in
    record {
      fit = subst FitsPath (sym is) (fits_more _ _ h.fit n.0);
      so_far = subst (λ ks. dotted ks c.in-Some.more.now ≡ c.args.bytes.now) (sym is)
          (dotted_cut _ _ c.in-Some.ensures n.1 h.so_far);
      begin = subst (λ ks. AllBegin c.args.bytes.now ks c.in-Some.more.now) (sym is)
          (begins_more c.args.bytes.now c.loop-front.forks.items c.loop-front.rest.now _ _ _ c.in-Some.ensures n.0 n.1
          h.begin);
    }

pub returns-in_default-read_small-2 : goal.returns-in_default-read_small-2
returns-in_default-read_small-2 c =
    let h = c.loop-front.invariant in
    no_last c.args.bytes.now c.loop-front.forks.items c.loop-front.rest.now c.in_default.ensures
    c.in_default-read_small-2.ensures h.begin

pub returns : goal.returns
returns c =
    let h = c.loop-front.invariant in
    let n = c.in-Some-read_small-2.ensures in
    let is : c.push-2.new.self.items ≡ c.loop-front.forks.items ++ c.in-Some-read_small-2.fork ∷ [] =
    c.in_ok-push-2.ensures.items in (
      subst Forks (sym is) (forks_more _ _ h.fit n.0),
      subst (λ ks. path_text ks ≡ c.args.bytes.now) (sym is) (spells_more _ _ _ _ n.1 h.so_far),
    )
