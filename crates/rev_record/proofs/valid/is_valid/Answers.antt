-- `is_valid`: each test is true where the entry is valid, and all together show that it is.
use Rattle.std.proofs.Common.{◌∙◌, sym, true≢false}
use Rattle.rev_record.proofs.Validity.{alike_valid, valid_alike}
use Rattle.rev_record.proofs.valid.is_valid.Goals as goal

pub returns-then-not-starts_alike : goal.returns-then-not-starts_alike
returns-then-not-starts_alike c = λ t f e names b s. (
  λ z. absurd (true≢false (sym z)),
  λ v. (let a =
      valid_alike c.args.setting.now.code t f c.args.start.now b c.args.setting.now.inputs.items c.args.entry.now
      c.args.path.now e s v in
      sym c.if-not-starts_alike.true ∙ c.starts_alike.ensures.1 a.start),
)

pub returns-then-not-has_inputs : goal.returns-then-not-has_inputs
returns-then-not-has_inputs c = λ t f e names b s. (
  λ z. absurd (true≢false (sym z)),
  λ v. (let a =
      valid_alike c.args.setting.now.code t f c.args.start.now b c.args.setting.now.inputs.items c.args.entry.now
      c.args.path.now e s v in
      sym c.if-not-has_inputs.true ∙ c.has_inputs.ensures.1 (a.all.given_there, a.all.count_there)),
)

pub returns-then-not-args : goal.returns-then-not-args
returns-then-not-args c = λ t f e names b s. (
  λ z. absurd (true≢false (sym z)),
  λ v. (let a =
      valid_alike c.args.setting.now.code t f c.args.start.now b c.args.setting.now.inputs.items c.args.entry.now
      c.args.path.now e s v in
      sym c.if-not-args.true ∙ (c.in_ok-args.ensures t f names b).1 a.args),
)

pub returns : goal.returns
returns c = λ t f e names b s. (
  λ so. alike_valid c.args.setting.now.code t f c.args.start.now b c.args.setting.now.inputs.items c.args.entry.now
      c.args.path.now e s (record {
        start = c.starts_alike.ensures.0 c.if-not-starts_alike.false;
        args = (c.in_ok-args.ensures t f names b).0 c.if-not-args.false;
        all = record {
          given_there = (c.has_inputs.ensures.0 c.if-not-has_inputs.false).0;
          count_there = (c.has_inputs.ensures.0 c.if-not-has_inputs.false).1;
          kept_there = (c.in_ok-read.ensures t names).0 so;
        };
      }),
  λ v. (c.in_ok-read.ensures t names).1
      (valid_alike c.args.setting.now.code t f c.args.start.now b c.args.setting.now.inputs.items c.args.entry.now
      c.args.path.now e s v).all.kept_there,
)
