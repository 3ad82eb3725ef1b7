-- Answers of Starts::keep_all: the child that is popped is kept, and what the starts held they still hold.
use Rattle.std.proofs.Common.{inl, [], ◌∷◌, refl, subst, sym, ◌≡◌, arith, length}
use Rattle.typed_programs.specs.Least.{Among}
use Rattle.typed_programs.proofs.Firsts.{left_among, right_among}
use Rattle.revision_state.specs.Views.{given}
use Rattle.rev_audit.proofs.Sweeps.{grows_both, grows_none, hold_all, hold_more}
use Rattle.rev_audit.proofs.starts.Starts.keep_all.Goals as goal

pub loop-child-init : goal.loop-child-init
loop-child-init c = record {
  kept = c.requires.kept;
  grows = grows_none _ _;
  begin = c.requires.begin;
  hold = λ x i. inl i;
}

pub keep-requires : goal.keep-requires
keep-requires c =
    let child = c.in-Some.child in
    let left = c.pop.new.self.items in
    record {
      order = c.requires.order;
      kept = c.loop-child.invariant.kept;
      begins = c.loop-child.invariant.begin child
          (subst (λ l. Among l child) (sym c.in-Some.ensures.items) (right_among left (child ∷ []) child (inl refl)));
    }

pub loop-child-preserved : goal.loop-child-preserved
loop-child-preserved c =
    let t = c.args.stated.now in
    let child = c.in-Some.child in
    let left = c.pop.new.self.items in
    let a = c.loop-child.self.starts.items in
    let u = c.loop-child.self.unstated in
    let b = c.keep.new.self.starts.items in
    let v = c.keep.new.self.unstated in
    record {
      kept = c.keep.ensures.kept;
      grows = grows_both _ a b _ u v c.loop-child.invariant.grows c.keep.ensures.grows;
      begin = λ x i.
          c.loop-child.invariant.begin x
          (subst (λ l. Among l x) (sym c.in-Some.ensures.items) (left_among left (child ∷ []) x i));
      hold = λ x i.
          hold_more (given t.setting) t.fuel t.parts.now c.loop-child.children.items left child x a b u v
          c.in-Some.ensures.items c.keep.ensures.grows c.keep.ensures.holds (c.loop-child.invariant.hold x i);
    }

pub returns : goal.returns
returns c =
    let t = c.args.stated.now in
    let none = c.in_default.ensures.cases.0 in
    let count = c.loop-child.children.ok.0 in
    let gone : length c.loop-child.children.items ≡ 0 = omega (arith, none, count) in
    record {
      kept = c.loop-child.invariant.kept;
      grows = c.loop-child.invariant.grows;
      hold = λ x i.
          hold_all (given t.setting) t.fuel t.parts.now c.loop-child.children.items x c.loop-child.self.starts.items
          c.loop-child.self.unstated gone (c.loop-child.invariant.hold x i);
    }
