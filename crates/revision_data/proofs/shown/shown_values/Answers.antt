-- Answers of shown_values: a row of shared variables stands for a shared declaration, so no other kind is met there.
use Rattle.std.proofs.Common.{◌∙◌, inl, inr, refl, get_or, sym, arith}
use Rattle.rev_syntax.specs.View.{program as whole}
use Rattle.revision_data.proofs.Showing.{no_row, row_at, decl_within, declared_at, no_other, shared_name, values_more}
use Rattle.revision_data.proofs.shown.shown_values.Goals as goal

pub index-requires : goal.index-requires
index-requires c =
    let p = whole c.args.typed.now.expanded.program in
    let rows = c.as_slice-rows.result.now in
    let r = row_at p rows c.loop-i.i (c.as_slice-rows.ensures ∙ c.args.typed.now.shared_listed) c.loop-i-test.true in
    let w = decl_within c.args.typed.now.expanded.program.decls.items (get_or rows c.loop-i.i no_row).decl
    r.variable.declared r.place in
    let n = c.args.typed.now.expanded.program.decls.ok.0 in
    omega arith

pub unreachable-requires : goal.unreachable-requires
unreachable-requires c =
    let p = whole c.args.typed.now.expanded.program in
    let rows = c.as_slice-rows.result.now in
    let r = row_at p rows c.loop-i.i (c.as_slice-rows.ensures ∙ c.args.typed.now.shared_listed) c.loop-i-test.true in
    let is = declared_at c.args.typed.now.expanded.program.decls.items (get_or rows c.loop-i.i no_row).decl
    r.variable.declared r.place c.index.result.now _ c.index.ensures in
    elim c.in-Fun.is [
      | inl v ↦ no_other r.variable.declared c.index.result.now _ is v.4 refl
      | inr w ↦ elim w [
        | inl v ↦ no_other r.variable.declared c.index.result.now _ is v.5 refl
        | inr v ↦ no_other r.variable.declared c.index.result.now _ is v.4 refl
      ]
    ]

pub loop-i-preserved : goal.loop-i-preserved
loop-i-preserved c =
    let p = whole c.args.typed.now.expanded.program in
    let rows = c.as_slice-rows.result.now in
    let r = row_at p rows c.loop-i.i (c.as_slice-rows.ensures ∙ c.args.typed.now.shared_listed) c.loop-i-test.true in
    let is = declared_at c.args.typed.now.expanded.program.decls.items (get_or rows c.loop-i.i no_row).decl
    r.variable.declared r.place c.index.result.now _ c.index.ensures in
    let v = c.in-Shared in
    values_more p c.args.locations.now c.loop-i.i (get_or rows c.loop-i.i no_row) c.as_slice.result.now
    c.loop-i.shown.items c.show.new.shown.items r
    (shared_name r.variable.declared c.index.result.now v.name v.by v.kind_at v.holds v.size v.first is v.is
    ∙ sym c.as_slice.ensures.value)
    c.in_ok-show-in-Shared.ensures c.loop-i.invariant
