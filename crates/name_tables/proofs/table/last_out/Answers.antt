-- Answers of last_out: the entries were those left with the popped one behind, and its map loses its name.
use Rattle.std.proofs.Common.{◌≡◌, ◌∙◌, ◌<◌, ◌≤◌, ◌++◌, ◌∷◌, [], None, List, ℕ, ap, subst, length, nat_cmp}
use Rattle.std.specs.BTreeMap.{UpdatesBy}
use Rattle.std.specs.Cmp.Lexicographic.{slice_cmp}
use Rattle.name_tables.specs.Table.{AreBytes, IsIndexed, against, number, rows}
use Rattle.name_tables.proofs.Tables.{Key, forget_long, forget_short, rows_push}
use Rattle.name_tables.proofs.table.last_out.Goals as goal

pub returns-in-Some-number_of-clause-indexed : goal.returns-in-Some-number_of-clause-indexed
returns-in-Some-number_of-clause-indexed g c =
    let whole :
    rows c.args.entries.now.items ≡ rows c.pop.new.self.items ++ (c.in-Some.name.items, c.in-Some.field-0-1) ∷ [] =
    ap rows c.in-Some.ensures.items ∙ rows_push c.pop.new.self.items c.in-Some.name c.in-Some.field-0-1 in
    forget_short c.args.short.now c.remove.new.self c.args.long.now c.in-Some.name.items c.in-Some-number_of.number
    c.in-Some.field-0-1 (rows c.pop.new.self.items)
    (subst (λ (w : List ℕ). AreBytes w) c.as_slice.ensures.value c.number_of.ensures.bytes)
    (subst (λ (w : List ℕ). length w ≤ 7) c.as_slice.ensures.value c.in-Some-number_of.ensures.short.0)
    (c.in-Some-number_of.ensures.short.1 ∙ ap number c.as_slice.ensures.value) c.remove.ensures.updates
    (subst (λ t. IsIndexed c.args.short.now c.args.long.now t) whole c.requires)

pub returns-clause-indexed : goal.returns-clause-indexed
returns-clause-indexed g c =
    let whole :
    rows c.args.entries.now.items ≡ rows c.pop.new.self.items ++ (c.in-Some.name.items, c.in-Some.field-0-1) ∷ [] =
    ap rows c.in-Some.ensures.items ∙ rows_push c.pop.new.self.items c.in-Some.name c.in-Some.field-0-1 in
    forget_long c.args.short.now c.args.long.now c.remove-in-None.new.self c.in-Some.name c.in-Some.field-0-1
    (rows c.pop.new.self.items)
    (subst (λ (w : List ℕ). 7 < length w) c.as_slice.ensures.value c.in-None.ensures.long)
    (subst (λ w.
    UpdatesBy (λ (a b : Key). slice_cmp nat_cmp a.items b.items) (against w) c.args.long.now c.remove-in-None.new.self
    None)
    c.as_slice-in-None.ensures.value c.remove-in-None.ensures.updates)
    (subst (λ t. IsIndexed c.args.short.now c.args.long.now t) whole c.requires)
