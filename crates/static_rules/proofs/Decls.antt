-- What the checker keeps of the declarations that it has passed.
--
-- `Met`: its tables and what it counts are those of the declarations before; it begins so, and one declaration
-- more keeps it. The faults that it lists of a declaration stand in Declarations.
use Rattle.std.proofs.Common.{◌≡◌, ◌∙◌, inl, inr, ℕ, ◌+◌, ◌-◌, min, true, is_some, List, [], ◌∷◌, ◌++◌, refl, sym, ap, subst, arith}
use Rattle.rev_syntax.specs.Trees.{Declaration, fun, merge, shared, proc}
use Rattle.typed_programs.specs.Least.{Among}
use Rattle.name_tables.specs.Names.{Name}
use Rattle.name_tables.specs.Table.{Table, find, added}
use Rattle.typed_programs.specs.Weights.{expression_weight, weights_with, weights_after}
use Rattle.typed_programs.proofs.Lists.{known_added, known_more}
use Rattle.typed_programs.specs.Program as d
use Rattle.typed_programs.specs.Judgement.{name_of, IsMergeOf}
use Rattle.typed_programs.specs.Limits.{cells, procs, funs}
use Rattle.typed_programs.proofs.Weights.{Caps, none_caps, added_caps, expression_caps}
use Rattle.static_rules.proofs.Blocks.{among_behind, further}
use Rattle.typed_programs.proofs.Layouts.{cells_behind}
use Rattle.typed_programs.proofs.Firsts.{last_among}
pub use Rattle.typed_programs.proofs.Firsts.{left_among as in_front}
pub use Rattle.rev_num.proofs.Lists.{false_no as none_there}

-- ---- lists

pub ++-nil : {A : Type 0} (xs : List A) → xs ++ [] ≡ xs
++-nil [] = refl
++-nil (x ∷ xs) = ap (λ l. x ∷ l) (++-nil xs)

-- ---- what lies before a declaration

pub record Met (q : d.Passed) (before : List Declaration) : Type 0 where
  pub names_of : (name : Name) → is_some (find name q.names) ≡ true
      → (e : Declaration) × Among before e × (name_of e ≡ name)
  pub of_names : (e : Declaration) → Among before e → is_some (find (name_of e) q.names) ≡ true
  pub merges_of : (name : Name) → is_some (find name q.merges) ≡ true
      → (e : Declaration) × Among before e × IsMergeOf name e
  pub of_merges : (name : Name) (e : Declaration) → Among before e → IsMergeOf name e
      → is_some (find name q.merges) ≡ true
  pub weights : Caps (weights_after [] before) q.weights
  pub located : q.located ≡ min (cells before) 4097
  pub procs_left : q.procs_left ≡ 257 - procs before
  pub funs_left : q.funs_left ≡ 257 - funs before

pub met_none : Met d.nothing_passed []
met_none = record {
  names_of = λ name h. none_there h;
  of_names = λ e m. absurd m;
  merges_of = λ name h. none_there h;
  of_merges = λ name e m. absurd m;
  weights = none_caps;
  located = refl;
  procs_left = refl;
  funs_left = refl;
}

procs_end : (before : List Declaration) (e : Declaration) → procs (before ++ e ∷ []) ≡ procs before + procs (e ∷ [])
procs_end [] e = omega arith
procs_end (proc w ps r body ∷ before) e = let h = procs_end before e in omega arith
procs_end (fun w ps r body ∷ before) e = procs_end before e
procs_end (merge w m j r body ∷ before) e = procs_end before e
procs_end (shared x ∷ before) e = procs_end before e

funs_end : (before : List Declaration) (e : Declaration) → funs (before ++ e ∷ []) ≡ funs before + funs (e ∷ [])
funs_end [] e = omega arith
funs_end (fun w ps r body ∷ before) e = let h = funs_end before e in omega arith
funs_end (merge w m j r body ∷ before) e = let h = funs_end before e in omega arith
funs_end (proc w ps r body ∷ before) e = funs_end before e
funs_end (shared x ∷ before) e = funs_end before e

weights_end : (ws : Table ℕ) (before : List Declaration) (e : Declaration)
    → weights_after ws (before ++ e ∷ []) ≡ weights_with (weights_after ws before) e
weights_end ws [] e = refl
weights_end ws (y ∷ before) e = weights_end (weights_with ws y) before e

caps_with : (q : d.Passed) (ws : Table ℕ) (e : Declaration) → Caps ws q.weights
    → Caps (weights_with ws e) (d.passed_with q e).weights
caps_with q ws (fun w ps r body) c =
    added_caps ws q.weights w.text (expression_weight ws body) (d.weight q.weights body) c
    (expression_caps ws q.weights c body)
caps_with q ws (merge w m j r body) c = c
caps_with q ws (shared x) c = c
caps_with q ws (proc w ps r body) c = c

names_with : (q : d.Passed) (e : Declaration) → (d.passed_with q e).names ≡ added q.names (name_of e) q.number
names_with q (fun w ps r body) = refl
names_with q (merge w m j r body) = refl
names_with q (shared x) = refl
names_with q (proc w ps r body) = refl

merges_with : (q : d.Passed) (before : List Declaration) (e : Declaration) → Met q before → (name : Name)
    → is_some (find name (d.passed_with q e).merges) ≡ true
    → (y : Declaration) × Among (before ++ e ∷ []) y × IsMergeOf name y
merges_with q before (merge w m j r body) f name h = elim (known_added name w.text q.merge_count q.merges h) [
  | inl a ↦ let g = f.merges_of name a in (g.0, in_front before (merge w m j r body ∷ []) g.0 g.1, g.2)
  | inr b ↦ (merge w m j r body, among_behind before (merge w m j r body) [], sym b)
]
merges_with q before (fun w ps r body) f name h =
    let g = f.merges_of name h in (g.0, in_front before (fun w ps r body ∷ []) g.0 g.1, g.2)
merges_with q before (shared x) f name h =
    let g = f.merges_of name h in (g.0, in_front before (shared x ∷ []) g.0 g.1, g.2)
merges_with q before (proc w ps r body) f name h =
    let g = f.merges_of name h in (g.0, in_front before (proc w ps r body ∷ []) g.0 g.1, g.2)

merges_kept : (q : d.Passed) (e : Declaration) (name : Name) → is_some (find name q.merges) ≡ true
    → is_some (find name (d.passed_with q e).merges) ≡ true
merges_kept q (merge w m j r body) name h = known_more name w.text q.merge_count q.merges (inl h)
merges_kept q (fun w ps r body) name h = h
merges_kept q (shared x) name h = h
merges_kept q (proc w ps r body) name h = h

merge_new : (q : d.Passed) (e : Declaration) (name : Name) → IsMergeOf name e
    → is_some (find name (d.passed_with q e).merges) ≡ true
merge_new q (merge w m j r body) name h = known_more name w.text q.merge_count q.merges (inr (sym h))
merge_new q (fun w ps r body) name h = absurd h
merge_new q (shared x) name h = absurd h
merge_new q (proc w ps r body) name h = absurd h

located_with : (q : d.Passed) (n : ℕ) (e : Declaration) → q.located ≡ min n 4097
    → (d.passed_with q e).located ≡ min (n + cells (e ∷ [])) 4097
located_with q n (shared x) h = omega arith
located_with q n (fun w ps r body) h = omega arith
located_with q n (merge w m j r body) h = omega arith
located_with q n (proc w ps r body) h = omega arith

procs_with : (q : d.Passed) (n : ℕ) (e : Declaration) → q.procs_left ≡ 257 - n
    → (d.passed_with q e).procs_left ≡ 257 - (n + procs (e ∷ []))
procs_with q n (proc w ps r body) h = omega arith
procs_with q n (fun w ps r body) h = omega arith
procs_with q n (merge w m j r body) h = omega arith
procs_with q n (shared x) h = omega arith

funs_with : (q : d.Passed) (n : ℕ) (e : Declaration) → q.funs_left ≡ 257 - n
    → (d.passed_with q e).funs_left ≡ 257 - (n + funs (e ∷ []))
funs_with q n (fun w ps r body) h = omega arith
funs_with q n (merge w m j r body) h = omega arith
funs_with q n (shared x) h = omega arith
funs_with q n (proc w ps r body) h = omega arith

names_back : (q : d.Passed) (before : List Declaration) (e : Declaration) → Met q before → (name : Name)
    → is_some (find name (added q.names (name_of e) q.number)) ≡ true
    → (y : Declaration) × Among (before ++ e ∷ []) y × (name_of y ≡ name)
names_back q before e f name h = elim (known_added name (name_of e) q.number q.names h) [
  | inl a ↦ let g = f.names_of name a in (g.0, in_front before (e ∷ []) g.0 g.1, g.2)
  | inr b ↦ (e, among_behind before e [], sym b)
]

pub met_next : (q : d.Passed) (before : List Declaration) (e : Declaration) → Met q before
    → Met (d.passed_with q e) (before ++ e ∷ [])
met_next q before e f = record {
  names_of = λ name h. names_back q before e f name (subst (λ t. is_some (find name t) ≡ true) (names_with q e) h);
  of_names = λ y m.
      subst (λ t. is_some (find (name_of y) t) ≡ true) (sym (names_with q e)) (elim (last_among before e y m) [
        | inl a ↦ known_more (name_of y) (name_of e) q.number q.names (inl (f.of_names y a))
        | inr b ↦ known_more (name_of y) (name_of e) q.number q.names (inr (ap name_of (sym b)))
      ]);
  merges_of = merges_with q before e f;
  of_merges = λ name y m is. elim (last_among before e y m) [
    | inl a ↦ merges_kept q e name (f.of_merges name y a is)
    | inr b ↦ merge_new q e name (subst (λ z. IsMergeOf name z) (sym b) is)
  ];
  weights = subst (λ ws. Caps ws (d.passed_with q e).weights) (sym (weights_end [] before e))
      (caps_with q (weights_after [] before) e f.weights);
  located = located_with q (cells before) e f.located ∙ ap (λ n. min n 4097) (sym (cells_behind before e));
  procs_left = procs_with q (procs before) e f.procs_left ∙ ap (λ n. 257 - n) (sym (procs_end before e));
  funs_left = funs_with q (funs before) e f.funs_left ∙ ap (λ n. 257 - n) (sym (funs_end before e));
}

pub met_all : (q : d.Passed) (before es all : List Declaration) → all ≡ before ++ es → Met q before
    → Met (d.passed_all q es) all
met_all q before [] all e f = subst (λ l. Met q l) (sym (e ∙ ++-nil before)) f
met_all q before (x ∷ es) all e f =
    met_all (d.passed_with q x) (before ++ x ∷ []) es all (further all before x es e) (met_next q before x f)
