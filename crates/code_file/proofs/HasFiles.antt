-- Code that the verifier accepts has a file.
use Rattle.std.proofs.Common.{◌≡◌, ℕ, Bool, true, false, not, ◌&&◌, if◌then◌else◌, List, [], length, get_or, All, Option, Some, None, refl, nat_eq}
use Rattle.std.specs.List.{list_all}
use Rattle.std.specs.Prelude.{slice_get}
use Rattle.rev_num.specs.Value.{same_kind}
use Rattle.rev_num.specs.declared.value.ValueKind.TheVariants as k
use Rattle.rev_num.proofs.Lists.{and_left, and_right}
use Rattle.rev_code.specs.declared.code.Code.{Code}
use Rattle.rev_code.specs.declared.code.CodeVar.{CodeVar}
use Rattle.code_rules.specs.declared.Fault.{Fault}
use Rattle.code_rules.specs.Pass.{blocks_fault}
use Rattle.code_rules.specs.Tables as tables
use Rattle.code_rules.specs.Verdict.{first_fault}
use Rattle.code_file.specs.Counts.{Counted}
use Rattle.code_file.specs.Parts.{is_merge, is_text}
use Rattle.code_file.specs.Laws.{HasFile, IsText, IsVar, NumbersFit, VarFits}
use Rattle.code_file.proofs.Accepted.{each}

kept : (a b : Bool) (o : Option Fault) (f g : Fault) → (if a then (if b then o else Some f) else Some g) ≡ None
    → a ≡ true
kept true b o f g e = refl
kept false b o f g e = absurd (cc)

merge_by : (cumulative whole has : Bool) (merge : ℕ)
    → (if cumulative then whole && not (nat_eq merge tables.no_merge) && has else nat_eq merge tables.no_merge) ≡ true
    → is_merge cumulative merge ≡ true
merge_by true whole has merge h =
    and_right whole (not (nat_eq merge tables.no_merge)) (and_left (whole && not (nat_eq merge tables.no_merge)) has h)
merge_by false whole has merge h = h

a_var : (code : Code) (v : CodeVar) → tables.is_var code v ≡ true → VarFits v → IsVar v
a_var code v h fits =
    let named =
    and_left (tables.is_name v.name && tables.has_cells v.array v.cells && tables.is_start v.kind v.start)
    (tables.merges_well code v) h in
    let celled =
    and_left (tables.is_name v.name && tables.has_cells v.array v.cells) (tables.is_start v.kind v.start) named in
    record {
      name = and_left (tables.is_name v.name) (tables.has_cells v.array v.cells) celled;
      cells = and_right (tables.is_name v.name) (tables.has_cells v.array v.cells) celled;
      cells_fit = fits.cells;
      start = and_right (tables.is_name v.name && tables.has_cells v.array v.cells) (tables.is_start v.kind v.start)
          named;
      start_fits = fits.start;
      merge = merge_by v.cumulative (same_kind v.kind k.Int) (tables.is_int_merge (slice_get code.blocks v.merge))
          v.merge (and_right
          (tables.is_name v.name && tables.has_cells v.array v.cells && tables.is_start v.kind v.start)
          (tables.merges_well code v) h);
      merge_fits = fits.merge;
    }

-- what each element passes and what each has
both : {A : Type 0} (P Q R : A → Type 0) (xs : List A) → ((x : A) → P x → Q x → R x) → All P xs → All Q xs → All R xs
both P Q R xs to p q i d lt = to (get_or xs i d) (p i d lt) (q i d lt)

pub has_file : (code : Code) → first_fault code ≡ None → Counted code → NumbersFit code → HasFile code
has_file code none counted fit =
    let well = kept (tables.names_well code) (tables.is_small code) (blocks_fault code [] 0 code.blocks) _ _ none in
    let lines =
    and_right (tables.blocks_well code && list_all (tables.is_var code) code.vars) (tables.lines_well code) well in
    let vars =
    and_right (tables.blocks_well code) (list_all (tables.is_var code) code.vars)
    (and_left (tables.blocks_well code && list_all (tables.is_var code) code.vars) (tables.lines_well code) well) in
    record {
      counted = counted;
      vars = both (λ v. tables.is_var code v ≡ true) VarFits IsVar code.vars (a_var code)
          (each (tables.is_var code) (λ v. tables.is_var code v ≡ true) (λ v e. e) code.vars vars) fit.vars;
      texts = each is_text IsText (λ t e. e) code.texts
          (and_left (list_all (list_all tables.is_text_byte) code.texts)
          (list_all (list_all (tables.is_item (length code.texts))) code.layouts) lines);
      items = fit.items;
      blocks = fit.blocks;
    }
