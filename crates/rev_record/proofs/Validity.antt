-- What a revision begins with agrees with what an entry stands for where the machine's words have its values.
use Rattle.std.proofs.Common.{◌≡◌, ◌∙◌, ◌⊎◌, inl, inr, ℕ, Bool, true, ℤ, List, [], ◌∷◌, map, Some, sym, ap, subst}
use Rattle.std.specs.Prelude.{◌↔◌}
use Rattle.rev_num.specs.Path.{Path}
use Rattle.rev_code.specs.declared.code.Code.{Code}
use Rattle.rev_code.specs.declared.code.CodeVar.{CodeVar}
use Rattle.rev_code.specs.Words.{Word}
use Rattle.revision_machine.specs.Numbered.{path_in}
use Rattle.code_machine_laws.specs.Reads as reads
use Rattle.code_machine_laws.specs.Reads.{Read}
use Rattle.code_machine_laws.specs.Moved.{Agrees, AllAgree}
use Rattle.code_memos.specs.Leaf.{Fresh, Known, IsValid}
use Rattle.code_world.specs.declared.freshness.FreshStart as rust
use Rattle.rev_record.specs.declared.entry.KeptValue.{KeptValue}
use Rattle.rev_record.specs.declared.entry.LeafEntry.{LeafEntry}
use Rattle.rev_record.specs.Begins.{BeginsAt}
use Rattle.rev_record.specs.Standing.{Has, HasReads, StandsFor, given, kept, value}
use Rattle.rev_record.specs.Words.{AreGiven, AreHere, IsCount, IsSameStart, args_of}
use Rattle.rev_record.proofs.Lists.{has_first, has_later, has_none, has_one}
use Rattle.rev_record.proofs.Words.{args_are, one_list, one_word, seen, seen_back}

-- ---- what was read, one by one

module _ (xs : List (Word Path)) (inputs : List ℤ) where
  pub all_each : (rs : List (Read Path)) → AllAgree xs inputs rs → (r : Read Path) → Has rs r → Agrees xs inputs r
  all_each [] h r i = has_none r i
  all_each (x ∷ rs) h r i = by (λ j. all_each rs h.1 r j) (has_one r x rs i)
    where
      by : (Has rs r → Agrees xs inputs r) → (r ≡ x) ⊎ Has rs r → Agrees xs inputs r
      by later (inl e) = subst (Agrees xs inputs) (sym e) h.0
      by later (inr j) = later j

  pub each_all : (rs : List (Read Path)) → ((r : Read Path) → Has rs r → Agrees xs inputs r) → AllAgree xs inputs rs
  each_all [] h = tt
  each_all (x ∷ rs) h = (h x (has_first x rs), each_all rs (λ r i. h r (has_later r x rs i)))

pub here_same : (path : ℕ → Path) (d : Bool) (vars vars' : List CodeVar) (base base' : List ℕ)
    (read read' : List KeptValue)
    → vars ≡ vars' → base ≡ base' → read ≡ read'
    → (d ≡ true) ↔ AreHere path vars base read → (d ≡ true) ↔ AreHere path vars' base' read'
here_same path d vars vars' base base' read read' v b r h =
    subst (λ z. (d ≡ true) ↔ AreHere path z base' read') v
    (subst (λ z. (d ≡ true) ↔ AreHere path vars z read') b (subst (λ z. (d ≡ true) ↔ AreHere path vars base z) r h))

-- ---- by the words of a machine

module _ (code : Code) (t : List Path) (f : Fresh Path) (x : rust.FreshStart) (b : BeginsAt code t f x)
    (inputs : List ℤ) (k : LeafEntry) where
  -- the machine has what the entry was told
  pub record HasAll : Type 0 where
    pub given_there : AreGiven inputs k.inputs
    pub count_there : IsCount inputs k.count
    pub kept_there : AreHere (path_in t) code.vars x.base.items k.locations

  module _ (rs : List (Read Path)) (h : HasReads k rs) where
    agrees_all : AllAgree f.snapshot inputs rs → HasAll
    agrees_all a = record {
      given_there = λ y i. all_each f.snapshot inputs rs a (reads.input y.position y.number) (h.no_position y i);
      count_there = λ n e. all_each f.snapshot inputs rs a (reads.count n) (h.no_count n e);
      kept_there = λ y i.
          let z = h.no_location y i in
          let e = all_each f.snapshot inputs rs a (reads.location y.location z.0) z.2 in
          let s = seen t code.vars f.snapshot x.base.items b.base y.location z.0 e in
          (s.0, s.1, s.2 ∙ sym z.1);
    }

    all_agrees : HasAll → AllAgree f.snapshot inputs rs
    all_agrees a = each_all f.snapshot inputs rs each
      where
        each : (r : Read Path) → Has rs r → Agrees f.snapshot inputs r
        each (reads.location n w) i =
            let y = a.kept_there (kept n w) (h.locations n w i) in
            let s = seen_back t code.vars f.snapshot x.base.items b.base n y.0 y.1 in
            let same : s.0 ≡ w = one_word s.0 w (sym s.2 ∙ y.2) in
            s.1 ∙ ap Some same
        each (reads.input n z) i = a.given_there (given n z) (h.positions n z i)
        each (reads.count n) i = a.count_there n (h.counts n i)

  -- it begins alike, and its arguments have the values of the entry's
  pub record IsAlike (path : Path) : Type 0 where
    pub start : IsSameStart path x k
    pub args : k.args ≡ args_of (path_in t) b.body.locals x.args.items
    pub all : HasAll

  module _ (path : Path) (e : Known) (s : StandsFor k e) where
    values_are : args_of (path_in t) b.body.locals x.args.items ≡ map value f.args
    values_are = args_are t b.body.params b.body.locals f.args x.args.items b.args

    pub valid_alike : IsValid e path f inputs → IsAlike path
    valid_alike v = record {
      start = record {
        path_is = s.path ∙ v.path_is;
        block_is = s.block ∙ v.block_is ∙ sym b.block;
        fuel_is = s.fuel ∙ v.fuel_is ∙ sym b.fuel;
      };
      args = s.args ∙ ap (map value) v.args_are ∙ sym values_are;
      all = agrees_all e.reads s.reads v.reads_agree;
    }

    pub alike_valid : IsAlike path → IsValid e path f inputs
    alike_valid a = record {
      path_is = sym s.path ∙ a.start.path_is;
      block_is = sym s.block ∙ a.start.block_is ∙ b.block;
      args_are = one_list e.args f.args (sym s.args ∙ a.args ∙ values_are);
      fuel_is = sym s.fuel ∙ a.start.fuel_is ∙ b.fuel;
      reads_agree = all_agrees e.reads s.reads a.all;
    }
