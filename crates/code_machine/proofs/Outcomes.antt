-- Complete schedules have one outcome: that of the end of the complete runs by paths.
use Rattle.std.proofs.Common.{◌≡◌, inl, inr, ◌∙◌, ℕ, zero, suc, ◌+◌, List, [], ◌∷◌, ◌++◌, map, Option, Some, None, refl, sym, ap, subst}
use Rattle.std.specs.Prelude.{if◌then◌else◌}
use Rattle.rev_num.specs.Path.{Path}
use Rattle.rev_num.specs.declared.outcome.Outcome.{Outcome}
use Rattle.rev_num.specs.declared.outcome.Outcome.TheVariants as o
use Rattle.rev_num.specs.declared.outcome.Shown.{Shown}
use Rattle.rev_code.specs.declared.code.CodeVar.{CodeVar}
use Rattle.rev_code.specs.Words.{Word, int, bool, rev}
use Rattle.rev_code.specs.State.{Location, seen_at}
use Rattle.revision_machine.specs.Machine.{Entry, Plain, Joined, Global, Twice, Live}
use Rattle.revision_machine.specs.Laws.{IsIn, local_of}
use Rattle.revision_machine.specs.Numbered as numbers
use Rattle.revision_machine.specs.Numbered.{World, Both, Listing, at_number, or_path, number_of, paths_of, globe_of, machine_by, shows, begin, Replays, HasPaths, ReadsAs}
use Rattle.revision_machine.specs.Simulation.{Agrees, EntryAgrees}
use Rattle.revision_machine.specs.Schedules.{MatchesEnd}
use Rattle.revision_machine.proofs.Ends.{unique_end}
use Rattle.revision_machine.proofs.Numbers.{number_back, globe_there, first_entry}
use Rattle.revision_machine.proofs.Schedules.{schedule_law, complete_schedule_agrees}
use Rattle.code_machine.specs.Local.{CodeRun, IsVerified, Phase, running, done, trapped, Local, handles}
use Rattle.code_machine.specs.Joining.{main_at}
use Rattle.code_machine.specs.Machines.{machine, numbered, Holds, IsMain, start_in}
use Rattle.code_machine.specs.Renamed.{renamed_word, renamed_written, renamed_location, renamed_phase, renamed_handle, renamed, IsNumbered}
use Rattle.code_machine.specs.Proper as proper
use Rattle.code_machine.specs.Proper.{EachEntry}
use Rattle.code_machine.specs.Outcome.{value_of, value_at, show_cells, show_variable, show_all, origin_path, end_as, main_outcome, outcome_with, outcome, outcome_in, outcome_by_paths, OneOutcome}
use Rattle.code_machine.proofs.Renaming.{seen_at_same}
use Rattle.code_machine.proofs.Naming.{AllFixed, local_fixed}
use Rattle.code_machine.proofs.Holding.{holding}
use Rattle.code_machine.proofs.MachineConditions.{counts, named_counts}
use Rattle.code_machine.proofs.Numbering.{simulates, first_none, first_numbered}
use Rattle.code_machine.proofs.Ending.{none_blocked}

-- ---- the outcome of a state with other handles

module _ {H K : Type 0} (f : H → K) (path : K → Path) where
  abbrev there : H → Path
  there h = path (f h)

  word_read : (w : Word H) → value_of path (renamed_word f w) ≡ value_of (λ h. path (f h)) w
  word_read (int n) = refl
  word_read (bool b) = refl
  word_read (rev None) = refl
  word_read (rev (Some h)) = refl

  main_read : (x : Option (Word H))
      → value_of path (main_at (renamed_written f x)) ≡ value_of (λ h. path (f h)) (main_at x)
  main_read None = refl
  main_read (Some w) = word_read w

  value_read : (ls : List (Location H)) (n : ℕ)
      → value_at path (map (renamed_location f) ls) n ≡ value_at (λ h. path (f h)) ls n
  value_read ls n = ap (λ x. value_of path (main_at x)) (seen_at_same f ls n) ∙ main_read (seen_at ls n)

  cells_read : (name : List ℕ) (ls : List (Location H)) (base cell count : ℕ)
      → show_cells path name (map (renamed_location f) ls) base cell count
      ≡ show_cells (λ h. path (f h)) name ls base cell count
  cells_read name ls base cell zero = refl
  cells_read name ls base cell (suc n) =
      let a = value_read ls (base + cell) in
      let b = cells_read name ls base (suc cell) n in
      λ j. record { name = name; cell = Some cell; value = a j } ∷ b j

  variable_read : (ls : List (Location H)) (base : ℕ) (x : CodeVar)
      → show_variable path (map (renamed_location f) ls) base x ≡ show_variable (λ h. path (f h)) ls base x
  variable_read ls base x =
      let a = cells_read x.name ls base 0 x.cells in
      let b = value_read ls base in
      λ j. if x.array then a j else record { name = x.name; cell = None; value = b j } ∷ []

  all_read : (ls : List (Location H)) (base : ℕ) (xs : List CodeVar)
      → show_all path (map (renamed_location f) ls) base xs ≡ show_all (λ h. path (f h)) ls base xs
  all_read ls base [] = refl
  all_read ls base (x ∷ xs) =
      let a = variable_read ls base x in let b = all_read ls (base + x.cells) xs in λ j. a j ++ b j

  end_read : (text : List ℕ) (values : List Shown) (ph : Phase H)
      → end_as path text values (renamed_phase f ph) ≡ end_as (λ h. path (f h)) text values ph
  end_read text values running = refl
  end_read text values done = refl
  end_read text values (trapped t) = by t.origin
    where
      by : (x : Option H)
          → Some (o.Trapped text values
          (record { cause = t.cause; line = t.line; origin = origin_path path (renamed_handle f x) }))
          ≡ Some
          (o.Trapped text values (record { cause = t.cause; line = t.line; origin = origin_path (λ h. path (f h)) x }))
      by None = refl
      by (Some h) = refl

  outcome_read : (g : CodeRun) (l : Local H) → main_outcome path g (renamed f l) ≡ main_outcome (λ h. path (f h)) g l
  outcome_read g l =
      ap (λ z. end_as path l.state.text z (renamed_phase f l.phase)) (all_read l.state.locations 0 g.code.vars)
      ∙ end_read l.state.text (show_all (λ h. path (f h)) l.state.locations 0 g.code.vars) l.phase

-- ---- numbers read as paths

module _ (t : List Path) where
  back : Path → Path
  back q = or_path (at_number t (number_of t q)) []

  pub all_back : (hs : List Path) → ((q : Path) → IsIn q hs → IsIn q t)
      → AllFixed (λ q. or_path (at_number t (number_of t q)) []) hs
  all_back [] known = tt
  all_back (h ∷ hs) known =
      (ap (λ x. or_path x []) (number_back t h (known h (inl refl))), all_back hs (λ q i. known q (inr i)))

  local_outcome : (g : CodeRun) (r : Path) (a : Local Path) (b : Local ℕ) → IsNumbered t r a b
      → main_outcome (λ n. or_path (at_number t n) []) g b ≡ main_outcome (λ p. p) g a
  local_outcome g r a b rel =
      ap (main_outcome (λ n. or_path (at_number t n) []) g) rel.is
      ∙ outcome_read (number_of t) (λ n. or_path (at_number t n) []) g a
      ∙ sym (outcome_read (λ q. or_path (at_number t (number_of t q)) []) (λ p. p) g a)
      ∙ ap (main_outcome (λ p. p) g)
      (local_fixed (λ q. or_path (at_number t (number_of t q)) []) a (all_back (handles a) rel.known))

-- ---- worlds

module _ (g : CodeRun) (ok : IsVerified g) (n : ℕ) (m : IsMain g n) (fuel : ℕ) where
  abbrev first : Local ℕ
  first = start_in g n m.body fuel

  pub ended : (ns : List ℕ) (w : World (Local ℕ))
      → Replays (numbered g) (begin (numbered g) (start_in g n m.body fuel)) ns w
      → numbers.IsOver (numbered g) (start_in g n m.body fuel) w
      → MatchesEnd (machine g) (numbered g) IsNumbered (start_in g n m.body fuel) (start_in g n m.body fuel) w
  ended ns w h over =
      complete_schedule_agrees (machine g) (numbered g) IsNumbered (start_in g n m.body fuel) (start_in g n m.body fuel)
      (named_counts g ok) (simulates g ok)
      (λ t i. first_numbered g n m.body fuel t) Holds (counts g ok) (holding g) (first_none g n m.body fuel) ns w h over

  entry_outcome : (t : List Path) (e : Entry (Local ℕ)) (x : Option (Entry (Local Path)))
      → EntryAgrees (machine g) (machine_by (numbered g) t) (IsNumbered t) [] x (Some e)
      → main_outcome (λ k. or_path (at_number t k) []) g (local_of e) ≡ outcome_in g x
  entry_outcome t (Plain b) (Some (Plain a)) h = local_outcome t g [] a b h
  entry_outcome t (Joined b) (Some (Joined a)) h = local_outcome t g [] a b h
  entry_outcome t (Plain b) (Some (Joined a)) h = absurd h
  entry_outcome t (Joined b) (Some (Plain a)) h = absurd h
  entry_outcome t e None h = absurd h

  pub world_outcome : (ns : List ℕ) (w : World (Local ℕ))
      → Replays (numbered g) (begin (numbered g) (start_in g n m.body fuel)) ns w
      → (t : List Path) → HasPaths (numbered g) (start_in g n m.body fuel) w t → (s : Global (Local Path))
      → Agrees (machine g) (machine_by (numbered g) t) (IsNumbered t) s (shows w) → outcome g w ≡ outcome_by_paths g s
  world_outcome ns Both h t own Twice a = refl
  world_outcome ns Both h t own (Live revs) a = absurd a
  world_outcome ns (Listing w) h t own Twice a = absurd a
  world_outcome ns (Listing w) h t own (Live revs) a =
      let law = schedule_law (numbered g) (start_in g n m.body fuel) (named_counts g ok) ns (Listing w) h in
      let reads : ReadsAs (numbered g) (start_in g n m.body fuel) ns (Listing w) law.0 = law.2 in
      let here = first_entry w [] reads.children (sym law.1 ∙ reads.are) in
      let distinct = subst Rattle.revision_machine.specs.Laws.IsDistinct law.1 reads.distinct in
      let globe : globe_of w [] ≡ Some here.0 = globe_there w 0 [] here.0 distinct here.1 in
      let agree =
      subst (EntryAgrees (machine g) (machine_by (numbered g) t) (IsNumbered t) [] (revs [])) globe (a []) in
      ap (outcome_with g (paths_of w)) here.1
      ∙ ap (λ p. main_outcome (λ k. or_path (at_number p k) []) g (local_of here.0)) (sym own)
      ∙ entry_outcome t here.0 (revs []) agree

  over_outcome : (l : Local ℕ) (path : ℕ → Path) → proper.IsOver l → (r : Outcome) × (main_outcome path g l ≡ Some r)
  over_outcome l path (inl e) = (
    o.Done l.state.text (show_all path l.state.locations 0 g.code.vars),
    ap (end_as path l.state.text (show_all path l.state.locations 0 g.code.vars)) e,
  )
  over_outcome l path (inr (t, e)) =
      (_, ap (end_as path l.state.text (show_all path l.state.locations 0 g.code.vars)) e)

  has_outcome : (ns : List ℕ) (w : World (Local ℕ))
      → Replays (numbered g) (begin (numbered g) (start_in g n m.body fuel)) ns w → EachEntry (λ l. proper.IsOver l) w
      → (r : Outcome) × (outcome g w ≡ Some r)
  has_outcome ns Both h all = (o.Twice, refl)
  has_outcome ns (Listing w) h all =
      let law = schedule_law (numbered g) (start_in g n m.body fuel) (named_counts g ok) ns (Listing w) h in
      let reads : ReadsAs (numbered g) (start_in g n m.body fuel) ns (Listing w) law.0 = law.2 in
      let here = first_entry w [] reads.children (sym law.1 ∙ reads.are) in
      let r = over_outcome (local_of here.0) (λ k. or_path (at_number (paths_of w) k) []) (all 0 [] here.0 here.1) in
      (r.0, ap (outcome_with g (paths_of w)) here.1 ∙ r.1)

pub one_outcome : OneOutcome
one_outcome g ok n m fuel ns ks w u h over h' over' =
    let a = ended g ok n m fuel ns w h over in
    let b = ended g ok n m fuel ks u h' over' in
    let same : a.matches.state ≡ b.matches.state =
    unique_end (machine g) (start_in g n m.body fuel) (counts g ok)
    (Rattle.revision_machine.specs.Machine.start (machine g) (start_in g n m.body fuel)) a.matches.state b.matches.state
    a.matches.by b.matches.by
    (record { by = []; runs = refl }) (record { runs = a.matches.runs; final = a.final })
    (record { runs = b.matches.runs; final = b.final }) in
    let p = world_outcome g ok n m fuel ns w h a.matches.table a.matches.own a.matches.state a.matches.agrees in
    let q = world_outcome g ok n m fuel ks u h' b.matches.table b.matches.own b.matches.state b.matches.agrees in
    let r = has_outcome g ok n m fuel ns w h (none_blocked g ok n m fuel ns w h over) in
    (r.0, r.1, q ∙ sym (ap (outcome_by_paths g) same) ∙ sym p ∙ r.1)
