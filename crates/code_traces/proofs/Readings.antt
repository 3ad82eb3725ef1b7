-- Parts of a revision whose handles have other names.
use Rattle.std.proofs.Common.{◌≡◌, ◌∙◌, inl, inr, ℕ, suc, List, [], ◌∷◌, map, Option, Some, None, refl, sym, ap}
use Rattle.rev_num.specs.Path.{Path}
use Rattle.trace_diagram.specs.declared.diagram.PartEnd.TheVariants as part_end
use Rattle.revision_machine.specs.Laws.{IsIn}
use Rattle.revision_machine.specs.Numbered.{number_of, or_path}
use Rattle.revision_machine.proofs.Numbers.{number_back}
use Rattle.rev_code.specs.Words.{Word, int, bool, rev}
use Rattle.rev_code.specs.State.{Location, Listed, forked, joined}
use Rattle.code_machine.specs.Local.{CodeRun, Phase, running, done, trapped, Local, handles, written_from}
use Rattle.code_machine.specs.Renamed.{renamed_handle, renamed_word, renamed_location, renamed_one, renamed_phase, renamed, IsNumbered}
use Rattle.code_machine.specs.Outcome.{value_of}
use Rattle.code_machine.proofs.Naming.{AllFixed, local_fixed}
use Rattle.audit_rules.specs.Parts.{place_at, cause_place}
use Rattle.code_traces.specs.Parts.{places, event_of, origin_at, end_at, change_of, part_by, path_in, part_in}

module _ {H K : Type 0} (f : H → K) (path : K → Path) where
  abbrev through : H → Path
  through h = path (f h)

  word_read : (w : Word H) → value_of path (renamed_word f w) ≡ value_of through w
  word_read (int n) = refl
  word_read (bool b) = refl
  word_read (rev None) = refl
  word_read (rev (Some h)) = refl

  event_read : (x : Listed H) → event_of path (renamed_one f x) ≡ event_of through x
  event_read (forked h line) = refl
  event_read (joined h line) = refl

  pub events_read : (xs : List (Listed H)) → map (event_of path) (map (renamed_one f) xs) ≡ map (event_of through) xs
  events_read [] = refl
  events_read (x ∷ xs) = let a = event_read x in let b = events_read xs in λ i. a i ∷ b i

  origin_read : (r : Path) (h : Option H) → origin_at path r (renamed_handle f h) ≡ origin_at through r h
  origin_read r None = refl
  origin_read r (Some h) = refl

  pub end_read : (ps : List (List ℕ)) (r : Path) (x : Phase H)
      → end_at path ps r (renamed_phase f x) ≡ end_at through ps r x
  end_read ps r running = refl
  end_read ps r done = refl
  end_read ps r (trapped t) =
      let a = origin_read r t.origin in
      λ i. part_end.Trapped (record { cause = t.cause; line = t.line; origin = a i }) (cause_place ps t.cause)

  pub changes_read : (ps : List (List ℕ)) (n : ℕ) (ls : List (Location H))
      → map (change_of path ps) (written_from n (map (renamed_location f) ls))
      ≡ map (change_of through ps) (written_from n ls)
  changes_read ps n [] = refl
  changes_read ps n (l ∷ ls) = by l.written (changes_read ps (suc n) ls)
    where
      by : (w : Option (Word H))
          → map (change_of path ps) (written_from (suc n) (map (renamed_location f) ls))
          ≡ map (change_of through ps) (written_from (suc n) ls)
          → map (change_of path ps)
          (written_from n
          (renamed_location f (record { snapshot = l.snapshot; written = w }) ∷ map (renamed_location f) ls))
          ≡ map (change_of through ps) (written_from n (record { snapshot = l.snapshot; written = w } ∷ ls))
      by None later = later
      by (Some w) later =
          let value = word_read w in let root = word_read l.snapshot in
          λ i. record { place = place_at ps n; value = value i; root = root i } ∷ later i

  pub part_read : (g : CodeRun) (r : Path) (l : Local H) → part_by path g r (renamed f l) ≡ part_by through g r l
  part_read g r l =
      let events = events_read l.state.listed in
      let end = end_read (places g.code.vars) r l.phase in
      let written = changes_read (places g.code.vars) 0 l.state.locations in
      λ i. record {
        path = r;
        events = events i;
        end = end i;
        fuel = l.state.fuel;
        written = written i;
        text = l.state.text;
      }

-- numbers that a table reads as the paths that they stand for
module _ (t : List Path) where
  back : Path → Path
  back q = path_in t (number_of t q)

  all_back : (hs : List Path) → ((q : Path) → IsIn q hs → IsIn q t) → AllFixed (λ q. path_in t (number_of t q)) hs
  all_back [] known = tt
  all_back (h ∷ hs) known =
      (ap (λ x. or_path x []) (number_back t h (known h (inl refl))), all_back hs (λ q i. known q (inr i)))

  pub numbered_part : (g : CodeRun) (r : Path) (a : Local Path) (b : Local ℕ) → IsNumbered t r a b
      → part_in g t r b ≡ part_by (λ p. p) g r a
  numbered_part g r a b rel =
      ap (part_in g t r) rel.is
      ∙ part_read (number_of t) (path_in t) g r a
      ∙ sym (part_read (λ q. path_in t (number_of t q)) (λ p. p) g r a)
      ∙ ap (part_by (λ p. p) g r) (local_fixed (λ q. path_in t (number_of t q)) a (all_back (handles a) rel.known))
