-- With what a fresh revision of a world begins.
use Rattle.std.proofs.Common.{◌≡◌, ◌∙◌, ◌⊎◌, inl, inr, ℕ, true, List, [], ◌∷◌, ◌++◌, length, map, drop, Some, refl, sym, ap, subst, true≢false}
use Rattle.rev_num.specs.Path.{Path}
use Rattle.rev_num.specs.declared.value.ValueKind.{ValueKind}
use Rattle.rev_num.specs.Value.{same_kind}
use Rattle.rev_num.proofs.Lists.{and_left, and_right}
use Rattle.rev_num.proofs.SameKinds.{same_kind_is}
use Rattle.rev_code.specs.declared.code.Code.{Code}
use Rattle.rev_code.specs.Words.{Word, fits, kind_of, zero_word}
use Rattle.rev_code.specs.State.{Location, State}
use Rattle.rev_code.specs.Step.{params}
use Rattle.code_soundness.specs.Typed.{AreLocations, location_kinds}
use Rattle.code_machine_laws.specs.Reached.{snapshots}
use Rattle.revision_machine.specs.Machine.{Plain}
use Rattle.revision_machine.specs.Laws.{IsIn}
use Rattle.revision_machine.specs.Numbered.{Entries, Listing, at_number, number_of, paths_of, begin, Replays}
use Rattle.revision_machine.proofs.Bearing.{in_front, in_back}
use Rattle.code_machine.specs.Local.{CodeRun, IsVerified, Local, at_work, of_word, of_words, of_written, of_frames, of_locations, of_listed, of_state}
use Rattle.code_machine.specs.Machines.{numbered, Holds, IsMain, start_in}
use Rattle.code_machine.specs.Renamed.{renamed_as, renamed_location, renamed_word}
use Rattle.code_machine.proofs.Typing.{worlds_proper}
use Rattle.block_run.specs.Agreement.{AreWords}
use Rattle.code_memos.specs.Freshness.{FreshByNumber}
use Rattle.code_memos.specs.Leaf.{Fresh, IsFresh, unwritten}
use Rattle.code_memos.proofs.Entries.{one_args}
use Rattle.code_memos.proofs.Numbers.{fresh_named, has_state, named_fresh}
use Rattle.code_world.specs.declared.freshness.FreshStart as rust
use Rattle.code_world.specs.Beginnings.{IsBegun}
use Rattle.rev_record.specs.Begins.{BeginsAt}
use Rattle.rev_record.specs.EntryLaws.{FreshBegins}
use Rattle.rev_record.proofs.Lists.{either}
use Rattle.rev_record.proofs.Words.{words_at}

-- ---- snapshots

module _ {H : Type 0} where
  snapshots_unwritten : (xs : List (Word H)) → snapshots (unwritten xs) ≡ xs
  snapshots_unwritten [] = refl
  snapshots_unwritten (x ∷ xs) = ap (λ z. x ∷ z) (snapshots_unwritten xs)

  -- a fresh state has the snapshot with which it began
  pub snapshot_is : (code : Code) (f : Fresh H) (c : State H) → IsFresh code f c → snapshots c.locations ≡ f.snapshot
  snapshot_is code f c a = ap (λ (z : State H). snapshots z.locations) a.state ∙ snapshots_unwritten f.snapshot

  kinds_there : (kinds : List ValueKind) (ls : List (Location H)) → AreLocations kinds ls
      → map kind_of (snapshots ls) ≡ kinds
  kinds_there [] [] h = refl
  kinds_there (k ∷ kinds) (l ∷ ls) h = let a = h.0.snapshot in let b = kinds_there kinds ls h.1 in λ j. a j ∷ b j
  kinds_there [] (l ∷ ls) h = absurd h
  kinds_there (k ∷ kinds) [] h = absurd h

  fitting : (kinds : List ValueKind) (ws : List (Word H)) → fits kinds ws ≡ true → map kind_of ws ≡ kinds
  fitting [] [] h = refl
  fitting [] (w ∷ ws) h = absurd (true≢false (sym h))
  fitting (k ∷ kinds) [] h = absurd (true≢false (sym h))
  fitting (k ∷ kinds) (w ∷ ws) h =
      let a = same_kind_is k (kind_of w) (and_left (same_kind k (kind_of w)) (fits kinds ws) h) in
      let b = fitting kinds ws (and_right (same_kind k (kind_of w)) (fits kinds ws) h) in
      λ j. sym a j ∷ b j

snapshots_named : {H K : Type 0} (f : H → K) (ls : List (Location H))
    → snapshots (map (renamed_location f) ls) ≡ map (renamed_word f) (snapshots ls)
snapshots_named f [] = refl
snapshots_named f (l ∷ ls) = ap (λ z. renamed_word f l.snapshot ∷ z) (snapshots_named f ls)

-- ---- handles

words_front : (xs ys : List (Word Path)) (q : Path) → IsIn q (of_words xs) → IsIn q (of_words (xs ++ ys))
words_front [] ys q i = absurd i
words_front (x ∷ xs) ys q i = by (λ j. words_front xs ys q j) (either (of_word x) (of_words xs) q i)
  where
    by : (IsIn q (of_words xs) → IsIn q (of_words (xs ++ ys))) → IsIn q (of_word x) ⊎ IsIn q (of_words xs)
        → IsIn q (of_word x ++ of_words (xs ++ ys))
    by later (inl j) = in_front (of_word x) (of_words (xs ++ ys)) q j
    by later (inr j) = in_back (of_word x) (of_words (xs ++ ys)) q (later j)

snapshots_in : (ls : List (Location Path)) (q : Path) → IsIn q (of_words (snapshots ls)) → IsIn q (of_locations ls)
snapshots_in [] q i = absurd i
snapshots_in (l ∷ ls) q i = by (λ j. snapshots_in ls q j) (either (of_word l.snapshot) (of_words (snapshots ls)) q i)
  where
    by : (IsIn q (of_words (snapshots ls)) → IsIn q (of_locations ls))
        → IsIn q (of_word l.snapshot) ⊎ IsIn q (of_words (snapshots ls))
        → IsIn q ((of_word l.snapshot ++ of_written l.written) ++ of_locations ls)
    by later (inl j) =
        in_front (of_word l.snapshot ++ of_written l.written) (of_locations ls) q
        (in_front (of_word l.snapshot) (of_written l.written) q j)
    by later (inr j) = in_back (of_word l.snapshot ++ of_written l.written) (of_locations ls) q (later j)

pub in_locations : (c : State Path) (q : Path) → IsIn q (of_locations c.locations) → IsIn q (of_state c)
in_locations c q i =
    in_back (of_words c.stack)
    (of_words c.locals ++ (of_frames c.below ++ (of_locations c.locations ++ of_listed c.listed))) q
    (in_back (of_words c.locals) (of_frames c.below ++ (of_locations c.locations ++ of_listed c.listed)) q
    (in_back (of_frames c.below) (of_locations c.locations ++ of_listed c.listed) q
    (in_front (of_locations c.locations) (of_listed c.listed) q i)))

module _ (code : Code) (f : Fresh Path) (c : State Path) (fresh : IsFresh code f c) (q : Path) where
  snapshot_held : IsIn q (of_words f.snapshot) → Holds (at_work c) q
  snapshot_held i =
      in_front (of_state c) [] q (in_locations c q (snapshots_in c.locations q
      (subst (λ ws. IsIn q (of_words ws)) (sym (snapshot_is code f c fresh)) i)))

  args_held : IsIn q (of_words f.args) → Holds (at_work c) q
  args_held i =
      in_front (of_state c) [] q
      (in_back (of_words c.stack)
      (of_words c.locals ++ (of_frames c.below ++ (of_locations c.locations ++ of_listed c.listed))) q
      (in_front (of_words c.locals) (of_frames c.below ++ (of_locations c.locations ++ of_listed c.listed)) q
      (subst (λ ws. IsIn q (of_words ws)) (sym (ap (λ (z : State Path). z.locals) fresh.state))
      (words_front f.args (map zero_word (drop (length f.args) fresh.body.locals)) q i))))

-- ---- the law

module _ (g : CodeRun) (ok : IsVerified g) (number : ℕ) (main : IsMain g number) (fuel : ℕ) (ns : List ℕ)
    (w : Entries (Local ℕ))
    (replays : Replays (numbered g) (begin (numbered g) (start_in g number main.body fuel)) ns (Listing w))
    (n : ℕ) (r : Path) (c : State ℕ) (there : at_number w n ≡ Some (r, Plain (at_work c)))
    (y : FreshByNumber g number main fuel (paths_of w) r (at_work c)) (here : Fresh ℕ)
    (fresh : IsFresh g.code here c) where
  abbrev table : List Path
  table = paths_of w

  abbrev number_in : Path → ℕ
  number_in = number_of table

  abbrev first_of : Fresh Path
  first_of = y.begins.begins

  same : c ≡ renamed_as number_in y.state.forks y.state
  same = ap (λ (z : Local ℕ). z.state) y.numbered.is

  snapshot_named : here.snapshot ≡ map (renamed_word number_in) first_of.snapshot
  snapshot_named =
      sym (snapshot_is g.code here c fresh) ∙ ap (λ (z : State ℕ). snapshots z.locations) same
      ∙ snapshots_named number_in y.state.locations
      ∙ ap (map (renamed_word number_in)) (snapshot_is g.code first_of y.state y.begins.fresh)

  named : IsFresh g.code (named_fresh number_in first_of) c
  named = subst (IsFresh g.code (named_fresh number_in first_of)) (sym same)
      (fresh_named number_in g.code first_of y.state y.begins.fresh)

  args_named : here.args ≡ map (renamed_word number_in) first_of.args
  args_named = one_args g.code here (named_fresh number_in first_of) c fresh named

  base_kinds : map kind_of (map (renamed_word number_in) first_of.snapshot) ≡ location_kinds g.code.vars
  base_kinds =
      ap (map kind_of) (sym snapshot_named ∙ sym (snapshot_is g.code here c fresh))
      ∙ kinds_there (location_kinds g.code.vars) c.locations
      (worlds_proper g ok number main fuel ns (Listing w) replays n r (Plain (at_work c)) there).locations

  pub begins_at : (x : rust.FreshStart) → IsBegun here x → BeginsAt g.code table first_of x
  begins_at x begun = record {
    distinct = (has_state g ok number main fuel ns w replays).distinct;
    block = begun.block ∙ sym (ap (λ (z : State ℕ). z.block) fresh.state) ∙ ap (λ (z : State ℕ). z.block) same
        ∙ ap (λ (z : State Path). z.block) y.begins.fresh.state;
    body = y.begins.fresh.body;
    is = y.begins.fresh.is;
    args = words_at table (params y.begins.fresh.body) first_of.args x.args.items
        (fitting (params y.begins.fresh.body) (map (renamed_word number_in) first_of.args)
        (subst (λ b. fits (params b) (map (renamed_word number_in) first_of.args) ≡ true) body_same named.fits))
        (subst (λ ws. AreWords ws x.args.items) args_named begun.args)
        (λ q i. y.numbered.known q (args_held g.code first_of y.state y.begins.fresh q i));
    base = words_at table (location_kinds g.code.vars) first_of.snapshot x.base.items base_kinds
        (subst (λ ws. AreWords ws x.base.items) snapshot_named begun.base)
        (λ q i. y.numbered.known q (snapshot_held g.code first_of y.state y.begins.fresh q i));
    fuel = begun.fuel ∙ sym (ap (λ (z : State ℕ). z.fuel) fresh.state) ∙ ap (λ (z : State ℕ). z.fuel) same
        ∙ ap (λ (z : State Path). z.fuel) y.begins.fresh.state;
  }
    where
      body_same : named.body ≡ y.begins.fresh.body
      body_same = let z : Some named.body ≡ Some y.begins.fresh.body = sym named.is ∙ y.begins.fresh.is in cc

pub fresh_begins : FreshBegins
fresh_begins g ok number main fuel ns w replays n r c there none y here fresh x begun =
    begins_at g ok number main fuel ns w replays n r c there y here fresh x begun
