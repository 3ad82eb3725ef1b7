-- An unlisted revision of a world by number.
use Rattle.std.proofs.Common.{◌≡◌, ◌∙◌, ℕ, true, List, [], ◌∷◌, map, Option, Some, None, refl, sym, ap, subst}
use Rattle.std.specs.Prelude.{◌&&◌}
use Rattle.rev_num.specs.Path.{Path}
use Rattle.rev_num.specs.declared.value.ValueKind.{ValueKind}
use Rattle.rev_num.specs.Value.{same_kind}
use Rattle.rev_code.specs.declared.code.Code.{Code}
use Rattle.rev_code.specs.Events.{start as begun}
use Rattle.rev_code.specs.Step.{params}
use Rattle.rev_code.specs.Words.{Word, int, bool, rev, fits, kind_of}
use Rattle.rev_code.specs.State.{Listed, State}
use Rattle.revision_machine.specs.Machine.{Entry, Plain, Joined, Global, Twice, Live, Revisions, start, Runs}
use Rattle.revision_machine.specs.Laws.{IsDistinct}
use Rattle.revision_machine.specs.Numbered.{Entries, Listing, at_number, number_of, paths_of, globe_of, machine_by, begin, Replays}
use Rattle.revision_machine.specs.Schedules.{Matches}
use Rattle.revision_machine.specs.Simulation.{Agrees, EntryAgrees}
use Rattle.revision_machine.proofs.Numbers.{globe_there}
use Rattle.revision_machine.proofs.Schedules.{schedule_agrees}
use Rattle.code_memos.specs.Births.{Born}
use Rattle.code_machine.specs.Local.{CodeRun, IsVerified, Phase, running, done, trapped, Local, at_work}
use Rattle.code_machine.specs.Machines.{machine, numbered, IsMain, start_in}
use Rattle.code_machine.specs.Renamed.{renamed_one, renamed_as, renamed_location, renamed_phase, renamed_word, IsNumbered}
use Rattle.code_machine.proofs.MachineConditions.{named_counts}
use Rattle.code_machine.proofs.Renaming.{first_locals_same}
use Rattle.code_machine.proofs.Numbering.{simulates, first_numbered}
use Rattle.code_memos.specs.Freshness.{IsUnlisted, FreshByNumber, UnlistedByNumber}
use Rattle.code_memos.specs.Leaf.{Fresh, IsFresh, unwritten}
use Rattle.code_memos.specs.Memo.{first}
use Rattle.code_memos.proofs.Standing.{unlisted_begins}

module _ {H K : Type 0} (f : H → K) where
  -- what is renamed to nothing is nothing
  pub none_named : (xs : List (Listed H)) → map (renamed_one f) xs ≡ [] → xs ≡ []
  none_named [] e = refl
  none_named (x ∷ xs) e = absurd (let z : renamed_one f x ∷ map (renamed_one f) xs ≡ [] = e in cc)

  pub running_named : (p : Phase H) → renamed_phase f p ≡ running → p ≡ running
  running_named running e = refl
  running_named done e = absurd (let z : done ≡ running = e in cc)
  running_named (trapped t) e = absurd (not_trapped t (renamed_phase f (trapped t)) refl e)
    where
      not_trapped : (t : Rattle.code_machine.specs.Local.Trap H) (p : Phase K) → renamed_phase f (trapped t) ≡ p
          → p ≡ running → ⊥
      not_trapped t p e h =
          let z : trapped (record {
            cause = t.cause;
            line = t.line;
            origin = Rattle.code_machine.specs.Renamed.renamed_handle f t.origin;
          }) ≡ running = e ∙ h in
          cc

-- ---- fresh states

module _ {H K : Type 0} (f : H → K) where
  abbrev pub named_fresh : Fresh H → Fresh K
  named_fresh x = record {
    block = x.block;
    args = map (renamed_word f) x.args;
    snapshot = map (renamed_word f) x.snapshot;
    fuel = x.fuel;
  }

  unwritten_named : (xs : List (Word H)) → map (renamed_location f) (unwritten xs) ≡ unwritten (map (renamed_word f) xs)
  unwritten_named [] = refl
  unwritten_named (x ∷ xs) = ap (λ z. record { snapshot = renamed_word f x; written = None } ∷ z) (unwritten_named xs)

  word_kind : (w : Word H) → kind_of (renamed_word f w) ≡ kind_of w
  word_kind (int n) = refl
  word_kind (bool b) = refl
  word_kind (rev h) = refl

  fits_named : (kinds : List ValueKind) (ws : List (Word H)) → fits kinds ws ≡ true
      → fits kinds (map (renamed_word f) ws) ≡ true
  fits_named kinds ws h = same kinds ws ∙ h
    where
      same : (kinds : List ValueKind) (ws : List (Word H)) → fits kinds (map (renamed_word f) ws) ≡ fits kinds ws
      same [] [] = refl
      same [] (w ∷ ws) = refl
      same (x ∷ kinds) [] = refl
      same (x ∷ kinds) (w ∷ ws) = let a = word_kind w in let b = same kinds ws in λ j. same_kind x (a j) && b j

  -- a fresh state is fresh with other handles
  pub fresh_named : (code : Code) (x : Fresh H) (c : State H) → IsFresh code x c
      → IsFresh code (named_fresh x) (renamed_as f c.forks c)
  fresh_named code x c a = record {
    body = a.body;
    is = a.is;
    fits = fits_named (params a.body) x.args a.fits;
    state = ap (λ (z : State H). renamed_as f z.forks z) a.state
        ∙ (let l = sym (first_locals_same f a.body x.args) in
        let s = unwritten_named x.snapshot in
        λ j. record (begun x.block a.body (map (renamed_word f) x.args) (s j) x.fuel) { locals = l j });
  }

module _ (g : CodeRun) (ok : IsVerified g) (n : ℕ) (m : IsMain g n) (fuel : ℕ) where
  -- the state by paths that a world agrees with
  pub record HasState (w : Entries (Local ℕ)) : Type 0 where
    pub distinct : IsDistinct (paths_of w)
    pub by : List Path
    pub revs : Revisions (machine g)
    pub runs : Runs (machine g) (start (machine g) (first g n m fuel)) by (Live revs)
    pub agrees : (p : Path)
        → EntryAgrees (machine g) (machine_by (numbered g) (paths_of w)) (IsNumbered (paths_of w)) p (revs p)
        (globe_of w p)

  abbrev IsMatch : Entries (Local ℕ) → Type 0
  IsMatch w = Matches (machine g) (numbered g) IsNumbered (first g n m fuel) (start_in g n m.body fuel) (Listing w)

  pub state_of_match : (w : Entries (Local ℕ)) → IsMatch w → HasState w
  state_of_match w x = by x.state refl x.agrees
    where
      by : (s : Global (Local Path)) → x.state ≡ s
          → Agrees (machine g) (machine_by (numbered g) x.table) (IsNumbered x.table) s (Live (globe_of w)) → HasState w
      by Twice is agrees = absurd agrees
      by (Live revs) is agrees = record {
        distinct = subst IsDistinct x.own x.distinct;
        by = x.by;
        revs = revs;
        runs = subst (Runs (machine g) (start (machine g) (first g n m fuel)) x.by) is x.runs;
        agrees = subst (λ t.
            (p : Path) → EntryAgrees (machine g) (machine_by (numbered g) t) (IsNumbered t) p (revs p) (globe_of w p))
            x.own agrees;
      }

  pub has_state : (ns : List ℕ) (w : Entries (Local ℕ))
      → Replays (numbered g) (begin (numbered g) (start_in g n m.body fuel)) ns (Listing w) → HasState w
  has_state ns w replays =
      state_of_match w (schedule_agrees (machine g) (numbered g) IsNumbered (first g n m fuel)
      (start_in g n m.body fuel) (named_counts g ok) (simulates g ok) (λ t i. first_numbered g n m.body fuel t) ns
      (Listing w) replays)

  module _ (w : Entries (Local ℕ)) (s : HasState w) where
    pub record HasPlain (r : Path) (b : Local ℕ) : Type 0 where
      pub local : Local Path
      pub there : s.revs r ≡ Some (Plain local)
      pub named : IsNumbered (paths_of w) r local b

    pub plain_at : (k : ℕ) (r : Path) (b : Local ℕ) → at_number w k ≡ Some (r, Plain b) → HasPlain r b
    plain_at k r b there =
        by (s.revs r) refl (subst
        (EntryAgrees (machine g) (machine_by (numbered g) (paths_of w)) (IsNumbered (paths_of w)) r (s.revs r))
        (globe_there w k r (Plain b) s.distinct there) (s.agrees r))
      where
        by : (o : Option (Entry (Local Path))) → s.revs r ≡ o
            → EntryAgrees (machine g) (machine_by (numbered g) (paths_of w)) (IsNumbered (paths_of w)) r o
            (Some (Plain b))
            → HasPlain r b
        by None is a = absurd a
        by (Some (Joined l)) is a = absurd a
        by (Some (Plain l)) is a = record { local = l; there = is; named = a }

    pub fresh_there : (k : ℕ) (r : Path) (b : Local ℕ) → at_number w k ≡ Some (r, Plain b) → IsUnlisted b
        → FreshByNumber g n m fuel (paths_of w) r b
    fresh_there k r b there u =
        let x = plain_at k r b there in
        let number = number_of (paths_of w) in
        let runs : x.local.phase ≡ running =
        running_named number x.local.phase (sym (ap (λ l. l.phase) x.named.is) ∙ u.0) in
        let unlisted : x.local.state.listed ≡ [] =
        none_named number x.local.state.listed (sym (ap (λ l. l.state.listed) x.named.is) ∙ u.1) in
        let same : x.local ≡ at_work x.local.state = ap (λ p. record { state = x.local.state; phase = p }) runs in
        let begins =
        unlisted_begins g ok n m fuel s.revs (record { by = s.by; runs = s.runs }) r (Plain x.local) x.there
        (runs, unlisted) in
        let f = begins.begins in
        let named = fresh_named number g.code f x.local.state begins.fresh in
        record {
          state = x.local.state;
          numbered = subst (λ l. IsNumbered (paths_of w) r l b) same x.named;
          begins = record {
            born = subst (Born (machine g) (first g n m fuel) r) same begins.born;
            begins = begins.begins;
            fresh = begins.fresh;
          };
          here = named_fresh number f;
          fresh_here = subst (IsFresh g.code (named_fresh number f)) (sym (ap (λ (l : Local ℕ). l.state) x.named.is))
              named;
        }

pub unlisted_by_number : UnlistedByNumber
unlisted_by_number g ok n m fuel ns w replays k r b there u =
    fresh_there g ok n m fuel w (has_state g ok n m fuel ns w replays) k r b there u
