-- Revisions before their first leg, and runners in either stage.
--   at_start        as a revision that has begun, it stands for the same state
--   its_start       what it stands for is the state that is a function of it
--   fresh_start     its words of arguments, where it is fresh
--   begun_as, born_as, same_born   a runner by its stage
--   one_runner      what a runner stands for is the state that is a function of it
--   runner_text_is  what it has printed
--   runner_many, runner_size, runner_seen, delta_size   its locations, and the words there
use Rattle.std.proofs.Common.{◌≡◌, ◌∙◌, ℕ, List, [], ◌∷◌, ◌++◌, length, take, Option, Some, None, refl, sym, ap, subst}
use Rattle.std.specs.Global.{Box}
use Rattle.std.specs.Prelude.{slice_get}
use Rattle.rev_num.proofs.Options.{none_some, some_eq}
use Rattle.rev_code.specs.declared.code.CodeBlock.{CodeBlock}
use Rattle.rev_code.specs.State.{State}
use Rattle.rev_code.specs.Step.{first_locals, params}
use Rattle.code_soundness.specs.Typed.{location_kinds}
use Rattle.code_soundness.proofs.Lists.{kinds_length}
use Rattle.block_run.specs.Agreement.{AreWords}
use Rattle.version_map.specs.declared.delta.Delta.{Delta}
use Rattle.version_map.specs.declared.snapshot.Snapshot.{Ghosts}
use Rattle.version_map.specs.Deltas.{at, locations, IsEmpty}
use Rattle.version_map.specs.Overlay as overlay
use Rattle.block_run.specs.Area.{count}
use Rattle.block_run.specs.Standing.{AreSeen}
use Rattle.code_machine.specs.Local.{CodeRun}
use Rattle.code_memos.specs.Leaf.{Fresh, IsFresh}
use Rattle.code_memos.proofs.Entries.{args_are}
use Rattle.leg_run.specs.declared.revision.RunningRevision.{RunningRevision}
use Rattle.leg_run.specs.declared.revision.Run.{Run}
use Rattle.leg_run.specs.declared.setting.CodeSetting.{CodeSetting}
use Rattle.leg_run.proofs.Decoding.{seen_locations, words_of_kinds}
use Rattle.rev_vm.specs.declared.runner.Beginning.{Beginning}
use Rattle.rev_vm.specs.declared.runner.Runner.{Runner}
use Rattle.rev_vm.specs.declared.runner.Stage.{Stage}
use Rattle.rev_vm.specs.declared.runner.Stage.TheVariants as stage
use Rattle.rev_vm.specs.Meaning.{IsAt}
use Rattle.rev_vm.specs.Revisions.{BornAs, StandsAs}
use Rattle.rev_vm.specs.Starts.{Begins, IsAtStart, run_under}
use Rattle.rev_vm.specs.States.{locals_from, start_state}
use Rattle.rev_vm.specs.Values.{StandsIn, StandsFor, stage_state, runner_state, stage_snapshot, runner_snapshot, stage_delta, runner_delta, stage_text, runner_text}
use Rattle.rev_vm.proofs.Firsts.{kinds_many, locations_many, same_many, start_stands, unwritten}
use Rattle.rev_vm.proofs.Values.{one_state}

first_all : {A : Type 0} (xs ys : List A) → take (length xs) (xs ++ ys) ≡ xs
first_all [] ys = refl
first_all (x ∷ xs) ys = ap (λ zs. x ∷ zs) (first_all xs ys)

-- with tables in which nothing is written
pub at_start : (s : CodeSetting) (n : ℕ) (words : List ℕ) (base : ℕ → ℕ) (size fuel : ℕ) (c : State ℕ)
    → IsAtStart (run_under s) n words base size fuel c → (run : Run) → Begins s n words fuel run
    → (delta first : Delta) → locations delta ≡ count s.code.vars → IsEmpty delta
    → locations first ≡ count s.code.vars → IsEmpty first → IsAt (run_under s) run delta base first c
at_start s n words base size fuel c h run r delta first many empty few none =
    let there =
    unwritten (count s.code.vars) delta first base h.locations (locations_many s.code.vars h.locations h.based.kinds)
    many empty few none h.based.seen in
    subst (IsAt (run_under s) run delta base first) (sym h.is) (record {
      verified = h.verified;
      stands = start_stands s h.verified n words fuel run r h.body h.args h.locations h.called h.based.kinds
          (overlay.under delta base) (at first) there;
      size = many;
    })

module _ (g : CodeRun) (n : ℕ) (words : List ℕ) (base : ℕ → ℕ) (size fuel : ℕ) (c : State ℕ)
    (h : IsAtStart g n words base size fuel c) where
  pub its_start : c ≡ start_state g n words base fuel
  its_start =
      let given = words_of_kinds h.args words (params h.body) h.called.stand h.called.kinds in
      let locals : first_locals h.body h.args ≡ locals_from (slice_get g.code.blocks n) words =
      ap (first_locals h.body) given ∙ ap (λ o. locals_from o words) (sym h.called.is) in
      let there =
      seen_locations (location_kinds g.code.vars) h.locations base (λ l. None) h.based.kinds h.based.seen in
      h.is ∙ (λ i. record (start_state g n words base fuel) { locals = locals i; locations = there i })

  pub fresh_start : (f : Fresh ℕ) → IsFresh g.code f c → AreWords f.args words
  fresh_start f k =
      let block : f.block ≡ n = sym (ap (λ (x : State ℕ). x.block) k.state) ∙ ap (λ (x : State ℕ). x.block) h.is in
      let same : k.body ≡ h.body = some_eq (sym k.is ∙ ap (slice_get g.code.blocks) block ∙ h.called.is) in
      let many : length (params h.body) ≡ length h.args = ap length (sym h.called.kinds) ∙ kinds_length h.args in
      let e : f.args ≡ h.args =
      sym (args_are g.code f c k) ∙ ap (λ (b : CodeBlock). take (length (params b)) c.locals) same
      ∙ ap (λ (x : State ℕ). take (length (params h.body)) x.locals) h.is
      ∙ ap (λ z. take z (first_locals h.body h.args)) many ∙ first_all h.args _ in
      subst (λ xs. AreWords xs words) (sym e) h.called.stand

-- ---- runners

-- the words that are seen over those of a snapshot
abbrev pub over : Option Delta → (ℕ → ℕ) → ℕ → ℕ
over None base = base
over (Some d) base = overlay.under d base

-- of equal beginnings the same is known
pub same_born : {P S : Type 0} (base : P → ℕ → ℕ) (size : P → ℕ) (v w : Beginning P S) → v ≡ w
    → (g : CodeRun) (c : State ℕ) → BornAs g base size v c → BornAs g base size w c
same_born base size v w e g c h = subst (λ z. BornAs g base size z c) e h

module _ {P S : Type 0} {m : Ghosts P S} where
  -- by the stage in which it is found
  pub begun_as : (g : CodeRun) (s : Stage P S m) (b : Box (RunningRevision P S m)) (c : State ℕ) → s ≡ stage.Begun b
      → StandsIn g s c → StandsAs g b.value c
  begun_as g s b c e h = subst (λ z. StandsIn g z c) e h

  pub born_as : (g : CodeRun) (s : Stage P S m) (b : Box (Beginning P S)) (c : State ℕ) → s ≡ stage.Born b
      → StandsIn g s c → BornAs g m.base m.size b.value c
  born_as g s b c e h = subst (λ z. StandsIn g z c) e h

  one_stage : (g : CodeRun) (s : Stage P S m) (c : State ℕ) → StandsIn g s c → c ≡ stage_state g s
  one_stage g (stage.Begun b) c h =
      one_state g b.value.run b.value.memory.delta (m.base b.value.memory.snapshot) b.value.memory.first.roots c h
  one_stage g (stage.Born b) c h =
      its_start g b.value.block b.value.args.items (m.base b.value.snapshot) (m.size b.value.snapshot) b.value.fuel c h

  pub one_runner : (g : CodeRun) (r : Runner P S m) (c : State ℕ) → StandsFor g r c → c ≡ runner_state g r
  one_runner g r c h = one_stage g r.stage c h

  pub runner_own : (g : CodeRun) (r : Runner P S m) (c : State ℕ) → StandsFor g r c → StandsFor g r (runner_state g r)
  runner_own g r c h = subst (StandsFor g r) (one_runner g r c h) h

  text_in : (g : CodeRun) (s : Stage P S m) (c : State ℕ) → StandsIn g s c → c.text ≡ stage_text s
  text_in g (stage.Begun b) c h = h.stands.text
  text_in g (stage.Born b) c h = ap (λ (x : State ℕ). x.text) h.is

  pub runner_text_is : (g : CodeRun) (r : Runner P S m) (c : State ℕ) → StandsFor g r c → c.text ≡ runner_text r
  runner_text_is g r c h = text_in g r.stage c h

  many_in : (g : CodeRun) (s : Stage P S m) (c : State ℕ) → StandsIn g s c → length c.locations ≡ count g.code.vars
  many_in g (stage.Begun b) c h =
      same_many (location_kinds g.code.vars) c.locations h.stands.here.good.locations ∙ kinds_many g.code.vars
  many_in g (stage.Born b) c h =
      ap (λ (x : State ℕ). length x.locations) h.is
      ∙ same_many (location_kinds g.code.vars) h.locations h.based.kinds ∙ kinds_many g.code.vars

  pub runner_many : (g : CodeRun) (r : Runner P S m) (c : State ℕ) → StandsFor g r c
      → length c.locations ≡ count g.code.vars
  runner_many g r c h = many_in g r.stage c h

  size_in : (g : CodeRun) (s : Stage P S m) (c : State ℕ) → StandsIn g s c
      → m.size (stage_snapshot s) ≡ count g.code.vars
  size_in g (stage.Begun b) c h = sym b.value.memory.written ∙ h.size
  size_in g (stage.Born b) c h = h.many

  pub runner_size : (g : CodeRun) (r : Runner P S m) (c : State ℕ) → StandsFor g r c
      → m.size (runner_snapshot r) ≡ count g.code.vars
  runner_size g r c h = size_in g r.stage c h

  seen_in : (g : CodeRun) (s : Stage P S m) (c : State ℕ) → StandsIn g s c
      → (root : ℕ → Option ℕ) × AreSeen c.locations (over (stage_delta s) (m.base (stage_snapshot s))) root
  seen_in g (stage.Begun b) c h = (at b.value.memory.first.roots, h.stands.here.locations)
  seen_in g (stage.Born b) c h = (
    λ l. None,
    subst (λ (x : State ℕ). AreSeen x.locations (m.base b.value.snapshot) (λ l. None)) (sym h.is) h.based.seen,
  )

  pub runner_seen : (g : CodeRun) (r : Runner P S m) (c : State ℕ) → StandsFor g r c
      → (root : ℕ → Option ℕ) × AreSeen c.locations (over (runner_delta r) (m.base (runner_snapshot r))) root
  runner_seen g r c h = seen_in g r.stage c h

  size_of : (s : Stage P S m) (d : Delta) → Some d ≡ stage_delta s → locations d ≡ m.size (stage_snapshot s)
  size_of (stage.Begun b) d e = ap locations (some_eq e) ∙ b.value.memory.written
  size_of (stage.Born b) d e = none_some (sym e)

  pub delta_size : (r : Runner P S m) (d : Delta) → Some d ≡ runner_delta r → locations d ≡ m.size (runner_snapshot r)
  delta_size r d e = size_of r.stage d e
