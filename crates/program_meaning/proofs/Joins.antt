-- A joiner and its code are the same behind the join.
use Rattle.std.proofs.Common.{◌≡◌, ◌≢◌, ◌∙◌, ◌⊎◌, inl, inr, ℕ, ◌+◌, Bool, true, false, List, [], ◌∷◌, ◌++◌, length, map, drop, Option, Some, None, refl, sym, ap, subst, arith}
use Rattle.std.specs.Prelude.{slice_get, is_some, Ok, Err}
use Rattle.std.proofs.lemmas.List.{map-append}
use Rattle.rev_num.specs.Path.{Path}
use Rattle.rev_num.specs.declared.value.Value.{Value}
use Rattle.rev_num.specs.declared.value.Value.TheVariants as v
use Rattle.rev_num.specs.declared.outcome.Cause.TheVariants as cause
use Rattle.rev_num.specs.declared.outcome.Trap.{Trap}
use Rattle.name_tables.specs.Names.{Name}
use Rattle.typed_programs.specs.Scopes.{within}
use Rattle.typed_programs.specs.Layout.{variables}
use Rattle.revision_calculus.specs.Program.{Setting}
use Rattle.revision_calculus.specs.State as source
use Rattle.revision_calculus.specs.State.{Location, Noted, joining, Local}
use Rattle.revision_calculus.specs.Evaluation.{give}
use Rattle.revision_calculus.specs.Join as calculus
use Rattle.revision_calculus.specs.Join.{merges_of, left_side}
use Rattle.revision_calculus.specs.Kinded.{IsAccepted, IsKinded, LocationsAre, location_kinds, names}
use Rattle.revision_calculus.proofs.FunKinds.{rules_kept}
use Rattle.revision_calculus.proofs.LocationKinds.{merges_fit, merge_locations, are_length}
use Rattle.revision_calculus.proofs.MergeCauses.{merge_law}
use Rattle.rev_code.specs.declared.code.Instr.TheVariants as i
use Rattle.rev_code.specs.Words.{Word}
use Rattle.rev_code.specs.State.{State, Listed}
use Rattle.rev_code.specs.State as words
use Rattle.rev_code.specs.Events.{told, past_join}
use Rattle.version_map.specs.Composing.{Composition, composed}
use Rattle.code_generation.specs.Generated.{code_of}
use Rattle.expression_meaning.specs.Agrees.{word}
use Rattle.expression_meaning.specs.States.{location_word, entry, IsShared, AtJoin}
use Rattle.program_meaning.specs.Steps.{Few}
use Rattle.program_meaning.specs.StatementLaws.{tables, IsPast}
use Rattle.program_meaning.proofs.Calls.{give_phase}
use Rattle.program_meaning.proofs.Starts.{linked}
use Rattle.program_meaning.proofs.BehindJoins.{goes_on_behind}
use Rattle.program_meaning.specs.Composes as rule
use Rattle.program_meaning.specs.Composes.{mains_of, with_new, as_join}
use Rattle.program_meaning.proofs.RuleComposing.{composes}
use Rattle.code_machine.specs.Local as code
use Rattle.code_machine.specs.Local.{running, done, End, end_of, written_from}
use Rattle.code_machine.specs.Joining.{merges, mains, written_all, absorb, inherit, join_in}
use Rattle.code_machine.specs.Joining as joins
use Rattle.program_meaning.specs.Related.{run_of, IsTrap, origin_at, IsGiven, IsAtWork, IsSame, works, is_done, is_trapped}
use Rattle.program_meaning.proofs.Merging.{laid_from, alike_from}
use Rattle.program_meaning.proofs.Composing.{coded_all, composed_alike, mains_alike, written_alike}
use Rattle.program_meaning.proofs.Takes.{few_empty}

listed_on : (xs : List (Listed Path)) (ns : List Noted) (q : Path) (m n : ℕ) → xs ≡ map entry ns → m ≡ n
    → xs ++ words.joined q m ∷ [] ≡ map entry (ns ++ source.joined q n ∷ [])
listed_on xs ns q m n e f = (λ j. e j ++ words.joined q (f j) ∷ []) ∙ sym (map-append entry ns (source.joined q n ∷ []))

module _ (s : Setting) (well : IsAccepted s.program) where
  -- ---- behind a join

  given_by : (l : Local) (left : Option Name) (q : Path) (c : State Path) → AtJoin s (tables s) l left q c
      → (joined : Bool) (past on : State Path) → IsPast c past (is_some left) joined → Few (tables s) past on
      → (past ≡ on) ⊎ IsGiven s past
  given_by l None q c at joined past on is few = inl (few_empty (tables s) past on is.stack few)
  given_by l (Some w) q c at joined past on is few = inr (record {
    block = at.block;
    is = ap (slice_get (code_of s.program).blocks) is.block ∙ at.is;
    giver = i.TryJoin;
    at = c.at;
    behind = is.at;
    there = at.here;
    gives = refl;
  })

  goes_on : (r : Path) (l : Local) (left : Option Name) (q : Path) (c : State Path) → AtJoin s (tables s) l left q c
      → (joined : Bool) (after : Local) (past : State Path) → after.frames ≡ l.frames → after.phase ≡ source.running
      → IsPast c past (is_some left) joined → IsShared after past
      → IsAtWork s (give s after left (Some (v.Bool joined))) past
  goes_on r l left q c at joined after past frames phase is shared =
      let t = goes_on_behind s (tables s) (linked s well) l left q c at joined after past frames is shared in
      record {
        phase = give_phase s (tables s) r after left (Some (v.Bool joined)) ∙ phase;
        on = t.c;
        steps = t.on;
        few = t.few;
        given = given_by l left q c at joined past t.c is t.few;
        stands = t.stand;
      }

  -- ---- what the joinee wrote

  program : List (Option ℕ)
  program = merges_of (variables s.program)

  module _ (ms js : List Location) (are : LocationsAre (location_kinds s) ms)
      (others : LocationsAre (location_kinds s) js) where
    laid : Rattle.program_meaning.proofs.Merging.AreLaid s.program [] s.program.declarations
    laid = laid_from s.program (names s) (within s.program.declarations) [] [] s.program.declarations
        (rules_kept s.program well).declarations (λ e i. absurd i) refl

    long : length ms ≡ length js
    long = are_length (location_kinds s) ms are ∙ sym (are_length (location_kinds s) js others)

    many : length ms ≡ length (merges_of (variables s.program))
    many = are_length (location_kinds s) ms are ∙ sym laid.count

    values_composed : calculus.compose s.program 0 (merges_of (variables s.program)) ms js
        ≡ as_join ms js (composed (rule.merges_in s.program (merges_of (variables s.program))) (mains_of ms js)
        (rule.written_from 0 js))
    values_composed = composes s.program (merges_of (variables s.program)) ms js many (sym long ∙ many)

    words_composed : composed (merges (run_of s)) (mains (map location_word ms) (written_from 0 (map location_word js)))
        (written_from 0 (map location_word js))
        ≡ coded_all (composed (rule.merges_in s.program (merges_of (variables s.program))) (mains_of ms js)
        (rule.written_from 0 js))
    words_composed =
        ap (λ xs. composed (merges (run_of s)) xs (written_from 0 (map location_word js))) (mains_alike ms js long)
        ∙ composed_alike (merges (run_of s)) (rule.merges_in s.program (merges_of (variables s.program))) 0 ms js
        (alike_from (run_of s) s.program well refl (merges_of (variables s.program)) laid.same 0
        (merges_of (variables s.program)) ms js
        (λ n. ap (slice_get (merges_of (variables s.program))) (let z : n ≡ 0 + n = omega arith in z)) laid.declared
        many
        (merge_locations s.program (merge_law s.program well) (location_kinds s) (merges_of (variables s.program)) ms js
        (merges_fit (names s) (within s.program.declarations) [] [] s.program.declarations
        (rules_kept s.program well).declarations)
        are others))
        long

  -- ---- joins

  module _ (r q : Path) (l : Local) (left : Option Name) (c : State Path) (at : AtJoin s (tables s) l left q c) where
    shared : IsShared l c
    shared = at.behind.shared

    noted : IsShared (calculus.note q l) (joins.note q c)
    noted = (
      shared.0,
      shared.1,
      shared.2,
      listed_on c.listed l.noted q c.line l.line shared.3 shared.5,
      shared.4,
      shared.5,
    )

    past_is : (try joined : Bool) → told try joined (drop 1 c.stack) ≡ told try joined []
    past_is try joined = ap (λ ws. told try joined (drop 1 ws)) at.stack

    -- of a revision that is done
    absorbs : (j : Local) (k : State Path) → IsShared j k → length l.locations ≡ length j.locations
        → (o : calculus.Composition) (w : Composition (Word Path)) (x : Composition Value)
        → o ≡ as_join l.locations j.locations x → w ≡ coded_all x
        → IsSame s r (calculus.absorb s r (calculus.note q l) left j o)
        (absorb c (is_some left) q (end_of (record { state = k; phase = done })) w)
    absorbs j k sh lengths o w (Err f) e h =
        let a : calculus.absorb s r (calculus.note q l) left j o
        ≡ calculus.absorb s r (calculus.note q l) left j (calculus.faults f.0 f.1) =
        ap (calculus.absorb s r (calculus.note q l) left j) e in
        let b : absorb c (is_some left) q (end_of (record { state = k; phase = done })) w
        ≡ absorb c (is_some left) q (end_of (record { state = k; phase = done })) (Err f) =
        ap (absorb c (is_some left) q (end_of (record { state = k; phase = done }))) h in
        let same : IsSame s r (calculus.absorb s r (calculus.note q l) left j (calculus.faults f.0 f.1))
        (absorb c (is_some left) q (end_of (record { state = k; phase = done })) (Err f)) =
        is_trapped (record { cause = cause.Merge f.0 f.1; line = l.line; origin = r })
        (record { cause = cause.Merge f.0 f.1; line = c.line; origin = None }) refl refl
        (record { cause = refl; line = sym shared.5; origin = refl }) noted in
        subst (λ z. IsSame s r z (absorb c (is_some left) q (end_of (record { state = k; phase = done })) w)) (sym a)
        (subst (IsSame s r (calculus.absorb s r (calculus.note q l) left j (calculus.faults f.0 f.1))) (sym b) same)
    absorbs j k sh lengths o w (Ok xs) e h =
        let ends : End Path = end_of (record { state = k; phase = done }) in
        let new : List Location = with_new l.locations j.locations xs in
        let a : calculus.absorb s r (calculus.note q l) left j o
        ≡ calculus.absorb s r (calculus.note q l) left j (calculus.merged new) =
        ap (calculus.absorb s r (calculus.note q l) left j) e in
        let b : absorb c (is_some left) q ends w ≡ absorb c (is_some left) q ends (Ok (map word xs)) =
        ap (absorb c (is_some left) q ends) h in
        let there : written_all c.locations (written_from 0 k.locations) (map word xs) ≡ map location_word new =
        (λ n. written_all (shared.0 n) (written_from 0 (sh.0 n)) (map word xs))
        ∙ written_alike l.locations j.locations xs lengths in
        let after : Local = record (calculus.note q l) {
          locations = new;
          text = l.text ++ j.text;
          fuel = l.fuel + j.fuel;
          phase = source.running;
        } in
        let past : State Path = record (past_join c (is_some left) true q) {
          locations = written_all c.locations (written_from 0 k.locations) (map word xs);
          fuel = c.fuel + k.fuel;
          text = c.text ++ k.text;
        } in
        let sames : IsShared after past =
        (there, (λ n. shared.1 n + sh.1 n), noted.2, noted.3, (λ n. shared.4 n ++ sh.4 n), noted.5) in
        let same : IsSame s r (calculus.absorb s r (calculus.note q l) left j (calculus.merged new))
        (absorb c (is_some left) q ends (Ok (map word xs))) =
        works refl (goes_on r l left q c at true after past refl refl
        (record { block = refl; at = refl; locals = refl; below = refl; stack = past_is (is_some left) true }) sames) in
        subst (λ z. IsSame s r z (absorb c (is_some left) q ends w)) (sym a)
        (subst (IsSame s r (calculus.absorb s r (calculus.note q l) left j (calculus.merged new))) (sym b) same)

    origins : (o : Option Path) → origin_at q o ≡ joins.origin_of q o
    origins None = refl
    origins (Some p) = refl

    -- of one that trapped
    inherits : (t : Trap) (u : code.Trap Path) → IsTrap q t u → (to : Option Name) → to ≡ left
        → IsSame s r (calculus.inherit s (calculus.note q l) to (source.trapped t)) (inherit c (is_some to) q u)
    inherits t u is None e =
        is_trapped t (record { cause = u.cause; line = u.line; origin = Some (joins.origin_of q u.origin) }) refl refl
        (record { cause = is.cause; line = is.line; origin = is.origin ∙ origins u.origin }) noted
    inherits t u is (Some w) e =
        works refl (goes_on r l (Some w) q c (subst (λ z. AtJoin s (tables s) l z q c) (sym e) at) false
        (record (calculus.note q l) { phase = source.running }) (past_join c true false q) refl refl
        (record { block = refl; at = refl; locals = refl; below = refl; stack = past_is true false }) noted)

    pub joins_same : l.phase ≡ joining q left → IsKinded s r l → (j : Local) (k : code.Local Path) → IsSame s q j k
        → k.phase ≢ running → IsKinded s q j
        → IsSame s r (calculus.join s r l q j) (join_in (run_of s) c (is_some left) q (end_of k) k.phase)
    joins_same phase kinded j k (works e h) ends kindedj = absurd (ends e)
    joins_same phase kinded j k (is_done e f sh) ends kindedj =
        let ks : List (Option ℕ) = merges_of (variables s.program) in
        let value : Composition Value =
        composed (rule.merges_in s.program ks) (mains_of l.locations j.locations) (rule.written_from 0 j.locations) in
        let w : composed (merges (run_of s)) (mains c.locations (written_from 0 k.state.locations))
        (written_from 0 k.state.locations)
        ≡ coded_all value =
        (λ n. composed (merges (run_of s)) (mains (shared.0 n) (written_from 0 (sh.0 n))) (written_from 0 (sh.0 n)))
        ∙ words_composed l.locations j.locations kinded.locations kindedj.locations in
        let same =
        absorbs j k.state sh (long l.locations j.locations kinded.locations kindedj.locations)
        (calculus.compose s.program 0 ks l.locations j.locations)
        (composed (merges (run_of s)) (mains c.locations (written_from 0 k.state.locations))
        (written_from 0 k.state.locations))
        value (values_composed l.locations j.locations kinded.locations kindedj.locations) w in
        let left_is : left_side l.phase ≡ left = ap left_side phase in
        subst (λ z.
        IsSame s r (calculus.join_in s r (calculus.note q l) z j j.phase)
        (join_in (run_of s) c (is_some left) q (end_of k) k.phase))
        (sym left_is)
        (subst (λ z.
        IsSame s r (calculus.join_in s r (calculus.note q l) left j z)
        (join_in (run_of s) c (is_some left) q (end_of k) k.phase))
        (sym f)
        (subst (λ z.
        IsSame s r (calculus.join_in s r (calculus.note q l) left j source.done)
        (join_in (run_of s) c (is_some left) q (end_of k) z))
        (sym e) same))
    joins_same phase kinded j k (is_trapped t u e f is sh) ends kindedj =
        let left_is : left_side l.phase ≡ left = ap left_side phase in
        subst (λ z.
        IsSame s r (calculus.join_in s r (calculus.note q l) z j j.phase)
        (join_in (run_of s) c (is_some left) q (end_of k) k.phase))
        (sym left_is)
        (subst (λ z.
        IsSame s r (calculus.join_in s r (calculus.note q l) left j z)
        (join_in (run_of s) c (is_some left) q (end_of k) k.phase))
        (sym f)
        (subst (λ z.
        IsSame s r (calculus.join_in s r (calculus.note q l) left j (source.trapped t))
        (join_in (run_of s) c (is_some left) q (end_of k) z))
        (sym e) (inherits t u is left refl)))
