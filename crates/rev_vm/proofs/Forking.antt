-- Forkers behind their Forks, and their children.
use Rattle.std.proofs.Common.{◌≡◌, ◌∙◌, ℕ, zero, suc, ◌+◌, ◌-◌, ◌<◌, ◌≤◌, ◌^◌, Bool, true, false, List, [], ◌∷◌, ◌++◌, length, map, take, drop, reverse, Option, Some, None, refl, sym, ap, subst, arith}
use Rattle.std.specs.Prelude.{slice_get, slice_range, if◌then◌else◌}
use Rattle.std.proofs.lemmas.List.{length-drop}
use Rattle.rev_num.specs.declared.value.ValueKind.{ValueKind}
use Rattle.rev_code.specs.declared.code.BlockClass.{BlockClass}
use Rattle.rev_code.specs.declared.code.CodeBlock.{CodeBlock}
use Rattle.rev_code.specs.Words.{Word, fits}
use Rattle.rev_code.specs.State.{Listed, State, forked}
use Rattle.rev_code.specs.Step.{arguments, is_procedure, only, params}
use Rattle.rev_code.specs.Events as events
use Rattle.code_soundness.specs.Safe.{IsForked}
use Rattle.code_soundness.specs.Typed.{IsRevision}
use Rattle.code_soundness.specs.AcceptedCode.{IsAccepted, notes_of}
use Rattle.code_soundness.proofs.Accepting.{no_fault_accepted}
use Rattle.code_soundness.proofs.Lists.{kinds_length, reverse_length, some_eq}
use Rattle.code_soundness.proofs.Reaching.{is_safe}
use Rattle.block_run.specs.Agreement.{AreWords}
use Rattle.block_run.specs.declared.registers.Registers.{Registers}
use Rattle.block_run.specs.Area.{count, low, stack_of}
use Rattle.block_run.specs.Remembering.{Kept}
use Rattle.block_run.specs.Standing.{AreSeen}
use Rattle.block_run.proofs.Onward.{kept_seen, words_length, stack_length}
use Rattle.block_run.proofs.Stacks.{stack_push}
use Rattle.fun_run.proofs.Running.{block_short, stack_dropped}
use Rattle.fun_run.proofs.Slices.{stack_slice, words_drop, words_reverse, words_take}
use Rattle.version_map.specs.declared.delta.Delta.{Delta}
use Rattle.version_map.specs.Deltas.{at, locations}
use Rattle.version_map.specs.Overlay as overlay
use Rattle.version_map.specs.Overlay.{Agree}
use Rattle.code_machine.specs.Local.{CodeRun, under}
use Rattle.leg_run.specs.declared.revision.Meeting.{Meeting}
use Rattle.leg_run.specs.declared.revision.Meeting.TheVariants as meeting
use Rattle.leg_run.specs.declared.revision.Run.{Run}
use Rattle.leg_run.specs.Standing.{listed_as, Stands}
use Rattle.rev_vm.specs.Meaning.{IsAt, IsAtFork}
use Rattle.rev_vm.specs.Starts.{IsAtStart, IsForker}
use Rattle.rev_vm.proofs.Firsts.{view_seen, view_many}
use Rattle.rev_vm.proofs.Frames.{IsAbove, one_set, OnStack, stays}
use Rattle.rev_vm.proofs.Meets.{IsForking, Meets, meets}

arguments_are : (kinds : List ValueKind) (st args : List (Word ℕ)) → arguments kinds st ≡ Some args
    → args ≡ reverse (take (length kinds) st)
arguments_are kinds st args h = by (fits kinds (reverse (take (length kinds) st))) h
  where
    by : (d : Bool) → (if d then Some (reverse (take (length kinds) st)) else None) ≡ Some args
        → args ≡ reverse (take (length kinds) st)
    by true e = sym (some_eq e)
    by false e = absurd (let z : None ≡ Some args = e in cc)

only_some : (w : BlockClass → Bool) (o : Option CodeBlock) (b : CodeBlock) → only w o ≡ Some b → o ≡ Some b
only_some w None b h = absurd (let z : None ≡ Some b = h in cc)
only_some w (Some x) b h = by (w x.class) h
  where
    by : (d : Bool) → (if d then Some x else None) ≡ Some b → Some x ≡ Some b
    by true e = e
    by false e = absurd (let z : None ≡ Some b = e in cc)

long_enough : {A : Type 0} (p : ℕ) (xs : List A) → length (take p xs) ≡ p → p ≤ length xs
long_enough zero xs h = omega arith
long_enough (suc p) [] h = absurd (omega (arith, h))
long_enough (suc p) (x ∷ xs) h = let r = long_enough p xs (omega (arith, h)) in omega (arith, r)

pub one_listed : (xs : List (Listed ℕ)) (ms : List Meeting) (x : Listed ℕ) (m : Meeting) → x ≡ listed_as m
    → xs ≡ map listed_as ms → xs ++ x ∷ [] ≡ map listed_as (ms ++ m ∷ [])
one_listed xs ms x m e h = (λ i. h i ++ e i ∷ []) ∙ by ms
  where
    by : (ms : List Meeting) → map listed_as ms ++ listed_as m ∷ [] ≡ map listed_as (ms ++ m ∷ [])
    by [] = refl
    by (a ∷ ms) = ap (λ ys. listed_as a ∷ ys) (by ms)

-- ---- words on top

pub range_top : (xs : List ℕ) (p t : ℕ) → p ≤ t → slice_range xs (t - p) t ≡ take p (drop (t - p) xs)
range_top xs p t h = let e : t - (t - p) ≡ p = omega (arith, h) in ap (λ m. take m (drop (t - p) xs)) e

abbrev pub top_of : ℕ → Run → List ℕ
top_of n r = take n (drop (r.registers.top - n) r.words.items)

module _ (g : CodeRun) (run : Run) (delta : Delta) (base : ℕ → ℕ) (first : Delta) (n : ℕ) (c : State ℕ)
    (args : List (Word ℕ)) (h : IsAtFork g run delta base first n c args) where
  pub accepted : IsAccepted g.code (notes_of g.code)
  accepted = no_fault_accepted g.code h.stands.verified

  pub safe : (f : IsForked g.code n args)
      × ((number : ℕ) → IsRevision g.code (notes_of g.code) (events.parent g.share c args number))
      × IsRevision g.code (notes_of g.code) (events.child g.share c n f.body args)
  safe = (is_safe ℕ g.code (notes_of g.code) accepted g.inputs g.share c h.stands.stands.here.good).forks c n args
      h.forks

  forking : IsForking (under g) c c n args
  forking = subst (Meets (under g) c) h.forks (meets (under g) c)

  module _ (b : CodeBlock) (is : slice_get g.code.blocks n ≡ Some b) where
    same_safe : safe.0.body ≡ b
    same_safe = some_eq (sym safe.0.is ∙ is)

    same_body : forking.body ≡ b
    same_body = some_eq (sym (only_some is_procedure (slice_get g.code.blocks n) forking.body forking.is) ∙ is)

    args_are : args ≡ reverse (take (length (params b)) c.stack)
    args_are = arguments_are (params forking.body) c.stack args forking.args
        ∙ ap (λ y. reverse (take (length (params y)) c.stack)) same_body

    pub args_many : length args ≡ length (params b)
    args_many = sym (kinds_length args) ∙ ap length safe.0.kinds ∙ ap (λ y. length (params y)) same_safe

    height : length c.stack ≡ run.registers.top - low h.stands.stands.body run.registers
    height = let s = h.stands.stands in
        words_length c.stack
        (stack_of run.words.items (low s.body run.registers) (run.registers.top - low s.body run.registers))
        s.here.run.stack
        ∙ stack_length run.words.items (low s.body run.registers) (run.registers.top - low s.body run.registers)

    pub above : low h.stands.stands.body run.registers + length (params b) ≤ run.registers.top
    above =
        let s = h.stands.stands in
        let l : length (take (length (params b)) c.stack) ≡ length (params b) =
        sym (reverse_length (take (length (params b)) c.stack)) ∙ ap length (sym args_are) ∙ args_many in
        let e = long_enough (length (params b)) c.stack l in
        let i = height in let t = s.here.top in omega (arith, e, i, t)

    pub within : run.registers.top ≤ length run.words.items
    within =
        let s = h.stands.stands in
        let t : IsRevision g.code (notes_of g.code) c = s.here.good in
        let same : t.typed.frame.body ≡ s.body =
        some_eq (sym t.typed.frame.is ∙ ap (slice_get g.code.blocks) s.here.block ∙ s.is) in
        let i : c.at < length s.body.instrs =
        subst (λ (y : CodeBlock). c.at < length y.instrs) same t.typed.frame.inside in
        let d = s.room c.at i in
        let k : length c.stack ≡ length (notes_of g.code run.registers.block c.at).shape =
        sym (kinds_length c.stack) ∙ ap length t.typed.stack
        ∙ ap (λ m. length (notes_of g.code m c.at).shape) s.here.block in
        let e = height in let o = s.here.top in omega (arith, d, k, e, o)

    next : suc c.at < length h.stands.stands.body.instrs
    next =
        let s = h.stands.stands in
        let t : IsRevision g.code (notes_of g.code) (events.parent g.share c args 0) = safe.1 0 in
        let same : t.typed.frame.body ≡ s.body =
        some_eq (sym t.typed.frame.is ∙ ap (slice_get g.code.blocks) s.here.block ∙ s.is) in
        subst (λ (y : CodeBlock). suc c.at < length y.instrs) same t.typed.frame.inside

    pub place : run.registers.at + 1 < 2 ^ 32
    place =
        let s = h.stands.stands in
        let a = block_short g.code accepted run.registers.block s.body s.is in
        let n = next in
        let e = s.here.run.at in omega (arith, a, n, e)

    pub room_for_handle : run.registers.top - length (params b) < length run.words.items
    room_for_handle =
        let s = h.stands.stands in
        let t : IsRevision g.code (notes_of g.code) (events.parent g.share c args 0) = safe.1 0 in
        let d = s.room (suc c.at) next in
        let k :
        suc (length (drop (length args) c.stack)) ≡ length (notes_of g.code run.registers.block (suc c.at)).shape =
        ap suc (sym (kinds_length (drop (length args) c.stack))) ∙ ap length t.typed.stack
        ∙ ap (λ m. length (notes_of g.code m (suc c.at)).shape) s.here.block in
        let l : length (drop (length args) c.stack) ≡ length c.stack - length args =
        length-drop (length args) c.stack in
        let m = args_many in let e = height in let o = s.here.top in let a = above in omega (arith, d, k, l, m, e, o, a)

    pub stand_args :
        AreWords args (take (length (params b)) (drop (run.registers.top - length (params b)) run.words.items))
    stand_args =
        let s = h.stands.stands in
        let l = low s.body run.registers in
        let a = above in let w = within in let t = s.here.top in
        let slice =
        stack_slice run.words.items l (run.registers.top - l) (length (params b)) (omega (arith, a))
        (omega (arith, w, t)) in
        let place : l + (run.registers.top - l) - length (params b) ≡ run.registers.top - length (params b) =
        omega (arith, t) in
        subst
        (λ xs. AreWords xs (take (length (params b)) (drop (run.registers.top - length (params b)) run.words.items)))
        (sym args_are)
        (subst (AreWords (reverse (take (length (params b)) c.stack)))
        (slice ∙ ap (λ m. take (length (params b)) (drop m run.words.items)) place)
        (words_reverse (take (length (params b)) c.stack)
        (take (length (params b)) (stack_of run.words.items l (run.registers.top - l)))
        (words_take (length (params b)) c.stack (stack_of run.words.items l (run.registers.top - l)) s.here.run.stack)))

    on_forker : (run' : Run) → IsForker (length (params b)) (events.part g.share run.registers.fuel) run run'
        → OnStack g h.stands.stands.body run run' c (events.parent g.share c args 0)
    on_forker run' k =
        let s = h.stands.stands in
        let l = low s.body run.registers in
        let p = length (params b) in
        let a = above in
        let m = args_many in
        let rows = k.registers in
        let top : run'.registers.top ≡ run.registers.top - p + 1 = ap (λ (z : Registers). z.top) rows in
        let place : run.registers.top - p ≡ l + (run.registers.top - p - l) = omega (arith, a) in
        let more : run.registers.top - p + 1 - l ≡ suc (run.registers.top - p - l) = omega (arith, a) in
        let split : run.registers.top - l ≡ p + (run.registers.top - p - l) = omega (arith, a) in
        let push =
        stack_push run.words.items l (run.registers.top - p - l) (run.registers.top - p) (run.registers.top - p + 1 - l)
        1 place more room_for_handle in
        let rest = words_drop p c.stack (stack_of run.words.items l (run.registers.top - l)) s.here.run.stack in
        let rest' =
        subst (AreWords (drop p c.stack))
        (stack_dropped run.words.items l (run.registers.top - l) p (run.registers.top - p - l) split) rest in
        record {
          revision = safe.1 0;
          block = refl;
          locals = refl;
          below = refl;
          same_block = ap (λ (z : Registers). z.block) rows;
          same_base = ap (λ (z : Registers). z.base) rows;
          waits = k.below;
          at = (let i = ap (λ (z : Registers). z.at) rows in let j = s.here.run.at in omega (arith, i, j));
          fuel = ap (λ (z : Registers). z.fuel) rows ∙ ap (λ f. f - events.part g.share f) s.here.run.fuel;
          line = ap (λ (z : Registers). z.line) rows ∙ s.here.run.line;
          words = subst (IsAbove l run.words.items) (sym k.words)
              (one_set l (run.registers.top - p) 1 run.words.items (omega (arith, a)));
          top = omega (arith, a, top);
          stack = subst (λ t. AreWords (events.parent g.share c args 0).stack (stack_of run'.words.items l (t - l)))
              (sym top)
              (subst
              (λ ws. AreWords (events.parent g.share c args 0).stack (stack_of ws l (run.registers.top - p + 1 - l)))
              (sym k.words)
              (subst (AreWords (events.parent g.share c args 0).stack) (sym push) (
                refl,
                subst (λ q. AreWords (drop q c.stack) (stack_of run.words.items l (run.registers.top - p - l))) (sym m)
                    rest',
              )));
          forks = ap suc s.forks ∙ sym k.forks;
          listed = one_listed c.listed run.meetings.items (forked 0 c.line) (meeting.Forked 0 run.registers.line)
              (ap (λ l. forked 0 l) (sym s.here.run.line)) s.listed
              ∙ ap (λ ms. map listed_as ms) (sym k.meetings);
          text = s.text ∙ sym (ap (λ v. v.items) k.text);
          few = (let i = k.forks in
              let j = ap length k.meetings ∙ more_listed run.meetings.items (meeting.Forked 0 run.registers.line) in
              let o = s.few in
              omega (arith, i, j, o));
        }
      where
        more_listed : (ms : List Meeting) (x : Meeting) → length (ms ++ x ∷ []) ≡ suc (length ms)
        more_listed [] x = refl
        more_listed (y ∷ ms) x = ap suc (more_listed ms x)

    pub parent_stands : (run' : Run) → IsForker (length (params b)) (events.part g.share run.registers.fuel) run run'
        → (seen : ℕ → ℕ) (root : ℕ → Option ℕ) → AreSeen c.locations seen root
        → Stands g.code g.inputs g.share run' seen root (events.parent g.share c args 0)
    parent_stands run' k seen root there =
        stays g run run' _ seen _ root c (events.parent g.share c args 0) h.stands.stands (on_forker run' k) there
        h.stands.stands.here.many

    -- over a snapshot that has the words that the forker sees
    pub child_born : (words : List ℕ) → words ≡ top_of (length (params b)) run
        → (fuel : ℕ) → fuel ≡ events.part g.share run.registers.fuel
        → (size : ℕ) → size ≡ count g.code.vars → (base' : ℕ → ℕ) → Agree size base' (overlay.under delta base)
        → (size' : ℕ) → size' ≡ size → IsAtStart g n words base' size' fuel (events.child g.share c n b args)
    child_born words top fuel part size sized base' agree size' same =
        let s = h.stands.stands in
        let good : IsRevision g.code (notes_of g.code) (events.child g.share c n b args) =
        subst (λ y. IsRevision g.code (notes_of g.code) (events.child g.share c n y args)) same_safe safe.2 in
        let seen = overlay.under delta base in
        let few : length (events.view c.locations) ≤ size =
        (let m = s.here.many in let e = view_many c.locations in omega (arith, m, e, sized)) in
        let given = sym (part ∙ ap (events.part g.share) s.here.run.fuel) in
        record {
          verified = h.stands.verified;
          body = b;
          args = args;
          locations = events.view c.locations;
          called = record {
            is = is;
            program = safe.0.program;
            kinds = safe.0.kinds ∙ ap params same_safe;
            stand = subst (AreWords args) (sym top) stand_args;
          };
          based = record {
            kinds = good.locations;
            seen = kept_seen (events.view c.locations) seen base' (λ l. None) (λ l. None)
                (view_seen c.locations seen (at first) s.here.locations) size few
                (record { words = agree; roots = λ l i. refl });
          };
          many = same ∙ sized;
          is = ap (λ m. events.start n b args (events.view c.locations) m) given;
        }

    module _ (size : ℕ) (sized : size ≡ count g.code.vars) (run' : Run) (delta' first' : Delta) (base' : ℕ → ℕ)
        (long : locations delta' ≡ size) where
      many : length c.locations ≤ size
      many = let m = h.stands.stands.here.many in omega (arith, m, sized)

      pub parent_at : IsForker (length (params b)) (events.part g.share run.registers.fuel) run run'
          → Kept size (overlay.under delta base) (overlay.under delta' base') (at first) (at first')
          → IsAt g run' delta' base' first' (events.parent g.share c args 0)
      parent_at k kept = record {
        verified = h.stands.verified;
        stands = parent_stands run' k (overlay.under delta' base') (at first')
            (kept_seen c.locations (overlay.under delta base) (overlay.under delta' base') (at first) (at first')
            h.stands.stands.here.locations size many kept);
        size = long ∙ sized;
      }
