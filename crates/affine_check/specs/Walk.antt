-- What the checker finds, statement by statement.
--
-- `copied`: the first handle that an expression copies; `trail`: what the paths through statements do with the handle
-- of a name; `broken_in`: the first breach in statements with names in scope; `broken_in_program`: in a program.
use Rattle.std.specs.Prelude.{ℕ, Bool, true, false, ◌&&◌, ◌||◌, if◌then◌else◌, Option, Some, None, List, [], ◌∷◌}
use Rattle.rev_num.specs.declared.value.ValueKind.{ValueKind}
use Rattle.rev_num.specs.declared.value.ValueKind.TheVariants as k
use Rattle.rev_num.specs.Value.{same_kind}
use Rattle.rev_syntax.specs.Trees.{PlacedName, Parameter, Expression, placed, ExpressionForm, int, bool, no_rev, var, cell, apply, input, inputs, pick, unary, chain, Expressions, no_expressions, expression, Links, no_links, link, RightSide, plain, called, forked, tried, PrintItem, text, shown, Statement, statement, StatementForm, bind, assign, assign_cell, choose, choose_or, repeat, call, return, fork, join, print, assert, Statements, no_statements, statements, Arms, no_arms, arm, Declaration, fun, merge, shared, proc, ProgramTree}
use Rattle.typed_programs.specs.Least.{first_of}
use Rattle.name_tables.specs.Names.{Name, same}
use Rattle.name_tables.specs.Table.{find}
use Rattle.typed_programs.specs.declared.names.Holder.{Holder}
use Rattle.typed_programs.specs.Kinds.{Names, Locals}
use Rattle.typed_programs.specs.Scopes.{locals_after, outside, with_params, bound}
use Rattle.affine_check.specs.Live.{statement_passes}
use Rattle.affine_check.specs.declared.fault.AffineFault.{AffineFault}
use Rattle.affine_check.specs.declared.fault.AffineFault.TheVariants.{Copied, Stored, UsedTwice, InLoop}
use Rattle.affine_check.specs.declared.trail.Trail.{Trail}
use Rattle.affine_check.specs.Faults.{place, rank}

abbrev pub Fault : Type 0
Fault = Option AffineFault

abbrev pub both : Fault → Fault → Fault
both = first_of place rank

-- a name that means this as a local is that of a handle
abbrev pub is_handle : Option (Option ValueKind) → Bool
is_handle None = false
is_handle (Some None) = false
is_handle (Some (Some kind)) = same_kind kind k.Rev

-- ---- copies

abbrev pub copied_name : Locals → Bool → PlacedName → Fault
copied_name l copies w = if (copies && is_handle (find w.text l)) then Some (Copied w.at) else None

abbrev mutual
  -- any handle that the expression names, where it is copied itself, and else those in a part of a `pick`
  pub copied : Locals → Bool → Expression → Fault
  copied l copies (placed at s) = copied_form l copies s

  pub copied_form : Locals → Bool → ExpressionForm → Fault
  copied_form l copies (int z) = None
  copied_form l copies (bool x) = None
  copied_form l copies no_rev = None
  copied_form l copies (var w) = copied_name l copies w
  copied_form l copies (cell w index) = copied l copies index
  copied_form l copies (apply w args) = copied_args l copies None args
  copied_form l copies (input at index) = copied l copies index
  copied_form l copies (inputs at) = None
  copied_form l copies (pick test x y) = both (copied l true test) (both (copied l true x) (copied l true y))
  copied_form l copies (unary op e) = copied l copies e
  copied_form l copies (chain first rest) = copied_links l copies (copied l copies first) rest

  -- after this one
  pub copied_args : Locals → Bool → Fault → Expressions → Fault
  copied_args l copies found no_expressions = found
  copied_args l copies found (expression x xs) = copied_args l copies (both found (copied l copies x)) xs

  pub copied_links : Locals → Bool → Fault → Links → Fault
  copied_links l copies found no_links = found
  copied_links l copies found (link op x rest) = copied_links l copies (both found (copied l copies x)) rest

abbrev pub copied_right : Locals → RightSide → Fault
copied_right l (plain e) = copied l true e
copied_right l (called at w args) = copied_args l false None args
copied_right l (forked at w args) = copied_args l false None args
copied_right l (tried at handle) = copied l false handle

abbrev pub copied_value : Locals → Option Expression → Fault
copied_value l None = None
copied_value l (Some e) = copied l false e

abbrev pub copied_item : Locals → PrintItem → Fault
copied_item l (text at bytes) = None
copied_item l (shown e) = copied l false e

abbrev pub copied_items : Locals → Fault → List PrintItem → Fault
copied_items l found [] = found
copied_items l found (x ∷ xs) = copied_items l (both found (copied_item l x)) xs

-- ---- the trail of a handle

-- the handle has a new value, where a path comes here or none
abbrev pub start : Bool → Trail
start reached = record { reached = reached; used = false; unchanged = false; ahead = None; found = None }

abbrev pub when : Bool → AffineFault → Fault
when b f = if b then Some f else None

-- behind this use, if it is one of the handle, in a loop or not
abbrev pub used_at : Bool → Option ℕ → Trail → Trail
used_at inside None t = t
used_at inside (Some at) t = record {
  reached = t.reached;
  used = t.used || t.reached;
  unchanged = t.unchanged;
  ahead = both t.ahead (when t.unchanged (UsedTwice at));
  found = both t.found (both (when t.used (UsedTwice at)) (when inside (InLoop at)));
}

-- the handle gets a new value
abbrev pub renewed : Trail → Trail
renewed t = record { reached = t.reached; used = false; unchanged = false; ahead = t.ahead; found = t.found }

-- the paths end here
abbrev pub ended : Trail → Trail
ended t = record { reached = false; used = false; unchanged = false; ahead = t.ahead; found = t.found }

-- where paths meet
abbrev pub met : Trail → Trail → Trail
met t u = record {
  reached = t.reached || u.reached;
  used = t.used || u.used;
  unchanged = t.unchanged || u.unchanged;
  ahead = both t.ahead u.ahead;
  found = both t.found u.found;
}

-- at the start of a turn
abbrev pub turning : Trail → Trail
turning t = record { reached = t.reached; used = t.used; unchanged = true; ahead = None; found = t.found }

-- behind a loop, from what stands behind a turn
abbrev pub turned : Trail → Trail → Trail
turned t turn = record {
  reached = t.reached;
  used = t.used || turn.used;
  unchanged = t.unchanged;
  ahead = both t.ahead (if t.unchanged then turn.ahead else None);
  found = both turn.found (if turn.used then turn.ahead else None);
}

-- the place of the NAME that an expression is, if it is that of the handle
abbrev pub named_form : Name → ExpressionForm → Option ℕ
named_form n (int z) = None
named_form n (bool x) = None
named_form n no_rev = None
named_form n (var w) = if same n w.text then Some w.at else None
named_form n (cell w index) = None
named_form n (apply w args) = None
named_form n (input at index) = None
named_form n (inputs at) = None
named_form n (pick test x y) = None
named_form n (unary op e) = None
named_form n (chain first rest) = None

abbrev pub named : Name → Expression → Option ℕ
named n (placed at s) = named_form n s

abbrev pub trail_args : Name → Bool → Trail → Expressions → Trail
trail_args n inside t no_expressions = t
trail_args n inside t (expression x xs) = trail_args n inside (used_at inside (named n x) t) xs

abbrev pub trail_right : Name → Bool → Trail → RightSide → Trail
trail_right n inside t (plain e) = t
trail_right n inside t (called at w args) = trail_args n inside t args
trail_right n inside t (forked at w args) = trail_args n inside t args
trail_right n inside t (tried at handle) = used_at inside (named n handle) t

abbrev pub trail_value : Name → Bool → Trail → Option Expression → Trail
trail_value n inside t None = t
trail_value n inside t (Some e) = used_at inside (named n e) t

abbrev pub trail_gets : Name → PlacedName → Trail → Trail
trail_gets n w t = if same n w.text then renewed t else t

abbrev mutual
  -- behind the statements, which stand in a loop of the handle's block or not
  pub trail : Name → Bool → Trail → Statements → Trail
  trail n inside t no_statements = t
  trail n inside t (statements x rest) = trail n inside (trail_statement n inside t x) rest

  pub trail_statement : Name → Bool → Trail → Statement → Trail
  trail_statement n inside t (statement at line form) = trail_form n inside t form

  pub trail_form : Name → Bool → Trail → StatementForm → Trail
  trail_form n inside t (bind w r) = trail_gets n w (trail_right n inside t r)
  trail_form n inside t (assign w r) = trail_gets n w (trail_right n inside t r)
  trail_form n inside t (assign_cell w index e) = t
  trail_form n inside t (choose arms) = met (trail_arms n inside t (start false) arms) t
  trail_form n inside t (choose_or arms last) = met (trail_arms n inside t (start false) arms) (trail n inside t last)
  trail_form n inside t (repeat test body) = turned t (trail n true (turning t) body)
  trail_form n inside t (call w args) = trail_args n inside t args
  trail_form n inside t (return e) = ended (trail_value n inside t e)
  trail_form n inside t (fork w args) = trail_args n inside t args
  trail_form n inside t (join handle) = used_at inside (named n handle) t
  trail_form n inside t (print items) = t
  trail_form n inside t (assert test) = t

  -- where the blocks of an `if` and these paths meet
  pub trail_arms : Name → Bool → Trail → Trail → Arms → Trail
  trail_arms n inside t u no_arms = u
  trail_arms n inside t u (arm test body rest) = trail_arms n inside t (met u (trail n inside t body)) rest

-- The first second use of the handle of this name, or the first in a loop, in the rest of its block, to which a path
-- comes or none.
abbrev pub misused : Bool → Option (Option ValueKind) → Name → Statements → Fault
misused reached local n rest = if is_handle local then (trail n false (start reached) rest).found else None

-- ---- statements

abbrev pub stored_in : PlacedName → Option Holder → Fault
stored_in w None = None
stored_in w (Some h) = when (same_kind h.kind k.Rev) (Stored w.at)

abbrev pub stored : Names → PlacedName → Fault
stored c w = stored_in w (c.shared w.text)

-- in a `let` to which a path comes or none, with the statements behind it
abbrev pub broken_bind : Names → Locals → Bool → Statements → PlacedName → RightSide → Fault
broken_bind c l reached rest w r = both (copied_right l r) (misused reached (find w.text (bound c l w r)) w.text rest)

abbrev mutual
  -- the first breach in a statement and in the trail of a handle that it binds, with the statements behind it
  pub broken_statement : Names → Locals → Bool → Statements → Statement → Fault
  broken_statement c l reached rest (statement at line form) = broken_form c l reached rest form

  pub broken_form : Names → Locals → Bool → Statements → StatementForm → Fault
  broken_form c l reached rest (bind w r) = broken_bind c l reached rest w r
  broken_form c l reached rest (assign w r) = both (stored c w) (copied_right l r)
  broken_form c l reached rest (assign_cell w index e) =
      both (stored c w) (both (copied l false index) (copied l false e))
  broken_form c l reached rest (choose arms) = broken_arms c l reached None arms
  broken_form c l reached rest (choose_or arms last) =
      both (broken_arms c l reached None arms) (broken_in c l reached None last)
  broken_form c l reached rest (repeat test body) = both (copied l false test) (broken_in c l reached None body)
  broken_form c l reached rest (call w args) = copied_args l false None args
  broken_form c l reached rest (return e) = copied_value l e
  broken_form c l reached rest (fork w args) = copied_args l false None args
  broken_form c l reached rest (join handle) = copied l false handle
  broken_form c l reached rest (print items) = copied_items l None items
  broken_form c l reached rest (assert test) = copied l false test

  -- after this one
  pub broken_in : Names → Locals → Bool → Fault → Statements → Fault
  broken_in c l reached found no_statements = found
  broken_in c l reached found (statements x rest) = broken_in c (locals_after c l x) (reached && statement_passes x)
      (both found (broken_statement c l reached rest x)) rest

  pub broken_arms : Names → Locals → Bool → Fault → Arms → Fault
  broken_arms c l reached found no_arms = found
  broken_arms c l reached found (arm test body rest) =
      broken_arms c l reached (both found (both (copied l false test) (broken_in c l reached None body))) rest

-- ---- programs

-- in the trails of the parameters, after this one
abbrev pub misused_params : Locals → Statements → Fault → List Parameter → Fault
misused_params l body found [] = found
misused_params l body found (p ∷ ps) =
    misused_params l body (both found (misused true (find p.name.text l) p.name.text body)) ps

abbrev pub broken_body : Names → List Parameter → Statements → Fault
broken_body c ps body = both (misused_params (with_params [] ps) body None ps)
    (broken_in c (with_params [] ps) true None body)

abbrev pub broken_declaration : Names → Declaration → Fault
broken_declaration c (fun w ps r body) = None
broken_declaration c (merge w m j r body) = None
broken_declaration c (shared x) = None
broken_declaration c (proc w ps r body) = broken_body c ps body

abbrev pub broken_declarations : Names → Fault → List Declaration → Fault
broken_declarations c found [] = found
broken_declarations c found (e ∷ es) = broken_declarations c (both found (broken_declaration c e)) es

-- where the names mean this outside of procedures
abbrev pub broken_under : Names → ProgramTree → Fault
broken_under c p = both (broken_declarations c None p.declarations) (broken_body c [] p.main)

abbrev pub broken_in_program : ProgramTree → Fault
broken_in_program p = broken_under (outside p.declarations) p
