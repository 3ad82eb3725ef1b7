-- The affine rule: what the paths through a procedure meet, and the four ways to break the rule, with their places.
--
-- An `Occurrence` is a NAME that is used, or a local that gets a value.
-- `Through` and `Inside` are the paths all the way
-- through statements and to some place in them. `UsedTwice`, `Copied`, `Stored` and `InLoop` are the four breaches in
-- a block. `Breaks` says that a program has one at a place, `IsAffine` that it has none, and `IsFirstBroken` which one
-- is at the least place and there of the least number.
use Rattle.std.specs.Prelude.{◌≡◌, ◌⊎◌, ℕ, zero, suc, false, List, [], ◌∷◌, ◌++◌, Option, Some, None}
use Rattle.rev_num.specs.declared.value.ValueKind.{ValueKind}
use Rattle.rev_num.specs.declared.value.ValueKind.TheVariants as k
use Rattle.rev_syntax.specs.Trees.{PlacedName, Expression, placed, ExpressionForm, int, bool, no_rev, var, cell, apply, input, inputs, pick, unary, chain, Expressions, no_expressions, expression, Links, no_links, link, RightSide, plain, called, forked, tried, PrintItem, text, shown, Statement, statement, StatementForm, bind, assign, assign_cell, choose, choose_or, repeat, call, return, fork, join, print, assert, Statements, no_statements, statements, Arms, no_arms, arm, Declaration, fun, merge, shared, proc, ProgramTree}
use Rattle.typed_programs.specs.Least.{IsBefore}
use Rattle.name_tables.specs.Names.{Name, same}
use Rattle.name_tables.specs.Table.{find, added}
use Rattle.typed_programs.specs.declared.names.Holder.{Holder}
use Rattle.typed_programs.specs.Kinds.{Names, Locals}
use Rattle.typed_programs.specs.Scopes.{outside, with_params}
use Rattle.typed_programs.specs.Judgement.{RightSideHas}
use Rattle.affine_check.specs.Live.{IsRev}

-- ---- what a path meets

-- a NAME that is used, with what it means as a local there; or a local that gets a value
pub data Occurrence : Type 0 where
  use_of : Option (Option ValueKind) → PlacedName → Occurrence
  gets : Name → Occurrence

abbrev pub expression_form_occurrences : Locals → ExpressionForm → List Occurrence → List Occurrence
expression_form_occurrences l (int z) later = later
expression_form_occurrences l (bool x) later = later
expression_form_occurrences l no_rev later = later
expression_form_occurrences l (var w) later = use_of (find w.text l) w ∷ later
expression_form_occurrences l (cell w index) later = later
expression_form_occurrences l (apply w args) later = later
expression_form_occurrences l (input at index) later = later
expression_form_occurrences l (inputs at) later = later
expression_form_occurrences l (pick test x y) later = later
expression_form_occurrences l (unary op e) later = later
expression_form_occurrences l (chain first rest) later = later

-- an expression that is used, where it is a NAME
abbrev pub expression_occurrences : Locals → Expression → List Occurrence → List Occurrence
expression_occurrences l (placed at s) later = expression_form_occurrences l s later

abbrev pub expressions_occurrences : Locals → Expressions → List Occurrence → List Occurrence
expressions_occurrences l no_expressions later = later
expressions_occurrences l (expression x xs) later = expression_occurrences l x (expressions_occurrences l xs later)

abbrev pub right_side_occurrences : Locals → RightSide → List Occurrence → List Occurrence
right_side_occurrences l (plain e) later = later
right_side_occurrences l (called at w args) later = expressions_occurrences l args later
right_side_occurrences l (forked at w args) later = expressions_occurrences l args later
right_side_occurrences l (tried at handle) later = expression_occurrences l handle later

abbrev pub value_occurrences : Locals → Option Expression → List Occurrence
value_occurrences l None = []
value_occurrences l (Some e) = expression_occurrences l e []

-- so many turns, each of which meets some of these in order
abbrev pub Turns : (List Occurrence → Type 0) → ℕ → List Occurrence → Type 0
Turns P zero ms = ms ≡ []
Turns P (suc n) ms = (ms₁ ms₂ : List Occurrence) × P ms₁ × Turns P n ms₂ × (ms ≡ ms₁ ++ ms₂)

-- ---- paths

-- With the first locals in scope, a path all the way through meets these, and the second are in scope behind it. It
-- takes any block of an `if` or, without a last `else`, none, and any number of turns of a `while`.
abbrev mutual
  pub Through : Names → Locals → Statements → List Occurrence → Type 0
  Through c l no_statements ms = ms ≡ []
  Through c l (statements x rest) ms = (l' : Locals) × (ms₁ ms₂ : List Occurrence) × StatementThrough c l x l' ms₁
      × Through c l' rest ms₂ × (ms ≡ ms₁ ++ ms₂)

  pub StatementThrough : Names → Locals → Statement → Locals → List Occurrence → Type 0
  StatementThrough c l (statement at line form) l' ms = StatementFormThrough c l form l' ms

  pub StatementFormThrough : Names → Locals → StatementForm → Locals → List Occurrence → Type 0
  StatementFormThrough c l (bind w r) l' ms = ((t : ValueKind) × RightSideHas c l r t × (l' ≡ added l w.text (Some t)))
      × (ms ≡ right_side_occurrences l r (gets w.text ∷ []))
  StatementFormThrough c l (assign w r) l' ms = (l' ≡ l) × (ms ≡ right_side_occurrences l r (gets w.text ∷ []))
  StatementFormThrough c l (assign_cell w index e) l' ms = (l' ≡ l) × (ms ≡ [])
  StatementFormThrough c l (choose arms) l' ms = (l' ≡ l) × (ArmsThrough c l arms ms ⊎ (ms ≡ []))
  StatementFormThrough c l (choose_or arms last) l' ms = (l' ≡ l) × (ArmsThrough c l arms ms ⊎ Through c l last ms)
  StatementFormThrough c l (repeat test body) l' ms = (l' ≡ l) × ((n : ℕ) × Turns (λ xs. Through c l body xs) n ms)
  StatementFormThrough c l (call w args) l' ms = (l' ≡ l) × (ms ≡ expressions_occurrences l args [])
  StatementFormThrough c l (return e) l' ms = ⊥
  StatementFormThrough c l (fork w args) l' ms = (l' ≡ l) × (ms ≡ expressions_occurrences l args [])
  StatementFormThrough c l (join handle) l' ms = (l' ≡ l) × (ms ≡ expression_occurrences l handle [])
  StatementFormThrough c l (print items) l' ms = (l' ≡ l) × (ms ≡ [])
  StatementFormThrough c l (assert test) l' ms = (l' ≡ l) × (ms ≡ [])

  pub ArmsThrough : Names → Locals → Arms → List Occurrence → Type 0
  ArmsThrough c l no_arms ms = ⊥
  ArmsThrough c l (arm test body rest) ms = Through c l body ms ⊎ ArmsThrough c l rest ms

-- a path from the start to some place in the statements meets these; what follows a `return` is on no path
abbrev mutual
  pub Inside : Names → Locals → Statements → List Occurrence → Type 0
  Inside c l no_statements ms = ms ≡ []
  Inside c l (statements x rest) ms =
      (ms ≡ []) ⊎ (StatementInside c l x ms
      ⊎ ((l' : Locals) × (ms₁ ms₂ : List Occurrence) × StatementThrough c l x l' ms₁ × Inside c l' rest ms₂
      × (ms ≡ ms₁ ++ ms₂)))

  -- in a block of a statement, or at a `return`
  pub StatementInside : Names → Locals → Statement → List Occurrence → Type 0
  StatementInside c l (statement at line form) ms = StatementFormInside c l form ms

  pub StatementFormInside : Names → Locals → StatementForm → List Occurrence → Type 0
  StatementFormInside c l (bind w r) ms = ⊥
  StatementFormInside c l (assign w r) ms = ⊥
  StatementFormInside c l (assign_cell w index e) ms = ⊥
  StatementFormInside c l (choose arms) ms = ArmsInside c l arms ms
  StatementFormInside c l (choose_or arms last) ms = ArmsInside c l arms ms ⊎ Inside c l last ms
  StatementFormInside c l (repeat test body) ms = (n : ℕ) × (ms₁ ms₂ : List Occurrence)
      × Turns (λ xs. Through c l body xs) n ms₁ × Inside c l body ms₂ × (ms ≡ ms₁ ++ ms₂)
  StatementFormInside c l (call w args) ms = ⊥
  StatementFormInside c l (return e) ms = ms ≡ value_occurrences l e
  StatementFormInside c l (fork w args) ms = ⊥
  StatementFormInside c l (join handle) ms = ⊥
  StatementFormInside c l (print items) ms = ⊥
  StatementFormInside c l (assert test) ms = ⊥

  pub ArmsInside : Names → Locals → Arms → List Occurrence → Type 0
  ArmsInside c l no_arms ms = ⊥
  ArmsInside c l (arm test body rest) ms = Inside c l body ms ⊎ ArmsInside c l rest ms

-- ---- a use behind a use

-- the local of this name gets no value
abbrev pub NoValue : Name → List Occurrence → Type 0
NoValue n [] = Unit {0}
NoValue n (use_of t w ∷ ms) = NoValue n ms
NoValue n (gets m ∷ ms) = (same n m ≡ false) × NoValue n ms

-- a use of a rev local
abbrev pub rev_use : PlacedName → Occurrence
rev_use w = use_of (Some (Some k.Rev)) w

-- Some path uses a rev local and then its name again, with no new value between them, at this place.
pub record UsedTwice (c : Names) (l : Locals) (body : Statements) (at : ℕ) : Type 0 where
  pub before : List Occurrence
  pub between : List Occurrence
  pub behind : List Occurrence
  pub first : PlacedName
  pub means : Option (Option ValueKind)
  pub second : PlacedName
  pub path : Inside c l body (before ++ (rev_use first ∷ (between ++ (use_of means second ∷ behind))))
  pub same_name : second.text ≡ first.text
  pub unchanged : NoValue first.text between
  pub place : second.at ≡ at

-- ---- copies

abbrev mutual
  -- a NAME of a rev local at this place, anywhere in the expression
  pub NameIn : Locals → Expression → ℕ → Type 0
  NameIn l (placed at s) p = ExpressionFormNameIn l s p

  pub ExpressionFormNameIn : Locals → ExpressionForm → ℕ → Type 0
  ExpressionFormNameIn l (int z) p = ⊥
  ExpressionFormNameIn l (bool x) p = ⊥
  ExpressionFormNameIn l no_rev p = ⊥
  ExpressionFormNameIn l (var w) p = IsRev l w × (w.at ≡ p)
  ExpressionFormNameIn l (cell w index) p = NameIn l index p
  ExpressionFormNameIn l (apply w args) p = NamesIn l args p
  ExpressionFormNameIn l (input at index) p = NameIn l index p
  ExpressionFormNameIn l (inputs at) p = ⊥
  ExpressionFormNameIn l (pick test x y) p = NameIn l test p ⊎ (NameIn l x p ⊎ NameIn l y p)
  ExpressionFormNameIn l (unary op e) p = NameIn l e p
  ExpressionFormNameIn l (chain first rest) p = NameIn l first p ⊎ LinksNameIn l rest p

  pub NamesIn : Locals → Expressions → ℕ → Type 0
  NamesIn l no_expressions p = ⊥
  NamesIn l (expression x xs) p = NameIn l x p ⊎ NamesIn l xs p

  pub LinksNameIn : Locals → Links → ℕ → Type 0
  LinksNameIn l no_links p = ⊥
  LinksNameIn l (link op x rest) p = NameIn l x p ⊎ LinksNameIn l rest p

abbrev mutual
  -- the same in a part of a `pick`
  pub PickIn : Locals → Expression → ℕ → Type 0
  PickIn l (placed at s) p = ExpressionFormPickIn l s p

  pub ExpressionFormPickIn : Locals → ExpressionForm → ℕ → Type 0
  ExpressionFormPickIn l (int z) p = ⊥
  ExpressionFormPickIn l (bool x) p = ⊥
  ExpressionFormPickIn l no_rev p = ⊥
  ExpressionFormPickIn l (var w) p = ⊥
  ExpressionFormPickIn l (cell w index) p = PickIn l index p
  ExpressionFormPickIn l (apply w args) p = PicksIn l args p
  ExpressionFormPickIn l (input at index) p = PickIn l index p
  ExpressionFormPickIn l (inputs at) p = ⊥
  ExpressionFormPickIn l (pick test x y) p = NameIn l test p ⊎ (NameIn l x p ⊎ NameIn l y p)
  ExpressionFormPickIn l (unary op e) p = PickIn l e p
  ExpressionFormPickIn l (chain first rest) p = PickIn l first p ⊎ LinksPickIn l rest p

  pub PicksIn : Locals → Expressions → ℕ → Type 0
  PicksIn l no_expressions p = ⊥
  PicksIn l (expression x xs) p = PickIn l x p ⊎ PicksIn l xs p

  pub LinksPickIn : Locals → Links → ℕ → Type 0
  LinksPickIn l no_links p = ⊥
  LinksPickIn l (link op x rest) p = PickIn l x p ⊎ LinksPickIn l rest p

abbrev pub RightSideCopied : Locals → RightSide → ℕ → Type 0
RightSideCopied l (plain e) p = NameIn l e p
RightSideCopied l (called at w args) p = PicksIn l args p
RightSideCopied l (forked at w args) p = PicksIn l args p
RightSideCopied l (tried at handle) p = PickIn l handle p

abbrev pub ItemsCopied : Locals → List PrintItem → ℕ → Type 0
ItemsCopied l [] p = ⊥
ItemsCopied l (text at bytes ∷ items) p = ItemsCopied l items p
ItemsCopied l (shown e ∷ items) p = PickIn l e p ⊎ ItemsCopied l items p

abbrev pub ValueCopied : Locals → Option Expression → ℕ → Type 0
ValueCopied l None p = ⊥
ValueCopied l (Some e) p = PickIn l e p

-- what is in scope behind a statement
abbrev pub StatementFormBehind : Names → Locals → StatementForm → Locals → Type 0
StatementFormBehind c l (bind w r) l' = (t : ValueKind) × RightSideHas c l r t × (l' ≡ added l w.text (Some t))
StatementFormBehind c l (assign w r) l' = l' ≡ l
StatementFormBehind c l (assign_cell w index e) l' = l' ≡ l
StatementFormBehind c l (choose arms) l' = l' ≡ l
StatementFormBehind c l (choose_or arms last) l' = l' ≡ l
StatementFormBehind c l (repeat test body) l' = l' ≡ l
StatementFormBehind c l (call w args) l' = l' ≡ l
StatementFormBehind c l (return e) l' = l' ≡ l
StatementFormBehind c l (fork w args) l' = l' ≡ l
StatementFormBehind c l (join handle) l' = l' ≡ l
StatementFormBehind c l (print items) l' = l' ≡ l
StatementFormBehind c l (assert test) l' = l' ≡ l

abbrev pub Behind : Names → Locals → Statement → Locals → Type 0
Behind c l (statement at line form) l' = StatementFormBehind c l form l'

-- a name of a rev local inside a plain right side or a part of a `pick`, in any statement
abbrev mutual
  pub Copied : Names → Locals → Statements → ℕ → Type 0
  Copied c l no_statements p = ⊥
  Copied c l (statements x rest) p = StatementCopied c l x p ⊎ ((l' : Locals) × Behind c l x l' × Copied c l' rest p)

  pub StatementCopied : Names → Locals → Statement → ℕ → Type 0
  StatementCopied c l (statement at line form) p = StatementFormCopied c l form p

  pub StatementFormCopied : Names → Locals → StatementForm → ℕ → Type 0
  StatementFormCopied c l (bind w r) p = RightSideCopied l r p
  StatementFormCopied c l (assign w r) p = RightSideCopied l r p
  StatementFormCopied c l (assign_cell w index e) p = PickIn l index p ⊎ PickIn l e p
  StatementFormCopied c l (choose arms) p = ArmsCopied c l arms p
  StatementFormCopied c l (choose_or arms last) p = ArmsCopied c l arms p ⊎ Copied c l last p
  StatementFormCopied c l (repeat test body) p = PickIn l test p ⊎ Copied c l body p
  StatementFormCopied c l (call w args) p = PicksIn l args p
  StatementFormCopied c l (return e) p = ValueCopied l e p
  StatementFormCopied c l (fork w args) p = PicksIn l args p
  StatementFormCopied c l (join handle) p = PickIn l handle p
  StatementFormCopied c l (print items) p = ItemsCopied l items p
  StatementFormCopied c l (assert test) p = PickIn l test p

  pub ArmsCopied : Names → Locals → Arms → ℕ → Type 0
  ArmsCopied c l no_arms p = ⊥
  ArmsCopied c l (arm test body rest) p = PickIn l test p ⊎ (Copied c l body p ⊎ ArmsCopied c l rest p)

-- ---- stores

-- the left side at this place is a shared variable of kind rev
abbrev pub StoresAt : Names → PlacedName → ℕ → Type 0
StoresAt c w p = ((h : Holder) × (c.shared w.text ≡ Some h) × (h.kind ≡ k.Rev)) × (w.at ≡ p)

abbrev mutual
  pub Stored : Names → Statements → ℕ → Type 0
  Stored c no_statements p = ⊥
  Stored c (statements x rest) p = StatementStored c x p ⊎ Stored c rest p

  pub StatementStored : Names → Statement → ℕ → Type 0
  StatementStored c (statement at line form) p = StatementFormStored c form p

  pub StatementFormStored : Names → StatementForm → ℕ → Type 0
  StatementFormStored c (bind w r) p = ⊥
  StatementFormStored c (assign w r) p = StoresAt c w p
  StatementFormStored c (assign_cell w index e) p = StoresAt c w p
  StatementFormStored c (choose arms) p = ArmsStored c arms p
  StatementFormStored c (choose_or arms last) p = ArmsStored c arms p ⊎ Stored c last p
  StatementFormStored c (repeat test body) p = Stored c body p
  StatementFormStored c (call w args) p = ⊥
  StatementFormStored c (return e) p = ⊥
  StatementFormStored c (fork w args) p = ⊥
  StatementFormStored c (join handle) p = ⊥
  StatementFormStored c (print items) p = ⊥
  StatementFormStored c (assert test) p = ⊥

  pub ArmsStored : Names → Arms → ℕ → Type 0
  ArmsStored c no_arms p = ⊥
  ArmsStored c (arm test body rest) p = Stored c body p ⊎ ArmsStored c rest p

-- ---- uses in a loop

-- the expression is a NAME at this place of a local that is rev with these in scope
abbrev pub UseAt : Locals → Expression → ℕ → Type 0
UseAt o (placed at (var w)) p = IsRev o w × (w.at ≡ p)
UseAt o (placed at (int z)) p = ⊥
UseAt o (placed at (bool z)) p = ⊥
UseAt o (placed at no_rev) p = ⊥
UseAt o (placed at (cell w index)) p = ⊥
UseAt o (placed at (apply w args)) p = ⊥
UseAt o (placed at (input i index)) p = ⊥
UseAt o (placed at (inputs i)) p = ⊥
UseAt o (placed at (pick test x y)) p = ⊥
UseAt o (placed at (unary op e)) p = ⊥
UseAt o (placed at (chain first rest)) p = ⊥

abbrev pub UsesAt : Locals → Expressions → ℕ → Type 0
UsesAt o no_expressions p = ⊥
UsesAt o (expression x xs) p = UseAt o x p ⊎ UsesAt o xs p

abbrev pub RightSideUsesAt : Locals → RightSide → ℕ → Type 0
RightSideUsesAt o (plain e) p = ⊥
RightSideUsesAt o (called at w args) p = UsesAt o args p
RightSideUsesAt o (forked at w args) p = UsesAt o args p
RightSideUsesAt o (tried at handle) p = UseAt o handle p

abbrev pub ValueUsesAt : Locals → Option Expression → ℕ → Type 0
ValueUsesAt o None p = ⊥
ValueUsesAt o (Some e) p = UseAt o e p

-- a use at this place of a local that is rev with these in scope, in any statement
abbrev mutual
  pub OuterUse : Locals → Statements → ℕ → Type 0
  OuterUse o no_statements p = ⊥
  OuterUse o (statements x rest) p = StatementOuterUse o x p ⊎ OuterUse o rest p

  pub StatementOuterUse : Locals → Statement → ℕ → Type 0
  StatementOuterUse o (statement at line form) p = StatementFormOuterUse o form p

  pub StatementFormOuterUse : Locals → StatementForm → ℕ → Type 0
  StatementFormOuterUse o (bind w r) p = RightSideUsesAt o r p
  StatementFormOuterUse o (assign w r) p = RightSideUsesAt o r p
  StatementFormOuterUse o (assign_cell w index e) p = ⊥
  StatementFormOuterUse o (choose arms) p = ArmsOuterUse o arms p
  StatementFormOuterUse o (choose_or arms last) p = ArmsOuterUse o arms p ⊎ OuterUse o last p
  StatementFormOuterUse o (repeat test body) p = OuterUse o body p
  StatementFormOuterUse o (call w args) p = UsesAt o args p
  StatementFormOuterUse o (return e) p = ValueUsesAt o e p
  StatementFormOuterUse o (fork w args) p = UsesAt o args p
  StatementFormOuterUse o (join handle) p = UseAt o handle p
  StatementFormOuterUse o (print items) p = ⊥
  StatementFormOuterUse o (assert test) p = ⊥

  pub ArmsOuterUse : Locals → Arms → ℕ → Type 0
  ArmsOuterUse o no_arms p = ⊥
  ArmsOuterUse o (arm test body rest) p = OuterUse o body p ⊎ ArmsOuterUse o rest p

-- a use inside a `while` body of a rev local that is in scope before the `while`; no name in scope is declared anew
abbrev mutual
  pub InLoop : Names → Locals → Statements → ℕ → Type 0
  InLoop c l no_statements p = ⊥
  InLoop c l (statements x rest) p = StatementInLoop c l x p ⊎ ((l' : Locals) × Behind c l x l' × InLoop c l' rest p)

  pub StatementInLoop : Names → Locals → Statement → ℕ → Type 0
  StatementInLoop c l (statement at line form) p = StatementFormInLoop c l form p

  pub StatementFormInLoop : Names → Locals → StatementForm → ℕ → Type 0
  StatementFormInLoop c l (bind w r) p = ⊥
  StatementFormInLoop c l (assign w r) p = ⊥
  StatementFormInLoop c l (assign_cell w index e) p = ⊥
  StatementFormInLoop c l (choose arms) p = ArmsInLoop c l arms p
  StatementFormInLoop c l (choose_or arms last) p = ArmsInLoop c l arms p ⊎ InLoop c l last p
  StatementFormInLoop c l (repeat test body) p = OuterUse l body p ⊎ InLoop c l body p
  StatementFormInLoop c l (call w args) p = ⊥
  StatementFormInLoop c l (return e) p = ⊥
  StatementFormInLoop c l (fork w args) p = ⊥
  StatementFormInLoop c l (join handle) p = ⊥
  StatementFormInLoop c l (print items) p = ⊥
  StatementFormInLoop c l (assert test) p = ⊥

  pub ArmsInLoop : Names → Locals → Arms → ℕ → Type 0
  ArmsInLoop c l no_arms p = ⊥
  ArmsInLoop c l (arm test body rest) p = InLoop c l body p ⊎ ArmsInLoop c l rest p

-- ---- programs

-- the four ways to break the rule, in the order of their numbers
pub data Breach : Type 0 where
  copied : Breach
  stored : Breach
  used_twice : Breach
  in_loop : Breach

-- a block in which these are in scope breaks the rule so at this place
abbrev pub BodyBreaks : Names → Locals → Statements → Breach → ℕ → Type 0
BodyBreaks c l body copied at = Copied c l body at
BodyBreaks c l body stored at = Stored c body at
BodyBreaks c l body used_twice at = UsedTwice c l body at
BodyBreaks c l body in_loop at = InLoop c l body at

abbrev pub DeclarationsBreak : Names → List Declaration → Breach → ℕ → Type 0
DeclarationsBreak c [] b at = ⊥
DeclarationsBreak c (fun w ps r body ∷ es) b at = DeclarationsBreak c es b at
DeclarationsBreak c (merge w m j r body ∷ es) b at = DeclarationsBreak c es b at
DeclarationsBreak c (shared x ∷ es) b at = DeclarationsBreak c es b at
DeclarationsBreak c (proc w ps r body ∷ es) b at =
    BodyBreaks c (with_params [] ps) body b at ⊎ DeclarationsBreak c es b at

-- the program breaks the rule so at this place
abbrev pub Breaks : ProgramTree → Breach → ℕ → Type 0
Breaks p b at = DeclarationsBreak (outside p.declarations) p.declarations b at
    ⊎ BodyBreaks (outside p.declarations) [] p.main b at

-- it keeps the rule
abbrev pub IsAffine : ProgramTree → Type 0
IsAffine p = (b : Breach) (at : ℕ) → Breaks p b at → ⊥

-- ---- the first place

abbrev pub number : Breach → ℕ
number copied = 1
number stored = 2
number used_twice = 3
number in_loop = 4

-- how the rule is broken, and where
pub record Breakage : Type 0 where
  pub at : ℕ
  pub how : Breach

-- of all that the program breaks this is at the least place, and there of the least number
pub record IsFirstBroken (p : ProgramTree) (f : Breakage) : Type 0 where
  pub broken : Breaks p f.how f.at
  pub first : (b : Breach) (at : ℕ) → Breaks p b at
      → IsBefore (λ g. g.at) (λ g. number g.how) f (record { at = at; how = b })
