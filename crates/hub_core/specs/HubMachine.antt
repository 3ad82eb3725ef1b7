-- What the revisions of a machine do, and the values that stand for their states, as one datum.
--   HubMachine       the machine, with runners R, joiners A and end values E
--   numbered, values the same as a machine by numbers and as values over it
use Rattle.std.specs.Prelude.{ℕ, Bool, List}
use Rattle.revision_machine.specs.Numbered.{Wish, Numbered}
use Rattle.hub_core.specs.Hub.{Values}

pub record HubMachine (L R A E : Type 0) : Type 0 where
  pub next : L → Wish L
  pub forks : L → ℕ
  pub join : L → ℕ → L → L
  -- the state of a runner
  pub runs : R → L
  -- the number that a joiner joins, and its state after it joined a revision of this end
  pub on : A → ℕ
  pub joined : A → E → L
  -- whether it ended by a trap, and whether a joiner outlives that
  pub trapped : E → Bool
  pub is_try : A → Bool
  -- what the snapshot of a runner and of a joiner belongs to
  pub runner_group : R → List ℕ
  pub joiner_group : A → List ℕ

abbrev pub numbered : {L R A E : Type 0} → HubMachine L R A E → Numbered
numbered {L = L} d = record { Local = L; next = d.next; forks = d.forks; join = d.join }

abbrev pub values :
    {L R A E : Type 0} → (d : HubMachine L R A E) → (E → L → Type 0) → Values (numbered d)
values {R = R} {A = A} {E = E} d ends = record {
  Runner = R;
  AtJoin = A;
  End = E;
  runs = d.runs;
  on = d.on;
  joined = d.joined;
  ends = ends;
}
