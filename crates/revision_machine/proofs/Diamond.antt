-- Two steps in either order.
use Rattle.std.proofs.Common.{◌≡◌, ◌≢◌, ◌⊎◌, inl, inr, Some, None, refl, sym, ap, ◌∙◌}
use Rattle.rev_num.specs.Path.{Path, child}
use Rattle.revision_machine.specs.PathMap.{PathMap, with_at}
use Rattle.revision_machine.specs.Machine.{Joins, Ended, Machine, Entry, Plain, Joined, Global, Twice, Live, Revisions, step}
use Rattle.revision_machine.specs.Laws.{Diamond}
use Rattle.revision_machine.proofs.Paths.{swap, child-same, at_here, at_other, decide_same}
use Rattle.revision_machine.proofs.Way.{put_two, Role, itself, forked, met, Way, writes, twice, way, going, ended_apart, again, meets_marked, plain_inj, Place, own, new, marks, place}

-- two writes and two others, at four places
pub commute : {A : Type 0} (m : PathMap A) (r o s p : Path) (a b c d : A) → r ≢ s → r ≢ p → o ≢ s → o ≢ p
    → put_two (put_two m r a o b) s c p d ≡ put_two (put_two m s c p d) r a o b
commute m r o s p a b c d rs rp os op =
    ap (λ v. with_at v s c) (swap (with_at m o b) r p a d rp)
    ∙ ap (λ v. with_at (with_at v r a) s c) (swap m o p b d op)
    ∙ swap (with_at (with_at m p d) o b) r s a c rs
    ∙ ap (λ v. with_at v r a) (swap (with_at m p d) o s b c os)

pub two_here : {A : Type 0} (m : PathMap A) (r o : Path) (a b : A) → put_two m r a o b r ≡ Some a
two_here m r o a b = at_here (with_at m o b) r a

pub two_there : {A : Type 0} (m : PathMap A) (r o : Path) (a b : A) → r ≢ o → put_two m r a o b o ≡ Some b
two_there m r o a b apart = at_other (with_at m o b) r a o apart ∙ at_here m o b

pub two_other : {A : Type 0} (m : PathMap A) (r o : Path) (a b : A) (p : Path) → r ≢ p → o ≢ p
    → put_two m r a o b p ≡ m p
two_other m r o a b p rp op = at_other (with_at m o b) r a p rp ∙ at_other m o b p op

module _ (M : Machine) where
  -- no revision stands where a fork would put its child
  abbrev pub IsFresh : Revisions M → Type 0
  IsFresh revs = (r : Path) (l : M.Local) → revs r ≡ Some (Plain l) → revs (child r (M.forks l)) ≡ None

  pub gone : {P : Type 0} {a : Entry M.Local} (revs : Revisions M) (p : Path) → revs p ≡ None → revs p ≡ Some a → P
  gone revs p e f = absurd (let clash = sym e ∙ f in cc)

  -- what one writes is not where another stands
  apart_own : (revs : Revisions M) → IsFresh revs → (r s : Path) (l l' k : M.Local) (o : Path) (e : Entry M.Local)
      → revs r ≡ Some (Plain l) → Role M revs r l l' o e → r ≢ s → revs s ≡ Some (Plain k) → M.next s k ≢ Ended → s ≢ o
  apart_own revs fresh r s l l' k o e here (itself _ does) rs there on f = rs (sym f)
  apart_own revs fresh r s l l' k o e here (forked _ c does) rs there on f =
      gone revs s (ap revs f ∙ fresh r l here) there
  apart_own revs fresh r s l l' k o e here (met q lq does was ended) rs there on f =
      ended_apart M revs s q k lq there on was ended f

  -- a marked revision is written by nobody
  apart_marked : (revs : Revisions M) → IsFresh revs → (r s : Path) (l l' k : M.Local) (o : Path) (e : Entry M.Local)
      → revs r ≡ Some (Plain l) → Role M revs r l l' o e → revs s ≡ Some (Joined k) → o ≢ s
  apart_marked revs fresh r s l l' k o e here (itself _ does) there f = let clash = sym here ∙ ap revs f ∙ there in cc
  apart_marked revs fresh r s l l' k o e here (forked _ c does) there f =
      gone revs s (ap revs (sym f) ∙ fresh r l here) there
  apart_marked revs fresh r s l l' k o e here (met q lq does was ended) there f =
      let clash = sym was ∙ ap revs f ∙ there in cc

  -- two that write one more place between them are two joiners of one revision
  record Rivals (r s : Path) (l k : M.Local) (o : Path) (e f : Entry M.Local) : Type 0 where
    ended : M.Local
    first : M.next r l ≡ Joins o
    second : M.next s k ≡ Joins o
    marks_first : e ≡ Joined ended
    marks_second : f ≡ Joined ended

  rivals : (revs : Revisions M) → IsFresh revs → (r s : Path) (l l' k k' : M.Local) (o p : Path) (e f : Entry M.Local)
      → revs r ≡ Some (Plain l) → Role M revs r l l' o e → revs s ≡ Some (Plain k) → Role M revs s k k' p f → r ≢ s
      → o ≡ p → Rivals r s l k o e f
  rivals revs fresh r s l l' k k' o p e f here x there y rs z = by (place M x) (place M y)
    where
      by : Place M revs r l l' o e → Place M revs s k k' p f → Rivals r s l k o e f
      by (own _ a _) y' =
          absurd (apart_own revs fresh s r k k' l p f there y (λ v. rs (sym v)) here (going M x) (sym a ∙ z))
      by (new _ _ a _) (own _ b _) =
          absurd (apart_own revs fresh r s l l' k o e here x rs there (going M y) (sym b ∙ sym z))
      by (new _ _ a _) (new _ _ b _) = absurd (rs (child-same r s (M.forks l) (M.forks k) (sym a ∙ z ∙ b)).0)
      by (new _ _ a _) (marks lq doing was _ _ ee) = gone revs o (ap revs a ∙ fresh r l here) (ap revs z ∙ was)
      by (marks lq doing was _ _ ee) (own _ b _) =
          absurd (apart_own revs fresh r s l l' k o e here x rs there (going M y) (sym b ∙ sym z))
      by (marks lq does was _ _ ee) (new _ _ b _) = gone revs p (ap revs b ∙ fresh s k there) (ap revs (sym z) ∙ was)
      by (marks lq does was _ _ ee) (marks lt doing was' _ _ ff) =
          let ll : lt ≡ lq = plain_inj M (sym was' ∙ ap revs (sym z) ∙ was) in
          record {
            ended = lq;
            first = does;
            second = doing ∙ ap Joins (sym z);
            marks_first = ee;
            marks_second = ff ∙ ap Joined ll;
          }

  -- Twice by one of them first, which writes nothing
  after_marked : (revs : Revisions M) → IsFresh revs
      → (r s : Path) (l l' k : M.Local) (o : Path) (e : Entry M.Local) (q : Path) (lq : M.Local)
      → revs r ≡ Some (Plain l) → Role M revs r l l' o e → r ≢ s → revs s ≡ Some (Plain k) → M.next s k ≡ Joins q
      → revs q ≡ Some (Joined lq) → step M (Live (put_two revs r (Plain l') o e)) s ≡ Some Twice
  after_marked revs fresh r s l l' k o e q lq here x rs there does marked =
      let on : M.next s k ≢ Ended = λ v. let w : Joins q ≡ Ended = sym does ∙ v in cc in
      let s_o : o ≢ s = λ v. apart_own revs fresh r s l l' k o e here x rs there on (sym v) in
      let q_o : o ≢ q = apart_marked revs fresh r q l l' lq o e here x marked in
      let q_r : r ≢ q = λ v. let w = sym here ∙ ap revs v ∙ marked in cc in
      meets_marked M (put_two revs r (Plain l') o e) s k q lq does (two_other revs r o (Plain l') e s rs s_o ∙ there)
      (two_other revs r o (Plain l') e q q_r q_o ∙ marked)

  pub diamond_live : (revs : Revisions M) → IsFresh revs → (a b : Global M.Local) (r s : Path) → r ≢ s
      → step M (Live revs) r ≡ Some a → step M (Live revs) s ≡ Some b → Diamond M r s a b
  diamond_live revs fresh a b r s rs p q = by a b (way M revs r a p) (way M revs s b q)
    where
      both : (l l' k k' : M.Local) (o t : Path) (e f : Entry M.Local) → revs r ≡ Some (Plain l) → Role M revs r l l' o e
          → revs s ≡ Some (Plain k) → Role M revs s k k' t f → (o ≡ t) ⊎ (o ≢ t)
          → Diamond M r s (Live (put_two revs r (Plain l') o e)) (Live (put_two revs s (Plain k') t f))
      both l l' k k' o t e f here x there y (inl z) =
          let pair = rivals revs fresh r s l l' k k' o t e f here x there y rs z in
          let r_o : r ≢ o =
          λ v. apart_own revs fresh s r k k' l t f there y (λ v. rs (sym v)) here (going M x) (v ∙ z) in
          let s_o : s ≢ o = apart_own revs fresh r s l l' k o e here x rs there (going M y) in
          let one =
          meets_marked M (put_two revs r (Plain l') o e) s k o pair.ended pair.second
          (two_other revs r o (Plain l') e s rs (λ v. s_o (sym v)) ∙ there)
          (two_there revs r o (Plain l') e r_o ∙ ap Some pair.marks_first) in
          let two =
          meets_marked M (put_two revs s (Plain k') t f) r l o pair.ended pair.first
          (two_other revs s t (Plain k') f r (λ v. rs (sym v)) (λ v. r_o (sym v ∙ sym z)) ∙ here)
          (ap (put_two revs s (Plain k') t f) z ∙ two_there revs s t (Plain k') f (λ v. s_o (v ∙ sym z))
          ∙ ap Some pair.marks_second) in
          record { end = Twice; first = inl one; second = inl two }
      both l l' k k' o t e f here x there y (inr z) =
          let s_o : s ≢ o = apart_own revs fresh r s l l' k o e here x rs there (going M y) in
          let r_t : r ≢ t = apart_own revs fresh s r k k' l t f there y (λ v. rs (sym v)) here (going M x) in
          let one =
          again M revs (put_two revs r (Plain l') o e) s k k' t f y
          (two_other revs r o (Plain l') e s rs (λ v. s_o (sym v)) ∙ there) (two_other revs r o (Plain l') e t r_t z) in
          let two =
          again M revs (put_two revs s (Plain k') t f) r l l' o e x
          (two_other revs s t (Plain k') f r (λ v. rs (sym v)) (λ v. r_t (sym v)) ∙ here)
          (two_other revs s t (Plain k') f o s_o (λ v. z (sym v))) in
          record {
            end = _;
            first = inl one;
            second = inl
                (two ∙ ap (λ m. Some (Live m)) (sym (commute revs r o s t _ _ _ _ rs r_t (λ v. s_o (sym v)) z)));
          }

      by : (a b : Global M.Local) → Way M revs r a → Way M revs s b → Diamond M r s a b
      by a b (writes l l' o e here x) (writes k k' t f there y) =
          both l l' k k' o t e f here x there y (decide_same o t)
      by a b (writes l l' o e here x) (twice k q lq there does marked) =
          record {
            end = Twice;
            first = inl (after_marked revs fresh r s l l' k o e q lq here x rs there does marked);
            second = inr (refl, refl);
          }
      by a b (twice l q lq here does marked) (writes k k' t f there y) =
          record {
            end = Twice;
            first = inr (refl, refl);
            second = inl (after_marked revs fresh s r k k' l t f q lq there y (λ v. rs (sym v)) here does marked);
          }
      by a b (twice l q lq here does marked) (twice k t lt there doing marked') =
          record { end = Twice; first = inr (refl, refl); second = inr (refl, refl) }
