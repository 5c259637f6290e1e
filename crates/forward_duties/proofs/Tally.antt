-- The notes of the centre that forwards, beside what was sent and what was shown.
-- Assumes nothing.
use mathlib.Core.Path.{◌≡◌, refl, ap, ◌∙◌, subst}
use mathlib.Core.Bool.{Bool, true, false, ◌&&◌}
use mathlib.Core.List.{List, [], ◌∷◌, ◌++◌}
use Prim.Native.Nat.{ℕ, ◌≤◌}
use native.Mathlib.Omega.{arith}
use borrow.Author.Tests.{eqb-true}
use lib.Dec.{eqb}
use Rattle.pair.specs.Numbered.{NMachine}
use Rattle.pair.proofs.NumberedLines.{self}
use Rattle.duties.specs.Memory.{Decision, undecided, told_ended, told_broken, told_refused, note, Notes, is_decided, takes, declines, each, tells, one, count, says_ended, Took, jobs_of}
use Rattle.duties.specs.Host.{Host}
use Rattle.duties.proofs.Counting.{count_app, ended_app, ended_broken, ended_ended, in_no, in_no_app}
use Rattle.duties.proofs.Keeps.{is_taken, either_one, Book, broken_book, ended_book, taken_book, refused_book}
use Rattle.forward_duties.specs.Promise.{often}
use Rattle.forward_duties.proofs.Numbers.{All, all_map, all_snoc, often_first, often_mono, often_in, only_one, ended_fates}

module _ (m : NMachine) where
  -- the forward of number n is not shown and will not be: t is the record of the centre that gets it, z its host
  pub record Never (t : m.at.R) (z : Host m) (n : ℕ) : Type 0 where
    pub unseen : z.seen n ≡ 0
    pub past : n ≤ m.holds t
    pub unwaited : z.waiting ≡ true → m.holds t ≡ n → ⊥

  -- the other centre goes on
  pub record Later (t u : m.at.R) (z v : Host m) : Type 0 where
    pub grows : (n : ℕ) → z.seen n ≤ v.seen n
    pub never : (n : ℕ) → Never t z n → Never u v n

  -- v: the number that the record of this centre holds
  pub record Tally (v : ℕ) (n : Notes) (log : List Took) (done : ℕ → Bool) (t : m.at.R) (z : Host m) (dl : List ℕ) : Type 0 where
    pub book : Book n log done
    pub present : (j : ℕ) → 1 ≤ count j n.opened → 1 ≤ in_no v j log
    pub ended : (j : ℕ) → 1 ≤ says_ended j n.notices → count j dl ≡ 0 → 1 ≤ often z.seen j log
    pub told : (j : ℕ) → count j dl ≤ says_ended j n.notices
    pub declined : (j : ℕ) → 1 ≤ count j dl → All (λ (x : Took). eqb x.job j ≡ true → Never t z x.no) log

  pub tally_later : (v : ℕ) (n : Notes) (log : List Took) (done : ℕ → Bool) (t u : m.at.R) (z y : Host m) (dl : List ℕ)
      → Later t u z y → Tally v n log done t z dl → Tally v n log done u y dl
  tally_later v n log done t u z y dl a g =
      record {
        book = g.book;
        present = g.present;
        ended = λ (j : ℕ) (p : 1 ≤ says_ended j n.notices) (q : count j dl ≡ 0). omega
            (arith, g.ended j p q, often_mono z.seen y.seen j log a.grows);
        told = g.told;
        declined = λ (j : ℕ) (p : 1 ≤ count j dl).
            all_map (λ (x : Took). eqb x.job j ≡ true → Never t z x.no)
            (λ (x : Took). eqb x.job j ≡ true → Never u y x.no) (λ (x : Took)
            (f : eqb x.job j ≡ true → Never t z x.no) (e : eqb x.job j ≡ true). a.never x.no (f e))
            log (g.declined j p);
      }

  module _ (v : ℕ) (n : Notes) (log : List Took) (done : ℕ → Bool) (t : m.at.R) (z : Host m) (dl : List ℕ) (g : Tally v n log done t z dl) where
    -- the open job is told as broken
    pub tally_broken : (u : ℕ) → Tally u (tells told_broken n) log done t z dl
    tally_broken u =
        record {
          book = broken_book n log done g.book;
          present = λ (j : ℕ) (p : 1 ≤ 0). absurd (omega (arith, p));
          ended = λ (j : ℕ) (p : 1 ≤ says_ended j (n.notices ++ each told_broken n.opened)) (q : count j dl ≡ 0).
              g.ended j
              (omega (arith, p, ended_app j n.notices (each told_broken n.opened), ended_broken j n.opened)) q;
          told = λ (j : ℕ). omega (arith, g.told j, ended_app j n.notices (each told_broken n.opened));
          declined = g.declined;
        }

    refused_none : (j i : ℕ) → says_ended i (n.notices ++ (note j told_refused ∷ [])) ≡ says_ended i n.notices
    refused_none j i = omega (arith, ended_app i n.notices (note j told_refused ∷ []), ap one (never (eqb j i)))
      where
        never : (b : Bool) → (b && false) ≡ false
        never true = refl
        never false = refl

    pub tally_refused : (j : ℕ) → n.decision j ≡ undecided → Tally v (declines j n) log done t z dl
    tally_refused j u =
        record {
          book = refused_book n log done j u g.book;
          present = g.present;
          ended = λ (i : ℕ) (p : 1 ≤ says_ended i (n.notices ++ (note j told_refused ∷ []))) (q : count i dl ≡ 0).
              g.ended i (omega (arith, p, refused_none j i)) q;
          told = λ (i : ℕ). omega (arith, g.told i, refused_none j i);
          declined = g.declined;
        }

    -- a job that was told of is decided
    told_decided : (i j : ℕ) → n.decision j ≡ undecided → 1 ≤ count i dl → eqb j i ≡ true → ⊥
    told_decided i j u p e =
        let d : n.decision i ≡ undecided = subst (λ (x : ℕ). n.decision x ≡ undecided) (eqb-true j i e) u in
        let f = ended_fates i n.notices in
        omega (arith, p, g.told i, f, g.book.ledger i, ap (λ (x : Decision). one (is_decided x)) d)

    -- a job is taken, with the number u
    pub tally_taken : (j u : ℕ) → n.decision j ≡ undecided → n.opened ≡ [] → Tally u (takes j n) (log ++ (record { job = j; no = u; body = [] } ∷ [])) done t z dl
    tally_taken j u d e =
        record {
          book = taken_book n log done j d g.book u [];
          present = λ (i : ℕ) (p : 1 ≤ count i (n.opened ++ (j ∷ []))). present i
              (subst (λ (l : List ℕ). 1 ≤ count i (l ++ (j ∷ []))) e p);
          ended = λ (i : ℕ) (p : 1 ≤ says_ended i n.notices) (q : count i dl ≡ 0). omega (arith, g.ended i p q, often_first z.seen i log (record { job = j; no = u; body = [] } ∷ []));
          told = g.told;
          declined = λ (i : ℕ) (p : 1 ≤ count i dl). all_snoc (λ (x : Took). eqb x.job i ≡ true → Never t z x.no) log (record { job = j; no = u; body = [] }) (g.declined i p) (λ (q : eqb j i ≡ true). absurd (told_decided i j d p q));
        }
      where
        present : (i : ℕ) → 1 ≤ count i (j ∷ []) → 1 ≤ in_no u i (log ++ (record { job = j; no = u; body = [] } ∷ []))
        present i p =
            let o = in_no_app u i log (record { job = j; no = u; body = [] } ∷ []) in
            let q : one (eqb j i && eqb u u) ≡ one (eqb j i) = ap (λ (b : Bool). one (eqb j i && b)) (self u) ∙ ap one (right (eqb j i)) in
            omega (arith, o, p, q)
          where
            right : (b : Bool) → (b && true) ≡ b
            right true = refl
            right false = refl

    -- its forward was answered: success
    pub tally_success : (u : ℕ) → 1 ≤ z.seen v → Tally u (tells told_ended n) log done t z dl
    tally_success u s =
        record {
          book = ended_book n log done g.book;
          present = λ (j : ℕ) (p : 1 ≤ 0). absurd (omega (arith, p));
          ended = λ (j : ℕ) (p : 1 ≤ says_ended j (n.notices ++ each told_ended n.opened)) (q : count j dl ≡ 0).
              either_one (says_ended j n.notices) (count j n.opened) (1 ≤ often z.seen j log)
              (λ (x : 1 ≤ says_ended j n.notices). g.ended j x q)
              (λ (x : 1 ≤ count j n.opened). often_in z.seen v j log s (g.present j x))
              (omega (arith, p, ended_app j n.notices (each told_ended n.opened), ended_ended j n.opened));
          told = λ (j : ℕ). omega (arith, g.told j, ended_app j n.notices (each told_ended n.opened));
          declined = g.declined;
        }

    -- another result
    pub tally_another : (u : ℕ) → Never t z v → Tally u (tells told_ended n) log done t z (dl ++ n.opened)
    tally_another u s =
        record {
          book = ended_book n log done g.book;
          present = λ (j : ℕ) (p : 1 ≤ 0). absurd (omega (arith, p));
          ended = λ (j : ℕ) (p : 1 ≤ says_ended j (n.notices ++ each told_ended n.opened)) (q : count j (dl ++ n.opened) ≡ 0).
              let a = count_app j dl n.opened in
              g.ended j (omega (
                arith,
                p,
                q,
                a,
                ended_app j n.notices (each told_ended n.opened),
                ended_ended j
                    n.opened,
              )) (omega (arith, q, a));
          told = λ (j : ℕ). omega (
            arith,
            g.told j,
            count_app j dl n.opened,
            ended_app j n.notices
                (each told_ended n.opened),
            ended_ended j n.opened,
          );
          declined = λ (j : ℕ) (p : 1 ≤ count j (dl ++ n.opened)).
              either_one (count j dl) (count j n.opened)
              (All (λ (x : Took). eqb x.job j ≡ true → Never t z x.no) log) (g.declined j)
              (λ (x : 1 ≤ count j n.opened). only_one j v log (Never t z) (once j) (g.present j x) s)
              (omega (arith, p, count_app j dl n.opened));
        }
      where
        most : (b : Bool) → one b ≤ 1
        most true = omega arith
        most false = omega arith

        once : (j : ℕ) → count j (jobs_of log) ≤ 1
        once j = omega (arith, g.book.logged j, most (is_taken (n.decision j)))
