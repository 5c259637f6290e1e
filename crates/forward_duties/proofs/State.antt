-- What holds of two centres and their hosts after every move.
-- Assumes nothing.
use mathlib.Core.Path.{◌≡◌, refl, ap, sym, ◌∙◌, subst}
use mathlib.Core.Bool.{Bool, true, false, cond}
use mathlib.Core.List.{List, [], ◌∷◌, ◌++◌}
use Prim.Native.Nat.{ℕ, ◌≤◌}
use native.Mathlib.Omega.{arith}
use lib.Dec.{T}
use Rattle.pair.specs.Carrier.{is_start}
use Rattle.pair.specs.Claims.{rising}
use Rattle.pair.specs.Numbered.{NMachine, NSys}
use Rattle.pair.proofs.TwoCentres.{Centre}
use Rattle.duties.specs.Memory.{count, Took}
use Rattle.duties.specs.Host.{up, Host, Hosts}
use Rattle.forward_duties.specs.Desks.{Words}
use Rattle.forward_duties.specs.Promise.{numbers}
use Rattle.forward_duties.proofs.Laws.{Truth}
use Rattle.forward_duties.proofs.Numbers.{All, all_map, Left, left_map, count_first, numbers_snoc}
use Rattle.forward_duties.proofs.Tally.{Never, Later, Tally, tally_later}

module _ (m : NMachine) (c : Centre m) (w : Words m) (k : Truth m c w) where
  -- ---- the centre that gets forwards: its record t, its line, its host z; log is what was sent to it

  -- an answer that says success: its forward was shown, or is the one that the user waits for
  pub data Soon (t : m.at.R) (z : Host m) (f : m.at.E) : Type 0 where
    shown_it : 1 ≤ z.seen (m.carries f) → Soon t z f
    awaits_it : z.waiting ≡ true → m.carries f ≡ m.holds t → Soon t z f

  abbrev pub In : m.at.R → Host m → m.at.E → Type 0
  In t z f = c.Good f × ((is_start m.at f ≡ false) × (k.says f ≡ false → Never m t z (m.carries f)))

  abbrev pub SoonIf : m.at.R → Host m → m.at.E → Type 0
  SoonIf t z f = k.says f ≡ true → Soon t z f

  abbrev pub ShownIf : Host m → m.at.E → Type 0
  ShownIf z f = k.says f ≡ true → 1 ≤ z.seen (m.carries f)

  pub record Far (log : List Took) (t : m.at.R) (y : List m.at.E) (z : Host m) : Type 0 where
    pub kept : z.kept_rec ≡ t
    pub most : (n : ℕ) → z.seen n ≤ 1
    pub past : (n : ℕ) → 1 ≤ z.seen n → n ≤ m.holds t
    pub ordered : (n : ℕ) → 1 ≤ z.seen n → 1 ≤ count n (numbers log)
    pub unseen : z.waiting ≡ true → z.seen (m.holds t) ≡ 0
    pub awaited : z.waiting ≡ true → 1 ≤ count (m.holds t) (numbers log)
    pub back : All (In t z) y
    pub soon : z.power ≡ up → All (SoonIf t z) y
    -- what has left was shown (duty 14)
    pub left : Left (ShownIf z) z.unsent y

  -- ---- the centre that forwards: its record h, its line x, its host a

  -- the starts on its line were sent by a job, and none has a number above the one that it holds
  abbrev pub Out : m.at.R → List Took → m.at.E → Type 0
  Out h log e = is_start m.at e ≡ true → c.Good e × ((m.carries e ≤ m.holds h) × (1 ≤ count (m.carries e) (numbers log)))

  pub record Ways (h t : m.at.R) (x : List m.at.E) (log : List Took) : Type 0 where
    pub below : m.holds t ≤ m.holds h
    pub rise : T (rising 0 (numbers log))
    pub least : All (λ (n : ℕ). n ≤ m.holds h) (numbers log)
    pub out : All (Out h log) x

  pub record Near (h t : m.at.R) (a z : Host m) (dl : List ℕ) : Type 0 where
    pub rec_kept : a.kept_rec ≡ h
    pub notes_kept : a.kept ≡ a.notes
    pub tally : Tally m (m.holds h) a.notes a.log a.done t z dl
    pub none_open : c.Rest h → a.notes.opened ≡ []

  pub data Who (h : m.at.R) : Type 0 where
    rests : c.Rest h → Who h
    gone : c.Away h → Who h

  -- of the ends e, with the hosts a and z
  pub record Holds (e : NSys m) (a z : Host m) (dl : List ℕ) : Type 0 where
    pub ways : Ways e.here.rec e.there.rec e.here.line a.log
    pub near : Near e.here.rec e.there.rec a z dl
    pub far : Far a.log e.there.rec e.there.line z
    pub rest : c.Rest e.there.rec
    pub who : Who e.here.rec

  abbrev pub HoldsOf : Hosts m → List ℕ → Type 0
  HoldsOf s dl = Holds s.ends s.here s.there dl

  pub either : (b : Bool) (s t : Hosts m) (dl : List ℕ) → (b ≡ true → HoldsOf s dl) → (b ≡ false → HoldsOf t dl) → HoldsOf (cond b s t) dl
  either true s t dl f g = f refl
  either false s t dl f g = g refl

  -- ---- the other centre goes on and this one does not

  pub near_later : (h t u : m.at.R) (a z v : Host m) (dl : List ℕ) → Later m t u z v → Near h t a z dl → Near h u a v dl
  near_later h t u a z v dl l g = record { rec_kept = g.rec_kept; notes_kept = g.notes_kept; tally = tally_later m (m.holds h) a.notes a.log a.done t u z v dl l g.tally; none_open = g.none_open }

  -- its host z becomes v and its record u: nothing was shown, and no answer left
  pub record Still (t u : m.at.R) (z v : Host m) : Type 0 where
    pub kept : v.kept_rec ≡ u
    pub holds : m.holds u ≡ m.holds t
    pub seen : (n : ℕ) → v.seen n ≡ z.seen n
    pub waits : v.waiting ≡ true → z.waiting ≡ true
    pub is_up : v.power ≡ up → (z.power ≡ up) × (z.waiting ≡ true → v.waiting ≡ true)
    pub unsent : z.unsent ≤ v.unsent

  still_never : (t u : m.at.R) (z v : Host m) → Still t u z v → (n : ℕ) → Never m t z n → Never m u v n
  still_never t u z v s n g =
      record {
        unseen = s.seen n ∙ g.unseen;
        past = omega (arith, g.past, s.holds);
        unwaited = λ (p : v.waiting ≡ true) (q : m.holds u ≡ n). g.unwaited (s.waits p) (sym s.holds ∙ q);
      }

  pub still_later : (t u : m.at.R) (z v : Host m) → Still t u z v → Later m t u z v
  still_later t u z v s = record { grows = λ (n : ℕ). omega (arith, s.seen n); never = still_never t u z v s }

  still_soon : (t u : m.at.R) (z v : Host m) → Still t u z v → v.power ≡ up → (f : m.at.E) → SoonIf t z f → SoonIf u v f
  still_soon t u z v s p f g e = go (g e)
    where
      go : Soon t z f → Soon u v f
      go (shown_it q) = shown_it (omega (arith, q, s.seen (m.carries f)))
      go (awaits_it q r) = awaits_it ((s.is_up p).1 q) (r ∙ sym s.holds)

  pub still_far : (log : List Took) (t u : m.at.R) (y : List m.at.E) (z v : Host m) → Still t u z v → Far log t y z → Far log u y v
  still_far log t u y z v s g =
      record {
        kept = s.kept;
        most = λ (n : ℕ). omega (arith, g.most n, s.seen n);
        past = λ (n : ℕ) (p : 1 ≤ v.seen n). omega (arith, g.past n (omega (arith, p, s.seen n)), s.holds);
        ordered = λ (n : ℕ) (p : 1 ≤ v.seen n). g.ordered n (omega (arith, p, s.seen n));
        unseen = λ (p : v.waiting ≡ true). ap v.seen s.holds ∙ (s.seen (m.holds t) ∙ g.unseen (s.waits p));
        awaited = λ (p : v.waiting ≡ true). subst (λ (n : ℕ). 1 ≤ count n (numbers log)) (sym s.holds) (g.awaited (s.waits p));
        back = all_map (In t z) (In u v) (λ (f : m.at.E) (q : In t z f).
            (q.0, (q.1.0, λ (e : k.says f ≡ false). still_never t u z v s (m.carries f) (q.1.1 e)))) y
            g.back;
        soon = λ (p : v.power ≡ up). all_map (SoonIf t z) (SoonIf u v) (still_soon t u z v s p) y (g.soon (s.is_up p).0);
        left = left_map (ShownIf z) (ShownIf v) z.unsent v.unsent s.unsent
            (λ (f : m.at.E) (q : ShownIf z f) (e : k.says f ≡ true). omega (arith, q e, s.seen (m.carries f))) y
            g.left;
      }

  -- with one more sent
  pub far_log : (log : List Took) (x : Took) (t : m.at.R) (y : List m.at.E) (z : Host m) → Far log t y z → Far (log ++ (x ∷ [])) t y z
  far_log log x t y z g =
      record {
        kept = g.kept;
        most = g.most;
        past = g.past;
        ordered = λ (n : ℕ) (p : 1 ≤ z.seen n). more n (g.ordered n p);
        unseen = g.unseen;
        awaited = λ (p : z.waiting ≡ true). more (m.holds t) (g.awaited p);
        back = g.back;
        soon = g.soon;
        left = g.left;
      }
    where
      more : (n : ℕ) → 1 ≤ count n (numbers log) → 1 ≤ count n (numbers (log ++ (x ∷ [])))
      more n p = subst (λ (l : List ℕ). 1 ≤ count n l) (sym (numbers_snoc log x))
          (omega (arith, p, count_first n (numbers log) (x.no ∷ [])))
