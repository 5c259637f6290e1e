-- The moves of the centre that gets forwards: its events, what its user is shown, the carrier.
-- Assumes nothing.
use mathlib.Core.Path.{◌≡◌, refl, ap, sym, ◌∙◌, subst}
use mathlib.Core.Bool.{Bool, true, false, not, cond, ◌&&◌, ◌||◌}
use mathlib.Core.List.{List, [], ◌∷◌, ◌++◌}
use Prim.Native.Nat.{ℕ, zero, suc, ◌+◌, ◌≤◌, ◌<◌}
use native.Mathlib.Omega.{arith}
use borrow.Author.Tests.{eqb-true, ltb-true, ltb-false}
use lib.Dec.{eqb, ltb}
use Rattle.pair.specs.Names.{Side, Ground, is_idle}
use Rattle.pair.specs.Carrier.{Body, nothing, puts, message, Outcome, refused, acts, Sort, begins, breaks, plain, begins?, Step, user_call, hand_over, timer_expires_of, error_reported, turn_away, fail, idle, is_start, discards}
use Rattle.pair.specs.Numbered.{NMachine, NSys, n_swap, n_put, n_left, n_did, n_called, n_off, n_handed_over, n_has_start, n_recalled, n_emptied, n_told_lost}
use Rattle.pair.proofs.NumberedLines.{self}
use Rattle.pair.proofs.TwoCentres.{Starts, Quiet, Answers, Refuses, Replied, Centre}
use Rattle.duties.specs.Memory.{Notes, one, count}
use Rattle.duties.specs.Memory.{up as oneMore}
use Rattle.duties.specs.Host.{Power, up, apart, down, right, Host, Hosts, less, released, with_rec, lost, told_of, rejoins}
use Rattle.forward_duties.specs.Desks.{Words, letter, accepts, is_done, heard_forward, forwards, may_happen, afterwards, happened, showing, releasing, cut_off_of, carrier_failed, swapped}
use Rattle.forward_duties.specs.Promise.{numbers}
use Rattle.forward_duties.proofs.Laws.{Truth}
use Rattle.forward_duties.proofs.Numbers.{clash, All, all_map, all_snoc, left_all, left_map, left_snoc}
use Rattle.forward_duties.proofs.Tally.{Never, Later}
use Rattle.forward_duties.proofs.State.{Soon, shown_it, awaits_it, In, SoonIf, ShownIf, Far, Out, Ways, Near, Who, Holds, HoldsOf, near_later, Still, still_later, still_far}
use Rattle.forward_duties.proofs.Forwarding.{keeps, failed, untold}

abbrev upward : Power → Bool
upward up = true
upward apart = false
upward down = false

module _ (m : NMachine) (c : Centre m) (w : Words m) (k : Truth m c w) (order : m.at.R → ℕ → m.at.A) (fresh : Side → m.at.R) where
  abbrev L : Side → ℕ → m.at.A
  L = letter m w right order fresh

  abbrev A : m.at.E → Bool
  A = accepts m w right order fresh

  -- the host of this centre keeps an event
  abbrev keeps_here : m.at.R → Notes → ℕ → Bool → Host m → Host m
  keeps_here r n more out x = keeps m c w k order fresh r n more out x

  -- this centre goes on, from e to t, and the other one does not
  there_holds : (e t : NSys m) (a z v : Host m) (dl : List ℕ) → Holds m c w k e a z dl → t.here.rec ≡ e.here.rec
      → Ways m c w k t.here.rec t.there.rec t.here.line a.log
      → Later m e.there.rec t.there.rec z v → Far m c w k a.log t.there.rec t.there.line v
      → c.Rest t.there.rec → Holds m c w k t a v dl
  there_holds e t a z v dl g p x l f r =
      record {
        ways = x;
        near = subst (λ (y : m.at.R). Near m c w k y t.there.rec a v dl) (sym p)
            (near_later m c w k e.here.rec e.there.rec t.there.rec a z v dl l g.near);
        far = f;
        rest = r;
        who = subst (Who m c w k) (sym p) g.who;
      }

  -- nothing was shown, and no answer was added
  still_holds : (e t : NSys m) (a z v : Host m) (dl : List ℕ) → Holds m c w k e a z dl → t.here.rec ≡ e.here.rec
      → All (Out m c w k t.here.rec a.log) t.here.line → t.there.line ≡ e.there.line
      → Still m c w k e.there.rec t.there.rec z v → c.Rest t.there.rec → Holds m c w k t a v dl
  still_holds e t a z v dl g p o l s r =
      there_holds e t a z v dl g p
      (record { below = subst (λ (y : m.at.R). m.holds t.there.rec ≤ m.holds y) (sym p) (omega (arith, g.ways.below, s.holds)); rise = g.ways.rise; least = subst (λ (y : m.at.R). All (λ (n : ℕ). n ≤ m.holds y) (numbers a.log)) (sym p) g.ways.least; out = o })
      (still_later m c w k e.there.rec t.there.rec z v s)
      (subst (λ (y : List m.at.E). Far m c w k a.log t.there.rec y v) (sym l)
      (still_far m c w k a.log e.there.rec t.there.rec e.there.line z v s g.far)) r

  -- an event that hands nothing out, at a record that rests before and after
  module _ (e : NSys m) (a z : Host m) (dl : List ℕ) (n : Notes) (g : Holds m c w k e a z dl) where
    kept_still : (q : m.at.R) → m.holds q ≡ m.holds e.there.rec
        → Still m c w k e.there.rec q z (keeps_here q n (suc z.unsent) false z)
    kept_still q h = record { kept = refl; holds = h; seen = λ (i : ℕ). refl; waits = λ (p : z.waiting ≡ true). p; is_up = λ (p : z.power ≡ up). (p, λ (y : z.waiting ≡ true). y); unsent = omega arith }

    unmoved : Holds m c w k e a (keeps_here e.there.rec n (suc z.unsent) false z) dl
    unmoved = still_holds e e a z (keeps_here e.there.rec n (suc z.unsent) false z) dl g refl g.ways.out refl
        (kept_still e.there.rec refl) g.rest

    quiet_there : (o : Outcome m.at.R m.at.E) (keep : ℕ) → Quiet m c.Rest e.there.rec o
        → Holds m c w k (n_swap m (n_did m (n_swap m e) o keep)) a (keeps_here (n_did m (n_swap m e) o keep).here.rec n (suc z.unsent) false z) dl
    quiet_there refused keep b = record { ways = unmoved.ways; near = unmoved.near; far = unmoved.far; rest = unmoved.rest; who = unmoved.who }
    quiet_there (acts q l nothing) keep b = still_holds e (n_swap m (n_did m (n_swap m e) (acts q l nothing) keep)) a z
        (keeps_here q n (suc z.unsent) false z) dl g refl g.ways.out refl (kept_still q b.holds) b.rest
    quiet_there (acts q l (puts f)) keep b = absurd b
    quiet_there (acts q l (message f x i)) keep b = absurd b

    -- it starts nothing
    call_there : (o : Outcome m.at.R m.at.E) (keep : ℕ) → not (forwards m w right order fresh o) ≡ true
        → Starts m c.Away c.Good e.there.rec o
        → Holds m c w k (n_swap m (n_called m false (n_swap m e) o keep)) a (keeps_here (n_called m false (n_swap m e) o keep).here.rec n (suc z.unsent) false z) dl
    call_there refused keep h b = record { ways = unmoved.ways; near = unmoved.near; far = unmoved.far; rest = unmoved.rest; who = unmoved.who }
    call_there (acts q l nothing) keep h b = absurd b
    call_there (acts q l (message f x i)) keep h b = absurd b
    call_there (acts q l (puts f)) keep h b = clash (sym h ∙ ap not b.start)

    -- the oldest entry that comes to it is gone, and nothing else
    gone_by : (f : m.at.E) (l : List m.at.E) → e.here.line ≡ f ∷ l
        → Holds m c w k (n_swap m (n_off m (n_swap m e) l)) a (keeps_here e.there.rec n (suc z.unsent) false z) dl
    gone_by f l p = still_holds e (n_swap m (n_off m (n_swap m e) l)) a z
        (keeps_here e.there.rec n (suc z.unsent) false z) dl g refl
        (subst (All (Out m c w k e.here.rec a.log)) p g.ways.out).1 refl (kept_still e.there.rec refl)
        g.rest

  -- ---- a forward is answered, in the event that tells the user of it

  module _ (e : NSys m) (a z : Host m) (dl : List ℕ) (n : Notes) (keep : ℕ) (f : m.at.E) (l : List m.at.E) (g : Holds m c w k e a z dl) (p : e.here.line ≡ f ∷ l) (ready_for : z.waiting ≡ false) (st : is_start m.at f ≡ true) where
    out_is : c.Good f × ((m.carries f ≤ m.holds e.here.rec) × (1 ≤ count (m.carries f) (numbers a.log)))
    out_is = (subst (All (Out m c w k e.here.rec a.log)) p g.ways.out).0 st

    module _ (above : m.holds e.there.rec < m.carries f) (q : m.at.R) (i : List Body) (y : m.at.E) (o : m.at.receive Ground e.there.rec f ≡ acts q i (puts y)) (b : Replied m c.Rest c.Good q f y) where
      abbrev v : Host m
      v = keeps_here q n (suc z.unsent) (w.indicates e.there.rec f) z

      higher : m.holds e.there.rec < m.holds q
      higher = omega (arith, above, b.holds)

      -- a number above the record's was not shown
      unshown : (j : ℕ) → m.holds e.there.rec < j → z.seen j ≡ 0
      unshown j h = go (z.seen j) refl
        where
          go : (s : ℕ) → z.seen j ≡ s → s ≡ 0
          go zero r = refl
          go (suc s) r = absurd (omega (arith, h, g.far.past j (omega (arith, r))))

      later : Later m e.there.rec q z v
      later = record { grows = λ (j : ℕ). omega arith; never = λ (j : ℕ) (x : Never m e.there.rec z j). record { unseen = x.unseen; past = omega (arith, x.past, higher); unwaited = λ (r : (w.indicates e.there.rec f || z.waiting) ≡ true) (s : m.holds q ≡ j). omega (arith, x.past, higher, s) } }

      told : k.says y ≡ w.indicates e.there.rec f
      told = k.answer_says e.there.rec q f y i g.rest out_is.0 st above o

      waits_so : v.waiting ≡ w.indicates e.there.rec f
      waits_so = go (w.indicates e.there.rec f) z.waiting ready_for
        where
          go : (s t : Bool) → t ≡ false → (s || t) ≡ s
          go true t r = refl
          go false true r = clash r
          go false false r = refl

      number : m.carries y ≡ m.holds q
      number = b.number ∙ sym b.holds

      new_in : In m c w k q v y
      new_in = (b.good, (ap begins? b.plain, λ (r : k.says y ≡ false). record { unseen = unshown (m.carries y) (omega (arith, above, b.number)); past = omega (arith, number); unwaited = λ (s : v.waiting ≡ true) (t : m.holds q ≡ m.carries y). clash (sym s ∙ (waits_so ∙ (sym told ∙ r))) }))

      old_soon : (x : m.at.E) → SoonIf m c w k e.there.rec z x → SoonIf m c w k q v x
      old_soon x h r = go (h r)
        where
          go : Soon m c w k e.there.rec z x → Soon m c w k q v x
          go (shown_it s) = shown_it s
          go (awaits_it s t) = clash (sym s ∙ ready_for)

      far : Far m c w k a.log q (e.there.line ++ (y ∷ [])) v
      far =
          record {
            kept = refl;
            most = g.far.most;
            past = λ (j : ℕ) (r : 1 ≤ z.seen j). omega (arith, g.far.past j r, higher);
            ordered = g.far.ordered;
            unseen = λ (r : v.waiting ≡ true). unshown (m.holds q) higher;
            awaited = λ (r : v.waiting ≡ true). subst (λ (j : ℕ). 1 ≤ count j (numbers a.log)) (sym b.holds) out_is.1.1;
            back = all_snoc (In m c w k q v) e.there.line y (all_map (In m c w k e.there.rec z) (In m c w k q v) (
                λ (x : m.at.E) (h : In m c w k e.there.rec z x).
                (h.0, (h.1.0, λ (r : k.says x ≡ false). later.never (m.carries x) (h.1.1 r))))
                e.there.line g.far.back) new_in;
            soon = λ (r : z.power ≡ up). all_snoc (SoonIf m c w k q v) e.there.line y (all_map
                (SoonIf m c w k e.there.rec z) (SoonIf m c w k q v) old_soon e.there.line (g.far.soon r))
                (λ (s : k.says y ≡ true). awaits_it (waits_so ∙ (sym told ∙ s)) number);
            left = left_snoc (ShownIf m c w k v) z.unsent e.there.line y g.far.left;
          }

      replied : (so : Sort) → m.at.sort y ≡ so → Holds m c w k (n_swap m (n_left m (n_put m so (n_off m (n_swap m e) l) y keep) q i)) a v dl
      replied begins r = clash (ap begins? (sym r ∙ b.plain))
      replied breaks r = clash (ap is_break (sym r ∙ b.plain))
        where
          is_break : Sort → Bool
          is_break begins = false
          is_break breaks = true
          is_break plain = false
      replied plain r =
          there_holds e (n_swap m (n_left m (n_put m plain (n_off m (n_swap m e) l) y keep) q i)) a z v dl g refl
          (record { below = omega (arith, out_is.1.0, b.holds); rise = g.ways.rise; least = g.ways.least; out = (subst (All (Out m c w k e.here.rec a.log)) p g.ways.out).1 }) later far b.rest

    -- ---- any outcome of it

    abbrev After : Outcome m.at.R m.at.E → Type 0
    After o =
        let t = n_did m (n_off m (n_swap m e) l) o keep in
        Holds m c w k (n_swap m t) a (keeps_here t.here.rec n (suc z.unsent)
        (is_done m w right order fresh o && w.indicates e.there.rec f) z) dl

    answers : (o : Outcome m.at.R m.at.E) → m.at.receive Ground e.there.rec f ≡ o
        → m.holds e.there.rec < m.carries f → Answers m c.Rest c.Good f o → After o
    answers refused r h b = absurd b
    answers (acts q i nothing) r h b = absurd b
    answers (acts q i (message y x j)) r h b = absurd b
    answers (acts q i (puts y)) r h b = replied h q i y r b (m.at.sort y) refl

    refuses : (o : Outcome m.at.R m.at.E) → Refuses m o → After o
    refuses refused b = gone_by e a z dl n g f l p
    refuses (acts q i x) b = absurd b

    start_there : After (m.at.receive Ground e.there.rec f)
    start_there = go (ltb (m.holds e.there.rec) (m.carries f)) refl
      where
        go : (b : Bool) → ltb (m.holds e.there.rec) (m.carries f) ≡ b → After (m.at.receive Ground e.there.rec f)
        go true r = answers (m.at.receive Ground e.there.rec f) refl (ltb-true _ _ r)
            (c.start_answered e.there.rec f g.rest out_is.0 st (ltb-true _ _ r))
        go false r = refuses (m.at.receive Ground e.there.rec f)
            (c.start_stale e.there.rec f g.rest out_is.0 st (ltb-false _ _ r))

  handed_there : (e : NSys m) (a z : Host m) (dl : List ℕ) (n : m.at.R → Notes) (keep : ℕ) (x : List m.at.E)
      → e.here.line ≡ x → z.waiting ≡ false → Holds m c w k e a z dl
      → Holds m c w k (n_swap m (n_handed_over m Ground (n_swap m e) x keep)) a (keeps_here (n_handed_over m Ground (n_swap m e) x keep).here.rec (n (n_handed_over m Ground (n_swap m e) x keep).here.rec) (suc z.unsent) (heard_forward m w right order fresh e.there.rec x) z) dl
  handed_there e a z dl n keep [] p r g = let u = unmoved e a z dl (n e.there.rec) g in record { ways = u.ways; near = u.near; far = u.far; rest = u.rest; who = u.who }
  handed_there e a z dl n keep (f ∷ l) p r g = go (is_start m.at f) refl
    where
      idle_there : is_idle (m.at.ctl e.there.rec) ≡ true
      idle_there = c.rest_idle e.there.rec g.rest

      Handed : Bool → Type 0
      Handed b =
          let t = cond b (n_off m (n_swap m e) l) (n_did m (n_off m (n_swap m e) l) (m.at.receive Ground e.there.rec f) keep) in
          Holds m c w k (n_swap m t) a (keeps_here t.here.rec (n t.here.rec) (suc z.unsent) (not b && (is_done m
          w right order fresh (m.at.receive Ground e.there.rec f) && w.indicates e.there.rec
          f)) z) dl

      go : (t : Bool) → is_start m.at f ≡ t → Handed (discards m.at e.there.rec f)
      go true t =
          subst Handed (sym (ap (λ (b : Bool). idle m.at e.there.rec && not b) t ∙ none (idle m.at e.there.rec)))
          (start_there e a z dl
          (n (n_did m (n_off m (n_swap m e) l) (m.at.receive Ground e.there.rec f) keep).here.rec) keep f l
          g p r t)
        where
          none : (b : Bool) → (b && false) ≡ false
          none true = refl
          none false = refl
      go false t = subst Handed (sym (ap (λ (b : Bool). b && not (is_start m.at f)) idle_there ∙ ap not t))
          (gone_by e a z dl (n e.there.rec) g f l p)

  -- ---- its events

  pub got_holds : (s : Hosts m) (dl : List ℕ) (v : Step m.at.A) → s.there.waiting ≡ false
      → may_happen m w right order fresh (swapped m w right order fresh s) v ≡ true → HoldsOf m c w k s dl
      → HoldsOf m c w k (swapped m w right order fresh (happened m w right order fresh false (swapped m w right order fresh s) v)) dl
  got_holds s dl (user_call x keep) r b g = call_there s.ends s.here s.there dl (afterwards m w right order
      fresh s.ends.there.rec
      (n_called m false (n_swap m s.ends) (m.at.call Ground s.ends.there.rec x) keep).here.rec
      s.there.notes) g (m.at.call Ground s.ends.there.rec x) keep b
      (c.call_rest s.ends.there.rec x g.rest)
  got_holds s dl (hand_over keep) r b g = handed_there s.ends s.here s.there dl
      (λ (q : m.at.R). afterwards m w right order fresh s.ends.there.rec q s.there.notes) keep
      s.ends.here.line refl r g
  got_holds s dl (timer_expires_of keep) r b g = quiet_there s.ends s.here s.there dl (afterwards m w right order
      fresh s.ends.there.rec
      (n_did m (n_swap m s.ends) (m.at.expiry Ground s.ends.there.rec) keep).here.rec s.there.notes) g
      (m.at.expiry Ground s.ends.there.rec) keep (c.expiry_rest s.ends.there.rec g.rest)
  got_holds s dl (error_reported keep) r b g = quiet_there s.ends s.here s.there dl (afterwards m w right order
      fresh s.ends.there.rec
      (n_did m (n_swap m s.ends) (m.at.error Ground s.ends.there.rec) keep).here.rec s.there.notes) g
      (m.at.error Ground s.ends.there.rec) keep (c.error_rest s.ends.there.rec g.rest)
  got_holds s dl (turn_away keep) r b g =
      subst (λ (d : Bool). Turned (cond d
      (n_did m (n_recalled m (n_swap m s.ends)) (m.at.away Ground s.ends.there.rec) keep)
      (n_swap m s.ends))) (sym (ap
      (λ (d : Bool). d && n_has_start m (m.holds s.ends.there.rec) s.ends.there.line)
      (c.rest_waits s.ends.there.rec g.rest)))
      (let u = unmoved s.ends s.here s.there dl (afterwards m w right order fresh s.ends.there.rec s.ends.there.rec s.there.notes) g in record { ways = u.ways; near = u.near; far = u.far; rest = u.rest; who = u.who })
    where
      Turned : NSys m → Type 0
      Turned t = Holds m c w k (n_swap m t) s.here (keeps_here t.here.rec
          (afterwards m w right order fresh s.ends.there.rec t.here.rec s.there.notes)
          (suc s.there.unsent) false s.there) dl
  got_holds s dl fail r b g = clash (sym b)

  -- ---- its user is shown the forward that was handed out

  pub shown_holds : (s : Hosts m) (dl : List ℕ) → HoldsOf m c w k s dl
      → HoldsOf m c w k (swapped m w right order fresh (showing m w right order fresh (swapped m w right order fresh s))) dl
  shown_holds s dl g = go s.there.waiting refl
    where
      by : Bool → Host m
      by b = record { notes = s.there.notes; kept = s.there.kept; kept_rec = s.there.kept_rec; unsent = s.there.unsent; power = s.there.power; done = s.there.done; log = s.there.log; waiting = false; seen = cond b (oneMore s.there.seen (m.holds s.ends.there.rec)) s.there.seen }

      grows : (n : ℕ) → s.there.seen n ≤ one (eqb (m.holds s.ends.there.rec) n) + s.there.seen n
      grows n = omega arith

      same : (n : ℕ) → (b : Bool) → eqb (m.holds s.ends.there.rec) n ≡ b → (m.holds s.ends.there.rec ≡ n → ⊥) → one b ≡ 0
      same n true e h = absurd (h (eqb-true (m.holds s.ends.there.rec) n e))
      same n false e h = refl

      later : s.there.waiting ≡ true → Later m s.ends.there.rec s.ends.there.rec s.there (by true)
      later e = record { grows = grows; never = λ (n : ℕ) (x : Never m s.ends.there.rec s.there n). record { unseen = omega (arith, x.unseen, same n (eqb (m.holds s.ends.there.rec) n) refl (x.unwaited e)); past = x.past; unwaited = λ (p : false ≡ true) (q : m.holds s.ends.there.rec ≡ n). clash (sym p) } }

      -- at the number of the record, or where it was before
      place : (n : ℕ) (P : Type 0) → (m.holds s.ends.there.rec ≡ n → P) → ((one (eqb (m.holds s.ends.there.rec) n) ≡ 0) → P) → P
      place n P f h = at (eqb (m.holds s.ends.there.rec) n) refl
        where
          at : (b : Bool) → eqb (m.holds s.ends.there.rec) n ≡ b → P
          at true e = f (eqb-true _ _ e)
          at false e = h (ap one e)

      far : s.there.waiting ≡ true → Far m c w k s.here.log s.ends.there.rec s.ends.there.line (by true)
      far e =
          record {
            kept = g.far.kept;
            most = λ (n : ℕ). place n (one (eqb (m.holds s.ends.there.rec) n) + s.there.seen n ≤ 1)
                (λ (p : m.holds s.ends.there.rec ≡ n). let u : s.there.seen n ≡ 0 = subst
                (λ (i : ℕ). s.there.seen i ≡ 0) p (g.far.unseen e) in omega
                (arith, u, most (eqb (m.holds s.ends.there.rec) n)))
                (λ (p : one (eqb (m.holds s.ends.there.rec) n) ≡ 0). omega (arith, p, g.far.most n));
            past = λ (n : ℕ) (q : 1 ≤ one (eqb (m.holds s.ends.there.rec) n) + s.there.seen n). place n
                (n ≤ m.holds s.ends.there.rec) (λ (p : m.holds s.ends.there.rec ≡ n). omega (arith, p))
                (λ (p : one (eqb (m.holds s.ends.there.rec) n) ≡ 0). g.far.past n (omega (arith, p, q)));
            ordered = λ (n : ℕ) (q : 1 ≤ one (eqb (m.holds s.ends.there.rec) n) + s.there.seen n). place n
                (1 ≤ count n (numbers s.here.log)) (λ (p : m.holds s.ends.there.rec ≡ n). subst
                (λ (i : ℕ). 1 ≤ count i (numbers s.here.log)) p (g.far.awaited e))
                (λ (p : one (eqb (m.holds s.ends.there.rec) n) ≡ 0). g.far.ordered n (omega (arith, p, q)));
            unseen = λ (p : false ≡ true). clash (sym p);
            awaited = λ (p : false ≡ true). clash (sym p);
            back = all_map (In m c w k s.ends.there.rec s.there) (In m c w k s.ends.there.rec (by true)) (λ
                (x : m.at.E) (h : In m c w k s.ends.there.rec s.there x).
                (h.0, (h.1.0, λ (r : k.says x ≡ false). (later e).never (m.carries x) (h.1.1 r))))
                s.ends.there.line g.far.back;
            soon = λ (p : s.there.power ≡ up). all_map (SoonIf m c w k s.ends.there.rec s.there)
                (SoonIf m c w k s.ends.there.rec (by true)) (λ (x : m.at.E)
                (h : SoonIf m c w k s.ends.there.rec s.there x) (r : k.says x ≡ true). soon x (h r))
                s.ends.there.line (g.far.soon p);
            left = left_map (ShownIf m c w k s.there) (ShownIf m c w k (by true)) s.there.unsent
                s.there.unsent (omega arith)
                (λ (x : m.at.E) (h : ShownIf m c w k s.there x) (r : k.says x ≡ true). omega (arith, h r))
                s.ends.there.line g.far.left;
          }
        where
          most : (b : Bool) → one b ≤ 1
          most true = omega arith
          most false = omega arith

          soon : (x : m.at.E) → Soon m c w k s.ends.there.rec s.there x → Soon m c w k s.ends.there.rec (by true) x
          soon x (shown_it p) = shown_it (omega (arith, p, grows (m.carries x)))
          soon x (awaits_it p q) = shown_it (omega (
            arith,
            ap one (ap
                (λ (i : ℕ). eqb (m.holds s.ends.there.rec) i) q ∙ self (m.holds s.ends.there.rec)),
          ))

      go : (b : Bool) → s.there.waiting ≡ b → Holds m c w k s.ends s.here (by b) dl
      go true e = there_holds s.ends s.ends s.here s.there (by true) dl g refl g.ways (later e) (far e) g.rest
      go false e = still_holds s.ends s.ends s.here s.there (by false) dl g refl g.ways.out refl (record { kept = g.far.kept; holds = refl; seen = λ (n : ℕ). refl; waits = λ (p : false ≡ true). clash (sym p); is_up = λ (p : s.there.power ≡ up). (p, λ (q : s.there.waiting ≡ true). clash (sym q ∙ e)); unsent = omega arith }) g.rest

  -- ---- an entry leaves: its user has what was handed out

  pub left_holds : (s : Hosts m) (dl : List ℕ) → s.there.power ≡ up → HoldsOf m c w k s dl
      → HoldsOf m c w k (swapped m w right order fresh (releasing m w right order fresh (swapped m w right order fresh s))) dl
  left_holds s dl u g = go s.there.waiting refl
    where
      all_shown : s.there.waiting ≡ false → All (ShownIf m c w k s.there) s.ends.there.line
      all_shown e = all_map (SoonIf m c w k s.ends.there.rec s.there) (ShownIf m c w k s.there)
          (λ (x : m.at.E) (h : SoonIf m c w k s.ends.there.rec s.there x) (r : k.says x ≡ true). it x (h r))
          s.ends.there.line (g.far.soon u)
        where
          it : (x : m.at.E) → Soon m c w k s.ends.there.rec s.there x → 1 ≤ s.there.seen (m.carries x)
          it x (shown_it p) = p
          it x (awaits_it p q) = clash (sym p ∙ e)

      go : (b : Bool) → s.there.waiting ≡ b → HoldsOf m c w k (swapped m w right order fresh (cond (not b) (record { ends = n_swap m s.ends; here = released m right L fresh A s.there; there = s.here }) (swapped m w right order fresh s))) dl
      go true e = record { ways = g.ways; near = g.near; far = g.far; rest = g.rest; who = g.who }
      go false e =
          let f = g.far in
          there_holds s.ends (n_swap m (n_swap m s.ends)) s.here s.there
          (released m right L fresh A s.there) dl g refl g.ways
          (record { grows = λ (n : ℕ). omega arith; never = λ (n : ℕ) (x : Never m s.ends.there.rec s.there n). record { unseen = x.unseen; past = x.past; unwaited = x.unwaited } })
          (record { kept = f.kept; most = f.most; past = f.past; ordered = f.ordered; unseen = f.unseen; awaited = f.awaited; back = all_map (In m c w k s.ends.there.rec s.there) (In m c w k s.ends.there.rec (released m right L fresh A s.there)) (λ (x : m.at.E) (h : In m c w k s.ends.there.rec s.there x). (h.0, (h.1.0, λ (r : k.says x ≡ false). let y = h.1.1 r in record { unseen = y.unseen; past = y.past; unwaited = y.unwaited }))) s.ends.there.line f.back; soon = λ (p : s.there.power ≡ up). all_map (ShownIf m c w k s.there) (SoonIf m c w k s.ends.there.rec (released m right L fresh A s.there)) (λ (x : m.at.E) (h : ShownIf m c w k s.there x) (r : k.says x ≡ true). shown_it (h r)) s.ends.there.line (all_shown e); left = left_all (ShownIf m c w k (released m right L fresh A s.there)) (less s.there.unsent) s.ends.there.line (all_shown e) })
          g.rest

  -- ---- the power, and the connection

  down_not_up : {P : Type 0} → down ≡ up → P
  down_not_up e = clash (ap upward (sym e))

  pub gone_holds : (s : Hosts m) (dl : List ℕ) → HoldsOf m c w k s dl
      → HoldsOf m c w k (swapped m w right order fresh (lost m right L fresh A Ground (swapped m w right order fresh s))) dl
  gone_holds s dl g =
      still_holds s.ends (n_swap m (with_rec m right L fresh A (n_swap m s.ends) s.there.kept_rec)) s.here
      s.there (lost m right L fresh A Ground (swapped m w right order fresh s)).here dl g refl g.ways.out
      refl
      (record { kept = refl; holds = ap m.holds g.far.kept; seen = λ (n : ℕ). refl; waits = λ (p : false ≡ true). clash (sym p); is_up = λ (p : down ≡ up). down_not_up p; unsent = omega arith })
      (subst c.Rest (sym g.far.kept) g.rest)

  pub parted_holds : (s : Hosts m) (dl : List ℕ) → HoldsOf m c w k s dl
      → HoldsOf m c w k (swapped m w right order fresh (cut_off_of m w right order fresh (swapped m w right order fresh s))) dl
  parted_holds s dl g =
      still_holds s.ends (n_swap m (n_swap m s.ends)) s.here s.there
      (cut_off_of m w right order fresh (swapped m w right order fresh s)).here dl g refl g.ways.out refl
      (record { kept = refl; holds = refl; seen = λ (n : ℕ). refl; waits = λ (p : s.there.waiting ≡ true). p; is_up = λ (p : apart ≡ up). clash (ap upward (sym p)); unsent = omega arith })
      g.rest

  -- ---- the carrier fails, at both

  pub fails_here : (s : Hosts m) (dl : List ℕ) → HoldsOf m c w k s dl → HoldsOf m c w k (carrier_failed m w right order fresh s) dl
  fails_here s dl g =
      let j = failed m c w k order fresh s.ends (n_emptied m s.ends) s.here s.there dl up
      (rejoins m right L fresh A s.there.power) g refl refl refl refl in
      subst (λ (y : NSys m). Holds m c w k (n_swap m y) (told_of m right L fresh A (n_swap m y).here.rec up s.here) (
      told_of m right L fresh A (n_swap m y).there.rec (rejoins m right L fresh A s.there.power)
      s.there) dl)
      (sym (untold m c w k order fresh (n_swap m (n_told_lost m Ground (n_emptied m s.ends))) j.rest)) (record { ways = j.ways; near = j.near; far = j.far; rest = j.rest; who = j.who })

  pub fails_there : (s : Hosts m) (dl : List ℕ) → HoldsOf m c w k s dl
      → HoldsOf m c w k (swapped m w right order fresh (carrier_failed m w right order fresh (swapped m w right order fresh s))) dl
  fails_there s dl g =
      let u : NSys m = n_emptied m (n_swap m s.ends) in
      let j = failed m c w k order fresh s.ends (n_swap m u) s.here s.there dl
      (rejoins m right L fresh A s.here.power) up g refl refl refl refl in
      subst (λ (y : NSys m). Holds m c w k (n_swap m (n_swap m (n_told_lost m Ground (n_swap m y)))) (told_of m right L fresh
      A (n_told_lost m Ground (n_swap m y)).here.rec (rejoins m right L fresh A s.here.power) s.here)
      (told_of m right L fresh A (n_told_lost m Ground (n_swap m y)).there.rec up s.there) dl)
      (sym (untold m c w k order fresh (n_emptied m (n_swap m s.ends)) g.rest)) (record { ways = j.ways; near = j.near; far = j.far; rest = j.rest; who = j.who })
