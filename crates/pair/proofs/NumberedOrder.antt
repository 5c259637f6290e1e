-- How the numbers stand on the lines: along that of the starting end they rise from the number that the other end holds to its own,
-- strictly at a start; the other line has no start and no higher number; nothing has happened in a dialogue that is still to come.
-- Assumes nothing.
use mathlib.Core.Path.{◌≡◌, refl, sym, ◌∙◌, subst}
use mathlib.Core.Bool.{Bool, true, false, not, cond, ◌&&◌, ◌||◌}
use mathlib.Core.List.{List, [], ◌∷◌, ◌++◌}
use Prim.Native.Nat.{ℕ, ◌<◌, ◌≤◌}
use native.Mathlib.Omega.{arith}
use lib.Dec.{T, eqb, le→leb, lt→ltb}
use Rattle.pair.specs.Carrier.{Body, Sent, nothing, puts, message, Outcome, refused, acts, Sort, begins, breaks, plain, begins?, Machine, idle, is_start, starts}
use Rattle.pair.specs.Numbered.{NParty, NSys, Numbered, mark, trim, on_line, n_swap, n_put, n_took, n_left, n_did, n_off, n_recalled, n_emptied}
use Rattle.pair.proofs.NumberedMachine.{numbered, leaves}
use Rattle.pair.proofs.Finite.{no_T, is_t}
use Rattle.pair.proofs.NumberedLines.{nay, below_differ, pick, past, orderly, orderly_le, orderly_tail, orderly_snoc, orderly_trim, orderly_without, orderly_above, tame, tame_tail, tame_snoc, tame_up, tame_trim, tame_without, tame_above}
use Rattle.pair.proofs.NumberedNeeds.{Calm}
use Rattle.pair.proofs.NumberedView.{New}

-- S: the end that all starts come from; R: the other
pub record Lead (m : Machine) (S R : NParty (numbered m)) (b : ℕ → Bool) : Type 0 where
  pub up : T (orderly m R.rec.no S.rec.no S.line)
  pub low : T (tame m S.rec.no R.line)
  pub new : (j : ℕ) → S.rec.no < j → New m j S R b

-- lead: `here` is that end
abbrev pub Led : (m : Machine) → Bool → NSys (numbered m) → Type 0
Led m true s = Lead m s.here s.there s.broken
Led m false s = Lead m s.there s.here s.broken

or_false : (a b : Bool) → a ≡ false → b ≡ false → a || b ≡ false
or_false true b e f = absurd (subst T e tt)
or_false false b e f = f

module _ (m : Machine) where
  pub led_swap : (lead : Bool) (s : NSys (numbered m)) → Led m lead s → Led m (not lead) (n_swap (numbered m) s)
  led_swap true s h = h
  led_swap false s h = h

  calm_past : (e : m.E) (b w : ℕ) → T (not (is_start m e)) → b ≤ w → T (past m (is_start m e) b w)
  calm_past e b w t h = subst (λ (c : Bool). T (past m c b w)) (sym (no_T (is_start m e) t)) (le→leb b w h)

  -- ---- an event of the starting end

  snoc_up : (s : NSys (numbered m)) (l : List (Numbered m.E)) (v : ℕ) (e : m.E) → v ≡ s.here.rec.no
      → T (not (is_start m e)) → T (orderly m s.there.rec.no s.here.rec.no l)
      → T (orderly m s.there.rec.no s.here.rec.no (l ++ (mark v e ∷ [])))
  snoc_up s l v e q t h = subst (λ (n : ℕ). T (orderly m s.there.rec.no n (l ++ (mark v e ∷ [])))) q (orderly_snoc
      m s.there.rec.no s.here.rec.no l (mark v e) h
      (calm_past e s.here.rec.no v t (omega (arith, q))))

  put_up : (so : Sort) (s : NSys (numbered m)) (v : ℕ) (e : m.E) (keep : ℕ) → v ≡ s.here.rec.no
      → T (not (is_start m e)) → Led m true s → Led m true (n_put (numbered m) so s (mark v e) keep)
  put_up begins s v e keep q t h =
      record {
        up = snoc_up s s.here.line v e q t h.up;
        low = h.low;
        new = λ (j : ℕ) (w : s.here.rec.no < j). let n = h.new j w in record { taken = n.taken; handed = n.handed; taken_t = n.taken_t; given_t = n.given_t; whole = n.whole };
      }
  put_up breaks s v e keep q t h =
      record {
        up = snoc_up s (trim (numbered m) v keep s.here.line) v e q t
            (orderly_trim m s.there.rec.no s.here.rec.no v keep s.here.line h.up);
        low = h.low;
        new = λ (j : ℕ) (w : s.here.rec.no < j). let n = h.new j w in record { taken = n.taken; handed = n.handed; taken_t = n.taken_t; given_t = n.given_t; whole = or_false (eqb v j) (s.broken j) (below_differ v j (omega (arith, q, w))) n.whole };
      }
  put_up plain s v e keep q t h =
      record {
        up = snoc_up s s.here.line v e q t h.up;
        low = h.low;
        new = λ (j : ℕ) (w : s.here.rec.no < j). let n = h.new j w in record { taken = n.taken; handed = n.handed; taken_t = n.taken_t; given_t = n.given_t; whole = n.whole };
      }

  took_up : (s : NSys (numbered m)) (v : ℕ) (b : Body) (i : ℕ) → v ≡ s.here.rec.no → Led m true s
      → Led m true (n_took (numbered m) s v b i)
  took_up s v b i q h =
      record {
        up = h.up;
        low = h.low;
        new = λ (j : ℕ) (w : s.here.rec.no < j). let n = h.new j w in record { taken = nay (eqb v j) _ _ (below_differ v j (omega (arith, q, w))) ∙ n.taken; handed = n.handed; taken_t = n.taken_t; given_t = n.given_t; whole = n.whole };
      }

  left_up : (s : NSys (numbered m)) (v : ℕ) (r : m.R) (l : List Body) → v ≡ s.here.rec.no → Led m true s
      → Led m true (n_left (numbered m) s (mark v r) l)
  left_up s v r l q h =
      record {
        up = subst (λ (n : ℕ). T (orderly m s.there.rec.no n s.here.line)) (sym q) h.up;
        low = subst (λ (n : ℕ). T (tame m n s.there.line)) (sym q) h.low;
        new = λ (j : ℕ) (w : v < j). let n = h.new j (omega (arith, q, w)) in record { taken = n.taken; handed = nay (eqb v j) _ _ (below_differ v j w) ∙ n.handed; taken_t = n.taken_t; given_t = n.given_t; whole = n.whole };
      }

  -- the number at `here` is that of s through all this
  did_up : (s : NSys (numbered m)) (v : ℕ) (r : m.R) (l : List Body) (p : Sent m.E) (keep : ℕ)
      → v ≡ s.here.rec.no → T (not (starts m p)) → Led m true s
      → Led m true (n_did (numbered m) s (leaves v (acts r l p)) keep)
  did_up s v r l nothing keep q c h = left_up s v r l q h
  did_up s v r l (puts e) keep q c h = go (m.sort e)
    where
      go : (so : Sort) → Led m true (n_left (numbered m) (n_put (numbered m) so s (mark v e) keep) (mark v r) l)
      go begins = left_up (n_put (numbered m) begins s (mark v e) keep) v r l q (put_up begins s v e keep q c h)
      go breaks = left_up (n_put (numbered m) breaks s (mark v e) keep) v r l q (put_up breaks s v e keep q c h)
      go plain = left_up (n_put (numbered m) plain s (mark v e) keep) v r l q (put_up plain s v e keep q c h)
  did_up s v r l (message e b i) keep q c h = go (m.sort e)
    where
      go : (so : Sort) → Led m true (n_left (numbered m) (n_took (numbered m) (n_put (numbered m) so s (mark v e) keep) v b i) (mark v r) l)
      go begins = left_up (n_took (numbered m) (n_put (numbered m) begins s (mark v e) keep) v b i) v r l q
          (took_up (n_put (numbered m) begins s (mark v e) keep) v b i q (put_up begins s v e keep q c h))
      go breaks = left_up (n_took (numbered m) (n_put (numbered m) breaks s (mark v e) keep) v b i) v r l q
          (took_up (n_put (numbered m) breaks s (mark v e) keep) v b i q (put_up breaks s v e keep q c h))
      go plain = left_up (n_took (numbered m) (n_put (numbered m) plain s (mark v e) keep) v b i) v r l q
          (took_up (n_put (numbered m) plain s (mark v e) keep) v b i q (put_up plain s v e keep q c h))

  -- ---- a start, of a higher number

  start_up : (so : Sort) (s : NSys (numbered m)) (v : ℕ) (r : m.R) (l : List Body) (e : m.E) (keep : ℕ)
      → s.here.rec.no < v → T (begins? so) → T (is_start m e) → Led m true s
      → Led m true (n_left (numbered m) (n_put (numbered m) so s (mark v e) keep) (mark v r) l)
  start_up begins s v r l e keep w c t h =
      record {
        up = orderly_snoc m s.there.rec.no s.here.rec.no s.here.line (mark v e) h.up (subst
            (λ (z : Bool). T (past m z s.here.rec.no v)) (sym (is_t (is_start m e) t))
            (lt→ltb s.here.rec.no v w));
        low = tame_up m s.here.rec.no v s.there.line (omega (arith, w)) h.low;
        new = λ (j : ℕ) (x : v < j). let n = h.new j (omega (arith, w, x)) in record { taken = n.taken; handed = nay (eqb v j) _ _ (below_differ v j x) ∙ n.handed; taken_t = n.taken_t; given_t = n.given_t; whole = n.whole };
      }
  start_up breaks s v r l e keep w c t h = absurd c
  start_up plain s v r l e keep w c t h = absurd c

  start_took : (so : Sort) (s : NSys (numbered m)) (v : ℕ) (r : m.R) (l : List Body) (e : m.E) (b : Body) (i keep : ℕ)
      → T (begins? so) → Led m true (n_left (numbered m) (n_put (numbered m) so s (mark v e) keep) (mark v r) l)
      → Led m true (n_left (numbered m) (n_took (numbered m) (n_put (numbered m) so s (mark v e) keep) v b i) (mark v r) l)
  start_took begins s v r l e b i keep c h =
      record {
        up = h.up;
        low = h.low;
        new = λ (j : ℕ) (x : v < j). let n = h.new j x in record { taken = nay (eqb v j) _ _ (below_differ v j x) ∙ n.taken; handed = n.handed; taken_t = n.taken_t; given_t = n.given_t; whole = n.whole };
      }
  start_took breaks s v r l e b i keep c h = absurd c
  start_took plain s v r l e b i keep c h = absurd c

  pub start_led : (s : NSys (numbered m)) (v : ℕ) (r : m.R) (l : List Body) (p : Sent m.E) (keep : ℕ)
      → s.here.rec.no < v → T (starts m p) → Led m true s
      → Led m true (n_did (numbered m) s (leaves v (acts r l p)) keep)
  start_led s v r l nothing keep w c h = absurd c
  start_led s v r l (puts e) keep w c h = start_up (m.sort e) s v r l e keep w c c h
  start_led s v r l (message e b i) keep w c h = start_took (m.sort e) s v r l e b i keep c (start_up (m.sort e) s v r l e keep w c c h)

  -- ---- an event of the other end; it may leave with a higher number v

  put_low : (so : Sort) (s : NSys (numbered m)) (v : ℕ) (e : m.E) (keep : ℕ) → v ≤ s.there.rec.no
      → T (not (is_start m e)) → Led m false s → Led m false (n_put (numbered m) so s (mark v e) keep)
  put_low begins s v e keep q t h =
      record {
        up = h.up;
        low = tame_snoc m s.there.rec.no s.here.line (mark v e) h.low t q;
        new = λ (j : ℕ) (w : s.there.rec.no < j). let n = h.new j w in record { taken = n.taken; handed = n.handed; taken_t = n.taken_t; given_t = n.given_t; whole = n.whole };
      }
  put_low breaks s v e keep q t h =
      record {
        up = h.up;
        low = tame_snoc m s.there.rec.no (trim (numbered m) v keep s.here.line) (mark v e)
            (tame_trim m s.there.rec.no v keep s.here.line h.low) t q;
        new = λ (j : ℕ) (w : s.there.rec.no < j). let n = h.new j w in record { taken = n.taken; handed = n.handed; taken_t = n.taken_t; given_t = n.given_t; whole = or_false (eqb v j) (s.broken j) (below_differ v j (omega (arith, q, w))) n.whole };
      }
  put_low plain s v e keep q t h =
      record {
        up = h.up;
        low = tame_snoc m s.there.rec.no s.here.line (mark v e) h.low t q;
        new = λ (j : ℕ) (w : s.there.rec.no < j). let n = h.new j w in record { taken = n.taken; handed = n.handed; taken_t = n.taken_t; given_t = n.given_t; whole = n.whole };
      }

  took_low : (s : NSys (numbered m)) (v : ℕ) (b : Body) (i : ℕ) → v ≤ s.there.rec.no → Led m false s
      → Led m false (n_took (numbered m) s v b i)
  took_low s v b i q h =
      record {
        up = h.up;
        low = h.low;
        new = λ (j : ℕ) (w : s.there.rec.no < j). let n = h.new j w in record { taken = n.taken; handed = n.handed; taken_t = nay (eqb v j) _ _ (below_differ v j (omega (arith, q, w))) ∙ n.taken_t; given_t = n.given_t; whole = n.whole };
      }

  left_low : (s : NSys (numbered m)) (v : ℕ) (r : m.R) (l : List Body) → v ≤ s.there.rec.no
      → T (orderly m v s.there.rec.no s.there.line) → Led m false s
      → Led m false (n_left (numbered m) s (mark v r) l)
  left_low s v r l q u h =
      record {
        up = u;
        low = h.low;
        new = λ (j : ℕ) (w : s.there.rec.no < j). let n = h.new j w in record { taken = n.taken; handed = n.handed; taken_t = n.taken_t; given_t = nay (eqb v j) _ _ (below_differ v j (omega (arith, q, w))) ∙ n.given_t; whole = n.whole };
      }

  pub did_low : (s : NSys (numbered m)) (v : ℕ) (r : m.R) (l : List Body) (p : Sent m.E) (keep : ℕ)
      → T (orderly m v s.there.rec.no s.there.line) → T (not (starts m p)) → Led m false s
      → Led m false (n_did (numbered m) s (leaves v (acts r l p)) keep)
  did_low s v r l nothing keep u c h = left_low s v r l (orderly_le m v s.there.rec.no s.there.line u) u h
  did_low s v r l (puts e) keep u c h = go (m.sort e) (orderly_le m v s.there.rec.no s.there.line u)
    where
      go : (so : Sort) → v ≤ s.there.rec.no → Led m false (n_left (numbered m) (n_put (numbered m) so s (mark v e) keep) (mark v r) l)
      go begins q = left_low (n_put (numbered m) begins s (mark v e) keep) v r l q u (put_low begins s v e keep q c h)
      go breaks q = left_low (n_put (numbered m) breaks s (mark v e) keep) v r l q u (put_low breaks s v e keep q c h)
      go plain q = left_low (n_put (numbered m) plain s (mark v e) keep) v r l q u (put_low plain s v e keep q c h)
  did_low s v r l (message e b i) keep u c h = go (m.sort e) (orderly_le m v s.there.rec.no s.there.line u)
    where
      go : (so : Sort) → v ≤ s.there.rec.no
          → Led m false (n_left (numbered m) (n_took (numbered m) (n_put (numbered m) so s (mark v e) keep) v b i) (mark v r) l)
      go begins q = left_low (n_took (numbered m) (n_put (numbered m) begins s (mark v e) keep) v b i) v r l q u
          (took_low (n_put (numbered m) begins s (mark v e) keep) v b i q (put_low begins s v e keep q c h))
      go breaks q = left_low (n_took (numbered m) (n_put (numbered m) breaks s (mark v e) keep) v b i) v r l q u
          (took_low (n_put (numbered m) breaks s (mark v e) keep) v b i q (put_low breaks s v e keep q c h))
      go plain q = left_low (n_took (numbered m) (n_put (numbered m) plain s (mark v e) keep) v b i) v r l q u
          (took_low (n_put (numbered m) plain s (mark v e) keep) v b i q (put_low plain s v e keep q c h))

  -- ---- an event that keeps the number, at either end

  pub event_led : (lead : Bool) (s : NSys (numbered m)) (o : Outcome m.R m.E) (keep : ℕ) → Calm m o → Led m lead s
      → Led m lead (n_did (numbered m) s (leaves s.here.rec.no o) keep)
  event_led lead s refused keep c h = h
  event_led true s (acts r l p) keep c h = did_up s s.here.rec.no r l p keep refl c h
  event_led false s (acts r l p) keep c h = did_low s s.here.rec.no r l p keep h.up c h

  -- ---- the lines

  pub off_led : (lead : Bool) (s : NSys (numbered m)) (e : Numbered m.E) (l : List (Numbered m.E))
      → s.there.line ≡ e ∷ l → Led m lead s → Led m lead (n_off (numbered m) s l)
  off_led true s e l q h =
      record {
        up = h.up;
        low = tame_tail m s.here.rec.no e l (subst (λ (k : List (Numbered m.E)). T (tame m s.here.rec.no k)) q h.low);
        new = λ (j : ℕ) (w : s.here.rec.no < j). let n = h.new j w in record { taken = n.taken; handed = n.handed; taken_t = n.taken_t; given_t = n.given_t; whole = n.whole };
      }
  off_led false s e l q h =
      record {
        up = orderly_tail m s.here.rec.no s.there.rec.no e l
            (subst (λ (k : List (Numbered m.E)). T (orderly m s.here.rec.no s.there.rec.no k)) q h.up);
        low = h.low;
        new = λ (j : ℕ) (w : s.there.rec.no < j). let n = h.new j w in record { taken = n.taken; handed = n.handed; taken_t = n.taken_t; given_t = n.given_t; whole = n.whole };
      }

  pub recalled_led : (lead : Bool) (s : NSys (numbered m)) → Led m lead s → Led m lead (n_recalled (numbered m) s)
  recalled_led true s h =
      record {
        up = orderly_without m s.there.rec.no s.here.rec.no s.here.rec.no s.here.line h.up;
        low = h.low;
        new = λ (j : ℕ) (w : s.here.rec.no < j). let n = h.new j w in record { taken = n.taken; handed = n.handed; taken_t = n.taken_t; given_t = n.given_t; whole = n.whole };
      }
  recalled_led false s h =
      record {
        up = h.up;
        low = tame_without m s.there.rec.no s.here.rec.no s.here.line h.low;
        new = λ (j : ℕ) (w : s.there.rec.no < j). let n = h.new j w in record { taken = n.taken; handed = n.handed; taken_t = n.taken_t; given_t = n.given_t; whole = n.whole };
      }

  on_none : (j : ℕ) (l : List (Numbered m.E)) → pick m j l ≡ [] → on_line (numbered m) l j ≡ false
  on_none j [] e = refl
  on_none j (x ∷ l) e = go (eqb x.no j) e (on_none j l)
    where
      is_nil : List m.E → Type 0
      is_nil [] = Unit {0}
      is_nil (y ∷ k) = ⊥

      go : (b : Bool) → cond b (x.it ∷ pick m j l) (pick m j l) ≡ []
          → (pick m j l ≡ [] → on_line (numbered m) l j ≡ false) → b || on_line (numbered m) l j ≡ false
      go true q h = absurd (subst is_nil (sym q) tt)
      go false q h = h q

  -- no dialogue to come is alive
  to_come : (S R : NParty (numbered m)) (b : ℕ → Bool) (j : ℕ) → Lead m S R b → S.rec.no < j
      → (eqb S.rec.no j ≡ false) × (eqb R.rec.no j ≡ false) × (on_line (numbered m) S.line j ≡ false) × (on_line (numbered m) R.line j ≡ false)
  to_come S R b j h w =
      let k = orderly_le m R.rec.no S.rec.no S.line h.up in (
        below_differ S.rec.no j w,
        below_differ R.rec.no j (omega (arith, w, k)),
        on_none j S.line (orderly_above m R.rec.no S.rec.no j S.line h.up w),
        on_none j R.line (tame_above m S.rec.no j R.line h.low w),
      )

  no_right : (a b : Bool) → b ≡ false → a && b ≡ false
  no_right true b e = e
  no_right false b e = refl

  pub emptied_led : (lead : Bool) (s : NSys (numbered m)) → Led m lead s → Led m lead (n_emptied (numbered m) s)
  emptied_led true s h =
      record {
        up = le→leb s.there.rec.no s.here.rec.no (orderly_le m s.there.rec.no s.here.rec.no s.here.line h.up);
        low = tt;
        new = λ (j : ℕ) (w : s.here.rec.no < j).
            let n = h.new j w in
            let a = to_come s.here s.there s.broken j h w in
            record { taken = n.taken; handed = n.handed; taken_t = n.taken_t; given_t = n.given_t; whole = or_false _ _ (or_false _ _ (no_right (not (idle m s.here.rec.it)) _ a.0) (or_false _ _ (no_right (not (idle m s.there.rec.it)) _ a.1) (or_false _ _ a.2 a.3))) n.whole };
      }
  emptied_led false s h =
      record {
        up = le→leb s.here.rec.no s.there.rec.no (orderly_le m s.here.rec.no s.there.rec.no s.there.line h.up);
        low = tt;
        new = λ (j : ℕ) (w : s.there.rec.no < j).
            let n = h.new j w in
            let a = to_come s.there s.here s.broken j h w in
            record { taken = n.taken; handed = n.handed; taken_t = n.taken_t; given_t = n.given_t; whole = or_false _ _ (or_false _ _ (no_right (not (idle m s.here.rec.it)) _ a.1) (or_false _ _ (no_right (not (idle m s.there.rec.it)) _ a.0) (or_false _ _ a.3 a.2))) n.whole };
      }
