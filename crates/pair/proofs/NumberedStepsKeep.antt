-- Every step of the numbered carrier keeps the base invariant of every dialogue, and the order of the numbers.
-- Assumes nothing.
use mathlib.Core.Path.{◌≡◌, refl, ap, sym, ◌∙◌, subst}
use mathlib.Core.Bool.{Bool, true, false, not, cond, ◌&&◌, ◌||◌}
use mathlib.Core.List.{List, [], ◌∷◌}
use Prim.Native.Nat.{ℕ, ◌<◌, ◌≤◌}
use native.Mathlib.Omega.{arith}
use lib.Dec.{T, eqb, ltb, ltb→lt, lt→ltb}
use Rattle.pair.specs.Names.{Side, Air, Ground, State, Idle, StartReq, StartInd, Dialogue, End, Control, closed, entered, is, is_idle, other}
use Rattle.pair.specs.Carrier.{Body, Sent, nothing, puts, message, Outcome, refused, acts, Sort, begins, breaks, plain, Machine, Step, user_call, hand_over, timer_expires_of, error_reported, turn_away, fail, idle, is_start, starts, discards}
use Rattle.pair.proofs.OneDialogue.{Party, Sys, is_nil, swap, did, ready, called, off, handed_over, has_start, may_turn_away, recalled, turned_away, emptied, told_lost, failed, stepped}
use Rattle.pair.specs.Claims.{matching}
use Rattle.pair.specs.Numbered.{NParty, NSys, Numbered, mark, on_line, alive, n_swap, n_did, n_ready, n_called, n_off, n_handed_over, n_has_start, n_may_turn_away, n_recalled, n_turned_away, n_emptied, n_told_lost, n_failed, n_stepped}
use Rattle.pair.proofs.NumberedMachine.{tag, numbered, leaves, numbers, meets_no}
use Rattle.pair.proofs.Finite.{and_l, and_r, is_t, T_is, no_T}
use Rattle.pair.proofs.NoAbortAnswers.{Quiet, HeadQuiet}
use Rattle.pair.proofs.NumberedLines.{yes, nay, eq_no, self, differ, below_differ, above_differ, pick, has_at, without_same, without_other, none_on, orderly, orderly_past, orderly_start, orderly_below, orderly_le, orderly_above, tame, tame_head, tame_above}
use Rattle.pair.proofs.NumberedNeeds.{Calm, re_rec, Base}
use Rattle.pair.proofs.NumberedView.{Most, Sim, Got, swap_sim, did_same, did_start, did_other, event}
use Rattle.pair.proofs.NumberedOrder.{Led, led_swap, start_led, did_low, event_led, off_led, recalled_led, emptied_led}

-- ---- matching with an IDLE end

pub match_left : (a : Control) → T (matching a closed) → T (is_idle a)
match_left a t = go a.state a.dsc t
  where
    go : (s : State) (d : Bool) → T (matching (entered s d) closed) → T (is s Idle)
    go Idle d t = tt
    go StartReq d t = t
    go StartInd d t = t
    go Dialogue d t = t
    go End d t = t
    go Rattle.pair.specs.Names.Forward d t = absurd t

pub match_right : (g : Control) → T (matching closed g) → T (is_idle g)
match_right g t = go g.state g.dsc t
  where
    go : (s : State) (d : Bool) → T (matching closed (entered s d)) → T (is s Idle)
    go Idle d t = tt
    go StartReq d t = t
    go StartInd d t = t
    go Dialogue d t = t
    go End d t = t
    go Rattle.pair.specs.Names.Forward d t = absurd t

module _ (m : Machine) (B : Base m) where
  pub record NInv (sd : Side) (lead : Bool) (s : NSys (numbered m)) : Type 0 where
    pub led : Led m lead s
    pub all : (j : ℕ) → Got m B sd j s

  idle_none : T (idle m B.none)
  idle_none = subst (λ (c : Control). T (is_idle c)) (sym B.none_closed) tt

  pub flip_got : (sd : Side) (j : ℕ) (s : NSys (numbered m)) → Got m B sd j s → Got m B (other sd) j (n_swap (numbered m) s)
  flip_got sd j s g = record { sys = swap m g.sys; sim = swap_sim m B j s g.sys g.sim; keeps = B.flip sd g.sys g.keeps }

  pub flip_inv : (sd : Side) (lead : Bool) (s : NSys (numbered m)) → NInv sd lead s → NInv (other sd) (not lead) (n_swap (numbered m) s)
  flip_inv sd lead s h = record { led = led_swap m lead s h.led; all = λ (j : ℕ). flip_got sd j s (h.all j) }

  -- the record that dialogue j sees at an end that holds number j, and at one that does not
  near_is : (j : ℕ) (s : NSys (numbered m)) (t : Sys m) → Sim m B j s t → eqb s.here.rec.no j ≡ true → t.here.rec ≡ s.here.rec.it
  near_is j s t h q = sym h.near ∙ yes (eqb s.here.rec.no j) _ _ q

  near_none : (j : ℕ) (s : NSys (numbered m)) (t : Sys m) → Sim m B j s t → eqb s.here.rec.no j ≡ false → t.here.rec ≡ B.none
  near_none j s t h q = sym h.near ∙ nay (eqb s.here.rec.no j) _ _ q

  far_none : (j : ℕ) (s : NSys (numbered m)) (t : Sys m) → Sim m B j s t → eqb s.there.rec.no j ≡ false → t.there.rec ≡ B.none
  far_none j s t h q = sym h.most.far ∙ nay (eqb s.there.rec.no j) _ _ q

  -- an IDLE end is closed in the dialogue that it holds, and so in every dialogue
  closed_here : (sd : Side) (s : NSys (numbered m)) → Got m B sd s.here.rec.no s → T (idle m s.here.rec.it)
      → m.ctl s.here.rec.it ≡ closed
  closed_here sd s g i =
      let e = near_is s.here.rec.no s g.sys g.sim (self s.here.rec.no) in
      subst (λ (r : m.R). m.ctl r ≡ closed) e (B.idle_closed sd g.sys g.keeps (subst (λ (r : m.R). T (idle m r)) (sym e) i))

  sees_closed : (sd : Side) (j : ℕ) (s : NSys (numbered m)) (t : Sys m) → Sim m B j s t
      → m.ctl s.here.rec.it ≡ closed → m.ctl t.here.rec ≡ closed
  sees_closed sd j s t h c = go (eqb s.here.rec.no j) refl
    where
      go : (b : Bool) → eqb s.here.rec.no j ≡ b → m.ctl t.here.rec ≡ closed
      go true q = ap m.ctl (near_is j s t h q) ∙ c
      go false q = ap m.ctl (near_none j s t h q) ∙ B.none_closed

  most_re : (j : ℕ) (s : NSys (numbered m)) (t : Sys m) (r : m.R) → Most m B j s t → Most m B j s (re_rec m t r)
  most_re j s t r h = record { here = record { line = h.here.line; taken = h.here.taken; handed = h.here.handed }; there = h.there; far = h.far; broken = h.broken }

  -- ---- a call

  starts_tag : (v : ℕ) (p : Sent m.E) → starts (numbered m).at (tag v p) ≡ starts m p
  starts_tag v nothing = refl
  starts_tag v (puts e) = refl
  starts_tag v (message e b i) = refl

  called_is : (may : Bool) (s : NSys (numbered m)) (v : ℕ) (r : m.R) (l : List Body) (p : Sent m.E) (keep : ℕ)
      → cond (starts m p) (cond (ltb s.here.rec.no v && (may && n_ready (numbered m) s))
      (n_did (numbered m) s (leaves v (acts r l p)) keep) s)
      (n_did (numbered m) s (leaves s.here.rec.no (acts r l p)) keep)
      ≡ n_called (numbered m) may s (numbers m s.here.rec.no v (acts r l p)) keep
  called_is may s v r l p keep = go (starts m p) (ltb s.here.rec.no v) refl
    where
      go : (b c : Bool) → starts m p ≡ b
          → cond b (cond (c && (may && n_ready (numbered m) s)) (n_did (numbered m) s (leaves v (acts r l p)) keep) s)
          (n_did (numbered m) s (leaves s.here.rec.no (acts r l p)) keep)
          ≡ n_called (numbered m) may s (cond b (cond c (leaves v (acts r l p)) refused) (leaves s.here.rec.no (acts r l p))) keep
      go true true q = sym (ap (λ (z : Bool). cond (not z || (may && n_ready (numbered m) s))
          (n_did (numbered m) s (leaves v (acts r l p)) keep) s) (starts_tag v p ∙ q))
      go true false q = refl
      go false c q = sym (ap (λ (z : Bool). cond (not z || (may && n_ready (numbered m) s))
          (n_did (numbered m) s (leaves s.here.rec.no (acts r l p)) keep) s)
          (starts_tag s.here.rec.no p ∙ q))

  -- the start of number v
  ready_at : (t : Sys m) → T (idle m t.here.rec) → T (idle m t.there.rec) → t.here.line ≡ [] → t.there.line ≡ [] → T (ready m t)
  ready_at t i k p q =
      subst (λ (b : Bool). T (b && (idle m t.there.rec && (is_nil t.here.line && is_nil t.there.line))))
      (sym (is_t (idle m t.here.rec) i))
      (subst (λ (b : Bool). T (b && (is_nil t.here.line && is_nil t.there.line))) (sym (is_t (idle m t.there.rec) k))
      (subst (λ (z : List m.E). T (is_nil z && is_nil t.there.line)) (sym p) (subst (λ (z : List m.E). T (is_nil z)) (sym q) tt)))

  begun : (sd : Side) (t : Sys m) (a : m.A) (r : m.R) (l : List Body) (p : Sent m.E) (keep : ℕ)
      → m.call sd t.here.rec a ≡ acts r l p → T (ready m t) → B.P sd t → B.P sd (did m t (acts r l p) keep)
  begun sd t a r l p keep e y h =
      subst (B.P sd) (yes (not (starts m p) || ready m t) (did m t (acts r l p) keep) t (go (not (starts m p)) (ready m t) y))
      (subst (λ (o : Outcome m.R m.E). B.P sd (called m t o keep)) e (B.step sd t (user_call a keep) h))
    where
      go : (b c : Bool) → T c → b || c ≡ true
      go true c u = refl
      go false c u = is_t c u

  start_got : (sd : Side) (s : NSys (numbered m)) (a : m.A) (v : ℕ) (r : m.R) (l : List Body) (p : Sent m.E) (keep : ℕ)
      → NInv sd true s → m.call sd s.here.rec.it a ≡ acts r l p → T (starts m p) → s.here.rec.no < v
      → T (n_ready (numbered m) s) → (j : ℕ) → Got m B sd j (n_did (numbered m) s (leaves v (acts r l p)) keep)
  start_got sd s a v r l p keep h e c w y j = go (eqb v j) refl
    where
      i : T (idle m s.here.rec.it)
      i = and_l (idle m s.here.rec.it) _ y

      cl : m.ctl s.here.rec.it ≡ closed
      cl = closed_here sd s (h.all s.here.rec.no) i

      g : Got m B sd j s
      g = h.all j

      k : s.there.rec.no ≤ s.here.rec.no
      k = orderly_le m s.there.rec.no s.here.rec.no s.here.line h.led.up

      go : (b : Bool) → eqb v j ≡ b → Got m B sd j (n_did (numbered m) s (leaves v (acts r l p)) keep)
      go true q =
          let vj = eq_no v j q in
          let w' : s.here.rec.no < j = omega (arith, w, vj) in
          let t = re_rec m g.sys s.here.rec.it in
          let pt = B.re_rec_is sd g.sys s.here.rec.it (sees_closed sd j s g.sys g.sim cl ∙ sym cl) g.keeps in
          let hl = sym g.sim.most.here.line ∙ orderly_above m s.there.rec.no s.here.rec.no j
          s.here.line h.led.up w' in
          let tl = sym g.sim.most.there.line ∙ tame_above m s.here.rec.no j s.there.line h.led.low w' in
          let fi = subst (λ (x : m.R). T (idle m x))
          (sym (far_none j s g.sys g.sim (below_differ s.there.rec.no j (omega (arith, k, w')))))
          idle_none in
          record {
            sys = did m t (acts r l p) keep;
            sim = did_start m B j v s t r l p keep q c (h.led.new j w') (most_re j s g.sys s.here.rec.it g.sim.most);
            keeps = begun sd t a r l p keep e (ready_at t i fi hl tl) pt;
          }
      go false q =
          record {
            sys = re_rec m g.sys B.none;
            sim = did_other m B j v s (re_rec m g.sys B.none) r l p keep q (most_re j s g.sys B.none g.sim.most) refl;
            keeps = B.re_rec_is sd g.sys B.none (sees_closed sd j s g.sys g.sim cl ∙ sym B.none_closed) g.keeps;
          }

  -- a call that starts nothing is a call on the base carrier
  calm_called : (sd : Side) (a : m.A) (x r : m.R) (l : List Body) (p : Sent m.E) (keep : ℕ)
      → m.call sd x a ≡ acts r l p → starts m p ≡ false → (t : Sys m) → t.here.rec ≡ x
      → stepped m sd t (user_call a keep) ≡ did m t (acts r l p) keep
  calm_called sd a x r l p keep e f t n =
      ap (λ (z : m.R). called m t (m.call sd z a) keep) n ∙ ap (λ (o : Outcome m.R m.E). called m t o keep) e
      ∙ ap (λ (b : Bool). cond (not b || ready m t) (did m t (acts r l p) keep) t) f

  call_keeps : (sd : Side) (lead : Bool) (s : NSys (numbered m)) (a : Numbered m.A) (keep : ℕ) (o : Outcome m.R m.E)
      → m.call sd s.here.rec.it a.it ≡ o → NInv sd lead s
      → NInv sd lead (n_called (numbered m) lead s (numbers m s.here.rec.no a.no o) keep)
  call_keeps sd lead s a keep refused e h = h
  call_keeps sd lead s a keep (acts r l p) e h = subst (NInv sd lead) (called_is lead s a.no r l p keep) (go (starts m p) refl)
    where
      start : (lead : Bool) (c d : Bool) → NInv sd lead s → starts m p ≡ true → ltb s.here.rec.no a.no ≡ c
          → n_ready (numbered m) s ≡ d
          → NInv sd lead (cond (c && (lead && d)) (n_did (numbered m) s (leaves a.no (acts r l p)) keep) s)
      start lead false d h q w y = h
      start false true d h q w y = h
      start true true false h q w y = h
      start true true true h q w y =
          let v = ltb→lt s.here.rec.no a.no (T_is _ w) in
          record {
            led = start_led m s a.no r l p keep v (T_is (starts m p) q) h.led;
            all = start_got sd s a.it a.no r l p keep h e (T_is (starts m p) q) v (T_is (n_ready (numbered m) s) y);
          }

      go : (b : Bool) → starts m p ≡ b
          → NInv sd lead (cond b (cond (ltb s.here.rec.no a.no && (lead && n_ready (numbered m) s)) (n_did (numbered m) s (leaves a.no (acts r l p)) keep) s) (n_did (numbered m) s (leaves s.here.rec.no (acts r l p)) keep))
      go true q = start lead (ltb s.here.rec.no a.no) (n_ready (numbered m) s) h q refl refl
      go false q =
          let c : T (not (starts m p)) = subst (λ (b : Bool). T (not b)) (sym q) tt in
          record {
            led = event_led m lead s (acts r l p) keep c h.led;
            all = λ (j : ℕ). event m B j sd s (acts r l p) keep (user_call a.it keep) c
                (calm_called sd a.it s.here.rec.it r l p keep e q) (h.all j);
          }

  -- ---- an entry is handed over

  -- the oldest entry of the line is gone: in its own dialogue, and in another
  off_same : (j : ℕ) (s : NSys (numbered m)) (t : Sys m) (e : Numbered m.E) (l : List (Numbered m.E))
      → Most m B j s t → Most m B j (n_off (numbered m) s l) (off m t (pick m j l))
  off_same j s t e l h = record { here = h.here; there = record { line = refl; taken = h.there.taken; handed = h.there.handed }; far = h.far; broken = h.broken }

  off_line : (j : ℕ) (s : NSys (numbered m)) (t : Sys m) (e : Numbered m.E) (l : List (Numbered m.E))
      → s.there.line ≡ e ∷ l → eqb e.no j ≡ true → Most m B j s t → t.there.line ≡ e.it ∷ pick m j l
  off_line j s t e l z q h = sym h.there.line ∙ ap (pick m j) z ∙ yes (eqb e.no j) _ _ q

  off_other : (j : ℕ) (s : NSys (numbered m)) (t : Sys m) (e : Numbered m.E) (l : List (Numbered m.E))
      → s.there.line ≡ e ∷ l → eqb e.no j ≡ false → Most m B j s t → Most m B j (n_off (numbered m) s l) t
  off_other j s t e l z q h =
      record { here = h.here; there = record { line = sym (nay (eqb e.no j) _ _ q) ∙ ap (pick m j) (sym z) ∙ h.there.line; taken = h.there.taken; handed = h.there.handed }; far = h.far; broken = h.broken }

  -- what the base carrier does with it
  over_base : (sd : Side) (t : Sys m) (keep : ℕ) (e : m.E) (k : List m.E) (r : m.R) → t.there.line ≡ e ∷ k
      → t.here.rec ≡ r → B.P sd t
      → B.P sd (cond (discards m r e) (off m t k) (did m (off m t k) (m.receive sd r e) keep))
  over_base sd t keep e k r z n h =
      subst (λ (x : m.R). B.P sd (cond (discards m x e) (off m t k) (did m (off m t k) (m.receive sd x e) keep))) n
      (subst (λ (x : List m.E). B.P sd (handed_over m sd t x keep)) z (B.step sd t (hand_over keep) h))

  -- an entry of another dialogue is consumed: there the end is IDLE, and discards it
  stale_got : (sd : Side) (s : NSys (numbered m)) (e : Numbered m.E) (l : List (Numbered m.E))
      → s.there.line ≡ e ∷ l → is_start m e.it ≡ false → eqb e.no s.here.rec.no ≡ false → (j : ℕ)
      → Got m B sd j s → Got m B sd j (n_off (numbered m) s l)
  stale_got sd s e l z b f j g = go (eqb e.no j) refl
    where
      go : (c : Bool) → eqb e.no j ≡ c → Got m B sd j (n_off (numbered m) s l)
      go true q =
          let n = near_none j s g.sys g.sim (differ s.here.rec.no j (λ (x : s.here.rec.no ≡ j). absurd (
          subst T (sym (self e.no) ∙ subst (λ (i : ℕ). eqb e.no i ≡ false)
          (x ∙ sym (eq_no e.no j q)) f) tt))) in
          let d : discards m B.none e.it ≡ true = ap (λ (y : Bool). y && not (is_start m e.it))
          (is_t (idle m B.none) idle_none) ∙ ap not b in
          record {
            sys = off m g.sys (pick m j l);
            sim = record { near = g.sim.near; most = off_same j s g.sys e l g.sim.most };
            keeps = subst (B.P sd) (yes (discards m B.none e.it) _ _ d) (over_base sd g.sys 0 e.it
                (pick m j l) B.none (off_line j s g.sys e l z q g.sim.most) n g.keeps);
          }
      go false q = record { sys = g.sys; sim = record { near = g.sim.near; most = off_other j s g.sys e l z q g.sim.most }; keeps = g.keeps }

  -- an entry of the dialogue that the end holds
  fresh_got : (sd : Side) (s : NSys (numbered m)) (keep : ℕ) (e : Numbered m.E) (l : List (Numbered m.E))
      → s.there.line ≡ e ∷ l → eqb e.no s.here.rec.no ≡ true → (j : ℕ) → Got m B sd j s
      → Got m B sd j (cond (discards m s.here.rec.it e.it) (n_off (numbered m) s l) (n_did (numbered m)
      (n_off (numbered m) s l) (leaves s.here.rec.no (m.receive sd s.here.rec.it e.it)) keep))
  fresh_got sd s keep e l z f j g = go (eqb e.no j) refl
    where
      en : e.no ≡ s.here.rec.no
      en = eq_no e.no s.here.rec.no f

      same : (q : eqb e.no j ≡ true) (d : Bool) (o : Outcome m.R m.E) → Calm m o
          → B.P sd (cond d (off m g.sys (pick m j l)) (did m (off m g.sys (pick m j l)) o keep))
          → Got m B sd j (cond d (n_off (numbered m) s l) (n_did (numbered m) (n_off (numbered m) s l) (leaves s.here.rec.no o) keep))
      same q true o c h = record { sys = off m g.sys (pick m j l); sim = record { near = g.sim.near; most = off_same j s g.sys e l g.sim.most }; keeps = h }
      same q false refused c h = record { sys = off m g.sys (pick m j l); sim = record { near = g.sim.near; most = off_same j s g.sys e l g.sim.most }; keeps = h }
      same q false (acts r k p) c h =
          record {
            sys = did m (off m g.sys (pick m j l)) (acts r k p) keep;
            sim = did_same m B j s.here.rec.no (n_off (numbered m) s l) (off m g.sys (pick m j l)) r k p keep
                (ap (λ (i : ℕ). eqb i j) (sym en) ∙ q) c (off_same j s g.sys e l g.sim.most);
            keeps = h;
          }

      apart : (q : eqb e.no j ≡ false) (d : Bool) (o : Outcome m.R m.E)
          → Got m B sd j (cond d (n_off (numbered m) s l) (n_did (numbered m) (n_off (numbered m) s l) (leaves s.here.rec.no o) keep))
      apart q true o = record { sys = g.sys; sim = record { near = g.sim.near; most = off_other j s g.sys e l z q g.sim.most }; keeps = g.keeps }
      apart q false refused = record { sys = g.sys; sim = record { near = g.sim.near; most = off_other j s g.sys e l z q g.sim.most }; keeps = g.keeps }
      apart q false (acts r k p) =
          let f' = ap (λ (i : ℕ). eqb i j) (sym en) ∙ q in
          record { sys = g.sys; sim = did_other m B j s.here.rec.no (n_off (numbered m) s l) g.sys r k p keep f' (off_other j s g.sys e l z q g.sim.most) (sym (near_none j s g.sys g.sim f')); keeps = g.keeps }

      go : (c : Bool) → eqb e.no j ≡ c
          → Got m B sd j (cond (discards m s.here.rec.it e.it) (n_off (numbered m) s l) (n_did (numbered m) (n_off (numbered m) s l) (leaves s.here.rec.no (m.receive sd s.here.rec.it e.it)) keep))
      go true q =
          same q (discards m s.here.rec.it e.it) (m.receive sd s.here.rec.it e.it)
          (B.calm_receive sd s.here.rec.it e.it)
          (over_base sd g.sys keep e.it (pick m j l) s.here.rec.it
          (off_line j s g.sys e l z q g.sim.most)
          (near_is j s g.sys g.sim (ap (λ (i : ℕ). eqb i j) (sym en) ∙ q)) g.keeps)
      go false q = apart q (discards m s.here.rec.it e.it) (m.receive sd s.here.rec.it e.it)

  -- ---- a start reaches the other end only when that one is IDLE

  -- an IDLE end discards all that is on its way, unless there is a start
  drained : (sd : Side) (l : List m.E) (u : Sys m) → u.there.line ≡ l → T (idle m u.here.rec)
      → has_start m l ≡ false → B.P sd u → B.P sd (off m u [])
  drained sd [] u z i f h = subst (λ (k : List m.E). B.P sd (off m u k)) z h
  drained sd (e ∷ l) u z i f h = go (is_start m e) refl f (drained sd l (off m u l) refl i)
    where
      go : (b : Bool) → is_start m e ≡ b → b || has_start m l ≡ false
          → (has_start m l ≡ false → B.P sd (off m u l) → B.P sd (off m u [])) → B.P sd (off m u [])
      go true q f k = absurd (subst T f tt)
      go false q f k =
          let d : discards m u.here.rec e ≡ true = ap (λ (y : Bool). y && not (is_start m e))
          (is_t (idle m u.here.rec) i) ∙ ap not q in
          k f (subst (B.P sd) (yes (discards m u.here.rec e) _ _ d) (over_base sd u 0 e l u.here.rec z refl h))

  tame_pick : (n j : ℕ) (l : List (Numbered m.E)) → T (tame m n l) → has_start m (pick m j l) ≡ false
  tame_pick n j [] t = refl
  tame_pick n j (x ∷ l) t = go (eqb x.no j) (no_T (is_start m x.it) (tame_head m n x l t))
      (tame_pick n j l (and_r (not (is_start m x.it) && lib.Dec.leb x.no n) _ t))
    where
      go : (b : Bool) → is_start m x.it ≡ false → has_start m (pick m j l) ≡ false
          → has_start m (cond b (x.it ∷ pick m j l) (pick m j l)) ≡ false
      go true q h = ap (λ (y : Bool). y || has_start m (pick m j l)) q ∙ h
      go false q h = h

  -- both lines empty and this end closed: so is the other
  meet : (sd : Side) (u : Sys m) → B.P sd u → u.here.line ≡ [] → u.there.line ≡ [] → m.ctl u.here.rec ≡ closed
      → T (idle m u.there.rec)
  meet Air u h p q c = match_right (m.ctl u.there.rec)
      (subst (λ (x : Control). T (matching x (m.ctl u.there.rec))) c ((B.core u h).ends_match p q))
  meet Ground u h p q c = match_left (m.ctl u.there.rec) (subst
      (λ (x : Control). T (matching (m.ctl u.there.rec) x)) c
      ((B.core (swap m u) (B.flip Ground u h)).ends_match q p))

  heard_idle : (sd : Side) (s : NSys (numbered m)) (e : Numbered m.E) (l : List (Numbered m.E))
      → s.there.line ≡ e ∷ l → is_start m e.it ≡ true → NInv sd false s → T (idle m s.here.rec.it)
  heard_idle sd s e l z b h =
      let k = s.here.rec.no in
      let g = h.all k in
      let t = g.sys in
      let u = subst (λ (x : List (Numbered m.E)). T (orderly m k s.there.rec.no x)) z h.led.up in
      let w = orderly_start m k s.there.rec.no e l b u in
      let n = orderly_le m e.no s.there.rec.no l (orderly_past m k s.there.rec.no e l u) in
      let f = far_none k s t g.sim (above_differ k s.there.rec.no (omega (arith, w, n))) in
      let tl : t.there.line ≡ [] =
      sym g.sim.most.there.line ∙ ap (pick m k) z ∙ nay (eqb e.no k) _ _ (above_differ k e.no w) ∙
      orderly_below m k e.no s.there.rec.no l (orderly_past m k s.there.rec.no e l u) w in
      let fi = subst (λ (x : m.R). T (idle m x)) (sym f) idle_none in
      let hs = ap (has_start m) (sym g.sim.most.here.line) ∙ tame_pick s.there.rec.no k s.here.line h.led.low in
      let d = drained (other sd) t.here.line (swap m t) refl fi hs (B.flip sd t g.keeps) in
      subst (λ (x : m.R). T (idle m x)) (near_is k s t g.sim (self k))
      (meet (other sd) (off m (swap m t) []) d tl refl (ap m.ctl f ∙ B.none_closed))

  -- and then the end leaves with the number of the start, whatever the base step does
  heard_got : (sd : Side) (s : NSys (numbered m)) (keep : ℕ) (e : Numbered m.E) (l : List (Numbered m.E))
      → s.there.line ≡ e ∷ l → is_start m e.it ≡ true → NInv sd false s → s.here.rec.no < e.no
      → (r : m.R) (k : List Body) (p : Sent m.E) → m.receive sd s.here.rec.it e.it ≡ acts r k p
      → T (not (starts m p)) → (j : ℕ)
      → Got m B sd j (n_did (numbered m) (n_off (numbered m) s l) (leaves e.no (acts r k p)) keep)
  heard_got sd s keep e l z b h w r k p o c j = go (eqb e.no j) refl
    where
      cl : m.ctl s.here.rec.it ≡ closed
      cl = closed_here sd s (h.all s.here.rec.no) (heard_idle sd s e l z b h)

      g : Got m B sd j s
      g = h.all j

      go : (x : Bool) → eqb e.no j ≡ x → Got m B sd j (n_did (numbered m) (n_off (numbered m) s l) (leaves e.no (acts r k p)) keep)
      go true q =
          let t = re_rec m g.sys s.here.rec.it in
          let pt = B.re_rec_is sd g.sys s.here.rec.it (sees_closed sd j s g.sys g.sim cl ∙ sym cl) g.keeps in
          let d : discards m s.here.rec.it e.it ≡ false = ap (λ (y : Bool). y && not (is_start m e.it))
          (is_t (idle m s.here.rec.it) (heard_idle sd s e l z b h)) ∙ ap not b in
          record {
            sys = did m (off m t (pick m j l)) (acts r k p) keep;
            sim = did_same m B j e.no (n_off (numbered m) s l) (off m t (pick m j l)) r k p keep q c
                (off_same j s t e l (most_re j s g.sys s.here.rec.it g.sim.most));
            keeps = subst (λ (x : Outcome m.R m.E). B.P sd (did m (off m t (pick m j l)) x keep)) o
                (subst (B.P sd) (nay (discards m s.here.rec.it e.it) _ _ d) (over_base sd t keep e.it
                (pick m j l) s.here.rec.it (off_line j s g.sys e l z q g.sim.most) refl pt));
          }
      go false q =
          record {
            sys = re_rec m g.sys B.none;
            sim = did_other m B j e.no (n_off (numbered m) s l) (re_rec m g.sys B.none) r k p keep q
                (off_other j s (re_rec m g.sys B.none) e l z q (most_re j s g.sys B.none g.sim.most))
                refl;
            keeps = B.re_rec_is sd g.sys B.none (sees_closed sd j s g.sys g.sim cl ∙ sym B.none_closed) g.keeps;
          }

  -- ---- the three together

  -- what a machine with numbers does with an entry, by cases
  met_start : (sd : Side) (r : Numbered m.R) (e : Numbered m.E) → is_start m e.it ≡ true
      → ltb r.no e.no ≡ true → leaves e.no (m.receive sd r.it e.it) ≡ meets_no m sd r e
  met_start sd r e b w = sym (yes (is_start m e.it) _ _ b ∙ yes (ltb r.no e.no) _ _ w)

  met_fresh : (sd : Side) (r : Numbered m.R) (e : Numbered m.E) → is_start m e.it ≡ false
      → eqb e.no r.no ≡ true → leaves r.no (m.receive sd r.it e.it) ≡ meets_no m sd r e
  met_fresh sd r e b w = sym (nay (is_start m e.it) _ _ b ∙ yes (eqb e.no r.no) _ _ w)

  met_stale : (sd : Side) (r : Numbered m.R) (e : Numbered m.E) → is_start m e.it ≡ false
      → eqb e.no r.no ≡ false → refused ≡ meets_no m sd r e
  met_stale sd r e b w = sym (nay (is_start m e.it) _ _ b ∙ nay (eqb e.no r.no) _ _ w)

  -- either way the entry is gone
  same_either : (b : Bool) (s : NSys (numbered m)) → s ≡ cond b s s
  same_either true s = refl
  same_either false s = refl

  calm_over : (sd : Side) (lead : Bool) (s : NSys (numbered m)) (keep : ℕ) (e : Numbered m.E) (l : List (Numbered m.E))
      → s.there.line ≡ e ∷ l → is_start m e.it ≡ false → NInv sd lead s
      → NInv sd lead (n_handed_over (numbered m) sd s (e ∷ l) keep)
  calm_over sd lead s keep e l z b h = go (eqb e.no s.here.rec.no) refl
    where
      either_led : (d : Bool) (o : Outcome m.R m.E) → Calm m o → Led m lead (n_off (numbered m) s l)
          → Led m lead (cond d (n_off (numbered m) s l) (n_did (numbered m) (n_off (numbered m) s l) (leaves s.here.rec.no o) keep))
      either_led true o c k = k
      either_led false o c k = event_led m lead (n_off (numbered m) s l) o keep c k

      go : (c : Bool) → eqb e.no s.here.rec.no ≡ c → NInv sd lead (n_handed_over (numbered m) sd s (e ∷ l) keep)
      go true q =
          subst (λ (o : Outcome (Numbered m.R) (Numbered m.E)). NInv sd lead (cond
          (discards m s.here.rec.it e.it) (n_off (numbered m) s l)
          (n_did (numbered m) (n_off (numbered m) s l) o keep))) (met_fresh sd s.here.rec e b q)
          (record {
            led = either_led (discards m s.here.rec.it e.it) (m.receive sd s.here.rec.it e.it)
                (B.calm_receive sd s.here.rec.it e.it) (off_led m lead s e l z h.led);
            all = λ (j : ℕ). fresh_got sd s keep e l z q j (h.all j);
          })
      go false q =
          subst (λ (o : Outcome (Numbered m.R) (Numbered m.E)). NInv sd lead (cond
          (discards m s.here.rec.it e.it) (n_off (numbered m) s l)
          (n_did (numbered m) (n_off (numbered m) s l) o keep))) (met_stale sd s.here.rec e b q)
          (subst (NInv sd lead) (same_either (discards m s.here.rec.it e.it) (n_off (numbered m) s l))
          (record { led = off_led m lead s e l z h.led; all = λ (j : ℕ). stale_got sd s e l z b q j (h.all j) }))

  start_over : (sd : Side) (s : NSys (numbered m)) (keep : ℕ) (e : Numbered m.E) (l : List (Numbered m.E))
      → s.there.line ≡ e ∷ l → is_start m e.it ≡ true → NInv sd false s
      → NInv sd false (n_handed_over (numbered m) sd s (e ∷ l) keep)
  start_over sd s keep e l z b h =
      subst (NInv sd false) (sym (nay (discards m s.here.rec.it e.it) _ _ d))
      (subst (λ (o : Outcome (Numbered m.R) (Numbered m.E)). NInv sd false (n_did (numbered m) (n_off (numbered m) s l) o keep)) (met_start sd s.here.rec e b (is_t _ (lt→ltb s.here.rec.no e.no w)))
      (go (m.receive sd s.here.rec.it e.it) refl (B.calm_receive sd s.here.rec.it e.it)))
    where
      u : T (orderly m s.here.rec.no s.there.rec.no (e ∷ l))
      u = subst (λ (x : List (Numbered m.E)). T (orderly m s.here.rec.no s.there.rec.no x)) z h.led.up

      w : s.here.rec.no < e.no
      w = orderly_start m s.here.rec.no s.there.rec.no e l b u

      d : discards m s.here.rec.it e.it ≡ false
      d = ap (λ (y : Bool). y && not (is_start m e.it)) (is_t (idle m s.here.rec.it) (heard_idle sd s e l z b h)) ∙ ap not b

      go : (o : Outcome m.R m.E) → m.receive sd s.here.rec.it e.it ≡ o → Calm m o
          → NInv sd false (n_did (numbered m) (n_off (numbered m) s l) (leaves e.no o) keep)
      go refused q c = absurd (B.no_refusal sd s.here.rec.it e.it (T_is (is_start m e.it) b) q)
      go (acts r k p) q c =
          record {
            led = did_low m (n_off (numbered m) s l) e.no r k p keep
                (orderly_past m s.here.rec.no s.there.rec.no e l u) c (off_led m false s e l z h.led);
            all = heard_got sd s keep e l z b h w r k p q c;
          }

  over_keeps : (sd : Side) (lead : Bool) (s : NSys (numbered m)) (keep : ℕ) (l : List (Numbered m.E))
      → s.there.line ≡ l → NInv sd lead s → NInv sd lead (n_handed_over (numbered m) sd s l keep)
  over_keeps sd lead s keep [] z h = h
  over_keeps sd true s keep (e ∷ l) z h = calm_over sd true s keep e l z (no_T (is_start m e.it) (tame_head m
      s.here.rec.no e l
      (subst (λ (x : List (Numbered m.E)). T (tame m s.here.rec.no x)) z h.led.low))) h
  over_keeps sd false s keep (e ∷ l) z h = go (is_start m e.it) refl
    where
      go : (b : Bool) → is_start m e.it ≡ b → NInv sd false (n_handed_over (numbered m) sd s (e ∷ l) keep)
      go true b = start_over sd s keep e l z b h
      go false b = calm_over sd false s keep e l z b h

  -- ---- the carrier turns a start away

  away_got : (sd : Side) (s : NSys (numbered m)) (keep : ℕ) (o : Outcome m.R m.E)
      → m.away sd s.here.rec.it ≡ o → Calm m o → n_may_turn_away (numbered m) s ≡ true → (j : ℕ) → Got m B sd j s
      → Got m B sd j (n_did (numbered m) (n_recalled (numbered m) s) (leaves s.here.rec.no o) keep)
  away_got sd s keep o a c y j g = go (eqb s.here.rec.no j) refl
    where
      same_most : eqb s.here.rec.no j ≡ true → Most m B j (n_recalled (numbered m) s) (recalled m g.sys)
      same_most q =
          let h = g.sim.most in
          record { here = record { line = without_same m s.here.rec.no j s.here.line q ∙ ap (Rattle.pair.proofs.OneDialogue.without_start m) h.here.line; taken = h.here.taken; handed = h.here.handed }; there = h.there; far = h.far; broken = h.broken }

      other_most : eqb s.here.rec.no j ≡ false → Most m B j (n_recalled (numbered m) s) g.sys
      other_most q =
          let h = g.sim.most in
          record { here = record { line = without_other m s.here.rec.no j s.here.line q ∙ h.here.line; taken = h.here.taken; handed = h.here.handed }; there = h.there; far = h.far; broken = h.broken }

      base : eqb s.here.rec.no j ≡ true → B.P sd (did m (recalled m g.sys) o keep)
      base q =
          let n = near_is j s g.sys g.sim q in
          let v : may_turn_away m g.sys ≡ true =
          ap (λ (r : m.R). is (m.ctl r).state StartReq && has_start m g.sys.here.line) n
          ∙ ap (λ (l : List m.E). is (m.ctl s.here.rec.it).state StartReq && has_start m l) (sym g.sim.most.here.line)
          ∙ ap (λ (b : Bool). is (m.ctl s.here.rec.it).state StartReq && b) (sym (subst (λ (i : ℕ). n_has_start
          (numbered m) s.here.rec.no s.here.line ≡ has_start m (pick m i s.here.line))
          (eq_no s.here.rec.no j q) (has_at m s.here.rec.no s.here.line)))
          ∙ y in
          subst (λ (x : Outcome m.R m.E). B.P sd (did m (recalled m g.sys) x keep)) (ap (m.away sd) n ∙ a)
          (subst (B.P sd) (yes (may_turn_away m g.sys) _ _ v) (B.step sd g.sys (turn_away keep) g.keeps))

      same : (o : Outcome m.R m.E) → Calm m o → eqb s.here.rec.no j ≡ true
          → B.P sd (did m (recalled m g.sys) o keep)
          → Got m B sd j (n_did (numbered m) (n_recalled (numbered m) s) (leaves s.here.rec.no o) keep)
      same refused c q h = record { sys = recalled m g.sys; sim = record { near = g.sim.near; most = same_most q }; keeps = h }
      same (acts r l p) c q h = record { sys = did m (recalled m g.sys) (acts r l p) keep; sim = did_same m B j s.here.rec.no (n_recalled (numbered m) s) (recalled m g.sys) r l p keep q c (same_most q); keeps = h }

      apart : (o : Outcome m.R m.E) → eqb s.here.rec.no j ≡ false
          → Got m B sd j (n_did (numbered m) (n_recalled (numbered m) s) (leaves s.here.rec.no o) keep)
      apart refused q = record { sys = g.sys; sim = record { near = g.sim.near; most = other_most q }; keeps = g.keeps }
      apart (acts r l p) q = record { sys = g.sys; sim = did_other m B j s.here.rec.no (n_recalled (numbered m) s) g.sys r l p keep q (other_most q) (sym (near_none j s g.sys g.sim q)); keeps = g.keeps }

      go : (b : Bool) → eqb s.here.rec.no j ≡ b
          → Got m B sd j (n_did (numbered m) (n_recalled (numbered m) s) (leaves s.here.rec.no o) keep)
      go true q = same o c q (base q)
      go false q = apart o q

  away_keeps : (sd : Side) (lead : Bool) (s : NSys (numbered m)) (keep : ℕ) → NInv sd lead s
      → NInv sd lead (n_turned_away (numbered m) sd s keep)
  away_keeps sd lead s keep h = go (n_may_turn_away (numbered m) s) refl
    where
      o : Outcome m.R m.E
      o = m.away sd s.here.rec.it

      go : (b : Bool) → n_may_turn_away (numbered m) s ≡ b
          → NInv sd lead (cond b (n_did (numbered m) (n_recalled (numbered m) s) (leaves s.here.rec.no (m.away sd s.here.rec.it)) keep) s)
      go false q = h
      go true q =
          record {
            led = event_led m lead (n_recalled (numbered m) s) (m.away sd s.here.rec.it) keep
                (B.calm_away sd s.here.rec.it) (recalled_led m lead s h.led);
            all = λ (j : ℕ). away_got sd s keep (m.away sd s.here.rec.it) refl (B.calm_away sd s.here.rec.it) q j (h.all j);
          }

  -- ---- the carrier fails

  told_other : (sd : Side) (j : ℕ) (s : NSys (numbered m)) (t : Sys m) → eqb s.here.rec.no j ≡ false
      → Sim m B j s t → Sim m B j (n_told_lost (numbered m) sd s) t
  told_other sd j s t q h = go (idle m s.here.rec.it) (m.p_abort sd s.here.rec.it)
    where
      go : (b : Bool) (o : Outcome m.R m.E) → Sim m B j (cond b s (n_did (numbered m) s (leaves s.here.rec.no o) 0)) t
      go true o = h
      go false refused = h
      go false (acts r l p) = did_other m B j s.here.rec.no s t r l p 0 q h.most (sym (near_none j s t h q))

  -- an end that is IDLE, or in another dialogue
  told_outside : (sd : Side) (j : ℕ) (s : NSys (numbered m)) (t : Sys m)
      → not (idle m s.here.rec.it) && eqb s.here.rec.no j ≡ false → Sim m B j s t
      → Sim m B j (n_told_lost (numbered m) sd s) t
  told_outside sd j s t q h = go (idle m s.here.rec.it) refl
    where
      go : (b : Bool) → idle m s.here.rec.it ≡ b → Sim m B j (n_told_lost (numbered m) sd s) t
      go true e = rw e h
      go false e = told_other sd j s t (rw e at q) h

  told_sim : (sd : Side) (j : ℕ) (s : NSys (numbered m)) (t : Sys m) → Sim m B j s t
      → Sim m B j (n_told_lost (numbered m) sd s) (told_lost m sd t)
  told_sim sd j s t h = go (eqb s.here.rec.no j) refl
    where
      same : (q : eqb s.here.rec.no j ≡ true) (b : Bool) (o : Outcome m.R m.E) → Calm m o
          → Sim m B j (cond b s (n_did (numbered m) s (leaves s.here.rec.no o) 0)) (cond b t (did m t o 0))
      same q true o c = h
      same q false refused c = h
      same q false (acts r l p) c = did_same m B j s.here.rec.no s t r l p 0 q c h.most

      go : (b : Bool) → eqb s.here.rec.no j ≡ b → Sim m B j (n_told_lost (numbered m) sd s) (told_lost m sd t)
      go true q =
          subst
          (λ (r : m.R). Sim m B j (n_told_lost (numbered m) sd s) (cond (idle m r) t (did m t (m.p_abort sd r) 0)))
          (sym (near_is j s t h q))
          (same q (idle m s.here.rec.it) (m.p_abort sd s.here.rec.it) (B.calm_p_abort sd s.here.rec.it))
      go false q =
          subst
          (λ (r : m.R). Sim m B j (n_told_lost (numbered m) sd s) (cond (idle m r) t (did m t (m.p_abort sd r) 0)))
          (sym (near_none j s t h q))
          (subst (Sim m B j (n_told_lost (numbered m) sd s)) (sym (yes (idle m B.none) t _ (is_t _ idle_none))) (told_other sd j s t q h))

  -- an event at `here` leaves the other end
  did_there : (s : NSys (numbered m)) (o : Outcome (Numbered m.R) (Numbered m.E)) (keep : ℕ)
      → (n_did (numbered m) s o keep).there ≡ s.there
  did_there s refused keep = refl
  did_there s (acts r l nothing) keep = refl
  did_there s (acts r l (puts e)) keep = go (m.sort e.it)
    where
      go : (so : Sort) → (Rattle.pair.specs.Numbered.n_put (numbered m) so s e keep).there ≡ s.there
      go begins = refl
      go breaks = refl
      go plain = refl
  did_there s (acts r l (message e b i)) keep = go (m.sort e.it)
    where
      go : (so : Sort) → (Rattle.pair.specs.Numbered.n_put (numbered m) so s e keep).there ≡ s.there
      go begins = refl
      go breaks = refl
      go plain = refl

  told_there : (sd : Side) (s : NSys (numbered m)) → (n_told_lost (numbered m) sd s).there ≡ s.there
  told_there sd s = go (idle m s.here.rec.it)
    where
      go : (b : Bool) → (cond b s (n_did (numbered m) s (leaves s.here.rec.no (m.p_abort sd s.here.rec.it)) 0)).there ≡ s.there
      go true = refl
      go false = did_there s (leaves s.here.rec.no (m.p_abort sd s.here.rec.it)) 0

  or_no : (a b : Bool) → a || b ≡ false → (a ≡ false) × (b ≡ false)
  or_no true b e = absurd (subst T e tt)
  or_no false b e = (refl, e)

  fail_got : (sd : Side) (s : NSys (numbered m)) (j : ℕ) → Got m B sd j s → Got m B sd j (n_failed (numbered m) sd s)
  fail_got sd s j g = go (alive (numbered m) s j) refl
    where
      h : Most m B j s g.sys
      h = g.sim.most

      go : (b : Bool) → alive (numbered m) s j ≡ b → Got m B sd j (n_failed (numbered m) sd s)
      go true q =
          let e : Sim m B j (n_emptied (numbered m) s) (emptied m g.sys) =
          record {
            near = g.sim.near;
            most = record {
              here = record { line = refl; taken = h.here.taken; handed = h.here.handed };
              there = record { line = refl; taken = h.there.taken; handed = h.there.handed };
              far = h.far;
              broken = ap (λ (z : Bool). z || s.broken j) q;
            };
          } in
          let x = told_sim sd j (n_emptied (numbered m) s) (emptied m g.sys) e in
          let y = swap_sim m B j (n_told_lost (numbered m) sd (n_emptied (numbered m) s)) (told_lost m sd (emptied m g.sys)) x in
          let w = told_sim (other sd) j (n_swap (numbered m) (n_told_lost (numbered m) sd (n_emptied (numbered m) s)))
          (swap m (told_lost m sd (emptied m g.sys))) y in
          record {
            sys = failed m sd g.sys;
            sim = swap_sim m B j (n_told_lost (numbered m) (other sd)
                (n_swap (numbered m) (n_told_lost (numbered m) sd (n_emptied (numbered m) s))))
                (told_lost m (other sd) (swap m (told_lost m sd (emptied m g.sys)))) w;
            keeps = B.step sd g.sys fail g.keeps;
          }
      go false q =
          let a = or_no _ _ q in
          let b = or_no _ _ a.1 in
          let c = or_no _ _ b.1 in
          let e : Sim m B j (n_emptied (numbered m) s) g.sys =
          record {
            near = g.sim.near;
            most = record {
              here = record { line = sym (none_on m j s.here.line c.0) ∙ h.here.line; taken = h.here.taken; handed = h.here.handed };
              there = record { line = sym (none_on m j s.there.line c.1) ∙ h.there.line; taken = h.there.taken; handed = h.there.handed };
              far = h.far;
              broken = ap (λ (z : Bool). z || s.broken j) q ∙ h.broken;
            };
          } in
          let x = told_outside sd j (n_emptied (numbered m) s) g.sys a.0 e in
          let n : not (idle m (n_told_lost (numbered m) sd (n_emptied (numbered m) s)).there.rec.it) && eqb
          (n_told_lost (numbered m) sd (n_emptied (numbered m) s)).there.rec.no j ≡ false =
          ap (λ (z : NParty (numbered m)). not (idle m z.rec.it) && eqb z.rec.no j)
          (told_there sd (n_emptied (numbered m) s)) ∙ b.0 in
          let y = swap_sim m B j (n_told_lost (numbered m) sd (n_emptied (numbered m) s)) g.sys x in
          let w = told_outside (other sd) j (n_swap (numbered m) (n_told_lost (numbered m) sd (n_emptied (numbered m) s)))
          (swap m g.sys) n y in
          record {
            sys = g.sys;
            sim = swap_sim m B j (n_told_lost (numbered m) (other sd)
                (n_swap (numbered m) (n_told_lost (numbered m) sd (n_emptied (numbered m) s)))) (swap m g.sys) w;
            keeps = g.keeps;
          }

  told_led : (sd : Side) (lead : Bool) (s : NSys (numbered m)) → Led m lead s → Led m lead (n_told_lost (numbered m) sd s)
  told_led sd lead s h = go (idle m s.here.rec.it)
      (event_led m lead s (m.p_abort sd s.here.rec.it) 0 (B.calm_p_abort sd s.here.rec.it) h)
    where
      go : (b : Bool) → Led m lead (n_did (numbered m) s (leaves s.here.rec.no (m.p_abort sd s.here.rec.it)) 0)
          → Led m lead (cond b s (n_did (numbered m) s (leaves s.here.rec.no (m.p_abort sd s.here.rec.it)) 0))
      go true k = h
      go false k = k

  fail_led : (sd : Side) (lead : Bool) (s : NSys (numbered m)) → Led m lead s → Led m lead (n_failed (numbered m) sd s)
  fail_led sd true s h =
      let x = told_led sd true (n_emptied (numbered m) s) (emptied_led m true s h) in
      led_swap m false
      (n_told_lost (numbered m) (other sd) (n_swap (numbered m) (n_told_lost (numbered m) sd (n_emptied (numbered m) s))))
      (told_led (other sd) false (n_swap (numbered m) (n_told_lost (numbered m) sd (n_emptied (numbered m) s))) x)
  fail_led sd false s h =
      let x = told_led sd false (n_emptied (numbered m) s) (emptied_led m false s h) in
      led_swap m true
      (n_told_lost (numbered m) (other sd) (n_swap (numbered m) (n_told_lost (numbered m) sd (n_emptied (numbered m) s))))
      (told_led (other sd) true (n_swap (numbered m) (n_told_lost (numbered m) sd (n_emptied (numbered m) s))) x)

  -- ---- every step

  pub n_step_keeps : (sd : Side) (lead : Bool) (s : NSys (numbered m)) (c : Step (Numbered m.A)) → NInv sd lead s
      → NInv sd lead (n_stepped (numbered m) lead sd s c)
  n_step_keeps sd lead s (user_call a keep) h = call_keeps sd lead s a keep (m.call sd s.here.rec.it a.it) refl h
  n_step_keeps sd lead s (hand_over keep) h = over_keeps sd lead s keep s.there.line refl h
  n_step_keeps sd lead s (timer_expires_of keep) h =
      record {
        led = event_led m lead s (m.expiry sd s.here.rec.it) keep (B.calm_expiry sd s.here.rec.it) h.led;
        all = λ (j : ℕ). event m B j sd s (m.expiry sd s.here.rec.it) keep (timer_expires_of keep)
            (B.calm_expiry sd s.here.rec.it)
            (λ (t : Sys m) (e : t.here.rec ≡ s.here.rec.it). ap (λ (r : m.R). did m t (m.expiry sd r) keep) e)
            (h.all j);
      }
  n_step_keeps sd lead s (error_reported keep) h =
      record {
        led = event_led m lead s (m.error sd s.here.rec.it) keep (B.calm_error sd s.here.rec.it) h.led;
        all = λ (j : ℕ). event m B j sd s (m.error sd s.here.rec.it) keep (error_reported keep)
            (B.calm_error sd s.here.rec.it)
            (λ (t : Sys m) (e : t.here.rec ≡ s.here.rec.it). ap (λ (r : m.R). did m t (m.error sd r) keep) e)
            (h.all j);
      }
  n_step_keeps sd lead s (turn_away keep) h = away_keeps sd lead s keep h
  n_step_keeps sd lead s fail h = record { led = fail_led sd lead s h.led; all = λ (j : ℕ). fail_got sd s j (h.all j) }

  -- ---- nothing that is handed over is answered

  leaves_quiet : (v : ℕ) (o : Outcome m.R m.E) → Quiet o → Quiet (leaves v o)
  leaves_quiet v refused x = tt
  leaves_quiet v (acts r l nothing) x = tt
  leaves_quiet v (acts r l (puts e)) x = x
  leaves_quiet v (acts r l (message e b i)) x = x

  -- what the base says of an entry e that record r meets
  base_quiet : (sd : Side) (t : Sys m) (r : m.R) (e : m.E) (k : List m.E) → B.P sd t → t.here.rec ≡ r
      → t.there.line ≡ e ∷ k → discards m r e ≡ false → Quiet (m.receive sd r e)
  base_quiet sd t r e k h n z = subst (λ (l : List m.E). HeadQuiet m sd r l) z
      (subst (λ (x : m.R). HeadQuiet m sd x t.there.line) n (B.quiet sd t h))

  calm_quiet : (sd : Side) (lead : Bool) (s : NSys (numbered m)) (e : Numbered m.E) (l : List (Numbered m.E))
      → s.there.line ≡ e ∷ l → is_start m e.it ≡ false → NInv sd lead s
      → discards m s.here.rec.it e.it ≡ false → Quiet (meets_no m sd s.here.rec e)
  calm_quiet sd lead s e l z b h d = go (eqb e.no s.here.rec.no) refl
    where
      g : Got m B sd s.here.rec.no s
      g = h.all s.here.rec.no

      go : (c : Bool) → eqb e.no s.here.rec.no ≡ c → Quiet (meets_no m sd s.here.rec e)
      go true q =
          subst Quiet (met_fresh sd s.here.rec e b q) (leaves_quiet s.here.rec.no (m.receive sd s.here.rec.it e.it)
          (base_quiet sd g.sys s.here.rec.it e.it (pick m s.here.rec.no l) g.keeps
          (near_is s.here.rec.no s g.sys g.sim (self s.here.rec.no))
          (off_line s.here.rec.no s g.sys e l z q g.sim.most) d))
      go false q = subst Quiet (met_stale sd s.here.rec e b q) tt

  start_quiet : (sd : Side) (s : NSys (numbered m)) (e : Numbered m.E) (l : List (Numbered m.E))
      → s.there.line ≡ e ∷ l → is_start m e.it ≡ true → NInv sd false s
      → discards m s.here.rec.it e.it ≡ false → Quiet (meets_no m sd s.here.rec e)
  start_quiet sd s e l z b h d =
      let u = subst (λ (x : List (Numbered m.E)). T (orderly m s.here.rec.no s.there.rec.no x)) z h.led.up in
      let w = orderly_start m s.here.rec.no s.there.rec.no e l b u in
      let g = h.all e.no in
      let cl = closed_here sd s (h.all s.here.rec.no) (heard_idle sd s e l z b h) in
      let pt = B.re_rec_is sd g.sys s.here.rec.it (sees_closed sd e.no s g.sys g.sim cl ∙ sym cl) g.keeps in
      subst Quiet (met_start sd s.here.rec e b (is_t _ (lt→ltb s.here.rec.no e.no w))) (leaves_quiet e.no (m.receive sd s.here.rec.it e.it)
      (base_quiet sd (re_rec m g.sys s.here.rec.it) s.here.rec.it e.it (pick m e.no l) pt refl
      (off_line e.no s g.sys e l z (self e.no) g.sim.most) d))

  pub n_quiet : (sd : Side) (lead : Bool) (s : NSys (numbered m)) (l : List (Numbered m.E)) → s.there.line ≡ l
      → NInv sd lead s → HeadQuiet (numbered m).at sd s.here.rec l
  n_quiet sd lead s [] z h = tt
  n_quiet sd true s (e ∷ l) z h = calm_quiet sd true s e l z (no_T (is_start m e.it) (tame_head m s.here.rec.no e
      l (subst (λ (x : List (Numbered m.E)). T (tame m s.here.rec.no x)) z h.led.low))) h
  n_quiet sd false s (e ∷ l) z h = go (is_start m e.it) refl
    where
      go : (b : Bool) → is_start m e.it ≡ b → HeadQuiet (numbered m).at sd s.here.rec (e ∷ l)
      go true b = start_quiet sd s e l z b h
      go false b = calm_quiet sd false s e l z b h
