-- Events: a call of the user, the clock, a primitive that is handed over, the carrier's failure. (See Steps.)
-- Assumes nothing.
use mathlib.Core.Path.{◌≡◌, ap, ◌∙◌}
use mathlib.Core.Bool.{Bool, true, false, not, cond, ◌&&◌, ◌||◌}
use mathlib.Core.List.{List, [], ◌∷◌, ◌++◌}
use Prim.Native.Nat.{ℕ, suc}
use native.Mathlib.Omega.{arith}
use borrow.Author.Tests.{ltb-true}
use lib.Dec.{eqb, ltb}
use lib.ListN.{length}
use Rattle.pair.specs.Names.{Side, Control, Call, StartRequest, TimerExpiry, SystemError, DStart, DAbort, is_idle, sends}
use Rattle.pair.specs.Carrier.{Body, nothing, puts, message, Outcome, refused, acts, Sort, begins, breaks, plain, begins?, user_call, hand_over, timer_expires_of, error_reported}
use Rattle.pair.specs.Numbered.{NSys, Numbered, mark, more, n_cut, n_put, n_off, n_did, n_left, n_ready, n_called}
use Rattle.pair.proofs.NumberedLines.{self, differ}
use Rattle.pair.proofs.ControlMachine.{Held, Ent, ent, ask, sort_of}
use Rattle.duties.specs.Memory.{Notes, tells, told_broken}
use Rattle.duties.specs.Host.{right, Power, up, Hosts, happens, breaks?, commits, afterwards, hands_out, speaks, aborting, d_stepped}
use Rattle.duties.proofs.EndConfirmed.{answers_yes}
use Rattle.duties.proofs.ControlHosts.{letters}
use Rattle.moves.specs.declared.Held.{Held as Holds}
use Rattle.moves.specs.declared.Done.TheVariants.{Sends, Aborts}
use Rattle.moves.specs.Machine.{is_message, holding, moved_by, called_of}
use Rattle.moves_laws.proofs.Machine.{rec_of, call_done, call_is, expiry_is, error_is}
use Rattle.moves_laws.specs.Pages.{Beside}
use Rattle.moves_laws.specs.Pages as pages
use Rattle.moves_laws.proofs.Steps.{M, Page, page, state_of, out_none, out_one, Lands}
use Rattle.std.specs.Prelude.{None, Some}

abbrev pub told_by : Bool → Holds → Holds → Notes → Notes
told_by b r f n = pages.told_by M b (rec_of r) (rec_of f) n

-- what is beside a page when messages were handed out in a dialogue
abbrev pub handing : ℕ → List Body → Beside → Beside
handing v l g = record { taken = g.taken; handed = more g.handed v l; jobs = g.jobs; done = g.done; log = g.log; seen = g.seen }

module _ (text : Side → ℕ → Body) (fresh : Side → Numbered Held) where
  -- the state that an event leaves at the ends, kept with the notes m
  abbrev pub kept : Hosts M → Notes → NSys M → Hosts M
  kept s m t = record { ends = t; here = commits M right (letters text) fresh answers_yes t.here.rec m (suc s.here.unsent) (hands_out M right (letters text) fresh answers_yes s.ends t) s.here; there = s.there }

  abbrev pub noted : Bool → Hosts M → NSys M → Notes
  noted b s t = afterwards M right (letters text) fresh answers_yes b s.ends.here.rec t.here.rec s.here.notes

  -- ---- calls

  -- by the sort of the primitive that it sends
  abbrev sent_as : Bool → Hosts M → ℕ → Holds → Numbered Ent → Sort → Hosts M
  sent_as may s left f e x =
      let t : NSys M = cond (not (begins? x) || (may && n_ready M s.ends)) (n_left M (n_put M x s.ends e left) (rec_of f) []) s.ends in
      kept s (noted (breaks? x) s t) t

  abbrev by_call : Bool → Hosts M → ℕ → Outcome (Numbered Held) (Numbered Ent) → Hosts M
  by_call may s left x =
      let t : NSys M = n_called M may s.ends x left in
      cond (not (speaks M right (letters text) fresh answers_yes x))
      (kept s (noted (aborting M right (letters text) fresh answers_yes x) s t) t) s

  -- a call of the user that is no message, no start and no abort
  pub call_lands : (may : Bool) (sd : Side) (r : Holds) (l : List (Numbered Ent)) (n : Notes) (u : ℕ) (z : Page) (br : ℕ → Bool) (g k : Beside) (a : Call) (c : Control) (left : ℕ)
      → is_message a ≡ false → sort_of (sends a) ≡ plain
      → called_of sd r a 0 0 ≡ Some (Sends (holding c r.number r.highest))
      → Lands text fresh may sd (page r l n u false up) z br (happens (user_call (mark 0 (ask a [] 0)) left)) (page (holding c r.number r.highest) (l ++ (mark r.number (ent (sends a) []) ∷ [])) n (suc u) false up) z br g k
  call_lands may sd r l n u z br g k a c left m p h =
      let s : Hosts M = state_of (page r l n u false up) z br g k in
      let f : Holds = holding c r.number r.highest in
      let e : Numbered Ent = mark r.number (ent (sends a) []) in
      let o : M.at.call sd (rec_of r) (mark 0 (ask a [] 0)) ≡ acts (rec_of f) [] (puts e) = call_is sd r a 0 [] 0 ∙ ap
      (call_done a [] 0) h ∙ ap (λ (x : Bool). acts (rec_of f) [] (cond x (message e [] 0) (puts e))) m in
      record {
        near = handing r.number [] g;
        far = k;
        lands =
            ap (by_call may s left) o
            ∙ ap (sent_as may s left f e) p
            ∙ ap (λ (x : Bool). state_of (page f (l ++ (e ∷ [])) (cond (not x) (tells told_broken n) n) (suc u) (
            hands_out M right (letters text) fresh answers_yes s.ends
            (n_left M (n_put M plain s.ends e left) (rec_of f) []) || false) up) z br
            (handing r.number [] g) k) (self r.number)
            ∙ ap (λ (x : Bool). state_of (page f (l ++ (e ∷ [])) n (suc u) x up) z br (handing r.number [] g) k)
            (out_none g.handed r.number);
      }

  -- an abort of the user: `left` of the entries before it in this dialogue stay on the line
  pub abort_lands : (may : Bool) (sd : Side) (r : Holds) (l : List (Numbered Ent)) (n : Notes) (u : ℕ) (z : Page) (br : ℕ → Bool) (g k : Beside) (a : Call) (c : Control) (left : ℕ)
      → sort_of (sends a) ≡ breaks → called_of sd r a 0 0 ≡ Some (Aborts (holding c r.number r.highest))
      → Lands text fresh may sd (page r l n u false up) z br (happens (user_call (mark 0 (ask a [] 0)) left)) (page (holding c r.number r.highest) (n_cut M left l (mark r.number (ent (sends a) []))) (tells told_broken n) (suc u) false up) z (λ (j : ℕ). eqb r.number j || br j) g k
  abort_lands may sd r l n u z br g k a c left p h =
      let s : Hosts M = state_of (page r l n u false up) z br g k in
      let f : Holds = holding c r.number r.highest in
      let e : Numbered Ent = mark r.number (ent (sends a) []) in
      let o : M.at.call sd (rec_of r) (mark 0 (ask a [] 0)) ≡ acts (rec_of f) [] (puts e) = call_is sd r a 0 [] 0 ∙ ap
      (call_done a [] 0) h in
      record {
        near = handing r.number [] g;
        far = k;
        lands =
            ap (by_call may s left) o
            ∙ ap (sent_as may s left f e) p
            ∙ ap (λ (x : Bool). state_of (page f (n_cut M left l e) (tells told_broken n) (suc u) x up) z
            (λ (j : ℕ). eqb r.number j || br j) (handing r.number [] g) k)
            (out_none g.handed r.number);
      }

  -- a start: from the side that starts, both ends IDLE, with a number above the record's
  pub start_lands : (sd : Side) (r : Holds) (l : List (Numbered Ent)) (n : Notes) (u : ℕ) (t : Holds) (y : List (Numbered Ent)) (o : Notes) (w : ℕ) (x : Bool) (d : Power) (br : ℕ → Bool) (g k : Beside) (m : Bool) (v : ℕ)
      → ltb r.number v ≡ true → (is_idle r.control && is_idle t.control) ≡ true
      → called_of sd r (StartRequest m) v 0 ≡ Some (Sends (moved_by r (StartRequest m) v 0))
      → Lands text fresh true sd (page r l n u false up) (page t y o w x d) br (happens (user_call (mark v (ask (StartRequest m) [] 0)) 0)) (page (moved_by r (StartRequest m) v 0) (l ++ (mark v (ent (DStart m) []) ∷ [])) (tells told_broken n) (suc u) false up) (page t y o w x d) br g k
  start_lands sd r l n u t y o w x d br g k m v b i h =
      let s : Hosts M = state_of (page r l n u false up) (page t y o w x d) br g k in
      let f : Holds = moved_by r (StartRequest m) v 0 in
      let e : Numbered Ent = mark v (ent (DStart m) []) in
      let c : M.at.call sd (rec_of r) (mark v (ask (StartRequest m) [] 0)) ≡ acts (rec_of f) [] (puts e) = call_is sd r
      (StartRequest m) v [] 0 ∙ ap (call_done (StartRequest m) [] 0) h in
      let a : NSys M = n_left M (n_put M begins s.ends e 0) (rec_of f) [] in
      let q : eqb r.number v ≡ false = differ r.number v (λ (z : r.number ≡ v). omega (arith, z, ltb-true r.number v b)) in
      record {
        near = handing v [] g;
        far = k;
        lands =
            ap (by_call true s 0) c
            ∙ ap (λ (z : Bool). let p : NSys M = cond z a s.ends in kept s (noted false s p) p) i
            ∙ ap (λ (z : Bool). state_of (page f (l ++ (e ∷ [])) (cond (not z) (tells told_broken n) n) (suc u)
            (hands_out M right (letters text) fresh answers_yes s.ends a || false) up) (page t y o w x d)
            br (handing v [] g) k) q
            ∙ ap (λ (z : Bool). state_of (page f (l ++ (e ∷ [])) (tells told_broken n) (suc u) z up) (page t y o w x d)
            br (handing v [] g) k) (out_none g.handed v);
      }

  abbrev by_clock : Hosts M → ℕ → Outcome (Numbered Held) (Numbered Ent) → Hosts M
  by_clock s left x = let t : NSys M = n_did M s.ends x left in kept s (noted (aborting M right (letters text) fresh answers_yes x) s t) t

  -- t-start expires
  pub expiry_lands : (may : Bool) (sd : Side) (r : Holds) (l : List (Numbered Ent)) (n : Notes) (u : ℕ) (z : Page) (br : ℕ → Bool) (g k : Beside) (c : Control) (left : ℕ)
      → called_of sd r TimerExpiry 0 0 ≡ Some (Aborts (holding c r.number r.highest))
      → Lands text fresh may sd (page r l n u false up) z br (happens (timer_expires_of left)) (page (holding c r.number r.highest) (n_cut M left l (mark r.number (ent DAbort []))) (tells told_broken n) (suc u) false up) z (λ (j : ℕ). eqb r.number j || br j) g k
  expiry_lands may sd r l n u z br g k c left h =
      let s : Hosts M = state_of (page r l n u false up) z br g k in
      let f : Holds = holding c r.number r.highest in
      record {
        near = handing r.number [] g;
        far = k;
        lands =
            ap (by_clock s left) (expiry_is sd r ∙ ap (call_done TimerExpiry [] 0) h)
            ∙ ap (λ (x : Bool). state_of
            (page f (n_cut M left l (mark r.number (ent DAbort []))) (tells told_broken n) (suc u) x up) z
            (λ (j : ℕ). eqb r.number j || br j) (handing r.number [] g) k)
            (out_none g.handed r.number);
      }

  -- a system error
  pub error_lands : (may : Bool) (sd : Side) (r : Holds) (l : List (Numbered Ent)) (n : Notes) (u : ℕ) (z : Page) (br : ℕ → Bool) (g k : Beside) (c : Control) (left : ℕ)
      → called_of sd r SystemError 0 0 ≡ Some (Aborts (holding c r.number r.highest))
      → Lands text fresh may sd (page r l n u false up) z br (happens (error_reported left)) (page (holding c r.number r.highest) (n_cut M left l (mark r.number (ent DAbort []))) (tells told_broken n) (suc u) false up) z (λ (j : ℕ). eqb r.number j || br j) g k
  error_lands may sd r l n u z br g k c left h =
      let s : Hosts M = state_of (page r l n u false up) z br g k in
      let f : Holds = holding c r.number r.highest in
      record {
        near = handing r.number [] g;
        far = k;
        lands =
            ap (by_clock s left) (error_is sd r ∙ ap (call_done SystemError [] 0) h)
            ∙ ap (λ (x : Bool). state_of
            (page f (n_cut M left l (mark r.number (ent DAbort []))) (tells told_broken n) (suc u) x up) z
            (λ (j : ℕ). eqb r.number j || br j) (handing r.number [] g) k)
            (out_none g.handed r.number);
      }

  -- a system error at an IDLE end does nothing
  pub error_idle_lands : (may : Bool) (sd : Side) (r : Holds) (l : List (Numbered Ent)) (n : Notes) (u : ℕ) (z : Page) (br : ℕ → Bool) (g k : Beside) (left : ℕ)
      → called_of sd r SystemError 0 0 ≡ None
      → Lands text fresh may sd (page r l n u false up) z br (happens (error_reported left)) (page r l n (suc u) false up) z br g k
  error_idle_lands may sd r l n u z br g k left h =
      let s : Hosts M = state_of (page r l n u false up) z br g k in
      record {
        near = g;
        far = k;
        lands =
            ap (by_clock s left) (error_is sd r ∙ ap (call_done SystemError [] 0) h)
            ∙ ap (λ (x : Bool). state_of (page r l (cond (not x) (tells told_broken n) n) (suc u)
            (not (eqb (length (g.handed r.number)) (length (g.handed r.number))) || false) up) z br
            g k) (self r.number)
            ∙ ap (λ (x : Bool). state_of (page r l n (suc u) (not x || false) up) z br g k) (self (length (g.handed r.number)));
      }

  -- ---- a primitive that is handed over: the first of the other line, which has left its host

  -- the host sees that it breaks the dialogue
  abbrev broken_by : Holds → Numbered Ent → Bool
  broken_by r e = breaks? (sort_of e.it.kind) && eqb e.no r.number

  -- a: it has left; d: it is discarded; x: what it does
  abbrev heard_as : Side → Hosts M → Numbered Ent → List (Numbered Ent) → ℕ → Holds → Bool → Bool → Outcome
      (Numbered Held) (Numbered Ent) → Hosts M
  heard_as sd s e m left r a d x =
      let t : NSys M = cond d (n_off M s.ends m) (n_did M (n_off M s.ends m) x left) in
      cond a (kept s (noted (broken_by r e) s t) t) s

  module _ (may : Bool) (sd : Side) (r : Holds) (l : List (Numbered Ent)) (n : Notes) (u : ℕ) (t : Holds) (e : Numbered Ent) (m : List (Numbered Ent)) (o : Notes) (w : ℕ) (y : Bool) (d : Power) (br : ℕ → Bool) (g k : Beside) (left : ℕ) (a : ltb w (length (e ∷ m)) ≡ true) where
    -- it says nothing to this end: an IDLE end discards it
    pub discard_lands : (is_idle r.control && not (begins? (sort_of e.it.kind))) ≡ true
        → Lands text fresh may sd (page r l n u false up) (page t (e ∷ m) o w y d) br (happens (hand_over left)) (page r l (told_by (broken_by r e) r r n) (suc u) false up) (page t m o w y d) br g k
    discard_lands i =
        record {
          near = g;
          far = k;
          lands =
              ap (λ (x : Bool). heard_as sd (state_of (page r l n u false up) (page t (e ∷ m) o w y d) br g k) e m left r
              x (is_idle r.control && not (begins? (sort_of e.it.kind))) (M.at.receive sd (rec_of r) e)) a
              ∙ ap (λ (x : Bool). heard_as sd (state_of (page r l n u false up) (page t (e ∷ m) o w y d) br g k) e m left
              r true x (M.at.receive sd (rec_of r) e)) i
              ∙ ap (λ (x : Bool). state_of (page r l (told_by (broken_by r e) r r n) (suc u) (not x || false) up)
              (page t m o w y d) br g k) (self (length (g.handed r.number)));
        }

    module _ (i : (is_idle r.control && not (begins? (sort_of e.it.kind))) ≡ false) where
      arrives_as : (x : Outcome (Numbered Held) (Numbered Ent)) → M.at.receive sd (rec_of r) e ≡ x
          → d_stepped M right (letters text) fresh answers_yes may sd (state_of (page r l n u false up) (page t (e ∷ m) o w y d) br g k) (happens (hand_over left)) ≡ heard_as sd (state_of (page r l n u false up) (page t (e ∷ m) o w y d) br g k) e m left r true false x
      arrives_as x h =
          ap (λ (b : Bool). heard_as sd (state_of (page r l n u false up) (page t (e ∷ m) o w y d) br g k) e m left r b
          (is_idle r.control && not (begins? (sort_of e.it.kind))) (M.at.receive sd (rec_of r) e)) a
          ∙ ap (λ (b : Bool). heard_as sd (state_of (page r l n u false up) (page t (e ∷ m) o w y d) br g k) e m left r
          true b (M.at.receive sd (rec_of r) e)) i
          ∙ ap (heard_as sd (state_of (page r l n u false up) (page t (e ∷ m) o w y d) br g k) e m left r true false) h

      -- or it is stale
      pub stale_lands : M.at.receive sd (rec_of r) e ≡ refused
          → Lands text fresh may sd (page r l n u false up) (page t (e ∷ m) o w y d) br (happens (hand_over left)) (page r l (told_by (broken_by r e) r r n) (suc u) false up) (page t m o w y d) br g k
      stale_lands h =
          record {
            near = g;
            far = k;
            lands =
                arrives_as refused h
                ∙ ap (λ (x : Bool). state_of (page r l (told_by (broken_by r e) r r n) (suc u) (not x || false) up)
                (page t m o w y d) br g k) (self (length (g.handed r.number)));
          }

      -- it changes the record, and nothing is sent
      pub quiet_lands : (f : Holds) → M.at.receive sd (rec_of r) e ≡ acts (rec_of f) [] nothing
          → Lands text fresh may sd (page r l n u false up) (page t (e ∷ m) o w y d) br (happens (hand_over left)) (page f l (told_by (broken_by r e) r f n) (suc u) false up) (page t m o w y d) br g k
      quiet_lands f h =
          record {
            near = handing f.number [] g;
            far = k;
            lands =
                arrives_as (acts (rec_of f) [] nothing) h
                ∙ ap (λ (x : Bool). state_of (page f l (told_by (broken_by r e) r f n) (suc u) x up) (page t m o w y d) br
                (handing f.number [] g) k) (out_none g.handed f.number);
          }

      -- its message is handed out
      pub message_lands : (f : Holds) (b : Body) → M.at.receive sd (rec_of r) e ≡ acts (rec_of f) (b ∷ []) nothing
          → Lands text fresh may sd (page r l n u false up) (page t (e ∷ m) o w y d) br (happens (hand_over left)) (page f l (told_by (broken_by r e) r f n) (suc u) true up) (page t m o w y d) br g k
      message_lands f b h =
          record {
            near = handing f.number (b ∷ []) g;
            far = k;
            lands =
                arrives_as (acts (rec_of f) (b ∷ []) nothing) h
                ∙ ap (λ (x : Bool). state_of (page f l (told_by (broken_by r e) r f n) (suc u) x up) (page t m o w y d) br
                (handing f.number (b ∷ []) g) k) (out_one g.handed f.number b);
          }

      -- it is answered by a D-ABORT
      pub answer_lands : (f : Holds)
          → M.at.receive sd (rec_of r) e ≡ acts (rec_of f) [] (puts (mark f.number (ent DAbort [])))
          → Lands text fresh may sd (page r l n u false up) (page t (e ∷ m) o w y d) br (happens (hand_over left)) (page f (n_cut M left l (mark f.number (ent DAbort []))) (told_by (broken_by r e) r f n) (suc u) false up) (page t m o w y d) (λ (j : ℕ). eqb f.number j || br j) g k
      answer_lands f h =
          record {
            near = handing f.number [] g;
            far = k;
            lands =
                arrives_as (acts (rec_of f) [] (puts (mark f.number (ent DAbort [])))) h
                ∙ ap (λ (x : Bool). state_of (page f (n_cut M left l (mark f.number (ent DAbort [])))
                (told_by (broken_by r e) r f n) (suc u) x up) (page t m o w y d)
                (λ (j : ℕ). eqb f.number j || br j) (handing f.number [] g) k)
                (out_none g.handed f.number);
          }
