-- What the program replay does to the pages of two ends is what a step of two hosts does that keep their duties. A page has what the program holds of one end;
-- what no page has (the histories, and what was shown) goes on beside it.
-- Assumes nothing.
use mathlib.Core.Path.{◌≡◌, refl, ap, ◌∙◌}
use mathlib.Core.Bool.{Bool, true, false, not, cond, ◌&&◌, ◌||◌}
use mathlib.Core.List.{List, [], ◌∷◌, ◌++◌}
use Prim.Native.Nat.{ℕ, suc}
use native.Mathlib.Omega.{arith}
use lib.Dec.{eqb}
use lib.ListN.{length}
use Rattle.pair.specs.Names.{Side, MessageRequest, DData}
use Rattle.pair.specs.Carrier.{Body, message, Outcome, acts, Step}
use Rattle.pair.specs.Numbered.{NMachine, NParty, NSys, Numbered, mark, more, n_called}
use Rattle.pair.proofs.NumberedLines.{self, differ}
use Rattle.pair.proofs.ControlMachine.{Held, Ent, ent, Ask, control}
use Rattle.pair.proofs.NumberedMachine.{numbered}
use Rattle.duties.specs.Memory.{Notes, is_decided, takes, declines, tells, told_ended, told_broken, Took}
use Rattle.duties.specs.Host.{right, Power, up, apart, down, Host, Hosts, Act, deliver, lay_aside, happens, shows, release, acknowledge, connection_released, give_up, power_fails, cut_off, commits, logs, afterwards, hands_out, taking, refusing, offered, settled}
use Rattle.duties.proofs.EndConfirmed.{answers_yes}
use Rattle.duties.proofs.ControlHosts.{letters}
use Rattle.moves.specs.declared.Held.{Held as Holds}
use Rattle.moves.specs.declared.Done.TheVariants.{Sends}
use Rattle.moves.specs.Machine.{may_do, moved_by}
use Rattle.moves_laws.specs.Pages.{Page as PageOf, Beside, is_released}
use Rattle.moves_laws.specs.Pages as pages
use Rattle.moves_laws.proofs.Machine.{rec_of, call_done, call_is}
use Rattle.std.specs.Prelude.{None, Some}

-- the machine
abbrev pub M : NMachine
M = numbered control

abbrev pub Page : Type 0
Page = PageOf M

abbrev pub page : Holds → List (Numbered Ent) → Notes → ℕ → Bool → Power → Page
page r l n u w p = record { rec = rec_of r; line = l; notes = n; unsent = u; waiting = w; power = p }

abbrev pub party_of : Page → Beside → NParty M
party_of = pages.party_of M

abbrev pub host_of : Page → Beside → Host M
host_of = pages.host_of M

abbrev pub state_of : Page → Page → (ℕ → Bool) → Beside → Beside → Hosts M
state_of = pages.state_of M

-- the act leads from these pages to those
abbrev pub Lands : (Side → ℕ → Body) → (Side → Numbered Held) → Bool → Side → Page → Page → (ℕ → Bool) → Act
    (Numbered Ask) → Page → Page → (ℕ → Bool) → Beside → Beside → Type 0
Lands text fresh = pages.Lands M (letters text) fresh answers_yes

-- ---- small facts

app_nil : {X : Type 0} (l : List X) → l ++ [] ≡ l
app_nil [] = refl
app_nil (x ∷ l) = ap (λ (t : List _). x ∷ t) (app_nil l)

length_snoc : {X : Type 0} (l : List X) (x : X) → length (l ++ (x ∷ [])) ≡ suc (length l)
length_snoc [] x = refl
length_snoc (y ∷ l) x = ap suc (length_snoc l x)

-- no message was handed out
pub out_none : (f : ℕ → List Body) (n : ℕ) → (not (eqb (length (f n)) (length (more f n [] n))) || false) ≡ false
out_none f n =
    ap (λ (b : Bool). not (eqb (length (f n)) (length (cond b (f n ++ []) (f n)))) || false) (self n)
    ∙ ap (λ (l : List Body). not (eqb (length (f n)) (length l)) || false) (app_nil (f n))
    ∙ ap (λ (b : Bool). not b || false) (self (length (f n)))

-- one was
pub out_one : (f : ℕ → List Body) (n : ℕ) (b : Body) → (not (eqb (length (f n)) (length (more f n (b ∷ []) n))) || false) ≡ true
out_one f n b =
    ap (λ (t : Bool). not (eqb (length (f n)) (length (cond t (f n ++ (b ∷ [])) (f n)))) || false) (self n)
    ∙ ap (λ (m : ℕ). not (eqb (length (f n)) m) || false) (length_snoc (f n) b)
    ∙ ap (λ (t : Bool). not t || false)
    (differ (length (f n)) (suc (length (f n))) (λ (e : length (f n) ≡ suc (length (f n))). omega (arith, e)))

module _ (text : Side → ℕ → Body) (fresh : Side → Numbered Held) where
  -- ---- the host alone

  -- refused without the card, or by it: undecided before
  pub refuses_lands : (may : Bool) (sd : Side) (r : Holds) (l : List (Numbered Ent)) (n : Notes) (u : ℕ) (w : Bool) (z : Page) (br : ℕ → Bool) (g k : Beside) (j : ℕ)
      → is_decided (n.decision j) ≡ false
      → Lands text fresh may sd (page r l n u w up) z br (lay_aside j) (page r l (declines j n) u w up) z br g k
  refuses_lands may sd r l n u w z br g k j d =
      let s : Hosts M = state_of (page r l n u w up) z br g k in
      record { near = g; far = k; lands = ap (λ (b : Bool). cond b s (refusing M right (letters text) fresh answers_yes s j)) d }

  -- the same of a host without the carrier
  pub refuses_apart_lands : (may : Bool) (sd : Side) (r : Holds) (l : List (Numbered Ent)) (n : Notes) (u : ℕ) (w : Bool) (z : Page) (br : ℕ → Bool) (g k : Beside) (j : ℕ)
      → is_decided (n.decision j) ≡ false
      → Lands text fresh may sd (page r l n u w apart) z br (lay_aside j) (page r l (declines j n) u w apart) z br g k
  refuses_apart_lands may sd r l n u w z br g k j d =
      let s : Hosts M = state_of (page r l n u w apart) z br g k in
      record { near = g; far = k; lands = ap (λ (b : Bool). cond b s (refusing M right (letters text) fresh answers_yes s j)) d }

  pub shows_lands : (may : Bool) (sd : Side) (r : Holds) (l : List (Numbered Ent)) (n : Notes) (u : ℕ) (w : Bool) (z : Page) (br : ℕ → Bool) (g k : Beside)
      → Lands text fresh may sd (page r l n u w up) z br shows (page r l n u false up) z br g k
  shows_lands may sd r l n u w z br g k =
      record {
        near = record { taken = g.taken; handed = g.handed; jobs = g.jobs; done = g.done; log = g.log; seen = λ (v : ℕ). cond (eqb r.number v) (length (g.handed v)) (g.seen v) };
        far = k;
        lands = refl;
      }

  pub sends_lands : (may : Bool) (sd : Side) (r : Holds) (l : List (Numbered Ent)) (n : Notes) (u : ℕ) (w : Bool) (z : Page) (br : ℕ → Bool) (g k : Beside)
      → Lands text fresh may sd (page r l n (suc u) w up) z br release (page r l n u w up) z br g k
  sends_lands may sd r l n u w z br g k = record { near = g; far = k; lands = refl }

  pub gives_up_lands : (may : Bool) (sd : Side) (r : Holds) (l : List (Numbered Ent)) (n : Notes) (u : ℕ) (w : Bool) (z : Page) (br : ℕ → Bool) (g k : Beside)
      → Lands text fresh may sd (page r l n u w up) z br give_up (page r l (tells told_broken n) u w up) z br g k
  gives_up_lands may sd r l n u w z br g k = record { near = g; far = k; lands = refl }

  -- both lines are empty, both ends are IDLE, nothing broke the dialogue
  pub released_lands : (may : Bool) (sd : Side) (r : Holds) (n : Notes) (u : ℕ) (w : Bool) (t : Holds) (o : Notes) (v : ℕ) (x : Bool) (e : Power) (br : ℕ → Bool) (g k : Beside)
      → is_released M (rec_of r) (rec_of t) br ≡ true
      → Lands text fresh may sd (page r [] n u w up) (page t [] o v x e) br connection_released (page r [] (tells told_ended n) u w up) (page t [] o v x e) br g k
  released_lands may sd r n u w t o v x e br g k h =
      let s : Hosts M = state_of (page r [] n u w up) (page t [] o v x e) br g k in
      record { near = g; far = k; lands = ap (λ (b : Bool). cond b (settled M right (letters text) fresh answers_yes told_ended s) s) h }

  -- a job that was decided is acknowledged
  pub acknowledges_lands : (may : Bool) (sd : Side) (r : Holds) (l : List (Numbered Ent)) (n : Notes) (u : ℕ) (w : Bool) (z : Page) (br : ℕ → Bool) (g k : Beside) (j : ℕ)
      → is_decided (n.decision j) ≡ true
      → Lands text fresh may sd (page r l n u w up) z br (acknowledge j) (page r l n u w up) z br g k
  acknowledges_lands may sd r l n u w z br g k j d =
      let s : Hosts M = state_of (page r l n u w up) z br g k in
      let b : Beside = record { taken = g.taken; handed = g.handed; jobs = g.jobs; done = λ (i : ℕ). eqb i j || g.done i; log = g.log; seen = g.seen } in
      record { near = b; far = k; lands = ap (λ (t : Bool). record { ends = s.ends; here = cond t (host_of (page r l n u w up) b) (host_of (page r l n u w up) g); there = s.there }) d }

  pub acknowledges_apart_lands : (may : Bool) (sd : Side) (r : Holds) (l : List (Numbered Ent)) (n : Notes) (u : ℕ) (w : Bool) (z : Page) (br : ℕ → Bool) (g k : Beside) (j : ℕ)
      → is_decided (n.decision j) ≡ true
      → Lands text fresh may sd (page r l n u w apart) z br (acknowledge j) (page r l n u w apart) z br g k
  acknowledges_apart_lands may sd r l n u w z br g k j d =
      let s : Hosts M = state_of (page r l n u w apart) z br g k in
      let b : Beside = record { taken = g.taken; handed = g.handed; jobs = g.jobs; done = λ (i : ℕ). eqb i j || g.done i; log = g.log; seen = g.seen } in
      record { near = b; far = k; lands = ap (λ (t : Bool). record { ends = s.ends; here = cond t (host_of (page r l n u w apart) b) (host_of (page r l n u w apart) g); there = s.there }) d }

  pub shows_apart_lands : (may : Bool) (sd : Side) (r : Holds) (l : List (Numbered Ent)) (n : Notes) (u : ℕ) (w : Bool) (z : Page) (br : ℕ → Bool) (g k : Beside)
      → Lands text fresh may sd (page r l n u w apart) z br shows (page r l n u false apart) z br g k
  shows_apart_lands may sd r l n u w z br g k =
      record {
        near = record { taken = g.taken; handed = g.handed; jobs = g.jobs; done = g.done; log = g.log; seen = λ (v : ℕ). cond (eqb r.number v) (length (g.handed v)) (g.seen v) };
        far = k;
        lands = refl;
      }

  -- ---- what changes nothing

  -- an event at a host without the carrier, or that has a message to show first; it is cut off already; its power failed already
  pub apart_lands : (may : Bool) (sd : Side) (r : Holds) (l : List (Numbered Ent)) (n : Notes) (u : ℕ) (w : Bool) (z : Page) (br : ℕ → Bool) (g k : Beside) (c : Step (Numbered Ask))
      → Lands text fresh may sd (page r l n u w apart) z br (happens c) (page r l n u w apart) z br g k
  apart_lands may sd r l n u w z br g k c = record { near = g; far = k; lands = refl }

  pub waiting_lands : (may : Bool) (sd : Side) (r : Holds) (l : List (Numbered Ent)) (n : Notes) (u : ℕ) (z : Page) (br : ℕ → Bool) (g k : Beside) (c : Step (Numbered Ask))
      → Lands text fresh may sd (page r l n u true up) z br (happens c) (page r l n u true up) z br g k
  waiting_lands may sd r l n u z br g k c = record { near = g; far = k; lands = refl }

  pub cut_apart_lands : (may : Bool) (sd : Side) (r : Holds) (l : List (Numbered Ent)) (n : Notes) (u : ℕ) (w : Bool) (z : Page) (br : ℕ → Bool) (g k : Beside)
      → Lands text fresh may sd (page r l n u w apart) z br cut_off (page r l n u w apart) z br g k
  cut_apart_lands may sd r l n u w z br g k = record { near = g; far = k; lands = refl }

  pub power_down_lands : (may : Bool) (sd : Side) (r : Holds) (l : List (Numbered Ent)) (n : Notes) (u : ℕ) (w : Bool) (z : Page) (br : ℕ → Bool) (g k : Beside)
      → Lands text fresh may sd (page r l n u w down) z br power_fails (page r l n u w down) z br g k
  power_down_lands may sd r l n u w z br g k = record { near = g; far = k; lands = refl }

  -- ---- the power and the carrier

  pub power_lands : (may : Bool) (sd : Side) (r : Holds) (l : List (Numbered Ent)) (n : Notes) (u : ℕ) (w : Bool) (z : Page) (br : ℕ → Bool) (g k : Beside)
      → Lands text fresh may sd (page r l n u w up) z br power_fails (page r l n u false down) z br g k
  power_lands may sd r l n u w z br g k = record { near = g; far = k; lands = refl }

  pub power_apart_lands : (may : Bool) (sd : Side) (r : Holds) (l : List (Numbered Ent)) (n : Notes) (u : ℕ) (w : Bool) (z : Page) (br : ℕ → Bool) (g k : Beside)
      → Lands text fresh may sd (page r l n u w apart) z br power_fails (page r l n u false down) z br g k
  power_apart_lands may sd r l n u w z br g k = record { near = g; far = k; lands = refl }

  pub cut_lands : (may : Bool) (sd : Side) (r : Holds) (l : List (Numbered Ent)) (n : Notes) (u : ℕ) (w : Bool) (z : Page) (br : ℕ → Bool) (g k : Beside)
      → Lands text fresh may sd (page r l n u w up) z br cut_off (page r l (tells told_broken n) 0 w apart) z br g k
  cut_lands may sd r l n u w z br g k = record { near = g; far = k; lands = refl }

  pub cut_down_lands : (may : Bool) (sd : Side) (r : Holds) (l : List (Numbered Ent)) (n : Notes) (u : ℕ) (w : Bool) (z : Page) (br : ℕ → Bool) (g k : Beside)
      → Lands text fresh may sd (page r l n u w down) z br cut_off (page r l (tells told_broken n) 0 w apart) z br g k
  cut_down_lands may sd r l n u w z br g k = record { near = g; far = k; lands = refl }

  -- ---- a job

  -- it is taken: undecided before, and the card takes it
  pub takes_lands : (may : Bool) (sd : Side) (r : Holds) (l : List (Numbered Ent)) (n : Notes) (u : ℕ) (z : Page) (br : ℕ → Bool) (g k : Beside) (j : ℕ)
      → is_decided (n.decision j) ≡ false → may_do sd r MessageRequest 0 j ≡ true
      → Lands text fresh may sd (page r l n u false up) z br (deliver j) (page (moved_by r MessageRequest 0 j) (l ++ (mark r.number (ent DData (text sd j)) ∷ [])) (takes j n) (suc u) false up) z br g k
  takes_lands may sd r l n u z br g k j d c =
      let s : Hosts M = state_of (page r l n u false up) z br g k in
      let b : Body = text sd j in
      let e : Numbered Ent = mark r.number (ent DData b) in
      let t : Took = record { job = j; no = r.number; body = b } in
      let f : Holds = moved_by r MessageRequest 0 j in
      let o : M.at.call sd (rec_of r) (letters text sd j) ≡ acts (rec_of f) [] (message e b j) = call_is sd r
      MessageRequest 0 b j ∙ ap (λ (x : Bool). call_done MessageRequest b j (cond x (Some (Sends f)) None)) c in
      let v : Beside = record { taken = more g.taken r.number (b ∷ []); handed = more g.handed r.number []; jobs = g.jobs ++ (j ∷ []); done = g.done; log = g.log ++ (t ∷ []); seen = g.seen } in
      record {
        near = v;
        far = k;
        lands =
            ap (λ (x : Bool). cond x s (offered M right (letters text) fresh answers_yes may sd s j
            (M.at.call sd (rec_of r) (letters text sd j)))) d
            ∙ ap (λ (x : Outcome (Numbered Held) (Numbered Ent)). offered M right (letters text) fresh answers_yes may sd s j x) o
            ∙ ap (λ (x : Bool). cond (x && eqb r.number r.number)
            (taking M right (letters text) fresh answers_yes may sd s j t) s) (self j)
            ∙ ap (λ (x : Bool). cond x (taking M right (letters text) fresh answers_yes may sd s j t) s) (self r.number)
            ∙ ap (λ (x : Outcome (Numbered Held) (Numbered Ent)). took (n_called M may s.ends x 0)) o
            ∙ ap (λ (x : Bool). left (cond (not x) (tells told_broken n) n) (hands_out M right (letters text) fresh
            answers_yes s.ends (n_called M may s.ends (acts (rec_of f) [] (message e b j)) 0) || false))
            (self r.number)
            ∙ ap (λ (x : Bool). left n x) (out_none g.handed r.number);
      }
    where
      s₀ : Hosts M
      s₀ = state_of (page r l n u false up) z br g k

      t₀ : Took
      t₀ = record { job = j; no = r.number; body = text sd j }

      took : NSys M → Hosts M
      took x = record { ends = x; here = logs M right (letters text) fresh answers_yes t₀ (commits M right (letters text) fresh answers_yes x.here.rec (takes j (afterwards M right (letters text) fresh answers_yes false (rec_of r) x.here.rec n)) (suc u) (hands_out M right (letters text) fresh answers_yes s₀.ends x) s₀.here); there = s₀.there }

      left : Notes → Bool → Hosts M
      left m w = state_of (page (moved_by r MessageRequest 0 j) (l ++ (mark r.number (ent DData (text sd j)) ∷ [])) (takes j m) (suc u) w up) z br (record { taken = more g.taken r.number (text sd j ∷ []); handed = more g.handed r.number []; jobs = g.jobs ++ (j ∷ []); done = g.done; log = g.log ++ (t₀ ∷ []); seen = g.seen }) k
