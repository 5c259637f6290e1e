-- The carrier's failure, a start that it turns away, and an end that is confirmed. (See Steps.)
-- Assumes nothing.
use mathlib.Core.Path.{◌≡◌, refl, ap, ◌∙◌}
use mathlib.Core.Bool.{Bool, true, false, cond, ◌&&◌, ◌||◌}
use mathlib.Core.List.{List, [], ◌∷◌}
use Prim.Native.Nat.{ℕ, suc}
use lib.Dec.{eqb, ltb}
use lib.ListN.{length}
use Rattle.pair.specs.Names.{Side, Accepted, DEndCnf, is_idle, closed, other, expects}
use Rattle.pair.specs.Carrier.{Body, nothing, Outcome, acts, turn_away}
use Rattle.pair.specs.Numbered.{NParty, NSys, Numbered, mark, more, n_swap, n_off, n_did, n_without_start, n_may_turn_away, n_recalled, n_told_lost, alive}
use Rattle.pair.proofs.ControlMachine.{Held, Ent, ent}
use Rattle.duties.specs.Memory.{Notes, tells, told_ended, told_broken}
use Rattle.duties.specs.Host.{right, Power, up, apart, down, Hosts, happens, end_confirmed_of, carrier_fails, told_of, rejoins, carrier_failed}
use Rattle.duties.proofs.EndConfirmed.{answers_yes}
use Rattle.duties.proofs.ControlHosts.{letters, lost_closes}
use Rattle.moves.specs.declared.Held.{Held as Holds}
use Rattle.moves.specs.Machine.{holding}
use Rattle.moves_laws.proofs.Machine.{rec_of}
use Rattle.moves_laws.specs.Pages.{Beside}
use Rattle.moves_laws.proofs.Steps.{M, Page, page, party_of, host_of, state_of, out_none, Lands}
use Rattle.moves_laws.proofs.Events.{handing, kept, noted}

-- what D-P-ABORT leaves; an IDLE record has nothing to hear
abbrev pub lost_of : Bool → Holds → Holds
lost_of b r = cond b r (holding closed r.number r.highest)

abbrev pub lost_beside : Bool → Holds → Beside → Beside
lost_beside b r g = record { taken = g.taken; handed = cond b g.handed (more g.handed r.number []); jobs = g.jobs; done = g.done; log = g.log; seen = g.seen }

-- one end hears of it
lost_one : (sd : Side) (r : Holds) (p : Page) (g : Beside) (far : NParty M) (br : ℕ → Bool) (b : Bool) → is_idle r.control ≡ b → n_told_lost M sd (record { here = record { rec = rec_of r; line = []; taken = g.taken; handed = g.handed; jobs = g.jobs }; there = far; broken = br }) ≡ record { here = record { rec = rec_of (lost_of b r); line = []; taken = g.taken; handed = (lost_beside b r g).handed; jobs = g.jobs }; there = far; broken = br }
lost_one sd r p g far br true h =
    let s : NSys M = record { here = record { rec = rec_of r; line = []; taken = g.taken; handed = g.handed; jobs = g.jobs }; there = far; broken = br } in
    ap (λ (y : Bool). cond y s (n_did M s (M.at.p_abort sd (rec_of r)) 0)) h
lost_one sd r p g far br false h =
    let s : NSys M = record { here = record { rec = rec_of r; line = []; taken = g.taken; handed = g.handed; jobs = g.jobs }; there = far; broken = br } in
    ap (λ (y : Bool). cond y s (n_did M s (M.at.p_abort sd (rec_of r)) 0)) h
    ∙ ap (λ (o : Outcome (Numbered Held) (Numbered Ent)). n_did M s o 0) (lost_closes sd r.number r.highest r.control h)

module _ (text : Side → ℕ → Body) (fresh : Side → Numbered Held) where
  module _ (may : Bool) (sd : Side) (r : Holds) (l : List (Numbered Ent)) (n : Notes) (u : ℕ) (x : Bool) (t : Holds) (m : List (Numbered Ent)) (o : Notes) (w : ℕ) (y : Bool) (d : Power) (br : ℕ → Bool) (g k : Beside) where
    -- the dialogues that an end is in, or that have an entry on a line, broke
    abbrev pub broke_too : ℕ → Bool
    broke_too j = alive M (record { here = party_of (page r l n u x up) g; there = party_of (page t m o w y d) k; broken = br }) j || br j

    hosts_heard : (q : Power)
        → carrier_failed M right (letters text) fresh answers_yes sd (state_of (page r l n u x q) (page t m o w y d) br g k) ≡ state_of (page (lost_of (is_idle r.control) r) [] (tells told_broken n) 0 x up) (page (lost_of (is_idle t.control) t) [] (tells told_broken o) 0 y (rejoins M right (letters text) fresh answers_yes d)) broke_too (lost_beside (is_idle r.control) r g) (lost_beside (is_idle t.control) t k)
    hosts_heard q =
        let a : NParty M = record { rec = rec_of t; line = []; taken = k.taken; handed = k.handed; jobs = k.jobs } in
        let b : NParty M = record { rec = rec_of (lost_of (is_idle r.control) r); line = []; taken = g.taken; handed = (lost_beside (is_idle r.control) r g).handed; jobs = g.jobs } in
        ap (λ (s : NSys M). all q (n_swap M (n_told_lost M (other sd) (n_swap M s))))
        (lost_one sd r (page r l n u x q) g a broke_too (is_idle r.control) refl)
        ∙ ap (λ (s : NSys M). all q (n_swap M s)) (lost_one (other sd) t (page t m o w y d) k b broke_too (is_idle t.control) refl)
      where
        all : Power → NSys M → Hosts M
        all p s = record { ends = s; here = told_of M right (letters text) fresh answers_yes s.here.rec up (host_of (page r l n u x p) g); there = told_of M right (letters text) fresh answers_yes s.there.rec (rejoins M right (letters text) fresh answers_yes d) (host_of (page t m o w y d) k) }

    pub fail_lands : (q : Power)
        → Lands text fresh may sd (page r l n u x q) (page t m o w y d) br carrier_fails (page (lost_of (is_idle r.control) r) [] (tells told_broken n) 0 x up) (page (lost_of (is_idle t.control) t) [] (tells told_broken o) 0 y (rejoins M right (letters text) fresh answers_yes d)) broke_too g k
    fail_lands up = record { near = lost_beside (is_idle r.control) r g; far = lost_beside (is_idle t.control) t k; lands = hosts_heard up }
    fail_lands apart = record { near = lost_beside (is_idle r.control) r g; far = lost_beside (is_idle t.control) t k; lands = hosts_heard apart }
    fail_lands down = record { near = lost_beside (is_idle r.control) r g; far = lost_beside (is_idle t.control) t k; lands = hosts_heard down }

  -- ---- the start of this end is on its line, and the carrier turns it away

  abbrev turned_as : Hosts M → Bool → Outcome (Numbered Held) (Numbered Ent) → Hosts M
  turned_as s b x =
      let t : NSys M = cond b (n_did M (n_recalled M s.ends) x 0) s.ends in
      kept text fresh s (noted text fresh b s t) t

  pub turned_lands : (may : Bool) (sd : Side) (r : Holds) (l : List (Numbered Ent)) (n : Notes) (u : ℕ) (z : Page) (br : ℕ → Bool) (g k : Beside) (f : Holds)
      → n_may_turn_away M (state_of (page r l n u false up) z br g k).ends ≡ true
      → M.at.away sd (rec_of r) ≡ acts (rec_of f) [] nothing
      → Lands text fresh may sd (page r l n u false up) z br (happens (turn_away 0)) (page f (n_without_start M r.number l) (tells told_broken n) (suc u) false up) z br g k
  turned_lands may sd r l n u z br g k f a h =
      let s : Hosts M = state_of (page r l n u false up) z br g k in
      record {
        near = handing f.number [] g;
        far = k;
        lands =
            ap (λ (b : Bool). turned_as s b (M.at.away sd (rec_of r))) a
            ∙ ap (turned_as s true) h
            ∙ ap (λ (b : Bool). state_of (page f (n_without_start M r.number l) (tells told_broken n) (suc u) b up) z
            br (handing f.number [] g) k) (out_none g.handed f.number);
      }

  -- ---- the end that this host asked for is confirmed, "accepted"

  abbrev confirmed_as : Hosts M → List (Numbered Ent) → Bool → Bool → Outcome (Numbered Held) (Numbered Ent) → Hosts M
  confirmed_as s m b d x =
      let t : NSys M = cond d (n_off M s.ends m) (n_did M (n_off M s.ends m) x 0) in
      cond b (kept text fresh s (tells told_ended s.here.notes) t) s

  pub confirmed_lands : (may : Bool) (sd : Side) (r : Holds) (l : List (Numbered Ent)) (n : Notes) (u : ℕ) (t : Holds) (v : ℕ) (b : Body) (m : List (Numbered Ent)) (o : Notes) (w : ℕ) (y : Bool) (d : Power) (br : ℕ → Bool) (g k : Beside) (f : Holds)
      → (ltb w (length (mark v (ent (DEndCnf Accepted) b) ∷ m)) && (eqb v r.number && expects sd r.control (DEndCnf Accepted))) ≡ true
      → is_idle r.control ≡ false
      → M.at.receive sd (rec_of r) (mark v (ent (DEndCnf Accepted) b)) ≡ acts (rec_of f) [] nothing
      → Lands text fresh may sd (page r l n u false up) (page t (mark v (ent (DEndCnf Accepted) b) ∷ m) o w y d) br end_confirmed_of (page f l (tells told_ended n) (suc u) false up) (page t m o w y d) br g k
  confirmed_lands may sd r l n u t v b m o w y d br g k f a i h =
      let e : Numbered Ent = mark v (ent (DEndCnf Accepted) b) in
      let s : Hosts M = state_of (page r l n u false up) (page t (e ∷ m) o w y d) br g k in
      record {
        near = handing f.number [] g;
        far = k;
        lands =
            ap (λ (c : Bool). confirmed_as s m c (is_idle r.control && true) (M.at.receive sd (rec_of r) e)) a
            ∙ ap (λ (c : Bool). confirmed_as s m true (c && true) (M.at.receive sd (rec_of r) e)) i
            ∙ ap (confirmed_as s m true false) h
            ∙ ap (λ (c : Bool). state_of (page f l (tells told_ended n) (suc u) c up) (page t m o w y d) br
            (handing f.number [] g) k) (out_none g.handed f.number);
      }
