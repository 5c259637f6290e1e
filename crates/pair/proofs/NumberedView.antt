-- One dialogue of the numbered carrier as a system of the base carrier: its entries, its histories, and an end that holds another
-- number counted as IDLE. What an event does to it.
-- Assumes nothing.
use mathlib.Core.Path.{◌≡◌, refl, ap, sym, ◌∙◌, subst}
use mathlib.Core.Bool.{Bool, true, false, not, cond, ◌||◌}
use mathlib.Core.List.{List, [], ◌∷◌, ◌++◌}
use Prim.Native.Nat.{ℕ}
use lib.Dec.{T, eqb}
use lib.ListN.{take}
use Rattle.pair.specs.Names.{Side}
use Rattle.pair.specs.Carrier.{Body, Sent, nothing, puts, message, Outcome, refused, acts, Sort, begins, breaks, plain, begins?, Machine, Step, starts}
use Rattle.pair.proofs.OneDialogue.{Party, Sys, swap, put, took, sent, left, did, stepped}
use Rattle.pair.specs.Numbered.{NParty, NSys, Numbered, mark, trim, n_swap, n_put, n_took, n_sent, n_left, n_did}
use Rattle.pair.proofs.NumberedMachine.{tag, numbered, leaves}
use Rattle.pair.proofs.NumberedLines.{yes, nay, pick, snoc_same, snoc_other, trim_same, trim_other}
use Rattle.pair.proofs.NumberedNeeds.{Calm, Base}

-- ---- what dialogue j sees

abbrev pub seen_rec : (m : Machine) → Base m → ℕ → Numbered m.R → m.R
seen_rec m B j r = cond (eqb r.no j) r.it B.none

pub record Seen (m : Machine) (j : ℕ) (x : NParty (numbered m)) (y : Party m) : Type 0 where
  pub line : pick m j x.line ≡ y.line
  pub taken : x.taken j ≡ y.taken
  pub handed : x.handed j ≡ y.handed

-- all but the record at `here`
pub record Most (m : Machine) (B : Base m) (j : ℕ) (s : NSys (numbered m)) (t : Sys m) : Type 0 where
  pub here : Seen m j s.here t.here
  pub there : Seen m j s.there t.there
  pub far : seen_rec m B j s.there.rec ≡ t.there.rec
  pub broken : s.broken j ≡ t.broken

pub record Sim (m : Machine) (B : Base m) (j : ℕ) (s : NSys (numbered m)) (t : Sys m) : Type 0 where
  pub near : seen_rec m B j s.here.rec ≡ t.here.rec
  pub most : Most m B j s t

-- dialogue j of s is a system that keeps the base invariant
pub record Got (m : Machine) (B : Base m) (sd : Side) (j : ℕ) (s : NSys (numbered m)) : Type 0 where
  pub sys : Sys m
  pub sim : Sim m B j s sys
  pub keeps : B.P sd sys

-- nothing has happened in dialogue j
pub record New (m : Machine) (j : ℕ) (x y : NParty (numbered m)) (b : ℕ → Bool) : Type 0 where
  pub taken : x.taken j ≡ []
  pub handed : x.handed j ≡ []
  pub taken_t : y.taken j ≡ []
  pub given_t : y.handed j ≡ []
  pub whole : b j ≡ false

module _ (m : Machine) (B : Base m) (j : ℕ) where
  pub swap_sim : (s : NSys (numbered m)) (t : Sys m) → Sim m B j s t → Sim m B j (n_swap (numbered m) s) (swap m t)
  swap_sim s t h = record { near = h.most.far; most = record { here = h.most.there; there = h.most.here; far = h.near; broken = h.most.broken } }

  -- ---- an event of this dialogue

  put_same : (v : ℕ) (so : Sort) (s : NSys (numbered m)) (t : Sys m) (e : m.E) (keep : ℕ) → eqb v j ≡ true
      → T (not (begins? so)) → Most m B j s t → Most m B j (n_put (numbered m) so s (mark v e) keep) (put m so t e keep)
  put_same v begins s t e keep q c h = absurd c
  put_same v breaks s t e keep q c h =
      record {
        here = record {
          line = snoc_same m j (trim (numbered m) v keep s.here.line) (mark v e) q ∙ ap
              (λ (k : List m.E). k ++ (e ∷ []))
              (trim_same m v j keep s.here.line q ∙ ap (λ (k : List m.E). take keep k) h.here.line);
          taken = h.here.taken;
          handed = h.here.handed;
        };
        there = h.there;
        far = h.far;
        broken = ap (λ (z : Bool). z || s.broken j) q;
      }
  put_same v plain s t e keep q c h =
      record {
        here = record { line = snoc_same m j s.here.line (mark v e) q ∙ ap (λ (k : List m.E). k ++ (e ∷ [])) h.here.line; taken = h.here.taken; handed = h.here.handed };
        there = h.there;
        far = h.far;
        broken = h.broken;
      }

  took_same : (v : ℕ) (s : NSys (numbered m)) (t : Sys m) (b : Body) (i : ℕ) → eqb v j ≡ true → Most m B j s t
      → Most m B j (n_took (numbered m) s v b i) (took m t b i)
  took_same v s t b i q h =
      record {
        here = record { line = h.here.line; taken = yes (eqb v j) _ _ q ∙ ap (λ (k : List Body). k ++ (b ∷ [])) h.here.taken; handed = h.here.handed };
        there = h.there;
        far = h.far;
        broken = h.broken;
      }

  left_same : (v : ℕ) (s : NSys (numbered m)) (t : Sys m) (r : m.R) (l : List Body) → eqb v j ≡ true → Most m B j s t
      → Sim m B j (n_left (numbered m) s (mark v r) l) (left m t r l)
  left_same v s t r l q h =
      record {
        near = yes (eqb v j) _ _ q;
        most = record {
          here = record { line = h.here.line; taken = h.here.taken; handed = yes (eqb v j) _ _ q ∙ ap (λ (k : List Body). k ++ l) h.here.handed };
          there = h.there;
          far = h.far;
          broken = h.broken;
        };
      }

  sent_same : (v : ℕ) (s : NSys (numbered m)) (t : Sys m) (p : Sent m.E) (keep : ℕ) → eqb v j ≡ true
      → T (not (starts m p)) → Most m B j s t → Most m B j (n_sent (numbered m) s (tag v p) keep) (sent m t p keep)
  sent_same v s t nothing keep q c h = h
  sent_same v s t (puts e) keep q c h = put_same v (m.sort e) s t e keep q c h
  sent_same v s t (message e b i) keep q c h = took_same v (n_put (numbered m) (m.sort e) s (mark v e) keep)
      (put m (m.sort e) t e keep) b i q (put_same v (m.sort e) s t e keep q c h)

  pub did_same : (v : ℕ) (s : NSys (numbered m)) (t : Sys m) (r : m.R) (l : List Body) (p : Sent m.E) (keep : ℕ)
      → eqb v j ≡ true → T (not (starts m p)) → Most m B j s t
      → Sim m B j (n_did (numbered m) s (leaves v (acts r l p)) keep) (did m t (acts r l p) keep)
  did_same v s t r l p keep q c h = left_same v (n_sent (numbered m) s (tag v p) keep) (sent m t p keep) r l q (sent_same v s t p keep q c h)

  -- ---- the start of this dialogue, in which nothing has happened

  put_start : (v : ℕ) (so : Sort) (s : NSys (numbered m)) (t : Sys m) (e : m.E) (keep : ℕ) → eqb v j ≡ true
      → T (begins? so) → New m j s.here s.there s.broken → Most m B j s t
      → Most m B j (n_put (numbered m) so s (mark v e) keep) (put m so t e keep)
  put_start v begins s t e keep q c n h =
      record {
        here = record { line = snoc_same m j s.here.line (mark v e) q ∙ ap (λ (k : List m.E). k ++ (e ∷ [])) h.here.line; taken = n.taken; handed = n.handed };
        there = record { line = h.there.line; taken = n.taken_t; handed = n.given_t };
        far = h.far;
        broken = n.whole;
      }
  put_start v breaks s t e keep q c n h = absurd c
  put_start v plain s t e keep q c n h = absurd c

  sent_start : (v : ℕ) (s : NSys (numbered m)) (t : Sys m) (p : Sent m.E) (keep : ℕ) → eqb v j ≡ true
      → T (starts m p) → New m j s.here s.there s.broken → Most m B j s t
      → Most m B j (n_sent (numbered m) s (tag v p) keep) (sent m t p keep)
  sent_start v s t nothing keep q c n h = absurd c
  sent_start v s t (puts e) keep q c n h = put_start v (m.sort e) s t e keep q c n h
  sent_start v s t (message e b i) keep q c n h = took_same v (n_put (numbered m) (m.sort e) s (mark v e) keep)
      (put m (m.sort e) t e keep) b i q (put_start v (m.sort e) s t e keep q c n h)

  pub did_start : (v : ℕ) (s : NSys (numbered m)) (t : Sys m) (r : m.R) (l : List Body) (p : Sent m.E) (keep : ℕ)
      → eqb v j ≡ true → T (starts m p) → New m j s.here s.there s.broken → Most m B j s t
      → Sim m B j (n_did (numbered m) s (leaves v (acts r l p)) keep) (did m t (acts r l p) keep)
  did_start v s t r l p keep q c n h = left_same v (n_sent (numbered m) s (tag v p) keep) (sent m t p keep) r l q
      (sent_start v s t p keep q c n h)

  -- ---- an event of another dialogue, v: nothing moves, and the end holds another number

  put_other : (v : ℕ) (so : Sort) (s : NSys (numbered m)) (t : Sys m) (e : m.E) (keep : ℕ) → eqb v j ≡ false
      → Most m B j s t → Most m B j (n_put (numbered m) so s (mark v e) keep) t
  put_other v begins s t e keep q h =
      record { here = record { line = snoc_other m j s.here.line (mark v e) q ∙ h.here.line; taken = h.here.taken; handed = h.here.handed }; there = h.there; far = h.far; broken = h.broken }
  put_other v breaks s t e keep q h =
      record {
        here = record { line = snoc_other m j (trim (numbered m) v keep s.here.line) (mark v e) q ∙ trim_other m v j keep s.here.line q ∙ h.here.line; taken = h.here.taken; handed = h.here.handed };
        there = h.there;
        far = h.far;
        broken = ap (λ (z : Bool). z || s.broken j) q ∙ h.broken;
      }
  put_other v plain s t e keep q h =
      record { here = record { line = snoc_other m j s.here.line (mark v e) q ∙ h.here.line; taken = h.here.taken; handed = h.here.handed }; there = h.there; far = h.far; broken = h.broken }

  took_other : (v : ℕ) (s : NSys (numbered m)) (t : Sys m) (b : Body) (i : ℕ) → eqb v j ≡ false → Most m B j s t
      → Most m B j (n_took (numbered m) s v b i) t
  took_other v s t b i q h = record { here = record { line = h.here.line; taken = nay (eqb v j) _ _ q ∙ h.here.taken; handed = h.here.handed }; there = h.there; far = h.far; broken = h.broken }

  sent_other : (v : ℕ) (s : NSys (numbered m)) (t : Sys m) (p : Sent m.E) (keep : ℕ) → eqb v j ≡ false
      → Most m B j s t → Most m B j (n_sent (numbered m) s (tag v p) keep) t
  sent_other v s t nothing keep q h = h
  sent_other v s t (puts e) keep q h = put_other v (m.sort e) s t e keep q h
  sent_other v s t (message e b i) keep q h = took_other v (n_put (numbered m) (m.sort e) s (mark v e) keep) t b i q
      (put_other v (m.sort e) s t e keep q h)

  pub did_other : (v : ℕ) (s : NSys (numbered m)) (t : Sys m) (r : m.R) (l : List Body) (p : Sent m.E) (keep : ℕ)
      → eqb v j ≡ false → Most m B j s t → B.none ≡ t.here.rec
      → Sim m B j (n_did (numbered m) s (leaves v (acts r l p)) keep) t
  did_other v s t r l p keep q h e =
      let g = sent_other v s t p keep q h in
      record {
        near = nay (eqb v j) _ _ q ∙ e;
        most = record {
          here = record { line = g.here.line; taken = g.here.taken; handed = nay (eqb v j) _ _ q ∙ g.here.handed };
          there = g.there;
          far = g.far;
          broken = g.broken;
        };
      }

  -- ---- an event at an end that keeps its number; c: the step of the base carrier that it is

  pub event : (sd : Side) (s : NSys (numbered m)) (o : Outcome m.R m.E) (keep : ℕ) (c : Step m.A) → Calm m o
      → ((t : Sys m) → t.here.rec ≡ s.here.rec.it → stepped m sd t c ≡ did m t o keep) → Got m B sd j s
      → Got m B sd j (n_did (numbered m) s (leaves s.here.rec.no o) keep)
  event sd s refused keep c k f g = g
  event sd s (acts r l p) keep c k f g = go (eqb s.here.rec.no j) refl
    where
      go : (b : Bool) → eqb s.here.rec.no j ≡ b → Got m B sd j (n_did (numbered m) s (leaves s.here.rec.no (acts r l p)) keep)
      go true q =
          record {
            sys = did m g.sys (acts r l p) keep;
            sim = did_same s.here.rec.no s g.sys r l p keep q k g.sim.most;
            keeps = subst (B.P sd) (f g.sys (sym g.sim.near ∙ yes (eqb s.here.rec.no j) _ _ q))
                (B.step sd g.sys c g.keeps);
          }
      go false q = record { sys = g.sys; sim = did_other s.here.rec.no s g.sys r l p keep q g.sim.most (sym (nay (eqb s.here.rec.no j) _ _ q) ∙ g.sim.near); keeps = g.keeps }
