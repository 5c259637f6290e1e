-- When one machine agrees with another: their records and entries correspond, and whatever an event does at the first, an
-- event does at the second. What the first refuses needs no partner.
-- Assumes nothing.
use mathlib.Core.Path.{◌≡◌, refl, ap}
use mathlib.Core.List.{[]}
use Rattle.pair.specs.Names.{Side, other}
use Rattle.pair.specs.Carrier.{Sent, nothing, puts, message, Outcome, refused, acts, begins?, Machine, is_start, starts}

-- both send nothing; or corresponding entries; or those of the same message with the same job
abbrev pub SentRel : {E F : Type 0} → (E → F → Type 0) → Sent E → Sent F → Type 0
SentRel EE nothing nothing = Unit {0}
SentRel EE nothing (puts f) = ⊥
SentRel EE nothing (message f c j) = ⊥
SentRel EE (puts e) nothing = ⊥
SentRel EE (puts e) (puts f) = EE e f
SentRel EE (puts e) (message f c j) = ⊥
SentRel EE (message e b i) nothing = ⊥
SentRel EE (message e b i) (puts f) = ⊥
SentRel EE (message e b i) (message f c j) = EE e f × (b ≡ c) × (i ≡ j)

-- both refuse; or leave corresponding records, hand out the same messages and send the same
abbrev pub OutRel : {R Q E F : Type 0} → (R → Q → Type 0) → (E → F → Type 0) → Outcome R E → Outcome Q F → Type 0
OutRel RR EE refused refused = Unit {0}
OutRel RR EE refused (acts q k o) = ⊥
OutRel RR EE (acts r l p) refused = ⊥
OutRel RR EE (acts r l p) (acts q k o) = RR r q × (l ≡ k) × SentRel EE p o

-- a step that needs no partner: the event is refused, or it sends and hands out nothing and leaves a record that still
-- corresponds
abbrev pub Still : {R Q E : Type 0} → (R → Q → Type 0) → Outcome R E → Q → Type 0
Still RR refused q = Unit {0}
Still RR (acts r l nothing) q = RR r q × (l ≡ [])
Still RR (acts r l (puts e)) q = ⊥
Still RR (acts r l (message e b i)) q = ⊥

-- o at the first is matched by nothing, or by what some event x does at the second
pub data Follows {R Q E F X : Type 0} (RR : R → Q → Type 0) (EE : E → F → Type 0) (o : Outcome R E) (q : Q) (event : X → Outcome Q F) : Type 0 where
  stays : Still RR o q → Follows RR EE o q event
  does : (x : X) → OutRel RR EE o (event x) → Follows RR EE o q event

-- RR sd: of records at side sd; EE sd: of entries that side sd sent
pub record Agree (m n : Machine) : Type 1 where
  pub RR : Side → m.R → n.R → Type 0
  pub EE : Side → m.E → n.E → Type 0
  pub ctl_is : (sd : Side) (r : m.R) (q : n.R) → RR sd r q → m.ctl r ≡ n.ctl q
  pub sort_is : (sd : Side) (e : m.E) (f : n.E) → EE sd e f → m.sort e ≡ n.sort f
  pub call_is : (sd : Side) (r : m.R) (q : n.R) (a : m.A) → RR sd r q → Follows (RR sd) (EE sd) (m.call sd r a) q (n.call sd q)
  pub receive_is : (sd : Side) (r : m.R) (q : n.R) (e : m.E) (f : n.E) → RR sd r q → EE (other sd) e f
      → OutRel (RR sd) (EE sd) (m.receive sd r e) (n.receive sd q f)
  pub expiry_is : (sd : Side) (r : m.R) (q : n.R) → RR sd r q → Follows {X = Unit {0}} (RR sd) (EE sd) (m.expiry sd r) q (λ (x : Unit {0}). n.expiry sd q)
  pub error_is : (sd : Side) (r : m.R) (q : n.R) → RR sd r q → Follows {X = Unit {0}} (RR sd) (EE sd) (m.error sd r) q (λ (x : Unit {0}). n.error sd q)
  pub away_is : (sd : Side) (r : m.R) (q : n.R) → RR sd r q → OutRel (RR sd) (EE sd) (m.away sd r) (n.away sd q)
  pub p_abort_is_law : (sd : Side) (r : m.R) (q : n.R) → RR sd r q → OutRel (RR sd) (EE sd) (m.p_abort sd r) (n.p_abort sd q)

-- what one sends begins a dialogue where what the other sends does
module _ (m n : Machine) (g : Agree m n) where
  pub start_rel : (sd : Side) (e : m.E) (f : n.E) → g.EE sd e f → is_start m e ≡ is_start n f
  start_rel sd e f x = ap begins? (g.sort_is sd e f x)

  pub starts_rel : (sd : Side) (p : Sent m.E) (o : Sent n.E) → SentRel (g.EE sd) p o → starts m p ≡ starts n o
  starts_rel sd nothing nothing x = refl
  starts_rel sd nothing (puts f) x = absurd x
  starts_rel sd nothing (message f c j) x = absurd x
  starts_rel sd (puts e) nothing x = absurd x
  starts_rel sd (puts e) (puts f) x = start_rel sd e f x
  starts_rel sd (puts e) (message f c j) x = absurd x
  starts_rel sd (message e b i) nothing x = absurd x
  starts_rel sd (message e b i) (puts f) x = absurd x
  starts_rel sd (message e b i) (message f c j) x = start_rel sd e f x.0
