-- A machine with a dialogue number beside its record, its entries and its calls.
-- Assumes nothing.
use Prim.Native.Nat.{ℕ}
use mathlib.Core.Bool.{cond}
use lib.Dec.{eqb, ltb}
use Rattle.pair.specs.Names.{Side}
use Rattle.pair.specs.Carrier.{Sent, nothing, puts, message, Outcome, refused, acts, Machine, is_start, starts}
use Rattle.pair.specs.Numbered.{NMachine, Numbered, mark}

-- what is sent carries the number held after the event
abbrev pub tag : {E : Type 0} → ℕ → Sent E → Sent (Numbered E)
tag n nothing = nothing
tag n (puts e) = puts (mark n e)
tag n (message e b i) = message (mark n e) b i

abbrev pub leaves : {R E : Type 0} → ℕ → Outcome R E → Outcome (Numbered R) (Numbered E)
leaves n refused = refused
leaves n (acts r l p) = acts (mark n r) l (tag n p)

module _ (m : Machine) where
  -- a start is refused unless its number v is above the record's, n
  abbrev pub numbers : ℕ → ℕ → Outcome m.R m.E → Outcome (Numbered m.R) (Numbered m.E)
  numbers n v refused = refused
  numbers n v (acts r l p) = cond (starts m p) (cond (ltb n v) (leaves v (acts r l p)) refused) (leaves n (acts r l p))

  -- a D-START is refused unless its number is above the record's, and then the record holds it, whatever else happens; any
  -- other primitive is refused unless it carries the record's number
  abbrev pub meets_no : Side → Numbered m.R → Numbered m.E → Outcome (Numbered m.R) (Numbered m.E)
  meets_no sd r e =
      cond (is_start m e.it) (cond (ltb r.no e.no) (leaves e.no (m.receive sd r.it e.it)) refused)
      (cond (eqb e.no r.no) (leaves r.no (m.receive sd r.it e.it)) refused)

  abbrev pub numbered : NMachine
  numbered = record {
    at = record {
      R = Numbered m.R;
      E = Numbered m.E;
      A = Numbered m.A;
      ctl = λ (r : Numbered m.R). m.ctl r.it;
      sort = λ (e : Numbered m.E). m.sort e.it;
      call = λ (sd : Side) (r : Numbered m.R) (a : Numbered m.A). numbers r.no a.no (m.call sd r.it a.it);
      receive = meets_no;
      expiry = λ (sd : Side) (r : Numbered m.R). leaves r.no (m.expiry sd r.it);
      error = λ (sd : Side) (r : Numbered m.R). leaves r.no (m.error sd r.it);
      away = λ (sd : Side) (r : Numbered m.R). leaves r.no (m.away sd r.it);
      p_abort = λ (sd : Side) (r : Numbered m.R). leaves r.no (m.p_abort sd r.it);
    };
    holds = λ (r : Numbered m.R). r.no;
    carries = λ (e : Numbered m.E). e.no;
  }
