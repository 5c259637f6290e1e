-- The three shapes of the exception clauses, as the pair sees them: an end that closes, one that aborts, and one that was given
-- no instruction.
-- Assumes nothing.
use mathlib.Core.Path.{refl}
use mathlib.Core.Bool.{Bool, true, false, cond, ◌&&◌}
use mathlib.Core.List.{[]}
use Prim.Native.Nat.{ℕ}
use lib.Dec.{T, ltb}
use Rattle.editions.specs.declared.Edition.{Edition}
use Rattle.machine.specs.Codes.{provider_reasons, protocol_error}
use Rattle.machine.specs.Exceptions.{tell, closes, aborts, excepts, no_instruction}
use Rattle.machine.specs.declared.record.Record.{Record}
use Rattle.machine.specs.declared.outcome.Told.{Told}
use Rattle.machine.specs.declared.outcome.Told.TheVariants.{ProviderAbortIndication}
use Rattle.pair.specs.Names.{Side, DAbort, is_idle, closed, quiet}
use Rattle.pair.specs.Names as N
use Rattle.pair.specs.Carrier.{Body, nothing, puts}
use Rattle.pair.specs.Carrier as C
use Rattle.pair.proofs.ControlMachine.{Held, held, Ent, ent, met}
use Rattle.pair.specs.Wires.{Wire}
use Rattle.pair.proofs.StepMachine.{Codec, happens}
use Rattle.pair.proofs.Agree.{OutRel}
use Rattle.pair.proofs.StepLocal.{Local, low_of, Low, closed_low}
use Rattle.pair.proofs.StepMeans.{Means, abort_means}
use Rattle.std.specs.Prelude.{None, Option, Some}

module _ (K : Codec) (ed : Edition) (p : ℕ) where
  abbrev pub Out : Side → C.Outcome Record Wire → C.Outcome Held Ent → Type 0
  Out sd o q = OutRel (Low ed p) (Means K ed p sd) o q

  pub closes_rel : (sd : Side) (r : Record) (t : Option Told) (b : Body) → Local ed p r
      → Out sd (happens K sd (closes r t) b) (C.acts (held closed r.highest) [] nothing)
  unfolding closes
  closes_rel sd r t b h = (closed_low ed p r h, refl, tt)

  pub aborts_rel : (sd : Side) (r : Record) (x : ℕ) (t : Option Told) (b : Body) → Local ed p r → T (ltb x provider_reasons)
      → Out sd (happens K sd (aborts r x t) b) (C.acts (held closed r.highest) [] (puts (ent DAbort [])))
  unfolding aborts
  aborts_rel sd r x t b h v = (closed_low ed p r h, refl, abort_means K ed p sd x v)

  -- in IDLE no output, else a D-ABORT with protocol-error
  pub none_rel : (sd : Side) (r : Record) (b : Body) → Local ed p r
      → Out sd (happens K sd (no_instruction r true) b) (met (low_of r) (cond (is_idle r.control && true) (quiet closed) (N.aborts closed)) [])
  unfolding no_instruction excepts
  none_rel sd r b h = go (is_idle r.control)
    where
      go : (i : Bool)
          → Out sd (happens K sd (cond i (closes r None) (cond true (aborts r protocol_error (tell r (Some (ProviderAbortIndication protocol_error)))) (closes r (tell r (Some (ProviderAbortIndication protocol_error)))))) b) (met (low_of r) (cond (i && true) (quiet closed) (N.aborts closed)) [])
      go true = closes_rel sd r None b h
      go false = aborts_rel sd r protocol_error (tell r (Some (ProviderAbortIndication protocol_error))) b h tt

  -- a provider abort that an active user is told of
  pub excepts_rel : (sd : Side) (r : Record) (x y : ℕ) (b : Body) → Local ed p r → T (ltb x provider_reasons)
      → Out sd (happens K sd (excepts r true x y) b) (C.acts (held closed r.highest) [] (puts (ent DAbort [])))
  unfolding excepts
  excepts_rel sd r x y b h v = aborts_rel sd r x (tell r (Some (ProviderAbortIndication y))) b h v
