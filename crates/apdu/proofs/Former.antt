-- The reader as it was before additions were stepped over (document 01: every extension bit of 1 is refused), and what of it stayed: each answer but the refusal
-- of the extension bit of message data. So every string that it accepted is accepted, with the same value.
-- Assumes nothing.
use mathlib.Core.Path.{◌≡◌, refl, ap, ◌∙◌}
use mathlib.Core.Bool.{Bool, true, false, cond}
use mathlib.Core.List.{List}
use Prim.Native.Nat.{ℕ, ◌%◌}
use lib.Dec.{leb, eqb}
use Rattle.fields.specs.Fields.{refusal, refused_at, bit_field, extension_bit, extensible_index, then}
use Rattle.fields.specs.declared.Fault.TheVariants.{Extension}
use Rattle.fields.specs.declared.Refusal.{Refusal}
use Rattle.apdu.specs.Sizes.{user_last, provider_last}
use Rattle.apdu.specs.Reading.{parts_at, with_additions, data_within, data_at, leading_at, ended_at, rest_within, rest_at, apdu_within, apdu_at}
use Rattle.pdus.specs.declared.PduType.{PduType}
use Rattle.apdu.specs.declared.Kind.{Kind}
use Rattle.apdu.specs.declared.Kind.TheVariants as kind
use Rattle.apdu.specs.declared.Data.{Data}
use Rattle.apdu.specs.declared.Apdu.{Apdu}
use Rattle.apdu.specs.declared.Apdu.TheVariants as apdu
use Rattle.apdu.proofs.Bounds.{never}
use Rattle.std.specs.Prelude.{Err, Ok, Result}
use Rattle.fields.specs.Fields.{Reading}

-- ---- as it was

unfoldable pub former_data : List ℕ → ℕ → Reading Data
former_data l at =
    then (extension_bit l at)
    (λ (e p : ℕ). then (bit_field l p 2) (λ (v q : ℕ). parts_at l q (leb 2 v) (eqb (v % 2) 1)))

unfoldable pub former_rest : List ℕ → Kind → ℕ → ℕ → Result Apdu Refusal
former_rest l kind.AbortUser m at = rest_at l kind.AbortUser m at
former_rest l kind.AbortProvider m at = rest_at l kind.AbortProvider m at
former_rest l kind.Start m at = then (former_data l at) (λ (d : Data) (next : ℕ). ended_at l next (apdu.Start m d))
former_rest l kind.Send m at = then (former_data l at) (λ (d : Data) (next : ℕ). ended_at l next (apdu.Send d))
former_rest l kind.Forward m at = rest_at l kind.Forward m at
former_rest l kind.ForwardResponse m at = rest_at l kind.ForwardResponse m at

unfoldable pub former_apdu : PduType → List ℕ → ℕ → Result Apdu Refusal
former_apdu pdus l at = then (leading_at pdus l at) (λ (lead : Kind × ℕ) (next : ℕ). former_rest l lead.0 lead.1 next)

-- ---- message data: as before, or its extension bit was refused

data Kept (at : ℕ) (before after : Reading Data) : Type 0 where
  stayed : after ≡ before → Kept at before after
  refused : before ≡ Err (refusal at Extension) → Kept at before after

data_kept : (l : List ℕ) (at : ℕ) → Kept at (former_data l at) (data_at l at)
unfolding former_data data_within extension_bit
data_kept l at = go (bit_field l at 1) refl
  where
    go : (f : Reading ℕ) → bit_field l at 1 ≡ f → Kept at (former_data l at) (data_at l at)
    go (Err r) e = stayed (rw e)
    go (Ok (x, p)) e = by (eqb x 0) refl
      where
        by : (t : Bool) → eqb x 0 ≡ t → Kept at (former_data l at) (data_at l at)
        by true q = stayed (rw (e, q))
        by false q = refused (rw (e, q))

-- ---- an APDU

-- the refusal of an extension bit, at any place
abbrev Twelve : Result Apdu Refusal → Type 0
Twelve (Ok a) = ⊥
Twelve (Err r) = r.fault ≡ Extension

pub data AsBefore (before after : Result Apdu Refusal) : Type 0 where
  same : after ≡ before → AsBefore before after
  stepped : Twelve before → AsBefore before after

on_kept : (at : ℕ) (k : Data → ℕ → Result Apdu Refusal) (t u : Reading Data) → Kept at t u → AsBefore (then t k) (then u k)
on_kept at k t u (stayed e) = same (ap (λ (x : Reading Data). then x k) e)
on_kept at k t u (refused e) = stepped (rw e refl)

rest_kept : (l : List ℕ) (c : Kind) (m at : ℕ) → AsBefore (former_rest l c m at) (rest_at l c m at)
unfolding former_rest rest_within
rest_kept l kind.AbortUser m at = same refl
rest_kept l kind.AbortProvider m at = same refl
rest_kept l kind.Start m at = on_kept at _ (former_data l at) (data_at l at) (data_kept l at)
rest_kept l kind.Send m at = on_kept at _ (former_data l at) (data_at l at) (data_kept l at)
rest_kept l kind.Forward m at = same refl
rest_kept l kind.ForwardResponse m at = same refl

-- EVERY ANSWER IS WHAT IT WAS, BUT WHERE IT WAS 12
pub apdu_kept : (pdus : PduType) (l : List ℕ) (at : ℕ) → AsBefore (former_apdu pdus l at) (apdu_at pdus l at)
unfolding former_apdu apdu_within
apdu_kept pdus l at = go (leading_at pdus l at)
  where
    go : (x : Reading (Kind × ℕ)) → AsBefore (then x (λ (lead : Kind × ℕ) (next : ℕ). former_rest l lead.0 lead.1 next)) (then x (λ (lead : Kind × ℕ) (next : ℕ). rest_at l lead.0 lead.1 next))
    go (Ok ((c, m), n)) = rest_kept l c m n
    go (Err r) = same refl

-- and what was accepted is accepted with the same value
pub accepted_before : (pdus : PduType) (l : List ℕ) (at : ℕ) (a : Apdu) → former_apdu pdus l at ≡ Ok a
    → apdu_at pdus l at ≡ Ok a
accepted_before pdus l at a e = go (former_apdu pdus l at) e (apdu_kept pdus l at)
  where
    go : (x : Result Apdu Refusal) → x ≡ Ok a → AsBefore x (apdu_at pdus l at) → apdu_at pdus l at ≡ Ok a
    go (Ok b) q (same p) = p ∙ q
    go (Ok b) q (stepped t) = absurd t
    go (Err r) q t = never (cc)
