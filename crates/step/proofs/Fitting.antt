-- User data that were read have codes of their types: so SHAPE and STALE of a primitive are asked before its user data are read.
-- Assumes nothing.
use mathlib.Core.Path.{◌≡◌, refl, ap, ◌∙◌}
use mathlib.Core.Bool.{Bool, true, false, cond, ◌&&◌}
use mathlib.Core.List.{List}
use Prim.Native.Nat.{ℕ, suc, ◌<◌}
use native.Mathlib.Omega.{arith}
use borrow.Author.Tests.{lt-ltb, leb-true}
use lib.Dec.{ltb, leb}
use Rattle.words.proofs.Laws.{both_right}
use Rattle.bits.proofs.Numbers.{Bits}
use Rattle.bits.proofs.Bytes.{bits_to_is}
use Rattle.fields.specs.Encodings.{whole_fits}
use Rattle.editions.specs.Editions.{user_reasons}
use Rattle.editions.specs.declared.Edition.{Edition}
use Rattle.editions.specs.declared.Edition.TheVariants.{Plain, Protected}
use Rattle.apdu.specs.Sizes.{all_bits, provider_last}
use Rattle.apdu.specs.Headings.{response_last}
use Rattle.apdu.specs.Pdus.{lent, forwards}
use Rattle.codec.specs.Codec.{user_last, apdu_fits, apdu_at}
use Rattle.codec.proofs.Instance.{laws}
use Rattle.pdus.specs.declared.PduType.{PduType}
use Rattle.pdus.specs.declared.PduType.TheVariants as pdus
use Rattle.apdu.specs.declared.Apdu.{Apdu}
use Rattle.apdu.specs.declared.Apdu.TheVariants as is
use Rattle.control.specs.declared.Side.{Side}
use Rattle.control.specs.declared.Control.{Control}
use Rattle.machine.specs.Event.{service_fits, event_fits}
use Rattle.machine.specs.UserData.{user_data_fits}
use Rattle.machine.specs.declared.event.UserData.{UserData}
use Rattle.machine.specs.declared.event.ServicePrimitive.{ServicePrimitive}
use Rattle.machine.specs.declared.event.Event.TheVariants.{Service}
use Rattle.step.specs.Call.{meaning, abort_of, or_abort, reads_as, reads_again, read_pdu}
use Rattle.std.specs.Prelude.{Err, Ok, Result}
use Rattle.fields.specs.declared.Refusal.{Refusal}

low : (n last : ℕ) → whole_fits 0 last n ≡ true → ltb n (suc last) ≡ true
low n last h = lt-ltb n (suc last) (omega (arith, leb-true n last (both_right (leb 0 n) (leb n last) h)))

reason_low : (ed : Edition) (n : ℕ) → whole_fits 0 (user_last ed) n ≡ true → ltb n (user_reasons ed) ≡ true
reason_low Plain n h = low n (user_last Plain) h
reason_low Protected n h = low n (user_last Protected) h

module _ (ed : Edition) where
  abbrev fits : Result Apdu Refusal → Type 0
  fits y = user_data_fits ed (meaning y) ≡ true

  meaning_fits : (p : PduType) (l : List ℕ) → Bits l → (y : Result Apdu Refusal) → apdu_at ed p l ≡ y → fits y
  unfolding meaning user_data_fits apdu_fits
  meaning_fits p l b (Err r) e = refl
  meaning_fits p l b (Ok (is.AbortUser n)) e = reason_low ed n ((laws ed).accepted p l (is.AbortUser n) b e).placed_fits
  meaning_fits p l b (Ok (is.AbortProvider n)) e = low n provider_last ((laws ed).accepted p l (is.AbortProvider n) b e).placed_fits
  meaning_fits p l b (Ok (is.Start m d)) e = refl
  meaning_fits p l b (Ok (is.Send d)) e = refl
  meaning_fits p l b (Ok (is.Forward f)) e = refl
  meaning_fits p l b (Ok (is.ForwardResponse n)) e = low n response_last (both_right (forwards p)
      (whole_fits 0 response_last n) ((laws ed).accepted p l (is.ForwardResponse n) b e).placed_fits)

  abort_fits_is : (x : Result Apdu Refusal) (a : Apdu) → fits x → fits (Ok a) → fits (abort_of x a)
  unfolding abort_of
  abort_fits_is x (is.AbortUser n) p q = p
  abort_fits_is x (is.AbortProvider n) p q = q
  abort_fits_is x (is.Start m d) p q = p
  abort_fits_is x (is.Send d) p q = p
  abort_fits_is x (is.Forward f) p q = p
  abort_fits_is x (is.ForwardResponse n) p q = p

  or_fits : (x y : Result Apdu Refusal) → fits x → fits y → fits (or_abort x y)
  unfolding or_abort
  or_fits (Ok a) y p q = p
  or_fits (Err r) (Ok a) p q = abort_fits_is (Err r) a p q
  or_fits (Err r) (Err s) p q = p

  pub read_fits : (sd : Side) (c : Control) (p : ServicePrimitive) (s : List ℕ)
      → user_data_fits ed (meaning (read_pdu ed sd c p (lent s))) ≡ true
  unfolding read_pdu
  read_fits sd c p s = go (reads_again sd p)
    where
      first : fits (apdu_at ed (reads_as sd c p) (lent s))
      first = meaning_fits (reads_as sd c p) (lent s) (bits_to_is s all_bits) (apdu_at ed (reads_as sd c p) (lent s)) refl

      go : (t : Bool)
          → fits (cond t (or_abort (apdu_at ed (reads_as sd c p) (lent s)) (apdu_at ed pdus.GroundPdus (lent s))) (apdu_at ed (reads_as sd c p) (lent s)))
      go true = or_fits (apdu_at ed (reads_as sd c p) (lent s)) (apdu_at ed pdus.GroundPdus (lent s)) first
          (meaning_fits pdus.GroundPdus (lent s) (bits_to_is s all_bits) (apdu_at ed pdus.GroundPdus (lent s)) refl)
      go false = first

  -- the codes of a primitive, whatever was read with it
  pub codes_same : (sd : Side) (p : ServicePrimitive) (m : UserData) → user_data_fits ed m ≡ true
      → event_fits sd ed (Service p m) ≡ service_fits p
  unfolding event_fits
  codes_same sd p m h = ap (λ (t : Bool). service_fits p && t) h ∙ right_true (service_fits p)
    where
      right_true : (t : Bool) → (t && true) ≡ t
      right_true true = refl
      right_true false = refl
