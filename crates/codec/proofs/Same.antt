-- The codec of type 22 is crate apdu's, word for word.
-- Assumes nothing.
use mathlib.Core.Path.{◌≡◌, refl}
use mathlib.Core.List.{List}
use Prim.Native.Nat.{ℕ}
use Rattle.editions.specs.declared.Edition.TheVariants.{Protected}
use Rattle.apdu.specs.Pdus.{Pdu, abort_user, abort_provider, start, send, forward, forward_response}
use Rattle.apdu.specs.Encoding.{pdu_bits as theirBits}
use Rattle.apdu.specs.Reading.{leading_at, rest_within, apdu_within, rest_at as theirRest, apdu_at as theirApdu}
use Rattle.apdu.specs.Writing.{apdu_fits as theirFits}
use Rattle.pdus.specs.declared.PduType.{PduType}
use Rattle.apdu.specs.declared.Kind.{Kind}
use Rattle.apdu.specs.declared.Kind.TheVariants as kind
use Rattle.apdu.specs.declared.Apdu.{Apdu}
use Rattle.apdu.specs.declared.Apdu.TheVariants as is
use Rattle.codec.specs.Codec.{pdu_bits, apdu_fits, rest_at, apdu_at}
use Rattle.std.specs.Prelude.{Err, Ok}
use Rattle.fields.specs.Fields.{Reading, then}

pub bits_same : (t : PduType) (v : Pdu) → pdu_bits Protected t v ≡ theirBits t v
unfolding pdu_bits theirBits
bits_same t (abort_user r) = refl
bits_same t (abort_provider r) = refl
bits_same t (start m c) = refl
bits_same t (send c) = refl
bits_same t (forward h m) = refl
bits_same t (forward_response x) = refl

pub fits_same : (t : PduType) (li lm lc : List ℕ) (a : Apdu) → apdu_fits Protected t li lm lc a ≡ theirFits t li lm lc a
unfolding apdu_fits theirFits
fits_same t li lm lc (is.AbortUser r) = refl
fits_same t li lm lc (is.AbortProvider r) = refl
fits_same t li lm lc (is.Start m d) = refl
fits_same t li lm lc (is.Send d) = refl
fits_same t li lm lc (is.Forward f) = refl
fits_same t li lm lc (is.ForwardResponse x) = refl

pub rest_same : (t : PduType) (l : List ℕ) (k : Kind) (m at : ℕ) → rest_at Protected t l k m at ≡ theirRest l k m at
unfolding rest_at rest_within
rest_same t l kind.AbortUser m at = refl
rest_same t l kind.AbortProvider m at = refl
rest_same t l kind.Start m at = refl
rest_same t l kind.Send m at = refl
rest_same t l kind.Forward m at = refl
rest_same t l kind.ForwardResponse m at = refl

pub apdu_same : (t : PduType) (l : List ℕ) → apdu_at Protected t l ≡ theirApdu t l 0
unfolding apdu_at apdu_within
apdu_same t l = go (leading_at t l 0)
  where
    go : (x : Reading (Kind × ℕ)) → then x (λ (k : Kind × ℕ) (n : ℕ). rest_at Protected t l k.0 k.1 n) ≡ then x (λ (k : Kind × ℕ) (n : ℕ). theirRest l k.0 k.1 n)
    go (Ok ((k, m), n)) = rest_same t l k m n
    go (Err r) = refl
