-- What holds of the codec of an edition, said once over the edition; proofs/Instance shows it of both.
use mathlib.Core.Path.{◌≡◌}
use mathlib.Core.Bool.{Bool, true, false, not, cond, ◌&&◌, ◌||◌}
use mathlib.Core.List.{List, [], ◌∷◌}
use Prim.Native.Nat.{ℕ, ◌+◌, ◌-◌, ◌*◌, ◌≤◌}
use lib.Dec.{ltb, eqb}
use lib.ListN.{length, take, drop, get_or}
use Rattle.bits.specs.Put.{put_bits}
use Rattle.bits.proofs.Numbers.{Bits}
use Rattle.fields.specs.Encodings.{whole_fits}
use Rattle.inplace.specs.InPlace.{message_span}
use Rattle.editions.specs.declared.Edition.{Edition}
use Rattle.editions.specs.declared.Edition.TheVariants.{Plain, Protected}
use Rattle.apdu.specs.Sizes.{buffer_least, provider_last, bit}
use Rattle.apdu.specs.Headings.{response_last, heading_fits}
use Rattle.apdu.specs.Pdus.{Optional, absent, given, Content, Pdu, abort_user, abort_provider, start, send, forward, forward_response, forwards, lent, items_in, content_in, pdu_in}
use Rattle.apdu.specs.Encoding as protected
use Rattle.apdu.specs.Encoding.{mode_fits, padded, bytes_for}
use Rattle.apdu.specs.Reading.{data_at}
use Rattle.apdu.specs.Stripped as stripped
use Rattle.apdu.specs.InPlace.{perhaps_bits}
use Rattle.apdu.specs.Writing.{data_fits, forward_fits}
use Rattle.pdus.specs.declared.PduType.{PduType}
use Rattle.apdu.specs.declared.Data.{Data}
use Rattle.apdu.specs.declared.Heading.{Heading}
use Rattle.apdu.specs.declared.Forward.{Forward}
use Rattle.apdu.specs.declared.Apdu.{Apdu}
use Rattle.apdu.specs.declared.Apdu.TheVariants as is
use Rattle.apdu.proofs.Bounds.{content_most, forward_most, pdu_most}
use Rattle.plain.specs.Plain as plain
use Rattle.plain.specs.Plain.{sent_by, takes_all, is_empty, elements_fit}
use Rattle.codec.specs.Codec.{user_last, content_bits, start_bits, forward_bits, pdu_bits, given_fits, forward_given_fits, apdu_fits, apdu_at}
use Rattle.std.specs.Prelude.{Err, None, Ok, Option, Some}
use Rattle.fields.specs.Fields.{Reading}
use Rattle.pdus.specs.declared.Span.{Span}

-- ---- values that the edition carries

abbrev pub is_there : Optional → Bool
is_there absent = false
is_there (given l) = true

abbrev pub content_fits : Edition → PduType → Content → Bool
content_fits Protected t c = protected.content_fits c
content_fits Plain t c = plain.content_fits (sent_by t) c

-- a send of type 2 holds a message
abbrev pub must_hold : Edition → Bool → Bool
must_hold Protected h = true
must_hold Plain h = h

abbrev pub forward_pdu_fits : Edition → Heading → List ℕ → Bool
forward_pdu_fits Protected h m = protected.forward_pdu_fits h m
forward_pdu_fits Plain h m = heading_fits h && elements_fit h m

unfoldable pub pdu_fits : Edition → PduType → Pdu → Bool
pdu_fits ed t (abort_user r) = whole_fits 0 (user_last ed) r
pdu_fits ed t (abort_provider r) = whole_fits 0 provider_last r
pdu_fits ed t (start m c) = mode_fits t m && content_fits ed t c
pdu_fits ed t (send c) = content_fits ed t c && must_hold ed (is_there c.message)
pdu_fits ed t (forward h m) = forwards t && forward_pdu_fits ed h m
pdu_fits ed t (forward_response x) = forwards t && whole_fits 0 response_last x

-- type 2 has no additions from a later edition
abbrev pub extended : Edition → PduType → List ℕ → Apdu → Bool
extended Protected t l a = stripped.extended t l a
extended Plain t l a = false

-- ---- bodies: message data by themselves, as they are delivered

abbrev pub bits_only : List ℕ → Bool
bits_only [] = true
bits_only (x ∷ l) = ltb x 2 && bits_only l

-- from the first bit to the last, without additions
abbrev pub wholly : Reading Data → ℕ → Bool
wholly (Ok (d, next)) n = eqb next n
wholly (Err r) n = false

-- in type 2 a message, or nothing
unfoldable pub is_body_is : Edition → PduType → List ℕ → Bool
is_body_is Protected t b = bits_only b && (eqb (get_or b 0 0) 0 && wholly (data_at b 0) (length b))
is_body_is Plain t b = bits_only b && (is_empty b || takes_all (message_span (sent_by t)) b)

abbrev pub is_given : Option Span → Bool
is_given None = false
is_given (Some x) = true

abbrev pub message_in : Reading Data → Bool
message_in (Ok (d, next)) = is_given d.message
message_in (Err r) = false

-- is there a message in it
unfoldable pub carries : Edition → List ℕ → Bool
carries Protected b = message_in (data_at b 0)
carries Plain b = not (is_empty b)

-- as a start holds it
unfoldable pub start_of : Edition → List ℕ → List ℕ
start_of Protected b = b
start_of Plain b = perhaps_bits (cond (is_empty b) absent (given b))

pub record BodyIs (ed : Edition) (t : PduType) (b : List ℕ) : Type 0 where
  pub content : Content
  pub fits : content_fits ed t content ≡ true
  pub bits : b ≡ content_bits ed content
  pub are_bits : Bits b

-- ---- what was read

-- bits that are read as a value
pub record ApduRead (ed : Edition) (t : PduType) (l : List ℕ) (v : Pdu) : Type 0 where
  pub value : Apdu
  pub read : apdu_at ed t l ≡ Ok value
  pub same : pdu_in l l l value ≡ v

-- bits that are read as an APDU: its parts stand in them, its value is one that the edition carries, and without additions they are its encoding
pub record Accepted (ed : Edition) (t : PduType) (l : List ℕ) (a : Apdu) : Type 0 where
  pub placed_fits : apdu_fits ed t l l l a ≡ true
  pub fits : pdu_fits ed t (pdu_in l l l a) ≡ true
  pub bits : extended ed t l a ≡ false → l ≡ padded (pdu_bits ed t (pdu_in l l l a))

-- a forward message that was read in an APDU: it stands behind the alternative, which is four bits, and is no larger than a buffer
pub record ForwardRun (ed : Edition) (l : List ℕ) (f : Forward) : Type 0 where
  pub from : 4 ≤ f.message.at + f.message.count
  pub within : f.message.at + f.message.count ≤ length l
  pub few : f.message.at + f.message.count - 4 + 8 ≤ 8 * buffer_least
  pub fits : forward_fits l f ≡ true
  pub bits : forward_bits ed f.heading (items_in l bit f.message) ≡ take (f.message.at + f.message.count - 4) (drop 4 l)

-- ---- the laws

pub record Laws (ed : Edition) : Type 0 where
  -- what the host gives stands where it says, and is a value that the edition carries
  pub given_places : (t : PduType) (li lm lc : List ℕ) (d : Data) → given_fits ed t li lm lc d ≡ true → data_fits li lm lc d ≡ true
  pub given_value : (t : PduType) (li lm lc : List ℕ) (d : Data) → given_fits ed t li lm lc d ≡ true
      → content_fits ed t (content_in li lm lc d) ≡ true
  pub forward_given_places : (lm : List ℕ) (f : Forward) → forward_given_fits ed lm f ≡ true → forward_fits lm f ≡ true
  pub forward_given_value : (lm : List ℕ) (f : Forward) → forward_given_fits ed lm f ≡ true
      → forward_pdu_fits ed f.heading (items_in lm bit f.message) ≡ true
  -- encodings are bits
  pub content_are_bits : (li lm lc : List ℕ) (d : Data) → Bits li → Bits lm → Bits lc → Bits (content_bits ed (content_in li lm lc d))
  pub start_are_bits : (li lm lc : List ℕ) (d : Data) → Bits li → Bits lm → Bits lc → Bits (start_bits ed (content_in li lm lc d))
  pub pdu_are_bits : (t : PduType) (li lm lc : List ℕ) (a : Apdu) → Bits li → Bits lm → Bits lc → Bits (pdu_bits ed t (pdu_in li lm lc a))
  -- how large they are
  pub content_most_is : (li lm lc : List ℕ) (d : Data) → data_fits li lm lc d ≡ true
      → length (content_bits ed (content_in li lm lc d)) ≤ content_most
  pub forward_most_is : (lm : List ℕ) (f : Forward) → forward_fits lm f ≡ true
      → length (forward_bits ed f.heading (items_in lm bit f.message)) ≤ forward_most
  pub pdu_most_is : (t : PduType) (li lm lc : List ℕ) (a : Apdu) → apdu_fits ed t li lm lc a ≡ true
      → length (pdu_bits ed t (pdu_in li lm lc a)) ≤ pdu_most
  pub content_value_most : (t : PduType) (c : Content) → content_fits ed t c ≡ true → Bits (content_bits ed c)
      → length (content_bits ed c) ≤ content_most
  pub pdu_value_most : (t : PduType) (v : Pdu) → pdu_fits ed t v ≡ true → Bits (pdu_bits ed t v) → length (pdu_bits ed t v) ≤ pdu_most
  -- what is written to a buffer is read as it was
  pub written_read : (t : PduType) (v : Pdu) (s : List ℕ) → Bits (pdu_bits ed t v) → pdu_fits ed t v ≡ true → buffer_least ≤ length s
      → ApduRead ed t (lent (take (bytes_for (length (pdu_bits ed t v))) (put_bits s 0 (padded (pdu_bits ed t v))))) v
  -- what is read
  pub accepted : (t : PduType) (l : List ℕ) (a : Apdu) → Bits l → apdu_at ed t l ≡ Ok a → Accepted ed t l a
  pub forward_run : (t : PduType) (l : List ℕ) (f : Forward) → Bits l → apdu_at ed t l ≡ Ok (is.Forward f) → ForwardRun ed l f
  -- bodies
  pub body_is : (t : PduType) (b : List ℕ) → is_body_is ed t b ≡ true → BodyIs ed t b
  pub is_body : (t : PduType) (c : Content) → content_fits ed t c ≡ true → Bits (content_bits ed c) → is_body_is ed t (content_bits ed c) ≡ true
  pub carries_is : (t : PduType) (c : Content) → content_fits ed t c ≡ true → Bits (content_bits ed c)
      → carries ed (content_bits ed c) ≡ is_there c.message
  pub start_of_is : (t : PduType) (c : Content) → content_fits ed t c ≡ true → Bits (content_bits ed c)
      → start_bits ed c ≡ start_of ed (content_bits ed c)
