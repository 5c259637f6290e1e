-- The card's codec of an edition as the codec that crate pair speaks of: a body is the encoding of message data, and a side writes its own PDUs.
-- Assumes nothing.
use mathlib.Core.Path.{◌≡◌, refl, ap, sym, subst, ◌∙◌}
use mathlib.Core.Bool.{Bool, true, false, ◌&&◌}
use mathlib.Core.List.{List, [], ◌∷◌, ◌++◌}
use Prim.Native.Nat.{ℕ, ◌≤◌}
use native.Mathlib.Omega.{arith}
use borrow.Author.Tests.{ltb-true, le-leb}
use lib.Dec.{T, ltb, eqb}
use lib.ListN.{length, take, replicate}
use Rattle.words.proofs.Laws.{both_left, both_right}
use Rattle.bits.specs.Bits.{bits_n, bits_of, bits_to}
use Rattle.bits.specs.Read.{read_bits}
use Rattle.bits.specs.Put.{put_bits}
use Rattle.bits.proofs.Numbers.{Bits, bits_bits_n}
use Rattle.bits.proofs.Bytes.{bits_append}
use Rattle.fields.specs.Encodings.{whole_fits, index_bits}
use Rattle.fields.specs.Fields.{bit_field, extension_bit, whole_number, extensible_index}
use Rattle.fields.proofs.RoundTrip.{extensible_index_is}
use Rattle.editions.specs.declared.Edition.{Edition}
use Rattle.editions.specs.declared.Edition.TheVariants.{Plain, Protected}
use Rattle.apdu.specs.Sizes.{buffer_least, provider_last}
use Rattle.apdu.specs.Pdus.{Content, Pdu, abort_user, abort_provider, start, send, forward, forward_response, last_of, lent, pdu_in}
use Rattle.apdu.specs.Encoding.{mode_bits, mode_fits, alternative, presence, padded, bytes_for}
use Rattle.apdu.specs.InPlace.{bits_in, perhaps_bits}
use Rattle.apdu.specs.Reading.{leading_at}
use Rattle.apdu.specs.declared.Kind.TheVariants as kind
use Rattle.pdus.specs.declared.PduType.{PduType}
use Rattle.pdus.specs.declared.PduType.TheVariants as pdu
use Rattle.apdu.proofs.Theorems.{mode_are_bits, index_are_bits}
use Rattle.codec.specs.Codec.{user_last, content_bits, start_bits, pdu_bits, apdu_at}
use Rattle.codec.proofs.Stated.{is_there, content_fits, must_hold, pdu_fits, is_body_is, carries, start_of}
use Rattle.codec.proofs.Instance.{laws}
use Rattle.machine.specs.Codes.{provider_reasons}
use Rattle.machine.specs.declared.event.UserData.{UserData}
use Rattle.machine.specs.declared.event.UserData.TheVariants.{Absent, NotValid, Start, Send, AbortUser, AbortProvider, Forward, ForwardResponse}
use Rattle.stored.specs.Stored.{flag}
use Rattle.step.specs.Call.{pdus_of}
use Rattle.step.proofs.Taken.{never}
use Rattle.pair.specs.Names.{Side}
use Rattle.pair.specs.Carrier.{Body}
use Rattle.pair.proofs.OneDialogue.{is_nil}
use Rattle.pair.proofs.StepMachine.{Read, got, fault, Codec}
use Rattle.std.specs.Prelude.{Err, Ok, Result}
use Rattle.fields.specs.declared.Refusal.{Refusal}
use Rattle.apdu.specs.declared.Apdu.{Apdu}

-- ---- writing

-- a send of type 2 holds a message; a start of it may hold none
abbrev pub fits : Edition → Side → UserData → Body → Bool
fits ed sd Absent b = is_nil b
fits ed sd NotValid b = false
fits ed sd (Start m) b = mode_fits (pdus_of sd) (flag m) && is_body_is ed (pdus_of sd) b
fits ed sd Send b = is_body_is ed (pdus_of sd) b && must_hold ed (carries ed b)
fits ed sd (AbortUser x) b = whole_fits 0 (user_last ed) x && is_nil b
fits ed sd (AbortProvider x) b = whole_fits 0 provider_last x && is_nil b
fits ed sd Forward b = false
fits ed sd (ForwardResponse x) b = false

-- the bits of an APDU with the body b
unfoldable pub apdu_bits : Edition → Side → UserData → Body → List ℕ
apdu_bits ed sd Absent b = []
apdu_bits ed sd NotValid b = []
apdu_bits ed sd (Start m) b = alternative (pdus_of sd) kind.Start ++ (mode_bits (pdus_of sd) (flag m) ++ start_of ed b)
apdu_bits ed sd Send b = alternative (pdus_of sd) kind.Send ++ b
apdu_bits ed sd (AbortUser x) b = pdu_bits ed (pdus_of sd) (abort_user x)
apdu_bits ed sd (AbortProvider x) b = pdu_bits ed (pdus_of sd) (abort_provider x)
apdu_bits ed sd Forward b = []
apdu_bits ed sd (ForwardResponse x) b = []

-- the bytes that a writer leaves at the front of a buffer of zeros
abbrev pub zeros : List ℕ
zeros = replicate buffer_least 0

abbrev pub front_of : List ℕ → List ℕ → List ℕ
front_of t bs = take (bytes_for (length bs)) (put_bits t 0 (padded bs))

abbrev pub enc : Edition → Side → UserData → Body → List ℕ
enc ed sd a b = front_of zeros (apdu_bits ed sd a b)

-- ---- reading

abbrev pub value_read : Edition → Pdu → Read
value_read ed (abort_user r) = got (AbortUser r) []
value_read ed (abort_provider r) = got (AbortProvider r) []
value_read ed (start m c) = got (Start (eqb m 1)) (content_bits ed c)
value_read ed (send c) = got Send (content_bits ed c)
value_read ed (forward h m) = got Forward []
value_read ed (forward_response x) = got (ForwardResponse x) []

abbrev pub read_of : Edition → List ℕ → Result Apdu Refusal → Read
read_of ed l (Ok a) = value_read ed (pdu_in l l l a)
read_of ed l (Err r) = fault

-- what the other side reads
abbrev pub dec : Edition → Side → List ℕ → Read
dec ed sd [] = got Absent []
dec ed sd (x ∷ w) = read_of ed (lent (x ∷ w)) (apdu_at ed (pdus_of sd) (lent (x ∷ w)))

abbrev pub is_read : Result Apdu Refusal → Bool
is_read (Ok a) = true
is_read (Err r) = false

-- no bits are no PDU
nothing_read : (ed : Edition) (pdus : PduType) → is_read (apdu_at ed pdus (lent [])) ≡ false
unfolding bits_of bits_to read_bits bit_field extension_bit whole_number extensible_index leading_at apdu_at
nothing_read ed pdu.AircraftPdus = refl
nothing_read ed pdu.GroundPdus = refl

-- bytes that are read as a PDU are some
dec_read : (ed : Edition) (sd : Side) (w : List ℕ) → is_read (apdu_at ed (pdus_of sd) (lent w)) ≡ true
    → dec ed sd w ≡ read_of ed (lent w) (apdu_at ed (pdus_of sd) (lent w))
dec_read ed sd [] e = never (sym (nothing_read ed (pdus_of sd)) ∙ e)
dec_read ed sd (x ∷ w) e = refl

-- ---- what was written is read

pub full : buffer_least ≤ length zeros
full = omega arith

module _ (ed : Edition) (sd : Side) (v : Pdu) (b : Bits (pdu_bits ed (pdus_of sd) v)) (h : pdu_fits ed (pdus_of sd) v ≡ true) where
  value_back : dec ed sd (front_of zeros (pdu_bits ed (pdus_of sd) v)) ≡ value_read ed v
  value_back =
      let x = (laws ed).written_read (pdus_of sd) v zeros b h full in
      dec_read ed sd (front_of zeros (pdu_bits ed (pdus_of sd) v)) (ap is_read x.read)
      ∙ ap (read_of ed (lent (front_of zeros (pdu_bits ed (pdus_of sd) v)))) x.read ∙ ap (value_read ed) x.same

-- as a start holds message data
start_bits_is : (ed : Edition) (c : Content) → Bits (content_bits ed c) → Bits (start_bits ed c)
unfolding perhaps_bits
start_bits_is Protected c b = b
start_bits_is Plain c b = bits_append (bits_n 1 (presence c.message)) (bits_in c.message) (bits_bits_n 1 (presence c.message)) b

module _ (ed : Edition) (sd : Side) (c : Content) (f : content_fits ed (pdus_of sd) c ≡ true) (b : Bits (content_bits ed c)) where
  send_back : must_hold ed (is_there c.message) ≡ true → dec ed sd (enc ed sd Send (content_bits ed c)) ≡ got Send (content_bits ed c)
  unfolding apdu_bits pdu_bits pdu_fits
  send_back m = value_back ed sd (send c)
      (bits_append (index_bits (last_of (pdus_of sd)) 3) (content_bits ed c) (index_are_bits (pdus_of sd) 3) b) (rw (f, m))

  start_value : (n : ℕ) → mode_fits (pdus_of sd) n ≡ true
      → dec ed sd (front_of zeros (alternative (pdus_of sd) kind.Start ++ (mode_bits (pdus_of sd) n ++ start_bits ed c))) ≡ got (Start (eqb n 1)) (content_bits ed c)
  unfolding pdu_bits pdu_fits
  start_value n m =
      value_back ed sd (start n c)
      (bits_append (index_bits (last_of (pdus_of sd)) 2) _ (index_are_bits (pdus_of sd) 2)
      (bits_append (mode_bits (pdus_of sd) n) (start_bits ed c) (mode_are_bits (pdus_of sd) n) (start_bits_is ed c b)))
      (rw m f)

  start_held : (n : ℕ) → mode_fits (pdus_of sd) n ≡ true
      → dec ed sd (front_of zeros (alternative (pdus_of sd) kind.Start ++ (mode_bits (pdus_of sd) n ++ start_of ed (content_bits ed c)))) ≡ got (Start (eqb n 1)) (content_bits ed c)
  start_held n m =
      subst (λ (z : List ℕ). dec ed sd
      (front_of zeros (alternative (pdus_of sd) kind.Start ++ (mode_bits (pdus_of sd) n ++ z))) ≡ got
      (Start (eqb n 1)) (content_bits ed c)) ((laws ed).start_of_is (pdus_of sd) c f b) (start_value n m)

  start_back : (m : Bool) → mode_fits (pdus_of sd) (flag m) ≡ true
      → dec ed sd (enc ed sd (Start m) (content_bits ed c)) ≡ got (Start m) (content_bits ed c)
  unfolding apdu_bits
  start_back true m = start_held 1 m
  start_back false m = start_held 0 m

pub last_low : (ed : Edition) → user_last ed ≤ 12
last_low Plain = omega arith
last_low Protected = omega arith

user_bits : (ed : Edition) (x : ℕ) → Bits (index_bits (user_last ed) x)
user_bits ed x = let l = last_low ed in (extensible_index_is (user_last ed) (omega arith)).are_bits x

module _ (ed : Edition) (sd : Side) (x : ℕ) where
  user_back : whole_fits 0 (user_last ed) x ≡ true → dec ed sd (enc ed sd (AbortUser x) []) ≡ got (AbortUser x) []
  unfolding apdu_bits pdu_bits pdu_fits
  user_back h = value_back ed sd (abort_user x) (bits_append (index_bits (last_of (pdus_of sd)) 0)
      (index_bits (user_last ed) x) (index_are_bits (pdus_of sd) 0) (user_bits ed x)) h

  provider_back : whole_fits 0 provider_last x ≡ true → dec ed sd (enc ed sd (AbortProvider x) []) ≡ got (AbortProvider x) []
  unfolding apdu_bits pdu_bits pdu_fits
  provider_back h = value_back ed sd (abort_provider x) (bits_append (index_bits (last_of (pdus_of sd)) 1)
      (index_bits provider_last x) (index_are_bits (pdus_of sd) 1)
      ((extensible_index_is provider_last (omega arith)).are_bits x)) h

pub holds : (b : Bool) → T b → b ≡ true
holds true t = refl
holds false t = absurd t

pub true_holds : (b : Bool) → b ≡ true → T b
true_holds b e = subst T (sym e) tt

nil_is : (b : Body) → is_nil b ≡ true → b ≡ []
nil_is [] e = refl
nil_is (x ∷ b) e = never e

-- no user data is no bytes
nothing_written : (ed : Edition) (sd : Side) → enc ed sd Absent [] ≡ []
unfolding apdu_bits
nothing_written ed sd = refl

pub back : (ed : Edition) (sd : Side) (a : UserData) (b : Body) → T (fits ed sd a b) → dec ed sd (enc ed sd a b) ≡ got a b
back ed sd Absent [] t = ap (dec ed sd) (nothing_written ed sd)
back ed sd Absent (x ∷ b) t = absurd t
back ed sd NotValid b t = absurd t
back ed sd (Start m) b t =
    let e = holds (mode_fits (pdus_of sd) (flag m) && is_body_is ed (pdus_of sd) b) t in
    let i = (laws ed).body_is (pdus_of sd) b (both_right (mode_fits (pdus_of sd) (flag m)) (is_body_is ed (pdus_of sd) b) e) in
    subst (λ (x : Body). dec ed sd (enc ed sd (Start m) x) ≡ got (Start m) x) (sym i.bits) (start_back ed sd
    i.content i.fits (subst Bits i.bits i.are_bits) m
    (both_left (mode_fits (pdus_of sd) (flag m)) (is_body_is ed (pdus_of sd) b) e))
back ed sd Send b t =
    let e = holds (is_body_is ed (pdus_of sd) b && must_hold ed (carries ed b)) t in
    let i = (laws ed).body_is (pdus_of sd) b (both_left (is_body_is ed (pdus_of sd) b) (must_hold ed (carries ed b)) e) in
    let y = subst Bits i.bits i.are_bits in
    let h = both_right (is_body_is ed (pdus_of sd) b) (must_hold ed (carries ed b)) e in
    let c = (laws ed).carries_is (pdus_of sd) i.content i.fits y in
    let m : must_hold ed (is_there i.content.message) ≡ true = ap (must_hold ed) (sym c) ∙ ap
    (λ (x : Body). must_hold ed (carries ed x)) (sym i.bits) ∙ h in
    subst (λ (x : Body). dec ed sd (enc ed sd Send x) ≡ got Send x) (sym i.bits) (send_back ed sd i.content i.fits y m)
back ed sd (AbortUser x) b t =
    let e = holds (whole_fits 0 (user_last ed) x && is_nil b) t in
    subst (λ (y : Body). dec ed sd (enc ed sd (AbortUser x) y) ≡ got (AbortUser x) y)
    (sym (nil_is b (both_right (whole_fits 0 (user_last ed) x) (is_nil b) e)))
    (user_back ed sd x (both_left (whole_fits 0 (user_last ed) x) (is_nil b) e))
back ed sd (AbortProvider x) b t =
    let e = holds (whole_fits 0 provider_last x && is_nil b) t in
    subst (λ (y : Body). dec ed sd (enc ed sd (AbortProvider x) y) ≡ got (AbortProvider x) y)
    (sym (nil_is b (both_right (whole_fits 0 provider_last x) (is_nil b) e)))
    (provider_back ed sd x (both_left (whole_fits 0 provider_last x) (is_nil b) e))
back ed sd Forward b t = absurd t
back ed sd (ForwardResponse x) b t = absurd t

pub reasons_fit : (ed : Edition) (sd : Side) (x : ℕ) → T (ltb x provider_reasons) → T (fits ed sd (AbortProvider x) [])
reasons_fit ed sd x t =
    let h = ltb-true x provider_reasons (holds (ltb x provider_reasons) t) in
    true_holds (whole_fits 0 provider_last x && true) (rw (le-leb 0 x (omega arith), le-leb x provider_last (omega arith)))

-- the codec
abbrev pub card_codec : Edition → Codec
card_codec ed = record { fits = fits ed; enc = enc ed; dec = dec ed; carries = carries ed; reasons_fit = reasons_fit ed; back = back ed }
