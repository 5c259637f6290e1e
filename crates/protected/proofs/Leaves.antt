-- What the readers and writers of crate apdu answer, as the front says it.
-- Assumes nothing.
use mathlib.Core.Path.{◌≡◌, refl, ap, sym, ◌∙◌}
use mathlib.Core.Bool.{Bool, true, false, cond, ◌&&◌, ◌||◌}
use mathlib.Core.List.{List, []}
use Prim.Native.Nat.{ℕ, ◌+◌, ◌*◌, ◌^◌, ◌≤◌, ◌<◌}
use native.Mathlib.Omega.{arith}
use borrow.Author.Tests.{leb-true, le-leb}
use lib.Dec.{leb, eqb}
use lib.ListN.{length, take, drop}
use Rattle.words.proofs.Laws.{both_left, both_right}
use Rattle.bits.specs.Bits.{run}
use Rattle.bits.proofs.Numbers.{Bits}
use Rattle.bits.proofs.Bytes.{bits_to_is, length_to, run_to, bits_take, bits_drop, length_part}
use Rattle.fields.specs.Encodings.{whole_fits}
use Rattle.fields.specs.declared.Refusal.{Refusal}
use Rattle.apdu.specs.Sizes.{all_bits, user_last, provider_last, message_most, bit}
use Rattle.apdu.specs.Headings.{response_last, heading_fits}
use Rattle.apdu.specs.Pdus.{lent, content_in, items_in, abort_user, abort_provider, start, send, forward, forward_response, forwards}
use Rattle.apdu.specs.Encoding.{content_bits, mode_bits, mode_fits, pdu_bits}
use Rattle.apdu.specs.Reading.{apdu_at}
use Rattle.apdu.specs.Writing.{items_fit, data_fits, forward_fits, apdu_fits, run_within, passed_most, Done, done, write_out}
use Rattle.apdu.specs.declared.Data.{Data}
use Rattle.apdu.specs.declared.Forward.{Forward}
use Rattle.apdu.specs.declared.Apdu.{Apdu}
use Rattle.apdu.specs.declared.Apdu.TheVariants as is
use Rattle.apdu.proofs.Bounds.{never, items_fits}
use Rattle.apdu.proofs.Apdus.{apdu_read}
use Rattle.pdus.specs.declared.PduType.{PduType}
use Rattle.pdus.specs.declared.PduType.TheVariants.{AircraftPdus, GroundPdus}
use Rattle.pdus.specs.declared.Content.{Content}
use Rattle.machine.specs.UserData.{is_forward}
use Rattle.machine.specs.declared.event.UserData.{UserData as Pdu}
use Rattle.machine.specs.declared.event.UserData.TheVariants as pdu
use Rattle.front.specs.declared.Found.{Found}
use Rattle.front.specs.Body.{Lent, one, given}
use Rattle.front.specs.Runs.{no_content, run_from, run_in, takes_all}
use Rattle.front.specs.Alternatives.{with, mode_bits as modeIs}
use Rattle.front.specs.Editions.{body_for}
use Rattle.front.specs.Apdus.{apdu_at as apduThere, apdu, apdu_bits, index_of, found_fits, found_in}
use Rattle.front.proofs.Runs.{ends_at_is}
use Rattle.protected.specs.Bodies.{data_of, forward_field, forward_run, type22, choice_of}
use Rattle.protected.specs.Border.{found_of, decoded_of}
use Rattle.protected.specs.Sending.{sends, is_reply, replies, shows}
use Rattle.protected.proofs.Instance.{forward_laws}
use Rattle.protected.proofs.Bridge.{apdu_same}
use Rattle.std.specs.Prelude.{Err, Ok, Result}
use mir.Val.{bool_byte}

-- ---- reading

found_by : (pdus : PduType) (s : List ℕ) (d : Result Apdu Refusal) → apdu_at pdus (lent s) 0 ≡ d
    → found_in (decoded_of d) ≡ found_in (apduThere (choice_of pdus) (lent s) 0)
found_by pdus s d e = ap (λ (x : Result Apdu Refusal). found_in (decoded_of x)) (sym e) ∙ ap found_in (apdu_same pdus (lent s) (bits_to_is s all_bits))

pub found_is : (pdus : PduType) (s : List ℕ) (d : Result Apdu Refusal) (b a : Apdu) → d ≡ apdu_at pdus (lent s) 0 → d ≡ Ok b → b ≡ a
    → found_of a ≡ found_in (apduThere (choice_of pdus) (lent s) 0)
found_is pdus s d b a e f g = found_by pdus s (Ok a) (sym e ∙ f ∙ ap Ok g)

pub found_not : (pdus : PduType) (s : List ℕ) (r : Refusal) → apdu_at pdus (lent s) 0 ≡ Err r
    → with pdu.NotValid no_content ≡ found_in (apduThere (choice_of pdus) (lent s) 0)
found_not pdus s r e = found_by pdus s (Err r) e

-- the end of a forward message is a place in lent bytes
pub forward_small : (pdus : PduType) (s : List ℕ) (f : Forward) → apdu_at pdus (lent s) 0 ≡ Ok (is.Forward f)
    → f.message.at + f.message.count < 2 ^ 64
unfolding apdu_fits forward_fits
forward_small pdus s f e =
    let i = apdu_read pdus (lent s) 0 (is.Forward f) (bits_to_is s all_bits) e in
    let m = items_fit (lent s) bit 0 message_most f.message in
    let h = (items_fits (lent s) bit 0 message_most f.message (both_right (heading_fits f.heading) m
    (both_right (forwards pdus) (heading_fits f.heading && m) i.placed_fits))).held in
    let n = length_to s all_bits in
    omega arith

-- ---- writing

-- what is not written may be anything
pub shape_alike : (t a b : List ℕ) → write_out false t a ≡ write_out false t b
unfolding write_out
shape_alike t a b = refl

pub none_sends : (pdus : PduType) (s : Lent) (a : Pdu) (c : Content) (t : List ℕ) → eqb (index_of a) 4 || eqb (index_of a) 6 ≡ true
    → done (Ok 0) t ≡ sends pdus s (with a c) t
unfolding sends
none_sends pdus s a c t h = rw h refl

-- the content that the host gives, each part in lent bytes of its own
module _ (pdus : PduType) (ids msgs checks : List ℕ) (c : Content) (t : List ℕ) (d : Data) (e : d ≡ data_of c) where
  pub start_sends : (dsc : Bool) (m : ℕ) → m ≡ bool_byte dsc
      → write_out (mode_fits pdus m && data_fits (lent ids) (lent msgs) (lent checks) d) t
      (pdu_bits pdus (start m (content_in (lent ids) (lent msgs) (lent checks) d))) ≡ sends pdus (given ids msgs checks) (with (pdu.Start dsc) c) t
  unfolding sends found_fits apdu_bits pdu_bits mode_fits mode_bits modeIs
  start_sends dsc m p = rw (p, e) (of pdus dsc)
    where
      of : (p : PduType) (b : Bool) → write_out (mode_fits p (bool_byte b) && data_fits (lent ids) (lent msgs) (lent checks) (data_of c)) t
          (pdu_bits p (start (bool_byte b) (content_in (lent ids) (lent msgs) (lent checks) (data_of c)))) ≡ sends p (given ids msgs checks) (with (pdu.Start b) c) t
      of AircraftPdus true = refl
      of AircraftPdus false = refl
      of GroundPdus true = refl
      of GroundPdus false = refl

  pub send_sends : write_out (data_fits (lent ids) (lent msgs) (lent checks) d) t
      (pdu_bits pdus (send (content_in (lent ids) (lent msgs) (lent checks) d))) ≡ sends pdus (given ids msgs checks) (with pdu.Send c) t
  unfolding sends found_fits apdu_bits pdu_bits
  send_sends = rw e (of pdus)
    where
      of : (p : PduType) → write_out (data_fits (lent ids) (lent msgs) (lent checks) (data_of c)) t
          (pdu_bits p (send (content_in (lent ids) (lent msgs) (lent checks) (data_of c)))) ≡ sends p (given ids msgs checks) (with pdu.Send c) t
      of AircraftPdus = refl
      of GroundPdus = refl

pub user_sends : (pdus : PduType) (s : Lent) (x : ℕ) (c : Content) (t : List ℕ)
    → write_out (whole_fits 0 user_last x) t (pdu_bits pdus (abort_user x)) ≡ sends pdus s (with (pdu.AbortUser x) c) t
unfolding sends found_fits apdu_bits pdu_bits
user_sends AircraftPdus s x c t = refl
user_sends GroundPdus s x c t = refl

pub provider_sends : (pdus : PduType) (s : Lent) (x : ℕ) (c : Content) (t : List ℕ)
    → write_out (whole_fits 0 provider_last x) t (pdu_bits pdus (abort_provider x)) ≡ sends pdus s (with (pdu.AbortProvider x) c) t
unfolding sends found_fits apdu_bits pdu_bits
provider_sends AircraftPdus s x c t = refl
provider_sends GroundPdus s x c t = refl

pub response_sends : (pdus : PduType) (s : Lent) (x : ℕ) (c : Content) (t : List ℕ)
    → write_out (forwards pdus && whole_fits 0 response_last x) t (pdu_bits pdus (forward_response x)) ≡ sends pdus s (with (pdu.ForwardResponse x) c) t
unfolding sends found_fits apdu_bits pdu_bits
response_sends AircraftPdus s x c t = shape_alike t _ _
response_sends GroundPdus s x c t = refl

pub forward_written : (lm : List ℕ) (f : Forward) (t : List ℕ)
    → write_out (forwards GroundPdus && forward_fits lm f) t
    (pdu_bits GroundPdus (forward f.heading (items_in lm bit f.message))) ≡ write_out (forward_fits lm f) t
    (apdu_bits (choice_of GroundPdus) (apdu (choice_of GroundPdus) 4 (forward_run lm f)))
unfolding apdu_bits pdu_bits
forward_written lm f t = refl

-- ---- an answer

pub none_replies : (pdus : PduType) (a : Pdu) (t : List ℕ) → eqb (index_of a) 1 || eqb (index_of a) 5 ≡ false → done (Ok 0) t ≡ replies pdus a t
unfolding replies sends
none_replies pdus pdu.Absent t h = refl
none_replies pdus pdu.NotValid t h = refl
none_replies pdus (pdu.Start m) t h = refl
none_replies pdus pdu.Send t h = refl
none_replies pdus (pdu.AbortUser x) t h = refl
none_replies pdus (pdu.AbortProvider x) t h = never (cc)
none_replies pdus pdu.Forward t h = refl
none_replies pdus (pdu.ForwardResponse x) t h = never (cc)

pub provider_replies : (pdus : PduType) (x : ℕ) (t : List ℕ)
    → write_out (whole_fits 0 provider_last x) t (pdu_bits pdus (abort_provider x)) ≡ replies pdus (pdu.AbortProvider x) t
unfolding replies
provider_replies pdus x t = provider_sends pdus (one []) x no_content t

pub response_replies : (pdus : PduType) (x : ℕ) (t : List ℕ)
    → write_out (forwards pdus && whole_fits 0 response_last x) t (pdu_bits pdus (forward_response x)) ≡ replies pdus (pdu.ForwardResponse x) t
unfolding replies
response_replies pdus x t = response_sends pdus (one []) x no_content t

-- AN ANSWER IS WHAT THE PDU SENDS, WHEREVER ITS CONTENT WOULD STAND
pub reply_sends : (pdus : PduType) (s : Lent) (a : Pdu) (t : List ℕ) → is_reply a ≡ true
    → replies pdus a t ≡ sends pdus s (with a no_content) t
unfolding replies sends
reply_sends pdus s pdu.Absent t h = refl
reply_sends pdus s pdu.NotValid t h = never (cc)
reply_sends pdus s (pdu.Start m) t h = never (cc)
reply_sends pdus s pdu.Send t h = never (cc)
reply_sends pdus s (pdu.AbortUser x) t h = never (cc)
reply_sends pdus s (pdu.AbortProvider x) t h = sym (provider_sends pdus (one []) x no_content t) ∙ provider_sends pdus s x no_content t
reply_sends pdus s pdu.Forward t h = never (cc)
reply_sends pdus s (pdu.ForwardResponse x) t h = sym (response_sends pdus (one []) x no_content t) ∙ response_sends pdus s x no_content t

-- ---- what a user is delivered

pub passed_shows : (s t : List ℕ) (x : Found) → is_forward x.pdu ≡ true
    → write_out (run_within passed_most s x.content.message.at x.content.message.count) t (run s x.content.message.at x.content.message.count) ≡ shows (lent s) x t
unfolding run_within shows
passed_shows s t x h = rw h (go (leb n passed_most) (leb (at + n) (length (lent s))) refl)
  where
    at : ℕ
    at = x.content.message.at

    n : ℕ
    n = x.content.message.count

    go : (p q : Bool) → leb (x.content.message.at + x.content.message.count) (length (lent s)) ≡ q
        → write_out (p && q) t (run s x.content.message.at x.content.message.count) ≡ write_out (p && q) t (take x.content.message.count (drop x.content.message.at (lent s)))
    go true true e =
        let h = leb-true (x.content.message.at + x.content.message.count) (length (lent s)) e in
        let m = length_to s all_bits in
        rw (run_to s all_bits x.content.message.at x.content.message.count (omega arith)) refl
    go true false e = shape_alike t _ _
    go false q e = shape_alike t _ _

pub data_shows : (l t : List ℕ) (x : Found) (d : Data) → d ≡ data_of x.content → is_forward x.pdu ≡ false
    → write_out (data_fits l l l d) t (content_bits (content_in l l l d)) ≡ shows l x t
unfolding shows
data_shows l t x d q h = rw (h, q) refl

forward_short : (l : List ℕ) (c : Content) → Bits l → type22.forward.stands (one l) c ≡ true → leb c.message.count passed_most ≡ true
forward_short l c b h =
    let e = leb-true (c.message.at + c.message.count) (length l)
    (both_left (leb (c.message.at + c.message.count) (length l)) (takes_all forward_field (run_in (one l) c)) h) in
    let a = both_right (leb (c.message.at + c.message.count) (length l)) (takes_all forward_field (run_in (one l) c)) h in
    let m = forward_laws.most (run_in (one l) c)
    (bits_take c.message.count (drop c.message.at l) (bits_drop c.message.at l b))
    (ends_at_is (forward_field (run_in (one l) c) 0) (length (run_in (one l) c)) a) in
    let k : length (run_in (one l) c) ≡ c.message.count = length_part l c.message.at c.message.count e in
    le-leb c.message.count passed_most (omega arith)

-- WHAT STANDS THERE IS SHOWN AS ITS BODY SHOWS IT
pub shown_same : (l : List ℕ) (a : Pdu) (c : Content) (t : List ℕ) → Bits l → (body_for type22 a).stands (one l) c ≡ true
    → shows l (with a c) t ≡ write_out ((body_for type22 a).stands (one l) c) t ((body_for type22 a).shown ((body_for type22 a).value (one l) c))
unfolding shows
shown_same l pdu.Absent c t b h = refl
shown_same l pdu.NotValid c t b h = refl
shown_same l (pdu.Start m) c t b h = refl
shown_same l pdu.Send c t b h = refl
shown_same l (pdu.AbortUser x) c t b h = refl
shown_same l (pdu.AbortProvider x) c t b h = refl
shown_same l pdu.Forward c t b h =
    let k = forward_short l c b h in
    let e = both_left (leb (c.message.at + c.message.count) (length l)) (takes_all forward_field (run_in (one l) c)) h in
    let a = both_right (leb (c.message.at + c.message.count) (length l)) (takes_all forward_field (run_in (one l) c)) h in
    rw (k, e, a) refl
shown_same l (pdu.ForwardResponse x) c t b h = refl
