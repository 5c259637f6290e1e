-- The decoder of crate apdu reads as the front does over the bodies of application type 22.
-- Assumes nothing.
use mathlib.Core.Path.{◌≡◌, refl, ap, sym, subst, ◌∙◌}
use mathlib.Core.Bool.{Bool, true, false, cond}
use mathlib.Core.List.{List}
use Prim.Native.Nat.{ℕ, zero, suc, ◌+◌, ◌-◌, ◌*◌, ◌^◌, ◌≤◌, ◌<◌}
use native.Mathlib.Omega.{arith}
use borrow.Author.Tests.{leb-true}
use lib.Dec.{leb, eqb}
use lib.ListN.{length}
use Rattle.words.proofs.Laws.{both_right, ok_value, ok_place}
use Rattle.bits.proofs.Numbers.{Bits}
use Rattle.fields.specs.Fields.{digits_in, extensible_index, string_at, then}
use Rattle.fields.specs.Encodings.{index_bits}
use Rattle.fields.proofs.RoundTrip.{extensible_index_is}
use Rattle.apdu.specs.Sizes.{message_most, user_last, provider_last, bit}
use Rattle.apdu.specs.Headings.{response_last}
use Rattle.apdu.specs.Pdus.{last_of, kind_of}
use Rattle.apdu.specs.Reading.{rest_at, data_at, forward_within, forward_at, heading_at, span_to, mode_value, mode_at, kind_mode, leading_at, tail_at, ended_at, rest_within, apdu_within, apdu_at}
use Rattle.pdus.specs.declared.PduType.{PduType}
use Rattle.pdus.specs.declared.PduType.TheVariants.{AircraftPdus, GroundPdus}
use Rattle.apdu.specs.declared.Data.{Data}
use Rattle.apdu.specs.declared.Heading.{Heading}
use Rattle.apdu.specs.declared.Forward.{Forward}
use Rattle.apdu.specs.declared.Apdu.{Apdu}
use Rattle.apdu.specs.declared.Apdu.TheVariants as is
use Rattle.apdu.specs.declared.Kind.{Kind}
use Rattle.apdu.specs.declared.Kind.TheVariants as kind
use Rattle.apdu.proofs.Answers.{string_room}
use Rattle.fields.proofs.Writers.{length_index}
use Rattle.machine.specs.declared.event.UserData.{UserData as Pdu}
use Rattle.machine.specs.declared.event.UserData.TheVariants as pdu
use Rattle.front.specs.declared.Found.{Found}
use Rattle.front.specs.Padding.{tail_at as tailThere}
use Rattle.front.specs.Runs.{no_content, run_from, run_body}
use Rattle.front.specs.Alternatives.{with, reach, mode_value as modeThere, mode_at as modeIs, moded, holding, enumerated}
use Rattle.front.specs.Editions.{aircraft_body, ground_body, aircraft_pdus, ground_pdus}
use Rattle.front.specs.Apdus.{ended_at as endedThere, apdu_at as apduThere}
use Rattle.front.proofs.Laws.{via}
use Rattle.protected.specs.Bodies.{content_of, taken_of, protected_body, field_of, forward_field, type22, choice_of}
use Rattle.protected.specs.Border.{found_of, decoded_of}
use Rattle.std.specs.Prelude.{Err, Ok, Result}
use Rattle.fields.specs.Fields.{Reading}
use Rattle.fields.specs.declared.Refusal.{Refusal}

-- ---- the same fields

tail_same : (l : List ℕ) (at : ℕ) → tail_at l at ≡ tailThere l at
unfolding tail_at
tail_same l at = refl

mode_same : (l : List ℕ) (at : ℕ) → mode_at AircraftPdus l at ≡ modeIs l at
unfolding mode_at modeIs mode_value modeThere
mode_same l at = refl

ended_same : (l : List ℕ) (at : ℕ) (a : Apdu) → decoded_of (ended_at l at a) ≡ endedThere l (found_of a) at
unfolding ended_at endedThere
ended_same l at a = rw (tail_same l at) (go (tailThere l at))
  where
    go : (f : Reading ℕ)
        → decoded_of (then f (λ (v next : ℕ). Ok a)) ≡ then f (λ (v next : ℕ). Ok (found_of a))
    go (Ok (v, n)) = refl
    go (Err r) = refl

-- ---- the alternatives

number_same : (l : List ℕ) (a : ℕ → Apdu) (p : ℕ → Pdu) → ((v : ℕ) → found_of (a v) ≡ with (p v) no_content) → (f : Reading ℕ)
    → decoded_of (then f (λ (v next : ℕ). ended_at l next (a v))) ≡ then
    (then f (λ (v next : ℕ). Ok (with (p v) no_content, next))) (endedThere l)
number_same l a p h (Ok (v, n)) = ended_same l n (a v) ∙ ap (λ (x : Found). endedThere l x n) (h v)
number_same l a p h (Err r) = refl

data_same : (l : List ℕ) (a : Data → Apdu) (p : Pdu) → ((d : Data) → found_of (a d) ≡ with p (content_of d)) → (t : Reading Data)
    → decoded_of (then t (λ (d : Data) (next : ℕ). ended_at l next (a d))) ≡ then (reach p (taken_of t)) (endedThere l)
data_same l a p h (Ok (d, n)) = ended_same l n (a d) ∙ ap (λ (x : Found). endedThere l x n) (h d)
data_same l a p h (Err r) = refl

forward_end : (l : List ℕ) (at : ℕ) (f : Forward) (next : ℕ) → forward_at l at ≡ Ok (f, next)
    → f.message.at + f.message.count ≡ next
unfolding forward_within
forward_end l at f next e =
    via (f.message.at + f.message.count ≡ next) (heading_at l at) _ (f, next) (λ (h : Heading) (p : ℕ) (a : heading_at l at ≡ Ok (h, p)) (k : then (string_at l p bit 0 message_most) (λ (n m : ℕ). Ok (record { heading = h; message = span_to bit n m }, m)) ≡ Ok (f, next)).
    via (f.message.at + f.message.count ≡ next) (string_at l p bit 0 message_most) _ (f, next) (λ (n m : ℕ) (q : string_at l p bit 0 message_most ≡ Ok (n, m)) (j : ◌≡◌ {A = Reading Forward} (Ok (record { heading = h; message = span_to bit n m }, m)) (Ok (f, next))).
    let y : record { heading = h; message = span_to bit n m } ≡ f = ok_value j in
    let r = string_room l p bit 0 message_most n m q in
    let u : m - bit * n + n ≡ m = omega arith in
    subst (λ (x : Forward). x.message.at + x.message.count ≡ next) y (u ∙ ok_place j)) k) e

forward_same : (l : List ℕ) (t : Reading Forward) → forward_at l 4 ≡ t
    → decoded_of (then t (λ (f : Forward) (next : ℕ). ended_at l next (is.Forward f))) ≡ then
    (reach pdu.Forward (then (field_of t) (λ (v next : ℕ). Ok (run_from 4 next, next))))
    (endedThere l)
forward_same l (Ok (f, n)) e = ended_same l n (is.Forward f) ∙ ap
    (λ (m : ℕ). endedThere l (with pdu.Forward (run_from 4 m)) n) (forward_end l 4 f n e)
forward_same l (Err r) e = refl

-- ---- the whole

-- what follows the leading fields
abbrev rest_of : List ℕ → Kind × ℕ → ℕ → Result Apdu Refusal
rest_of l x q = rest_at l x.0 x.1 q

start_same : (l : List ℕ) (f : Reading ℕ)
    → decoded_of (then (then f (λ (m q : ℕ). Ok ((kind.Start, m), q))) (rest_of l)) ≡ then
    (then f (λ (m q : ℕ). reach (pdu.Start (eqb m 1)) (taken_of (data_at l q)))) (endedThere l)
unfolding rest_within
start_same l (Ok (m, q)) = data_same l (is.Start m) (pdu.Start (eqb m 1)) (λ (d : Data). refl) (data_at l q)
start_same l (Err r) = refl

abbrev old_from : PduType → List ℕ → ℕ → ℕ → Result Apdu Refusal
old_from pdus l i p = then (then (kind_mode pdus l (kind_of i) p) (λ (m q : ℕ). Ok ((kind_of i, m), q))) (rest_of l)

aircraft_from : (l : List ℕ) (i p : ℕ) → i ≤ 3
    → decoded_of (old_from AircraftPdus l i p) ≡ then ((aircraft_body type22 i).read l p) (endedThere l)
unfolding kind_mode rest_within
aircraft_from l zero p h = number_same l is.AbortUser pdu.AbortUser (λ (v : ℕ). refl) (extensible_index l p user_last)
aircraft_from l (suc zero) p h = number_same l is.AbortProvider pdu.AbortProvider (λ (v : ℕ). refl) (extensible_index l p provider_last)
aircraft_from l (suc (suc zero)) p h = start_same l (mode_at AircraftPdus l p) ∙ ap (λ (f : Reading ℕ). then
    (then f (λ (m q : ℕ). reach (pdu.Start (eqb m 1)) (taken_of (data_at l q)))) (endedThere l))
    (mode_same l p)
aircraft_from l (suc (suc (suc zero))) p h = data_same l is.Send pdu.Send (λ (d : Data). refl) (data_at l p)
aircraft_from l (suc (suc (suc (suc n)))) p h = absurd (omega arith)

ground_from : (l : List ℕ) (i p : ℕ) → i ≤ 5 → p ≡ 4
    → decoded_of (old_from GroundPdus l i p) ≡ then ((ground_body type22 i).read l p) (endedThere l)
unfolding kind_mode mode_at rest_within
ground_from l zero p h e = number_same l is.AbortUser pdu.AbortUser (λ (v : ℕ). refl) (extensible_index l p user_last)
ground_from l (suc zero) p h e = number_same l is.AbortProvider pdu.AbortProvider (λ (v : ℕ). refl) (extensible_index l p provider_last)
ground_from l (suc (suc zero)) p h e = data_same l (is.Start 0) (pdu.Start false) (λ (d : Data). refl) (data_at l p)
ground_from l (suc (suc (suc zero))) p h e = data_same l is.Send pdu.Send (λ (d : Data). refl) (data_at l p)
ground_from l (suc (suc (suc (suc zero)))) p h e =
    rw e (forward_same l (forward_at l 4) refl)
ground_from l (suc (suc (suc (suc (suc zero))))) p h e = number_same l is.ForwardResponse pdu.ForwardResponse
    (λ (v : ℕ). refl) (extensible_index l p response_last)
ground_from l (suc (suc (suc (suc (suc (suc n)))))) p h e = absurd (omega arith)

index_high : (last i : ℕ) (l : List ℕ) (p : ℕ) → last < 2 ^ 64 → Bits l → extensible_index l 0 last ≡ Ok (i, p) → i ≤ last
index_high last i l p h b e = leb-true i last (both_right (leb 0 i) (leb i last) ((extensible_index_is last h).read_fits l 0 i p b e))

four_bits : (i : ℕ) → length (index_bits 5 i) ≡ 4
unfolding digits_in
four_bits i = length_index 5 i

-- THE DECODER READS AS THE FRONT
pub apdu_same : (pdus : PduType) (l : List ℕ) → Bits l → decoded_of (apdu_at pdus l 0) ≡ apduThere (choice_of pdus) l 0
unfolding apdu_within leading_at apduThere
apdu_same AircraftPdus l b = go (extensible_index l 0 3) refl
  where
    go : (f : Reading ℕ) → extensible_index l 0 3 ≡ f
        → decoded_of (then (then f (λ (i p : ℕ). then (kind_mode AircraftPdus l (kind_of i) p) (λ (m q : ℕ). Ok ((kind_of i, m), q)))) (rest_of l)) ≡ then f (λ (i p : ℕ). then ((aircraft_body type22 i).read l p) (endedThere l))
    go (Ok (i, p)) e = aircraft_from l i p (index_high 3 i l p (omega arith) b e)
    go (Err r) e = refl
apdu_same GroundPdus l b = go (extensible_index l 0 5) refl
  where
    go : (f : Reading ℕ) → extensible_index l 0 5 ≡ f
        → decoded_of (then (then f (λ (i p : ℕ). then (kind_mode GroundPdus l (kind_of i) p) (λ (m q : ℕ). Ok ((kind_of i, m), q)))) (rest_of l)) ≡ then f (λ (i p : ℕ). then ((ground_body type22 i).read l p) (endedThere l))
    go (Ok (i, p)) e =
        let s = ((extensible_index_is 5 (omega arith)).read_written l 0 i p b e).place in
        let n = four_bits i in
        ground_from l i p (index_high 5 i l p (omega arith) b e) (omega arith)
    go (Err r) e = refl
