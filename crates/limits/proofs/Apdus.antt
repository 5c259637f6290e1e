-- An APDU and message data read at two limits: the lower one answers the same, or LIMIT; what it accepts the other accepts; a longer message is LIMIT.
-- Assumes nothing.
use mathlib.Core.Path.{◌≡◌, refl, sym, ap, ◌∙◌}
use mathlib.Core.Bool.{Bool, true, false, cond, ◌&&◌}
use mathlib.Core.List.{List}
use mathlib.Core.Logic.{inl, inr}
use Prim.Native.Nat.{ℕ, ◌*◌, ◌%◌, ◌≤◌, ◌<◌}
use native.Mathlib.Omega.{arith}
use borrow.Author.Tests.{le-leb, leb-true}
use lib.Dec.{leb, eqb}
use Rattle.words.proofs.Laws.{both_right, ok_value}
use Rattle.fields.specs.Fields.{refusal, refused_at, then, bit_field, extensible_index, length_at, length_within, contents_at, string_at, Reading}
use Rattle.fields.specs.declared.Refusal.{Refusal}
use Rattle.fields.specs.declared.Fault.TheVariants.{Limit}
use Rattle.fields.proofs.Answers.{run_is}
use Rattle.fields.proofs.RoundTrip.{via, if_value}
use Rattle.apdu.specs.Sizes.{identifier_least, identifier_most, check_most, user_last, provider_last, octet, bit}
use Rattle.apdu.specs.Headings.{response_last}
use Rattle.apdu.specs.Reading.{optional_at, part_at, span_to, parts_within, with_additions, data_within, heading_at, forward_within, leading_at, tail_at, ended_at, rest_within, apdu_within, whole_within, whole_forward_within}
use Rattle.pdus.specs.declared.PduType.{PduType}
use Rattle.apdu.specs.declared.Kind.{Kind}
use Rattle.apdu.specs.declared.Kind.TheVariants as kind
use Rattle.pdus.specs.declared.Span.{Span}
use Rattle.apdu.specs.declared.Data.{Data}
use Rattle.apdu.specs.declared.Heading.{Heading}
use Rattle.apdu.specs.declared.Forward.{Forward}
use Rattle.apdu.specs.declared.Apdu.{Apdu}
use Rattle.apdu.specs.declared.Apdu.TheVariants as apdu
use Rattle.apdu.proofs.Bounds.{never}
use Rattle.apdu.proofs.Contents.{on_value, behind_read}
use Rattle.limits.specs.Claims.{Limited, Meets, message_of}
use Rattle.std.specs.Prelude.{Err, None, Ok, Option, Result, Some}

-- ---- one reader behind another

-- what hands a refusal up keeps the claim
handed : {A B : Type 0} (f : Result A Refusal → Result B Refusal) → ((r : Refusal) → f (Err r) ≡ Err r) → (a b : Result A Refusal)
    → Meets Err a b → Meets Err (f a) (f b)
handed f hands a b (inl e) = inl (ap f e)
handed f hands a b (inr x) = inr (record { at = x.at; is = ap f x.is ∙ hands (refusal x.at Limit) })

-- what follows two readings of which that holds
followed : {A B : Type 0} (k : A → ℕ → Result B Refusal) (a b : Reading A) → Meets Err a b → Meets Err (then a k) (then b k)
followed {A} k = handed (λ (f : Reading A). then f k) (λ (r : Refusal). refl)

-- behind a field that both read alike
behind : {A B : Type 0} (f : Reading A) (j k : A → ℕ → Result B Refusal) → ((v : A) (n : ℕ) → Meets Err (j v n) (k v n))
    → Meets Err (then f j) (then f k)
behind (Ok (v, n)) j k go = go v n
behind (Err r) j k go = inl refl

-- ---- fields

module _ (low high : ℕ) (less : low ≤ high) (l : List ℕ) where
  length_meets : (at least : ℕ) → Meets Err (length_within l at least low) (length_within l at least high)
  unfolding length_within
  length_meets at least = go (length_at l at)
    where
      over : (a : Bool) (n next : ℕ) → cond {A = Reading ℕ} (a && false) (Ok (n, next)) (refused_at at Limit) ≡ refused_at at Limit
      over true n next = refl
      over false n next = refl

      by : (n next : ℕ) (b : Bool) → leb n low ≡ b
          → Meets Err (cond {A = Reading ℕ} (leb least n && leb n low) (Ok (n, next)) (refused_at at Limit)) (cond {A = Reading ℕ} (leb least n && leb n high) (Ok (n, next)) (refused_at at Limit))
      by n next true p = let k = leb-true n low p in inl (rw (p, le-leb n high (omega arith)))
      by n next false p = inr (record { at = at; is = rw p (over (leb least n) n next) })

      go : (f : Reading ℕ)
          → Meets Err (then {B = ℕ × ℕ} f (λ (n next : ℕ). cond (leb least n && leb n low) (Ok (n, next)) (refused_at at Limit))) (then {B = ℕ × ℕ} f (λ (n next : ℕ). cond (leb least n && leb n high) (Ok (n, next)) (refused_at at Limit)))
      go (Ok (n, next)) = by n next (leb n low) refl
      go (Err r) = inl refl

  string_meets : (at unit least : ℕ) → Meets Err (string_at l at unit least low) (string_at l at unit least high)
  unfolding string_at
  string_meets at unit least =
      followed (λ (n from : ℕ). contents_at l from unit n) _ _ (length_meets at least)

  optional_meets : (there : Bool) (at unit least : ℕ)
      → Meets Err (optional_at l there at unit least low) (optional_at l there at unit least high)
  unfolding optional_at
  optional_meets true at unit least = string_meets at unit least
  optional_meets false at unit least = inl refl

  -- ---- message data

  parts_meets : (at : ℕ) (i m : Bool) → Meets Err (parts_within low l at i m) (parts_within high l at i m)
  unfolding parts_within
  parts_meets at i m =
      behind (optional_at l i at octet identifier_least identifier_most) _ _ (λ (octets p : ℕ).
      followed _ _ _ (optional_meets m p bit 0))

  -- additions, or none
  added_meets : (plain : Bool) (t u : Reading Data) → Meets Err t u
      → Meets Err (cond plain t (with_additions l t)) (cond plain u (with_additions l u))
  unfolding with_additions
  added_meets true t u m = m
  added_meets false t u m = handed (with_additions l) (λ (r : Refusal). refl) t u m

  data_meets : (at : ℕ) → Meets Err (data_within low l at) (data_within high l at)
  unfolding data_within
  data_meets at =
      behind (bit_field l at 1) _ _ (λ (e p : ℕ).
      behind (bit_field l p 2) _ _ (λ (v q : ℕ). added_meets (eqb e 0) _ _ (parts_meets q (leb 2 v) (eqb (v % 2) 1))))

  -- ---- a forward message

  forward_meets : (at : ℕ) → Meets Err (forward_within low l at) (forward_within high l at)
  unfolding forward_within
  forward_meets at = behind (heading_at l at) _ _ (λ (h : Heading) (p : ℕ). followed _ _ _ (string_meets p bit 0))

  -- ---- an APDU

  rest_meets : (k : Kind) (m at : ℕ) → Meets Err (rest_within low l k m at) (rest_within high l k m at)
  unfolding rest_within
  rest_meets kind.AbortUser m at = inl refl
  rest_meets kind.AbortProvider m at = inl refl
  rest_meets kind.Start m at = followed _ _ _ (data_meets at)
  rest_meets kind.Send m at = followed _ _ _ (data_meets at)
  rest_meets kind.Forward m at = followed _ _ _ (forward_meets at)
  rest_meets kind.ForwardResponse m at = inl refl

  -- A CARD WITH A LOWER LIMIT answers to an APDU what one with a higher limit answers, or LIMIT
  pub apdu_meets : (pdus : PduType) (at : ℕ) → Meets Err (apdu_within low pdus l at) (apdu_within high pdus l at)
  unfolding apdu_within
  apdu_meets pdus at = behind (leading_at pdus l at) _ _ (λ (lead : Kind × ℕ) (next : ℕ). rest_meets lead.0 lead.1 next)

  -- and to message data by itself
  pub whole_meets : Meets Err (whole_within low l) (whole_within high l)
  unfolding whole_within
  whole_meets = followed _ _ _ (data_meets 0)

  -- and to a forward message by itself
  pub forward_whole_meets : Meets Err (whole_forward_within low l) (whole_forward_within high l)
  unfolding whole_forward_within
  forward_whole_meets = followed _ _ _ (forward_meets 0)

  -- what it accepts, the other accepts as the same: so what both accept is the same
  pub apdu_kept : (pdus : PduType) (at : ℕ) (a : Apdu) → apdu_within low pdus l at ≡ Ok a → apdu_within high pdus l at ≡ Ok a
  apdu_kept pdus at a e = go (apdu_meets pdus at)
    where
      go : Meets Err (apdu_within low pdus l at) (apdu_within high pdus l at) → apdu_within high pdus l at ≡ Ok a
      go (inl p) = sym p ∙ e
      go (inr x) = let z : Ok a ≡ Err (refusal x.at Limit) = sym e ∙ x.is in never (cc)

-- ---- a message that was accepted is within the limit

module _ (limit : ℕ) (l : List ℕ) where
  string_few : (at unit least n next : ℕ) → string_at l at unit least limit ≡ Ok (n, next) → n ≤ limit
  unfolding string_at length_within
  string_few at unit least n next e =
      via (n ≤ limit) (length_within l at least limit) _ n next (λ (k from : ℕ) (p : length_within l at least limit ≡ Ok (k, from)) (q : contents_at l from unit k ≡ Ok (n, next)).
      via (n ≤ limit) (length_at l at) _ k from (λ (v m : ℕ) (x : length_at l at ≡ Ok (v, m)).
      if_value (n ≤ limit) (leb least v && leb v limit) (Ok (v, m)) (refusal at Limit) k from (λ (t : leb least v && leb v limit ≡ true) (y : Ok (v, m) ≡ Ok (k, from)).
      let j : v ≡ k = ok_value y in
      let w = (run_is l from (unit * k) k n next q).value in
      let f = leb-true v limit (both_right (leb least v) (leb v limit) t) in
      omega arith)) p) e

  optional_few : (there : Bool) (at unit least n next : ℕ) (x : Span)
      → optional_at l there at unit least limit ≡ Ok (n, next) → part_at there unit n next ≡ Some x → x.count ≤ limit
  unfolding optional_at part_at
  optional_few true at unit least n next x e g =
      let k : n ≡ x.count = ap (λ (p : Option Span). count_in p) g in
      let f = string_few at unit least n next e in
      omega arith
    where
      count_in : Option Span → ℕ
      count_in None = 0
      count_in (Some y) = y.count
  optional_few false at unit least n next x e g = never (cc)

  abbrev Few : Data → Type 0
  Few d = (x : Span) → d.message ≡ Some x → x.count ≤ limit

  parts_few : (at next : ℕ) (i m : Bool) (d : Data) → parts_within limit l at i m ≡ Ok (d, next) → Few d
  unfolding parts_within
  parts_few at next i m d e =
      on_value (Few d) (d, next) (optional_at l i at octet identifier_least identifier_most) _ (λ (octets p : ℕ) (e₁ : optional_at l i at octet identifier_least identifier_most ≡ Ok (octets, p)).
      on_value (Few d) (d, next) (optional_at l m p bit 0 limit) _ (λ (bits q : ℕ) (e₂ : optional_at l m p bit 0 limit ≡ Ok (bits, q)).
      on_value (Few d) (d, next) (string_at l q bit 0 check_most) _ (λ (n k : ℕ) (e₃ : string_at l q bit 0 check_most ≡ Ok (n, k)) (w : Ok (record { identifier = part_at i octet octets p; message = part_at m bit bits q; check = span_to bit n k }, k) ≡ Ok (d, next)) (x : Span) (g : d.message ≡ Some x).
      let v : part_at m bit bits q ≡ d.message = ap (λ (t : Reading Data). message_in t) w in
      optional_few m p bit 0 bits q x e₂ (v ∙ g)))) e
    where
      message_in : Reading Data → Option Span
      message_in (Ok (y, n)) = y.message
      message_in (Err r) = None

  data_few : (at next : ℕ) (d : Data) → data_within limit l at ≡ Ok (d, next) → Few d
  unfolding data_within
  data_few at next d e =
      on_value (Few d) (d, next) (bit_field l at 1) _ (λ (x p : ℕ) (e₁ : bit_field l at 1 ≡ Ok (x, p)).
      on_value (Few d) (d, next) (bit_field l p 2) _ (λ (v q : ℕ) (e₂ : bit_field l p 2 ≡ Ok (v, q)) (w : cond (eqb x 0) (parts_within limit l q (leb 2 v) (eqb (v % 2) 1)) (with_additions l (parts_within limit l q (leb 2 v) (eqb (v % 2) 1))) ≡ Ok (d, next)).
      let k = behind_read l x next (parts_within limit l q (leb 2 v) (eqb (v % 2) 1)) d w in
      parts_few q k.place (leb 2 v) (eqb (v % 2) 1) d k.parts)) e

  -- what was ended is the APDU that was read
  ended_is : (at : ℕ) (a b : Apdu) → ended_at l at a ≡ Ok b → a ≡ b
  unfolding ended_at
  ended_is at a b e = on_value (a ≡ b) b (tail_at l at) _
      (λ (v n : ℕ) (p : tail_at l at ≡ Ok (v, n)) (q : Ok a ≡ Ok b). cc) e

  abbrev Fewer : Apdu → Type 0
  Fewer a = (x : Span) → message_of a ≡ Some x → x.count ≤ limit

  behind_data : (at : ℕ) (made : Data → Apdu) → ((d : Data) → message_of (made d) ≡ d.message) → (a : Apdu)
      → then (data_within limit l at) (λ (d : Data) (next : ℕ). ended_at l next (made d)) ≡ Ok a → Fewer a
  behind_data at made same a e = on_value (Fewer a) a (data_within limit l at) _
      (λ (d : Data) (next : ℕ) (p : data_within limit l at ≡ Ok (d, next)) (q : ended_at l next (made d) ≡ Ok a) (x : Span) (g : message_of a ≡ Some x).
      let k = ended_is next (made d) a q in data_few at next d p x (sym (same d) ∙ (ap message_of k ∙ g))) e

  forward_few : (at next : ℕ) (f : Forward) → forward_within limit l at ≡ Ok (f, next) → f.message.count ≤ limit
  unfolding forward_within
  forward_few at next f e =
      on_value (f.message.count ≤ limit) (f, next) (heading_at l at) _ (λ (h : Heading) (p : ℕ) (u : heading_at l at ≡ Ok (h, p)).
      on_value (f.message.count ≤ limit) (f, next) (string_at l p bit 0 limit) _ (λ (n m : ℕ) (s : string_at l p bit 0 limit ≡ Ok (n, m)) (w : ◌≡◌ {A = Reading Forward} (Ok (record { heading = h; message = span_to bit n m }, m)) (Ok (f, next))).
      let v : n ≡ f.message.count = ap (λ (t : Reading Forward). count_in t) w in
      let c = string_few p bit 0 n m s in
      omega arith)) e
    where
      count_in : Reading Forward → ℕ
      count_in (Ok (y, n)) = y.message.count
      count_in (Err r) = 0

  behind_forward : (at : ℕ) (a : Apdu)
      → then (forward_within limit l at) (λ (f : Forward) (next : ℕ). ended_at l next (apdu.Forward f)) ≡ Ok a
      → Fewer a
  behind_forward at a e = on_value (Fewer a) a (forward_within limit l at) _
      (λ (f : Forward) (next : ℕ) (p : forward_within limit l at ≡ Ok (f, next)) (q : ended_at l next (apdu.Forward f) ≡ Ok a) (x : Span) (g : message_of a ≡ Some x).
      let k : f.message.count ≡ x.count = ap (λ (y : Option Span). count_in y) (ap message_of (ended_is next (apdu.Forward f) a q) ∙ g) in
      let c = forward_few at next f p in
      omega arith) e
    where
      count_in : Option Span → ℕ
      count_in None = 0
      count_in (Some y) = y.count

  abort_none : (f : Reading ℕ) (made : ℕ → Apdu) → ((r : ℕ) → message_of (made r) ≡ None) → (a : Apdu)
      → then f (λ (r next : ℕ). ended_at l next (made r)) ≡ Ok a → Fewer a
  abort_none (Ok (r, next)) made none a e x g = let k = ended_is next (made r) a e in let z : None ≡ Some x = sym
      (none r) ∙ (ap message_of k ∙ g) in never (cc)
  abort_none (Err r) made none a e x g = never (cc)

  rest_few : (k : Kind) (m at : ℕ) (a : Apdu) → rest_within limit l k m at ≡ Ok a → Fewer a
  unfolding rest_within
  rest_few kind.AbortUser m at a e x g = abort_none (extensible_index l at user_last) apdu.AbortUser (λ (r : ℕ). refl) a e x g
  rest_few kind.AbortProvider m at a e x g = abort_none (extensible_index l at provider_last) apdu.AbortProvider (λ (r : ℕ). refl) a e x g
  rest_few kind.Start m at a e x g = behind_data at (apdu.Start m) (λ (d : Data). refl) a e x g
  rest_few kind.Send m at a e x g = behind_data at apdu.Send (λ (d : Data). refl) a e x g
  rest_few kind.Forward m at a e x g = behind_forward at a e x g
  rest_few kind.ForwardResponse m at a e x g = abort_none (extensible_index l at response_last) apdu.ForwardResponse (λ (r : ℕ). refl) a e x g

  pub apdu_few : (pdus : PduType) (at : ℕ) (a : Apdu) (x : Span) → apdu_within limit pdus l at ≡ Ok a
      → message_of a ≡ Some x → x.count ≤ limit
  unfolding apdu_within
  apdu_few pdus at a x e g = on_value (x.count ≤ limit) a (leading_at pdus l at) _
      (λ (lead : Kind × ℕ) (next : ℕ) (p : leading_at pdus l at ≡ Ok (lead, next)) (q : rest_within limit l lead.0 lead.1 next ≡ Ok a).
      rest_few lead.0 lead.1 next a q x g) e

-- A LONGER MESSAGE: what the card with the higher limit accepts, and whose message passes the lower limit, is LIMIT there
pub apdu_longer : (low high : ℕ) → low ≤ high → (l : List ℕ) (pdus : PduType) (at : ℕ) (a : Apdu) (x : Span)
    → apdu_within high pdus l at ≡ Ok a → message_of a ≡ Some x → low < x.count
    → Limited Err (apdu_within low pdus l at)
apdu_longer low high less l pdus at a x e g over = go (apdu_meets low high less l pdus at)
  where
    go : Meets Err (apdu_within low pdus l at) (apdu_within high pdus l at) → Limited Err (apdu_within low pdus l at)
    go (inl p) = let k = apdu_few low l pdus at a x (p ∙ e) g in absurd (omega arith)
    go (inr y) = y
