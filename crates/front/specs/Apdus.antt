-- An APDU: the index of an alternative, and the value of its body.
use Rattle.std.specs.Prelude.{ℕ, List, ◌++◌, Bool, ◌&&◌, length, take, Err, Ok, Result}
use Rattle.fields.specs.Encodings.{index_bits, whole_fits}
use Rattle.fields.specs.Fields.{Reading, extensible_index, then}
use Rattle.machine.specs.declared.event.UserData.{UserData as Pdu}
use Rattle.machine.specs.declared.event.UserData.TheVariants as pdu
use Rattle.pdus.specs.declared.Content.{Content}
use Rattle.front.specs.declared.Found.{Found}
use Rattle.front.specs.Padding.{padded, tail_at}
use Rattle.front.specs.Body.{Lent, Body, Alternative, Choice}
use Rattle.front.specs.Runs.{no_content}
use Rattle.front.specs.Alternatives.{with}
use Rattle.fields.specs.declared.Refusal.{Refusal}

pub record Apdu (c : Choice) : Type 0 where
  pub index : ℕ
  pub held : (c.body index).Value

abbrev pub apdu : (c : Choice) (i : ℕ) → (c.body i).Value → Apdu c
apdu c i v = record { index = i; held = v }

unfoldable pub apdu_fits : (c : Choice) → Apdu c → Bool
apdu_fits c v = whole_fits 0 c.last v.index && (c.body v.index).fits v.held

unfoldable pub apdu_bits : (c : Choice) → Apdu c → List ℕ
apdu_bits c v = index_bits c.last v.index ++ (c.body v.index).bits v.held

-- ---- reading

unfoldable pub ended_at : List ℕ → Found → ℕ → Result Found Refusal
ended_at l x at = then (tail_at l at) (λ (v next : ℕ). Ok x)

unfoldable pub apdu_at : Choice → List ℕ → ℕ → Result Found Refusal
apdu_at c l at = then (extensible_index l at c.last) (λ (i p : ℕ). then ((c.body i).read l p) (ended_at l))

-- a refusal means "no valid PDU"
abbrev pub found_in : Result Found Refusal → Found
found_in (Ok x) = x
found_in (Err r) = with pdu.NotValid no_content

-- ---- what was found

-- its alternative, by the tags, which are the same in both types as far as both have them
abbrev pub index_of : Pdu → ℕ
index_of (pdu.AbortUser x) = 0
index_of (pdu.AbortProvider x) = 1
index_of (pdu.Start m) = 2
index_of pdu.Send = 3
index_of pdu.Forward = 4
index_of (pdu.ForwardResponse x) = 5
index_of pdu.Absent = 6
index_of pdu.NotValid = 6

abbrev pub body_of : Choice → Found → Alternative
body_of c x = c.body (index_of x.pdu)

-- it is one of the alternatives, within the sizes and in the lent bits
unfoldable pub found_fits : Choice → Lent → Found → Bool
found_fits c s x = whole_fits 0 c.last (index_of x.pdu) && (body_of c x).stands s x

abbrev pub apdu_in : (c : Choice) → Lent → Found → Apdu c
apdu_in c s x = apdu c (index_of x.pdu) ((body_of c x).value s x)

-- ---- additions from a later edition (document 02, E6)

abbrev pub front_end : Choice → Found → ℕ
front_end c x = length (index_bits c.last (index_of x.pdu))

unfoldable pub extended : Choice → List ℕ → Found → Bool
extended c l x = (body_of c x).extended l (front_end c x) x

unfoldable pub strip : Choice → List ℕ → Found → List ℕ
strip c l x = padded (take (front_end c x) l ++ (body_of c x).plain l (front_end c x) x)

-- ---- a body by itself, as it is delivered: and nothing after it but the padding

unfoldable pub whole_at : Body → List ℕ → Reading Content
whole_at b l = then (b.read l 0) (λ (c : Content) (next : ℕ). then (tail_at l next) (λ (v m : ℕ). Ok (c, next)))
