-- Application type 2 as an edition of the front. No promise rests on it: every theorem of the front holds of it (proofs/Instance).
use Prim.Native.Nat.{ℕ, ◌-◌}
use mathlib.Core.List.{List}
use Rattle.kinds.specs.declared.Direction.{Direction}
use Rattle.kinds.specs.declared.Direction.TheVariants.{Downlink, Uplink}
use Rattle.inplace.specs.InPlace.{message_span, elements_span}
use Rattle.editions.specs.Editions.{user_reasons}
use Rattle.editions.specs.declared.Edition.TheVariants.{Plain}
use Rattle.apdu.specs.Sizes.{provider_last}
use Rattle.apdu.specs.Reading.{heading_at}
use Rattle.pdus.specs.declared.PduType.{PduType}
use Rattle.pdus.specs.declared.PduType.TheVariants as pdus
use Rattle.front.specs.Body.{Body, Choice}
use Rattle.front.specs.Runs.{run_body, perhaps_run}
use Rattle.front.specs.Editions.{Edition, aircraft_pdus, ground_pdus}
use Rattle.plain.specs.Plain.{direction_of}
use Rattle.std.specs.Prelude.{Ok}
use Rattle.fields.specs.Fields.{Reading, then}
use Rattle.apdu.specs.declared.Heading.{Heading}

abbrev pub send_body : Direction → Body
send_body d = run_body (message_span d)

abbrev pub start_body : Direction → Body
start_body d = perhaps_run (message_span d)

-- a forward message: the bits from its heading on
unfoldable pub forward_span : List ℕ → ℕ → Reading ℕ
forward_span l at =
    then (heading_at l at) (λ (h : Heading) (p : ℕ).
    then (elements_span (direction_of h.direction) l p) (λ (n next : ℕ). Ok (next - at, next)))

-- the last reason of a user abort is that of the edition (M-1.1.1)
abbrev pub user_last : ℕ
user_last = user_reasons Plain - 1

-- AircraftPDUs hold downlink messages, GroundPDUs uplink messages
abbrev pub type2 : Direction → Edition
type2 d = record { user_last = user_last; provider_last = provider_last; start = start_body d; send = send_body d; forward = run_body forward_span }

abbrev pub choice_of : PduType → Choice
choice_of pdus.AircraftPdus = aircraft_pdus (type2 Downlink)
choice_of pdus.GroundPdus = ground_pdus (type2 Uplink)
