-- What travels on a line when an end is a card: a primitive with its parameters, and bytes.
use Rattle.std.specs.Prelude.{ℕ, List, None, Option, Some}
use Rattle.machine.specs.Codes.{no_security, no_version, permanent, transient, ds_provider, facility, aircraft}
use Rattle.machine.specs.declared.event.ServicePrimitive.{ServicePrimitive}
use Rattle.machine.specs.declared.event.ServicePrimitive.TheVariants.{DStartIndication, DStartConfirmation, DDataIndication, DEndIndication, DEndConfirmation, DAbortIndication, DPAbortIndication}
use Rattle.machine.specs.declared.outcome.Invoked.{Invoked}
use Rattle.machine.specs.declared.outcome.Invoked.TheVariants.{DStartRequest, DStartResponse, DDataRequest, DEndRequest, DEndResponse, DAbortRequest, DStartForwardRequest, DStartForwardResponse}
use Rattle.pair.specs.Names.{Side, Air, Ground}
use Rattle.pair.specs.Carrier.{Sort, begins, breaks, plain}

-- a primitive with its parameters, and the bytes of its user data
pub record Wire : Type 0 where
  pub primitive : Option Invoked
  pub bytes : List ℕ

abbrev pub sort_of : Option Invoked → Sort
sort_of None = plain
sort_of (Some (DStartRequest q s)) = begins
sort_of (Some (DStartResponse x s)) = plain
sort_of (Some DDataRequest) = plain
sort_of (Some DEndRequest) = plain
sort_of (Some (DEndResponse x)) = plain
sort_of (Some (DAbortRequest o)) = breaks
sort_of (Some (DStartForwardRequest q s v)) = begins
sort_of (Some (DStartForwardResponse s v)) = plain

-- who calls the end at side sd: a facility calls the air, an aircraft the ground
abbrev pub caller_of : Side → ℕ
caller_of Air = facility
caller_of Ground = aircraft

-- the Reject Source of a confirmation that the other end's user made
abbrev pub ds_user : ℕ
ds_user = 0

-- what a primitive is at the other end, whose side is sd (nothing silent is on a line). A forward comes from a facility, and is answered by
-- "rejected (permanent)"; the D-START of a dialogue carries no version here
abbrev pub arrives : Side → Option Invoked → ServicePrimitive
arrives sd None = DPAbortIndication
arrives sd (Some (DStartRequest q s)) = DStartIndication (caller_of sd) s q no_version
arrives sd (Some (DStartResponse x s)) = DStartConfirmation x ds_user s no_version
arrives sd (Some DDataRequest) = DDataIndication
arrives sd (Some DEndRequest) = DEndIndication
arrives sd (Some (DEndResponse x)) = DEndConfirmation x
arrives sd (Some (DAbortRequest o)) = DAbortIndication o
arrives sd (Some (DStartForwardRequest q s v)) = DStartIndication facility s q v
arrives sd (Some (DStartForwardResponse s v)) = DStartConfirmation permanent ds_user s v

-- the confirmation that the carrier makes when it turns a start away: rejected (transient), DS provider
abbrev pub rejects : ServicePrimitive
rejects = DStartConfirmation transient ds_provider no_security no_version
