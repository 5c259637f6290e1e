-- The user data of a primitive, as the machine asks about it: which kind it is, by number, and the number in it. What asks for a
-- kind compares numbers, so a further kind is one row of each definition by cases here and nowhere else.
use Rattle.std.specs.Prelude.{ℕ, Bool, true, false, cond, ltb, eqb}
use Rattle.editions.specs.Editions.{user_reasons}
use Rattle.editions.specs.declared.Edition.{Edition}
use Rattle.machine.specs.Codes.{user, provider, provider_reasons, forward_results}
use Rattle.machine.specs.declared.event.UserData.{UserData}
use Rattle.machine.specs.declared.event.UserData.TheVariants.{Absent, NotValid, Start, Send, AbortUser, AbortProvider, Forward, ForwardResponse}

abbrev pub kind_of : UserData → ℕ
kind_of Absent = 0
kind_of NotValid = 1
kind_of (Start m) = 2
kind_of Send = 3
kind_of (AbortUser x) = 4
kind_of (AbortProvider x) = 5
kind_of Forward = 6
kind_of (ForwardResponse x) = 7

-- the mode of a start (true: dsc); a startup's is cpdlc
abbrev pub mode_of : UserData → Bool
mode_of Absent = false
mode_of NotValid = false
mode_of (Start m) = m
mode_of Send = false
mode_of (AbortUser x) = false
mode_of (AbortProvider x) = false
mode_of Forward = false
mode_of (ForwardResponse x) = false

-- the reason of an abort, the result of a forward
abbrev pub reason_of : UserData → ℕ
reason_of Absent = 0
reason_of NotValid = 0
reason_of (Start m) = 0
reason_of Send = 0
reason_of (AbortUser x) = x
reason_of (AbortProvider x) = x
reason_of Forward = 0
reason_of (ForwardResponse x) = x

-- ---- the kinds

-- no user data
abbrev pub is_missing : UserData → Bool
is_missing a = eqb (kind_of a) 0

-- no valid PDU
abbrev pub is_invalid : UserData → Bool
is_invalid a = eqb (kind_of a) 1

-- GroundPDUs [ProtectedUplinkMessage(startup)], AircraftPDUs [StartDownMessage]
abbrev pub is_start_pdu : UserData → Bool
is_start_pdu a = eqb (kind_of a) 2

-- GroundPDUs [ProtectedUplinkMessage(send)], AircraftPDUs [ProtectedDownlinkMessage]
abbrev pub is_send : UserData → Bool
is_send a = eqb (kind_of a) 3

abbrev pub is_user_abort : UserData → Bool
is_user_abort a = eqb (kind_of a) 4

abbrev pub is_provider_abort : UserData → Bool
is_provider_abort a = eqb (kind_of a) 5

-- GroundPDUs [ATCForwardMessage], GroundPDUs [ATCForwardResponse]
abbrev pub is_forward : UserData → Bool
is_forward a = eqb (kind_of a) 6

abbrev pub is_response : UserData → Bool
is_response a = eqb (kind_of a) 7

-- ---- what is asked of several kinds

-- an APDU as a decoder gives it: its reason or result is a value of the ENUMERATED (Doc 9705 2.3.4)
unfoldable pub user_data_fits : Edition → UserData → Bool
user_data_fits ed a = cond (is_user_abort a) (ltb (reason_of a) (user_reasons ed)) (cond (is_provider_abort a) (ltb (reason_of a) provider_reasons) (cond (is_response a) (ltb (reason_of a) forward_results) true))

-- does the APDU fit the originator of a D-ABORT (3.5.3.14, 2.3.5.5.15)
abbrev pub abort_fits : ℕ → UserData → Bool
abort_fits o a = cond (eqb o user) (is_user_abort a) (cond (eqb o provider) (is_provider_abort a) false)
