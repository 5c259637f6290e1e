-- The number that a call answers. A refusal is its number, and every other bit is zero. Else, from the lowest bit on:
--    8 bits  0
--    4 bits  the dialogue-service primitive that is invoked: 0 none, 1 D-START request, 2 D-START response, 3 D-DATA request, 4 D-END
--    request,
--            5 D-END response, 6 D-ABORT request
--    4 bits  its parameter: routing class (1), result (2, 5), originator (6)
--    1 bit   its security value (1, 2)
--    4 bits  the user primitive that is invoked: 0 none, 1 start indication, 2 start confirmation, 3 message indication, 4 end indication,
--            5 end confirmation, 6 user abort indication, 7 provider abort indication, 8 forward indication, 9 forward confirmation
--    4 bits  its parameter: class of communication (1), result (2, 5, 9), reason (6, 7)
--    1 bit   1 where it is the DSC- one (1, 2, 4, 5)
--   15 bits  the bits of the APDU in the first buffer, before the padding
--   15 bits  the bits of the message data or the forward message in the second buffer, before the padding
--    8 bits  the version of a forward's D-START request or response, or that a forward confirmation tells; 0 where there is none
use Rattle.std.specs.Prelude.{ℕ, ◌+◌, ◌*◌, ◌%◌, cond, eqb, None, Option, Some}
use Rattle.machine.specs.Codes.{permanent, versions}
use Rattle.machine.specs.declared.outcome.Invoked.{Invoked}
use Rattle.machine.specs.declared.outcome.Invoked.TheVariants.{DStartRequest, DStartResponse, DDataRequest, DEndRequest, DEndResponse, DAbortRequest, DStartForwardRequest, DStartForwardResponse}
use Rattle.machine.specs.declared.outcome.Told.{Told}
use Rattle.machine.specs.declared.outcome.Told.TheVariants.{StartIndication, StartConfirmation, MessageIndication, EndIndication, EndConfirmation, UserAbortIndication, ProviderAbortIndication, ForwardIndication, ForwardConfirmation}
use Rattle.stored.specs.Stored.{flag}

-- how many numbers there are in a refusal's eight bits, a code's four, a primitive's nine, and a count's fifteen
abbrev pub refusals : ℕ
refusals = 256

abbrev pub codes : ℕ
codes = 16

abbrev pub primitives : ℕ
primitives = 512

abbrev pub counts : ℕ
counts = 32768

-- a primitive, its parameter, and its security value or its mode
abbrev pub three : ℕ → ℕ → ℕ → ℕ
three code x y = code + codes * (x % codes + codes * (y % 2))

unfoldable pub invoked_number : Option Invoked → ℕ
invoked_number None = three 0 0 0
invoked_number (Some (DStartRequest q s)) = three 1 q.routing s
invoked_number (Some (DStartResponse x s)) = three 2 x s
invoked_number (Some DDataRequest) = three 3 0 0
invoked_number (Some DEndRequest) = three 4 0 0
invoked_number (Some (DEndResponse x)) = three 5 x 0
invoked_number (Some (DAbortRequest o)) = three 6 o 0
invoked_number (Some (DStartForwardRequest q s v)) = three 1 q.routing s
invoked_number (Some (DStartForwardResponse s v)) = three 2 permanent s

unfoldable pub told_number : Option Told → ℕ
told_number None = three 0 0 0
told_number (Some (StartIndication m k)) = three 1 k (flag m)
told_number (Some (StartConfirmation m x)) = three 2 x (flag m)
told_number (Some MessageIndication) = three 3 0 0
told_number (Some (EndIndication m)) = three 4 0 (flag m)
told_number (Some (EndConfirmation m x)) = three 5 x (flag m)
told_number (Some (UserAbortIndication x)) = three 6 x 0
told_number (Some (ProviderAbortIndication x)) = three 7 x 0
told_number (Some ForwardIndication) = three 8 0 0
told_number (Some (ForwardConfirmation x v)) = three 9 x 0

-- the version that is sent, and the one that is told: no event has both
abbrev pub invoked_version : Option Invoked → ℕ
invoked_version None = 0
invoked_version (Some (DStartRequest q s)) = 0
invoked_version (Some (DStartResponse x s)) = 0
invoked_version (Some DDataRequest) = 0
invoked_version (Some DEndRequest) = 0
invoked_version (Some (DEndResponse x)) = 0
invoked_version (Some (DAbortRequest o)) = 0
invoked_version (Some (DStartForwardRequest q s v)) = v
invoked_version (Some (DStartForwardResponse s v)) = v

abbrev pub told_version : Option Told → ℕ
told_version None = 0
told_version (Some (StartIndication m k)) = 0
told_version (Some (StartConfirmation m x)) = 0
told_version (Some MessageIndication) = 0
told_version (Some (EndIndication m)) = 0
told_version (Some (EndConfirmation m x)) = 0
told_version (Some (UserAbortIndication x)) = 0
told_version (Some (ProviderAbortIndication x)) = 0
told_version (Some ForwardIndication) = 0
told_version (Some (ForwardConfirmation x v)) = v

abbrev pub version_number : Option Invoked → Option Told → ℕ
version_number i t = cond (eqb (invoked_version i) 0) (told_version t) (invoked_version i)

-- a call that was taken
unfoldable pub packed : ℕ → ℕ → ℕ → ℕ → ℕ → ℕ
packed invoked told sent given version =
    refusals * (invoked + primitives * (told + primitives * (sent % counts + counts * (given % counts + counts * (version % versions)))))
