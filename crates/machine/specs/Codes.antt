-- The numbers that stand for the abstract values of parameters and results.
use Rattle.std.specs.Prelude.{ℕ}

-- Mode of a start request: cpdlc, dsc (document 02, E7; Doc 9705 2.3.4)
abbrev pub dsc_mode : ℕ
dsc_mode = 1

abbrev pub modes : ℕ
modes = 2

-- Security Requirements (Doc 9705 2.3.6.2.3.1)
abbrev pub no_security : ℕ
no_security = 0

abbrev pub security_values : ℕ
security_values = 2

-- Result. The user's: accepted, rejected. Of a D-START: accepted, rejected (permanent), rejected (transient). Of a D-END: accepted,
-- rejected.
-- The user's "rejected" is "rejected (permanent)" in a D-START (2.3.5.3.8.2, 2.3.5.5.8.2, 2.3.5.5.9.2), and the reverse (2.3.5.3.3.2).
abbrev pub accepted : ℕ
accepted = 0

abbrev pub permanent : ℕ
permanent = 1

abbrev pub transient : ℕ
transient = 2

abbrev pub results : ℕ
results = 2

abbrev pub start_results : ℕ
start_results = 3

-- Reject Source of a D-START confirmation: DS user, DS provider
abbrev pub ds_provider : ℕ
ds_provider = 1

abbrev pub reject_sources : ℕ
reject_sources = 2

-- Originator of a D-ABORT: user, provider
abbrev pub user : ℕ
user = 0

abbrev pub provider : ℕ
provider = 1

abbrev pub originators : ℕ
originators = 2

-- what the Calling Peer ID of a D-START indication is: a facility designation, an aircraft address
abbrev pub facility : ℕ
facility = 0

abbrev pub aircraft : ℕ
aircraft = 1

abbrev pub peers : ℕ
peers = 2

-- Quality of Service (2.3.6.2.2): priority "high priority flight safety messages", residual error rate "low",
-- routing class 0 for no preference and 1 to 8 for A to H (table 2.3.6-1)
abbrev pub high_priority : ℕ
high_priority = 1

abbrev pub low_error_rate : ℕ
low_error_rate = 1

abbrev pub routing_classes : ℕ
routing_classes = 9

-- CPDLCUserAbortReason and CPDLCProviderAbortReason (2.3.4); how many values the first has is the edition's
abbrev pub undefined : ℕ
undefined = 0

abbrev pub provider_reasons : ℕ
provider_reasons = 8

abbrev pub timer_expired : ℕ
timer_expired = 0

abbrev pub undefined_error : ℕ
undefined_error = 1

abbrev pub invalid_pdu : ℕ
invalid_pdu = 2

abbrev pub protocol_error : ℕ
protocol_error = 3

abbrev pub communication_service_error : ℕ
communication_service_error = 4

abbrev pub communication_service_failure : ℕ
communication_service_failure = 5

abbrev pub invalid_qos_parameter : ℕ
invalid_qos_parameter = 6

abbrev pub expected_pdu_missing : ℕ
expected_pdu_missing = 7

-- told to the user only; no value of CPDLCProviderAbortReason
abbrev pub not_permitted_pdu : ℕ
not_permitted_pdu = 8

-- ATCForwardResponse (2.3.4), the Result of a CPDLC-forward confirmation
abbrev pub success : ℕ
success = 0

abbrev pub service_not_supported : ℕ
service_not_supported = 1

abbrev pub version_not_equal : ℕ
version_not_equal = 2

abbrev pub forward_results : ℕ
forward_results = 3

-- DS User Version Number: 1 to 255 (2.3.3.8.5.1); 0: none
abbrev pub no_version : ℕ
no_version = 0

abbrev pub versions : ℕ
versions = 256
