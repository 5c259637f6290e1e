-- The codes of the columns.
use Rattle.std.specs.Prelude.{ℕ}

-- ---- Side

abbrev pub air : ℕ
air = 0

abbrev pub ground : ℕ
ground = 1

abbrev pub both : ℕ
both = 2

-- ---- Events, as the rows of the tables name them; the last four stand for several

abbrev pub start_request : ℕ
start_request = 0

abbrev pub dsc_start_request : ℕ
dsc_start_request = 1

abbrev pub start_response_accepted : ℕ
start_response_accepted = 2

abbrev pub start_response_rejected : ℕ
start_response_rejected = 3

abbrev pub dsc_start_response_accepted : ℕ
dsc_start_response_accepted = 4

abbrev pub dsc_start_response_rejected : ℕ
dsc_start_response_rejected = 5

abbrev pub message_request : ℕ
message_request = 6

abbrev pub end_request : ℕ
end_request = 7

abbrev pub dsc_end_request : ℕ
dsc_end_request = 8

abbrev pub end_response_accepted : ℕ
end_response_accepted = 9

abbrev pub end_response_rejected : ℕ
end_response_rejected = 10

abbrev pub dsc_end_response_accepted : ℕ
dsc_end_response_accepted = 11

abbrev pub dsc_end_response_rejected : ℕ
dsc_end_response_rejected = 12

abbrev pub user_abort : ℕ
user_abort = 13

abbrev pub forward_request : ℕ
forward_request = 14

abbrev pub d_start : ℕ
d_start = 15

abbrev pub d_start_accepted : ℕ
d_start_accepted = 16

abbrev pub d_start_rejected : ℕ
d_start_rejected = 17

abbrev pub d_data : ℕ
d_data = 18

abbrev pub d_end : ℕ
d_end = 19

abbrev pub d_end_accepted : ℕ
d_end_accepted = 20

abbrev pub d_end_rejected : ℕ
d_end_rejected = 21

abbrev pub d_abort : ℕ
d_abort = 22

abbrev pub d_pabort : ℕ
d_pabort = 23

abbrev pub expiry : ℕ
expiry = 24

abbrev pub system_error : ℕ
system_error = 25

abbrev pub any_user : ℕ
any_user = 30

abbrev pub any_service : ℕ
any_service = 31

abbrev pub d_start_confirmation : ℕ
d_start_confirmation = 32

abbrev pub d_end_confirmation : ℕ
d_end_confirmation = 33

-- ---- State: before the event (any_state, busy: all but IDLE) and after it (stays)

abbrev pub idle : ℕ
idle = 0

abbrev pub start_req : ℕ
start_req = 1

abbrev pub start_ind : ℕ
start_ind = 2

abbrev pub dialogue : ℕ
dialogue = 3

abbrev pub end : ℕ
end = 4

abbrev pub forward : ℕ
forward = 5

abbrev pub any_state : ℕ
any_state = 6

abbrev pub busy : ℕ
busy = 7

abbrev pub stays : ℕ
stays = 6

-- ---- DSC before the event (as_is: any) and after it; t-start and the active user after it

abbrev pub no : ℕ
no = 1

abbrev pub yes : ℕ
yes = 2

abbrev pub as_is : ℕ
as_is = 0

-- ---- Condition: the first that holds

abbrev pub plain : ℕ
plain = 20

abbrev pub wrong_quality : ℕ
wrong_quality = 1

abbrev pub turned_away : ℕ
turned_away = 2

abbrev pub wrong_security : ℕ
wrong_security = 3

abbrev pub no_pdu : ℕ
no_pdu = 4

abbrev pub invalid_pdu : ℕ
invalid_pdu = 5

abbrev pub start : ℕ
start = 6

abbrev pub dsc_start : ℕ
dsc_start = 7

abbrev pub start_of_aircraft : ℕ
start_of_aircraft = 8

abbrev pub send : ℕ
send = 9

abbrev pub unsupported_forward : ℕ
unsupported_forward = 10

abbrev pub equal_forward : ℕ
equal_forward = 11

abbrev pub other_forward : ℕ
other_forward = 12

abbrev pub response : ℕ
response = 13

abbrev pub abort_of_user : ℕ
abort_of_user = 14

abbrev pub abort_of_provider : ℕ
abort_of_provider = 15

abbrev pub other_pdu : ℕ
other_pdu = 16

abbrev pub no_message : ℕ
no_message = 17

abbrev pub repeat : ℕ
repeat = 18

abbrev pub timer_stopped : ℕ
timer_stopped = 19

abbrev pub anyhow : ℕ
anyhow = 0

-- ---- What the record keeps of the event

abbrev pub nothing : ℕ
nothing = 0

abbrev pub job : ℕ
job = 1

abbrev pub security : ℕ
security = 2

-- ---- Refusal

abbrev pub taken : ℕ
taken = 0

abbrev pub prohibited : ℕ
prohibited = 3

abbrev pub without_message : ℕ
without_message = 4

abbrev pub repeated : ℕ
repeated = 5

-- ---- Dialogue-service primitive with its APDU

abbrev pub silent : ℕ
silent = 0

abbrev pub start_out : ℕ
start_out = 1

abbrev pub dsc_start_out : ℕ
dsc_start_out = 2

abbrev pub start_answer : ℕ
start_answer = 3

abbrev pub data_out : ℕ
data_out = 4

abbrev pub end_out : ℕ
end_out = 5

abbrev pub end_answer : ℕ
end_answer = 6

abbrev pub abort_by_user : ℕ
abort_by_user = 7

abbrev pub abort_by_provider : ℕ
abort_by_provider = 8

abbrev pub forward_out : ℕ
forward_out = 9

abbrev pub forward_answer : ℕ
forward_answer = 10

abbrev pub forward_answer_with_version : ℕ
forward_answer_with_version = 11

-- ---- User primitive

abbrev pub untold : ℕ
untold = 0

abbrev pub start_indication : ℕ
start_indication = 1

abbrev pub dsc_start_indication : ℕ
dsc_start_indication = 2

abbrev pub start_confirmation : ℕ
start_confirmation = 3

abbrev pub message_indication : ℕ
message_indication = 4

abbrev pub end_indication : ℕ
end_indication = 5

abbrev pub end_confirmation : ℕ
end_confirmation = 6

abbrev pub abort_of_pdu : ℕ
abort_of_pdu = 7

abbrev pub abort_for : ℕ
abort_for = 8

abbrev pub forward_indication : ℕ
forward_indication = 9

abbrev pub forward_confirmation : ℕ
forward_confirmation = 10

-- ---- What the printed tables have: a cell that says it, cells that say "cannot occur" or "not permitted", or none

abbrev pub page : ℕ
page = 0

abbrev pub cannot_occur : ℕ
cannot_occur = 1

abbrev pub added : ℕ
added = 2
