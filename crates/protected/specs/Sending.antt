-- What a buffer takes: an APDU with its content, or what a user is delivered of one.
use Rattle.std.specs.Prelude.{ℕ, ◌+◌, Bool, true, false, cond, ◌&&◌, ◌||◌, List, [], leb, eqb, length, Ok}
use Rattle.apdu.specs.Writing.{passed_most}
use Rattle.pdus.specs.declared.PduType.{PduType}
use Rattle.machine.specs.UserData.{is_forward}
use Rattle.machine.specs.declared.event.UserData.{UserData as Pdu}
use Rattle.machine.specs.declared.event.UserData.TheVariants as pdu
use Rattle.front.specs.declared.Found.{Found}
use Rattle.front.specs.Body.{Lent, one}
use Rattle.front.specs.Runs.{no_content, run_in}
use Rattle.front.specs.Alternatives.{with}
use Rattle.front.specs.Apdus.{apdu_bits, index_of, found_fits, apdu_in}
use Rattle.front.specs.Writing.{Done, done, write_out}
use Rattle.protected.specs.Bodies.{protected_body, choice_of}

-- An APDU whose content stands in the bits s. Where there is none, nothing; nor of a forward, which is written of its heading.
unfoldable pub sends : PduType → Lent → Found → List ℕ → Done
sends pdus s x t =
    cond (eqb (index_of x.pdu) 4 || eqb (index_of x.pdu) 6) (done (Ok 0) t)
    (write_out (found_fits (choice_of pdus) s x) t (apdu_bits (choice_of pdus) (apdu_in (choice_of pdus) s x)))

-- what answers a primitive of the dialogue service: an abort by the provider, a forward's response, or nothing
abbrev pub is_reply : Pdu → Bool
is_reply pdu.Absent = true
is_reply pdu.NotValid = false
is_reply (pdu.Start m) = false
is_reply pdu.Send = false
is_reply (pdu.AbortUser x) = false
is_reply (pdu.AbortProvider x) = true
is_reply pdu.Forward = false
is_reply (pdu.ForwardResponse x) = true

unfoldable pub replies : PduType → Pdu → List ℕ → Done
replies pdus a t = cond (is_reply a) (sends pdus (one []) (with a no_content) t) (done (Ok 0) t)

-- What a user is delivered of what was found in the bits l: a forward message as its bits stand, message data encoded anew.
unfoldable pub shows : List ℕ → Found → List ℕ → Done
shows l x t =
    cond (is_forward x.pdu) (write_out (leb x.content.message.count passed_most && leb (x.content.message.at + x.content.message.count) (length l)) t (run_in (one l) x.content))
    (write_out (protected_body.stands (one l) x.content) t (protected_body.shown (protected_body.value (one l) x.content)))
