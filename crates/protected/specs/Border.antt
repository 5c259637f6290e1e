-- What the decoder of crate apdu finds, as the front says it.
use Rattle.std.specs.Prelude.{ℕ, ◌+◌, eqb, Err, Ok, Result}
use Rattle.apdu.specs.declared.Apdu.{Apdu}
use Rattle.apdu.specs.declared.Apdu.TheVariants as is
use Rattle.machine.specs.declared.event.UserData.TheVariants as pdu
use Rattle.front.specs.declared.Found.{Found}
use Rattle.front.specs.Runs.{no_content, run_from}
use Rattle.front.specs.Alternatives.{with}
use Rattle.protected.specs.Bodies.{content_of}
use Rattle.fields.specs.declared.Refusal.{Refusal}

-- a forward message begins behind the four bits of its alternative
abbrev pub found_of : Apdu → Found
found_of (is.AbortUser r) = with (pdu.AbortUser r) no_content
found_of (is.AbortProvider r) = with (pdu.AbortProvider r) no_content
found_of (is.Start m d) = with (pdu.Start (eqb m 1)) (content_of d)
found_of (is.Send d) = with pdu.Send (content_of d)
found_of (is.Forward f) = with pdu.Forward (run_from 4 (f.message.at + f.message.count))
found_of (is.ForwardResponse x) = with (pdu.ForwardResponse x) no_content

abbrev pub decoded_of : Result Apdu Refusal → Result Found Refusal
decoded_of (Ok a) = Ok (found_of a)
decoded_of (Err r) = Err r
