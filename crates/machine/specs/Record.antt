-- The record of one dialogue at one end: how it is made, and how one field of it is set. Every other field stays.
use Rattle.std.specs.Prelude.{ℕ, Bool, true, false, not, ◌&&◌}
use Rattle.control.specs.declared.Control.{Control}
use Rattle.machine.specs.declared.record.Configuration.{Configuration}
use Rattle.machine.specs.declared.record.Record.{Record}
use Rattle.machine.specs.Codes.{no_security}
use Rattle.control.specs.Control.{is_idle, closed}

-- document 01, "A fresh record"; Doc 9705 2.3.5.3.1.5, 2.3.5.3.1.6, 2.3.5.5.1.5, 2.3.5.5.1.6
abbrev pub fresh_record : Configuration → Record
fresh_record g = record { control = closed; timer = false; active = false; highest = 0; request = no_security; policy = g.policy; forwards = g.forwards; version = g.version; edition = g.edition }

abbrev pub with_timer : Record → Bool → Record
with_timer r on = record { control = r.control; timer = on; active = r.active; highest = r.highest; request = r.request; policy = r.policy; forwards = r.forwards; version = r.version; edition = r.edition }

abbrev pub with_user : Record → Bool → Record
with_user r on = record { control = r.control; timer = r.timer; active = on; highest = r.highest; request = r.request; policy = r.policy; forwards = r.forwards; version = r.version; edition = r.edition }

abbrev pub with_job : Record → ℕ → Record
with_job r j = record { control = r.control; timer = r.timer; active = r.active; highest = j; request = r.request; policy = r.policy; forwards = r.forwards; version = r.version; edition = r.edition }

abbrev pub with_request : Record → ℕ → Record
with_request r s = record { control = r.control; timer = r.timer; active = r.active; highest = r.highest; request = s; policy = r.policy; forwards = r.forwards; version = r.version; edition = r.edition }

-- the control goes to c; entering IDLE stops the timer and makes the user not active (document 01)
unfoldable pub enter : Record → Control → Record
enter r c = record { control = c; timer = not (is_idle c) && r.timer; active = not (is_idle c) && r.active; highest = r.highest; request = r.request; policy = r.policy; forwards = r.forwards; version = r.version; edition = r.edition }
