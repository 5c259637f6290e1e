-- The alternatives: a number; a body; a mode and a body.
use Rattle.std.specs.Prelude.{ℕ, ◌+◌, List, ◌++◌, Bool, true, false, cond, ◌&&◌, length, take, drop, eqb, Ok}
use Rattle.bits.specs.Bits.{bits_n}
use Rattle.fields.specs.Encodings.{index_bits, whole_bits, whole_fits}
use Rattle.fields.specs.Fields.{Reading, refused_at, then, bit_field, whole_number, extensible_index}
use Rattle.fields.specs.declared.Fault.TheVariants.{Default}
use Rattle.machine.specs.declared.event.UserData.{UserData as Pdu}
use Rattle.machine.specs.declared.event.UserData.TheVariants as pdu
use Rattle.pdus.specs.declared.Content.{Content}
use Rattle.front.specs.declared.Found.{Found}
use Rattle.front.specs.Body.{Lent, Body, Alternative}
use Rattle.front.specs.Runs.{no_content}

-- ---- what was found

abbrev pub with : Pdu → Content → Found
with p c = record { pdu = p; content = c }

-- the number in a PDU: a mode, a reason, a result
abbrev pub number_of : Pdu → ℕ
number_of pdu.Absent = 0
number_of pdu.NotValid = 0
number_of (pdu.Start m) = cond m 1 0
number_of pdu.Send = 0
number_of (pdu.AbortUser x) = x
number_of (pdu.AbortProvider x) = x
number_of pdu.Forward = 0
number_of (pdu.ForwardResponse x) = x

-- ---- an ENUMERATED with an extension marker

abbrev pub enumerated : ℕ → (ℕ → Pdu) → Alternative
enumerated last p =
    record {
      Value = ℕ;
      fits = λ (v : ℕ). whole_fits 0 last v;
      bits = λ (v : ℕ). index_bits last v;
      read = λ (l : List ℕ) (at : ℕ). then (extensible_index l at last) (λ (v next : ℕ). Ok (with (p v) no_content, next));
      stands = λ (s : Lent) (x : Found). whole_fits 0 last (number_of x.pdu);
      value = λ (s : Lent) (x : Found). number_of x.pdu;
      extended = λ (l : List ℕ) (at : ℕ) (x : Found). false;
      plain = λ (l : List ℕ) (at : ℕ) (x : Found). take (length (index_bits last (number_of x.pdu))) (drop at l);
    }

-- ---- a body

abbrev pub reach : Pdu → Reading Content → Reading Found
reach p f = then f (λ (c : Content) (next : ℕ). Ok (with p c, next))

abbrev pub holding : Pdu → Body → Alternative
holding p b =
    record {
      Value = b.Value;
      fits = b.fits;
      bits = b.bits;
      read = λ (l : List ℕ) (at : ℕ). reach p (b.read l at);
      stands = λ (s : Lent) (x : Found). eqb (number_of x.pdu) (number_of p) && b.stands s x.content;
      value = λ (s : Lent) (x : Found). b.value s x.content;
      extended = λ (l : List ℕ) (at : ℕ) (x : Found). b.extended l at x.content;
      plain = λ (l : List ℕ) (at : ℕ) (x : Found). b.plain l at x.content;
    }

-- ---- a mode and a body: StartDownMessage begins with the presence bit of mode; the default, cpdlc, is left out (X.691, 19.5)

abbrev pub mode_last : ℕ
mode_last = 1

unfoldable pub mode_bits : ℕ → List ℕ
mode_bits m = cond (eqb m 0) (bits_n 1 0) (bits_n 1 1 ++ whole_bits 0 mode_last m)

-- mode present: its default value is refused
unfoldable pub mode_value : List ℕ → ℕ → Reading ℕ
mode_value l at = then (whole_number l at 0 mode_last) (λ (m next : ℕ). cond (eqb m 0) (refused_at at Default) (Ok (m, next)))

unfoldable pub mode_at : List ℕ → ℕ → Reading ℕ
mode_at l at = then (bit_field l at 1) (λ (p next : ℕ). cond (eqb p 0) (Ok (0, next)) (mode_value l next))

pub record Moded (A : Type 0) : Type 0 where
  pub mode : ℕ
  pub held : A

-- where the body begins
abbrev pub behind_mode : ℕ → Found → ℕ
behind_mode at x = at + length (mode_bits (number_of x.pdu))

abbrev pub moded : Body → Alternative
moded b =
    record {
      Value = Moded b.Value;
      fits = λ (v : Moded b.Value). whole_fits 0 mode_last v.mode && b.fits v.held;
      bits = λ (v : Moded b.Value). mode_bits v.mode ++ b.bits v.held;
      read = λ (l : List ℕ) (at : ℕ). then (mode_at l at) (λ (m p : ℕ). reach (pdu.Start (eqb m 1)) (b.read l p));
      stands = λ (s : Lent) (x : Found). whole_fits 0 mode_last (number_of x.pdu) && b.stands s x.content;
      value = λ (s : Lent) (x : Found). record { mode = number_of x.pdu; held = b.value s x.content };
      extended = λ (l : List ℕ) (at : ℕ) (x : Found). b.extended l (behind_mode at x) x.content;
      plain = λ (l : List ℕ) (at : ℕ) (x : Found). take (length (mode_bits (number_of x.pdu))) (drop at l) ++ b.plain l (behind_mode at x) x.content;
    }
