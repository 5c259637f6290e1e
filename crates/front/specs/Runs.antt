-- A body whose value is its bits: a run that a reader takes from the first bit to the last, and that stands in the APDU as it is.
use Rattle.std.specs.Prelude.{ℕ, ◌+◌, ◌-◌, List, [], ◌∷◌, ◌++◌, Bool, true, false, cond, ◌&&◌, length, take, drop, leb, ltb, eqb, Err, Ok}
use Rattle.bits.specs.Bits.{bits_n}
use Rattle.fields.specs.Fields.{Reading, then, bit_field}
use Rattle.pdus.specs.declared.Content.{Content}
use Rattle.front.specs.Body.{Lent, Body}

-- a message of so many bits is none: no message has as many
abbrev pub none : ℕ
none = 18446744073709551615

abbrev pub no_content : Content
no_content = record { identifier = record { at = 0; count = 0 }; message = record { at = 0; count = none }; check = record { at = 0; count = 0 } }

unfoldable pub is_bits : List ℕ → Bool
is_bits [] = true
is_bits (x ∷ l) = ltb x 2 && is_bits l

abbrev pub ends_at : ℕ → Reading ℕ → Bool
ends_at n (Ok (v, next)) = eqb next n
ends_at n (Err r) = false

-- bits that a reader takes to the last
abbrev pub takes_all : (List ℕ → ℕ → Reading ℕ) → List ℕ → Bool
takes_all rd l = ends_at (length l) (rd l 0)

-- the message part of a content, as a run
abbrev pub run_in : Lent → Content → List ℕ
run_in s c = take c.message.count (drop c.message.at s.messages)

abbrev pub run_from : ℕ → ℕ → Content
run_from at next = record { identifier = record { at = 0; count = 0 }; message = record { at = at; count = next - at }; check = record { at = 0; count = 0 } }

abbrev pub run_body : (List ℕ → ℕ → Reading ℕ) → Body
run_body rd =
    record {
      Value = List ℕ;
      fits = λ (v : List ℕ). is_bits v && takes_all rd v;
      bits = λ (v : List ℕ). v;
      shown = λ (v : List ℕ). v;
      read = λ (l : List ℕ) (at : ℕ). then (rd l at) (λ (v next : ℕ). Ok (run_from at next, next));
      stands = λ (s : Lent) (c : Content). leb (c.message.at + c.message.count) (length s.messages) && takes_all rd (run_in s c);
      value = run_in;
      extended = λ (l : List ℕ) (at : ℕ) (c : Content). false;
      plain = λ (l : List ℕ) (at : ℕ) (c : Content). take c.message.count (drop at l);
    }

-- ---- a CHOICE of nothing and a run, in one bit: noMessage, message

pub data Perhaps : Type 0 where
  nothing : Perhaps
  something : List ℕ → Perhaps

-- a content without a message
abbrev pub is_none : Content → Bool
is_none c = eqb c.message.count none

unfoldable pub perhaps_fits : (List ℕ → ℕ → Reading ℕ) → Perhaps → Bool
perhaps_fits rd nothing = true
perhaps_fits rd (something v) = is_bits v && takes_all rd v

unfoldable pub perhaps_bits : Perhaps → List ℕ
perhaps_bits nothing = bits_n 1 0
perhaps_bits (something v) = bits_n 1 1 ++ v

abbrev pub perhaps_shown : Perhaps → List ℕ
perhaps_shown nothing = []
perhaps_shown (something v) = v

abbrev pub perhaps_run : (List ℕ → ℕ → Reading ℕ) → Body
perhaps_run rd =
    record {
      Value = Perhaps;
      fits = perhaps_fits rd;
      bits = perhaps_bits;
      shown = perhaps_shown;
      read = λ (l : List ℕ) (at : ℕ). then (bit_field l at 1) (λ (i p : ℕ). cond (eqb i 0) (Ok (no_content, p)) ((run_body rd).read l p));
      stands = λ (s : Lent) (c : Content). cond (is_none c) true ((run_body rd).stands s c);
      value = λ (s : Lent) (c : Content). cond (is_none c) nothing (something (run_in s c));
      extended = λ (l : List ℕ) (at : ℕ) (c : Content). false;
      plain = λ (l : List ℕ) (at : ℕ) (c : Content). take (cond (is_none c) 1 (1 + c.message.count)) (drop at l);
    }
