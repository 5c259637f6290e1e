-- The numbers that the envelope's calls answer: what they say can be taken out of them again, and a refusal is told from an answer.
-- Assumes nothing.
use mathlib.Core.Path.{◌≡◌, refl, sym, ap, ◌∙◌}
use mathlib.Core.List.{List, [], ◌++◌, append-nil}
use Prim.Native.Nat.{ℕ, ◌+◌, ◌*◌, ◌/◌, ◌%◌, ◌<◌}
use native.Mathlib.Omega.{arith}
use native.Mathlib.Nat.{mod-eq_of_lt}
use lib.ListN.{length, drop, drop_of_length-le}
use lib.Seq.{sets, sets-eq}
use Rattle.book.specs.Books.{number_of, octets}
use Rattle.book.proofs.Eights.{length_octets, number_octets}
use Rattle.envelope.specs.Envelopes.{most_bits, envelope_at, Left, left, content_of, placed, bytes_of, header, largest}
use Rattle.envelope.specs.declared.Envelope.{Envelope}
use Rattle.envelope.proofs.Numbers.{AllBytes}
use Rattle.envelope.proofs.RoundTrip.{ReadIs, read_written, length_whole}
use Rattle.envelope.proofs.Sizes.{kind_small, bits_small, within_largest, largest_is}
use Rattle.card.specs.Mail.{read_by, said, answered, written_answer}
use Rattle.layout.specs.Calls.{sent}
use Rattle.std.specs.Prelude.{Ok, Result}
use Rattle.words.specs.declared.Unwritten.{Unwritten}

-- bytes over a range of as many
pub sets_whole : (b v : List ℕ) → length v ≡ length b → sets b 0 v ≡ v
sets_whole b v h =
    let d : drop (0 + length v) b ≡ [] = drop_of_length-le b {i = 0 + length v} (omega arith) in
    sets-eq v b 0 (omega arith) ∙ rw d (append-nil v)

-- as `peat_write_envelope` has them
pub put_answered : (n : ℕ) (w : Result ℕ Unwritten) (out : List ℕ) (x : Left) → n ≡ written_answer w → left w out ≡ x → sent n out ≡ answered x
put_answered n w out x p q = rw (p, ← q)

-- the parts of an answer
pub record Says (n : ℕ) (e : Envelope) : Type 0 where
  pub none : n % 256 ≡ 0
  pub kind : n / 256 % 256 ≡ e.kind
  pub bits : n / 65536 % 65536 ≡ e.bits
  pub body : n / 4294967296 % 65536 ≡ e.body
  pub next : n / 281474976710656 ≡ e.next

pub parts : (e : Envelope) → e.kind < 256 → e.bits < 65536 → e.body < 65536 → e.next < 65536 → Says (said e) e
parts e k b p n =
    record { none = omega arith; kind = omega arith; bits = omega arith; body = omega arith; next = omega arith }

-- an envelope that is read is all in the number
pub envelope_said : (s job : List ℕ) (e : Envelope) → AllBytes s → envelope_at most_bits s 0 ≡ Ok e
    → Says (read_by job (envelope_at most_bits s 0)).number e
unfolding read_by placed
envelope_said s job e b p =
    let r = read_written most_bits s 0 b e p in
    let c = content_of s e in
    let m = within_largest most_bits c r.fit in
    let w = length_whole c in
    let k = kind_small c.kind r.fit.kind in
    let z = bits_small most_bits c.kind c.bits r.fit.size in
    let h : e.body ≡ 0 + length (header c) = ap (λ (x : Envelope). x.body) r.place in
    let n : e.next ≡ 0 + length (bytes_of c) = ap (λ (x : Envelope). x.next) r.place in
    rw p (parts e (omega arith) (omega arith) (omega (arith, h, m, w, largest_is)) (omega (arith, n, m, largest_is)))

-- and its job is in the eight bytes
pub job_said : (s job : List ℕ) (e : Envelope) → AllBytes s → envelope_at most_bits s 0 ≡ Ok e
    → number_of 0 (read_by job (envelope_at most_bits s 0)).bytes ≡ e.job
unfolding read_by
job_said s job e b p =
    let r = read_written most_bits s 0 b e p in
    rw p (number_octets 8 e.job ∙ mod-eq_of_lt r.fit.within)

-- ---- as `put_job` has it: eight bytes over a range of eight

pub job_whole : (b : List ℕ) (v : ℕ) → length b ≡ 8 → sets b 0 (octets 8 v) ≡ octets 8 v
job_whole b v h = sets_whole b (octets 8 v) (length_octets 8 v ∙ sym h)
