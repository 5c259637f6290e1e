-- The calls on bytes that the card exports: reading and writing an inner message. The direction is a number, 1 downlink and 2 uplink. The
-- answer is the number of a refusal, with its place above it where the bits are at fault, or a count: of characters, 256 times, or of bits,
-- 2^24 times. Each count has places of its own in the answer, so that one taken for the other is 0. A refusal leaves every lent byte.
use Rattle.std.specs.Prelude.{ℕ, ◌*◌, cond, List, ltb, eqb, length, Err, None, Ok, Option, Result, Some}
use Rattle.words.specs.Limits.{room, shape}
use Rattle.fields.specs.Refusals.{packed}
use Rattle.kinds.specs.declared.Direction.TheVariants.{Downlink, Uplink}
use Rattle.inner.specs.Messages.{room_least, Opening, open_message, Done, write_message}
use Rattle.inner.specs.declared.values.Message.{Message}
use Rattle.inner.specs.declared.values.Unopened.{Unopened}
use Rattle.inner.specs.declared.values.Unopened.TheVariants as unopened
use Rattle.layout.specs.Layout.{size, message_bytes, load_at}
use Rattle.kinds.specs.declared.Direction.{Direction}
use Rattle.words.specs.declared.Unwritten.{Unwritten}
use Rattle.words.specs.declared.Unwritten.TheVariants.{Room, Shape}

abbrev pub counted : ℕ → ℕ
counted n = 256 * n

abbrev pub counted_bits : ℕ → ℕ
counted_bits n = 16777216 * n

unfoldable pub way_of : ℕ → Option Direction
way_of n = cond (eqb n 1) (Some Downlink) (cond (eqb n 2) (Some Uplink) None)

-- ---- reading: ROOM, SHAPE, and then the fault that the bits have first

-- the answer, and the bytes of the message and of the text after it
pub record Told : Type 0 where
  pub number : ℕ
  pub message : List ℕ
  pub text : List ℕ

abbrev pub told : ℕ → List ℕ → List ℕ → Told
told n m t = record { number = n; message = m; text = t }

-- the number of what was not read
abbrev pub unopened_number : Unopened → ℕ
unopened_number unopened.Room = room
unopened_number unopened.Shape = shape
unopened_number (unopened.Refused r) = packed r

-- the number that says how many characters were read, or why none
abbrev pub read_number : Result ℕ Unopened → ℕ
read_number (Ok n) = counted n
read_number (Err u) = unopened_number u

-- a message x that was read, with its characters in the text t; a refusal leaves the bytes m
unfoldable pub told_as : List ℕ → List ℕ → Result (Message × ℕ) Unopened → Told
told_as m t (Ok (x, n)) = told (counted n) (message_bytes x) t
told_as m t (Err u) = told (unopened_number u) m t

unfoldable pub told_of : List ℕ → Opening → Told
told_of m o = told_as m o.text o.answer

unfoldable pub read_by : List ℕ → ℕ → List ℕ → List ℕ → Option Direction → Told
read_by s n m t (Some d) = told_of m (open_message d s n t)
read_by s n m t None = told shape m t

-- the first n bits of s, into a message m and a text t
unfoldable pub read_call : ℕ → List ℕ → ℕ → List ℕ → List ℕ → Told
read_call d s n m t =
    cond (ltb (length t) room_least) (told room m t) (cond (eqb (length m) size) (read_by s n m t (way_of d)) (told shape m t))

-- ---- writing: ROOM, SHAPE

-- what a call leaves: the number that it answers, and the range that it may write to
pub record Sent : Type 0 where
  pub number : ℕ
  pub bytes : List ℕ

abbrev pub sent : ℕ → List ℕ → Sent
sent n o = record { number = n; bytes = o }

unfoldable pub sent_as : Result ℕ Unwritten → List ℕ → Sent
sent_as (Ok n) o = sent (counted_bits n) o
sent_as (Err Room) o = sent room o
sent_as (Err Shape) o = sent shape o

unfoldable pub sent_of : Done → Sent
sent_of w = sent_as w.answer w.bytes

unfoldable pub write_by : Message → List ℕ → List ℕ → Option Direction → Sent
write_by m t o (Some d) = sent_of (write_message d m t o)
write_by m t o None = sent shape o

unfoldable pub write_loaded : List ℕ → List ℕ → Option Direction → Option Message → Sent
write_loaded t o w (Some m) = write_by m t o w
write_loaded t o w None = sent shape o

-- the message in the bytes b, whose characters are t, into a buffer o
unfoldable pub write_call : ℕ → List ℕ → List ℕ → List ℕ → Sent
write_call d b t o = cond (ltb (length o) room_least) (sent room o) (write_loaded t o (way_of d) (load_at b))
