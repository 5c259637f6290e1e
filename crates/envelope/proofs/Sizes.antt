-- Laws of the sizes: what a writer's test says, and how large an envelope can be.
-- Assumes nothing.
use mathlib.Core.Path.{◌≡◌, refl, sym, ◌∙◌}
use mathlib.Core.Bool.{Bool, true, false, ◌&&◌, ◌||◌, not}
use mathlib.Core.List.{List, ◌++◌}
use Prim.Native.Nat.{ℕ, zero, suc, ◌+◌, ◌-◌, ◌/◌, ◌^◌, ◌≤◌, ◌<◌}
use native.Mathlib.Omega.{arith}
use native.Mathlib.Decide.{dec_lt}
use lib.Dec.{leb, eqb, lit≤}
use lib.ListN.{length, take, drop, length-append, take-append-drop, get_or-append}
use lib.Seq.{length-take-le, sets-eq}
use borrow.Author.Tests.{leb-true, le-ltb, lt-ltb, not-true}
use Rattle.words.proofs.Laws.{both_left, both_right}
use Rattle.envelope.specs.Numbers.{groups, number, Put}
use Rattle.envelope.specs.Envelopes.{is_kind, size_fits, bytes_for, is_padded, most_bits, least_room, Content, content, bytes_of, fits, left, write_envelope, Fit, largest}
use Rattle.envelope.proofs.Numbers.{groups_one, groups_more}
use Rattle.envelope.proofs.Fields.{padded_none}
use Rattle.envelope.proofs.Puts.{groups_pos, put_then}
use Rattle.std.specs.Prelude.{Err, Ok}
use Rattle.words.specs.declared.Unwritten.TheVariants.{Room}
use Rattle.words.specs.declared.Unwritten.TheVariants.{Shape}

-- ---- numbers

groups_most : (f v : ℕ) → length (groups f v) ≤ f + 1
unfolding groups
groups_most zero v = omega arith
groups_most (suc f) v =
    let ih = groups_most f (v / 128) in
    elim (dec_lt v 128) [ yes h ↦ rw (groups_one (suc f) v h) (omega arith) | no h ↦ rw (groups_more f v (omega arith)) (omega arith) ]

groups_mono : (f a b : ℕ) → a ≤ b → length (groups f a) ≤ length (groups f b)
unfolding groups
groups_mono zero a b h = omega arith
groups_mono (suc f) a b h =
    let ih = groups_mono f (a / 128) (b / 128) (omega arith) in
    let p = groups_pos (suc f) b in
    elim (dec_lt a 128) [
      | yes k ↦ rw (groups_one (suc f) a k) (omega arith)
      | no k ↦ rw
          (groups_more f a (omega arith), groups_more f b (omega arith)) (omega arith)
    ]

pub number_most : (v : ℕ) → length (number v) ≤ 10
unfolding number
number_most v = groups_most 9 v

pub number_mono : (a b : ℕ) → a ≤ b → length (number a) ≤ length (number b)
unfolding number
number_mono a b h = groups_mono 9 a b h

pub number_one : (v : ℕ) → v < 128 → length (number v) ≡ 1
unfolding number
number_one v h = rw (groups_one 9 v h)

-- ---- the tests

pub kind_small : (kind : ℕ) → is_kind kind ≡ true → kind ≤ 3
unfolding is_kind
kind_small kind e = leb-true kind 3 (both_right (leb 1 kind) (leb kind 3) e)

pub bits_small : (limit kind bits : ℕ) → size_fits limit kind bits ≡ true → bits ≤ limit
unfolding size_fits
bits_small limit kind bits e = leb-true bits limit (both_left (leb bits limit) (not (eqb kind 3) || eqb bits 8) e)

-- the padding of a body does not depend on what follows it
padded_at : (bits : ℕ) (l t : List ℕ) → bytes_for bits - 1 < length l → is_padded bits (l ++ t) ≡ is_padded bits l
unfolding is_padded
padded_at bits l t h = rw (get_or-append l t 0 (bytes_for bits - 1) h)

pub padded_front : (bits : ℕ) (l t : List ℕ) → bytes_for bits ≤ length l → is_padded bits (l ++ t) ≡ is_padded bits l
padded_front bits l t e = go (bytes_for bits) refl
  where
    go : (n : ℕ) → bytes_for bits ≡ n → is_padded bits (l ++ t) ≡ is_padded bits l
    go zero z = sym (padded_none bits (l ++ t) z) ∙ padded_none bits l z
    go (suc n) z = padded_at bits l t (omega arith)

pub padded_taken : (bits : ℕ) (l : List ℕ) → bytes_for bits ≤ length l → is_padded bits (take (bytes_for bits) l) ≡ is_padded bits l
padded_taken bits l h =
    let n = length-take-le (bytes_for bits) l h in
    sym (padded_front bits (take (bytes_for bits) l) (drop (bytes_for bits) l) (omega arith)) ∙ rw (take-append-drop (bytes_for bits) l)

-- what the writer's test says
module _ (limit kind job bits : ℕ) (body : List ℕ) (e : fits limit kind job bits body ≡ true) where
  from_job : (not (eqb job 0) && (size_fits limit kind bits && (leb (bytes_for bits) (length body) && is_padded bits body))) ≡ true
  unfolding fits
  from_job = both_right (is_kind kind) _ e

  from_size : (size_fits limit kind bits && (leb (bytes_for bits) (length body) && is_padded bits body)) ≡ true
  from_size = both_right (not (eqb job 0)) _ from_job

  from_body : (leb (bytes_for bits) (length body) && is_padded bits body) ≡ true
  from_body = both_right (size_fits limit kind bits) _ from_size

  pub body_there : bytes_for bits ≤ length body
  body_there = leb-true (bytes_for bits) (length body) (both_left (leb (bytes_for bits) (length body)) (is_padded bits body) from_body)

  pub is_fit : job < 2 ^ 64 → Fit limit (content kind job bits body)
  unfolding fits
  is_fit h =
      record {
        kind = both_left (is_kind kind) _ e;
        job = not-true (eqb job 0) (both_left (not (eqb job 0)) _ from_job);
        within = h;
        size = both_left (size_fits limit kind bits) _ from_size;
        body = length-take-le (bytes_for bits) body body_there;
        padded = padded_taken bits body body_there ∙ both_right (leb (bytes_for bits) (length body)) (is_padded bits body) from_body;
      }

-- ---- how large an envelope can be

pub length_bytes : (c : Content)
    → length (bytes_of c) ≡ length (number c.kind) + (length (number c.job) + (length (number c.bits) + length c.body))
unfolding bytes_of
length_bytes c = simp length-append

pub bytes_mono : (a b : ℕ) → a ≤ b → bytes_for a ≤ bytes_for b
unfolding bytes_for
bytes_mono a b h = omega arith

-- no envelope is larger than the largest
pub within_largest : (limit : ℕ) (c : Content) → Fit limit c → length (bytes_of c) ≤ largest limit
unfolding largest
within_largest limit c f =
    let k = kind_small c.kind f.kind in
    let b = bits_small limit c.kind c.bits f.size in
    omega (
      arith,
      length_bytes c,
      number_one c.kind (omega arith),
      number_most c.job,
      number_mono c.bits limit
          b,
      bytes_mono c.bits limit b,
      f.body,
    )

-- and one is as large: kind 1, job 2^64 - 1, a body of the limit's bits
pub largest_met : (limit : ℕ) (body : List ℕ) → length body ≡ bytes_for limit → length (bytes_of (record { kind = 1; job = 18446744073709551615; bits = limit; body = body })) ≡ largest limit
unfolding largest bytes_of number groups
largest_met limit body e = simp length-append (omega arith)

-- the number, and a lent output buffer takes it
pub largest_is : largest most_bits ≡ 2061
unfolding largest number groups bytes_for
largest_is = refl

pub largest_fits : largest most_bits ≤ least_room
unfolding largest number groups bytes_for
largest_fits = lit≤ tt

-- ---- the writer

module _ (room limit : ℕ) (out : List ℕ) (kind job bits : ℕ) (body : List ℕ) where
  pub no_room : length out < room → left (Err Room) out ≡ write_envelope room limit out kind job bits body
  unfolding write_envelope
  no_room h = rw (lt-ltb (length out) room h)

  pub no_shape : (t : Bool) → room ≤ length out → t ≡ fits limit kind job bits body → t ≡ false
      → left (Err Shape) out ≡ write_envelope room limit out kind job bits body
  unfolding write_envelope
  no_shape t h p q = rw (le-ltb (length out) room h, ← p, q)

  pub is_written : (z : List ℕ) (end : ℕ) (t : Bool) → room ≤ length out → t ≡ fits limit kind job bits body
      → t ≡ true → length (bytes_of (content kind job bits body)) ≤ length out
      → Put out z 0 end (bytes_of (content kind job bits body))
      → left (Ok end) z ≡ write_envelope room limit out kind job bits body
  unfolding write_envelope
  is_written z end t h p q l r =
      let n : 0 + length (bytes_of (content kind job bits body)) ≡ length (bytes_of (content kind job bits body)) = omega arith in
      rw (
        le-ltb (length out) room h,
        ← p,
        q,
        r.bytes,
        sets-eq (bytes_of (content kind job bits body)) out 0
            (omega arith),
        r.place,
        n,
      )

-- what the writer's loops have room for
pub record Roomy (out : List ℕ) (kind job bits : ℕ) (body : List ℕ) : Type 0 where
  pub total : length (number kind) + (length (number job) + (length (number bits) + bytes_for bits)) ≤ length out
  pub whole : length (bytes_of (content kind job bits body)) ≤ length out
  pub there : bytes_for bits ≤ length body

pub is_roomy : (room limit : ℕ) (out : List ℕ) (kind job bits : ℕ) (body : List ℕ) (t : Bool) → largest limit ≤ room
    → room ≤ length out → job < 2 ^ 64 → t ≡ fits limit kind job bits body → t ≡ true
    → Roomy out kind job bits body
is_roomy room limit out kind job bits body t l h w p q =
    let e : fits limit kind job bits body ≡ true = sym p ∙ q in
    let f = is_fit limit kind job bits body e w in
    let n = length_bytes (content kind job bits body) in
    let m = within_largest limit (content kind job bits body) f in
    record { total = omega (arith, f.body); whole = omega arith; there = body_there limit kind job bits body e }

-- the four puts in a row are the envelope
pub puts_are : (out a b c z : List ℕ) (p q t end n kind job bits : ℕ) (body : List ℕ) → n ≡ bytes_for bits
    → Put out a 0 p (number kind) → Put a b p q (number job) → Put b c q t (number bits) → Put c z t end (take n body)
    → Put out z 0 end (bytes_of (content kind job bits body))
unfolding bytes_of
puts_are out a b c z p q t end n kind job bits body e f g h k =
    rw (← e) (put_then out a z 0 p end (number kind) _ f
    (put_then a b z p q end (number job) _ g (put_then b c z q t end (number bits) (take n body) h k)))
