-- What writing and reading a message are to each other: what was written is read back, what was read is written as it was, a refused call leaves
-- every byte, and how many bits a message has at most.
-- Assumes nothing.
use mathlib.Core.Path.{◌≡◌, refl, sym, ap, ◌∙◌}
use mathlib.Core.Bool.{Bool, true, false, cond, ◌&&◌}
use mathlib.Core.List.{List, [], ◌∷◌, ◌++◌}
use Prim.Native.Nat.{ℕ, zero, suc, ◌+◌, ◌*◌, ◌-◌, ◌≤◌}
use native.Mathlib.Omega.{arith}
use native.Mathlib.Nat.{add_comm, suc-mul}
use lib.ListN.{length, take, drop, replicate, length-append, length-take, length-replicate}
use lib.Seq.{take_at, drop_at, take-length, take_all, take-take, take-append_seam}
use lib.Dec.{eqb, leb, ltb}
use borrow.Author.Tests.{eqb-true, eq-eqb, leb-true, ltb-false, le-leb, lt-leb, le-ltb}
use Rattle.words.proofs.Laws.{both_left, both_right, ok_place, ok_value}
use Rattle.bits.specs.Bits.{bits_of, bits_to, run, bits_n}
use Rattle.bits.specs.Put.{put_bits}
use Rattle.bits.proofs.Numbers.{Bits, length_bits_n}
use Rattle.bits.proofs.Bytes.{bits_to_is, length_to}
use Rattle.bits.proofs.Putting.{read_back, length_put}
use Rattle.fields.specs.Encodings.{whole_fits}
use Rattle.kinds.specs.declared.Direction.{Direction}
use Rattle.kinds.specs.declared.ArgumentKind.TheVariants as kind
use Rattle.elements.specs.declared.values.Element.{Element}
use Rattle.kinds.specs.Elements.{kind_of}
use Rattle.elements.specs.Measuring.{index_width, largest_of}
use Rattle.elements.specs.OneElement.{bare, last_of, argument_fits, element_fits, element_bits}
use Rattle.elements.proofs.Largest.{element_largest, most, largest, largest_fits, largest_reached}
use Rattle.elements.proofs.Standing.{Stands}
use Rattle.elements.proofs.Steps.{never}
use Rattle.inner.specs.declared.values.Header.{Header}
use Rattle.inner.specs.declared.values.Message.{Message}
use Rattle.inner.specs.Headers.{header_fits, header_bits}
use Rattle.inner.specs.declared.values.Unopened.TheVariants as unopened
use Rattle.inner.specs.Places.{row_fits, row_bits}
use Rattle.inner.specs.Messages.{exactly, message_text, message_fits, message_bits, bits_most, room_least, message_carried, padding, padded, Done, done, write_message, Opening, opening, not_opened, opened_as, refused_by, open_message}
use Rattle.inner.proofs.AreBits.{message_are_bits, padded_are_bits}
use Rattle.inner.proofs.MessageLaws.{message_reads, message_text_is, message_stands, places_empty, fits_of}
use Rattle.inner.proofs.Characters.{ReadIs, exactly_is}
use Rattle.inner.proofs.MessageWritten.{header_most, row_most, length_message}
use Rattle.std.specs.Prelude.{Err, Ok}
use Rattle.fields.specs.Fields.{Reading, onto}
use Rattle.words.specs.declared.Unwritten.TheVariants.{Room}
use Rattle.words.specs.declared.Unwritten.TheVariants.{Shape}

-- ---- what an answer says

-- the message was written
record WrittenIs (d : Direction) (m : Message) (t out : List ℕ) (n : ℕ) : Type 0 where
  room : room_least ≤ length out
  carried : message_carried d m t ≡ true
  count : n ≡ length (message_bits d m t)
  bytes : (write_message d m t out).bytes ≡ put_bits out 0 (padded (message_bits d m t))

written_is : (d : Direction) (m : Message) (t out : List ℕ) (n : ℕ) → (write_message d m t out).answer ≡ Ok n
    → WrittenIs d m t out n
unfolding write_message
written_is d m t out n h = go (ltb (length out) room_least) refl (message_carried d m t) refl h refl
  where
    both : Bool → Bool → Done
    both a b = cond a (done (Err Room) out) (cond b
        (done (Ok (length (message_bits d m t))) (put_bits out 0 (padded (message_bits d m t))))
        (done (Err Shape) out))

    go : (a : Bool) → ltb (length out) room_least ≡ a → (b : Bool) → message_carried d m t ≡ b
        → (both a b).answer ≡ Ok n → (write_message d m t out).bytes ≡ (both a b).bytes → WrittenIs d m t out n
    go true p b q e f = never (cc)
    go false p false q e f = never (cc)
    go false p true q e f = record { room = ltb-false (length out) room_least p; carried = q; count = cc; bytes = f }

-- the message was opened
pub record OpenedIs (d : Direction) (s : List ℕ) (n : ℕ) (z : List ℕ) (k : ℕ) (m : Message) : Type 0 where
  pub room : room_least ≤ length z
  pub limit : n ≤ bits_most
  pub lent : n ≤ 8 * length s
  pub next : ℕ
  pub read : ReadIs d (bits_to s n) m next
  pub count : k ≡ length (message_text d (bits_to s n) 0 m)
  pub text : (open_message d s n z).text ≡ message_text d (bits_to s n) 0 m ++ drop (length (message_text d (bits_to s n) 0 m)) z

pub opened_is : (d : Direction) (s : List ℕ) (n : ℕ) (z : List ℕ) (k : ℕ) (m : Message) → (open_message d s n z).answer ≡ Ok (m, k) → OpenedIs d s n z k m
unfolding open_message
opened_is d s n z k m h = go (ltb (length z) room_least) refl (leb n bits_most && leb n (8 * length s)) refl
    (exactly d (bits_to s n)) refl h refl
  where
    tells : Bool → Bool → Reading Message → Opening
    tells a b w = cond a (not_opened z unopened.Room)
        (cond b (onto (refused_by z) w (λ (x : Message) (next : ℕ). opened_as z x (message_text d (bits_to s n) 0 x))) (not_opened z unopened.Shape))

    go : (a : Bool) → ltb (length z) room_least ≡ a → (b : Bool) → leb n bits_most && leb n (8 * length s) ≡ b → (w : Reading Message) → exactly d (bits_to s n) ≡ w → (tells a b w).answer ≡ Ok (m, k) → (open_message d s n z).text ≡ (tells a b w).text → OpenedIs d s n z k m
    go true p b q w i e f = never (cc)
    go false p false q w i e f = never (cc)
    go false p true q (Err r) i e f = never (cc)
    go false p true q (Ok (x, next)) i e f =
        let j : x ≡ m = ok_value e in
        record {
          room = ltb-false (length z) room_least p;
          limit = leb-true n bits_most (both_left (leb n bits_most) (leb n (8 * length s)) q);
          lent = leb-true n (8 * length s) (both_right (leb n bits_most) (leb n (8 * length s)) q);
          next = next;
          read = rw (← j) (exactly_is d (bits_to s n) x next i);
          count = rw (← j) (sym (ok_place e));
          text = rw (← j) f;
        }

-- ---- the bits that were written stand in the buffer

front_bits : (out bs : List ℕ) → Bits bs → length (padded bs) ≤ 8 * length out → bits_to (put_bits out 0 (padded bs)) (length bs) ≡ bs
unfolding bits_to run padded
front_bits out bs b h =
    let p : List ℕ = bs ++ bits_n (padding (length bs)) 0 in
    let n = length-append bs (bits_n (padding (length bs)) 0) in
    let r : take (length p) (bits_of (put_bits out 0 p)) ≡ p = read_back out 0 p (padded_are_bits bs b) (omega arith) in
    sym (take-take (length bs) (length p) (bits_of (put_bits out 0 p)) (omega arith)) ∙ ap (take (length bs)) r ∙ take_at
    bs (bits_n (padding (length bs)) 0) (length bs) refl

length_padded : (bs : List ℕ) → length (padded bs) ≤ length bs + 7
unfolding padded
length_padded bs =
    let n = length-append bs (bits_n (padding (length bs)) 0) in
    let w = length_bits_n (padding (length bs)) 0 in
    omega arith

-- a message's bits alone are read as that message, with its characters
module _ (d : Direction) (m : Message) (t : List ℕ) (h : message_fits d m t ≡ true) where
  alone : Stands (message_bits d m t) 0 (message_fits d m t) (message_bits d m t) (length (message_bits d m t))
  alone = record { fits = h; holds = take-length (message_bits d m t); place = omega arith }

  read_alone : exactly d (message_bits d m t) ≡ Ok (m, length (message_bits d m t))
  unfolding exactly
  read_alone = rw (
    message_reads d (message_bits d m t) 0 (length (message_bits d m t)) m t alone,
    lt-leb
        (length (message_bits d m t) + 1) (length (message_bits d m t)) (omega arith),
  )

  text_alone : message_text d (message_bits d m t) 0 m ≡ t
  text_alone = message_text_is d (message_bits d m t) 0 (length (message_bits d m t)) m t alone

-- ---- WRITE THEN READ: a message that was written is read back from the buffer, with its characters; whatever follows the characters stays

module _ (d : Direction) (m : Message) (t out text : List ℕ) (n : ℕ) where
  pub written_read : (write_message d m t out).answer ≡ Ok n → room_least ≤ length text → open_message d (write_message d m t out).bytes n text ≡ opening (Ok (m, length t)) (t ++ drop (length t) text)
  unfolding open_message
  written_read h r =
      let w = written_is d m t out n h in
      let bs : List ℕ = message_bits d m t in
      let f = both_left (message_fits d m t) (leb (length bs) bits_most) w.carried in
      let l = leb-true (length bs) bits_most (both_right (message_fits d m t) (leb (length bs) bits_most) w.carried) in
      let c = w.count in
      let o = w.room in
      let p = length_padded bs in
      let k : length (put_bits out 0 (padded bs)) ≡ length out = length_put (padded bs) out 0 in
      let b : bits_to (put_bits out 0 (padded bs)) (length bs) ≡ bs = front_bits out bs (message_are_bits d m t) (omega arith) in
      rw (
        w.bytes,
        c,
        le-ltb (length text) room_least r,
        le-leb (length bs) bits_most l,
        le-leb (length bs)
            (8 * length (put_bits out 0 (padded bs))) (omega arith),
        b,
        read_alone d m t f,
        text_alone d m t f,
      )

-- ---- READ THEN WRITE: a message that was read is written as the same bits

module _ (d : Direction) (s : List ℕ) (n : ℕ) (text : List ℕ) (k : ℕ) (m : Message) (h : (open_message d s n text).answer ≡ Ok (m, k)) where
  -- the characters in the text
  abbrev characters : List ℕ
  characters = take k (open_message d s n text).text

  characters_are : characters ≡ message_text d (bits_to s n) 0 m
  characters_are =
      let o = opened_is d s n text k m h in
      rw (o.text, o.count) (take-append_seam (message_text d (bits_to s n) 0 m) _)

  stands : Stands (bits_to s n) 0 (message_fits d m characters) (message_bits d m characters) (opened_is d s n text k m h).next
  stands =
      let o = opened_is d s n text k m h in
      rw characters_are (message_stands d (bits_to s n) 0 o.next m (bits_to_is s n) o.read.there)

  pub read_same : message_bits d m characters ≡ bits_to s n
  read_same =
      let p = stands.place in
      let e = (opened_is d s n text k m h).read.ends in
      sym stands.holds ∙ take_all (length (message_bits d m characters)) (bits_to s n) (omega arith)

  pub read_written : (out : List ℕ) → room_least ≤ length out
      → write_message d m characters out ≡ done (Ok n) (put_bits out 0 (padded (bits_to s n)))
  unfolding write_message
  read_written out r =
      let o = opened_is d s n text k m h in
      let a = o.limit in
      let b = o.lent in
      let c : length (bits_to s n) ≡ n = length_to s n ∙ omega arith in
      rw (le-ltb (length out) room_least r, stands.fits, read_same, c, le-leb n bits_most a)

-- ---- A REFUSED CALL LEAVES EVERY BYTE

pub refused_leaves : (d : Direction) (m : Message) (t out : List ℕ)
    → ((n : ℕ) → (write_message d m t out).answer ≡ Ok n → ⊥) → (write_message d m t out).bytes ≡ out
unfolding write_message
refused_leaves d m t out h = go (ltb (length out) room_least) (message_carried d m t) h
  where
    go : (a b : Bool)
        → ((n : ℕ) → (cond a (done (Err Room) out) (cond b (done (Ok (length (message_bits d m t))) (put_bits out 0 (padded (message_bits d m t)))) (done (Err Shape) out))).answer ≡ Ok n → ⊥)
        → (cond a (done (Err Room) out) (cond b (done (Ok (length (message_bits d m t))) (put_bits out 0 (padded (message_bits d m t)))) (done (Err Shape) out))).bytes ≡ out
    go true b f = refl
    go false true f = absurd (f (length (message_bits d m t)) refl)
    go false false f = refl

pub unread_leaves : (d : Direction) (s : List ℕ) (n : ℕ) (z : List ℕ)
    → ((m : Message) (k : ℕ) → (open_message d s n z).answer ≡ Ok (m, k) → ⊥) → (open_message d s n z).text ≡ z
unfolding open_message
unread_leaves d s n z h = go (ltb (length z) room_least) (leb n bits_most && leb n (8 * length s)) (exactly d (bits_to s n)) h
  where
    tells : Bool → Bool → Reading Message → Opening
    tells a b w = cond a (not_opened z unopened.Room)
        (cond b (onto (refused_by z) w (λ (x : Message) (next : ℕ). opened_as z x (message_text d (bits_to s n) 0 x))) (not_opened z unopened.Shape))

    go : (a b : Bool) (w : Reading Message) → ((m : Message) (k : ℕ) → (tells a b w).answer ≡ Ok (m, k) → ⊥) → (tells a b w).text ≡ z
    go true b w f = refl
    go false false w f = refl
    go false true (Err r) f = refl
    go false true (Ok (x, next)) f = absurd (f x (length (message_text d (bits_to s n) 0 x)) refl)

-- ---- THE LARGEST MESSAGE: 41 to 48 bits of header, four, and those of its elements, each at most its index and the most of its argument's kind

unfoldable pub row_largest : Direction → List Element → ℕ
row_largest d [] = 0
row_largest d (e ∷ es) = index_width d + largest_of (kind_of d e.number) + row_largest d es

row_largest_is : (d : Direction) (es : List Element) (t : List ℕ) → row_fits d es t ≡ true → length (row_bits d es t) ≤ row_largest d es
unfolding row_fits row_bits row_largest
row_largest_is d [] t h = omega arith
row_largest_is d (e ∷ es) t h =
    let c : ℕ = e.characters in
    let a = element_largest d e (take c t) (both_left (element_fits d e (take c t)) (row_fits d es (drop c t)) h) in
    let b = row_largest_is d es (drop c t) (both_right (element_fits d e (take c t)) (row_fits d es (drop c t)) h) in
    let n = length-append (element_bits d e (take c t)) (row_bits d es (drop c t)) in
    omega arith

module _ (d : Direction) (m : Message) (t : List ℕ) (h : message_fits d m t ≡ true) where
  pub message_largest : length (message_bits d m t) ≤ 52 + row_largest d (take m.count m.places)
  message_largest = omega (arith, length_message d m t, header_most m, row_largest_is d (take m.count m.places) t (fits_of d m t h).row)

  -- five elements of any kind
  pub message_bounded : length (message_bits d m t) ≤ 9097
  message_bounded =
      let f = fits_of d m t h in
      let n = length-take m.count m.places in
      let five = f.five in
      omega (arith, length_message d m t, header_most m, row_most d (take m.count m.places) t f.row)

  -- so no message of its type passes the card's limit: the test for it stays in the definition, and is never met
  pub never_too_long : message_carried d m t ≡ true
  never_too_long = let n = message_bounded in rw (h, le-leb (length (message_bits d m t)) bits_most (omega arith))

-- ---- these bounds are met: n times the largest element of a number i

unfoldable pub times : ℕ → List ℕ → List ℕ
times zero t = []
times (suc n) t = t ++ times n t

module _ (d : Direction) (e : Element) (t : List ℕ) (h : element_fits d e t ≡ true) where
  its_characters : length t ≡ e.characters
  unfolding element_fits
  its_characters = sym (eqb-true e.characters (length t) (both_right (whole_fits 0 (last_of d) e.number)
      (eqb e.characters (length t)) (both_left
      (whole_fits 0 (last_of d) e.number && eqb e.characters (length t))
      (argument_fits (kind_of d e.number) e t) h)))

  times_fit : (n : ℕ) → row_fits d (replicate n e) (times n t) ≡ true
  unfolding row_fits times
  times_fit zero = refl
  times_fit (suc n) = rw
      (take_at t (times n t) e.characters its_characters, drop_at t (times n t) e.characters its_characters, h)
      (times_fit n)

  times_long : (n : ℕ) → length (row_bits d (replicate n e) (times n t)) ≡ n * length (element_bits d e t)
  unfolding row_bits times
  times_long zero = omega arith
  times_long (suc n) =
      let k = times_long n in
      let a = length-append (element_bits d e t) (row_bits d (replicate n e) (times n t)) in
      rw (
        take_at t (times n t) e.characters its_characters,
        drop_at t (times n t) e.characters its_characters,
        a,
        k,
        suc-mul,
      ) (add_comm (length (element_bits d e t)) (n * length (element_bits d e t)))

module _ (d : Direction) (i n : ℕ) (x : Header) (hx : header_fits x ≡ true) (least : 1 ≤ n) (up : n ≤ 5) (hi : i ≤ last_of d) (carried : kind_of d i ≡ kind.NotCarried → ⊥) where
  abbrev one : Element
  one = largest (kind_of d i) i

  abbrev pub fullest : Message
  fullest = record { header = x; count = n; places = replicate n one ++ replicate (5 - n) (bare 0) }

  abbrev pub fullest_text : List ℕ
  fullest_text = times n (most (kind_of d i))

  firsts : take n (replicate n one ++ replicate (5 - n) (bare 0)) ≡ replicate n one
  firsts = take_at (replicate n one) (replicate (5 - n) (bare 0)) n (length-replicate n one)

  pub fullest_fits : message_fits d fullest fullest_text ≡ true
  unfolding message_fits
  fullest_fits =
      let a = length-append (replicate n one) (replicate (5 - n) (bare 0)) in
      let b = length-replicate n one in
      let c = length-replicate (5 - n) (bare 0) in
      rw (
        hx,
        le-leb 1 n least,
        le-leb n 5 up,
        eq-eqb (length (replicate n one ++ replicate (5 - n) (bare 0))) 5
            (omega arith),
        firsts,
        drop_at (replicate n one) (replicate (5 - n) (bare 0)) n b,
        times_fit d one
            (most (kind_of d i)) (largest_fits d i hi carried) n,
        places_empty (5 - n),
      )

  pub fullest_reached : length (message_bits d fullest fullest_text) ≡ length (header_bits x) + 4 + n * (index_width d + largest_of (kind_of d i))
  fullest_reached =
      length_message d fullest fullest_text ∙ rw
      (firsts, times_long d one (most (kind_of d i)) (largest_fits d i hi carried) n, largest_reached d i)
