-- The ways out of `read_laid`, as the code has them.
-- Assumes nothing.
use mathlib.Core.Path.{◌≡◌, refl, sym, ap, ◌∙◌}
use mathlib.Core.Bool.{Bool, true, false, cond}
use mathlib.Core.List.{List}
use Prim.Native.Nat.{ℕ, ◌+◌, ◌*◌, ◌≤◌, ◌<◌, min}
use native.Mathlib.Omega.{arith}
use lib.Dec.{leb}
use lib.ListN.{length}
use borrow.Author.Tests.{le-leb, lt-leb, le-ltb}
use Rattle.bits.specs.Bits.{bits_to}
use Rattle.bits.proofs.Bytes.{bits_to_is}
use Rattle.bits.proofs.Inside.{same_leb}
use Rattle.fields.specs.Fields.{Reading, onto, refused_at, then}
use Rattle.fields.specs.declared.Fault.TheVariants as fault
use Rattle.fields.specs.Refusals.{packed}
use Rattle.fields.specs.declared.Refusal.{Refusal}
use Rattle.kinds.specs.declared.Direction.{Direction}
use Rattle.inner.specs.Headers.{header_at}
use Rattle.elements.specs.declared.values.Element.{Element}
use Rattle.inner.specs.declared.values.Header.{Header}
use Rattle.inner.specs.declared.values.Message.{Message}
use Rattle.inner.specs.Places.{laid, row_at, text_at}
use Rattle.inner.specs.Messages.{bits_most, count_at, ended_at, exactly, message_at, message_of, message_text, opened_as, open_message, refused_by, room_least}
use Rattle.inner.proofs.Counted.{body_by_count, count_place}
use Rattle.layout.specs.Calls.{told, told_as, told_of}
use Rattle.layout.specs.Rows.{ended_row, row_told_of}
use Rattle.std.specs.Prelude.{Err, Ok}

module _ (d : Direction) (s : List ℕ) (n : ℕ) (m t : List ℕ) (room : room_least ≤ length t) where
  pub read_long : bits_most < n → told 2 m t ≡ told_of m (open_message d s n t)
  unfolding open_message told_of told_as
  read_long g = rw (le-ltb (length t) room_least room, lt-leb n bits_most g)

  module _ (g : n ≤ bits_most) (w : Bool) (e : w ≡ leb (0 + n) (min n (8 * length s))) where
    lent : w ≡ leb n (8 * length s)
    lent = e ∙ same_leb (0 + n) (min n (8 * length s)) n (8 * length s)
        (λ (q : 0 + n ≤ min n (8 * length s)). omega arith) (λ (q : n ≤ 8 * length s). omega arith)

    pub read_past : w ≡ false → told 2 m t ≡ told_of m (open_message d s n t)
    unfolding open_message told_of told_as
    read_past q = rw (le-ltb (length t) room_least room, le-leb n bits_most g, ← lent, q)

    module _ (q : w ≡ true) where
      -- as it is opened
      opened_by : (f : Reading Message) → exactly d (bits_to s n) ≡ f → open_message d s n t ≡ onto (refused_by t) f
          (λ (x : Message) (next : ℕ). opened_as t x (message_text d (bits_to s n) 0 x))
      unfolding open_message
      opened_by f h = rw (le-ltb (length t) room_least room, le-leb n bits_most g, ← lent, q, h)

      refused : (r : Refusal) → exactly d (bits_to s n) ≡ Err r → told (packed r) m t ≡ told_of m (open_message d s n t)
      unfolding told_of told_as
      refused r f = rw (opened_by (Err r) f)

      module _ (f : Reading Header) (a : f ≡ header_at (bits_to s n) 0) where
        pub header_refused : (r : Refusal) → f ≡ Err r → told (packed r) m t ≡ told_of m (open_message d s n t)
        unfolding exactly message_at
        header_refused r i = refused r (rw (← a, i))

        module _ (h : Header) (p : ℕ) (i : f ≡ Ok (h, p)) (u : Reading ℕ) (b : u ≡ count_at (bits_to s n) p) where
          behind : exactly d (bits_to s n) ≡ then (then u (λ (k o : ℕ). message_of h k (laid (row_at d (bits_to s n) o k)))) (ended_at (bits_to s n))
          unfolding exactly message_at
          behind = rw (← a, i, body_by_count, ← b)

          pub count_refused : (r : Refusal) → u ≡ Err r → told (packed r) m t ≡ told_of m (open_message d s n t)
          count_refused r j = refused r (rw (behind, j))

          module _ (k o : ℕ) (j : u ≡ Ok (k, o)) where
            the_row : exactly d (bits_to s n) ≡ ended_row d (bits_to s n) h o k
            the_row = rw (behind, j)

            place : o ≡ p + 4
            place = count_place (bits_to s n) p k o u (bits_to_is s n) b j

            -- the characters of the message are those of the row
            ended_text : (x : Message) (next : ℕ) → x.count ≡ k → (z : Bool)
                → onto (refused_by t) (cond {A = Reading Message} z (refused_at next fault.Tail) (Ok (x, next)))
                (λ (y : Message) (last : ℕ). opened_as t y (message_text d (bits_to s n) 0 y))
                ≡ onto (refused_by t) (cond {A = Reading Message} z (refused_at next fault.Tail) (Ok (x, next)))
                (λ (y : Message) (last : ℕ). opened_as t y (text_at d (bits_to s n) o k))
            unfolding message_text
            ended_text x next c true = refl
            ended_text x next c false = rw (← a, i, place, c)

            its_text : (r : Reading (List Element))
                → onto (refused_by t) (then (message_of h k (laid r)) (ended_at (bits_to s n)))
                (λ (y : Message) (last : ℕ). opened_as t y (message_text d (bits_to s n) 0 y))
                ≡ onto (refused_by t) (then (message_of h k (laid r)) (ended_at (bits_to s n)))
                (λ (y : Message) (last : ℕ). opened_as t y (text_at d (bits_to s n) o k))
            its_text (Err r) = refl
            its_text (Ok (es, next)) = ended_text _ next refl (leb (next + 1) (length (bits_to s n)))

            pub row_told : (c : ℕ) (y v : List ℕ) → told c y v ≡ row_told_of d (bits_to s n) h o k m t
                → told c y v ≡ told_of m (open_message d s n t)
            unfolding row_told_of
            row_told c y v z = z ∙ ap (told_of m) (sym (opened_by _ the_row ∙ its_text (row_at d (bits_to s n) o k)))
