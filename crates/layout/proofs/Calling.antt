-- The ways out of the calls on bytes, as the code has them; and what reading leaves is loaded as the message that was read.
-- Assumes nothing.
use mathlib.Core.Path.{◌≡◌, refl, sym, ap, ◌∙◌}
use mathlib.Core.Bool.{Bool, true, false, cond, ◌&&◌}
use mathlib.Core.List.{List}
use Prim.Native.Nat.{ℕ, ◌+◌, ◌*◌, ◌≤◌, ◌<◌}
use native.Mathlib.Omega.{arith}
use borrow.Author.Tests.{eq-eqb, ne_eqb, lt-ltb, le-ltb, leb-true}
use lib.Dec.{leb, ltb}
use lib.ListN.{length}
use Rattle.words.proofs.Laws.{both_right}
use Rattle.elements.proofs.Steps.{never}
use Rattle.bits.specs.Bits.{bits_to}
use Rattle.bits.specs.Put.{put_bits}
use Rattle.bits.proofs.Numbers.{Bits}
use Rattle.bits.proofs.Bytes.{bits_to_is}
use Rattle.kinds.specs.declared.Direction.{Direction}
use Rattle.inner.specs.Messages.{message_fits, message_bits, bits_most, room_least, padded, open_message, done, Done, write_message, message_carried}
use Rattle.inner.specs.declared.values.Message.{Message}
use Rattle.inner.proofs.MessageLaws.{message_stands}
use Rattle.inner.proofs.Theorems.{opened_is}
use Rattle.layout.specs.Layout.{message_of, message_stands as stands, load_at}
use Rattle.layout.specs.Calls.{told, told_of, way_of, read_by, read_call, sent, sent_as, sent_of, write_by, write_loaded, write_call}
use Rattle.layout.proofs.Typing.{Storable, storable}
use Rattle.std.specs.Prelude.{Err, None, Ok, Option, Result, Some}
use Rattle.words.specs.declared.Unwritten.{Unwritten}
use Rattle.words.specs.declared.Unwritten.TheVariants.{Room}
use Rattle.words.specs.declared.Unwritten.TheVariants.{Shape}

-- a message that was read is stored
pub opened_storable : (d : Direction) (s : List ℕ) (n : ℕ) (t : List ℕ) (m : Message) (c : ℕ) → (open_message d s n t).answer ≡ Ok (m, c) → Storable m
opened_storable d s n t m c h =
    let o = opened_is d s n t c m h in
    storable d m _ (message_stands d (bits_to s n) 0 o.next m (bits_to_is s n) o.read.there).fits

-- ---- the ways out of `read_call`

module _ (d : ℕ) (s : List ℕ) (n : ℕ) (m t : List ℕ) where
  pub read_room : length t < room_least → told 1 m t ≡ read_call d s n m t
  unfolding read_call
  read_room h = rw (lt-ltb (length t) room_least h)

  pub read_size : room_least ≤ length t → (length m ≡ 132 → ⊥) → told 2 m t ≡ read_call d s n m t
  unfolding read_call
  read_size h g = rw (le-ltb (length t) room_least h, ne_eqb (length m) 132 g)

  module _ (h : room_least ≤ length t) (sized : length m ≡ 132) (w : Option Direction) (p : w ≡ way_of d) where
    pub read_no_way : w ≡ None → told 2 m t ≡ read_call d s n m t
    unfolding read_call read_by
    read_no_way q = rw (le-ltb (length t) room_least h, eq-eqb (length m) 132 sized, ← p, q)

    pub read_way : (x : Direction) → w ≡ Some x → (r : ℕ) (z u : List ℕ) → told r z u ≡ told_of m (open_message x s n t)
        → told r z u ≡ read_call d s n m t
    unfolding read_call read_by
    read_way x q r z u e = rw (le-ltb (length t) room_least h, eq-eqb (length m) 132 sized, ← p, q) e

-- ---- the ways out of `write_call`

pub written_few : (d : Direction) (m : Message) (t o z : List ℕ) (a : Result ℕ Unwritten) (n : ℕ)
    → done a z ≡ write_message d m t o → a ≡ Ok n → n ≤ bits_most
unfolding write_message
written_few d m t o z a n e h = go (ltb (length o) room_least) (message_carried d m t) refl e
  where
    go : (x y : Bool) → message_carried d m t ≡ y
        → done a z ≡ cond x (done (Err Room) o) (cond y
        (done (Ok (length (message_bits d m t))) (put_bits o 0 (padded (message_bits d m t))))
        (done (Err Shape) o))
        → n ≤ bits_most
    go true y p q = let g : a ≡ Err Room = ap (λ (w : Done). w.answer) q in never (cc)
    go false true p q =
        let g : a ≡ Ok (length (message_bits d m t)) = ap (λ (w : Done). w.answer) q in
        let f : n ≡ length (message_bits d m t) = cc in
        let k = leb-true (length (message_bits d m t)) bits_most
        (both_right (message_fits d m t) (leb (length (message_bits d m t)) bits_most) p) in
        omega arith
    go false false p q = let g : a ≡ Err Shape = ap (λ (w : Done). w.answer) q in never (cc)

module _ (d : ℕ) (b t o : List ℕ) where
  pub write_room : length o < room_least → sent 1 o ≡ write_call d b t o
  unfolding write_call
  write_room h = rw (lt-ltb (length o) room_least h)

  module _ (h : room_least ≤ length o) (u : Bool) (e : u ≡ stands b) where
    pub write_unknown : u ≡ false → sent 2 o ≡ write_call d b t o
    unfolding write_call load_at write_loaded
    write_unknown k = rw (le-ltb (length o) room_least h, ← e, k)

    module _ (k : u ≡ true) (w : Option Direction) (p : w ≡ way_of d) where
      pub write_no_way : w ≡ None → sent 2 o ≡ write_call d b t o
      unfolding write_call load_at write_loaded write_by
      write_no_way q = rw (le-ltb (length o) room_least h, ← e, k, ← p, q)

      pub write_is : (x : Direction) → w ≡ Some x → (a v : Result ℕ Unwritten) (z : List ℕ)
          → done a z ≡ write_message x (message_of b) t o → a ≡ v → sent_as v z ≡ write_call d b t o
      unfolding write_call load_at write_loaded write_by sent_of
      write_is x q a v z f g = rw (le-ltb (length o) room_least h, ← e, k, ← p, q, ← f, g)
