-- What the two calls on bytes are to each other: a message that was read is written as the same bits, and one that was written is read back into the
-- same bytes; a refused call leaves every byte.
-- Assumes nothing.
use mathlib.Core.Path.{◌≡◌, refl, sym, ap, ◌∙◌}
use mathlib.Core.Bool.{Bool, true, false, cond}
use mathlib.Core.List.{List, ◌++◌}
use Prim.Native.Nat.{ℕ, ◌*◌, ◌≤◌, ◌<◌}
use native.Mathlib.Omega.{arith}
use borrow.Author.Tests.{eq-eqb, le-ltb}
use lib.Dec.{ltb, eqb}
use lib.ListN.{length, take, drop}
use Rattle.bits.specs.Bits.{bits_to}
use Rattle.bits.specs.Put.{put_bits}
use Rattle.bits.proofs.Bytes.{Bytes}
use Rattle.fields.proofs.Numbering.{packed_refuses}
use Rattle.kinds.specs.declared.Direction.{Direction}
use Rattle.inner.specs.Messages.{room_least, padded, open_message, write_message}
use Rattle.inner.specs.declared.values.Message.{Message}
use Rattle.inner.specs.declared.values.Unopened.{Unopened}
use Rattle.inner.specs.declared.values.Unopened.TheVariants as unopened
use Rattle.inner.proofs.Theorems.{written_read, read_written, refused_leaves, unread_leaves}
use Rattle.layout.specs.Layout.{message_bytes, load_at}
use Rattle.layout.specs.Calls.{Told, told, told_as, told_of, way_of, read_by, read_call, Sent, sent, sent_as, sent_of, write_by, write_loaded, write_call}
use Rattle.layout.proofs.RoundTrip.{loaded_bytes, loaded}
use Rattle.layout.proofs.Calling.{opened_storable}
use Rattle.std.specs.Prelude.{Err, None, Ok, Option, Result, Some}
use Rattle.words.specs.declared.Unwritten.{Unwritten}
use Rattle.words.specs.declared.Unwritten.TheVariants.{Room}
use Rattle.words.specs.declared.Unwritten.TheVariants.{Shape}

-- ---- what a count says of a call that read

record Took (d : ℕ) (s : List ℕ) (n : ℕ) (m t : List ℕ) (c : ℕ) : Type 0 where
  direction : Direction
  named : way_of d ≡ Some direction
  value : Message
  answer : (open_message direction s n t).answer ≡ Ok (value, c)
  message : (read_call d s n m t).message ≡ message_bytes value
  text : (read_call d s n m t).text ≡ (open_message direction s n t).text

module _ (d : ℕ) (s : List ℕ) (n : ℕ) (m t : List ℕ) (c : ℕ) where
  took_as : (x : Direction) → way_of d ≡ Some x → (a : Result (Message × ℕ) Unopened) → (open_message x s n t).answer ≡ a
      → read_call d s n m t ≡ told_as m (open_message x s n t).text a
      → (read_call d s n m t).number ≡ 256 * c → Took d s n m t c
  unfolding told_as
  took_as x p (Ok (v, k)) f e h =
      let g = ap (λ (o : Told). o.number) e in
      let j : k ≡ c = omega arith in
      record { direction = x; named = p; value = v; answer = rw (← j) f; message = ap (λ (o : Told). o.message) e; text = ap (λ (o : Told). o.text) e }
  took_as x p (Err unopened.Room) f e h = let g = ap (λ (o : Told). o.number) e in absurd (omega arith)
  took_as x p (Err unopened.Shape) f e h = let g = ap (λ (o : Told). o.number) e in absurd (omega arith)
  took_as x p (Err (unopened.Refused r)) f e h = let g = ap (λ (o : Told). o.number) e in packed_refuses r c (sym g ∙ h)

  took_by : (w : Option Direction) → way_of d ≡ w → read_call d s n m t ≡ read_by s n m t w → (read_call d s n m t).number ≡ 256 * c → Took d s n m t c
  unfolding read_by told_of
  took_by (Some x) p e h = took_as x p (open_message x s n t).answer refl e h
  took_by None p e h = let g = ap (λ (o : Told). o.number) e in absurd (omega arith)

  took : (read_call d s n m t).number ≡ 256 * c → Took d s n m t c
  unfolding read_call
  took h = go (ltb (length t) room_least) (eqb (length m) 132) refl
    where
      go : (a b : Bool) → read_call d s n m t ≡ cond a (told 1 m t) (cond b (read_by s n m t (way_of d)) (told 2 m t)) → Took d s n m t c
      go true b e = let g = ap (λ (o : Told). o.number) e in absurd (omega arith)
      go false true e = took_by (way_of d) refl e h
      go false false e = let g = ap (λ (o : Told). o.number) e in absurd (omega arith)

-- ---- READ THEN WRITE: the message that reading left, with its characters, is written as the same bits

module _ (d : ℕ) (s : List ℕ) (n : ℕ) (m t : List ℕ) (c : ℕ) (h : (read_call d s n m t).number ≡ 256 * c) where
  read_message : load_at (read_call d s n m t).message ≡ Some (took d s n m t c h).value
  read_message =
      let k = took d s n m t c h in
      let y = opened_storable k.direction s n t k.value c k.answer in
      ap load_at k.message ∙ loaded_bytes k.value y.typed y.fit

  pub call_read_written : (out : List ℕ) → room_least ≤ length out
      → write_call d (read_call d s n m t).message (take c (read_call d s n m t).text) out ≡ sent (16777216 * n) (put_bits out 0 (padded (bits_to s n)))
  unfolding write_call write_loaded write_by sent_of sent_as
  call_read_written out r =
      let k = took d s n m t c h in
      let w = read_written k.direction s n t c k.value k.answer out r in
      rw (le-ltb (length out) room_least r, read_message, k.named, k.text, w)

-- ---- WRITE THEN READ: the message that was written is read back into the same bytes, and its characters into the text; whatever follows them stays

record Gave (d : ℕ) (b t out : List ℕ) (n : ℕ) : Type 0 where
  direction : Direction
  named : way_of d ≡ Some direction
  value : Message
  known : load_at b ≡ Some value
  answer : (write_message direction value t out).answer ≡ Ok n
  bytes : (write_call d b t out).bytes ≡ (write_message direction value t out).bytes

module _ (d : ℕ) (b t out : List ℕ) (n : ℕ) where
  gave_as : (x : Direction) → way_of d ≡ Some x → (v : Message) → load_at b ≡ Some v → (a : Result ℕ Unwritten)
      → (write_message x v t out).answer ≡ a
      → write_call d b t out ≡ sent_as a (write_message x v t out).bytes
      → (write_call d b t out).number ≡ 16777216 * n → Gave d b t out n
  unfolding sent_as
  gave_as x p v l (Ok k) f e h =
      let g = ap (λ (o : Sent). o.number) e in
      let j : k ≡ n = omega arith in
      record { direction = x; named = p; value = v; known = l; answer = rw (← j) f; bytes = ap (λ (o : Sent). o.bytes) e }
  gave_as x p v l (Err Room) f e h = let g = ap (λ (o : Sent). o.number) e in absurd (omega arith)
  gave_as x p v l (Err Shape) f e h = let g = ap (λ (o : Sent). o.number) e in absurd (omega arith)

  gave_by : (w : Option Direction) → way_of d ≡ w → (v : Message) → load_at b ≡ Some v
      → write_call d b t out ≡ write_by v t out w → (write_call d b t out).number ≡ 16777216 * n
      → Gave d b t out n
  unfolding write_by sent_of
  gave_by (Some x) p v l e h = gave_as x p v l (write_message x v t out).answer refl e h
  gave_by None p v l e h = let g = ap (λ (o : Sent). o.number) e in absurd (omega arith)

  gave : (write_call d b t out).number ≡ 16777216 * n → Gave d b t out n
  unfolding write_call write_loaded
  gave h = go (ltb (length out) room_least) (load_at b) refl refl
    where
      go : (a : Bool) (k : Option Message) → load_at b ≡ k
          → write_call d b t out ≡ cond a (sent 1 out) (write_loaded t out (way_of d) k)
          → Gave d b t out n
      go true k p e = let g = ap (λ (o : Sent). o.number) e in absurd (omega arith)
      go false (Some v) p e = gave_by (way_of d) refl v p e h
      go false None p e = let g = ap (λ (o : Sent). o.number) e in absurd (omega arith)

pub call_written_read : (d : ℕ) (b t out : List ℕ) (n : ℕ) → Bytes b → (write_call d b t out).number ≡ 16777216 * n
    → (m z : List ℕ) → length m ≡ 132 → room_least ≤ length z
    → read_call d (write_call d b t out).bytes n m z ≡ told (256 * length t) b (t ++ drop (length t) z)
unfolding read_call read_by told_of told_as
call_written_read d b t out n s h m z sized r =
    let k = gave d b t out n h in
    let w = written_read k.direction k.value t out z n k.answer r in
    let same = (loaded b k.value s k.known).bytes in
    rw (le-ltb (length z) room_least r, eq-eqb (length m) 132 sized, k.named, k.bytes, w, same)

-- ---- A REFUSED CALL LEAVES EVERY BYTE: what it answers is no count

told_text : (m u : List ℕ) (a : Result (Message × ℕ) Unopened) → (told_as m u a).text ≡ u
unfolding told_as
told_text m u (Ok (x, k)) = refl
told_text m u (Err r) = refl

told_message : (m u : List ℕ) (a : Result (Message × ℕ) Unopened) → ((x : Message) (k : ℕ) → a ≡ Ok (x, k) → ⊥) → (told_as m u a).message ≡ m
unfolding told_as
told_message m u (Ok (x, k)) f = absurd (f x k refl)
told_message m u (Err r) f = refl

told_count : (m u : List ℕ) (a : Result (Message × ℕ) Unopened) (x : Message) (k : ℕ) → a ≡ Ok (x, k) → (told_as m u a).number ≡ 256 * k
unfolding told_as
told_count m u a x k e = rw e

module _ (d : ℕ) (s : List ℕ) (n : ℕ) (m t : List ℕ) (h : (c : ℕ) → (read_call d s n m t).number ≡ 256 * c → ⊥) where
  stays_by : (w : Option Direction) → read_call d s n m t ≡ read_by s n m t w → ((read_call d s n m t).message ≡ m) × ((read_call d s n m t).text ≡ t)
  unfolding read_by told_of
  stays_by (Some x) e = (
    ap (λ (o : Told). o.message) e ∙ told_message m _ _ not_taken,
    ap (λ (o : Told). o.text) e ∙ told_text m _ _ ∙ unread_leaves x s n t not_taken,
  )
    where
      not_taken : (v : Message) (k : ℕ) → (open_message x s n t).answer ≡ Ok (v, k) → ⊥
      not_taken v k g = h k (ap (λ (o : Told). o.number) e ∙ told_count m _ _ v k g)
  stays_by None e = (ap (λ (o : Told). o.message) e, ap (λ (o : Told). o.text) e)

  pub call_unread : ((read_call d s n m t).message ≡ m) × ((read_call d s n m t).text ≡ t)
  unfolding read_call
  call_unread = go (ltb (length t) room_least) (eqb (length m) 132) refl
    where
      go : (a b : Bool) → read_call d s n m t ≡ cond a (told 1 m t) (cond b (read_by s n m t (way_of d)) (told 2 m t))
          → ((read_call d s n m t).message ≡ m) × ((read_call d s n m t).text ≡ t)
      go true b e = (ap (λ (o : Told). o.message) e, ap (λ (o : Told). o.text) e)
      go false true e = stays_by (way_of d) e
      go false false e = (ap (λ (o : Told). o.message) e, ap (λ (o : Told). o.text) e)

sent_bytes : (a : Result ℕ Unwritten) (z : List ℕ) → (sent_as a z).bytes ≡ z
unfolding sent_as
sent_bytes (Ok k) z = refl
sent_bytes (Err Room) z = refl
sent_bytes (Err Shape) z = refl

sent_count : (a : Result ℕ Unwritten) (z : List ℕ) (k : ℕ) → a ≡ Ok k → (sent_as a z).number ≡ 16777216 * k
unfolding sent_as
sent_count a z k e = rw e

module _ (d : ℕ) (b t out : List ℕ) (h : (n : ℕ) → (write_call d b t out).number ≡ 16777216 * n → ⊥) where
  kept_by : (w : Option Direction) (v : Message) → write_call d b t out ≡ write_by v t out w → (write_call d b t out).bytes ≡ out
  unfolding write_by sent_of
  kept_by (Some x) v e = ap (λ (o : Sent). o.bytes) e ∙ sent_bytes _ _ ∙ refused_leaves x v t out not_written
    where
      not_written : (k : ℕ) → (write_message x v t out).answer ≡ Ok k → ⊥
      not_written k g = h k (ap (λ (o : Sent). o.number) e ∙ sent_count _ _ k g)
  kept_by None v e = ap (λ (o : Sent). o.bytes) e

  pub call_unwritten : (write_call d b t out).bytes ≡ out
  unfolding write_call write_loaded
  call_unwritten = go (ltb (length out) room_least) (load_at b) refl
    where
      go : (a : Bool) (k : Option Message)
          → write_call d b t out ≡ cond a (sent 1 out) (write_loaded t out (way_of d) k)
          → (write_call d b t out).bytes ≡ out
      go true k e = ap (λ (o : Sent). o.bytes) e
      go false (Some v) e = kept_by (way_of d) v e
      go false None e = ap (λ (o : Sent). o.bytes) e
