-- A record that was stored is loaded again.
-- Assumes nothing.
use mathlib.Core.Path.{◌≡◌, refl, ap, sym, subst, ◌∙◌}
use mathlib.Core.Bool.{Bool, true, false, ◌&&◌}
use mathlib.Core.List.{List, [], ◌++◌, append_assoc, append-nil}
use Prim.Native.Nat.{ℕ, zero, suc, ◌+◌, ◌*◌, ◌^◌, ◌≤◌, ◌<◌}
use native.Mathlib.Omega.{arith}
use native.Mathlib.Nat.{zero-add}
use borrow.Author.Tests.{eq-eqb, le-leb, lt-ltb}
use lib.Dec.{eqb, leb}
use lib.Seq.{drop_at, take_at}
use lib.ListN.{length, take, drop, length-append}
use Rattle.bits.specs.Bits.{bits_n, bits_of, bits_to, bytes_of, run}
use Rattle.bits.specs.Put.{Left, left, put_bits, put_number}
use Rattle.bits.proofs.Numbers.{Bits, length_bits_n, bits_bits_n}
use Rattle.bits.proofs.Bytes.{Bytes, Holds, length_bits_is, length_to, run_to, bits_append, bits_bits, bits_bytes, bytes_bits}
use Rattle.bits.proofs.Reading.{number_read}
use Rattle.bits.proofs.Putting.{put_if_yes, put_fits, put_append, length_put}
use Rattle.bits.proofs.Whole.{put_whole, put_front_bytes, bytes_of_bits, bits_of_append, length_bytes}
use Rattle.bits.specs.Read.{read_bits}
use Rattle.control.specs.Control.{number}
use Rattle.editions.specs.declared.Edition.{Edition}
use Rattle.editions.specs.declared.Edition.TheVariants.{Plain, Protected}
use Rattle.control.specs.declared.Side.{Side}
use Rattle.control.specs.declared.Side.TheVariants.{Air, Ground}
use Rattle.control.specs.declared.State.{State}
use Rattle.control.specs.declared.State.TheVariants.{Idle, StartReq, StartInd, Dialogue, End, Forward}
use Rattle.machine.specs.declared.record.Record.{Record}
use Rattle.stored.specs.Stored.{job_byte, job_bytes, number_bytes, record_bytes, job_bit, job_bits, number_bit, number_bits, record_bits, side_code, end_code, edition_in, side_of, state_of, flag, head_bytes, stored_bytes, head_fits, head_of, with_numbers, load_at, kept, store_at, is_stored}
use Rattle.std.specs.Prelude.{Option, Some}

-- ---- the codes

pub state_low : (s : State) → number s < 6
state_low Idle = omega arith
state_low StartReq = omega arith
state_low StartInd = omega arith
state_low Dialogue = omega arith
state_low End = omega arith
state_low Forward = omega arith

pub code_low : (s : Side) → side_code s < 3
code_low Air = omega arith
code_low Ground = omega arith

side_low : (s : Side) (e : Edition) → end_code s e < 5
side_low Air Plain = omega arith
side_low Air Protected = omega arith
side_low Ground Plain = omega arith
side_low Ground Protected = omega arith

flag_low : (b : Bool) → flag b < 2
flag_low true = omega arith
flag_low false = omega arith

-- a record whose codes are of their types
pub record Coded (r : Record) : Type 0 where
  pub request : r.request < 2
  pub policy : r.policy < 2
  pub least : 1 ≤ r.version
  pub most : r.version < 256
  pub highest : r.highest < 2 ^ 64

-- the codes of the head are bytes
pub bytes_head : (sd : Side) (r : Record) → r.request < 2 → r.policy < 2 → r.version < 256 → Bytes (head_bytes sd r)
unfolding head_bytes
bytes_head sd r q p v zero = omega (arith, side_low sd r.edition)
bytes_head sd r q p v (suc zero) = omega (arith, state_low r.control.state)
bytes_head sd r q p v (suc (suc zero)) = omega (arith, flag_low r.control.dsc)
bytes_head sd r q p v (suc (suc (suc zero))) = omega (arith, flag_low r.timer)
bytes_head sd r q p v (suc (suc (suc (suc zero)))) = omega (arith, flag_low r.active)
bytes_head sd r q p v (suc (suc (suc (suc (suc zero))))) = omega (arith, q)
bytes_head sd r q p v (suc (suc (suc (suc (suc (suc zero)))))) = omega (arith, p)
bytes_head sd r q p v (suc (suc (suc (suc (suc (suc (suc zero))))))) = omega (arith, flag_low r.forwards)
bytes_head sd r q p v (suc (suc (suc (suc (suc (suc (suc (suc zero)))))))) = v
bytes_head sd r q p v (suc (suc (suc (suc (suc (suc (suc (suc (suc k))))))))) = omega arith

pub length_head : (sd : Side) (r : Record) → length (head_bytes sd r) ≡ job_byte
unfolding head_bytes
length_head sd r = refl

-- the head put at the front is its bytes
pub head_put : (b : List ℕ) (sd : Side) (r : Record) → Bytes b → length b ≡ record_bytes → r.request < 2 → r.policy < 2
    → r.version < 256 → head_bytes sd r ++ drop job_byte b ≡ put_bits b 0 (bits_of (head_bytes sd r))
head_put b sd r bs n q p v =
    let l : length (head_bytes sd r) ≡ job_byte = length_head sd r in
    let w : length (bits_of (head_bytes sd r)) ≡ job_bit = length_bits_is (head_bytes sd r) ∙ omega arith in
    let y : bytes_of job_byte (bits_of (head_bytes sd r)) ≡ head_bytes sd r = subst (λ (k : ℕ). bytes_of k
    (bits_of (head_bytes sd r)) ≡ head_bytes sd r) l (bytes_bits (head_bytes sd r) (bytes_head sd r q p v)) in
    sym (put_front_bytes b (bits_of (head_bytes sd r)) job_byte bs (bits_bits (head_bytes sd r)) (omega arith) w ∙ ap
    (λ (x : List ℕ). x ++ drop job_byte b) y)

-- ---- the way out of `store` that stores

-- the bits of the highest job and of the dialogue number
abbrev pub word_bits : ℕ → List ℕ
word_bits v = bits_n 64 v

word_put : (y z : List ℕ) (q : Option ℕ) (at v : ℕ) → length y ≡ record_bytes → at + 64 ≤ record_bits → v < 2 ^ 64
    → left q z ≡ put_number y record_bits at 64 v → z ≡ put_bits y at (word_bits v)
unfolding put_number
word_put y z q at v n m h f =
    let k : length (bits_to y record_bits) ≡ record_bits = length_to y record_bits ∙ omega arith in
    let w : length (bits_n 64 v) ≡ 64 = length_bits_n 64 v in
    ap (λ (o : Left). o.bytes) (f ∙ put_if_yes _ y record_bits at (bits_n 64 v) (lt-ltb v (2 ^ 64) h) ∙ put_fits y
    record_bits at (bits_n 64 v) (omega arith))

module _ (b y z u : List ℕ) (q s : Option ℕ) (sd : Side) (r : Record) (n : ℕ) (sized : length b ≡ record_bytes) (bs : Bytes b) (hc : Coded r) (hn : n < 2 ^ 64) where
  -- three writes are one
  joined : length (bits_of (head_bytes sd r)) ≡ job_bit → y ≡ put_bits b 0 (bits_of (head_bytes sd r))
      → z ≡ put_bits y job_bit (word_bits r.highest) → u ≡ put_bits z number_bit (word_bits n)
      → u ≡ put_bits b 0 (bits_of (head_bytes sd r) ++ (word_bits r.highest ++ word_bits n))
  joined l f g h =
      let i : put_bits b 0 (bits_of (head_bytes sd r) ++ (word_bits r.highest ++ word_bits n)) ≡ put_bits y job_bit
      (word_bits r.highest ++ word_bits n) = put_append (bits_of (head_bytes sd r))
      (word_bits r.highest ++ word_bits n) b 0 ∙ rw (zero-add, l, f) in
      let j : put_bits y job_bit (word_bits r.highest ++ word_bits n) ≡ put_bits
      (put_bits y job_bit (word_bits r.highest)) number_bit (word_bits n) = put_append (word_bits r.highest)
      (word_bits n) y job_bit ∙ rw (length_bits_n 64 r.highest) in
      h ∙ ap (λ (x : List ℕ). put_bits x number_bit (word_bits n)) g ∙ sym (i ∙ j)

  pub store_is : y ≡ put_bits b 0 (bits_of (head_bytes sd r))
      → left q z ≡ put_number y record_bits job_bit job_bits r.highest
      → left s u ≡ put_number z record_bits number_bit number_bits n → kept true u ≡ store_at b sd r n
  unfolding store_at stored_bytes
  store_is f g h =
      let m : length (head_bytes sd r) ≡ job_byte = length_head sd r in
      let l : length (bits_of (head_bytes sd r)) ≡ job_bit = length_bits_is (head_bytes sd r) ∙ omega arith in
      let n1 : length y ≡ record_bytes = ap length f ∙ length_put (bits_of (head_bytes sd r)) b 0 ∙ sized in
      let x2 = word_put y z q job_bit r.highest n1 (omega arith) hc.highest g in
      let n2 : length z ≡ record_bytes = ap length x2 ∙ length_put (word_bits r.highest) y job_bit ∙ n1 in
      let x3 = word_put z u s number_bit n n2 (omega arith) hn h in
      let t : Bits (bits_of (head_bytes sd r) ++ (word_bits r.highest ++ word_bits n)) = bits_append
      (bits_of (head_bytes sd r)) (word_bits r.highest ++ word_bits n) (bits_bits (head_bytes sd r))
      (bits_append (word_bits r.highest) (word_bits n) (bits_bits_n 64 r.highest) (bits_bits_n 64 n)) in
      let w : length (bits_of (head_bytes sd r) ++ (word_bits r.highest ++ word_bits n)) ≡ 8 * record_bytes = rw
      (length-append, length-append, l, length_bits_n, length_bits_n) in
      let i : bytes_of record_bytes (bits_of (head_bytes sd r) ++ (word_bits r.highest ++ word_bits n)) ≡ head_bytes sd r ++
      bytes_of (job_bytes + number_bytes) (word_bits r.highest ++ word_bits n) = subst (λ (k : ℕ). bytes_of
      (k + (job_bytes + number_bytes)) (bits_of (head_bytes sd r) ++ (word_bits r.highest ++ word_bits n)) ≡
      head_bytes sd r ++ bytes_of (job_bytes + number_bytes) (word_bits r.highest ++ word_bits n)) m (bytes_of_bits
      (head_bytes sd r) (word_bits r.highest ++ word_bits n) (job_bytes + number_bytes)
      (bytes_head sd r hc.request hc.policy hc.most)) in
      rw (
        eq-eqb (length b) record_bytes sized,
        lt-ltb r.request 2 hc.request,
        lt-ltb r.policy 2 hc.policy,
        le-leb 1 r.version hc.least,
        lt-ltb r.version 256 hc.most,
      )
      (ap (kept true) (joined l f x2 x3 ∙ put_whole b _ record_bytes bs t sized w ∙ i))

-- ---- what was stored is loaded

run_is : (s : List ℕ) (at n : ℕ) → run s at n ≡ take n (drop at (bits_of s))
unfolding run
run_is s at n = refl

side_back : (s : Side) (e : Edition) → side_of (end_code s e) ≡ s
side_back Air Plain = refl
side_back Air Protected = refl
side_back Ground Plain = refl
side_back Ground Protected = refl

edition_back : (s : Side) (e : Edition) → edition_in (end_code s e) ≡ e
edition_back Air Plain = refl
edition_back Air Protected = refl
edition_back Ground Plain = refl
edition_back Ground Protected = refl

state_back : (s : State) → state_of (number s) ≡ s
state_back Idle = refl
state_back StartReq = refl
state_back StartInd = refl
state_back Dialogue = refl
state_back End = refl
state_back Forward = refl

flag_back : (b : Bool) → eqb (flag b) 1 ≡ b
flag_back true = refl
flag_back false = refl

side_fits : (s : Side) (e : Edition) → leb 1 (end_code s e) && leb (end_code s e) 4 ≡ true
side_fits Air Plain = refl
side_fits Air Protected = refl
side_fits Ground Plain = refl
side_fits Ground Protected = refl

module _ (sd : Side) (r : Record) (n : ℕ) (hc : Coded r) (hn : n < 2 ^ 64) where
  pub length_stored : length (stored_bytes sd r n) ≡ record_bytes
  unfolding stored_bytes
  length_stored = length-append (head_bytes sd r) _ ∙ rw (length_head sd r, length_bytes)

  head_stored : head_of (stored_bytes sd r n) ≡ true
  unfolding stored_bytes head_bytes head_fits
  head_stored =
      rw (
        side_fits sd r.edition,
        lt-ltb (number r.control.state) 6 (state_low r.control.state),
        lt-ltb (flag r.control.dsc) 2 (flag_low r.control.dsc),
        lt-ltb (flag r.timer) 2 (flag_low r.timer),
        lt-ltb (flag r.active) 2 (flag_low r.active),
        lt-ltb r.request 2 hc.request,
        lt-ltb r.policy 2 hc.policy,
        lt-ltb (flag r.forwards) 2 (flag_low r.forwards),
        le-leb 1 r.version hc.least,
        lt-ltb r.version 256 hc.most,
      )

  -- the bits of the head, the job and the number, one behind the other
  stored_bits : bits_of (stored_bytes sd r n) ≡ bits_of (head_bytes sd r) ++ (word_bits r.highest ++ word_bits n)
  unfolding stored_bytes
  stored_bits =
      let t : Bits (word_bits r.highest ++ word_bits n) = bits_append (word_bits r.highest) (word_bits n)
      (bits_bits_n 64 r.highest) (bits_bits_n 64 n) in
      let w : length (word_bits r.highest ++ word_bits n) ≡ 8 * (job_bytes + number_bytes) = rw
      (length-append, length_bits_n, length_bits_n) in
      bits_of_append (head_bytes sd r) _ ∙ ap (λ (x : List ℕ). bits_of (head_bytes sd r) ++ x)
      (bits_bytes (job_bytes + number_bytes) (word_bits r.highest ++ word_bits n) t w)

  length_head_bits : length (bits_of (head_bytes sd r)) ≡ job_bit
  length_head_bits = length_bits_is (head_bytes sd r) ∙ rw (length_head sd r)

  -- v stands behind x and in front of y
  word_stands : (x y : List ℕ) (at v : ℕ) → bits_of (stored_bytes sd r n) ≡ x ++ (word_bits v ++ y) → length x ≡ at
      → at + 64 ≤ record_bits → Holds (bits_to (stored_bytes sd r n) record_bits) at (word_bits v)
  word_stands x y at v e h m =
      let w : length (word_bits v) ≡ 64 = length_bits_n 64 v in
      rw w (run_to _ record_bits at 64 (omega arith) ∙ run_is _ at 64 ∙ rw (e, drop_at x (word_bits v ++ y) at h)
      (take_at (word_bits v) y 64 w))

  word_read : (x y : List ℕ) (at v : ℕ) → bits_of (stored_bytes sd r n) ≡ x ++ (word_bits v ++ y) → length x ≡ at
      → at + 64 ≤ record_bits → v < 2 ^ 64 → read_bits (bits_to (stored_bytes sd r n) record_bits) at 64 ≡ Some (v, at + 64)
  word_read x y at v e h m low =
      let k : length (bits_to (stored_bytes sd r n) record_bits) ≡ record_bits = length_to (stored_bytes sd r n) record_bits ∙
      omega (arith, length_stored) in
      number_read _ at 64 v (omega arith) low (omega arith) (word_stands x y at v e h m)

  job_read : read_bits (bits_to (stored_bytes sd r n) record_bits) job_bit job_bits ≡ Some (r.highest, number_bit)
  job_read = word_read (bits_of (head_bytes sd r)) (word_bits n) job_bit r.highest stored_bits length_head_bits (omega arith) hc.highest

  number_back : read_bits (bits_to (stored_bytes sd r n) record_bits) number_bit number_bits ≡ Some (n, record_bits)
  number_back =
      let e : bits_of (head_bytes sd r) ++ (word_bits r.highest ++ word_bits n) ≡
      (bits_of (head_bytes sd r) ++ word_bits r.highest) ++ (word_bits n ++ []) = rw (append-nil, append_assoc) in
      let l : length (bits_of (head_bytes sd r) ++ word_bits r.highest) ≡ number_bit = rw (length-append, length_head_bits, length_bits_n) in
      word_read (bits_of (head_bytes sd r) ++ word_bits r.highest) [] number_bit n (stored_bits ∙ e) l (omega arith) hn

  record_back : with_numbers (stored_bytes sd r n) (Some (r.highest, number_bit)) (Some (n, record_bits)) ≡ is_stored sd r n
  unfolding stored_bytes head_bytes with_numbers
  record_back = rw (
    side_back sd r.edition,
    edition_back sd r.edition,
    state_back r.control.state,
    flag_back
        r.control.dsc,
    flag_back r.timer,
    flag_back r.active,
    flag_back r.forwards,
  )

  pub loaded_stored : load_at (stored_bytes sd r n) ≡ is_stored sd r n
  unfolding load_at
  loaded_stored = rw (length_stored, head_stored, job_read, number_back) record_back
