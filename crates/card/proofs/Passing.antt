-- The ways out of `peat_forward_part` and of `peat_read_forward`, as the code has them; and that the second says what the first says of each part.
-- Assumes nothing.
use mathlib.Core.Path.{◌≡◌, refl, ap, sym, ◌∙◌}
use mathlib.Core.Bool.{Bool, true, false, not, cond}
use mathlib.Core.List.{List, [], ◌∷◌, ◌++◌}
use Prim.Native.Nat.{ℕ, zero, suc, ◌+◌, ◌-◌, ◌*◌, ◌%◌, ◌^◌, ◌≤◌, ◌<◌}
use native.Mathlib.Omega.{arith}
use native.Mathlib.Nat.{add-zero}
use borrow.Author.Tests.{lt-ltb, le-ltb, eq-eqb, ne_eqb, not-true, not-false}
use lib.Dec.{eqb, ltb}
use lib.ListN.{length, drop, get_or, set}
use lib.Pow.{mod-mod-pow}
use lib.Seq.{drop_at, drop-cons, length-sets, sets, take_at}
use Rattle.book.specs.Books.{eight_at, eights, octets}
use Rattle.book.proofs.Eights.{eight_drop, length_eights, length_octets, number_octets}
use Rattle.bits.specs.Bits.{run}
use Rattle.fields.specs.Refusals.{packed}
use Rattle.fields.specs.declared.Refusal.{Refusal}
use Rattle.apdu.specs.Sizes.{buffer_least}
use Rattle.apdu.specs.Pdus.{lent}
use Rattle.codec.specs.Codec.{whole_forward}
use Rattle.editions.specs.Editions.{type_of, is_type, edition_of}
use Rattle.editions.specs.declared.Edition.{Edition}
use Rattle.editions.specs.declared.Edition.TheVariants.{Plain, Protected}
use Rattle.apdu.specs.Writing.{done, write_out, run_fits}
use Rattle.apdu.specs.declared.Heading.{Heading}
use Rattle.apdu.specs.declared.Forward.{Forward}
use Rattle.layout.specs.Calls.{sent}
use Rattle.card.specs.Forwarding.{message_part, plain_parts, edition_in, part_in, heading_part, told, message_answer, message_out, forward_part, forward_chosen, forward_part_call, heading_numbers, heading_bytes, opened, heading_by, forward_parts, forward_opened, read_forward}
use Rattle.card.proofs.Answered.{sets_whole}
use Rattle.std.specs.Prelude.{Err, Ok, Result}
use Rattle.fields.specs.Fields.{Reading}
use Rattle.words.specs.declared.Unwritten.{Unwritten}

pub last_part : (w : ℕ) (h : Heading) → (w ≡ 0 → ⊥) → (w ≡ 1 → ⊥) → (w ≡ 2 → ⊥) → (w ≡ 3 → ⊥) → (w ≡ 4 → ⊥)
    → (w ≡ 5 → ⊥) → (w ≡ 6 → ⊥) → (w ≡ 7 → ⊥) → (w ≡ 8 → ⊥) → h.direction ≡ heading_part w h
last_part zero h a b c d e f g i j = absurd (a refl)
last_part (suc zero) h a b c d e f g i j = absurd (b refl)
last_part (suc (suc zero)) h a b c d e f g i j = absurd (c refl)
last_part (suc (suc (suc zero))) h a b c d e f g i j = absurd (d refl)
last_part (suc (suc (suc (suc zero)))) h a b c d e f g i j = absurd (e refl)
last_part (suc (suc (suc (suc (suc zero))))) h a b c d e f g i j = absurd (f refl)
last_part (suc (suc (suc (suc (suc (suc zero)))))) h a b c d e f g i j = absurd (g refl)
last_part (suc (suc (suc (suc (suc (suc (suc zero))))))) h a b c d e f g i j = absurd (i refl)
last_part (suc (suc (suc (suc (suc (suc (suc (suc zero)))))))) h a b c d e f g i j = absurd (j refl)
last_part (suc (suc (suc (suc (suc (suc (suc (suc (suc n))))))))) h a b c d e f g i j = refl

pub bits_out : (out z s : List ℕ) (which n : ℕ) (f : Forward) (w : Result ℕ Unwritten) → which ≡ message_part → n ≡ message_answer w
    → done w z ≡ write_out (run_fits s f.message.at f.message.count) out (run s f.message.at f.message.count)
    → sent n z ≡ forward_part out s which f
unfolding forward_part
bits_out out z s which n f w e q h = rw (eq-eqb which message_part e, q, ← h)

pub number_out : (out s : List ℕ) (which n m : ℕ) (f : Forward) → (which ≡ message_part → ⊥)
    → m ≡ heading_part which f.heading → n ≡ told m → sent n out ≡ forward_part out s which f
unfolding forward_part
number_out out s which n m f e q h = rw (ne_eqb which message_part e, h, q)

pub no_room : (out s : List ℕ) (which : ℕ) → length out < buffer_least → sent 1 out ≡ forward_part_call out which s
unfolding forward_part_call
no_room out s which h = rw (lt-ltb (length out) buffer_least h)

pub no_part : (out s : List ℕ) (which i : ℕ) → buffer_least ≤ length out → i ≡ part_in which → message_part < i
    → sent 2 out ≡ forward_part_call out which s
unfolding forward_part_call
no_part out s which i h p g = rw (le-ltb (length out) buffer_least h, ← p, lt-ltb message_part i g)

pub not_forward : (out s : List ℕ) (which i n : ℕ) (ed : Edition) (t : Reading Forward) (r : Refusal)
    → buffer_least ≤ length out → i ≡ part_in which → i ≤ message_part → ed ≡ edition_in which
    → t ≡ whole_forward ed (lent s) → t ≡ Err r → n ≡ packed r → sent n out ≡ forward_part_call out which s
unfolding forward_part_call forward_chosen
not_forward out s which i n ed t r h p g d k q e =
    let w : whole_forward (edition_in which) (lent s) ≡ Err r = ap
    (λ (x : Edition). whole_forward x (lent s)) (sym d) ∙ sym k ∙ q in
    rw (le-ltb (length out) buffer_least h, ← p, le-ltb message_part i g, w, e)

pub part_out : (out z s : List ℕ) (which i n next : ℕ) (ed : Edition) (t : Reading Forward) (f : Forward)
    → buffer_least ≤ length out → i ≡ part_in which → i ≤ message_part → ed ≡ edition_in which
    → t ≡ whole_forward ed (lent s) → t ≡ Ok (f, next) → sent n z ≡ forward_part out s i f
    → sent n z ≡ forward_part_call out which s
unfolding forward_part_call forward_chosen
part_out out z s which i n next ed t f h p g d e q k =
    let w : whole_forward (edition_in which) (lent s) ≡ Ok (f, next) = ap
    (λ (x : Edition). whole_forward x (lent s)) (sym d) ∙ sym e ∙ q in
    k ∙ rw (le-ltb (length out) buffer_least h, ← p, le-ltb message_part i g, w)

-- ---- all parts at once

-- each number stands in its part's place
pub part_at : (i : ℕ) (h : Heading) → i < message_part → get_or (heading_numbers h) i 0 ≡ heading_part i h
part_at zero h k = refl
part_at (suc zero) h k = refl
part_at (suc (suc zero)) h k = refl
part_at (suc (suc (suc zero))) h k = refl
part_at (suc (suc (suc (suc zero)))) h k = refl
part_at (suc (suc (suc (suc (suc zero))))) h k = refl
part_at (suc (suc (suc (suc (suc (suc zero)))))) h k = refl
part_at (suc (suc (suc (suc (suc (suc (suc zero))))))) h k = refl
part_at (suc (suc (suc (suc (suc (suc (suc (suc zero)))))))) h k = refl
part_at (suc (suc (suc (suc (suc (suc (suc (suc (suc zero))))))))) h k = refl
part_at (suc (suc (suc (suc (suc (suc (suc (suc (suc (suc i)))))))))) h k = absurd (omega arith)

eights_nil : eights [] ≡ []
unfolding eights
eights_nil = refl

eights_cons : (v : ℕ) (vs : List ℕ) → eights (v ∷ vs) ≡ octets 8 v ++ eights vs
unfolding eights
eights_cons v vs = refl

sets_on : (xs ys b : List ℕ) (at : ℕ) → sets b at (xs ++ ys) ≡ sets (sets b at xs) (at + length xs) ys
sets_on [] ys b at = ap (λ (k : ℕ). sets b k ys) (sym (add-zero at))
sets_on (x ∷ xs) ys b at =
    let e : suc at + length xs ≡ at + suc (length xs) = omega arith in
    sets_on xs ys (set b at x) (suc at) ∙ ap (λ (k : ℕ). sets (sets (set b at x) (suc at) xs) k ys) e

-- as `put_numbers` has them: the numbers that are put, and those to come
pub numbers_start : (b : List ℕ) (h : Heading) → length b ≡ heading_bytes
    → sets b (8 * 0) (eights (drop 0 (heading_numbers h))) ≡ eights (heading_numbers h)
numbers_start b h e = sets_whole b (eights (heading_numbers h)) (length_eights (heading_numbers h) ∙ sym e)

numbers_next : (i : ℕ) (h : Heading) → i < message_part
    → eights (drop i (heading_numbers h)) ≡ octets 8 (heading_part i h) ++ eights (drop (suc i) (heading_numbers h))
numbers_next i h k =
    ap eights (drop-cons (heading_numbers h) i 0 k) ∙ eights_cons (get_or (heading_numbers h) i 0)
    (drop (suc i) (heading_numbers h)) ∙ ap (λ (v : ℕ). octets 8 v ++ eights (drop (suc i) (heading_numbers h)))
    (part_at i h k)

pub numbers_turn : (b z d : List ℕ) (i v : ℕ) (h : Heading) → i < message_part → v ≡ heading_part i h
    → d ≡ sets b (8 * i) (octets 8 v) → sets b (8 * i) (eights (drop i (heading_numbers h))) ≡ z
    → sets d (8 * (i + 1)) (eights (drop (i + 1) (heading_numbers h))) ≡ z
numbers_turn b z d i v h k p q e =
    let n : i + 1 ≡ suc i = omega arith in
    let m : 8 * (i + 1) ≡ 8 * i + 8 = omega arith in
    let g : sets b (8 * i) (octets 8 (heading_part i h) ++ eights (drop (suc i) (heading_numbers h))) ≡ z = ap
    (λ (l : List ℕ). sets b (8 * i) l) (sym (numbers_next i h k)) ∙ e in
    let o = sets_on (octets 8 (heading_part i h)) (eights (drop (suc i) (heading_numbers h))) b (8 * i) in
    rw (m, n, q, p) (rw (length_octets 8 (heading_part i h)) at (sym o ∙ g))

pub numbers_length : (b d : List ℕ) (at v : ℕ) → d ≡ sets b at (octets 8 v) → length b ≡ heading_bytes → length d ≡ heading_bytes
numbers_length b d at v e h = ap length e ∙ length-sets b at (octets 8 v) ∙ h

pub numbers_done : (b : List ℕ) (i : ℕ) (h : Heading) → i ≡ 10 → sets b (8 * i) (eights (drop i (heading_numbers h))) ≡ b
numbers_done b i h e = rw (e, eights_nil)

pub parts_out : (b d out z s : List ℕ) (n : ℕ) (f : Forward) (w : Result ℕ Unwritten) → done w z ≡ message_out out s f.message
    → d ≡ heading_by b f.heading w → n ≡ message_answer w → opened n d z ≡ forward_parts b out s f
unfolding forward_parts
parts_out b d out z s n f w e p q = rw (← e, p, q)

pub no_buffer : (b out s : List ℕ) (application : ℕ) → length out < buffer_least → opened 1 b out ≡ read_forward b out s application
unfolding read_forward
no_buffer b out s application h = rw (lt-ltb (length out) buffer_least h)

-- y: whether the number is an application type, as `is_type` answers; ed: its edition, as `of_type` does
module _ (b out s : List ℕ) (application : ℕ) (y : Bool) (h : buffer_least ≤ length out) (i : y ≡ is_type application) where
  pub no_type : not y ≡ true → opened 2 b out ≡ read_forward b out s application
  unfolding read_forward
  no_type j = let u : is_type application ≡ false = sym i ∙ not-true y j in rw (le-ltb (length out) buffer_least h, u)

  typed : not y ≡ false → is_type application ≡ true
  typed j = sym i ∙ not-false y j

  pub no_heading : not y ≡ false → (length b ≡ heading_bytes → ⊥) → opened 2 b out ≡ read_forward b out s application
  unfolding read_forward
  no_heading j g = rw (le-ltb (length out) buffer_least h, typed j, ne_eqb (length b) heading_bytes g)

  pub no_parts : (n : ℕ) (ed : Edition) (t : Reading Forward) (r : Refusal) → not y ≡ false → length b ≡ heading_bytes
      → ed ≡ edition_of application → t ≡ whole_forward ed (lent s) → t ≡ Err r → n ≡ packed r
      → opened n b out ≡ read_forward b out s application
  unfolding read_forward forward_opened
  no_parts n ed t r j g d p q e =
      let w : whole_forward (edition_of application) (lent s) ≡ Err r = ap
      (λ (x : Edition). whole_forward x (lent s)) (sym d) ∙ sym p ∙ q in
      rw (le-ltb (length out) buffer_least h, typed j, eq-eqb (length b) heading_bytes g, w, e)

  pub all_parts : (a z : List ℕ) (n next : ℕ) (ed : Edition) (t : Reading Forward) (f : Forward) → not y ≡ false
      → length b ≡ heading_bytes → ed ≡ edition_of application → t ≡ whole_forward ed (lent s) → t ≡ Ok (f, next)
      → opened n a z ≡ forward_parts b out s f → opened n a z ≡ read_forward b out s application
  unfolding read_forward forward_opened
  all_parts a z n next ed t f j g d e q k =
      let w : whole_forward (edition_of application) (lent s) ≡ Ok (f, next) = ap
      (λ (x : Edition). whole_forward x (lent s)) (sym d) ∙ sym e ∙ q in
      k ∙ rw (le-ltb (length out) buffer_least h, typed j, eq-eqb (length b) heading_bytes g, w)

-- ---- what all parts at once say is what each of them says by itself

-- the message's bits, and every refusal
message_by : (b out s : List ℕ) (t : Reading Forward)
    → sent (forward_opened b out s t).number (forward_opened b out s t).bytes ≡ forward_chosen out s message_part t
unfolding forward_opened forward_chosen forward_parts forward_part
message_by b out s (Ok (f, next)) = refl
message_by b out s (Err r) = refl

message_if : (b out s : List ℕ) (t : Reading Forward) (x : Bool)
    → sent (cond x (opened 1 b out) (forward_opened b out s t)).number (cond x (opened 1 b out) (forward_opened b out s t)).bytes ≡ cond x (sent 1 out) (forward_chosen out s message_part t)
message_if b out s t true = refl
message_if b out s t false = message_by b out s t

-- the number of a part of an edition's forward message
abbrev pub numbered_part : Edition → ℕ → ℕ
numbered_part Protected i = i
numbered_part Plain i = i + plain_parts

pub message_at_once : (b out s : List ℕ) (ed : Edition) → length b ≡ heading_bytes
    → sent (read_forward b out s (type_of ed)).number (read_forward b out s (type_of ed)).bytes ≡ forward_part_call out (numbered_part ed message_part) s
unfolding read_forward forward_part_call
message_at_once b out s Protected h = rw (eq-eqb (length b) heading_bytes h)
    (message_if b out s (whole_forward Protected (lent s)) (ltb (length out) buffer_least))
message_at_once b out s Plain h = rw (eq-eqb (length b) heading_bytes h)
    (message_if b out s (whole_forward Plain (lent s)) (ltb (length out) buffer_least))

-- the numbers
eight_at_is : (vs : List ℕ) (i : ℕ) → i < length vs → eight_at (eights vs) (8 * i) ≡ get_or vs i 0 % 2 ^ 64
unfolding eight_at
eight_at_is [] i h = absurd (omega arith)
eight_at_is (v ∷ vs) zero h = rw (eights_cons v vs, take_at (octets 8 v) (eights vs) 8 (length_octets 8 v)) (number_octets 8 v)
eight_at_is (v ∷ vs) (suc i) h =
    let e : 8 * suc i ≡ 8 + 8 * i = omega arith in
    let d = drop_at (octets 8 v) (eights vs) 8 (length_octets 8 v) in
    rw (e, eights_cons v vs) (sym (eight_drop 8 (8 * i) (octets 8 v ++ eights vs)) ∙ rw d (eight_at_is vs i (omega arith)))

number_by : (b out s : List ℕ) (application which i n next : ℕ) (ed : Edition) (f : Forward) → is_type application ≡ true
    → edition_of application ≡ ed → part_in which ≡ i → edition_in which ≡ ed → length b ≡ heading_bytes
    → buffer_least ≤ length out → whole_forward ed (lent s) ≡ Ok (f, next)
    → (message_out out s f.message).answer ≡ Ok n → i < message_part
    → told (eight_at (read_forward b out s application).heading (8 * i)) ≡ (forward_part_call out which s).number
unfolding read_forward forward_opened forward_parts heading_by forward_part_call forward_chosen forward_part
number_by b out s application which i n next ed f y a p d h g e w k =
    let o : eqb i message_part ≡ false = ne_eqb i message_part (λ (q : i ≡ message_part). omega arith) in
    let u : ltb message_part i ≡ false = le-ltb message_part i (omega arith) in
    let v : eight_at (eights (heading_numbers f.heading)) (8 * i) ≡ heading_part i f.heading % 2 ^ 64 = eight_at_is
    (heading_numbers f.heading) i k ∙ ap (λ (x : ℕ). x % 2 ^ 64) (part_at i f.heading k) in
    let l : whole_forward (edition_of application) (lent s) ≡ Ok (f, next) = ap (λ (x : Edition). whole_forward x (lent s)) a ∙ e in
    let m : whole_forward (edition_in which) (lent s) ≡ Ok (f, next) = ap (λ (x : Edition). whole_forward x (lent s)) d ∙ e in
    rw (eq-eqb (length b) heading_bytes h, le-ltb (length out) buffer_least g, y, l, p, u, m, w, o, v)
    (ap (λ (x : ℕ). 256 * x) (mod-mod-pow (heading_part i f.heading) 8 56))

pub number_at_once : (b out s : List ℕ) (ed : Edition) (i n next : ℕ) (f : Forward) → length b ≡ heading_bytes
    → buffer_least ≤ length out → whole_forward ed (lent s) ≡ Ok (f, next)
    → (message_out out s f.message).answer ≡ Ok n → i < message_part
    → told (eight_at (read_forward b out s (type_of ed)).heading (8 * i)) ≡ (forward_part_call out (numbered_part ed i) s).number
number_at_once b out s Protected i n next f h g e w k =
    let l : ltb i plain_parts ≡ true = lt-ltb i plain_parts (omega arith) in
    number_by b out s (type_of Protected) i i n next Protected f refl refl (rw l) (rw l) h g e w k
number_at_once b out s Plain i n next f h g e w k =
    let l : ltb (i + plain_parts) plain_parts ≡ false = le-ltb (i + plain_parts) plain_parts (omega arith) in
    let m : i + plain_parts - plain_parts ≡ i = omega arith in
    number_by b out s (type_of Plain) (i + plain_parts) i n next Plain f refl refl (rw l m) (rw l) h g e w k
