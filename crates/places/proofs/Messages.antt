-- Where a CPDLC message is refused: the claims, reader by reader.
-- Assumes nothing.
use mathlib.Core.Path.{◌≡◌, refl, ap, sym, subst, fun_ext, ◌∙◌}
use mathlib.Core.Bool.{Bool, true, false, cond}
use mathlib.Core.List.{List, [], ◌∷◌, ◌++◌}
use Prim.Native.Nat.{ℕ, zero, suc, ◌+◌, ◌-◌, ◌%◌, ◌≤◌, ◌<◌}
use native.Mathlib.Omega.{arith}
use borrow.Author.Tests.{leb-true}
use lib.Dec.{eqb, leb}
use lib.ListN.{length, take}
use Rattle.fields.specs.Fields.{refusal, refused_at, then, digits_in, whole_number}
use Rattle.fields.specs.declared.Fault.TheVariants.{Short, Tail, NotCarried, Default}
use Rattle.fields.specs.declared.Refusal.{Refusal}
use Rattle.kinds.specs.declared.Direction.{Direction}
use Rattle.elements.specs.declared.values.Time.{Time}
use Rattle.elements.specs.declared.values.Element.{Element}
use Rattle.elements.specs.Arguments.{time_at}
use Rattle.elements.specs.OneElement.{element_at}
use Rattle.inner.specs.declared.values.DateTime.{DateTime}
use Rattle.inner.specs.declared.values.Header.{Header}
use Rattle.inner.specs.declared.values.Message.{Message}
use Rattle.inner.specs.Headers.{time_of_day_at, date_time_at, reference_at, acknowledgement_at, header_of, dated_at, header_at}
use Rattle.inner.specs.Places.{row_at, laid}
use Rattle.inner.specs.Messages.{message_of, count_at, body_at, message_at, ended_at, exactly}
use Rattle.places.specs.Claims.{Seen, went, refused, Alike, Went, FieldAt, Placed, Refusing, Sound, seen_field}
use Rattle.places.proofs.Readers.{never, clash, one_place, one_refusal, sound_value, refusing_after, sound_cond, then_sound, judged, whole_sound, whole_place, whole_cut}
use Rattle.places.proofs.Elements.{time_sound, element_sound}
use Rattle.std.specs.Prelude.{Err, Ok, Result}
use Rattle.fields.specs.Fields.{Reading}

-- an answer that is only put into another form
pub sound_map : {A B : Type 0} (seenA : A → Seen) (seenB : B → Seen) (g : A → B) → ((x : A) → seenB (g x) ≡ seenA x) → (rd : List ℕ → A) (l : List ℕ) (at : ℕ) → Sound seenA rd l at → Sound seenB (λ (m : List ℕ). g (rd m)) l at
sound_map {A} {B} seenA seenB g same rd l at s =
    record {
      next = λ (n : ℕ) (e : seenB (g (rd l)) ≡ went n).
          let w = s.next n (sym (same (rd l)) ∙ e) in
          record { after = w.after; within = w.within; same = λ (m : List ℕ) (a : Alike n l m). ap g (w.same m a) };
      place = λ (r : Refusal) (e : seenB (g (rd l)) ≡ refused r).
          let p = s.place r (sym (same (rd l)) ∙ e) in
          record {
            after = p.after;
            within = p.within;
            field = λ (t : r.fault ≡ Tail → ⊥).
                let c = p.field t in
                record {
                  end = c.end;
                  behind = c.behind;
                  cut = λ (k : ℕ) (i : r.at ≤ k) (j : k < c.end) (w : k ≤ length l). same (rd (take k l)) ∙ c.cut k i j w;
                  same = λ (w : c.end ≤ length l) (m : List ℕ) (a : Alike c.end l m). ap g (c.same w m a);
                  short = c.short;
                };
          };
    }

-- ---- date and time

pub time_of_day_sound : (y mo da : ℕ) (l : List ℕ) (at : ℕ) → at ≤ length l → Sound seen_field (λ (m : List ℕ). time_of_day_at m y mo da at) l at
unfolding time_of_day_at
time_of_day_sound y mo da l at h =
    then_sound {B = DateTime} (λ (m : List ℕ). time_at m at) (λ (x : Time) (p : ℕ) (m : List ℕ). then (whole_number m p 0 59) (λ (s next : ℕ). Ok (record { year = y; month = mo; day = da; time = x; seconds = s }, next))) l at (time_sound l at h)
    (λ (x : Time) (p : ℕ) (e : time_at l at ≡ Ok (x, p)) (a : at ≤ p) (b : p ≤ length l).
    then_sound {B = DateTime} (λ (m : List ℕ). whole_number m p 0 59) (λ (s next : ℕ) (m : List ℕ). Ok (record { year = y; month = mo; day = da; time = x; seconds = s }, next)) l p (whole_sound l p 0 59 (omega arith) b)
    (λ (s next : ℕ) (f : whole_number l p 0 59 ≡ Ok (s, next)) (c : p ≤ next) (w : next ≤ length l). sound_value (seen_field {A = DateTime}) (Ok (record { year = y; month = mo; day = da; time = x; seconds = s }, next)) l next w refl))

pub date_time_sound : (l : List ℕ) (at : ℕ) → at ≤ length l → Sound seen_field (λ (m : List ℕ). date_time_at m at) l at
unfolding date_time_at
date_time_sound l at h =
    then_sound {B = DateTime} (λ (m : List ℕ). whole_number m at 1996 2095) (λ (y p : ℕ)
    (m : List ℕ). then (whole_number m p 1 12)
    (λ (mo q : ℕ). then (whole_number m q 1 31) (λ (da r : ℕ). time_of_day_at m y mo da r))) l at
    (whole_sound l at 1996 2095 (omega arith) h)
    (λ (y p : ℕ) (e : whole_number l at 1996 2095 ≡ Ok (y, p)) (a : at ≤ p) (b : p ≤ length l).
    then_sound {B = DateTime} (λ (m : List ℕ). whole_number m p 1 12)
    (λ (mo q : ℕ) (m : List ℕ). then (whole_number m q 1 31) (λ (da r : ℕ). time_of_day_at m y mo da r))
    l p (whole_sound l p 1 12 (omega arith) b)
    (λ (mo q : ℕ) (f : whole_number l p 1 12 ≡ Ok (mo, q)) (c : p ≤ q) (d : q ≤ length l).
    then_sound {B = DateTime} (λ (m : List ℕ). whole_number m q 1 31)
    (λ (da r : ℕ) (m : List ℕ). time_of_day_at m y mo da r) l q (whole_sound l q 1 31 (omega arith) d)
    (λ (da r : ℕ) (g : whole_number l q 1 31 ≡ Ok (da, r)) (u : q ≤ r) (w : r ≤ length l). time_of_day_sound y mo da l r w)))

-- ---- the header

pub reference_sound : (l : List ℕ) (at : ℕ) (b : Bool) → at ≤ length l → Sound seen_field (λ (m : List ℕ). reference_at m at b) l at
unfolding reference_at
reference_sound l at b h =
    sound_cond seen_field b (λ (m : List ℕ). whole_number m at 0 63) (λ (m : List ℕ). Ok (0, at)) l at
    (λ (e : b ≡ true). whole_sound l at 0 63 (omega arith) h)
    (λ (e : b ≡ false). sound_value seen_field (Ok (0, at)) l at h refl)

one_moved : (l : List ℕ) (at v n : ℕ) → whole_number l at 0 1 ≡ Ok (v, n) → at < n
unfolding digits_in
one_moved l at v n e = let p = whole_place l at 0 1 v n e in omega arith

pub acknowledgement_sound : (l : List ℕ) (at : ℕ) (b : Bool) → at ≤ length l
    → Sound seen_field (λ (m : List ℕ). acknowledgement_at m at b) l at
unfolding acknowledgement_at
acknowledgement_sound l at b h =
    sound_cond seen_field b
    (λ (m : List ℕ). then (whole_number m at 0 1) (λ (v n : ℕ). cond (eqb v 0) (Ok (0, n)) (refused_at at Default)))
    (λ (m : List ℕ). Ok (0, at)) l at
    (λ (e : b ≡ true).
    judged (λ (m : List ℕ). whole_number m at 0 1) (λ (v n : ℕ). cond (eqb v 0) (Ok (0, n)) (refused_at at Default))
    (λ (v : ℕ). eqb v 0) (λ (v : ℕ). 0) Default l at h (whole_sound l at 0 1 (omega arith) h)
    (λ (v n : ℕ) (p : eqb v 0 ≡ true). ap (λ (t : Bool). cond {A = Reading ℕ} t (Ok (0, n)) (refused_at at Default)) p)
    (λ (v n : ℕ) (p : eqb v 0 ≡ false). ap (λ (t : Bool). cond {A = Reading ℕ} t (Ok (0, n)) (refused_at at Default)) p)
    (λ (t : Default ≡ Short). never (cc))
    (λ (v n : ℕ) (f : whole_number l at 0 1 ≡ Ok (v, n)) (p : eqb v 0 ≡ false). one_moved l at v n f)
    (whole_cut l at 0 1))
    (λ (e : b ≡ false). sound_value seen_field (Ok (0, at)) l at h refl)

pub dated_sound : (i : ℕ) (r : Bool) (n : ℕ) (a : Bool) (l : List ℕ) (at : ℕ) → at ≤ length l
    → Sound seen_field (λ (m : List ℕ). dated_at m i r n a at) l at
unfolding dated_at
dated_sound i r n a l at h =
    then_sound {B = Header} (λ (m : List ℕ). date_time_at m at) (λ (x : DateTime) (p : ℕ) (m : List ℕ). then (acknowledgement_at m p a) (λ (z next : ℕ). Ok (header_of i r n x a, next))) l at (date_time_sound l at h)
    (λ (x : DateTime) (p : ℕ) (e : date_time_at l at ≡ Ok (x, p)) (c : at ≤ p) (b : p ≤ length l).
    then_sound {B = Header} (λ (m : List ℕ). acknowledgement_at m p a) (λ (z next : ℕ) (m : List ℕ). Ok (header_of i r n x a, next)) l p (acknowledgement_sound l p a b)
    (λ (z next : ℕ) (f : acknowledgement_at l p a ≡ Ok (z, next)) (d : p ≤ next) (w : next ≤ length l). sound_value
    (seen_field {A = Header}) (Ok (header_of i r n x a, next)) l next w refl))

pub header_sound : (l : List ℕ) (at : ℕ) → at ≤ length l → Sound seen_field (λ (m : List ℕ). header_at m at) l at
unfolding header_at
header_sound l at h =
    then_sound {B = Header} (λ (m : List ℕ). whole_number m at 0 3) (λ (b p : ℕ)
    (m : List ℕ). then (whole_number m p 0 63) (λ (i q : ℕ). then
    (reference_at m q (leb 2 b)) (λ (n r : ℕ). dated_at m i (leb 2 b) n (eqb (b % 2) 1) r))) l at
    (whole_sound l at 0 3 (omega arith) h)
    (λ (b p : ℕ) (e : whole_number l at 0 3 ≡ Ok (b, p)) (a : at ≤ p) (w : p ≤ length l).
    then_sound {B = Header} (λ (m : List ℕ). whole_number m p 0 63) (λ (i q : ℕ)
    (m : List ℕ). then (reference_at m q (leb 2 b))
    (λ (n r : ℕ). dated_at m i (leb 2 b) n (eqb (b % 2) 1) r)) l p (whole_sound l p 0 63 (omega arith) w)
    (λ (i q : ℕ) (f : whole_number l p 0 63 ≡ Ok (i, q)) (c : p ≤ q) (d : q ≤ length l).
    then_sound {B = Header} (λ (m : List ℕ). reference_at m q (leb 2 b))
    (λ (n r : ℕ) (m : List ℕ). dated_at m i (leb 2 b) n (eqb (b % 2) 1) r) l q (reference_sound l q (leb 2 b) d)
    (λ (n r : ℕ) (g : reference_at l q (leb 2 b) ≡ Ok (n, r)) (u : q ≤ r) (v : r ≤ length l). dated_sound i (leb 2 b) n
    (eqb (b % 2) 1) l r v)))

-- ---- the elements, and the body

pub row_sound : (d : Direction) (l : List ℕ) (n at : ℕ) → at ≤ length l → Sound seen_field (λ (m : List ℕ). row_at d m at n) l at
unfolding row_at
row_sound d l zero at h = sound_value (seen_field {A = List Element}) (Ok ([], at)) l at h refl
row_sound d l (suc n) at h =
    then_sound {B = List Element} (λ (m : List ℕ). element_at d m at) (λ (e : Element) (next : ℕ) (m : List ℕ). then (row_at d m next n) (λ (es : List Element) (last : ℕ). Ok (e ∷ es, last))) l at (element_sound d l at h)
    (λ (e : Element) (k : ℕ) (f : element_at d l at ≡ Ok (e, k)) (a : at ≤ k) (b : k ≤ length l).
    then_sound {B = List Element} (λ (m : List ℕ). row_at d m k n) (λ (es : List Element) (last : ℕ) (m : List ℕ). Ok (e ∷ es, last)) l k (row_sound d l n k b)
    (λ (es : List Element) (last : ℕ) (g : row_at d l k n ≡ Ok (es, last)) (c : k ≤ last) (w : last ≤ length l). sound_value (seen_field {A = List Element}) (Ok (e ∷ es, last)) l last w refl))

seen_laid : (h : Header) (n : ℕ) (f : Reading (List Element)) → seen_field (message_of h n (laid f)) ≡ seen_field f
seen_laid h n (Ok (es, k)) = refl
seen_laid h n (Err r) = refl

-- constrained data is judged at its presence bit
bars : ℕ → ℕ → ℕ → Reading ℕ
bars at c p = cond (eqb c 0) (Ok (c, p)) (refused_at at NotCarried)

count_as : (m : List ℕ) (at : ℕ) → count_at m at ≡ then (then (whole_number m at 0 1) (bars at)) (λ (c p : ℕ). whole_number m p 1 5)
unfolding bars
count_as m at = by (whole_number m at 0 1)
  where
    by : (x : Reading ℕ)
        → then x (λ (c p : ℕ). cond (eqb c 0) (whole_number m p 1 5) (refused_at at NotCarried))
        ≡ then {A = ℕ} {B = ℕ × ℕ} (then x (λ (c p : ℕ). cond {A = Reading ℕ} (eqb c 0) (Ok (c, p)) (refused_at at NotCarried))) (λ (c p : ℕ). whole_number m p 1 5)
    by (Err r) = refl
    by (Ok (c, p)) = go (eqb c 0)
      where
        go : (t : Bool) → cond t (whole_number m p 1 5) (refused_at at NotCarried)
            ≡ then {A = ℕ} {B = ℕ × ℕ} (cond {A = Reading ℕ} t (Ok (c, p)) (refused_at at NotCarried)) (λ (c p : ℕ). whole_number m p 1 5)
        go true = refl
        go false = refl

barred_sound : (l : List ℕ) (at : ℕ) → at ≤ length l → Sound seen_field (λ (m : List ℕ). then (whole_number m at 0 1) (bars at)) l at
unfolding bars
barred_sound l at h =
    judged (λ (m : List ℕ). whole_number m at 0 1) (λ (c p : ℕ). cond (eqb c 0) (Ok (c, p)) (refused_at at NotCarried))
    (λ (c : ℕ). eqb c 0) (λ (c : ℕ). c) NotCarried l at h (whole_sound l at 0 1 (omega arith) h)
    (λ (v n : ℕ) (p : eqb v 0 ≡ true). ap (λ (t : Bool). cond {A = Reading ℕ} t (Ok (v, n)) (refused_at at NotCarried)) p)
    (λ (v n : ℕ) (p : eqb v 0 ≡ false). ap (λ (t : Bool). cond {A = Reading ℕ} t (Ok (v, n)) (refused_at at NotCarried)) p)
    (λ (t : NotCarried ≡ Short). never (cc))
    (λ (v n : ℕ) (f : whole_number l at 0 1 ≡ Ok (v, n)) (p : eqb v 0 ≡ false). one_moved l at v n f)
    (whole_cut l at 0 1)

count_sound : (l : List ℕ) (at : ℕ) → at ≤ length l → Sound seen_field (λ (m : List ℕ). count_at m at) l at
count_sound l at w =
    subst (λ (rd : List ℕ → Reading ℕ). Sound seen_field rd l at) (fun_ext (λ (m : List ℕ). sym (count_as m at)))
    (then_sound {B = ℕ} (λ (m : List ℕ). then (whole_number m at 0 1) (bars at)) (λ (c p : ℕ) (m : List ℕ). whole_number m p 1 5) l at (barred_sound l at w)
    (λ (c p : ℕ) (e : then (whole_number l at 0 1) (bars at) ≡ Ok (c, p)) (a : at ≤ p) (b : p ≤ length l). whole_sound l p 1 5 (omega arith) b))

pub body_sound : (d : Direction) (h : Header) (l : List ℕ) (at : ℕ) → at ≤ length l
    → Sound seen_field (λ (m : List ℕ). body_at d m h at) l at
unfolding body_at
body_sound d h l at w =
    then_sound {B = Message} (λ (m : List ℕ). count_at m at) (λ (n q : ℕ) (m : List ℕ). message_of h n (laid (row_at d m q n))) l at (count_sound l at w)
    (λ (n q : ℕ) (f : count_at l at ≡ Ok (n, q)) (u : at ≤ q) (v : q ≤ length l).
    sound_map (seen_field {A = List Element}) (seen_field {A = Message}) (λ (x : Reading (List Element)). message_of h n (laid x)) (seen_laid h n)
    (λ (m : List ℕ). row_at d m q n) l q (row_sound d l n q v))

-- ---- the message

pub message_sound : (d : Direction) (l : List ℕ) (at : ℕ) → at ≤ length l → Sound seen_field (λ (m : List ℕ). message_at d m at) l at
unfolding message_at
message_sound d l at h =
    then_sound {B = Message} (λ (m : List ℕ). header_at m at) (λ (x : Header) (p : ℕ) (m : List ℕ). body_at d m x p) l at (header_sound l at h)
    (λ (x : Header) (p : ℕ) (e : header_at l at ≡ Ok (x, p)) (a : at ≤ p) (b : p ≤ length l). body_sound d x l p b)

-- A MESSAGE THAT IS REFUSED: its place is within the bits, the field with the fault begins there, and bits behind that field do not matter; TAIL is at the first bit left over
pub exactly_refusing : (d : Direction) (l : List ℕ) → Refusing seen_field (exactly d) l 0
unfolding exactly
exactly_refusing d l =
    refusing_after (seen_field {A = Message}) (λ (r : Refusal). refl) (λ (m : List ℕ). message_at d m 0) (λ (x : Message) (n : ℕ) (m : List ℕ). ended_at m x n) l 0
    (message_sound d l 0 (omega arith))
    (λ (x : Message) (n : ℕ) (e : message_at d l 0 ≡ Ok (x, n)) (a : 0 ≤ n) (b : n ≤ length l) (r : Refusal) (f : seen_field (ended_at l x n) ≡ refused r). left x n r (leb (n + 1) (length l)) refl f)
  where
    left : (x : Message) (n : ℕ) (r : Refusal) (t : Bool) → leb (n + 1) (length l) ≡ t → seen_field (cond {A = Reading Message} t (refused_at n Tail) (Ok (x, n))) ≡ refused r → Placed seen_field (λ (m : List ℕ). ended_at m x n) l n r
    left x n r true p e =
        let w : n + 1 ≤ length l = leb-true _ _ p in
        subst (λ (z : Refusal). Placed seen_field (λ (m : List ℕ). ended_at m x n) l n z) (one_refusal (refusal n Tail) r e)
        (record { after = omega arith; within = omega arith; field = λ (t : Tail ≡ Tail → ⊥). absurd (t refl) })
    left x n r false p e = clash n r e
