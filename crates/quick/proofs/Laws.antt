-- The leading fields by themselves (document 02, E11): where the whole APDU is accepted they say its kind and mode; where they are refused, so is it; and
-- no bit behind the fifth matters to them.
-- Assumes nothing.
use mathlib.Core.Path.{◌≡◌, refl, ap, sym, ◌∙◌}
use mathlib.Core.Bool.{Bool, true, false, cond, ◌&&◌}
use mathlib.Core.List.{List, [], ◌∷◌}
use Prim.Native.Nat.{ℕ, zero, suc, ◌+◌, ◌-◌, ◌≤◌, ◌<◌, min}
use native.Mathlib.Omega.{arith}
use lib.Dec.{leb, eqb, lit≤}
use borrow.Author.Tests.{le-leb, lt-leb, leb-true, leb-false}
use lib.ListN.{length, take, drop, length-take}
use lib.Seq.{take-take, take_all, drop-nil, take-nil}
use Rattle.words.proofs.Laws.{ok_value, ok_place}
use Rattle.bits.specs.Read.{read_bits}
use Rattle.bits.specs.Bits.{num_of}
use Rattle.fields.specs.Fields.{Reading, refused_at, field_of, digits_in, width_of, then, bit_field, extension_bit, whole_number, extensible_index}
use Rattle.fields.specs.declared.Refusal.{Refusal}
use Rattle.fields.specs.declared.Fault.TheVariants.{Extension, Range}
use Rattle.apdu.specs.Pdus.{last_of, kind_of}
use Rattle.apdu.specs.Sizes.{mode_last, user_last, provider_last}
use Rattle.apdu.specs.Headings.{response_last}
use Rattle.apdu.specs.Reading.{mode_value, mode_at, kind_mode, leading_at, data_within, forward_within, tail_at, ended_at, rest_within, apdu_within}
use Rattle.pdus.specs.declared.PduType.{PduType}
use Rattle.pdus.specs.declared.PduType.TheVariants.{AircraftPdus, GroundPdus}
use Rattle.apdu.specs.declared.Kind.{Kind}
use Rattle.apdu.specs.declared.Kind.TheVariants as kind
use Rattle.apdu.specs.declared.Data.{Data}
use Rattle.apdu.specs.declared.Forward.{Forward}
use Rattle.apdu.specs.declared.Apdu.{Apdu}
use Rattle.apdu.specs.declared.Apdu.TheVariants as apdu
use Rattle.quick.specs.Quick.{kind_in, mode_in, Leads, most}
use Rattle.std.specs.Prelude.{Err, None, Ok, Option, Result, Some}

never : {A : Type 0} → ◌≡◌ {A = ℕ} 0 1 → A
never e = absurd (omega arith)

-- ---- refused by the leading fields: refused, and with the same refusal

pub quick_refused : (limit : ℕ) (pdus : PduType) (l : List ℕ) (at : ℕ) (r : Refusal)
    → leading_at pdus l at ≡ Err r → apdu_within limit pdus l at ≡ Err r
unfolding apdu_within
quick_refused limit pdus l at r e = rw e

-- ---- accepted: the same kind and mode

-- the mode of a kind that has one
abbrev pub mode_with : Kind → ℕ → ℕ
mode_with kind.AbortUser m = 0
mode_with kind.AbortProvider m = 0
mode_with kind.Start m = m
mode_with kind.Send m = 0
mode_with kind.Forward m = 0
mode_with kind.ForwardResponse m = 0

-- an APDU of a kind and a mode
pub record Of (c : Kind) (m : ℕ) (a : Apdu) : Type 0 where
  pub kind : kind_in a ≡ c
  pub mode : mode_in a ≡ mode_with c m

ended_is : (l : List ℕ) (n : ℕ) (x a : Apdu) → ended_at l n x ≡ Ok a → x ≡ a
unfolding ended_at
ended_is l n x a e = by (tail_at l n) e
  where
    by : (f : Reading ℕ) → then f (λ (v next : ℕ). Ok x) ≡ Ok a → x ≡ a
    by (Ok (v, next)) k = cc
    by (Err r) k = never (cc)

-- what follows a reading of any kind
pub by_reading : {B : Type 0} (f : Reading B) (l : List ℕ) (make : B → Apdu) (a : Apdu) (A : Type 0) → ((v : B) → make v ≡ a → A)
    → then f (λ (v : B) (next : ℕ). ended_at l next (make v)) ≡ Ok a → A
by_reading (Ok (v, next)) l make a A k e = k v (ended_is l next (make v) a e)
by_reading (Err r) l make a A k e = never (cc)

rest_of : (limit : ℕ) (l : List ℕ) (c : Kind) (m n : ℕ) (a : Apdu) → rest_within limit l c m n ≡ Ok a → Of c m a
unfolding rest_within
rest_of limit l kind.AbortUser m n a e = by_reading (extensible_index l n user_last) l (λ (r : ℕ). apdu.AbortUser r) a (Of kind.AbortUser m a) (λ (r : ℕ) (g : apdu.AbortUser r ≡ a). rw (sym g) (record { kind = refl; mode = refl })) e
rest_of limit l kind.AbortProvider m n a e = by_reading (extensible_index l n provider_last) l (λ (r : ℕ). apdu.AbortProvider r) a (Of kind.AbortProvider m a) (λ (r : ℕ) (g : apdu.AbortProvider r ≡ a). rw (sym g) (record { kind = refl; mode = refl })) e
rest_of limit l kind.Start m n a e = by_reading (data_within limit l n) l (λ (d : Data). apdu.Start m d) a (Of kind.Start m a) (λ (d : Data) (g : apdu.Start m d ≡ a). rw (sym g) (record { kind = refl; mode = refl })) e
rest_of limit l kind.Send m n a e = by_reading (data_within limit l n) l (λ (d : Data). apdu.Send d) a (Of kind.Send m a) (λ (d : Data) (g : apdu.Send d ≡ a). rw (sym g) (record { kind = refl; mode = refl })) e
rest_of limit l kind.Forward m n a e = by_reading (forward_within limit l n) l (λ (f : Forward). apdu.Forward f) a (Of kind.Forward m a) (λ (f : Forward) (g : apdu.Forward f ≡ a). rw (sym g) (record { kind = refl; mode = refl })) e
rest_of limit l kind.ForwardResponse m n a e = by_reading (extensible_index l n response_last) l (λ (r : ℕ). apdu.ForwardResponse r) a (Of kind.ForwardResponse m a) (λ (r : ℕ) (g : apdu.ForwardResponse r ≡ a). rw (sym g) (record { kind = refl; mode = refl })) e

-- a kind without a mode has the mode 0
kind_mode_is : (pdus : PduType) (l : List ℕ) (c : Kind) (at v q : ℕ) → kind_mode pdus l c at ≡ Ok (v, q) → v ≡ mode_with c v
unfolding kind_mode
kind_mode_is pdus l kind.AbortUser at v q e = sym (ok_value e)
kind_mode_is pdus l kind.AbortProvider at v q e = sym (ok_value e)
kind_mode_is pdus l kind.Start at v q e = refl
kind_mode_is pdus l kind.Send at v q e = sym (ok_value e)
kind_mode_is pdus l kind.Forward at v q e = sym (ok_value e)
kind_mode_is pdus l kind.ForwardResponse at v q e = sym (ok_value e)

-- an alternative, and its mode as it was read
abbrev led : Kind → Reading ℕ → Reading (Kind × ℕ)
led c f = then {B = (Kind × ℕ) × ℕ} f (λ (m next : ℕ). Ok ((c, m), next))

lead_mode : (pdus : PduType) (l : List ℕ) (at : ℕ) (c : Kind) (m n : ℕ) → leading_at pdus l at ≡ Ok ((c, m), n) → m ≡ mode_with c m
unfolding leading_at
lead_mode pdus l at c m n e = first (extensible_index l at (last_of pdus)) e
  where
    second : (i : ℕ) (f : Reading ℕ) → ((v q : ℕ) → f ≡ Ok (v, q) → v ≡ mode_with (kind_of i) v)
        → led (kind_of i) f ≡ Ok ((c, m), n) → m ≡ mode_with c m
    second i (Ok (v, q)) k g =
        let w : ◌≡◌ {A = Kind × ℕ} (kind_of i, v) (c, m) = ok_value g in
        let x : kind_of i ≡ c = ap (λ (p : Kind × ℕ). p.0) w in
        let y : v ≡ m = ap (λ (p : Kind × ℕ). p.1) w in
        sym y ∙ (k v q refl ∙ rw (x, y))
    second i (Err r) k g = never (cc)

    first : (f : Reading ℕ)
        → then f (λ (i p : ℕ). led (kind_of i) (kind_mode pdus l (kind_of i) p)) ≡ Ok ((c, m), n)
        → m ≡ mode_with c m
    first (Ok (i, p)) g = second i (kind_mode pdus l (kind_of i) p)
        (λ (v q : ℕ) (h : kind_mode pdus l (kind_of i) p ≡ Ok (v, q)). kind_mode_is pdus l (kind_of i) p v q h) g
    first (Err r) g = never (cc)

-- over any rest that keeps its kind and mode
pub led_accepted : (rest : Kind → ℕ → ℕ → Result Apdu Refusal) (pdus : PduType) (l : List ℕ) (at : ℕ) (a : Apdu)
    → ((c : Kind) (m n : ℕ) → rest c m n ≡ Ok a → Of c m a) → then (leading_at pdus l at) (λ (lead : Kind × ℕ) (n : ℕ). rest lead.0 lead.1 n) ≡ Ok a
    → Leads (leading_at pdus l at) a
led_accepted rest pdus l at a of e = by (leading_at pdus l at) refl e
  where
    by : (t : Reading (Kind × ℕ)) → leading_at pdus l at ≡ t → then t (λ (lead : Kind × ℕ) (n : ℕ). rest lead.0 lead.1 n) ≡ Ok a → Leads (leading_at pdus l at) a
    by (Ok ((c, m), n)) g k =
        let o = of c m n k in
        let q = lead_mode pdus l at c m n g in
        record { next = n; says = g ∙ rw (o.kind, o.mode, ← q) }
    by (Err r) g k = never (cc)

pub quick_accepted : (limit : ℕ) (pdus : PduType) (l : List ℕ) (at : ℕ) (a : Apdu)
    → apdu_within limit pdus l at ≡ Ok a → Leads (leading_at pdus l at) a
unfolding apdu_within
quick_accepted limit pdus l at a e = led_accepted (rest_within limit l) pdus l at a
    (λ (c : Kind) (m n : ℕ) (k : rest_within limit l c m n ≡ Ok a). rest_of limit l c m n a k) e

-- so what it refuses is refused, and it claims no fault of the whole that it has not seen: of an accepted APDU it refuses nothing
pub quick_never : (limit : ℕ) (pdus : PduType) (l : List ℕ) (at : ℕ) (a : Apdu) (r : Refusal)
    → apdu_within limit pdus l at ≡ Ok a → leading_at pdus l at ≡ Err r → ⊥
quick_never limit pdus l at a r e g =
    let h = quick_refused limit pdus l at r g in
    never (cc)

-- ---- five bits are enough

leb_front : (a k b : ℕ) → a ≤ k → leb a (min k b) ≡ leb a b
leb_front a k b h = by (leb a b) refl
  where
    by : (t : Bool) → leb a b ≡ t → leb a (min k b) ≡ leb a b
    by true e = let g = leb-true a b e in le-leb a (min k b) (omega arith) ∙ sym e
    by false e = let g = leb-false a b e in lt-leb a (min k b) (omega arith) ∙ sym e

part_front : (at : ℕ) (k : ℕ) (l : List ℕ) (n : ℕ) → at + n ≤ k → take n (drop at (take k l)) ≡ take n (drop at l)
part_front zero k l n h = take-take n k l (omega arith)
part_front (suc at) zero l n h = absurd (omega arith)
part_front (suc at) (suc k) [] n h = refl
part_front (suc at) (suc k) (x ∷ xs) n h = part_front at k xs n (omega arith)

front_bits : (k : ℕ) (l : List ℕ) (at n : ℕ) → at + n ≤ k → bit_field (take k l) at n ≡ bit_field l at n
unfolding bit_field read_bits
front_bits k l at n h = rw (length-take k l, leb_front (at + n) k (length l) h, part_front at k l n h)

-- the place behind a field of bits
bit_place : (l : List ℕ) (at w v n : ℕ) → bit_field l at w ≡ Ok (v, n) → n ≡ at + w
unfolding bit_field read_bits
bit_place l at w v n e = by (leb w 64 && leb (at + w) (length l)) e
  where
    by : (t : Bool) → field_of at (cond {A = Option (ℕ × ℕ)} t (Some (num_of (take w (drop at l)), at + w)) None) ≡ Ok (v, n) → n ≡ at + w
    by true k = sym (ok_place k)
    by false k = never (cc)

-- a field that was read, and what follows it
on_front : {B : Type 0} (f : Reading ℕ) (j k : ℕ → ℕ → Reading B) → ((v n : ℕ) → f ≡ Ok (v, n) → j v n ≡ k v n) → then f j ≡ then f k
on_front (Ok (v, n)) j k h = h v n refl
on_front (Err r) j k h = refl

then_read : (f : Reading ℕ) (k : ℕ → ℕ → Reading ℕ) (v n : ℕ) (A : Type 0) → ((x m : ℕ) → f ≡ Ok (x, m) → k x m ≡ Ok (v, n) → A)
    → then f k ≡ Ok (v, n) → A
then_read (Ok (x, m)) k v n A g e = g x m refl e
then_read (Err r) k v n A g e = never (cc)

cond_value : (t : Bool) (x m v n at : ℕ) (r : Refusal) → cond {A = Reading ℕ} t (Ok (x, m)) (Err r) ≡ Ok (v, n) → n ≡ m
cond_value true x m v n at r e = sym (ok_place e)
cond_value false x m v n at r e = never (cc)

ext_place : (l : List ℕ) (at v n : ℕ) → extension_bit l at ≡ Ok (v, n) → n ≡ at + 1
unfolding extension_bit
ext_place l at v n e =
    then_read (bit_field l at 1) _ v n (n ≡ at + 1) (λ (x m : ℕ) (g : bit_field l at 1 ≡ Ok (x, m))
    (k : cond (eqb x 0) (Ok (0, m)) (refused_at at Extension) ≡ Ok (v, n)). cond_value (eqb x 0) 0 m v n at _ k
    ∙ bit_place l at 1 x m g) e

whole_place : (l : List ℕ) (at hi v n : ℕ) → whole_number l at 0 hi ≡ Ok (v, n) → n ≡ at + width_of (hi - 0)
unfolding whole_number
whole_place l at hi v n e =
    then_read (bit_field l at (width_of (hi - 0))) _ v n (n ≡ at + width_of (hi - 0)) (λ (x m : ℕ)
    (g : bit_field l at (width_of (hi - 0)) ≡ Ok (x, m))
    (k : cond (leb (0 + x) hi) (Ok (0 + x, m)) (refused_at at Range) ≡ Ok (v, n)). cond_value (leb (0 + x) hi)
    (0 + x) m v n at _ k ∙ bit_place l at (width_of (hi - 0)) x m g) e

index_place : (l : List ℕ) (at last v n : ℕ) → extensible_index l at last ≡ Ok (v, n) → n ≡ at + 1 + width_of (last - 0)
unfolding extensible_index
index_place l at last v n e =
    then_read (extension_bit l at) _ v n (n ≡ at + 1 + width_of (last - 0)) (λ (x m : ℕ)
    (g : extension_bit l at ≡ Ok (x, m)) (k : whole_number l m 0 last ≡ Ok (v, n)). whole_place l m last v n k ∙
    ap (λ (p : ℕ). p + width_of (last - 0)) (ext_place l at x m g)) e

front_ext : (k : ℕ) (l : List ℕ) (at : ℕ) → at + 1 ≤ k → extension_bit (take k l) at ≡ extension_bit l at
unfolding extension_bit
front_ext k l at h = rw (front_bits k l at 1 h)

front_whole : (k : ℕ) (l : List ℕ) (at hi : ℕ) → at + width_of (hi - 0) ≤ k → whole_number (take k l) at 0 hi ≡ whole_number l at 0 hi
unfolding whole_number
front_whole k l at hi h = rw (front_bits k l at (width_of (hi - 0)) h)

front_index : (k : ℕ) (l : List ℕ) (at last : ℕ) → at + 1 + width_of (last - 0) ≤ k
    → extensible_index (take k l) at last ≡ extensible_index l at last
unfolding extensible_index
front_index k l at last h =
    rw (front_ext k l at (omega arith)) (on_front (extension_bit l at)
    (λ (b next : ℕ). whole_number (take k l) next 0 last) (λ (b next : ℕ). whole_number l next 0 last) (λ
    (v n : ℕ) (e : extension_bit l at ≡ Ok (v, n)). front_whole k l n last
    (omega (arith, ext_place l at v n e))))

front_value : (k : ℕ) (l : List ℕ) (at : ℕ) → at + 1 ≤ k → mode_value (take k l) at ≡ mode_value l at
unfolding mode_value digits_in
front_value k l at h = rw (front_whole k l at mode_last h)

-- the mode of startdown: two bits behind the index
front_down : (l : List ℕ) (at : ℕ) → at ≡ 3 → mode_at AircraftPdus (take most l) at ≡ mode_at AircraftPdus l at
unfolding mode_at
front_down l at h =
    rw (front_bits most l at 1 (omega arith)) (on_front (bit_field l at 1)
    (λ (p next : ℕ). cond (eqb p 0) (Ok (0, next)) (mode_value (take most l) next))
    (λ (p next : ℕ). cond (eqb p 0) (Ok (0, next)) (mode_value l next)) (λ (v n : ℕ)
    (e : bit_field l at 1 ≡ Ok (v, n)). rw (front_value most l n (omega (arith, bit_place l at 1 v n e)))))

-- startup has none
front_up : (l : List ℕ) (at : ℕ) → mode_at GroundPdus (take most l) at ≡ mode_at GroundPdus l at
unfolding mode_at
front_up l at = refl

front_kind : (pdus : PduType) (k : ℕ) (l : List ℕ) (c : Kind) (at : ℕ) → mode_at pdus (take k l) at ≡ mode_at pdus l at
    → kind_mode pdus (take k l) c at ≡ kind_mode pdus l c at
unfolding kind_mode
front_kind pdus k l kind.AbortUser at e = refl
front_kind pdus k l kind.AbortProvider at e = refl
front_kind pdus k l kind.Start at e = e
front_kind pdus k l kind.Send at e = refl
front_kind pdus k l kind.Forward at e = refl
front_kind pdus k l kind.ForwardResponse at e = refl

pub quick_front : (pdus : PduType) (l : List ℕ) → leading_at pdus (take most l) 0 ≡ leading_at pdus l 0
unfolding leading_at digits_in
quick_front pdus l = both pdus
  where
    behind : (p : PduType) (i n : ℕ) → extensible_index l 0 (last_of p) ≡ Ok (i, n)
        → kind_mode p (take most l) (kind_of i) n ≡ kind_mode p l (kind_of i) n
    behind AircraftPdus i n e = front_kind AircraftPdus most l (kind_of i) n (front_down l n (index_place l 0 3 i n e))
    behind GroundPdus i n e = front_kind GroundPdus most l (kind_of i) n (front_up l n)

    all : (p : PduType) → extensible_index (take most l) 0 (last_of p) ≡ extensible_index l 0 (last_of p)
        → then (extensible_index (take most l) 0 (last_of p)) (λ (i q : ℕ). led (kind_of i) (kind_mode p (take most l) (kind_of i) q)) ≡ then (extensible_index l 0 (last_of p)) (λ (i q : ℕ). led (kind_of i) (kind_mode p l (kind_of i) q))
    all p e = rw e (on_front (extensible_index l 0 (last_of p)) _ _ (λ (i n : ℕ)
        (g : extensible_index l 0 (last_of p) ≡ Ok (i, n)). ap (led (kind_of i)) (behind p i n g)))

    both : (p : PduType)
        → then (extensible_index (take most l) 0 (last_of p)) (λ (i q : ℕ). led (kind_of i) (kind_mode p (take most l) (kind_of i) q)) ≡ then (extensible_index l 0 (last_of p)) (λ (i q : ℕ). led (kind_of i) (kind_mode p l (kind_of i) q))
    both AircraftPdus = all AircraftPdus (front_index most l 0 3 (lit≤ tt))
    both GroundPdus = all GroundPdus (front_index most l 0 5 (lit≤ tt))
