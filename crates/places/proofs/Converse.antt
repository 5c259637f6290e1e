-- What is read with the extension bit 1 is an APDU as a later edition writes it: 1 to 64 additions, of which one is there, all of whole octets, behind the root
-- of the value, and the padding behind them.
-- Assumes nothing.
use mathlib.Core.Path.{◌≡◌, refl, ap, sym, subst, ◌∙◌}
use mathlib.Core.Bool.{Bool, true, false, cond, ◌&&◌}
use mathlib.Core.List.{List, [], ◌∷◌, ◌++◌, append_assoc}
use Prim.Native.Nat.{ℕ, zero, suc, ◌+◌, ◌-◌, ◌*◌, ◌/◌, ◌%◌, ◌^◌, ◌≤◌, ◌<◌}
use native.Mathlib.Omega.{arith}
use borrow.Author.Tests.{lt-ltb, ltb-true, eqb-true, eqb-false, eq-eqb}
use native.Mathlib.Nat.{mod-eq_of_lt}
use lib.Count.{ones_in, ones, ones_cat}
use lib.Dec.{leb, ltb, eqb}
use lib.ListN.{length, take, drop, get_or}
use Rattle.words.proofs.Laws.{both_left, both_right, ok_value, ok_place}
use Rattle.bits.specs.Bits.{bits_n, num_of, acc_of}
use Rattle.bits.proofs.Numbers.{Bits, length_bits_n, bits_bits_n, bits_n_split, bits_n_suc, num_bits_n, num_cons, num_lt}
use Rattle.fields.specs.Additions.{addition_count, additions_there, addition_at, stepped_over, additions_at}
use Rattle.fields.specs.Fields.{refused_at, then, bit_field, extension_bit}
use Rattle.fields.specs.Encodings.{length_fits, length_bits}
use Rattle.fields.specs.declared.Fault.TheVariants.{Extension}
use Rattle.fields.proofs.RoundTrip.{Stands, stands_split, stands_join, bit_field_is, extension_bit_is, length_determinant, items_read_written}
use Rattle.fields.proofs.RoundTrip as fields
use Rattle.fields.proofs.Editions.{Addition, absent, there, marks, contents, additions_bits, additions_fit, given}
use Rattle.apdu.specs.Pdus.{Content, content_in}
use Rattle.apdu.specs.Encoding.{root_bits, alternative, mode_bits, padded}
use Rattle.apdu.specs.Reading.{tail_at, apdu_at}
use Rattle.apdu.specs.Stripped.{root_end, extended}
use Rattle.pdus.specs.declared.PduType.{PduType}
use Rattle.apdu.specs.declared.Kind.TheVariants as kind
use Rattle.apdu.specs.declared.Data.{Data}
use Rattle.apdu.specs.declared.Apdu.TheVariants as apdu
use Rattle.apdu.proofs.Bounds.{never}
use Rattle.apdu.proofs.Contents.{stands_at, stands_none, DataIs, data_mark}
use Rattle.apdu.proofs.Apdus.{Led, ApduIs, apdu_read}
use Rattle.apdu.proofs.Theorems.{ended_whole}
use Rattle.places.specs.Later.{later_bits, later_start, later_send}
use Rattle.std.specs.Prelude.{Err, Ok}
use Rattle.fields.specs.Fields.{Reading}

-- ---- the additions that are there

value_place : (v n w m : ℕ) → ◌≡◌ {A = Reading ℕ} (Ok (v, n)) (Ok (w, m)) → n ≡ m
value_place v n w m e = ok_place e

stepped_zero : (l : List ℕ) (at : ℕ) → stepped_over l at 0 ≡ Ok (0, at)
unfolding stepped_over
stepped_zero l at = refl

record More (l : List ℕ) (at k v next : ℕ) : Type 0 where
  n : ℕ
  place : ℕ
  first : addition_at l at ≡ Ok (n, place)
  rest : stepped_over l place k ≡ Ok (v, next)

stepped_more : (l : List ℕ) (at k v next : ℕ) → stepped_over l at (suc k) ≡ Ok (v, next) → More l at k v next
unfolding stepped_over
stepped_more l at k v next e = by (addition_at l at) refl e
  where
    by : (f : Reading ℕ) → addition_at l at ≡ f → then f (λ (n p : ℕ). stepped_over l p k) ≡ Ok (v, next) → More l at k v next
    by (Ok (n, p)) q u = record { n = n; place = p; first = q; rest = u }
    by (Err r) q u = never (cc)

ones_none : ones 0 ≡ 0
unfolding ones ones_in
ones_none = refl

ones_one : ones 1 ≡ 1
unfolding ones ones_in
ones_one = refl

ones_cons : (b : ℕ) (l : List ℕ) → Bits l → ones (num_of (b ∷ l)) ≡ ones b + ones (num_of l)
ones_cons b l h = ap ones (num_cons b l) ∙ ones_cat (length l) b (num_of l) (num_lt l h)

-- what was stepped over, for marks ms
record Over (l ms : List ℕ) (at next : ℕ) : Type 0 where
  additions : List Addition
  marked : marks additions ≡ ms
  fits : additions_fit additions ≡ true
  stands : Stands l at (contents additions) next
  count : given additions ≡ ones (num_of ms)

record One (l : List ℕ) (at next : ℕ) : Type 0 where
  octets : List ℕ
  whole : eqb (8 * (length octets / 8)) (length octets) ≡ true
  few : length_fits (length octets / 8) ≡ true
  stands : Stands l at (length_bits (length octets / 8) ++ octets) next

one_read : (l : List ℕ) (at n next : ℕ) → Bits l → addition_at l at ≡ Ok (n, next) → One l at next
unfolding addition_at
one_read l at n next b e =
    let i = items_read_written length_determinant 8 l at n next b e in
    let o : List ℕ = take (8 * n) (drop (at + length (length_bits n)) l) in
    let s = i.stands in
    let t = stands_split l at next (length_bits n) (take (8 * n) (drop (at + length (length_bits n)) l)) s in
    let p = t.second.place in
    let k : length (take (8 * n) (drop (at + length (length_bits n)) l)) ≡ 8 * n = omega (arith, i.from) in
    let d : length (take (8 * n) (drop (at + length (length_bits n)) l)) / 8 ≡ n = omega arith in
    record {
      octets = take (8 * n) (drop (at + length (length_bits n)) l);
      whole = eq-eqb (8 * (length (take (8 * n) (drop (at + length (length_bits n)) l)) / 8))
          (length (take (8 * n) (drop (at + length (length_bits n)) l))) (omega arith);
      few = rw d i.count;
      stands = rw d s;
    }

bits_tail : (x : ℕ) (l : List ℕ) → Bits (x ∷ l) → Bits l
bits_tail x l b k = b (suc k)

there_over : (l ms : List ℕ) (at p next : ℕ) → ones (num_of (1 ∷ ms)) ≡ suc (ones (num_of ms)) → One l at p
    → Over l ms p next → Over l (1 ∷ ms) at next
unfolding marks contents additions_fit given
there_over l ms at p next k a o =
    record {
      additions = there a.octets ∷ o.additions;
      marked = ap (λ (x : List ℕ). 1 ∷ x) o.marked;
      fits = rw (a.whole, a.few) o.fits;
      stands = stands_join l at p next (length_bits (length a.octets / 8) ++ a.octets) (contents o.additions) a.stands o.stands;
      count = ap suc o.count ∙ sym k;
    }

over_read : (l ms : List ℕ) → Bits l → Bits ms → (at v next : ℕ) → at ≤ length l
    → stepped_over l at (ones (num_of ms)) ≡ Ok (v, next) → Over l ms at next
unfolding marks contents additions_fit given acc_of
over_read l [] b c at v next h e =
    let p : at ≡ next = place (stepped_over_none at) in
    record { additions = []; marked = refl; fits = refl; stands = stands_at l at at next [] p (stands_none l at h); count = sym ones_none }
  where
    stepped_over_none : (at : ℕ) → stepped_over l at (ones (num_of [])) ≡ Ok (0, at)
    stepped_over_none at = ap (stepped_over l at) ones_none ∙ stepped_zero l at

    place : stepped_over l at (ones (num_of [])) ≡ Ok (0, at) → at ≡ next
    place q = value_place 0 at v next (sym q ∙ e)
over_read l (zero ∷ ms) b c at v next h e =
    let d = bits_tail zero ms c in
    let k : ones (num_of (zero ∷ ms)) ≡ ones (num_of ms) = ones_cons 0 ms d ∙ rw ones_none (omega arith) in
    let o = over_read l ms b d at v next h (rw k at e) in
    record { additions = absent ∷ o.additions; marked = ap (λ (x : List ℕ). 0 ∷ x) o.marked; fits = o.fits; stands = o.stands; count = o.count ∙ sym k }
over_read l (suc zero ∷ ms) b c at v next h e =
    let d = bits_tail 1 ms c in
    let k : ones (num_of (1 ∷ ms)) ≡ suc (ones (num_of ms)) = ones_cons 1 ms d ∙ rw ones_one (omega arith) in
    let m = stepped_more l at (ones (num_of ms)) v next (rw k at e) in
    let a = one_read l at m.n m.place b m.first in
    let w = a.stands.within in
    let z = a.stands.place in
    there_over l ms at m.place next k a (over_read l ms b d m.place v next (omega arith) m.rest)
over_read l (suc (suc x) ∷ ms) b c at v next h e = let z = c 0 in absurd (omega arith)

-- ---- all of them: the count, which are there, and those

pub record Added (l : List ℕ) (at next : ℕ) : Type 0 where
  pub additions : List Addition
  pub few : length additions ≤ 64
  pub some : 0 < given additions
  pub fits : additions_fit additions ≡ true
  pub stands : Stands l at (additions_bits additions) next

length_marks : (xs : List Addition) → length (marks xs) ≡ length xs
unfolding marks
length_marks [] = refl
length_marks (absent ∷ xs) = ap suc (length_marks xs)
length_marks (there o ∷ xs) = ap suc (length_marks xs)

record Counted (l : List ℕ) (at n p : ℕ) : Type 0 where
  low : n ≤ 64
  pos : 0 < n
  stands : Stands l at (bits_n 1 0 ++ bits_n 6 (n - 1)) p

count_is : (l : List ℕ) (at n p : ℕ) → Bits l → addition_count l at ≡ Ok (n, p) → Counted l at n p
unfolding addition_count
count_is l at n p b e = first (extension_bit l at) refl e
  where
    made : (z q v : ℕ) → extension_bit l at ≡ Ok (z, q) → bit_field l at 7 ≡ Ok (v, p) → n ≡ v + 1 → Counted l at n p
    made z q v f g k =
        let s = (bit_field_is 7).read_written l at v p b g in
        let t : v < 2 ^ 7 = ltb-true v (2 ^ 7) (both_right (leb 7 64) (ltb v (2 ^ 7)) ((bit_field_is 7).read_fits l at v p b g)) in
        let x = extension_bit_is.read_written l at z q b f in
        let w = stands_split l at p (bits_n 1 (v / 2 ^ 6)) (bits_n 6 v) (subst (λ (y : List ℕ). Stands l at y p) (bits_n_split 1 6 v) s) in
        let u : bits_n 1 (v / 2 ^ 6) ≡ bits_n 1 0 = alike (v / 2 ^ 6) 0 w.first.holds x.holds in
        let o : v / 2 ^ 6 % 2 ^ 1 ≡ 0 % 2 ^ 1 = sym (num_bits_n 1 (v / 2 ^ 6)) ∙ (ap num_of u ∙ num_bits_n 1 0) in
        let h : v < 64 = omega arith in
        let j : v / 2 ^ 6 ≡ 0 = omega arith in
        let d : n - 1 ≡ v = omega arith in
        record { low = omega arith; pos = omega arith; stands = rw d (subst (λ (y : ℕ). Stands l at (bits_n 1 y ++ bits_n 6 v) p) j (subst (λ (y : List ℕ). Stands l at y p) (bits_n_split 1 6 v) s)) }
      where
        alike : (a c : ℕ) → take (length (bits_n 1 a)) (drop at l) ≡ bits_n 1 a
            → take (length (bits_n 1 c)) (drop at l) ≡ bits_n 1 c → bits_n 1 a ≡ bits_n 1 c
        alike a c h g = sym h ∙ (ap (λ (k : ℕ). take k (drop at l)) (length_bits_n 1 a ∙ sym (length_bits_n 1 c)) ∙ g)

    second : (z q : ℕ) → extension_bit l at ≡ Ok (z, q) → (f : Reading ℕ) → bit_field l at 7 ≡ f
        → then {A = ℕ} {B = ℕ × ℕ} f (λ (v next : ℕ). Ok (v + 1, next)) ≡ Ok (n, p) → Counted l at n p
    second z q x (Ok (v, m)) f k =
        let y : v + 1 ≡ n = ok_value k in
        let w : m ≡ p = ok_place k in
        made z q v x (f ∙ ap (λ (place : ℕ). Ok (v, place)) w) (sym y)
    second z q x (Err r) f k = never (cc)

    first : (f : Reading ℕ) → extension_bit l at ≡ f
        → then {A = ℕ} {B = ℕ × ℕ} f (λ (b p : ℕ). then (bit_field l at 7) (λ (v next : ℕ). Ok (v + 1, next))) ≡ Ok (n, p)
        → Counted l at n p
    first (Ok (z, q)) f k = second z q f (bit_field l at 7) refl k
    first (Err r) f k = never (cc)

record SomeAre (l : List ℕ) (at n v next : ℕ) : Type 0 where
  stands : Stands l at (bits_n n v) next
  low : v < 2 ^ n
  pos : 0 < v

there_is : (l : List ℕ) (at n v next : ℕ) → Bits l → additions_there l at n ≡ Ok (v, next) → SomeAre l at n v next
unfolding additions_there
there_is l at n v next b e = first (bit_field l at n) refl e
  where
    made : (w q : ℕ) → bit_field l at n ≡ Ok (w, q) → (t : Bool) → eqb w 0 ≡ t
        → cond {A = Reading ℕ} t (refused_at at Extension) (Ok (w, q)) ≡ Ok (v, next) → SomeAre l at n v next
    made w q f true z k = never (cc)
    made w q f false z k =
        let x : w ≡ v = ok_value k in
        let y : q ≡ next = ok_place k in
        let g : bit_field l at n ≡ Ok (v, next) = f ∙ (ap (λ (a : ℕ). Ok (a, q)) x ∙ ap (λ (place : ℕ). Ok (v, place)) y) in
        let h = eqb-false w 0 z in
        record { stands = (bit_field_is n).read_written l at v next b g; low = ltb-true v (2 ^ n) (both_right (leb n 64) (ltb v (2 ^ n)) ((bit_field_is n).read_fits l at v next b g)); pos = omega arith }

    first : (f : Reading ℕ) → bit_field l at n ≡ f
        → then {A = ℕ} {B = ℕ × ℕ} f (λ (w q : ℕ). cond (eqb w 0) (refused_at at Extension) (Ok (w, q))) ≡ Ok (v, next) → SomeAre l at n v next
    first (Ok (w, q)) f k = made w q f (eqb w 0) refl k
    first (Err r) f k = never (cc)

-- where none is given the marks say 0
none_given : (xs : List Addition) → given xs ≡ 0 → num_of (marks xs) ≡ 0
unfolding marks given acc_of
none_given [] e = refl
none_given (absent ∷ xs) e = num_cons 0 (marks xs) ∙ rw (none_given xs e) (omega arith)
none_given (there o ∷ xs) e = absurd (omega arith)

positive : (n : ℕ) → (n ≡ 0 → ⊥) → 0 < n
positive zero h = absurd (h refl)
positive (suc n) h = omega arith

laid : {l : List ℕ} {at next : ℕ} (xs : List Addition) → Stands l at (bits_n 1 0 ++ (bits_n 6 (length xs - 1) ++ (marks xs ++ contents xs))) next → Stands l at (additions_bits xs) next
unfolding additions_bits
laid xs s = s

pub additions_are : (l : List ℕ) (at w next : ℕ) → Bits l → additions_at l at ≡ Ok (w, next) → Added l at next
unfolding additions_at
additions_are l at w next b e = first (addition_count l at) refl e
  where
    unfolded : (xs : List Addition) (n : ℕ) → length xs ≡ n
        → Stands l at ((bits_n 1 0 ++ bits_n 6 (n - 1)) ++ (marks xs ++ contents xs)) next
        → Stands l at (bits_n 1 0 ++ (bits_n 6 (length xs - 1) ++ (marks xs ++ contents xs))) next
    unfolded xs n k s = rw k (subst (λ (x : List ℕ). Stands l at x next)
        (append_assoc (bits_n 1 0) (bits_n 6 (n - 1)) (marks xs ++ contents xs)) s)

    made : (n p v q : ℕ) → Counted l at n p → SomeAre l p n v q → Over l (bits_n n v) q next → num_of (bits_n n v) ≡ v → Added l at next
    made n p v q c t o z =
        let k : length o.additions ≡ n = sym (length_marks o.additions) ∙ (ap length o.marked ∙ length_bits_n n v) in
        let s : Stands l p (marks o.additions) q = subst (λ (x : List ℕ). Stands l p x q) (sym o.marked) t.stands in
        let g : (given o.additions ≡ 0) → ⊥ = λ (y : given o.additions ≡ 0). let x : v ≡ 0 = sym z ∙
        (ap num_of (sym o.marked) ∙ none_given o.additions y) in let u = t.pos in omega arith in
        let low = c.low in
        record {
          additions = o.additions;
          few = omega arith;
          some = positive (given o.additions) g;
          fits = o.fits;
          stands = laid o.additions (unfolded o.additions n k
              (stands_join l at p next _ _ c.stands (stands_join l p q next _ _ s o.stands)));
        }

    third : (n p v q : ℕ) → addition_count l at ≡ Ok (n, p) → additions_there l p n ≡ Ok (v, q)
        → stepped_over l q (ones v) ≡ Ok (w, next) → Added l at next
    third n p v q f g k =
        let c = count_is l at n p b f in
        let t = there_is l p n v q b g in
        let z : num_of (bits_n n v) ≡ v = num_bits_n n v ∙ mod-eq_of_lt t.low in
        let h = t.stands.within in
        let j = t.stands.place in
        made n p v q c t (over_read l (bits_n n v) b (bits_bits_n n v) q w next (omega arith) (rw z k)) z

    second : (n p : ℕ) → addition_count l at ≡ Ok (n, p) → (f : Reading ℕ) → additions_there l p n ≡ f
        → then f (λ (v q : ℕ). stepped_over l q (ones v)) ≡ Ok (w, next) → Added l at next
    second n p c (Ok (v, q)) f k = third n p v q c f k
    second n p c (Err r) f k = never (cc)

    first : (f : Reading ℕ) → addition_count l at ≡ f
        → then f (λ (n p : ℕ). then (additions_there l p n) (λ (v q : ℕ). stepped_over l q (ones v))) ≡ Ok (w, next)
        → Added l at next
    first (Ok (n, p)) f k = second n p f (additions_there l p n) refl k
    first (Err r) f k = never (cc)

-- ---- an APDU that is read with the extension bit 1

-- bits that are, for some additions, what is said of their bits
pub record WithAdditions (P : List ℕ → Type 0) : Type 0 where
  pub additions : List Addition
  pub few : length additions ≤ 64
  pub some : 0 < given additions
  pub fits : additions_fit additions ≡ true
  pub so : P (additions_bits additions)

module _ (l bs : List ℕ) (next : ℕ) (d : Data) (b : Bits l) (i : Led l 0 next d bs) (x : eqb (get_or l (length bs) 0) 1 ≡ true) where
  marked_one : i.held.mark ≡ 1
  marked_one =
      let p : i.place ≡ length bs = omega (arith, i.lead.place) in
      sym (data_mark l i.place next d i.held) ∙ (ap (λ (k : ℕ). get_or l k 0) p ∙ eqb-true (get_or l (length bs) 0) 1 x)

  behind_root : Added l (root_end d) next
  behind_root = additions_are l (root_end d) i.held.added next b (rw marked_one at i.held.behind)

  led_later : WithAdditions (λ (ys : List ℕ). Stands l 0 (bs ++ later_bits (content_in l l l d) ys) next)
  led_later =
      let a = behind_root in
      let e : Stands l i.place (bits_n 1 1) (i.place + 1) = subst
      (λ (m : ℕ). Stands l i.place (bits_n 1 m) (i.place + 1)) marked_one i.held.extension in
      record {
        additions = a.additions;
        few = a.few;
        some = a.some;
        fits = a.fits;
        so = stands_join l 0 i.place next bs _ i.lead (stands_join l i.place (i.place + 1) next (bits_n 1 1) _
            e (stands_join l (i.place + 1) (root_end d) next (root_bits (content_in l l l d)) _ i.held.root
            a.stands));
      }

pub accepted_later_start : (pdus : PduType) (l : List ℕ) (m : ℕ) (d : Data) → Bits l
    → apdu_at pdus l 0 ≡ Ok (apdu.Start m d) → extended pdus l (apdu.Start m d) ≡ true
    → WithAdditions (λ (ys : List ℕ). l ≡ padded (later_start pdus m (content_in l l l d) ys))
unfolding extended
accepted_later_start pdus l m d b e x =
    let i = apdu_read pdus l 0 (apdu.Start m d) b e in
    let w = led_later l _ i.place d b i.stands x in
    let s = subst (λ (y : List ℕ). Stands l 0 y i.place) (append_assoc (alternative pdus kind.Start)
    (mode_bits pdus m) (later_bits (content_in l l l d) (additions_bits w.additions))) w.so in
    record { additions = w.additions; few = w.few; some = w.some; fits = w.fits; so = ended_whole l _ i.place i.left i.end b s i.tail }

pub accepted_later_send : (pdus : PduType) (l : List ℕ) (d : Data) → Bits l → apdu_at pdus l 0 ≡ Ok (apdu.Send d)
    → extended pdus l (apdu.Send d) ≡ true
    → WithAdditions (λ (ys : List ℕ). l ≡ padded (later_send pdus (content_in l l l d) ys))
unfolding extended
accepted_later_send pdus l d b e x =
    let i = apdu_read pdus l 0 (apdu.Send d) b e in
    let w = led_later l _ i.place d b i.stands x in
    record { additions = w.additions; few = w.few; some = w.some; fits = w.fits; so = ended_whole l _ i.place i.left i.end b w.so i.tail }
